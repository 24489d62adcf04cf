use Rattle.std.proofs.Common.{subst, Option, Ok}
use Rattle.gem_object.specs.declared.value.Value.{Value}
use Rattle.gem_language.specs.OutOfScope.{find_global, global_value}
use Rattle.prim_parts.specs.Does.{Does}
use Rattle.prim_parts.proofs.Does.{does_then, does_give, does_compute}
use Rattle.prim_parts.proofs.Onward.{does_stops}
use Rattle.st_outside.proofs.globals.global_value.Goals as goal

pub returns-in_err-found : goal.returns-in_err-found
unfolding global_value
returns-in_err-found g c = does_stops c.in_err-found.ensures c.from_residual.ensures.1

pub returns-in-Some : goal.returns-in-Some
unfolding global_value
returns-in-Some g c =
    let At : Option Value → Type 0 = λ found. Does (find_global c.args.name.now) (g.O.Objects.seen c.args.objects.now)
    (Ok found) (g.O.Objects.seen c.find_global.new.objects) in
    does_then (subst At c.in-Some.is c.in_ok-found.ensures)
    (does_give c.in-Some.value (g.O.Objects.seen c.find_global.new.objects))

pub returns-in-None : goal.returns-in-None
unfolding global_value
returns-in-None g c =
    let At : Option Value → Type 0 = λ found. Does (find_global c.args.name.now) (g.O.Objects.seen c.args.objects.now)
    (Ok found) (g.O.Objects.seen c.find_global.new.objects) in
    does_then (subst At c.in-None.is c.in_ok-found.ensures)
    (does_compute (g.O.Objects.seen c.find_global.new.objects) c.undefined.ensures)

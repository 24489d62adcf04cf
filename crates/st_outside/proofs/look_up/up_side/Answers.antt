use Rattle.std.proofs.Common.{subst, Option, None, Some, Ok}
use Rattle.object_programs.specs.Run.{give}
use Rattle.gem_language.specs.LookUp.{up_classes, past_last}
use Rattle.gem_language.specs.declared.found.Found.{Found}
use Rattle.prim_parts.specs.Does.{Does}
use Rattle.prim_parts.proofs.Does.{does_then, does_give}
use Rattle.prim_parts.proofs.Onward.{does_stops}
use Rattle.st_outside.proofs.Ups.{goes_past}
use Rattle.st_outside.proofs.look_up.up_side.Goals as goal

pub returns-in_err-found : goal.returns-in_err-found
returns-in_err-found g c =
    goes_past c.args.class_side c.args.selector.now (past_last c.args.class_side c.args.selector.now) c.args.class
    (does_stops c.in_err-found.ensures c.from_residual.ensures.1)

pub returns-in-Some : goal.returns-in-Some
returns-in-Some g c =
    let At : Option Found → Type 0 = λ found. Does (up_classes c.args.class_side c.args.selector.now (give None) c.args.class)
    (g.O.Objects.seen c.args.objects.now) (Ok found) (g.O.Objects.seen c.up_classes.new.objects) in
    goes_past c.args.class_side c.args.selector.now (past_last c.args.class_side c.args.selector.now) c.args.class
    (does_then (subst At c.in-Some.is c.in_ok-found.ensures)
    (does_give (Some c.in-Some.found) (g.O.Objects.seen c.up_classes.new.objects)))

pub returns-in-None : goal.returns-in-None
returns-in-None g c =
    let At : Option Found → Type 0 = λ found. Does (up_classes c.args.class_side c.args.selector.now (give None) c.args.class)
    (g.O.Objects.seen c.args.objects.now) (Ok found) (g.O.Objects.seen c.up_classes.new.objects) in
    goes_past c.args.class_side c.args.selector.now (past_last c.args.class_side c.args.selector.now) c.args.class
    (does_then (subst At c.in-None.is c.in_ok-found.ensures) c.past_last.ensures)

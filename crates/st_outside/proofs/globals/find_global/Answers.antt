use Rattle.std.proofs.Common.{subst, ap, ℕ, Option}
use Rattle.gem_object.specs.declared.value.Value.TheVariants.{Sym}
use Rattle.object_programs.specs.Run.{and_then}
use Rattle.gem_language.specs.OutOfScope.{own_global, or_in_globals, find_global}
use Rattle.prim_parts.specs.Does.{Does}
use Rattle.prim_parts.proofs.Does.{does_then, does_atom}
use Rattle.st_outside.proofs.Steps.{does_no_memory}
use Rattle.prim_parts.proofs.Onward.{does_stops}
use Rattle.st_outside.proofs.globals.find_global.Goals as goal

pub returns-in_err-own : goal.returns-in_err-own
unfolding find_global
returns-in_err-own g c = does_stops (does_atom c.in_err-own.ensures) c.from_residual.ensures.1

pub returns-in_err-clone : goal.returns-in_err-clone
unfolding find_global
returns-in_err-clone g c =
    does_then (does_atom c.in_ok-own.ensures) (does_no_memory c.from_residual-in_err-clone.ensures.1)

pub returns-in_err-found : goal.returns-in_err-found
unfolding find_global
returns-in_err-found g c =
    let At : Option ℕ → Type 0 = λ own. Does (and_then (own_global c.args.name.now own) (or_in_globals c.args.name.now))
    (g.O.Objects.seen c.own.new.self) c.from_residual-in_err-found.result (g.O.Objects.seen c.own_global.new.objects) in
    does_then (does_atom c.in_ok-own.ensures) (subst At c.own_globals-own.ensures
    (does_stops (c.in_err-found.ensures c.args.name.now (ap Sym c.in_ok-clone.ensures.cases))
    c.from_residual-in_err-found.ensures.1))

pub returns : goal.returns
unfolding find_global
returns g c =
    let At : Option ℕ → Type 0 = λ own. Does (and_then (own_global c.args.name.now own) (or_in_globals c.args.name.now))
    (g.O.Objects.seen c.own.new.self) c.or_in_globals.result (g.O.Objects.seen c.or_in_globals.new.objects) in
    does_then (does_atom c.in_ok-own.ensures) (subst At c.own_globals-own.ensures
    (does_then (c.in_ok-found.ensures c.args.name.now (ap Sym c.in_ok-clone.ensures.cases))
    (c.or_in_globals.ensures c.args.name.now (ap Sym c.in_ok-clone.ensures.cases))))

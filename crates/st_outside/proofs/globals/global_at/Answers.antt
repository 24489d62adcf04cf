use Rattle.std.proofs.Common.{◌∙◌, ap}
use Rattle.gem_object.specs.Edits.{value_at}
use Rattle.gem_object.specs.declared.value.Value.{Value}
use Rattle.prim_parts.proofs.Does.{does_atom, does_reached}
use Rattle.st_outside.proofs.Steps.{does_given, does_no_memory}
use Rattle.prim_parts.proofs.Onward.{does_stops}
use Rattle.st_outside.proofs.globals.global_at.Goals as goal

pub returns-in_err-read : goal.returns-in_err-read
returns-in_err-read g c = λ name is. does_stops (does_atom c.in_err-read.ensures) c.from_residual.ensures.1

pub returns-in_err-found : goal.returns-in_err-found
returns-in_err-found g c = λ name is. does_reached c.in_ok-read.ensures c.in-Some.ensures
    (does_no_memory c.from_residual-in_err-found.ensures.1)

pub returns : goal.returns
returns g c = λ name is. does_reached c.in_ok-read.ensures c.in-Some.ensures
    (does_given (c.in_ok-found.ensures ∙ ap (λ (key : Value). value_at key c.in-Some.object.now.body) is))

use Rattle.running_objects.specs.declared.stop.Stop.TheVariants as stop
use Rattle.gem_object.specs.texts.Bytes.{Bytes as Text}
use Rattle.prim_rules.specs.Classes.{new_class}
use Rattle.prim_classes.proofs.ClassMade.{gives_wanted}
use Rattle.std.proofs.Common.{ap, ◌∙◌}
use Rattle.prim_parts.proofs.Does.{does_then, does_exit}
use Rattle.prim_classes.proofs.Steps.{does_no_memory}
use Rattle.prim_classes.proofs.ClassFacts.{exit_with}
use Rattle.prim_classes.proofs.classes.wanted_part.Goals as goal

pub names_to_add-requires : goal.names_to_add-requires
names_to_add-requires g c = c.in_ok-kind.ensures.there

pub returns-in_err-kind-clause-does : goal.returns-in_err-kind-clause-does
returns-in_err-kind-clause-does g c = λ dictionary. does_exit _ (exit_with dictionary c.from_residual.result c.in_err-kind.field-0.0 c.from_residual.ensures.1) c.in_err-kind.ensures.does

pub returns-in_err-names-clause-does : goal.returns-in_err-names-clause-does
returns-in_err-names-clause-does g c = λ dictionary. does_then c.in_ok-kind.ensures.does (does_exit _ (exit_with dictionary c.from_residual-in_err-names.result c.in_err-names.field-0.0 c.from_residual-in_err-names.ensures.1) c.in_err-names.ensures)

pub returns-in_err-clone-clause-does : goal.returns-in_err-clone-clause-does
returns-in_err-clone-clause-does g c = λ dictionary. does_then c.in_ok-kind.ensures.does (does_then c.in_ok-names.ensures
    (does_no_memory (exit_with dictionary c.from_residual-in_err-clone.result stop.NoMemory c.from_residual-in_err-clone.ensures.1)))

pub returns-clause-does : goal.returns-clause-does
returns-clause-does g c = λ dictionary. does_then c.in_ok-kind.ensures.does (does_then c.in_ok-names.ensures (gives_wanted (c.new_class.ensures
    ∙ ap (λ (name : Text). new_class name c.args.superclass c.in_ok-kind.kind c.in_ok-names.names) c.in_ok-clone.ensures.cases)))

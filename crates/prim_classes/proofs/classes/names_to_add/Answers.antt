use Rattle.gem_object.specs.texts.Bytes.{Bytes as Text}
use Rattle.prim_rules.specs.Classes.{symbols_in, may_add_names}
use Rattle.object_programs.specs.declared.fault.Fault.TheVariants as fault
use Rattle.std.proofs.Common.{List, sym, ap, ◌∙◌}
use Rattle.prim_parts.proofs.Does.{does_then, does_exit, does_give, computes_then}
use Rattle.prim_classes.proofs.Steps.{does_no_memory}
use Rattle.prim_parts.proofs.Onward.{computes_stops}
use Rattle.prim_classes.proofs.Stays.{still_there}
use Rattle.prim_classes.proofs.ClassFacts.{need_then, need_fails, check_same}
use Rattle.prim_classes.proofs.classes.names_to_add.Goals as goal

pub all_names-requires : goal.all_names-requires
all_names-requires g c = still_there c.args.superclass c.sound.ensures c.in_ok-elements.ensures c.requires

pub returns-in_err-elements : goal.returns-in_err-elements
returns-in_err-elements g c = does_exit _ c.from_residual.ensures.1 c.in_err-elements.ensures

pub returns-in_default : goal.returns-in_default
returns-in_default g c = does_then c.in_ok-elements.ensures (need_fails (sym c.in_default.is ∙ c.in_ok-names.ensures ∙ ap symbols_in c.as_slice.ensures))

pub returns-in_err-inherited : goal.returns-in_err-inherited
returns-in_err-inherited g c = does_then c.in_ok-elements.ensures (need_then fault.ArgumentKind c.in-Some.names (sym c.in-Some.is ∙ c.in_ok-names.ensures ∙ ap symbols_in c.as_slice.ensures)
    (does_no_memory c.from_residual-in_err-inherited.ensures.1))

pub returns-in_err-check : goal.returns-in_err-check
returns-in_err-check g c = does_then c.in_ok-elements.ensures (need_then fault.ArgumentKind c.in-Some.names (sym c.in-Some.is ∙ c.in_ok-names.ensures ∙ ap symbols_in c.as_slice.ensures)
    (does_then c.in_ok-inherited.ensures (computes_stops (check_same fault.ArgumentKind (c.may_add_names-may.ensures
    ∙ ap (λ (these : List Text). may_add_names c.args.kind these c.as_slice-3.result.now) c.as_slice-2.ensures
    ∙ ap (λ (these : List Text). may_add_names c.args.kind c.in_ok-inherited.inherited these) c.as_slice-3.ensures) c.in_err-check.ensures)
    c.from_residual-in_err-check.ensures.1)))

pub returns : goal.returns
returns g c = does_then c.in_ok-elements.ensures (need_then fault.ArgumentKind c.in-Some.names (sym c.in-Some.is ∙ c.in_ok-names.ensures ∙ ap symbols_in c.as_slice.ensures)
    (does_then c.in_ok-inherited.ensures (computes_then (check_same fault.ArgumentKind (c.may_add_names-may.ensures
    ∙ ap (λ (these : List Text). may_add_names c.args.kind these c.as_slice-3.result.now) c.as_slice-2.ensures
    ∙ ap (λ (these : List Text). may_add_names c.args.kind c.in_ok-inherited.inherited these) c.as_slice-3.ensures) c.in_ok-check.ensures)
    (does_give _ _))))

use Rattle.prim_parts.proofs.Does.{does_then, does_exit, computes_then}
use Rattle.prim_parts.proofs.Onward.{computes_stops}
use Rattle.prim_classes.proofs.Moves.{kind_same}
use Rattle.prim_classes.proofs.ClassFacts.{exit_with}
use Rattle.prim_classes.proofs.classes.wanted_class.Goals as goal

pub returns-in_err-name-clause-does : goal.returns-in_err-name-clause-does
returns-in_err-name-clause-does g c = computes_stops c.in_err-name.ensures (exit_with c.args.dictionary.now c.from_residual.result c.in_err-name.field-0.0 c.from_residual.ensures.1)

pub returns-in_err-check_kind-clause-does : goal.returns-in_err-check_kind-clause-does
returns-in_err-check_kind-clause-does g c = computes_then c.in_ok-name.ensures (does_exit _ (exit_with c.args.dictionary.now c.from_residual-in_err-check_kind.result c.in_err-check_kind.field-0.0 c.from_residual-in_err-check_kind.ensures.1)
    (kind_same c.args.array.now c.kernel_name.ensures c.in_err-check_kind.ensures))

pub returns-in_err-check_kind-2-clause-does : goal.returns-in_err-check_kind-2-clause-does
returns-in_err-check_kind-2-clause-does g c = computes_then c.in_ok-name.ensures (does_then (kind_same c.args.array.now c.kernel_name.ensures c.in_ok-check_kind.ensures)
    (does_exit _ (exit_with c.args.dictionary.now c.from_residual-in_err-check_kind-2.result c.in_err-check_kind-2.field-0.0 c.from_residual-in_err-check_kind-2.ensures.1)
    (kind_same c.args.dictionary.now c.kernel_name-2.ensures c.in_err-check_kind-2.ensures)))

pub returns-clause-does : goal.returns-clause-does
returns-clause-does g c = computes_then c.in_ok-name.ensures (does_then (kind_same c.args.array.now c.kernel_name.ensures c.in_ok-check_kind.ensures)
    (does_then (kind_same c.args.dictionary.now c.kernel_name-2.ensures c.in_ok-check_kind-2.ensures)
    (c.wanted_part.ensures.does c.args.dictionary.now)))

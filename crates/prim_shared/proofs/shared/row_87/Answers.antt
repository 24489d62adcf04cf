use Rattle.prim_parts.proofs.Does.{does_then, does_stop, computes_then, computes_stop, does_compute}
use Rattle.prim_shared.proofs.Steps.{handed, held_there, over}
use Rattle.std.proofs.Common.{ℕ, pos, sym, ◌∙◌}
use Rattle.gem_object.specs.texts.SmallInteger.{is_small_integer}
use Rattle.gem_object.specs.rc_counter_bag.Bag.{count}
use Rattle.gem_object.specs.Order.{value_order}
use Rattle.gem_object.specs.declared.value.Value.TheVariants.{Int}
use Rattle.object_programs.specs.Programs.{check}
use Rattle.object_programs.specs.Run.{and_then}
use Rattle.object_programs.specs.declared.fault.Fault.TheVariants as fault
use Rattle.prim_rules.specs.Receivers.{answer, occurrences_in}
use Rattle.prim_shared.proofs.Tells.{said_is}
use Rattle.prim_shared.proofs.shared.row_87.Goals as goal

pub returns-in_err-name : goal.returns-in_err-name
returns-in_err-name g c = handed c.from_residual.result c.from_residual.ensures.1
    (does_stop c.in_err-name.ensures)

pub returns-in_err-item : goal.returns-in_err-item
returns-in_err-item g c = handed c.from_residual-in_err-item.result c.from_residual-in_err-item.ensures.1
    (does_then c.in_ok-name.ensures.does (computes_stop _ c.in_err-item.ensures))

pub returns : goal.returns
returns g c = does_then c.in_ok-name.ensures.does (computes_then c.in_ok-item.ensures (over (λ (number : ℕ). and_then (check fault.IntegerRange (is_small_integer (pos number))) (λ fits. answer (Int (pos number))))
    (sym (said_is (count value_order c.in_ok-item.item.now) (held_there occurrences_in c.in_ok-name.name (g.O.Objects.seen c.read_receiver.new.objects) c.in_ok-name.ensures.object c.in_ok-name.ensures.there ∙ c.in_ok-name.ensures.holds) c.in-Some.ensures)) (does_compute _ c.answer_number.ensures)))

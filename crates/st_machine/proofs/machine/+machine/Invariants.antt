use Rattle.std.proofs.Common.{◌≡◌, ◌+◌, ◌-◌, ◌*◌, ◌^◌, length}
use Rattle.gem_language.specs.Sends.{outside}
use Rattle.st_machine.specs.Parts.{table_of, part_code, part_run, framed}
use Rattle.st_machine.proofs.Standing.{Standing}
use Rattle.st_machine.proofs.machine.+machine.Given as goal

abbrev pub decreases-execute : goal.decreases-execute
decreases-execute g l = 16 * l.depth + 12

abbrev pub decreases-lead : goal.decreases-lead
decreases-lead g l = 16 * l.depth + 11

abbrev pub decreases-step_found : goal.decreases-step_found
decreases-step_found g l = 16 * l.depth + 10

abbrev pub decreases-step : goal.decreases-step
decreases-step g l = 16 * l.depth + 10

abbrev pub decreases-send : goal.decreases-send
decreases-send g l = 16 * l.depth + 9

abbrev pub decreases-send_found : goal.decreases-send_found
decreases-send_found g l = 16 * l.depth + 9

abbrev pub decreases-answer_found : goal.decreases-answer_found
decreases-answer_found g l = 16 * l.depth + 8

abbrev pub decreases-answer_of : goal.decreases-answer_of
decreases-answer_of g l = 16 * l.depth + 8

abbrev pub decreases-call_target : goal.decreases-call_target
decreases-call_target g l = 16 * l.depth + 6

abbrev pub decreases-call_primitive : goal.decreases-call_primitive
decreases-call_primitive g l = 16 * l.depth + 5

abbrev pub decreases-value_of_primitive : goal.decreases-value_of_primitive
decreases-value_of_primitive g l = 16 * l.depth + 4

abbrev pub decreases-call_with : goal.decreases-call_with
decreases-call_with g l = 16 * l.depth + 3

abbrev pub decreases-call_method : goal.decreases-call_method
decreases-call_method g l = 16 * l.depth + 1

abbrev pub decreases-activate : goal.decreases-activate
decreases-activate g l = 16 * l.depth + 15

abbrev pub decreases-run_inside : goal.decreases-run_inside
decreases-run_inside g l = 16 * l.depth + 14

abbrev pub decreases-run_with : goal.decreases-run_with
decreases-run_with g l = 16 * l.depth + 13

abbrev pub decreases-call_block : goal.decreases-call_block
decreases-call_block g l = 16 * l.depth + 2

abbrev pub decreases-call_made : goal.decreases-call_made
decreases-call_made g l = 16 * l.depth + 1

abbrev pub decreases-evaluate : goal.decreases-evaluate
decreases-evaluate g l = 16 * l.depth + 15

abbrev pub decreases-answer_at : goal.decreases-answer_at
decreases-answer_at g l = 16 * l.depth + 7

abbrev pub decreases-call_kept : goal.decreases-call_kept
decreases-call_kept g l = 16 * l.depth + 7

abbrev pub decreases-execute-run : goal.decreases-execute-run
decreases-execute-run g l = (2 ^ 64 - l.jumps) * (length l.instrs + 2) + (length l.instrs + 1 - l.at)

abbrev pub invariant-execute-run : goal.invariant-execute-run
invariant-execute-run g l = record {
  standing : Standing (outside l.depth) (table_of l.code) (part_code l.code l.fn.part)
      (part_run (outside l.depth) l.code l.fn.part (framed l.initial.chain.own l.frame))
      (g.O.Objects.seen l.initial.objects) l.initial.locals l.at l.stack.own (framed l.chain.own l.frame)
      (g.O.Objects.seen l.objects) l.locals;
  below : l.stack.below ≡ l.initial.stack.below;
  outer : l.chain.below ≡ l.initial.chain.below;
}

use Rattle.std.proofs.Common.{◌≡◌, ◌∙◌, false, suc, rules, refl, sym, ap, subst, ℕ, ◌<◌, ◌++◌, ◌∷◌, List, [], length, get_or, take, drop, reverse, replicate, slice_get, arith}
use Rattle.std.proofs.lemmas.Grind.{common_steps}
use Rattle.gem_object.specs.declared.value.Value.TheVariants.{Nil}
use Rattle.tree_meaning.specs.Bodies.{temps_count, method_body, block_body}
use Rattle.tree_meaning.specs.Place.{Frame}
use Rattle.tree_meaning.specs.Scopes.{leave_block}
use Rattle.tree_meaning.specs.declared.place.Mark.{Mark}
use Rattle.gem_language.specs.Commands.{selector_of}
use Rattle.gem_language.specs.Sends.{outside, callee}
use Rattle.tree_meaning.specs.object_programs.declared.fault.Fault.TheVariants as fault
use Rattle.running_objects.specs.declared.stop.Stop.TheVariants as stop
use Rattle.look_up_cache.specs.Table.{held_at}
use Rattle.st_compiler.specs.Instruction.{Instruction}
use Rattle.st_compiler.specs.Emitted.{instruction_of}
use Rattle.st_commands.proofs.Activations.{activation_ran, evaluation_ran, method_ran, made_ran}
use Rattle.running_objects.specs.Ran.{Ran}
use Rattle.st_commands.specs.Leaving.{LeftSo}
use Rattle.st_machine.specs.Called.{top, called_as, ended_as}
use Rattle.st_machine.specs.Layers.{Layers}
use Rattle.st_machine.specs.declared.shared_code.Part.TheVariants.{Whole}
use Rattle.st_machine.specs.declared.target.Target.TheVariants.{Method}
use Rattle.st_machine.specs.Parts.{table_of, part_code, part_run, framed}
use Rattle.st_machine.proofs.Called.{answers_same, answers_above}
use Rattle.st_machine.proofs.Ends.{receiver_is, rest_is, never_empty}
use Rattle.st_machine.proofs.Outlines.{method_framed, block_framed, method_ran_by, block_ran_by}
use Rattle.st_machine.proofs.PartRuns.{part_runs}
use Rattle.st_machine.proofs.Standing.{stands_empty, stands_left, stands_next, stands_back, stands_leaves, stands_stop, never_stuck, never_past}
use Rattle.st_machine.proofs.Sent.{sent_answers, sent_stops}
use Rattle.st_machine.proofs.Placed.{placed_ran, placed_stops}
use Rattle.st_machine.proofs.Taken.{one_less, one_left, put_taken, put_left}
use Rattle.st_machine.proofs.Calls.{called_ran, primitive_stops, block_ran}
use Rattle.st_machine.proofs.machine.+machine.Goals as goal

pub call_method-returns-in-Some-clause-ran : goal.call_method-returns-in-Some-clause-ran
call_method-returns-in-Some-clause-ran g t c =
    method_ran c.args.depth (omega (arith, c.if-depth-eq0.false)) c.args.code.now c.args.holder c.args.class_side
    (get_or c.args.stack.now.own c.args.count Nil) (reverse (take c.args.count c.args.stack.now.own)) c.call_quickly.ensures.ran

pub call_method-returns-in-None-clause-ran : goal.call_method-returns-in-None-clause-ran
call_method-returns-in-None-clause-ran g t c =
    method_ran c.args.depth (omega (arith, c.if-depth-eq0.false)) c.args.code.now c.args.holder c.args.class_side
    (get_or c.args.stack.now.own c.args.count Nil) (reverse (take c.args.count c.args.stack.now.own)) c.activate.ensures.ran

pub call_primitive-returns-in-Some-clause-ran : goal.call_primitive-returns-in-Some-clause-ran
call_primitive-returns-in-Some-clause-ran g t c =
    called_ran c.args.depth c.args.number c.args.stack.now.own c.args.count c.requires c.at_depth-receiver.result.now
    c.at_depth-receiver.ensures c.in-Some.block c.in-Some.ensures c.call_block.ensures.ran

pub call_with-returns-clause-ran : goal.call_with-returns-clause-ran
call_with-returns-clause-ran g t c =
    let size : c.len-count.result ≡ length c.args.arguments.items = search rules in
    let taken = put_taken c.args.arguments.items c.args.stack.now.own c.push_all.new.self.own c.len-count.result size
    c.in-Ok.ensures.pushed in
    rw taken at c.call_block.ensures.ran

pub call_with-returns-clause-own : goal.call_with-returns-clause-own
call_with-returns-clause-own g t c =
    let size : c.len-count.result ≡ length c.args.arguments.items = search rules in
    answers_same c.call_block.result c.call_block.new.stack.own (put_left c.args.arguments.items c.args.stack.now.own
    c.push_all.new.self.own c.len-count.result size c.in-Ok.ensures.pushed) c.call_block.ensures.own

pub call_block-returns-clause-ran : goal.call_block-returns-clause-ran
call_block-returns-clause-ran g t c =
    block_ran (callee c.args.depth).block c.args.number (reverse (take c.args.count c.args.stack.now.own)) c.in-Some.shared.now
    c.block-made.result.now c.in-Some.ensures (c.block-made.ensures ∙ c.in-Ok.ensures) c.upper.result.now c.upper.ensures
    c.takes.result c.takes.ensures c.if-not-takes.false c.call_made.ensures.ran

pub call_made-returns-clause-ran : goal.call_made-returns-clause-ran
call_made-returns-clause-ran g t c =
    made_ran c.args.depth (omega (arith, c.if-depth-eq0.false)) c.args.made.now
    (reverse (take c.args.count c.args.stack.now.own)) c.evaluate.ensures.ran

pub evaluate-drop_upper-requires : goal.evaluate-drop_upper-requires
evaluate-drop_upper-requires g t c =
    one_left c.args.count c.args.stack.now.own c.open_taking.new.stack.own c.requires c.in-Ok.ensures.own

pub evaluate-returns-clause-own : goal.evaluate-returns-clause-own
evaluate-returns-clause-own g t c =
    let left : c.drop_upper.new.self.own ≡ drop (suc c.args.count) c.args.stack.now.own =
    c.drop_upper.ensures.own ∙ (ap (drop 1) c.in-Ok.ensures.own ∙ one_less c.args.count c.args.stack.now.own) in
    answers_same c.end_block.result c.end_block.new.stack.own left
    (answers_above c.run_inside-ended.result c.end_block.result c.drop_upper.new.self.own c.run_inside-ended.new.stack.own
    c.end_block.new.stack.own c.run_inside-ended.ensures.own c.end_block.ensures.own)

pub evaluate-returns-clause-ran : goal.evaluate-returns-clause-ran
evaluate-returns-clause-ran g t c =
    let frame = c.outline-frame.result.now in
    let inner = framed (c.mark-mark.result ∷ reverse c.scopes.result.now) frame in
    let arguments = reverse (take c.args.count c.args.stack.now.own) in
    let ended = ended_as frame.home c.run_inside-ended.result c.run_inside-ended.new.why c.run_inside-ended.new.stack.own in
    let AtHome : ℕ → Type 0 = λ home. LeftSo (leave_block c.mark-mark.result)
    (ended_as home c.run_inside-ended.result c.run_inside-ended.new.why c.run_inside-ended.new.stack.own)
    (g.O.Objects.seen c.run_inside-ended.new.objects) c.run_inside-ended.new.locals
    (called_as c.end_block.result c.end_block.new.why c.end_block.new.stack.own) c.end_block.new.locals in
    evaluation_ran (block_body (outside c.args.depth) c.args.made.now.tree c.args.made.now.place) (temps_count c.args.made.now.tree)
    c.args.made.now.frame arguments ended c.mark-mark.result inner
    (arguments ++ replicate c.temps_count.result Nil) c.temps_count.result c.mark-mark.ensures
    (block_framed frame c.args.made.now.frame c.mark-mark.result c.scopes.result.now c.outline-frame.ensures c.scopes.ensures)
    refl c.temps_count.ensures c.in-Ok.ensures.opened
    (block_ran_by (outside c.args.depth) c.code-number.result.0.now c.code-number.result.1 inner c.args.made.now c.code-number.ensures.tree
    c.code-number.ensures.place c.run_inside-ended.ensures.ran) (subst AtHome c.home.ensures c.end_block.ensures.left)

pub activate-unreachable-requires : goal.activate-unreachable-requires
activate-unreachable-requires g t c =
    never_empty c.args.stack.now.own c.args.count c.requires.height
    (sym c.in-Ok.ensures.own ∙ c.in_default-pop.ensures.popped.0)

pub activate-returns-clause-own : goal.activate-returns-clause-own
activate-returns-clause-own g t c =
    answers_same c.end_method.result c.end_method.new.stack.own
    (rest_is c.args.stack.now.own c.args.count Nil c.in-Some.receiver c.pop.new.self.own c.requires.height
    (sym c.in-Ok.ensures.own ∙ c.in-Some.ensures.popped))
    (answers_above c.run_inside-ended.result c.end_method.result c.pop.new.self.own c.run_inside-ended.new.stack.own
    c.end_method.new.stack.own c.run_inside-ended.ensures.own c.end_method.ensures.own)

pub activate-returns-clause-ran : goal.activate-returns-clause-ran
activate-returns-clause-ran g t c =
    let receiver = get_or c.args.stack.now.own c.args.count Nil in
    let arguments = reverse (take c.args.count c.args.stack.now.own) in
    let frame = framed (c.mark-mark.result ∷ []) c.of-frame.result in
    let AtHome : ℕ → Type 0 = λ home. Ran (part_run (outside c.args.depth) c.args.code.now Whole frame)
    (g.O.Objects.seen c.args.objects.now) c.begin_method.new.self
    (ended_as home c.run_inside-ended.result c.run_inside-ended.new.why c.run_inside-ended.new.stack.own)
    (g.O.Objects.seen c.run_inside-ended.new.objects) c.run_inside-ended.new.locals in
    let ran = subst AtHome (ap (λ (one : Frame). one.home) c.of-frame.ensures) c.run_inside-ended.ensures.ran in
    activation_ran (method_body (outside c.args.depth) c.args.code.now) (length c.args.code.now.temps) c.args.holder c.args.class_side
    receiver arguments (ended_as c.mark-mark.result.living c.run_inside-ended.result c.run_inside-ended.new.why
    c.run_inside-ended.new.stack.own) c.mark-mark.result c.in-Some.receiver frame
    (arguments ++ replicate c.temps_count.result Nil) c.temps_count.result c.mark-mark.ensures
    (receiver_is c.args.stack.now.own c.args.count Nil c.in-Some.receiver c.pop.new.self.own c.requires.height
    (sym c.in-Ok.ensures.own ∙ c.in-Some.ensures.popped))
    (method_framed c.of-frame.result c.mark-mark.result c.in-Some.receiver c.args.holder c.args.class_side c.args.locals.now
    c.mark-mark.ensures c.of-frame.ensures)
    refl c.temps_count.ensures c.in-Ok.ensures.begun
    (method_ran_by (outside c.args.depth) c.args.code.now (selector_of c.args.code.now) frame c.requires.method
    ran) c.end_method.ensures.left

pub execute-run-init : goal.execute-run-init
execute-run-init g t c = record {
  standing = stands_empty (outside c.args.depth) (table_of c.args.code.now) (part_code c.args.code.now c.args.part)
      (part_run (outside c.args.depth) c.args.code.now c.args.part) (framed c.args.chain.now.own c.args.frame.now)
      (g.O.Objects.seen c.args.objects.now) c.args.locals.now c.args.stack.now.own c.requires.empty
      (part_runs (outside c.args.depth) (g.O.Objects.seen c.args.objects.now).setting c.args.code.now c.args.part c.requires.part);
  below = refl;
  outer = refl;
}

pub execute-unreachable-requires : goal.execute-unreachable-requires
execute-unreachable-requires g t c =
    let none = c.in_default.ensures.is in
    never_past (outside c.args.depth) (table_of c.args.code.now) (part_code c.args.code.now c.args.part)
    c.run.invariant.standing
    (ap (λ (code : List Instruction). slice_get code c.run.at) (sym c.code_of-instrs.ensures) ∙ sym none)

pub execute-run-preserved-in-Goes-turn : goal.execute-run-preserved-in-Goes-turn
execute-run-preserved-in-Goes-turn g t c = record {
  standing = stands_next (outside c.args.depth) (table_of c.args.code.now) (part_code c.args.code.now c.args.part)
      (part_run (outside c.args.depth) c.args.code.now c.args.part (framed c.args.chain.now.own c.args.frame.now))
      (g.O.Objects.seen c.args.objects.now) (g.O.Objects.seen c.run.objects) (g.O.Objects.seen c.turn-turned.new.objects)
      c.args.locals.now c.run.locals c.turn-turned.new.locals c.run.at c.run.stack.own c.turn-turned.new.stack.own
      c.run.chain.own c.turn-turned.new.chain.own c.args.frame.now c.run.invariant.standing
      (instruction_of c.in-Some.instr.now)
      (ap (λ (code : List Instruction). slice_get code c.run.at) (sym c.code_of-instrs.ensures) ∙ sym c.in-Some.ensures.is)
      c.turn-turned.ensures.keeps c.in-Goes-turn.place (rw c.in-Goes-turn.is at (rw c.in-Ok.is at c.in-Done.ensures.led));
  below = c.turn-turned.ensures.stack ∙ c.run.invariant.below;
  outer = c.turn-turned.ensures.chain ∙ c.run.invariant.outer;
}

pub execute-run-preserved : goal.execute-run-preserved
execute-run-preserved g t c = record {
  standing = stands_back (outside c.args.depth) (table_of c.args.code.now) (part_code c.args.code.now c.args.part)
      (part_run (outside c.args.depth) c.args.code.now c.args.part (framed c.args.chain.now.own c.args.frame.now))
      (g.O.Objects.seen c.args.objects.now) (g.O.Objects.seen c.run.objects) (g.O.Objects.seen c.turn-turned.new.objects)
      c.args.locals.now c.run.locals c.turn-turned.new.locals c.run.at c.run.stack.own c.turn-turned.new.stack.own
      c.run.chain.own c.turn-turned.new.chain.own c.args.frame.now c.run.invariant.standing
      (instruction_of c.in-Some.instr.now)
      (ap (λ (code : List Instruction). slice_get code c.run.at) (sym c.code_of-instrs.ensures) ∙ sym c.in-Some.ensures.is)
      c.turn-turned.ensures.keeps c.in-Jumps.place (rw c.in-Jumps.is at (rw c.in-Ok.is at c.in-Done.ensures.led));
  below = c.turn-turned.ensures.stack ∙ c.run.invariant.below;
  outer = c.turn-turned.ensures.chain ∙ c.run.invariant.outer;
}

pub execute-returns-in-NotBoolean-clause-ran : goal.execute-returns-in-NotBoolean-clause-ran
execute-returns-in-NotBoolean-clause-ran g t c =
    stands_stop (outside c.args.depth) (table_of c.args.code.now) (part_code c.args.code.now c.args.part)
    (part_run (outside c.args.depth) c.args.code.now c.args.part (framed c.args.chain.now.own c.args.frame.now))
    (g.O.Objects.seen c.args.objects.now) (g.O.Objects.seen c.run.objects) (g.O.Objects.seen c.turn-turned.new.objects)
    c.args.locals.now c.run.locals c.turn-turned.new.locals c.run.at c.run.stack.own c.turn-turned.new.stack.own
    c.run.chain.own c.turn-turned.new.chain.own c.args.frame.now c.run.invariant.standing
    (instruction_of c.in-Some.instr.now)
    (ap (λ (code : List Instruction). slice_get code c.run.at) (sym c.code_of-instrs.ensures) ∙ sym c.in-Some.ensures.is)
    c.turn-turned.ensures.keeps (stop.Fails fault.NotBoolean) (rw c.in-NotBoolean.is at (rw c.in-Ok.is at c.in-Done.ensures.led))

pub execute-returns-in-ArgumentKind-clause-ran : goal.execute-returns-in-ArgumentKind-clause-ran
execute-returns-in-ArgumentKind-clause-ran g t c =
    stands_stop (outside c.args.depth) (table_of c.args.code.now) (part_code c.args.code.now c.args.part)
    (part_run (outside c.args.depth) c.args.code.now c.args.part (framed c.args.chain.now.own c.args.frame.now))
    (g.O.Objects.seen c.args.objects.now) (g.O.Objects.seen c.run.objects) (g.O.Objects.seen c.turn-turned.new.objects)
    c.args.locals.now c.run.locals c.turn-turned.new.locals c.run.at c.run.stack.own c.turn-turned.new.stack.own
    c.run.chain.own c.turn-turned.new.chain.own c.args.frame.now c.run.invariant.standing
    (instruction_of c.in-Some.instr.now)
    (ap (λ (code : List Instruction). slice_get code c.run.at) (sym c.code_of-instrs.ensures) ∙ sym c.in-Some.ensures.is)
    c.turn-turned.ensures.keeps (stop.Fails fault.ArgumentKind) (rw c.in-ArgumentKind.is at (rw c.in-Ok.is at c.in-Done.ensures.led))

pub execute-returns-in-NoUnit-clause-ran : goal.execute-returns-in-NoUnit-clause-ran
execute-returns-in-NoUnit-clause-ran g t c =
    stands_stop (outside c.args.depth) (table_of c.args.code.now) (part_code c.args.code.now c.args.part)
    (part_run (outside c.args.depth) c.args.code.now c.args.part (framed c.args.chain.now.own c.args.frame.now))
    (g.O.Objects.seen c.args.objects.now) (g.O.Objects.seen c.run.objects) (g.O.Objects.seen c.turn-turned.new.objects)
    c.args.locals.now c.run.locals c.turn-turned.new.locals c.run.at c.run.stack.own c.turn-turned.new.stack.own
    c.run.chain.own c.turn-turned.new.chain.own c.args.frame.now c.run.invariant.standing
    (instruction_of c.in-Some.instr.now)
    (ap (λ (code : List Instruction). slice_get code c.run.at) (sym c.code_of-instrs.ensures) ∙ sym c.in-Some.ensures.is)
    c.turn-turned.ensures.keeps (stop.Fails fault.SendBudget) (rw c.in-NoUnit.is at (rw c.in-Ok.is at c.in-Done.ensures.led))

pub execute-returns-in-TooLarge-clause-ran : goal.execute-returns-in-TooLarge-clause-ran
execute-returns-in-TooLarge-clause-ran g t c =
    stands_stop (outside c.args.depth) (table_of c.args.code.now) (part_code c.args.code.now c.args.part)
    (part_run (outside c.args.depth) c.args.code.now c.args.part (framed c.args.chain.now.own c.args.frame.now))
    (g.O.Objects.seen c.args.objects.now) (g.O.Objects.seen c.run.objects) (g.O.Objects.seen c.turn-turned.new.objects)
    c.args.locals.now c.run.locals c.turn-turned.new.locals c.run.at c.run.stack.own c.turn-turned.new.stack.own
    c.run.chain.own c.turn-turned.new.chain.own c.args.frame.now c.run.invariant.standing
    (instruction_of c.in-Some.instr.now)
    (ap (λ (code : List Instruction). slice_get code c.run.at) (sym c.code_of-instrs.ensures) ∙ sym c.in-Some.ensures.is)
    c.turn-turned.ensures.keeps (stop.Fails fault.ObjectTooLarge) (rw c.in-TooLarge.is at (rw c.in-Ok.is at c.in-Done.ensures.led))

pub execute-unreachable-requires-in-Stuck-turn : goal.execute-unreachable-requires-in-Stuck-turn
execute-unreachable-requires-in-Stuck-turn g t c =
    never_stuck (outside c.args.depth) (table_of c.args.code.now) (part_code c.args.code.now c.args.part)
    (part_run (outside c.args.depth) c.args.code.now c.args.part (framed c.args.chain.now.own c.args.frame.now))
    (g.O.Objects.seen c.args.objects.now) (g.O.Objects.seen c.run.objects) (g.O.Objects.seen c.turn-turned.new.objects)
    c.args.locals.now c.run.locals c.turn-turned.new.locals c.run.at c.run.stack.own c.turn-turned.new.stack.own
    c.run.chain.own c.turn-turned.new.chain.own c.args.frame.now c.run.invariant.standing
    (instruction_of c.in-Some.instr.now)
    (ap (λ (code : List Instruction). slice_get code c.run.at) (sym c.code_of-instrs.ensures) ∙ sym c.in-Some.ensures.is)
    c.turn-turned.ensures.keeps (rw c.in-Stuck-turn.is at (rw c.in-Ok.is at c.in-Done.ensures.led))

pub execute-run-preserved-in-Goes : goal.execute-run-preserved-in-Goes
execute-run-preserved-in-Goes g t c = record {
  standing = stands_next (outside c.args.depth) (table_of c.args.code.now) (part_code c.args.code.now c.args.part)
      (part_run (outside c.args.depth) c.args.code.now c.args.part (framed c.args.chain.now.own c.args.frame.now))
      (g.O.Objects.seen c.args.objects.now) (g.O.Objects.seen c.turn-turned.new.objects) (g.O.Objects.seen c.lead-led.new.objects)
      c.args.locals.now c.turn-turned.new.locals c.lead-led.new.locals c.run.at c.turn-turned.new.stack.own
      c.lead-led.new.stack.own c.turn-turned.new.chain.own c.lead-led.new.chain.own c.args.frame.now
      (stands_left (outside c.args.depth) (table_of c.args.code.now) (part_code c.args.code.now c.args.part)
      (part_run (outside c.args.depth) c.args.code.now c.args.part (framed c.args.chain.now.own c.args.frame.now))
      (g.O.Objects.seen c.args.objects.now) c.args.locals.now c.run.at c.args.frame.now c.in-Left.ensures.seen
      c.in-Left.ensures.own c.in-Left.ensures.scopes c.in-Left.ensures.locals c.run.invariant.standing)
      (instruction_of c.in-Some.instr.now)
      (ap (λ (code : List Instruction). slice_get code c.run.at) (sym c.code_of-instrs.ensures) ∙ sym c.in-Some.ensures.is)
      c.in-Goes.ensures.keeps c.in-Goes.place c.in-Goes.ensures.led;
  below = c.in-Goes.ensures.stack ∙ (c.in-Left.ensures.stack ∙ c.run.invariant.below);
  outer = c.in-Goes.ensures.chain ∙ (c.in-Left.ensures.chain ∙ c.run.invariant.outer);
}

pub execute-unreachable-requires-in-Stuck : goal.execute-unreachable-requires-in-Stuck
execute-unreachable-requires-in-Stuck g t c =
    never_stuck (outside c.args.depth) (table_of c.args.code.now) (part_code c.args.code.now c.args.part)
    (part_run (outside c.args.depth) c.args.code.now c.args.part (framed c.args.chain.now.own c.args.frame.now))
    (g.O.Objects.seen c.args.objects.now) (g.O.Objects.seen c.turn-turned.new.objects) (g.O.Objects.seen c.lead-led.new.objects)
    c.args.locals.now c.turn-turned.new.locals c.lead-led.new.locals c.run.at c.turn-turned.new.stack.own
    c.lead-led.new.stack.own c.turn-turned.new.chain.own c.lead-led.new.chain.own c.args.frame.now
    (stands_left (outside c.args.depth) (table_of c.args.code.now) (part_code c.args.code.now c.args.part)
    (part_run (outside c.args.depth) c.args.code.now c.args.part (framed c.args.chain.now.own c.args.frame.now))
    (g.O.Objects.seen c.args.objects.now) c.args.locals.now c.run.at c.args.frame.now c.in-Left.ensures.seen
    c.in-Left.ensures.own c.in-Left.ensures.scopes c.in-Left.ensures.locals c.run.invariant.standing)
    (instruction_of c.in-Some.instr.now)
    (ap (λ (code : List Instruction). slice_get code c.run.at) (sym c.code_of-instrs.ensures) ∙ sym c.in-Some.ensures.is)
    c.in-Stuck.ensures.keeps c.in-Stuck.ensures.led

pub call_primitive-returns-in-Ok-clause-own : goal.call_primitive-returns-in-Ok-clause-own
call_primitive-returns-in-Ok-clause-own g t c =
    answers_same c.value_of_primitive.result c.value_of_primitive.new.stack.own
    (ap (drop 1) c.drop_upper.ensures.own ∙ one_less c.args.count c.args.stack.now.own) c.value_of_primitive.ensures.own

pub call_primitive-returns-in-Err-clause-ran : goal.call_primitive-returns-in-Err-clause-ran
call_primitive-returns-in-Err-clause-ran g t c =
    primitive_stops c.args.depth c.args.number c.args.stack.now.own c.args.count c.requires
    c.at_depth-receiver.result.now c.at_depth-receiver.ensures c.upper.result.now c.upper.ensures c.in-Err.ensures

pub execute-returns-in-Answers-clause-ran : goal.execute-returns-in-Answers-clause-ran
execute-returns-in-Answers-clause-ran g t c =
    stands_leaves (outside c.args.depth) (table_of c.args.code.now) (part_code c.args.code.now c.args.part)
    (part_run (outside c.args.depth) c.args.code.now c.args.part (framed c.args.chain.now.own c.args.frame.now))
    (g.O.Objects.seen c.args.objects.now) (g.O.Objects.seen c.turn-turned.new.objects) (g.O.Objects.seen c.lead-led.new.objects)
    c.args.locals.now c.turn-turned.new.locals c.lead-led.new.locals c.run.at c.turn-turned.new.stack.own
    c.lead-led.new.stack.own c.turn-turned.new.chain.own c.lead-led.new.chain.own c.args.frame.now
    (stands_left (outside c.args.depth) (table_of c.args.code.now) (part_code c.args.code.now c.args.part)
    (part_run (outside c.args.depth) c.args.code.now c.args.part (framed c.args.chain.now.own c.args.frame.now))
    (g.O.Objects.seen c.args.objects.now) c.args.locals.now c.run.at c.args.frame.now c.in-Left.ensures.seen
    c.in-Left.ensures.own c.in-Left.ensures.scopes c.in-Left.ensures.locals c.run.invariant.standing)
    (instruction_of c.in-Some.instr.now)
    (ap (λ (code : List Instruction). slice_get code c.run.at) (sym c.code_of-instrs.ensures) ∙ sym c.in-Some.ensures.is)
    c.in-Answers.ensures.keeps (top c.lead-led.new.stack.own) c.in-Answers.ensures.led.1

pub execute-returns-in-Returns-clause-ran : goal.execute-returns-in-Returns-clause-ran
execute-returns-in-Returns-clause-ran g t c =
    stands_stop (outside c.args.depth) (table_of c.args.code.now) (part_code c.args.code.now c.args.part)
    (part_run (outside c.args.depth) c.args.code.now c.args.part (framed c.args.chain.now.own c.args.frame.now))
    (g.O.Objects.seen c.args.objects.now) (g.O.Objects.seen c.turn-turned.new.objects) (g.O.Objects.seen c.lead-led.new.objects)
    c.args.locals.now c.turn-turned.new.locals c.lead-led.new.locals c.run.at c.turn-turned.new.stack.own
    c.lead-led.new.stack.own c.turn-turned.new.chain.own c.lead-led.new.chain.own c.args.frame.now
    (stands_left (outside c.args.depth) (table_of c.args.code.now) (part_code c.args.code.now c.args.part)
    (part_run (outside c.args.depth) c.args.code.now c.args.part (framed c.args.chain.now.own c.args.frame.now))
    (g.O.Objects.seen c.args.objects.now) c.args.locals.now c.run.at c.args.frame.now c.in-Left.ensures.seen
    c.in-Left.ensures.own c.in-Left.ensures.scopes c.in-Left.ensures.locals c.run.invariant.standing)
    (instruction_of c.in-Some.instr.now)
    (ap (λ (code : List Instruction). slice_get code c.run.at) (sym c.code_of-instrs.ensures) ∙ sym c.in-Some.ensures.is)
    c.in-Returns.ensures.keeps (stop.Returns (top c.lead-led.new.stack.own) c.args.frame.now.home)
    c.in-Returns.ensures.led.1

pub execute-returns-in-Stopped-clause-ran : goal.execute-returns-in-Stopped-clause-ran
execute-returns-in-Stopped-clause-ran g t c =
    stands_stop (outside c.args.depth) (table_of c.args.code.now) (part_code c.args.code.now c.args.part)
    (part_run (outside c.args.depth) c.args.code.now c.args.part (framed c.args.chain.now.own c.args.frame.now))
    (g.O.Objects.seen c.args.objects.now) (g.O.Objects.seen c.turn-turned.new.objects) (g.O.Objects.seen c.lead-led.new.objects)
    c.args.locals.now c.turn-turned.new.locals c.lead-led.new.locals c.run.at c.turn-turned.new.stack.own
    c.lead-led.new.stack.own c.turn-turned.new.chain.own c.lead-led.new.chain.own c.args.frame.now
    (stands_left (outside c.args.depth) (table_of c.args.code.now) (part_code c.args.code.now c.args.part)
    (part_run (outside c.args.depth) c.args.code.now c.args.part (framed c.args.chain.now.own c.args.frame.now))
    (g.O.Objects.seen c.args.objects.now) c.args.locals.now c.run.at c.args.frame.now c.in-Left.ensures.seen
    c.in-Left.ensures.own c.in-Left.ensures.scopes c.in-Left.ensures.locals c.run.invariant.standing)
    (instruction_of c.in-Some.instr.now)
    (ap (λ (code : List Instruction). slice_get code c.run.at) (sym c.code_of-instrs.ensures) ∙ sym c.in-Some.ensures.is)
    c.in-Stopped.ensures.keeps c.lead-led.new.why c.in-Stopped.ensures.led

pub send-returns-in-Ok-clause-led : goal.send-returns-in-Ok-clause-led
send-returns-in-Ok-clause-led g t c =
    let within : c.args.count < length c.args.stack.now.own = grind (arith, common_steps) in
    sent_answers c.args.depth (table_of c.args.code.now) c.args.selector.now c.args.count c.args.at
    c.args.stack.now.own c.args.chain.now.own c.answer_of-called.new.chain.own c.args.frame.now
    (g.O.Objects.seen c.args.objects.now) (g.O.Objects.seen c.answer_of-called.new.objects) c.args.locals.now c.answer_of-called.new.locals
    c.args.to_super within (top c.answer_of-called.new.stack.own) c.answer_of-called.new.stack.own c.in-Ok.place c.in-Ok.ensures.place
    (ap (λ (one : Layers Mark). one.own) c.in-Answers.ensures.chain) c.in-Answers.ensures.own c.in-Answers.ensures.ran

pub send-returns-in-Stopped-clause-led : goal.send-returns-in-Stopped-clause-led
send-returns-in-Stopped-clause-led g t c =
    let within : c.args.count < length c.args.stack.now.own = grind (arith, common_steps) in
    sent_stops c.args.depth (table_of c.args.code.now) c.args.selector.now c.args.count c.args.at
    c.args.stack.now.own c.args.chain.now.own c.answer_of-called.new.chain.own c.args.frame.now
    (g.O.Objects.seen c.args.objects.now) (g.O.Objects.seen c.answer_of-called.new.objects) c.args.locals.now c.answer_of-called.new.locals
    c.args.to_super within c.answer_of-called.new.why c.answer_of-called.new.stack.own c.in-Stopped.ensures.ran

pub send_found-returns-in-Ok-clause-led : goal.send_found-returns-in-Ok-clause-led
send_found-returns-in-Ok-clause-led g t c =
    let within : c.args.count < length c.args.stack.now.own = grind (arith, common_steps) in
    sent_answers c.args.depth (table_of c.args.code.now) c.args.selector.now c.args.count c.args.at
    c.args.stack.now.own c.args.chain.now.own c.answer_found-called.new.chain.own c.args.frame.now
    (g.O.Objects.seen c.args.objects.now) (g.O.Objects.seen c.answer_found-called.new.objects) c.args.locals.now c.answer_found-called.new.locals
    false within (top c.answer_found-called.new.stack.own) c.answer_found-called.new.stack.own c.in-Ok.place c.in-Ok.ensures.place
    (ap (λ (one : Layers Mark). one.own) c.in-Answers.ensures.chain) c.in-Answers.ensures.own c.in-Answers.ensures.ran

pub send_found-returns-in-Stopped-clause-led : goal.send_found-returns-in-Stopped-clause-led
send_found-returns-in-Stopped-clause-led g t c =
    let within : c.args.count < length c.args.stack.now.own = grind (arith, common_steps) in
    sent_stops c.args.depth (table_of c.args.code.now) c.args.selector.now c.args.count c.args.at
    c.args.stack.now.own c.args.chain.now.own c.answer_found-called.new.chain.own c.args.frame.now
    (g.O.Objects.seen c.args.objects.now) (g.O.Objects.seen c.answer_found-called.new.objects) c.args.locals.now c.answer_found-called.new.locals
    false within c.answer_found-called.new.why c.answer_found-called.new.stack.own c.in-Stopped.ensures.ran

pub answer_at-returns-in-Ok-clause-ran : goal.answer_at-returns-in-Ok-clause-ran
answer_at-returns-in-Ok-clause-ran g t c =
    placed_ran c.args.depth c.args.selector.now (framed c.args.chain.now.own c.args.frame.now)
    (get_or c.args.stack.now.own c.args.count Nil) (take c.args.count c.args.stack.now.own) c.args.locals.now
    (held_at (g.O.FindsMethods.founds c.args.objects.now) c.args.found) c.in-Ok.target c.in-Ok.ensures.target.0
    c.in-Ok.ensures.target.1 c.requires.found c.call_target.ensures.ran

pub answer_at-returns-in-Err-clause-ran : goal.answer_at-returns-in-Err-clause-ran
answer_at-returns-in-Err-clause-ran g t c =
    placed_stops c.args.depth c.args.selector.now (framed c.args.chain.now.own c.args.frame.now)
    (get_or c.args.stack.now.own c.args.count Nil) (take c.args.count c.args.stack.now.own) c.args.locals.now
    c.in-Err.ensures.target

pub call_kept-returns-in-Ok-clause-ran : goal.call_kept-returns-in-Ok-clause-ran
call_kept-returns-in-Ok-clause-ran g t c =
    placed_ran c.args.depth c.args.selector.now (framed c.args.chain.now.own c.args.frame.now)
    (get_or c.args.stack.now.own c.args.count Nil) (take c.args.count c.args.stack.now.own) c.args.locals.now
    (held_at (g.O.FindsMethods.founds c.args.objects.now) c.args.found)
    (Method c.args.method.code c.args.method.holder c.args.method.class_side) c.in-Ok.ensures
    c.requires.kept c.requires.found c.call_method.ensures.ran

pub call_kept-returns-clause-ran : goal.call_kept-returns-clause-ran
call_kept-returns-clause-ran g t c =
    placed_stops c.args.depth c.args.selector.now (framed c.args.chain.now.own c.args.frame.now)
    (get_or c.args.stack.now.own c.args.count Nil) (take c.args.count c.args.stack.now.own) c.args.locals.now
    c.in-Err.ensures

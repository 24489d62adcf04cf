use Rattle.std.proofs.Common.{◌≡◌, ◌+◌, ◌≤◌, ◌+ℤ◌, pos, Option, None, FitsSigned, w64, to_z, of_z, length, rules, arith}
use Rattle.std.proofs.lemmas.Int.{to_z-of_z}
use Rattle.std.proofs.lemmas.Result.{err_from_is_err_and}
use Rattle.tree_meaning.specs.Bodies.{temps_count, method_body, block_body}
use Rattle.st_tree.specs.Trees.{sends, expressions, statements}
use Rattle.st_tree.specs.Falls.{size_expression, size_expressions, size_send, size_sends, size_statement, size_statements}
use Rattle.st_tree.specs.Views.{head_of}
use Rattle.gem_object.specs.declared.value.Value.{Value}
use Rattle.st_plain.specs.Choices.{handed_value}
use Rattle.tree_meaning.specs.Operands.{ValueRun}
use Rattle.tree_meaning.specs.Parts.{first_argument, first_body}
use Rattle.tree_meaning.specs.Meaning.{head_in_place, messages_of, arguments_of}
use Rattle.gem_language.specs.Sends.{outside}
use Rattle.st_commands.proofs.Activations.{activation_ran, evaluation_ran, method_ran, made_ran}
use Rattle.st_plain.proofs.Blocks.{closure_ran, closure_stop}
use Rattle.st_plain.proofs.Turns.{is_turning, turning_starts, turning_goes_on, condition_stops, test_stops, next_condition_stops, next_test_stops, counting_starts}
use Rattle.st_plain.proofs.Counts.{handed_goes_on}
use Rattle.st_plain.proofs.Lists.{statement_size, send_size, sizes_with_last, argument_size, statements_stop, chain_stops, chain_goes_on, first_stops, cascade_stops}
use Rattle.st_plain.proofs.eval.+evaluation.Goals as goal

pub activate-returns : goal.activate-returns
activate-returns g t c =
    activation_ran (method_body (outside c.args.depth) c.args.tree.now) (length c.args.tree.now.temps) c.args.holder c.args.class_side
    c.args.receiver.now c.args.arguments.items c.eval_method-ended.result c.mark-mark.result c.in_ok-clone.field-0 _ c.in_ok-with_nils.field-0.items
    c.len.result c.mark-mark.ensures c.in_ok-clone.ensures.cases c.in_ok-frame.ensures c.in_ok-with_nils.ensures (search rules)
    c.in_ok-begin_method.ensures.begun c.eval_method-ended.ensures c.leave_method.ensures

pub evaluate-returns : goal.evaluate-returns
evaluate-returns g t c =
    evaluation_ran (block_body (outside c.args.depth) c.args.made.now.tree c.args.made.now.place) (temps_count c.args.made.now.tree)
    c.args.made.now.frame c.args.arguments.items c.eval_made-ended.result c.mark-mark.result _ c.in_ok-with_nils.field-0.items c.len.result
    c.mark-mark.ensures (search rules) c.in_ok-with_nils.ensures (search rules) c.in_ok-open_scope.ensures.opened c.eval_made-ended.ensures
    c.leave_block.ensures

pub call_method-returns : goal.call_method-returns
call_method-returns g t c =
    method_ran c.args.depth (omega (arith, c.if-depth-eq0.false)) c.args.tree.now c.args.holder c.args.class_side c.args.receiver.now
    c.args.arguments.items c.activate.ensures

pub call_made-returns : goal.call_made-returns
call_made-returns g t c =
    made_ran c.args.depth (omega (arith, c.if-depth-eq0.false)) c.args.made.now c.args.arguments.items c.evaluate.ensures

pub eval_block-returns-in_err-answer : goal.eval_block-returns-in_err-answer
eval_block-returns-in_err-answer g t c =
    let p = err_from_is_err_and c.from_residual-in_err-answer.result c.from_residual-in_err-answer.ensures.1 in
    rw (p.1, p.2)
    (closure_stop (outside c.args.depth) _ _ _ c.args.block.now c.block.view_is c.args.place.now c.args.handed c.args.frame.now
    c.mark-mark.result _ _ c.in_ok-nil_values.field-0.items (c.len.result + c.len-2.result) (omega (arith, c.if-variables-eq0.false)) (search rules)
    c.mark-mark.ensures c.in_ok-inside.ensures c.in_ok-inner.ensures c.in_ok-nil_values.ensures c.in_ok-open_scope.ensures.opened
    c.in_err-answer.field-0.0 c.in_err-answer.ensures)

pub eval_block-returns : goal.eval_block-returns
eval_block-returns g t c =
    closure_ran (outside c.args.depth) _ _ _ c.args.block.now c.block.view_is c.args.place.now c.args.handed c.args.frame.now
    c.mark-mark.result _ _ c.in_ok-nil_values.field-0.items (c.len.result + c.len-2.result) (omega (arith, c.if-variables-eq0.false)) (search rules)
    c.mark-mark.ensures c.in_ok-inside.ensures c.in_ok-inner.ensures c.in_ok-nil_values.ensures c.in_ok-open_scope.ensures.opened
    c.in_ok-answer.answer c.give_back.new.self c.in_ok-answer.ensures c.give_back.ensures

pub eval_turns-returns-in_err-first : goal.eval_turns-returns-in_err-first
eval_turns-returns-in_err-first g t c =
    let condition : ValueRun = head_in_place (outside c.args.depth) (head_of c.args.head.now) c.args.place.now None c.args.frame.now in
    let body : ValueRun = first_body (messages_of (outside c.args.depth) (sends c.args.messages.now)) c.args.place.now c.args.frame.now in
    let p = err_from_is_err_and c.from_residual.result c.from_residual.ensures.1 in
    rw (p.1, p.2) (condition_stops c.args.when condition body (g.O.Objects.seen c.args.objects.now) c.args.locals.now
    c.in_err-first.field-0.0 c.in_err-first.ensures)

pub eval_turns-returns-in_err-go : goal.eval_turns-returns-in_err-go
eval_turns-returns-in_err-go g t c =
    let condition : ValueRun = head_in_place (outside c.args.depth) (head_of c.args.head.now) c.args.place.now None c.args.frame.now in
    let body : ValueRun = first_body (messages_of (outside c.args.depth) (sends c.args.messages.now)) c.args.place.now c.args.frame.now in
    let p = err_from_is_err_and c.from_residual-in_err-go.result c.from_residual-in_err-go.ensures.1 in
    rw (p.1, p.2) (test_stops c.args.when condition body (g.O.Objects.seen c.args.objects.now) c.args.locals.now c.in_ok-first.first
    c.in_err-go.field-0.0 c.in_ok-first.ensures c.in_err-go.ensures)

pub eval_turns-loop-go-init : goal.eval_turns-loop-go-init
eval_turns-loop-go-init g t c =
    let condition : ValueRun = head_in_place (outside c.args.depth) (head_of c.args.head.now) c.args.place.now None c.args.frame.now in
    let body : ValueRun = first_body (messages_of (outside c.args.depth) (sends c.args.messages.now)) c.args.place.now c.args.frame.now in
    turning_starts c.args.when condition body (g.O.Objects.seen c.args.objects.now) c.args.locals.now c.in_ok-first.first c.in_ok-go.go
    c.in_ok-first.ensures c.in_ok-go.ensures

pub eval_turns-returns-in_err-next : goal.eval_turns-returns-in_err-next
eval_turns-returns-in_err-next g t c =
    let condition : ValueRun = head_in_place (outside c.args.depth) (head_of c.args.head.now) c.args.place.now None c.args.frame.now in
    let body : ValueRun = first_body (messages_of (outside c.args.depth) (sends c.args.messages.now)) c.args.place.now c.args.frame.now in
    let p = err_from_is_err_and c.from_residual-in_err-next.result c.from_residual-in_err-next.ensures.1 in
    rw (p.1, p.2) (next_condition_stops c.args.when condition body (g.O.Objects.seen c.args.objects.now) c.args.locals.now
    c.in_ok-eval_loop_body.field-0 c.in_err-next.field-0.0
    (is_turning c.args.when condition body (g.O.Objects.seen c.args.objects.now) c.args.locals.now c.loop-go.go c.loop-go-test.true
    c.loop-go.invariant) c.in_ok-take_unit.ensures c.in_ok-eval_loop_body.ensures
    c.in_err-next.ensures)

pub eval_turns-returns-in_err-go-2 : goal.eval_turns-returns-in_err-go-2
eval_turns-returns-in_err-go-2 g t c =
    let condition : ValueRun = head_in_place (outside c.args.depth) (head_of c.args.head.now) c.args.place.now None c.args.frame.now in
    let body : ValueRun = first_body (messages_of (outside c.args.depth) (sends c.args.messages.now)) c.args.place.now c.args.frame.now in
    let p = err_from_is_err_and c.from_residual-in_err-go-2.result c.from_residual-in_err-go-2.ensures.1 in
    rw (p.1, p.2) (next_test_stops c.args.when condition body (g.O.Objects.seen c.args.objects.now) c.args.locals.now
    c.in_ok-eval_loop_body.field-0 c.in_ok-next.next c.in_err-go-2.field-0.0
    (is_turning c.args.when condition body (g.O.Objects.seen c.args.objects.now) c.args.locals.now c.loop-go.go c.loop-go-test.true
    c.loop-go.invariant) c.in_ok-take_unit.ensures c.in_ok-eval_loop_body.ensures
    c.in_ok-next.ensures c.in_err-go-2.ensures)

pub eval_turns-loop-go-preserved : goal.eval_turns-loop-go-preserved
eval_turns-loop-go-preserved g t c =
    let condition : ValueRun = head_in_place (outside c.args.depth) (head_of c.args.head.now) c.args.place.now None c.args.frame.now in
    let body : ValueRun = first_body (messages_of (outside c.args.depth) (sends c.args.messages.now)) c.args.place.now c.args.frame.now in
    turning_goes_on c.args.when condition body (g.O.Objects.seen c.args.objects.now) c.args.locals.now c.in_ok-next.next
    c.in_ok-eval_loop_body.field-0 c.in_ok-go-2.go
    (is_turning c.args.when condition body (g.O.Objects.seen c.args.objects.now) c.args.locals.now c.loop-go.go c.loop-go-test.true
    c.loop-go.invariant) c.in_ok-take_unit.ensures c.in_ok-eval_loop_body.ensures
    c.in_ok-next.ensures c.in_ok-go-2.ensures

pub eval_count-loop-at-init : goal.eval_count-loop-at-init
eval_count-loop-at-init g t c =
    counting_starts (to_z w64 (of_z w64 c.args.number)) (to_z w64 (of_z w64 c.args.limit))
    (λ number. (first_argument (arguments_of (outside c.args.depth) (expressions c.args.arguments.now))).in_place c.args.place.now
    (handed_value c.args.hands number) c.args.frame.now)
    c.args.answer.now (g.O.Objects.seen c.args.objects.now) c.args.locals.now

pub eval_count-loop-at-preserved : goal.eval_count-loop-at-preserved
eval_count-loop-at-preserved g t c =
    let next : FitsSigned w64 (to_z w64 c.loop-at.at-bits +ℤ pos 1) = search rules in
    let run : Option Value → ValueRun = λ one. (first_argument (arguments_of (outside c.args.depth) (expressions c.args.arguments.now))).in_place
    c.args.place.now one c.args.frame.now in
    handed_goes_on run c.args.hands (to_z w64 (of_z w64 c.args.number)) (to_z w64 (of_z w64 c.args.limit)) c.args.answer.now
    (g.O.Objects.seen c.args.objects.now) c.args.locals.now (to_z w64 c.loop-at.at-bits) _ c.handed.result c.in_ok-eval_first_block.field-0
    (to_z-of_z w64 (to_z w64 c.loop-at.at-bits +ℤ pos 1) next) c.handed.ensures c.loop-at.invariant c.loop-at-test.true
    c.if-at-ge-LARGEST_INTEGER.false c.in_ok-take_unit.ensures c.in_ok-eval_first_block.ensures

pub eval_statements-eval_statement-requires : goal.eval_statements-eval_statement-requires
eval_statements-eval_statement-requires g t c κs within =
    let smaller : size_statement c.statement-item.result + 1 ≤ size_statements (statements c.args.body.now) =
    statement_size c.args.body.now c.loop-statement.statement-index c.statement-item.result c.loop-statement-test.true c.statement-item.is in
    search rules

pub eval_statements-returns-in_err-answer : goal.eval_statements-returns-in_err-answer
eval_statements-returns-in_err-answer g t c =
    let p = err_from_is_err_and c.from_residual.result c.from_residual.ensures.1 in
    rw (p.1, p.2) (statements_stop (outside c.args.depth) c.args.body.now c.args.place.now c.args.frame.now
    (g.O.Objects.seen c.args.objects.now) c.args.locals.now c.loop-statement.statement-index c.statement-item.result
    c.loop-statement.answer c.loop-statement-test.true c.statement-item.is c.loop-statement.invariant
    c.in_err-answer.field-0.0 c.in_err-answer.ensures)

pub eval_chain-eval_by_form-requires : goal.eval_chain-eval_by_form-requires
eval_chain-eval_by_form-requires g t c κs within =
    let smaller : size_send c.message-item.result + 1 ≤ size_sends (sends c.in-Some.before.now) =
    send_size c.in-Some.before.now c.loop-message.message-index c.message-item.result c.loop-message-test.true c.message-item.is in
    let whole : size_sends (sends c.args.messages.now) ≡ size_sends (sends c.in-Some.before.now) + (size_send c.in-Some.last.now + 1) =
    sizes_with_last c.args.messages.now c.in-Some.before.now c.in-Some.last.now c.in-Some.ensures.cases.0 in
    search rules

pub eval_chain-returns-in_err-receiver : goal.eval_chain-returns-in_err-receiver
eval_chain-returns-in_err-receiver g t c =
    let p = err_from_is_err_and c.from_residual.result c.from_residual.ensures.1 in
    rw (p.1, p.2) (chain_stops (outside c.args.depth) c.in-Some.before.now c.in-Some.last.now
    (messages_of (outside c.args.depth) (sends c.args.cascade.now)) c.args.place.now c.args.frame.now c.args.messages.now
    c.args.to_super c.args.receiver (g.O.Objects.seen c.args.objects.now) c.args.locals.now c.loop-message.message-index
    c.loop-message.to_super c.loop-message.receiver c.loop-message.invariant c.message-item.result c.loop-message-test.true
    c.message-item.is c.in_err-receiver.field-0.0 c.in_err-receiver.ensures)

pub eval_chain-loop-message-preserved : goal.eval_chain-loop-message-preserved
eval_chain-loop-message-preserved g t c =
    chain_goes_on (outside c.args.depth) c.in-Some.before.now c.in-Some.last.now
    (messages_of (outside c.args.depth) (sends c.args.cascade.now)) c.args.place.now c.args.frame.now c.args.messages.now
    c.args.to_super c.args.receiver (g.O.Objects.seen c.args.objects.now) c.args.locals.now c.loop-message.message-index
    c.loop-message.to_super c.loop-message.receiver c.loop-message.invariant c.message-item.result c.loop-message-test.true
    c.message-item.is c.in_ok-receiver.receiver c.in_ok-receiver.ensures

pub eval_chain-eval_last-requires : goal.eval_chain-eval_last-requires
eval_chain-eval_last-requires g t c κs within =
    let whole : size_sends (sends c.args.messages.now) ≡ size_sends (sends c.in-Some.before.now) + (size_send c.in-Some.last.now + 1) =
    sizes_with_last c.args.messages.now c.in-Some.before.now c.in-Some.last.now c.in-Some.ensures.cases.0 in
    search rules

pub eval_cascade-returns-in_err-answer : goal.eval_cascade-returns-in_err-answer
eval_cascade-returns-in_err-answer g t c =
    let p = err_from_is_err_and c.from_residual.result c.from_residual.ensures.1 in
    rw (p.1, p.2) (first_stops c.args.to_super c.args.receiver.now c.args.place.now c.args.frame.now (outside c.args.depth)
    c.args.message.now c.args.rest.now (g.O.Objects.seen c.args.objects.now) c.args.locals.now c.in_err-answer.field-0.0
    c.in_err-answer.ensures)

pub eval_cascade-eval_as_sent-requires-in-loop-next : goal.eval_cascade-eval_as_sent-requires-in-loop-next
eval_cascade-eval_as_sent-requires-in-loop-next g t c κs within =
    let smaller : size_send c.next-item.result + 1 ≤ size_sends (sends c.args.rest.now) =
    send_size c.args.rest.now c.loop-next.next-index c.next-item.result c.loop-next-test.true c.next-item.is in
    search rules

pub eval_cascade-returns-in_err-answer-2 : goal.eval_cascade-returns-in_err-answer-2
eval_cascade-returns-in_err-answer-2 g t c =
    let p = err_from_is_err_and c.from_residual-in_err-answer-2.result c.from_residual-in_err-answer-2.ensures.1 in
    rw (p.1, p.2) (cascade_stops c.args.to_super c.args.receiver.now c.args.place.now c.args.frame.now (outside c.args.depth)
    c.args.message.now c.args.rest.now (g.O.Objects.seen c.args.objects.now) c.args.locals.now c.loop-next.next-index
    c.loop-next.answer c.loop-next.invariant c.next-item.result c.loop-next-test.true c.next-item.is
    c.in_err-answer-2.field-0.0 c.in_err-answer-2.ensures)

pub eval_arguments-eval_expression-requires : goal.eval_arguments-eval_expression-requires
eval_arguments-eval_expression-requires g t c κs within =
    let smaller : size_expression c.argument-item.result + 1 ≤ size_expressions (expressions c.args.arguments.now) =
    argument_size c.args.arguments.now c.loop-argument.argument-index c.argument-item.result c.loop-argument-test.true
    c.argument-item.is in
    search rules

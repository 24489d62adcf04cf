use Rattle.std.proofs.Common.{◌+◌, ◌*◌, ◌^◌, ◌++◌, ◌∷◌, [], None, drop}
use Rattle.st_tree.specs.Trees.{sends, expressions, statements}
use Rattle.st_tree.specs.Falls.{size_head, size_closure, size_expression, size_send, size_statement, size_statements, size_sends, size_expressions, size_program}
use Rattle.st_tree.specs.Views.{head_of}
use Rattle.tree_meaning.specs.Parts.{first_argument, first_body, argument_values, cascade_in_turn, messages_in_turn, statements_in_turn}
use Rattle.tree_meaning.specs.Meaning.{head_in_place, messages_of, message_of, arguments_of, statement_runs}
use Rattle.gem_language.specs.Sends.{outside, callee, send_by}
use Rattle.running_objects.specs.Ran.{Leads}
use Rattle.st_plain.specs.Choices.{handed_value}
use Rattle.st_plain.proofs.Turns.{Turning, Counting}
use Rattle.st_plain.proofs.Lists.{statements_after, cascade_after}
use Rattle.st_plain.proofs.eval.+evaluation.Given as goal

abbrev pub decreases-eval_expression : goal.decreases-eval_expression
decreases-eval_expression g l = 2 ^ 44 * l.depth + 8 * (size_expression l.expression.now) + 1

abbrev pub decreases-eval_whole : goal.decreases-eval_whole
decreases-eval_whole g l = 2 ^ 44 * l.depth + 8 * (size_head (head_of l.head.now) + size_sends (sends l.messages.now) + size_sends (sends l.cascade.now)) + 7

abbrev pub decreases-eval_head : goal.decreases-eval_head
decreases-eval_head g l = 2 ^ 44 * l.depth + 8 * (size_head (head_of l.head.now)) + 1

abbrev pub decreases-eval_chain : goal.decreases-eval_chain
decreases-eval_chain g l = 2 ^ 44 * l.depth + 8 * (size_sends (sends l.messages.now) + size_sends (sends l.cascade.now)) + 6

abbrev pub decreases-eval_last : goal.decreases-eval_last
decreases-eval_last g l = 2 ^ 44 * l.depth + 8 * (size_send l.message.now + size_sends (sends l.cascade.now)) + 6

abbrev pub decreases-eval_cascade : goal.decreases-eval_cascade
decreases-eval_cascade g l = 2 ^ 44 * l.depth + 8 * (size_send l.message.now + size_sends (sends l.rest.now)) + 5

abbrev pub decreases-eval_as_sent : goal.decreases-eval_as_sent
decreases-eval_as_sent g l = 2 ^ 44 * l.depth + 8 * (size_send l.message.now) + 3

abbrev pub decreases-eval_by_form : goal.decreases-eval_by_form
decreases-eval_by_form g l = 2 ^ 44 * l.depth + 8 * (size_send l.message.now) + 4

abbrev pub decreases-eval_form : goal.decreases-eval_form
decreases-eval_form g l = 2 ^ 44 * l.depth + 8 * (size_expressions (expressions l.arguments.now)) + 9

abbrev pub decreases-eval_one_arm : goal.decreases-eval_one_arm
decreases-eval_one_arm g l = 2 ^ 44 * l.depth + 8 * (size_expressions (expressions l.arguments.now)) + 7

abbrev pub decreases-eval_two_arms : goal.decreases-eval_two_arms
decreases-eval_two_arms g l = 2 ^ 44 * l.depth + 8 * (size_expressions (expressions l.arguments.now)) + 7

abbrev pub decreases-eval_first_value : goal.decreases-eval_first_value
decreases-eval_first_value g l = 2 ^ 44 * l.depth + 8 * (size_expressions (expressions l.arguments.now)) + 2

abbrev pub decreases-eval_first_block : goal.decreases-eval_first_block
decreases-eval_first_block g l = 2 ^ 44 * l.depth + 8 * (size_expressions (expressions l.arguments.now)) + 4

abbrev pub decreases-eval_second_block : goal.decreases-eval_second_block
decreases-eval_second_block g l = 2 ^ 44 * l.depth + 8 * (size_expressions (expressions l.arguments.now)) + 5

abbrev pub decreases-eval_in_place : goal.decreases-eval_in_place
decreases-eval_in_place g l = 2 ^ 44 * l.depth + 8 * (size_head (head_of l.head.now)) + 3

abbrev pub decreases-eval_block : goal.decreases-eval_block
decreases-eval_block g l = 2 ^ 44 * l.depth + 8 * (size_closure l.block.now) + 5

abbrev pub decreases-eval_body : goal.decreases-eval_body
decreases-eval_body g l = 2 ^ 44 * l.depth + 8 * (size_closure l.block.now) + 4

abbrev pub decreases-eval_statements : goal.decreases-eval_statements
decreases-eval_statements g l = 2 ^ 44 * l.depth + 8 * (size_statements (statements l.body.now)) + 2

abbrev pub decreases-eval_statement : goal.decreases-eval_statement
decreases-eval_statement g l = 2 ^ 44 * l.depth + 8 * (size_statement l.statement.now) + 1

abbrev pub decreases-eval_while : goal.decreases-eval_while
decreases-eval_while g l = 2 ^ 44 * l.depth + 8 * (size_head (head_of l.head.now) + size_sends (sends l.messages.now)) + 6

abbrev pub decreases-eval_turns : goal.decreases-eval_turns
decreases-eval_turns g l = 2 ^ 44 * l.depth + 8 * (size_head (head_of l.head.now) + size_sends (sends l.messages.now)) + 5

abbrev pub decreases-eval_loop_body : goal.decreases-eval_loop_body
decreases-eval_loop_body g l = 2 ^ 44 * l.depth + 8 * (size_sends (sends l.messages.now)) + 4

abbrev pub decreases-eval_counting : goal.decreases-eval_counting
decreases-eval_counting g l = 2 ^ 44 * l.depth + 8 * (size_expressions (expressions l.arguments.now)) + 7

abbrev pub decreases-eval_repeating : goal.decreases-eval_repeating
decreases-eval_repeating g l = 2 ^ 44 * l.depth + 8 * (size_expressions (expressions l.arguments.now)) + 7

abbrev pub decreases-eval_counts : goal.decreases-eval_counts
decreases-eval_counts g l = 2 ^ 44 * l.depth + 8 * (size_expressions (expressions l.arguments.now)) + 6

abbrev pub decreases-eval_count : goal.decreases-eval_count
decreases-eval_count g l = 2 ^ 44 * l.depth + 8 * (size_expressions (expressions l.arguments.now)) + 5

abbrev pub decreases-eval_arguments : goal.decreases-eval_arguments
decreases-eval_arguments g l = 2 ^ 44 * l.depth + 8 * (size_expressions (expressions l.arguments.now)) + 8

abbrev pub decreases-send : goal.decreases-send
decreases-send g l = 2 ^ 44 * l.depth + 7

abbrev pub decreases-call_found : goal.decreases-call_found
decreases-call_found g l = 2 ^ 44 * l.depth + 6

abbrev pub decreases-call_code : goal.decreases-call_code
decreases-call_code g l = 2 ^ 44 * l.depth + 5

abbrev pub decreases-value_of_primitive : goal.decreases-value_of_primitive
decreases-value_of_primitive g l = 2 ^ 44 * l.depth + 4

abbrev pub decreases-call_source : goal.decreases-call_source
decreases-call_source g l = 2 ^ 44 * l.depth + 4

abbrev pub decreases-call_method : goal.decreases-call_method
decreases-call_method g l = 2 ^ 44 * l.depth + 2

abbrev pub decreases-call_block : goal.decreases-call_block
decreases-call_block g l = 2 ^ 44 * l.depth + 3

abbrev pub decreases-call_made : goal.decreases-call_made
decreases-call_made g l = 2 ^ 44 * l.depth + 2

abbrev pub decreases-activate : goal.decreases-activate
decreases-activate g l = 2 ^ 44 * l.depth + 8 * (size_program l.tree.now) + 9

abbrev pub decreases-eval_method : goal.decreases-eval_method
decreases-eval_method g l = 2 ^ 44 * l.depth + 8 * (size_program l.tree.now) + 8

abbrev pub decreases-evaluate : goal.decreases-evaluate
decreases-evaluate g l = 2 ^ 44 * l.depth + 8 * (size_closure l.made.now.tree) + 9

abbrev pub decreases-eval_made : goal.decreases-eval_made
decreases-eval_made g l = 2 ^ 44 * l.depth + 8 * (size_closure l.made.now.tree) + 8

abbrev pub invariant-eval_turns-loop-go : goal.invariant-eval_turns-loop-go
invariant-eval_turns-loop-go g l =
    Turning l.when
    (head_in_place (outside l.depth) (head_of l.head) l.place None l.frame)
    (first_body (messages_of (outside l.depth) (sends l.messages)) l.place l.frame)
    (g.O.Objects.seen l.fn.objects) l.fn.locals l.go (g.O.Objects.seen l.objects) l.locals

abbrev pub decreases-eval_turns-loop-go : goal.decreases-eval_turns-loop-go
decreases-eval_turns-loop-go g l = (g.O.Objects.seen l.objects).budget.units

abbrev pub invariant-eval_count-loop-at : goal.invariant-eval_count-loop-at
invariant-eval_count-loop-at g l =
    Counting l.number l.limit
    (λ number. (first_argument (arguments_of (outside l.depth) (expressions l.arguments))).in_place
    l.place (handed_value l.hands number) l.frame) l.answer
    (g.O.Objects.seen l.fn.objects) l.fn.locals l.at (g.O.Objects.seen l.objects) l.locals

abbrev pub decreases-eval_count-loop-at : goal.decreases-eval_count-loop-at
decreases-eval_count-loop-at g l = (g.O.Objects.seen l.objects).budget.units

-- the statements that are left come to what all of them come to from the start
abbrev pub invariant-eval_statements-loop-statement : goal.invariant-eval_statements-loop-statement
invariant-eval_statements-loop-statement g l =
    Leads (statements_in_turn (statement_runs (outside l.depth) (statements l.body)) l.place l.frame)
    (g.O.Objects.seen l.fn.objects) l.fn.locals
    (statements_after l.answer (statement_runs (outside l.depth) (statements (drop l.statement-index l.body))) l.place l.frame)
    (g.O.Objects.seen l.objects) l.locals

-- the same of messages
abbrev pub invariant-eval_chain-loop-message : goal.invariant-eval_chain-loop-message
invariant-eval_chain-loop-message g l =
    Leads (messages_in_turn (messages_of (outside l.depth) (sends l.messages)) (messages_of (outside l.depth) (sends l.cascade))
    l.fn.to_super l.fn.receiver l.place l.frame)
    (g.O.Objects.seen l.fn.objects) l.fn.locals
    (messages_in_turn (messages_of (outside l.depth) (sends (drop l.message-index l.before ++ l.last ∷ [])))
    (messages_of (outside l.depth) (sends l.cascade)) l.to_super l.receiver l.place l.frame)
    (g.O.Objects.seen l.objects) l.locals

abbrev pub invariant-eval_cascade-loop-next : goal.invariant-eval_cascade-loop-next
invariant-eval_cascade-loop-next g l =
    Leads (cascade_in_turn (message_of (outside l.depth) l.message) (messages_of (outside l.depth) (sends l.rest)) l.to_super
    l.receiver l.place l.frame)
    (g.O.Objects.seen l.fn.objects) l.fn.locals
    (cascade_after l.answer (messages_of (outside l.depth) (sends (drop l.next-index l.rest))) l.to_super l.receiver l.place
    l.frame)
    (g.O.Objects.seen l.objects) l.locals

abbrev pub invariant-eval_arguments-loop-argument : goal.invariant-eval_arguments-loop-argument
invariant-eval_arguments-loop-argument g l =
    Leads (argument_values (arguments_of (outside l.depth) (expressions l.arguments)) l.fn.values l.place l.frame
    (λ all. send_by (callee l.depth) l.to_super l.selector l.frame l.receiver all))
    (g.O.Objects.seen l.fn.objects) l.fn.locals
    (argument_values (arguments_of (outside l.depth) (expressions (drop l.argument-index l.arguments))) l.values l.place l.frame
    (λ all. send_by (callee l.depth) l.to_super l.selector l.frame l.receiver all))
    (g.O.Objects.seen l.objects) l.locals

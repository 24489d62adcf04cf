use Rattle.std.proofs.Common.{◌+◌, ◌*◌}
use Rattle.st_tree.specs.Trees.{sends, expressions, statements}
use Rattle.st_tree.specs.Falls.{size_head, size_closure, size_expression, size_send, size_statement, size_statements, size_sends, size_expressions}
use Rattle.st_tree.specs.Views.{head_of}
use Rattle.st_compiler.proofs.emit.+emission.Given as goal

abbrev pub decreases-emit_expression : goal.decreases-emit_expression
decreases-emit_expression l = 8 * (size_expression l.expression.now) + 1

abbrev pub decreases-emit_whole : goal.decreases-emit_whole
decreases-emit_whole l = 8 * (size_head (head_of l.head.now) + size_sends (sends l.messages.now) + size_sends (sends l.cascade.now)) + 7

abbrev pub decreases-emit_head : goal.decreases-emit_head
decreases-emit_head l = 8 * (size_head (head_of l.head.now)) + 1

abbrev pub decreases-emit_block : goal.decreases-emit_block
decreases-emit_block l = 8 * (size_closure l.block.now) + 6

abbrev pub decreases-closure_apart : goal.decreases-closure_apart
decreases-closure_apart l = 8 * (size_closure l.block.now) + 5

abbrev pub decreases-emit_in_place : goal.decreases-emit_in_place
decreases-emit_in_place l = 8 * (size_head (head_of l.head.now)) + 3

abbrev pub decreases-emit_block_in_place : goal.decreases-emit_block_in_place
decreases-emit_block_in_place l = 8 * (size_statements (statements l.body.now)) + 4

abbrev pub decreases-emit_body : goal.decreases-emit_body
decreases-emit_body l = 8 * (size_statements (statements l.body.now)) + 3

abbrev pub decreases-emit_statements : goal.decreases-emit_statements
decreases-emit_statements l = 8 * (size_statements (statements l.body.now)) + 2

abbrev pub decreases-emit_statement : goal.decreases-emit_statement
decreases-emit_statement l = 8 * (size_statement l.statement.now) + 1

abbrev pub decreases-emit_messages : goal.decreases-emit_messages
decreases-emit_messages l = 8 * (size_sends (sends l.messages.now) + size_sends (sends l.cascade.now)) + 6

abbrev pub decreases-emit_last : goal.decreases-emit_last
decreases-emit_last l = 8 * (size_send l.message.now + size_sends (sends l.cascade.now)) + 6

abbrev pub decreases-emit_cascade : goal.decreases-emit_cascade
decreases-emit_cascade l = 8 * (size_send l.message.now + size_sends (sends l.rest.now)) + 5

abbrev pub decreases-emit_as_sent : goal.decreases-emit_as_sent
decreases-emit_as_sent l = 8 * (size_expressions (expressions l.arguments.now)) + 8

abbrev pub decreases-emit_arguments : goal.decreases-emit_arguments
decreases-emit_arguments l = 8 * (size_expressions (expressions l.arguments.now)) + 6

abbrev pub decreases-emit_by_form : goal.decreases-emit_by_form
decreases-emit_by_form l = 8 * (size_send l.message.now) + 4

abbrev pub decreases-emit_form : goal.decreases-emit_form
decreases-emit_form l = 8 * (size_expressions (expressions l.arguments.now)) + 9

abbrev pub decreases-emit_one_arm : goal.decreases-emit_one_arm
decreases-emit_one_arm l = 8 * (size_expressions (expressions l.arguments.now)) + 8

abbrev pub decreases-emit_two_arms : goal.decreases-emit_two_arms
decreases-emit_two_arms l = 8 * (size_expressions (expressions l.arguments.now)) + 8

abbrev pub decreases-emit_counting : goal.decreases-emit_counting
decreases-emit_counting l = 8 * (size_expressions (expressions l.arguments.now)) + 8

abbrev pub decreases-emit_repeating : goal.decreases-emit_repeating
decreases-emit_repeating l = 8 * (size_expressions (expressions l.arguments.now)) + 8

abbrev pub decreases-repeated_apart : goal.decreases-repeated_apart
decreases-repeated_apart l = 8 * (size_expressions (expressions l.arguments.now)) + 7

abbrev pub decreases-emit_first_value : goal.decreases-emit_first_value
decreases-emit_first_value l = 8 * (size_expressions (expressions l.arguments.now)) + 2

abbrev pub decreases-emit_first_in_place : goal.decreases-emit_first_in_place
decreases-emit_first_in_place l = 8 * (size_expressions (expressions l.arguments.now)) + 4

abbrev pub decreases-first_apart : goal.decreases-first_apart
decreases-first_apart l = 8 * (size_expressions (expressions l.arguments.now)) + 5

abbrev pub decreases-second_apart : goal.decreases-second_apart
decreases-second_apart l = 8 * (size_expressions (expressions l.arguments.now)) + 6

abbrev pub decreases-emit_while : goal.decreases-emit_while
decreases-emit_while l = 8 * (size_head (head_of l.head.now) + size_sends (sends l.messages.now)) + 6

abbrev pub decreases-head_apart : goal.decreases-head_apart
decreases-head_apart l = 8 * (size_head (head_of l.head.now)) + 4

abbrev pub decreases-body_apart : goal.decreases-body_apart
decreases-body_apart l = 8 * (size_sends (sends l.messages.now)) + 5

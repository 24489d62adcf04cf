use Rattle.std.proofs.Common.{◌≡◌, ℕ, ◌+◌, false, true, length, sym, ◌∙◌, arith}
use Rattle.std.proofs.lemmas.Result.{on_ok_weaker}
use Rattle.st_tree.specs.Trees.{sends, expressions}
use Rattle.st_compiler.specs.TreeCode.{first_argument_code, rest_argument_codes, argument_codes, message_codes, message_code_of}
use Rattle.st_compiler.proofs.Emits.{sent_added, block_added, counting_added, last_added, messages_added, statements_added, while_added}
use Rattle.st_compiler.proofs.emit.+emission.Goals as goal

pub emit_as_sent-returns : goal.emit_as_sent-returns
emit_as_sent-returns t c =
    on_ok_weaker c.put.result
    (sent_added c.args.arguments.now c.args.place.now c.args.height (c.args.height + 1) c.args.to_super
    c.args.selector.now c.in_ok-send_op.field-0 (omega arith) c.in_ok-send_op.ensures c.in_ok-emit_arguments.ensures)
    c.put.ensures

pub emit_block-returns : goal.emit_block-returns
emit_block-returns t c =
    let number : c.len-number.result ≡ length c.args.blocks.now.items = c.len-number.ensures ∙ c.args.blocks.now.ok.0 in
    on_ok_weaker c.put_block.result
    (block_added c.args.block.now c.args.place.now c.empty_body.result c.block_body.result c.in_ok-own.own.items
    c.args.blocks.now.items c.push.new.self.items c.closure_apart.new.blocks.items c.put_block.new.blocks.items
    c.len-number.result c.args.code.now.items c.put_block.new.code.items number c.in_ok-push.ensures.items
    c.block_body.ensures.code c.in_ok-own.ensures c.block_body.ensures.body c.put_block.ensures.blocks)
    c.put_block.ensures.puts

pub emit_counting-returns : goal.emit_counting-returns
emit_counting-returns t c =
    let arguments = argument_codes (expressions c.args.arguments.now) in
    let place = c.args.place.now in
    on_ok_weaker c.put_count.result
    (counting_added (λ (h : ℕ). (first_argument_code arguments).value place h)
    (λ (h : ℕ). (first_argument_code (rest_argument_codes arguments)).in_place place true h)
    c.args.height (c.args.height + 2) (c.args.height + 3) (omega arith) (omega arith) c.in_ok-put.ensures
    c.in_ok-emit_first_value.ensures c.in_ok-put-2.ensures c.in_ok-body.ensures)
    c.put_count.ensures

pub emit_last-returns : goal.emit_last-returns
emit_last-returns t c =
    on_ok_weaker c.emit_cascade.result
    (last_added (message_code_of c.args.message.now) c.args.cascade.now c.args.to_super c.args.place.now c.args.height
    (sym c.is_empty.ensures ∙ c.if-is_empty.false))
    c.emit_cascade.ensures

pub emit_messages-returns : goal.emit_messages-returns
emit_messages-returns t c =
    on_ok_weaker c.emit_messages.result
    (messages_added c.args.messages.now c.in-Some.rest.now c.in-Some.message.now
    (message_codes (sends c.args.cascade.now)) c.args.to_super c.args.place.now c.args.height c.in-Some.ensures.cases.0
    (sym c.is_empty.ensures ∙ c.if-is_empty.false) c.in_ok-emit_by_form.ensures)
    c.emit_messages.ensures

pub emit_statements-returns : goal.emit_statements-returns
emit_statements-returns t c =
    on_ok_weaker c.emit_statements.result
    (statements_added c.args.body.now c.in-Some.rest.now c.in-Some.first.now c.args.place.now c.args.height
    c.in-Some.ensures.cases.0 (sym c.is_empty.ensures ∙ c.if-is_empty.false) c.in_ok-emit_statement.ensures
    c.in_ok-put.ensures)
    c.emit_statements.ensures

pub emit_while-returns : goal.emit_while-returns
emit_while-returns t c =
    on_ok_weaker c.put_while.result
    (while_added c.args.when c.in_ok-put.ensures c.in_ok-condition.ensures c.in_ok-body.ensures)
    c.put_while.ensures

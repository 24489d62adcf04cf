use Rattle.std.proofs.Common.{◌≡◌, ◌<◌, ◌+◌, ◌∷◌, ◌++◌, [], true, false, refl, sym, ap, subst, ◌∙◌, length, rules}
use Rattle.std.proofs.Common.{arith}
use Rattle.std.specs.Prelude.{nat_lt}
use Rattle.st_grammar.specs.declared.limits.TheConstants.{DEPTH_LIMIT}
use Rattle.st_tree.specs.Trees.{expression, expressions, no_expressions, sends, no_sends, statements, no_statements}
use Rattle.st_tree.specs.Trees.{send, block, closure}
use Rattle.st_grammar.specs.Tokens.{identifier, binary, bar, keyword}
use Rattle.st_tree.specs.Views.{head_of}
use Rattle.st_grammar.specs.Grammar.{word, scope, any_message, no_unary, no_message, is_minus}
use Rattle.st_grammar.specs.Fails.{every}
use Rattle.st_grammar_laws.specs.Machine.{machine_run, outer, alone, in_body, in_block, in_paren, in_params}
use Rattle.st_grammar_laws.specs.Machine.{binary_part, keyword_part, want, named, minus, have, begin, ended}
use Rattle.st_grammar_laws.specs.Machine.{after_semicolon, as_message, as_cascade, bare, added, depth_of}
use Rattle.st_grammar.specs.Tokens.{caret, close_bracket, period, semicolon}
use Rattle.st_parser.specs.Descent.{Runs, Suits, starts, is_kind, is_quiet, returns_of, holding}
use Rattle.st_parser.specs.Scopes.{scopes_seen}
use Rattle.st_parser.proofs.Steps.{hands_on, reached_after}
use Rattle.st_parser.proofs.Messages.{have_ended, unary_ended, keyword_ended, no_message_starts, selector_runs}
use Rattle.st_parser.proofs.Messages.{statement_ended, sends_more, statements_more, arguments_more, keyword_step}
use Rattle.st_parser.proofs.Messages.{part_step, semicolon_step, paren_opens, block_opens, name_step, caret_step}
use Rattle.st_parser.proofs.Messages.{plain_step, period_behind, last_period, suits_body, block_ends, block_stuck}
use Rattle.st_parser.proofs.Messages.{has_some, cascade_operator, cascade_keyword, minus_reached}
use Rattle.st_parser.proofs.expressions.+expression.Goals as goal

pub argument-returns-in_err-head-clause-met : goal.argument-returns-in_err-head-clause-met
argument-returns-in_err-head-clause-met t c =
    λ o role f selector es su.
    hands_on (want (outer (keyword_part o role f selector es)) [])
    (want (outer (keyword_part o role f selector es)) []) c.args.r.now c.args.r.now c.head.new.r _
    c.in_err-head.field-0.0 c.from_residual.result c.from_residual.ensures.1
    (refl)
    (c.in_err-head.ensures.met (outer (keyword_part o role f selector es)) [] su refl)

pub argument-returns-in_err-messages-clause-met : goal.argument-returns-in_err-messages-clause-met
argument-returns-in_err-messages-clause-met t c =
    λ o role f selector es su.
    hands_on (want (outer (keyword_part o role f selector es)) [])
    (have (outer (keyword_part o role f selector es))
    (bare [] (head_of c.in_ok-head.head)) any_message) c.args.r.now c.head.new.r c.unary_messages.new.r _
    c.in_err-messages.field-0.0 c.from_residual-in_err-messages.result c.from_residual-in_err-messages.ensures.1
    (c.in_ok-head.ensures.met (outer (keyword_part o role f selector es)) [] su refl)
    (c.in_err-messages.ensures.met (outer (keyword_part o role f selector es)) [] (head_of c.in_ok-head.head))

pub argument-returns-in_err-binary_messages-clause-met : goal.argument-returns-in_err-binary_messages-clause-met
argument-returns-in_err-binary_messages-clause-met t c =
    λ o role f selector es su.
    hands_on (want (outer (keyword_part o role f selector es)) [])
    (have (outer (keyword_part o role f selector es))
    (expression [] (head_of c.in_ok-head.head)
    (sends c.in_ok-messages.messages.items) no_sends) no_unary) c.args.r.now c.unary_messages.new.r
    c.binary_messages.new.r _ c.in_err-binary_messages.field-0.0 c.from_residual-in_err-binary_messages.result
    c.from_residual-in_err-binary_messages.ensures.1
    (c.in_ok-head.ensures.met (outer (keyword_part o role f selector es)) [] su refl
    ∙ c.in_ok-messages.ensures.met (outer (keyword_part o role f selector es)) [] (head_of c.in_ok-head.head)
    ∙ unary_ended (keyword_part o role f selector es)
    (expression [] (head_of c.in_ok-head.head)
    (sends c.in_ok-messages.messages.items) no_sends) c.unary_messages.new.r c.in_ok-messages.ensures.stops)
    (c.in_err-binary_messages.ensures.met (keyword_part o role f selector es) [] (head_of c.in_ok-head.head) su)

pub binary_message-returns-in_err-head-clause-met : goal.binary_message-returns-in_err-head-clause-met
binary_message-returns-in_err-head-clause-met t c =
    λ w role f su.
    hands_on (want (binary_part w role f c.args.selector.now) [])
    (want (binary_part w role f c.args.selector.now) []) c.args.r.now c.args.r.now c.head.new.r _
    c.in_err-head.field-0.0 c.from_residual.result c.from_residual.ensures.1
    (refl)
    (c.in_err-head.ensures.met (binary_part w role f c.args.selector.now) [] su refl)

pub binary_message-returns-in_err-messages-clause-met : goal.binary_message-returns-in_err-messages-clause-met
binary_message-returns-in_err-messages-clause-met t c =
    λ w role f su.
    hands_on (want (binary_part w role f c.args.selector.now) [])
    (have (binary_part w role f c.args.selector.now)
    (bare [] (head_of c.in_ok-head.head)) any_message) c.args.r.now c.head.new.r c.unary_messages.new.r _
    c.in_err-messages.field-0.0 c.from_residual-in_err-messages.result c.from_residual-in_err-messages.ensures.1
    (c.in_ok-head.ensures.met (binary_part w role f c.args.selector.now) [] su refl)
    (c.in_err-messages.ensures.met (binary_part w role f c.args.selector.now) [] (head_of c.in_ok-head.head))

pub binary_messages-returns-in_err-binary_message-clause-met :
    goal.binary_messages-returns-in_err-binary_message-clause-met
binary_messages-returns-in_err-binary_message-clause-met t c =
    λ w names h su.
    hands_on (have (outer w) (expression names h (sends c.args.messages.now.items) no_sends) no_unary)
    (want (binary_part w as_message
    (expression names h (sends c.binary.messages.items) no_sends) c.in-Some.selector.now) []) c.args.r.now
    c.skip.new.self c.binary_message.new.r _ c.in_err-binary_message.field-0.0 c.from_residual.result
    c.from_residual.ensures.1
    (c.binary.invariant.runs w names h su
    ∙ selector_runs w (expression names h
    (sends c.binary.messages.items) no_sends) c.in-Some.selector.now c.binary.r c.skip.new.self c.in-Some.ensures
    c.skip.ensures)
    (c.in_err-binary_message.ensures.met w as_message (expression names h (sends c.binary.messages.items) no_sends) su)

pub binary_messages-binary-preserved : goal.binary_messages-binary-preserved
binary_messages-binary-preserved t c =
    let pushed : c.push.new.self.items ≡ c.binary.messages.items ++ c.in_ok-binary_message.field-0
    ∷ [] = search rules in
    record {
      runs = λ w names h su. c.binary.invariant.runs w names h su
          ∙ selector_runs w (expression names h
          (sends c.binary.messages.items) no_sends) c.in-Some.selector.now c.binary.r c.skip.new.self c.in-Some.ensures
          c.skip.ensures ∙ c.in_ok-binary_message.ensures.met w as_message
          (expression names h (sends c.binary.messages.items) no_sends) su
          ∙ ap (λ ms. machine_run every
          (have (outer w) (expression names h ms no_sends) no_unary) c.binary_message.new.r)
          (sym (ap sends pushed ∙ sends_more c.binary.messages.items c.in_ok-binary_message.field-0));
      unary = c.in_ok-binary_message.ensures.stops;
      shorter = search rules;
    }

pub block-returns-in_err-names-clause-met : goal.block-returns-in_err-names-clause-met
block-returns-in_err-names-clause-met t c =
    λ k names su.
    let d : depth_of k ≡ c.args.depth = su.1 in
    let small : nat_lt (depth_of k) DEPTH_LIMIT ≡ true = search rules in
    hands_on (want k names) (in_params k names []) c.args.r.now c.skip.new.self c.block_names.new.r _
    c.in_err-names.field-0.0 c.from_residual.result c.from_residual.ensures.1
    (block_opens k names c.args.r.now c.skip.new.self c.requires.opens small c.skip.ensures)
    (c.in_err-names.ensures.met k names)

pub block-returns-in_err-body-clause-met : goal.block-returns-in_err-body-clause-met
block-returns-in_err-body-clause-met t c =
    λ k names su.
    let d : depth_of k ≡ c.args.depth = su.1 in
    let small : nat_lt (depth_of k) DEPTH_LIMIT ≡ true = search rules in
    let ps : c.in_ok-names.names.params.items ≡ c.deref.result.now = search rules in
    let ts : c.in_ok-names.names.temps.items ≡ c.deref-2.result.now = search rules in
    let suits : Suits (outer (alone
    (in_body (in_block k names c.deref.result.now c.deref-2.result.now no_statements) false)))
    (scopes_seen c.within-inner.result) (c.args.depth + 1) = (
      ap (λ ss. scope c.deref.result.now c.deref-2.result.now ∷ ss) su.0
          ∙ sym c.within-inner.ensures,
      omega (arith, d),
    ) in
    let before : Runs (want k names) c.args.r.now
    (begin (in_block k names c.deref.result.now c.deref-2.result.now no_statements)) c.block_names.new.r =
    block_opens k names c.args.r.now c.skip.new.self c.requires.opens small c.skip.ensures
    ∙ c.in_ok-names.ensures.met k names
    ∙ ap (λ xs. machine_run every
    (begin (in_block k names xs c.in_ok-names.names.temps.items no_statements)) c.block_names.new.r) ps
    ∙ ap (λ xs. machine_run every
    (begin (in_block k names c.deref.result.now xs no_statements)) c.block_names.new.r) ts in
    hands_on (want k names) (begin
    (in_block k names c.deref.result.now c.deref-2.result.now no_statements)) c.args.r.now c.block_names.new.r
    c.statements.new.r _ c.in_err-body.field-0.0 c.from_residual-in_err-body.result
    c.from_residual-in_err-body.ensures.1 before
    (c.in_err-body.ensures.met (in_block k names c.deref.result.now c.deref-2.result.now no_statements) suits)

pub block-returns-then-not-is_at-clause-met : goal.block-returns-then-not-is_at-clause-met
block-returns-then-not-is_at-clause-met t c =
    λ k names su.
    let d : depth_of k ≡ c.args.depth = su.1 in
    let small : nat_lt (depth_of k) DEPTH_LIMIT ≡ true = search rules in
    let ps : c.in_ok-names.names.params.items ≡ c.deref.result.now = search rules in
    let ts : c.in_ok-names.names.temps.items ≡ c.deref-2.result.now = search rules in
    let suits : Suits (outer (alone
    (in_body (in_block k names c.deref.result.now c.deref-2.result.now no_statements) false)))
    (scopes_seen c.within-inner.result) (c.args.depth + 1) = (
      ap (λ ss. scope c.deref.result.now c.deref-2.result.now ∷ ss) su.0
          ∙ sym c.within-inner.ensures,
      omega (arith, d),
    ) in
    let before : Runs (want k names) c.args.r.now
    (begin (in_block k names c.deref.result.now c.deref-2.result.now no_statements)) c.block_names.new.r =
    block_opens k names c.args.r.now c.skip.new.self c.requires.opens small c.skip.ensures
    ∙ c.in_ok-names.ensures.met k names
    ∙ ap (λ xs. machine_run every
    (begin (in_block k names xs c.in_ok-names.names.temps.items no_statements)) c.block_names.new.r) ps
    ∙ ap (λ xs. machine_run every
    (begin (in_block k names c.deref.result.now xs no_statements)) c.block_names.new.r) ts in
    let none : starts (is_kind close_bracket) c.statements.new.r ≡ false = search rules in
    before ∙ c.in_ok-body.ensures.met (in_block k names c.deref.result.now c.deref-2.result.now no_statements) suits
    ∙ block_stuck k names c.deref.result.now c.deref-2.result.now
    (statements c.in_ok-body.body.items) c.statements.new.r none

pub block-returns-clause-met : goal.block-returns-clause-met
block-returns-clause-met t c =
    λ k names su.
    let d : depth_of k ≡ c.args.depth = su.1 in
    let small : nat_lt (depth_of k) DEPTH_LIMIT ≡ true = search rules in
    let ps : c.in_ok-names.names.params.items ≡ c.deref.result.now = search rules in
    let ts : c.in_ok-names.names.temps.items ≡ c.deref-2.result.now = search rules in
    let suits : Suits (outer (alone
    (in_body (in_block k names c.deref.result.now c.deref-2.result.now no_statements) false)))
    (scopes_seen c.within-inner.result) (c.args.depth + 1) = (
      ap (λ ss. scope c.deref.result.now c.deref-2.result.now ∷ ss) su.0
          ∙ sym c.within-inner.ensures,
      omega (arith, d),
    ) in
    let before : Runs (want k names) c.args.r.now
    (begin (in_block k names c.deref.result.now c.deref-2.result.now no_statements)) c.block_names.new.r =
    block_opens k names c.args.r.now c.skip.new.self c.requires.opens small c.skip.ensures
    ∙ c.in_ok-names.ensures.met k names
    ∙ ap (λ xs. machine_run every
    (begin (in_block k names xs c.in_ok-names.names.temps.items no_statements)) c.block_names.new.r) ps
    ∙ ap (λ xs. machine_run every
    (begin (in_block k names c.deref.result.now xs no_statements)) c.block_names.new.r) ts in
    let some : starts (is_kind close_bracket) c.statements.new.r ≡ true = search rules in
    before ∙ c.in_ok-body.ensures.met (in_block k names c.deref.result.now c.deref-2.result.now no_statements) suits
    ∙ block_ends k names c.deref.result.now c.deref-2.result.now
    (statements c.in_ok-body.body.items) c.statements.new.r c.skip-2.new.self some c.skip-2.ensures
    ∙ ap (λ xs. machine_run every
    (have k (bare names (block (closure xs c.deref-2.result.now
    (statements c.in_ok-body.body.items)))) any_message) c.skip-2.new.self) (sym ps)
    ∙ ap (λ xs. machine_run every
    (have k (bare names (block (closure c.in_ok-names.names.params.items xs
    (statements c.in_ok-body.body.items)))) any_message) c.skip-2.new.self) (sym ts)

pub cascade-returns-in_err-message-clause-met : goal.cascade-returns-in_err-message-clause-met
cascade-returns-in_err-message-clause-met t c =
    let semi : starts (is_kind semicolon) c.cascade.r ≡ true = search rules in
    let some : 0 < length c.args.messages.now = search rules in
    λ o names h su.
    hands_on (have (outer (alone o)) (expression names h (sends c.args.messages.now) no_sends) no_message)
    (after_semicolon o (expression names h (sends c.args.messages.now)
    (sends c.cascade.cascade.items))) c.args.r.now c.skip.new.self c.message.new.r _ c.in_err-message.field-0.0
    c.from_residual.result c.from_residual.ensures.1
    (c.cascade.invariant.runs o names h su
    ∙ semicolon_step o (expression names h (sends c.args.messages.now)
    (sends c.cascade.cascade.items)) c.cascade.r c.skip.new.self semi
    (has_some names h c.args.messages.now (sends c.cascade.cascade.items) some) c.skip.ensures)
    (c.in_err-message.ensures.met o (expression names h (sends c.args.messages.now) (sends c.cascade.cascade.items)) su)

pub cascade-cascade-preserved : goal.cascade-cascade-preserved
cascade-cascade-preserved t c =
    let semi : starts (is_kind semicolon) c.cascade.r ≡ true = search rules in
    let some : 0 < length c.args.messages.now = search rules in
    let pushed : c.push.new.self.items ≡ c.cascade.cascade.items ++ c.in_ok-message.field-0 ∷ [] = search rules in
    record {
      runs = λ o names h su. c.cascade.invariant.runs o names h su
          ∙ semicolon_step o (expression names h (sends c.args.messages.now)
          (sends c.cascade.cascade.items)) c.cascade.r c.skip.new.self semi
          (has_some names h c.args.messages.now (sends c.cascade.cascade.items) some) c.skip.ensures
          ∙ c.in_ok-message.ensures.met o
          (expression names h (sends c.args.messages.now) (sends c.cascade.cascade.items)) su
          ∙ ap (λ cs. machine_run every
          (have (outer (alone o)) (expression names h (sends c.args.messages.now) cs) no_message) c.message.new.r)
          (sym (ap sends pushed ∙ sends_more c.cascade.cascade.items c.in_ok-message.field-0));
      shorter = search rules;
    }

pub expression-returns-in_err-head-clause-met : goal.expression-returns-in_err-head-clause-met
expression-returns-in_err-head-clause-met t c =
    λ o su.
    hands_on (want (outer (alone o)) [])
    (want (outer (alone o)) c.in_ok-assigns.assigns.items) c.args.r.now c.assignments.new.r c.head.new.r _
    c.in_err-head.field-0.0 c.from_residual-in_err-head.result c.from_residual-in_err-head.ensures.1
    (c.in_ok-assigns.ensures.met o su.0)
    (c.in_err-head.ensures.met (outer (alone o)) c.in_ok-assigns.assigns.items su refl)

pub expression-returns-in_err-messages-clause-met : goal.expression-returns-in_err-messages-clause-met
expression-returns-in_err-messages-clause-met t c =
    λ o su.
    hands_on (want (outer (alone o)) [])
    (have (outer (alone o)) (bare c.in_ok-assigns.assigns.items
    (head_of c.in_ok-head.head)) any_message) c.args.r.now c.head.new.r c.messages.new.r _ c.in_err-messages.field-0.0
    c.from_residual-in_err-messages.result c.from_residual-in_err-messages.ensures.1
    (c.in_ok-assigns.ensures.met o su.0
    ∙ c.in_ok-head.ensures.met (outer (alone o)) c.in_ok-assigns.assigns.items su refl)
    (c.in_err-messages.ensures.met o c.in_ok-assigns.assigns.items (head_of c.in_ok-head.head) su)

pub expression-returns-in_err-cascade-clause-met : goal.expression-returns-in_err-cascade-clause-met
expression-returns-in_err-cascade-clause-met t c =
    λ o su.
    let lent : c.in_ok-messages.messages.items ≡ c.deref.result.now = search rules in
    hands_on (want (outer (alone o)) [])
    (have (outer (alone o)) (expression c.in_ok-assigns.assigns.items (head_of c.in_ok-head.head)
    (sends c.deref.result.now) no_sends) no_message) c.args.r.now c.messages.new.r c.cascade.new.r _
    c.in_err-cascade.field-0.0 c.from_residual-in_err-cascade.result c.from_residual-in_err-cascade.ensures.1
    (c.in_ok-assigns.ensures.met o su.0
    ∙ c.in_ok-head.ensures.met (outer (alone o)) c.in_ok-assigns.assigns.items su refl
    ∙ c.in_ok-messages.ensures.met o c.in_ok-assigns.assigns.items (head_of c.in_ok-head.head) su
    ∙ ap (λ ms. machine_run every
    (have (outer (alone o)) (expression c.in_ok-assigns.assigns.items (head_of c.in_ok-head.head)
    (sends ms) no_sends) no_message) c.messages.new.r) lent)
    (c.in_err-cascade.ensures.met o c.in_ok-assigns.assigns.items (head_of c.in_ok-head.head) su)

pub expression-returns-clause-quiet : goal.expression-returns-clause-quiet
expression-returns-clause-quiet t c =
    let lent : c.deref.result.now ≡ c.in_ok-messages.messages.items = search rules in
    subst (λ ms. is_quiet (expression c.in_ok-assigns.assigns.items (head_of c.in_ok-head.head) (sends ms)
    (sends c.in_ok-cascade.cascade.items)) c.cascade.new.r) lent
    (c.in_ok-cascade.ensures.quiet c.in_ok-assigns.assigns.items (head_of c.in_ok-head.head)
    (sends c.in_ok-cascade.cascade.items))

pub head-returns-in-Identifier-clause-met : goal.head-returns-in-Identifier-clause-met
head-returns-in-Identifier-clause-met t c =
    λ k names su lv.
    let shown : c.args.r.now ≡ word identifier c.in-Some.lexeme.bytes.now c.in-Some.lexeme.touches
    ∷ c.skip.new.self = search rules in
    reached_after (want k names)
    (named k names c.in-Some.lexeme.bytes.now) c.args.r.now c.skip.new.self c.variable.new.r _ c.variable.result
    (name_step k names _ _ c.args.r.now c.skip.new.self shown) (c.variable.ensures.met k names lv)

pub head-returns-else-not-is_minus-clause-met : goal.head-returns-else-not-is_minus-clause-met
head-returns-else-not-is_minus-clause-met t c =
    λ k names su lv.
    let shown : c.args.r.now ≡ word binary c.in-Some.lexeme.bytes.now c.in-Some.lexeme.touches
    ∷ c.skip-in-Binary.new.self = search rules in
    let minus_first : is_minus c.in-Some.lexeme.bytes.now ≡ true = search rules in
    reached_after (want k names)
    (minus k names) c.args.r.now c.skip-in-Binary.new.self c.negative_number.new.r _ c.negative_number.result
    (minus_reached k names _ _ c.args.r.now c.skip-in-Binary.new.self minus_first shown)
    (c.negative_number.ensures.met k names)

pub head-returns-in-OpenParen-clause-met : goal.head-returns-in-OpenParen-clause-met
head-returns-in-OpenParen-clause-met t c =
    λ k names su lv. c.paren.ensures.met k names su

pub head-returns-in-OpenBracket-clause-met : goal.head-returns-in-OpenBracket-clause-met
head-returns-in-OpenBracket-clause-met t c =
    λ k names su lv. c.block.ensures.met k names su

pub head-returns-in_default-kind : goal.head-returns-in_default-kind
head-returns-in_default-kind t c =
    record { met = λ k names su lv. c.literal_head.ensures.met k names; shorter = c.literal_head.ensures.shorter }

pub keyword_message-returns-in_err-argument-clause-met : goal.keyword_message-returns-in_err-argument-clause-met
keyword_message-returns-in_err-argument-clause-met t c =
    λ o role f su.
    hands_on (want (outer (keyword_part o role f c.args.first.now no_expressions)) [])
    (want (outer (keyword_part o role f c.parts.selector.items
    (expressions c.parts.args.items))) []) c.args.r.now c.parts.r c.argument.new.r _ c.in_err-argument.field-0.0
    c.from_residual-in_err-argument.result c.from_residual-in_err-argument.ensures.1
    (c.parts.invariant.runs o role f su)
    (c.in_err-argument.ensures.met o role f c.parts.selector.items (expressions c.parts.args.items) su)

pub keyword_message-returns-in_default-clause-met : goal.keyword_message-returns-in_default-clause-met
keyword_message-returns-in_default-clause-met t c =
    let pushed : c.push.new.self.items ≡ c.parts.args.items ++ c.in_ok-argument.field-0 ∷ [] = search rules in
    let none : starts (is_kind keyword) c.argument.new.r ≡ false = search rules in
    λ o role f su. c.parts.invariant.runs o role f su
    ∙ c.in_ok-argument.ensures.met o role f c.parts.selector.items (expressions c.parts.args.items) su
    ∙ keyword_ended o role f c.parts.selector.items
    (expressions c.parts.args.items) c.in_ok-argument.field-0 no_unary c.argument.new.r
    (no_message_starts c.argument.new.r c.in_ok-argument.ensures.stops none)
    ∙ ap (λ es. machine_run every
    (have (outer (alone o)) (added role f (send c.parts.selector.items es)) no_message) c.argument.new.r)
    (sym (ap expressions pushed ∙ arguments_more c.parts.args.items c.in_ok-argument.field-0))
    ∙ ap (λ x. machine_run every
    (have (outer (alone o)) (added role f (send x (expressions c.push.new.self.items))) no_message) c.argument.new.r)
    (sym c.of.ensures)

pub keyword_message-parts-preserved : goal.keyword_message-parts-preserved
keyword_message-parts-preserved t c =
    let pushed : c.push.new.self.items ≡ c.parts.args.items ++ c.in_ok-argument.field-0 ∷ [] = search rules in
    let shown : c.argument.new.r ≡ word keyword c.in-Some-Keyword.bytes.now c.in-Some-Keyword.field-0.touches
    ∷ c.skip.new.self = search rules in
    let longer : c.extend_from_slice.new.self.items ≡ c.parts.selector.items
    ++ c.in-Some-Keyword.bytes.now = search rules in
    record {
      runs = λ o role f su. c.parts.invariant.runs o role f su
          ∙ c.in_ok-argument.ensures.met o role f c.parts.selector.items (expressions c.parts.args.items) su
          ∙ part_step o role f c.parts.selector.items
          (expressions c.parts.args.items) c.in_ok-argument.field-0 c.in-Some-Keyword.bytes.now _ c.argument.new.r
          c.skip.new.self shown
          ∙ ap (λ es. machine_run every
          (want (outer (keyword_part o role f
          (c.parts.selector.items ++ c.in-Some-Keyword.bytes.now) es)) []) c.skip.new.self)
          (sym (ap expressions pushed ∙ arguments_more c.parts.args.items c.in_ok-argument.field-0))
          ∙ ap (λ x. machine_run every
          (want (outer (keyword_part o role f x (expressions c.push.new.self.items))) []) c.skip.new.self) (sym longer);
      shorter = search rules;
    }

pub message-returns-in-Binary-clause-met : goal.message-returns-in-Binary-clause-met
message-returns-in-Binary-clause-met t c =
    λ o e su.
    let shown : c.args.r.now ≡ word binary c.in-Some.lexeme.bytes.now c.in-Some.lexeme.touches
    ∷ c.skip-in-Binary.new.self = search rules in
    reached_after (after_semicolon o e)
    (want (binary_part (alone o) as_cascade e c.in-Some.lexeme.bytes.now) []) c.args.r.now c.skip-in-Binary.new.self
    c.binary_message.new.r _ c.binary_message.result
    (cascade_operator o e binary _ _ c.args.r.now c.skip-in-Binary.new.self refl shown)
    (c.binary_message.ensures.met (alone o) as_cascade e su)

pub message-returns-in-Bar-clause-met : goal.message-returns-in-Bar-clause-met
message-returns-in-Bar-clause-met t c =
    λ o e su.
    let shown : c.args.r.now ≡ word bar c.in-Some.lexeme.bytes.now c.in-Some.lexeme.touches
    ∷ c.skip-in-Bar.new.self = search rules in
    reached_after (after_semicolon o e)
    (want (binary_part (alone o) as_cascade e c.in-Some.lexeme.bytes.now) []) c.args.r.now c.skip-in-Bar.new.self
    c.binary_message-in-Bar.new.r _ c.binary_message-in-Bar.result
    (cascade_operator o e bar _ _ c.args.r.now c.skip-in-Bar.new.self refl shown)
    (c.binary_message-in-Bar.ensures.met (alone o) as_cascade e su)

pub message-returns-in-Keyword-clause-met : goal.message-returns-in-Keyword-clause-met
message-returns-in-Keyword-clause-met t c =
    λ o e su.
    let shown : c.args.r.now ≡ word keyword c.in-Some.lexeme.bytes.now c.in-Some.lexeme.touches
    ∷ c.skip-in-Keyword.new.self = search rules in
    reached_after (after_semicolon o e)
    (want (outer (keyword_part o as_cascade e c.in-Some.lexeme.bytes.now no_expressions)) []) c.args.r.now
    c.skip-in-Keyword.new.self c.keyword_message.new.r _ c.keyword_message.result
    (cascade_keyword o e _ _ c.args.r.now c.skip-in-Keyword.new.self shown)
    (c.keyword_message.ensures.met o as_cascade e su)

pub messages-returns-in_err-messages-clause-met : goal.messages-returns-in_err-messages-clause-met
messages-returns-in_err-messages-clause-met t c =
    λ o names h su.
    hands_on (have (outer (alone o)) (bare names h) any_message)
    (have (outer (alone o)) (bare names h) any_message) c.args.r.now c.args.r.now c.unary_messages.new.r _
    c.in_err-messages.field-0.0 c.from_residual.result c.from_residual.ensures.1
    (refl)
    (c.in_err-messages.ensures.met (outer (alone o)) names h)

pub messages-returns-in_err-binary_messages-clause-met : goal.messages-returns-in_err-binary_messages-clause-met
messages-returns-in_err-binary_messages-clause-met t c =
    λ o names h su.
    hands_on (have (outer (alone o)) (bare names h) any_message)
    (have (outer (alone o)) (expression names h
    (sends c.in_ok-messages.messages.items) no_sends) no_unary) c.args.r.now c.unary_messages.new.r
    c.binary_messages.new.r _ c.in_err-binary_messages.field-0.0 c.from_residual-in_err-binary_messages.result
    c.from_residual-in_err-binary_messages.ensures.1
    (c.in_ok-messages.ensures.met (outer (alone o)) names h
    ∙ unary_ended (alone o) (expression names h
    (sends c.in_ok-messages.messages.items) no_sends) c.unary_messages.new.r c.in_ok-messages.ensures.stops)
    (c.in_err-binary_messages.ensures.met (alone o) names h su)

pub messages-returns-in_err-keyword_message-clause-met : goal.messages-returns-in_err-keyword_message-clause-met
messages-returns-in_err-keyword_message-clause-met t c =
    let shown : c.binary_messages.new.r
    ≡ word keyword c.in-Some-Keyword.field-0.bytes.now c.in-Some-Keyword.field-0.touches
    ∷ c.skip.new.self = search rules in
    λ o names h su.
    hands_on (have (outer (alone o)) (bare names h) any_message)
    (want (outer (keyword_part o as_message
    (expression names h (sends c.binary_messages.new.messages.items) no_sends) c.in-Some-Keyword.field-0.bytes.now
    no_expressions)) []) c.args.r.now c.skip.new.self c.keyword_message.new.r _ c.in_err-keyword_message.field-0.0
    c.from_residual-in_err-keyword_message.result c.from_residual-in_err-keyword_message.ensures.1
    (c.in_ok-messages.ensures.met (outer (alone o)) names h
    ∙ unary_ended (alone o) (expression names h
    (sends c.in_ok-messages.messages.items) no_sends) c.unary_messages.new.r c.in_ok-messages.ensures.stops
    ∙ c.in_ok-binary_messages.ensures.met (alone o) names h su
    ∙ keyword_step o (expression names h
    (sends c.binary_messages.new.messages.items) no_sends) c.in-Some-Keyword.field-0.bytes.now _ c.binary_messages.new.r
    c.skip.new.self shown)
    (c.in_err-keyword_message.ensures.met o as_message
    (expression names h (sends c.binary_messages.new.messages.items) no_sends) su)

pub messages-returns-in-Some-Keyword-clause-met : goal.messages-returns-in-Some-Keyword-clause-met
messages-returns-in-Some-Keyword-clause-met t c =
    let shown : c.binary_messages.new.r
    ≡ word keyword c.in-Some-Keyword.field-0.bytes.now c.in-Some-Keyword.field-0.touches
    ∷ c.skip.new.self = search rules in
    let pushed : c.push.new.self.items ≡ c.binary_messages.new.messages.items ++ c.in_ok-keyword_message.field-0
    ∷ [] = search rules in
    λ o names h su. c.in_ok-messages.ensures.met (outer (alone o)) names h
    ∙ unary_ended (alone o) (expression names h
    (sends c.in_ok-messages.messages.items) no_sends) c.unary_messages.new.r c.in_ok-messages.ensures.stops
    ∙ c.in_ok-binary_messages.ensures.met (alone o) names h su
    ∙ keyword_step o (expression names h
    (sends c.binary_messages.new.messages.items) no_sends) c.in-Some-Keyword.field-0.bytes.now _ c.binary_messages.new.r
    c.skip.new.self shown ∙ c.in_ok-keyword_message.ensures.met o as_message
    (expression names h (sends c.binary_messages.new.messages.items) no_sends) su
    ∙ ap (λ ms. machine_run every
    (have (outer (alone o)) (expression names h ms no_sends) no_message) c.keyword_message.new.r)
    (sym (ap sends pushed ∙ sends_more c.binary_messages.new.messages.items c.in_ok-keyword_message.field-0))

pub messages-returns-clause-met : goal.messages-returns-clause-met
messages-returns-clause-met t c =
    let none : starts (is_kind keyword) c.binary_messages.new.r ≡ false = search rules in
    λ o names h su. c.in_ok-messages.ensures.met (outer (alone o)) names h
    ∙ unary_ended (alone o) (expression names h
    (sends c.in_ok-messages.messages.items) no_sends) c.unary_messages.new.r c.in_ok-messages.ensures.stops
    ∙ c.in_ok-binary_messages.ensures.met (alone o) names h su
    ∙ have_ended (outer (alone o))
    (expression names h (sends c.binary_messages.new.messages.items) no_sends) no_unary c.binary_messages.new.r
    (no_message_starts c.binary_messages.new.r c.in_ok-binary_messages.ensures.stops none)

pub paren-returns-in_err-inner-clause-met : goal.paren-returns-in_err-inner-clause-met
paren-returns-in_err-inner-clause-met t c =
    λ k names su.
    let d : depth_of k ≡ c.args.depth = su.1 in
    let small : nat_lt (depth_of k) DEPTH_LIMIT ≡ true = search rules in
    hands_on (want k names) (want
    (outer (alone (in_paren k names))) []) c.args.r.now c.skip.new.self c.expression.new.r _ c.in_err-inner.field-0.0
    c.from_residual.result c.from_residual.ensures.1
    (paren_opens k names c.args.r.now c.skip.new.self c.requires.opens small c.skip.ensures)
    (c.in_err-inner.ensures.met (in_paren k names) (su.0, omega (arith, d)))

pub statement-returns-in_err-expression-clause-met : goal.statement-returns-in_err-expression-clause-met
statement-returns-in_err-expression-clause-met t c =
    λ b su.
    let caret_first : starts (is_kind caret) c.args.r.now ≡ true = search rules in
    hands_on (begin b) (want (outer
    (alone (in_body b true))) []) c.args.r.now c.skip.new.self c.expression.new.r _ c.in_err-expression.field-0.0
    c.from_residual.result c.from_residual.ensures.1
    (caret_step b c.args.r.now c.skip.new.self caret_first c.skip.ensures)
    (c.in_err-expression.ensures.met (in_body b true) su)

pub statement-returns-in_err-expression-2-clause-met : goal.statement-returns-in_err-expression-2-clause-met
statement-returns-in_err-expression-2-clause-met t c =
    λ b su.
    let none : starts (is_kind caret) c.args.r.now ≡ false = search rules in
    hands_on (begin b) (want (outer
    (alone (in_body b false))) []) c.args.r.now c.args.r.now c.expression-2.new.r _ c.in_err-expression-2.field-0.0
    c.from_residual-in_err-expression-2.result c.from_residual-in_err-expression-2.ensures.1
    (plain_step b c.args.r.now c.requires.begins none) (c.in_err-expression-2.ensures.met (in_body b false) su)

pub statement-returns-clause-met : goal.statement-returns-clause-met
statement-returns-clause-met t c =
    λ b su.
    let none : starts (is_kind caret) c.args.r.now ≡ false = search rules in
    plain_step b c.args.r.now c.requires.begins none ∙ c.in_ok-expression-2.ensures.met (in_body b false) su

pub statements-returns-in_err-statement-clause-met : goal.statements-returns-in_err-statement-clause-met
statements-returns-in_err-statement-clause-met t c =
    λ b su.
    hands_on (begin (holding b no_statements))
    (begin (holding b (statements c.statements.body.items))) c.args.r.now c.statements.r c.statement.new.r _
    c.in_err-statement.field-0.0 c.from_residual.result c.from_residual.ensures.1
    (c.statements.invariant.runs b su)
    (c.in_err-statement.ensures.met (holding b (statements c.statements.body.items))
    (suits_body b (statements c.statements.body.items) false (scopes_seen c.args.scopes.now) c.args.depth su))

pub statements-returns-then-not-is_at-clause-met : goal.statements-returns-then-not-is_at-clause-met
statements-returns-then-not-is_at-clause-met t c =
    let pushed : c.push.new.self.items ≡ c.statements.body.items ++ c.in_ok-statement.field-0 ∷ [] = search rules in
    let no_period : starts (is_kind period) c.statement.new.r ≡ false = search rules in
    λ b su. c.statements.invariant.runs b su
    ∙ c.in_ok-statement.ensures.met (holding b (statements c.statements.body.items))
    (suits_body b (statements c.statements.body.items) false (scopes_seen c.args.scopes.now) c.args.depth su)
    ∙ statement_ended b (statements c.statements.body.items) c.in_ok-statement.field-0 c.statement.new.r no_period
    c.in_ok-statement.ensures.quiet
    ∙ ap (λ ss. machine_run every (ended (holding b ss)) c.statement.new.r)
    (sym (ap statements pushed ∙ statements_more c.statements.body.items c.in_ok-statement.field-0))

pub statements-returns-then-returns-clause-met : goal.statements-returns-then-returns-clause-met
statements-returns-then-returns-clause-met t c =
    let pushed : c.push.new.self.items ≡ c.statements.body.items ++ c.in_ok-statement.field-0 ∷ [] = search rules in
    let period_first : starts (is_kind period) c.statement.new.r ≡ true = search rules in
    let last : returns_of c.in_ok-statement.field-0 ≡ true = search rules in
    λ b su. c.statements.invariant.runs b su
    ∙ c.in_ok-statement.ensures.met (holding b (statements c.statements.body.items))
    (suits_body b (statements c.statements.body.items) false (scopes_seen c.args.scopes.now) c.args.depth su)
    ∙ last_period b (statements c.statements.body.items) c.in_ok-statement.field-0 c.statement.new.r c.skip.new.self
    period_first last c.skip.ensures
    ∙ ap (λ ss. machine_run every (ended (holding b ss)) c.skip.new.self)
    (sym (ap statements pushed ∙ statements_more c.statements.body.items c.in_ok-statement.field-0))

pub statements-statements-preserved : goal.statements-statements-preserved
statements-statements-preserved t c =
    let pushed : c.push.new.self.items ≡ c.statements.body.items ++ c.in_ok-statement.field-0 ∷ [] = search rules in
    let period_first : starts (is_kind period) c.statement.new.r ≡ true = search rules in
    let more : returns_of c.in_ok-statement.field-0 ≡ false = search rules in
    record {
      runs = λ b su. c.statements.invariant.runs b su
          ∙ c.in_ok-statement.ensures.met (holding b (statements c.statements.body.items))
          (suits_body b (statements c.statements.body.items) false (scopes_seen c.args.scopes.now) c.args.depth su)
          ∙ period_behind b (statements c.statements.body.items) c.in_ok-statement.field-0 c.statement.new.r
          c.skip.new.self period_first more c.skip.ensures
          ∙ ap (λ ss. machine_run every (begin (holding b ss)) c.skip.new.self)
          (sym (ap statements pushed ∙ statements_more c.statements.body.items c.in_ok-statement.field-0));
      shorter = search rules;
    }

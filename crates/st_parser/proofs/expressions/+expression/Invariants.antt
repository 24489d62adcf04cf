use Rattle.std.proofs.Common.{◌≡◌, ◌+◌, ◌*◌, ◌≤◌, false, List, [], length}
use Rattle.texts.specs.Bytes.{Bytes}
use Rattle.st_tree.specs.Trees.{Head, Expression, expression, sends, no_sends, statements, no_statements, expressions}
use Rattle.st_tree.specs.Trees.{no_expressions}
use Rattle.st_grammar.specs.Grammar.{no_unary, no_message}
use Rattle.st_grammar_laws.specs.Machine.{Seat, Wide, Body, Role, outer, alone, in_body, keyword_part, want, have}
use Rattle.st_grammar_laws.specs.Machine.{begin}
use Rattle.st_grammar.specs.Tokens.{identifier}
use Rattle.st_parser.specs.Descent.{Runs, Suits, holding, starts, is_kind}
use Rattle.st_parser.specs.Scopes.{scopes_seen}
use Rattle.st_parser.proofs.expressions.+expression.Given as goal

abbrev pub decreases-statements : goal.decreases-statements
decreases-statements l = 16 * length l.r.now + 9

abbrev pub decreases-statement : goal.decreases-statement
decreases-statement l = 16 * length l.r.now + 8

abbrev pub decreases-expression : goal.decreases-expression
decreases-expression l = 16 * length l.r.now + 7

abbrev pub decreases-keyword_message : goal.decreases-keyword_message
decreases-keyword_message l = 16 * length l.r.now + 6

abbrev pub decreases-argument : goal.decreases-argument
decreases-argument l = 16 * length l.r.now + 5

abbrev pub decreases-binary_message : goal.decreases-binary_message
decreases-binary_message l = 16 * length l.r.now + 4

abbrev pub decreases-head : goal.decreases-head
decreases-head l = 16 * length l.r.now + 3

abbrev pub decreases-paren : goal.decreases-paren
decreases-paren l = 16 * length l.r.now + 2

abbrev pub decreases-block : goal.decreases-block
decreases-block l = 16 * length l.r.now + 2

abbrev pub decreases-messages : goal.decreases-messages
decreases-messages l = 16 * length l.r.now + 6

abbrev pub decreases-binary_messages : goal.decreases-binary_messages
decreases-binary_messages l = 16 * length l.r.now + 5

abbrev pub decreases-cascade : goal.decreases-cascade
decreases-cascade l = 16 * length l.r.now + 6

abbrev pub decreases-message : goal.decreases-message
decreases-message l = 16 * length l.r.now + 6

abbrev pub invariant-statements-statements : goal.invariant-statements-statements
invariant-statements-statements l = record {
  runs : (b : Body) → Suits (outer (alone (in_body b false))) (scopes_seen l.scopes) l.depth
      → Runs (begin (holding b no_statements)) l.fn.r
      (begin (holding b (statements l.body.items))) l.r;
  shorter : length l.r ≤ length l.fn.r;
}

abbrev pub decreases-statements-statements : goal.decreases-statements-statements
decreases-statements-statements l = length l.r

abbrev pub invariant-cascade-cascade : goal.invariant-cascade-cascade
invariant-cascade-cascade l = record {
  runs : (o : Seat) (names : List Bytes) (h : Head)
      → Suits (outer (alone o)) (scopes_seen l.scopes) l.depth
      → Runs (have (outer (alone o)) (expression names h (sends l.messages) no_sends) no_message) l.fn.r
      (have (outer (alone o)) (expression names h (sends l.messages) (sends l.cascade.items)) no_message) l.r;
  shorter : length l.r ≤ length l.fn.r;
}

abbrev pub decreases-cascade-cascade : goal.decreases-cascade-cascade
decreases-cascade-cascade l = length l.r

abbrev pub invariant-binary_messages-binary : goal.invariant-binary_messages-binary
invariant-binary_messages-binary l = record {
  runs : (w : Wide) (names : List Bytes) (h : Head) → Suits (outer w) (scopes_seen l.scopes) l.depth
      → Runs (have (outer w) (expression names h (sends l.fn.messages.items) no_sends) no_unary) l.fn.r
      (have (outer w) (expression names h (sends l.messages.items) no_sends) no_unary) l.r;
  unary : starts (is_kind identifier) l.r ≡ false;
  shorter : length l.r ≤ length l.fn.r;
}

abbrev pub decreases-binary_messages-binary : goal.decreases-binary_messages-binary
decreases-binary_messages-binary l = length l.r

abbrev pub invariant-keyword_message-parts : goal.invariant-keyword_message-parts
invariant-keyword_message-parts l = record {
  runs : (o : Seat) (role : Role) (f : Expression)
      → Suits (outer (alone o)) (scopes_seen l.scopes) l.depth
      → Runs (want (outer (keyword_part o role f l.first no_expressions)) []) l.fn.r
      (want (outer (keyword_part o role f l.selector.items (expressions l.args.items))) []) l.r;
  shorter : length l.r ≤ length l.fn.r;
}

abbrev pub decreases-keyword_message-parts : goal.decreases-keyword_message-parts
decreases-keyword_message-parts l = length l.r

-- Equations of the lists of the syntax, and of expressions and bodies with more parts.
use Rattle.std.proofs.Common.{◌≡◌, refl, sym, ap, ◌∙◌, true, Option, List, [], ◌∷◌, ◌++◌, append_assoc, append-nil}
use Rattle.texts.specs.Bytes.{Bytes}
use Rattle.st_tree.specs.Trees.{Constant, Constants, no_constants, a_constant, append_constants, Head, Expression}
use Rattle.st_tree.specs.Trees.{expression, Send, Statement, Statements, no_statements, a_statement, append_statements}
use Rattle.st_tree.specs.Trees.{Sends, no_sends, a_send, append_sends, Expressions, no_expressions, an_expression}
use Rattle.st_tree.specs.Trees.{append_expressions}
use Rattle.st_grammar_laws.specs.Machine.{as_message, as_cascade, top, in_block, Slot, added, has_messages, one_more}
use Rattle.st_grammar_laws.specs.Machine.{and_argument}
use Rattle.st_grammar_laws.proofs.SoundWants.{with_sends, with_temps}

pub no_more_sends : (ms : Sends) → append_sends ms no_sends ≡ ms
no_more_sends no_sends = refl
no_more_sends (a_send m ms) = ap (a_send m) (no_more_sends ms)

pub sends_one_by_one : (ms ns : Sends) (n : Send)
    → append_sends (append_sends ms (a_send n no_sends)) ns ≡ append_sends ms (a_send n ns)
sends_one_by_one no_sends ns n = refl
sends_one_by_one (a_send m ms) ns n = ap (a_send m) (sends_one_by_one ms ns n)

pub no_more_statements : (ss : Statements) → append_statements ss no_statements ≡ ss
no_more_statements no_statements = refl
no_more_statements (a_statement s ss) = ap (a_statement s) (no_more_statements ss)

pub statements_one_by_one : (ss ts : Statements) (t : Statement)
    → append_statements (append_statements ss (a_statement t no_statements)) ts
    ≡ append_statements ss (a_statement t ts)
statements_one_by_one no_statements ts t = refl
statements_one_by_one (a_statement s ss) ts t = ap (a_statement s) (statements_one_by_one ss ts t)

pub no_more_constants : (cs : Constants) → append_constants cs no_constants ≡ cs
no_more_constants no_constants = refl
no_more_constants (a_constant c cs) = ap (a_constant c) (no_more_constants cs)

pub constants_one_by_one : (cs ds : Constants) (d : Constant)
    → append_constants (one_more cs d) ds ≡ append_constants cs (a_constant d ds)
constants_one_by_one no_constants ds d = refl
constants_one_by_one (a_constant c cs) ds d = ap (a_constant c) (constants_one_by_one cs ds d)

pub arguments_one_by_one : (es fs : Expressions) (f : Expression)
    → append_expressions (and_argument es f) fs ≡ append_expressions es (an_expression f fs)
arguments_one_by_one no_expressions fs f = refl
arguments_one_by_one (an_expression e es) fs f = ap (an_expression e) (arguments_one_by_one es fs f)

pub with_messages : (names : List Bytes) (h : Head) (ms cs ns : Sends)
    → with_sends as_message (expression names h ms cs) ns ≡ expression names h (append_sends ms ns) cs
with_messages names h ms cs no_sends = ap (λ (all : Sends). expression names h all cs) (sym (no_more_sends ms))
with_messages names h ms cs (a_send n ns) = with_messages names h (append_sends ms (a_send n no_sends)) cs ns
    ∙ ap (λ (all : Sends). expression names h all cs) (sends_one_by_one ms ns n)

pub with_cascade : (names : List Bytes) (h : Head) (ms cs ns : Sends)
    → with_sends as_cascade (expression names h ms cs) ns ≡ expression names h ms (append_sends cs ns)
with_cascade names h ms cs no_sends = ap (λ (all : Sends). expression names h ms all) (sym (no_more_sends cs))
with_cascade names h ms cs (a_send n ns) = with_cascade names h ms (append_sends cs (a_send n no_sends)) ns
    ∙ ap (λ (all : Sends). expression names h ms all) (sends_one_by_one cs ns n)

pub has_added : (e : Expression) (m : Send) → has_messages (added as_message e m) ≡ true
has_added (expression names h no_sends cs) m = refl
has_added (expression names h (a_send n ns) cs) m = refl

pub text_with_temps : (selector : Option Bytes) (ps ts more : List Bytes) (body : Statements)
    → with_temps (top selector ps ts body) more ≡ top selector ps (ts ++ more) body
text_with_temps selector ps ts [] body = ap (λ (all : List Bytes). top selector ps all body) (sym (append-nil ts))
text_with_temps selector ps ts (x ∷ xs) body = text_with_temps selector ps (ts ++ x ∷ []) xs body
    ∙ ap (λ (all : List Bytes). top selector ps all body) (append_assoc ts (x ∷ []) xs)

pub block_with_temps : (k : Slot) (names ps ts more : List Bytes) (body : Statements)
    → with_temps (in_block k names ps ts body) more ≡ in_block k names ps (ts ++ more) body
block_with_temps k names ps ts [] body = ap (λ (all : List Bytes). in_block k names ps all body) (sym (append-nil ts))
block_with_temps k names ps ts (x ∷ xs) body = block_with_temps k names ps (ts ++ x ∷ []) xs body
    ∙ ap (λ (all : List Bytes). in_block k names ps all body) (append_assoc ts (x ∷ []) xs)

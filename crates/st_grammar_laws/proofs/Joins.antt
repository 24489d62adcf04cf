-- Lists of the tree joined, and trees with more at their ends.
use Rattle.std.proofs.Common.{◌≡◌, true, List, [], ◌∷◌, ◌++◌, refl, sym, ap, append_assoc, append-nil}
use Rattle.texts.specs.Bytes.{Bytes}
use Rattle.st_tree.specs.Trees.{Constants, no_constants, a_constant, append_constants, Head, Expression, expression}
use Rattle.st_tree.specs.Trees.{Send, Statement, Statements, no_statements, a_statement, append_statements, Sends}
use Rattle.st_tree.specs.Trees.{no_sends, a_send, append_sends, Expressions, no_expressions, an_expression}
use Rattle.st_tree.specs.Trees.{append_expressions}
use Rattle.st_grammar_laws.specs.Machine.{Body, top, in_block, declared, with_statement, with_temp, as_message}
use Rattle.st_grammar_laws.specs.Machine.{as_cascade, added, has_messages}

pub constants_none : (cs : Constants) → append_constants cs no_constants ≡ cs
constants_none no_constants = refl
constants_none (a_constant c cs) = ap (a_constant c) (constants_none cs)

pub constants_assoc : (cs ds es : Constants)
    → append_constants (append_constants cs ds) es ≡ append_constants cs (append_constants ds es)
constants_assoc no_constants ds es = refl
constants_assoc (a_constant c cs) ds es = ap (a_constant c) (constants_assoc cs ds es)

pub sends_none : (ms : Sends) → append_sends ms no_sends ≡ ms
sends_none no_sends = refl
sends_none (a_send m ms) = ap (a_send m) (sends_none ms)

pub sends_assoc : (ms ns os : Sends) → append_sends (append_sends ms ns) os ≡ append_sends ms (append_sends ns os)
sends_assoc no_sends ns os = refl
sends_assoc (a_send m ms) ns os = ap (a_send m) (sends_assoc ms ns os)

pub statements_none : (ss : Statements) → append_statements ss no_statements ≡ ss
statements_none no_statements = refl
statements_none (a_statement s ss) = ap (a_statement s) (statements_none ss)

pub statements_assoc : (ss ts us : Statements)
    → append_statements (append_statements ss ts) us ≡ append_statements ss (append_statements ts us)
statements_assoc no_statements ts us = refl
statements_assoc (a_statement s ss) ts us = ap (a_statement s) (statements_assoc ss ts us)

pub expressions_none : (es : Expressions) → append_expressions es no_expressions ≡ es
expressions_none no_expressions = refl
expressions_none (an_expression e es) = ap (an_expression e) (expressions_none es)

pub expressions_assoc : (es fs gs : Expressions)
    → append_expressions (append_expressions es fs) gs ≡ append_expressions es (append_expressions fs gs)
expressions_assoc no_expressions fs gs = refl
expressions_assoc (an_expression e es) fs gs = ap (an_expression e) (expressions_assoc es fs gs)

-- an expression after assignments to more names
abbrev pub before : List Bytes → Expression → Expression
before names (expression others h ms cs) = expression (names ++ others) h ms cs

pub before_none : (e : Expression) → before [] e ≡ e
before_none (expression names h ms cs) = refl

pub before_more : (names : List Bytes) (x : Bytes) (others : List Bytes) (h : Head) (ms cs : Sends)
    → before (names ++ x ∷ []) (expression others h ms cs) ≡ before names (expression (x ∷ others) h ms cs)
before_more names x others h ms cs = ap (λ xs. expression xs h ms cs) (append_assoc names (x ∷ []) others)

-- an expression with more messages
abbrev pub said : Expression → Sends → Expression
said (expression names h ms cs) ns = expression names h (append_sends ms ns) cs

pub said_none : (e : Expression) → said e no_sends ≡ e
said_none (expression names h ms cs) = ap (λ ns. expression names h ns cs) (sends_none ms)

pub said_more : (e : Expression) (m : Send) (ms : Sends) → said (added as_message e m) ms ≡ said e (a_send m ms)
said_more (expression names h ns cs) m ms = ap (λ xs. expression names h xs cs) (sends_assoc ns (a_send m no_sends) ms)

-- an expression with more messages in its cascade
abbrev pub cascaded : Expression → Sends → Expression
cascaded (expression names h ms cs) ns = expression names h ms (append_sends cs ns)

pub cascaded_none : (e : Expression) → cascaded e no_sends ≡ e
cascaded_none (expression names h ms cs) = ap (expression names h ms) (sends_none cs)

pub cascaded_more : (e : Expression) (m : Send) (ms : Sends)
    → cascaded (added as_cascade e m) ms ≡ cascaded e (a_send m ms)
cascaded_more (expression names h ns cs) m ms = ap (expression names h ns) (sends_assoc cs (a_send m no_sends) ms)

pub still_has_messages : (e : Expression) (m : Send) → has_messages e ≡ true
    → has_messages (added as_cascade e m) ≡ true
still_has_messages (expression names h no_sends cs) m some = some
still_has_messages (expression names h (a_send n ms) cs) m some = some

-- a body with more statements, and with more temporaries
abbrev pub with_statements : Body → Statements → Body
with_statements (top selector ps ts body) more = top selector ps ts (append_statements body more)
with_statements (in_block k names ps ts body) more = in_block k names ps ts (append_statements body more)

pub with_statements_none : (b : Body) → with_statements b no_statements ≡ b
with_statements_none (top selector ps ts body) = ap (top selector ps ts) (statements_none body)
with_statements_none (in_block k names ps ts body) = ap (in_block k names ps ts) (statements_none body)

pub with_statements_more : (b : Body) (s : Statement) (more : Statements)
    → with_statements (with_statement b s) more ≡ with_statements b (a_statement s more)
with_statements_more (top selector ps ts body) s more = ap (top selector ps ts)
    (statements_assoc body (a_statement s no_statements) more)
with_statements_more (in_block k names ps ts body) s more = ap (in_block k names ps ts)
    (statements_assoc body (a_statement s no_statements) more)

abbrev pub with_temps : Body → List Bytes → Body
with_temps (top selector ps ts body) more = top selector ps (ts ++ more) body
with_temps (in_block k names ps ts body) more = in_block k names ps (ts ++ more) body

pub with_temps_none : (b : Body) → with_temps b [] ≡ b
with_temps_none (top selector ps ts body) = ap (λ us. top selector ps us body) (append-nil ts)
with_temps_none (in_block k names ps ts body) = ap (λ us. in_block k names ps us body) (append-nil ts)

pub with_temps_more : (b : Body) (x : Bytes) (more : List Bytes)
    → with_temps (with_temp b x) more ≡ with_temps b (x ∷ more)
with_temps_more (top selector ps ts body) x more = ap (λ us. top selector ps us body) (append_assoc ts (x ∷ []) more)
with_temps_more (in_block k names ps ts body) x more = ap
    (λ us. in_block k names ps us body) (append_assoc ts (x ∷ []) more)

pub declared_more : (b : Body) (x : Bytes) → declared (with_temp b x) ≡ declared b ++ x ∷ []
declared_more (top selector ps ts body) x = sym (append_assoc ps ts (x ∷ []))
declared_more (in_block k names ps ts body) x = sym (append_assoc ps ts (x ∷ []))

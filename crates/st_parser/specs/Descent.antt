-- What the functions of the parser do, told by the machine of the grammar: where the machine stands
-- before and after what they read.
use Rattle.std.specs.Prelude.{◌≡◌, ℕ, Bool, true, false, ◌&&◌, ◌||◌, ◌==◌, Result, Ok, Err, Some, List, [], ◌∷◌}
use Rattle.texts.specs.Bytes.{Bytes}
use Rattle.st_tree.specs.Trees.{Program, Statement, statement, Statements, no_statements, Expression, expression}
use Rattle.st_tree.specs.Trees.{Constants, Head, Send, sends, no_sends}
use Rattle.st_tree.specs.Views.{constant_of, head_of}
use Rattle.st_tree.specs.declared.nodes.Literal.{Literal}
use Rattle.st_tree.specs.declared.nodes.Primary.{Primary}
use Rattle.st_grammar.specs.Tokens.{Kind, identifier, keyword, number, character, string, symbol, binary, bar, assign, colon, caret, semicolon, period, open_paren, close_paren, open_bracket, close_bracket, open_array}
use Rattle.st_grammar.specs.Grammar.{Word, word, GrammarRule, p4, p5, p6, p7, p8, p9, Scope, is_minus, Next, any_message, no_message}
use Rattle.st_grammar.specs.Fails.{every}
use Rattle.st_grammar_laws.specs.Machine.{State, Body, top, header, bare, Nest, in_elements, one_more, in_block, in_body, Slot, outer, alone, have, has_messages, machine_run, scopes_of, depth_of}
use Rattle.st_parser.specs.declared.declarations.MethodPattern.{MethodPattern}
use Rattle.st_parser.specs.declared.stops.Broken.{Broken}
use Rattle.st_parser.specs.declared.stops.Broken.TheVariants.{Unexpected, MissingBracket, MissingParen, Declaration, Assignment, Depth}
use Rattle.st_parser.specs.declared.stops.Stop.{Stop}
use Rattle.st_parser.specs.declared.stops.Stop.TheVariants.{Breaks, Memory}

abbrev pub rule_of : Broken → GrammarRule
rule_of Unexpected = p4
rule_of MissingBracket = p5
rule_of MissingParen = p6
rule_of Declaration = p7
rule_of Assignment = p8
rule_of Depth = p9

-- The machine goes on from the one state before the old words as from the other before the new ones.
abbrev pub Runs : State → List Word → State → List Word → Type 0
Runs s old t new = machine_run every s old ≡ machine_run every t new

-- The machine stops at the new words, by the rule that the parser gives.
abbrev pub StopsAt : State → List Word → List Word → Stop → Type 0
StopsAt s old new (Breaks b) = machine_run every s old ≡ Err (record { left = new; rule = rule_of b })
StopsAt s old new Memory = Unit {0}

-- What is read takes the machine from the one state to the other. Where nothing is read the machine
-- stops at the new words.
abbrev pub Reached : {X : Type 0} → State → List Word → (X → State) → List Word → Result X Stop → Type 0
Reached s old to new (Ok x) = Runs s old (to x) new
Reached s old to new (Err e) = StopsAt s old new e

-- the kinds of token, numbered in the order of their definition
abbrev pub kind_number : Kind → ℕ
kind_number identifier = 0
kind_number keyword = 1
kind_number number = 2
kind_number character = 3
kind_number string = 4
kind_number symbol = 5
kind_number binary = 6
kind_number bar = 7
kind_number assign = 8
kind_number colon = 9
kind_number caret = 10
kind_number semicolon = 11
kind_number period = 12
kind_number open_paren = 13
kind_number close_paren = 14
kind_number open_bracket = 15
kind_number close_bracket = 16
kind_number open_array = 17

-- the kind is this one
abbrev pub is_kind : Kind → Kind → Bool
is_kind this k = kind_number k == kind_number this

-- tests of the first word
abbrev pub starts : (Kind → Bool) → List Word → Bool
starts p [] = false
starts p (word k x t ∷ ws) = p k

-- an identifier, a binary selector or a keyword
abbrev pub is_message : Kind → Bool
is_message identifier = true
is_message binary = true
is_message bar = true
is_message keyword = true
is_message _ = false

-- a binary selector
abbrev pub is_selector : Kind → Bool
is_selector binary = true
is_selector bar = true
is_selector _ = false

-- an identifier or a binary selector
abbrev pub is_short_message : Kind → Bool
is_short_message identifier = true
is_short_message binary = true
is_short_message bar = true
is_short_message _ = false

-- a token that is a literal on its own, or none that a head begins with
abbrev pub is_other_head : Kind → Bool
is_other_head identifier = false
is_other_head binary = false
is_other_head open_paren = false
is_other_head open_bracket = false
is_other_head open_array = false
is_other_head _ = true

-- an identifier and `:=`
abbrev pub assigns : List Word → Bool
assigns (word identifier x t ∷ ws) = starts (is_kind assign) ws
assigns _ = false

-- an expression
abbrev pub begins_expression : List Word → Bool
begins_expression (word identifier x t ∷ ws) = true
begins_expression (word number x t ∷ ws) = true
begins_expression (word character x t ∷ ws) = true
begins_expression (word string x t ∷ ws) = true
begins_expression (word symbol x t ∷ ws) = true
begins_expression (word binary x t ∷ ws) = is_minus x
begins_expression (word open_paren x t ∷ ws) = true
begins_expression (word open_bracket x t ∷ ws) = true
begins_expression (word open_array x t ∷ ws) = true
begins_expression _ = false

-- a statement
abbrev pub begins_statement : List Word → Bool
begins_statement ws = starts (is_kind caret) ws || begins_expression ws

-- the machine after a statement of this body
abbrev pub behind_statement : Body → Statement → State
behind_statement b (statement r e) = have (outer (alone (in_body b r))) e no_message

abbrev pub returns_of : Statement → Bool
returns_of (statement r e) = r

-- an expression that isn't followed by a cascade, though it has messages
abbrev pub is_quiet : Expression → List Word → Type 0
is_quiet e ws = (has_messages e && starts (is_kind semicolon) ws) ≡ false

abbrev pub is_quiet_statement : Statement → List Word → Type 0
is_quiet_statement (statement r e) ws = is_quiet e ws

-- The slot stands in these scopes and so deep.
abbrev pub Suits : Slot → List Scope → ℕ → Type 0
Suits k ss d = (scopes_of k ≡ ss) × (depth_of k ≡ d)

-- the body with these temporaries and statements in place of its own
abbrev pub filled : Body → (temps : List Bytes) → Statements → Body
filled (top selector ps ts body) temps new = top selector ps temps new
filled (in_block k names ps ts body) temps new = in_block k names ps temps new

abbrev pub params_of : Body → List Bytes
params_of (top selector ps ts body) = ps
params_of (in_block k names ps ts body) = ps

-- the body with these statements in place of its own
abbrev pub holding : Body → Statements → Body
holding (top selector ps ts body) new = top selector ps ts new
holding (in_block k names ps ts body) new = in_block k names ps ts new

-- The machine reads the words to their end, and this is the tree. Where there is none the machine
-- stops at the new words.
abbrev pub Finished : State → List Word → List Word → Result Program Stop → Type 0
Finished s old new (Ok program) = machine_run every s old ≡ Ok program
Finished s old new (Err e) = StopsAt s old new e

-- the machine after a head, with the names assigned to before it
abbrev pub with_head : Slot → List Bytes → Primary → State
with_head k names h = have k (bare names (head_of h)) any_message

-- the machine after a head and these messages, of which `next` may still come
abbrev pub with_sends : Slot → List Bytes → Head → List Send → Next → State
with_sends k names h ms next = have k (expression names h (sends ms) no_sends) next

-- the machine after a further element of a literal array
abbrev pub with_literal : Nest → Constants → Literal → State
with_literal n cs l = in_elements n (one_more cs (constant_of l))

-- the machine after the pattern of a method
abbrev pub with_pattern : MethodPattern → State
with_pattern p = header (top (Some p.selector) p.params.items [] no_statements)

-- Which tree a text has, and where and by which rule a text fails that has none.
use Rattle.std.specs.Prelude.{◌≡◌, ℕ, true, false, Option, Some, None, List, [], ◌∷◌, ◌++◌, length}
use Rattle.std.specs.Prelude.{take}
use Rattle.texts.specs.Bytes.{Bytes}
use Rattle.st_tree.specs.Trees.{Program}
use Rattle.st_grammar.specs.Tokens as tokens
use Rattle.st_grammar.specs.Tokens.{Kind, open_paren, close_paren, open_bracket, close_bracket}
use Rattle.st_grammar.specs.Tokens.{open_array, Token, Lexes, Stops, end_after}
use Rattle.st_grammar.specs.Grammar.{GrammarRule, p4, p5, p6, p7, p8, p9, Kept, Form, words_of}
use Rattle.st_grammar.specs.Grammar.{ReadsProgram}

-- every rule is kept
abbrev pub every : Kept
every r = true

-- every rule but this one is kept
abbrev pub but : GrammarRule → Kept
but p7 p7 = false
but p8 p8 = false
but p9 p9 = false
but _ _ = true

-- The text has this tree.
abbrev pub Reads : Form → Bytes → Program → Type 0
Reads form text program = (ts : List Token) × Lexes 0 text ts
    × ReadsProgram every form program (words_of text ts)

-- The other text begins with this text up to the end of these tokens.
abbrev pub BeginsAlike : Bytes → List Token → Bytes → Type 0
BeginsAlike text seen other = take (end_after 0 seen) other ≡ take (end_after 0 seen) text

-- Some text with a tree begins with this text up to the end of these tokens, and has these same
-- tokens there.
pub record Continues (kept : Kept) (form : Form) (text : Bytes) (seen : List Token) : Type 0 where
  pub other : Bytes
  pub more : List Token
  pub program : Program
  pub alike : BeginsAlike text seen other
  pub lexes : Lexes 0 other (seen ++ more)
  pub reads : ReadsProgram kept form program (words_of other (seen ++ more))

-- Some text with a tree begins with this text up to the end of these tokens, has these same tokens
-- there, and then one of this kind.
pub record CouldStand (form : Form) (kind : Kind) (text : Bytes) (seen : List Token) : Type 0 where
  pub other : Bytes
  pub next : Token
  pub more : List Token
  pub program : Program
  pub alike : BeginsAlike text seen other
  pub is_kind : next.kind ≡ kind
  pub lexes : Lexes 0 other (seen ++ next ∷ more)
  pub reads : ReadsProgram every form program (words_of other (seen ++ next ∷ more))

-- The tokens seen can't go on with the first of those that are left; where none is left, they have
-- no tree.
abbrev pub Halts : Form → Bytes → (seen left : List Token) → Type 0
Halts form text seen [] = (program : Program) → ReadsProgram every form program (words_of text seen)
    → ⊥
Halts form text seen (t ∷ ts) = Continues every form text (seen ++ t ∷ []) → ⊥

-- But for this rule they could go on with it.
abbrev pub AllowedBut : GrammarRule → Form → Bytes → (seen left : List Token) → Type 0
AllowedBut r form text seen [] = ⊥
AllowedBut r form text seen (t ∷ ts) = Continues (but r) form text (seen ++ t ∷ [])

-- The brackets that stand open.
pub data Bracket : Type 0 where
  -- `[`
  square : Bracket
  -- `(` and `#(`
  round : Bracket

-- the brackets that stand open after a token of this kind, the innermost first
abbrev pub open_behind : Kind → List Bracket → List Bracket
open_behind open_paren bs = round ∷ bs
open_behind open_array bs = round ∷ bs
open_behind open_bracket bs = square ∷ bs
open_behind close_paren (b ∷ bs) = bs
open_behind close_bracket (b ∷ bs) = bs
open_behind _ bs = bs

abbrev pub open_after : List Bracket → List Token → List Bracket
open_after bs [] = bs
open_after bs (t ∷ ts) = open_after (open_behind t.kind bs) ts

abbrev pub first_of : List Bracket → Option Bracket
first_of [] = None
first_of (b ∷ bs) = Some b

-- the innermost bracket that stands open after these tokens
abbrev pub innermost : List Token → Option Bracket
innermost ts = first_of (open_after [] ts)

-- The innermost open bracket is a `[`, and `]` could stand here.
abbrev pub MissesSquare : Form → Bytes → List Token → Type 0
MissesSquare form text seen = (innermost seen ≡ Some square)
    × CouldStand form close_bracket text seen

-- The innermost open bracket is a `(` or `#(`, and `)` could stand here.
abbrev pub MissesRound : Form → Bytes → List Token → Type 0
MissesRound form text seen = (innermost seen ≡ Some round) × CouldStand form close_paren text seen

-- It isn't one of the rules P7, P8 and P9 alone that forbids the token.
abbrev pub IsForbidden : Form → Bytes → (seen left : List Token) → Type 0
IsForbidden form text seen left = (AllowedBut p7 form text seen left → ⊥)
    × (AllowedBut p8 form text seen left → ⊥) × (AllowedBut p9 form text seen left → ⊥)

-- The rule that the first of the tokens left breaks, or the end of the text.
abbrev pub Breaks : GrammarRule → Form → Bytes → (seen left : List Token) → Type 0
Breaks p7 form text seen left = AllowedBut p7 form text seen left
Breaks p8 form text seen left = AllowedBut p8 form text seen left
Breaks p9 form text seen left = AllowedBut p9 form text seen left
Breaks p5 form text seen left = IsForbidden form text seen left × MissesSquare form text seen
Breaks p6 form text seen left = IsForbidden form text seen left × MissesRound form text seen
Breaks p4 form text seen left = IsForbidden form text seen left × (MissesSquare form text seen → ⊥)
    × (MissesRound form text seen → ⊥)

-- The text fails after the tokens seen: up to their end some text with a tree begins so, and no
-- further.
pub record FailsBehind (form : Form) (text : Bytes) (seen left : List Token)
    (rule : GrammarRule) : Type 0 where
  pub continues : Continues every form text seen
  pub halts : Halts form text seen left
  pub breaks : Breaks rule form text seen left

-- where the first of these tokens begins; the text's length where there is none
abbrev pub place_of : Bytes → List Token → ℕ
place_of text [] = length text
place_of text (t ∷ ts) = t.from

-- A rule that a text breaks: of the tokens, or of the grammar.
pub data AnyRule : Type 0 where
  of_token : tokens.TokenRule → AnyRule
  of_grammar : GrammarRule → AnyRule

-- the rule's number, as the letter P goes before it
abbrev pub rule_number : AnyRule → ℕ
rule_number (of_token r) = tokens.token_rule_number r
rule_number (of_grammar p4) = 4
rule_number (of_grammar p5) = 5
rule_number (of_grammar p6) = 6
rule_number (of_grammar p7) = 7
rule_number (of_grammar p8) = 8
rule_number (of_grammar p9) = 9

-- The text has no tree, and fails at this place by this rule. A bad token anywhere comes before all
-- else. Otherwise the place is that of the first token with which no text with a tree goes on.
pub data Fails (form : Form) (text : Bytes) : (place : ℕ) → AnyRule → Type 0 where
  bad_token : {place : ℕ} {r : tokens.TokenRule} → Stops 0 text place r
      → Fails form text place (of_token r)
  bad_form : {seen left : List Token} {r : GrammarRule} → Lexes 0 text (seen ++ left)
      → FailsBehind form text seen left r → Fails form text (place_of text left) (of_grammar r)

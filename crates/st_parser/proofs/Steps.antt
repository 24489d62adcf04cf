-- Steps of the machine.
use Rattle.std.proofs.Common.{◌≡◌, Bool, true, false, cond, Result, Ok, Err, List, [], ◌∷◌, ◌++◌, refl, ap, ◌∙◌}
use Rattle.std.specs.Prelude.{nat_lt, map}
use Rattle.std.specs.Result.{IsErrAnd}
use Rattle.std.proofs.lemmas.Result.{err_from_is_err_and}
use Rattle.texts.specs.Bytes.{Bytes}
use Rattle.st_grammar.specs.declared.limits.TheConstants.{DEPTH_LIMIT}
use Rattle.st_tree.specs.Trees.{Constants, no_constants, a_constant, constants, sym as sym_of}
use Rattle.st_grammar.specs.Tokens.{Kind, identifier, keyword, binary, bar, open_paren, close_paren, open_array}
use Rattle.st_grammar.specs.Grammar.{Word, word, p6, is_minus}
use Rattle.st_grammar.specs.Fails.{every}
use Rattle.st_tree.specs.Views.{constant_of}
use Rattle.st_tree.specs.declared.nodes.Literal.{Literal}
use Rattle.st_grammar_laws.specs.Machine.{State, Body, Nest, in_array, header, begin, in_elements, element_run}
use Rattle.st_grammar_laws.specs.Machine.{element_minus, one_more, depth_nest, machine_run, go, goes}
use Rattle.st_parser.specs.declared.stops.Stop.{Stop}
use Rattle.st_parser.specs.declared.stops.Stop.TheVariants.{Breaks, Memory}
use Rattle.st_parser.specs.Descent.{Runs, StopsAt, Reached, starts, is_kind}
use Rattle.st_parser.specs.Literals.{is_other, opens_array, behind_selector}
use Rattle.st_parser.specs.Lexemes.{others}

pub temps_left_out : (b : Body) (ws : List Word) → starts (is_kind bar) ws ≡ false
    → Runs (header b) ws (begin b) ws
temps_left_out b [] h = refl
temps_left_out b (word bar x t ∷ ws) h = cc
temps_left_out b (word _ x t ∷ ws) h = refl

-- where a part stops that follows what is read, all stops
pub stops_after : {X : Type 0} (s s' : State) (old mid new : List Word) (to : X → State) (e : Stop)
    → Runs s old s' mid → StopsAt s' mid new e → Reached s old to new (Err e)
stops_after s s' old mid new to (Breaks b) p h = p ∙ h
stops_after s s' old mid new to Memory p h = tt

pub hands_on : {X : Type 0} (s s' : State) (old mid new : List Word) (to : X → State) (e : Stop)
    (r : Result X Stop) → IsErrAnd r (λ y. y ≡ e) → Runs s old s' mid → StopsAt s' mid new e
    → Reached s old to new r
hands_on s s' old mid new to e r h p q = let w = err_from_is_err_and r h in rw (w.1, w.2)
    (stops_after s s' old mid new to e p q)

-- what is read before a part, and the part
pub reached_after : {X : Type 0} (s s' : State) (old mid new : List Word) (to : X → State)
    (r : Result X Stop) → Runs s old s' mid → Reached s' mid to new r → Reached s old to new r
reached_after s s' old mid new to (Ok x) p q = p ∙ q
reached_after s s' old mid new to (Err e) p q = stops_after s s' old mid new to e p q

-- steps among the elements of an array
pub keyword_element : (n : Nest) (cs : Constants) (x : Bytes) (t : Bool) (ws us : List Word)
    → ws ≡ word keyword x t ∷ us → Runs (in_elements n cs) ws (element_run n cs x) us
keyword_element n cs x t ws us e = rw e refl

pub selector_element : (n : Nest) (cs : Constants) (x : Bytes) (t : Bool) (ws us : List Word)
    → ws ≡ word binary x t ∷ us → Runs (in_elements n cs) ws (behind_selector n cs x) us
selector_element n cs x t ws us e = rw e
    (elim (is_minus x) as (λ v. go p6 (word binary x t ∷ us)
    (λ s. machine_run every s us) (cond v (goes (element_minus n cs x)) (goes (in_elements n (one_more cs (sym_of x)))))
    ≡ machine_run every (cond v (element_minus n cs x) (in_elements n (one_more cs (sym_of x)))) us) [
      | true ↦ refl
      | false ↦ refl
    ])

pub other_element : (k : Kind) → (k ≡ identifier → ⊥) → (k ≡ keyword → ⊥) → (k ≡ binary → ⊥)
    → (k ≡ bar → ⊥) → (k ≡ open_paren → ⊥) → (k ≡ open_array → ⊥) → (k ≡ close_paren → ⊥)
    → is_other k ≡ true
other_element identifier a b c d e f g = absurd (a refl)
other_element keyword a b c d e f g = absurd (b refl)
other_element binary a b c d e f g = absurd (c refl)
other_element bar a b c d e f g = absurd (d refl)
other_element open_paren a b c d e f g = absurd (e refl)
other_element open_array a b c d e f g = absurd (f refl)
other_element close_paren a b c d e f g = absurd (g refl)
other_element _ a b c d e f g = refl

pub array_opens : (n : Nest) (cs : Constants) (ws : List Word) → starts opens_array ws ≡ true
    → nat_lt (depth_nest n) DEPTH_LIMIT ≡ true
    → Runs (in_elements n cs) ws (in_elements (in_array n cs) no_constants) (others ws)
array_opens n cs [] h d = cc
array_opens n cs (word open_paren x t ∷ ws) h d = rw d refl
array_opens n cs (word open_array x t ∷ ws) h d = rw d refl
array_opens n cs (word _ x t ∷ ws) h d = cc

-- literals one after another
pub constants_more : (ls : List Literal) (l : Literal)
    → constants (map constant_of (ls ++ l ∷ [])) ≡ one_more (constants (map constant_of ls))
    (constant_of l)
constants_more [] l = refl
constants_more (x ∷ xs) l = ap (a_constant (constant_of x)) (constants_more xs l)

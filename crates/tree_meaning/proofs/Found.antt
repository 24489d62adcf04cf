-- What a name stands for among the variables in scope.
use Rattle.std.proofs.Common.{◌≡◌, ◌≢◌, ◌∙◌, refl, sym, ap, true≢false, ℕ, zero, suc, ◌<◌, Bool, true, false, cond, bytes_eq, List, [], ◌∷◌, slice_get, Option, Some, None, is_some, option_map, unwrap_or, arith}
use Rattle.std.proofs.lemmas.Slice.Eq.{bytes_eq-Decides}
use Rattle.object_programs.specs.texts.Bytes.{Bytes as Text}
use Rattle.tree_meaning.specs.Names.{index_of, one_deeper, innermost, variable_in}
use Rattle.tree_meaning.specs.Reading.{IsVariable, IsNoVariable}
use Rattle.tree_meaning.specs.declared.name.Where.{Where}
use Rattle.tree_meaning.specs.declared.name.Where.TheVariants.{Receiver, Fixed, Variable, OutOfScope}

module _ (text : Text) where
  other_text : (other : Text) → bytes_eq text other ≡ false → other ≢ text
  other_text other is same =
      true≢false (sym ((bytes_eq-Decides text other).1 (sym same)) ∙ is)

  -- what is found in one scope
  abbrev IsAt : List Text → Option ℕ → Type 0
  IsAt scope (Some index) = slice_get scope index ≡ Some text
  IsAt scope None = (index : ℕ) → slice_get scope index ≢ Some text

  not_in : (first : Text) (rest : List Text) → bytes_eq text first ≡ false
      → ((index : ℕ) → slice_get rest index ≢ Some text) → (index : ℕ)
      → slice_get (first ∷ rest) index ≢ Some text
  not_in first rest is none zero same = other_text first is (ap (λ found. unwrap_or found first) same)
  not_in first rest is none (suc index) same = none index same

  shifted : (first : Text) (rest : List Text) → bytes_eq text first ≡ false → (found : Option ℕ)
      → IsAt rest found → IsAt (first ∷ rest) (option_map (λ index. suc index) found)
  shifted first rest is (Some index) at = at
  shifted first rest is None at = not_in first rest is at

  first_or_later : (first : Text) (rest : List Text) → IsAt rest (index_of text rest) → (same : Bool)
      → bytes_eq text first ≡ same
      → IsAt (first ∷ rest) (cond same (Some 0) (option_map (λ index. suc index) (index_of text rest)))
  first_or_later first rest at true is = ap Some (sym ((bytes_eq-Decides text first).0 is))
  first_or_later first rest at false is = shifted first rest is (index_of text rest) at

  scope_at : (scope : List Text) → IsAt scope (index_of text scope)
  scope_at [] = λ index same. true≢false (sym (ap is_some same))
  scope_at (first ∷ rest) = first_or_later first rest (scope_at rest) (bytes_eq text first) refl

  -- what is found among the scopes
  abbrev pub StandsFor : List (List Text) → Where → Type 0
  StandsFor names (Variable depth index) = IsVariable text names depth index
  StandsFor names OutOfScope = IsNoVariable text names
  StandsFor names Receiver = ⊥
  StandsFor names (Fixed always) = ⊥

  none_here : (scope : List Text) (names : List (List Text)) (found : Where)
      → ((index : ℕ) → slice_get scope index ≢ Some text) → StandsFor names found
      → StandsFor (scope ∷ names) (one_deeper found)
  none_here scope names (Variable depth index) none stands = record {
    scope = stands.scope;
    there = stands.there;
    named = stands.named;
    hides = hides;
  }
    where
      hides : (further : ℕ) (other : List Text) → further < suc depth
          → slice_get (scope ∷ names) further ≡ Some other → (at : ℕ) → slice_get other at ≢ Some text
      hides zero other within is at same =
          none at (ap (λ (found : List Text). slice_get found at) (ap (λ found. unwrap_or found scope) is) ∙ same)
      hides (suc further) other within is at same =
          stands.hides further other (omega (arith, within)) is at same
  none_here scope names OutOfScope none stands = record { none = nowhere }
    where
      nowhere : (depth : ℕ) (other : List Text) → slice_get (scope ∷ names) depth ≡ Some other → (at : ℕ)
          → slice_get other at ≢ Some text
      nowhere zero other is at same =
          none at (ap (λ (found : List Text). slice_get found at) (ap (λ found. unwrap_or found scope) is) ∙ same)
      nowhere (suc depth) other is at same = stands.none depth other is at same
  none_here scope names Receiver none stands = stands
  none_here scope names (Fixed always) none stands = stands

  here_or_around : (scope : List Text) (names : List (List Text)) (found : Option ℕ) → IsAt scope found
      → (around : Where) → StandsFor names around → StandsFor (scope ∷ names) (innermost found around)
  here_or_around scope names (Some index) at around stands = record {
    scope = scope;
    there = refl;
    named = at;
    hides = λ further other within is at same. absurd (omega (arith, within));
  }
  here_or_around scope names None at around stands = none_here scope names around at stands

  pub stands_for : (names : List (List Text)) → StandsFor names (variable_in text names)
  stands_for [] = record { none = λ depth other is at same. true≢false (sym (ap is_some is)) }
  stands_for (scope ∷ names) =
      here_or_around scope names (index_of text scope) (scope_at scope) (variable_in text names)
      (stands_for names)

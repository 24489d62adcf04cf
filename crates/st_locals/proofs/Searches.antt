-- Searches for a name, variable by variable and scope by scope.
use Rattle.std.proofs.Common.{◌≡◌, refl, sym, ap, ◌∙◌, ℕ, suc, ◌+◌, ◌-◌, ◌<◌, List, ◌∷◌, length, get_or, drop, reverse, Option, None, Some, arith}
use Rattle.std.proofs.lemmas.List.{at_drop_more, get_or-reverse, length-reverse}
use Rattle.gem_object.specs.texts.Bytes.{Bytes as Text}
use Rattle.tree_meaning.specs.Names.{index_of, variable_in, one_deeper, innermost}
use Rattle.tree_meaning.specs.declared.name.Where.{Where}
use Rattle.tree_meaning.specs.declared.name.Where.TheVariants.{Receiver, Fixed, Variable, OutOfScope}

-- a place among the items behind the first ones
abbrev pub later : ℕ → Option ℕ → Option ℕ
later count (Some index) = Some (count + index)
later count None = None

-- a variable that is found so many scopes further out
abbrev pub deeper : ℕ → Where → Where
deeper count (Variable depth index) = Variable (count + depth) index
deeper count Receiver = Receiver
deeper count (Fixed always) = Fixed always
deeper count OutOfScope = OutOfScope

-- one scope further out
one_further : (count : ℕ) (found : Where) → deeper count (one_deeper found) ≡ deeper (count + 1) found
one_further count (Variable depth index) =
    let same : count + suc depth ≡ (count + 1) + depth = omega arith in ap (λ (n : ℕ). Variable n index) same
one_further count Receiver = refl
one_further count (Fixed always) = refl
one_further count OutOfScope = refl

-- the scopes stand with the outermost one first
module _ (name : Text) (scopes : List (List Text)) (depth : ℕ) (each : List Text) (within : depth < length scopes)
    (is : each ≡ get_or scopes (length scopes - 1 - depth) each) where
  -- the search from the scope at this depth on
  from_scope : deeper depth (variable_in name (drop depth (reverse scopes)))
      ≡ deeper depth (innermost (index_of name each) (variable_in name (drop (depth + 1) (reverse scopes))))
  from_scope =
      let inside : depth < length (reverse scopes) = rw length-reverse within in
      ap (deeper depth) (at_drop_more (variable_in name) (reverse scopes) depth each inside
      ∙ ap (λ (first : List Text). variable_in name (first ∷ drop (depth + 1) (reverse scopes)))
      (get_or-reverse scopes depth each within ∙ sym is))

  -- a scope without the name: the search goes on around it
  pub not_in_scope : (whole : Where) → whole ≡ deeper depth (variable_in name (drop depth (reverse scopes)))
      → index_of name each ≡ None → whole ≡ deeper (depth + 1) (variable_in name (drop (depth + 1) (reverse scopes)))
  not_in_scope whole so_far none = so_far ∙ from_scope
      ∙ ap (λ (found : Option ℕ). deeper depth (innermost found (variable_in name (drop (depth + 1) (reverse scopes))))) none
      ∙ one_further depth (variable_in name (drop (depth + 1) (reverse scopes)))

  -- a scope with the name
  pub is_in_scope : (whole : Where) (index : ℕ) → whole ≡ deeper depth (variable_in name (drop depth (reverse scopes)))
      → index_of name each ≡ Some index → whole ≡ Variable depth index
  is_in_scope whole index so_far found =
      let none_more : depth + 0 ≡ depth = omega arith in
      so_far ∙ from_scope
      ∙ ap (λ (some : Option ℕ). deeper depth (innermost some (variable_in name (drop (depth + 1) (reverse scopes))))) found
      ∙ ap (λ (n : ℕ). Variable n index) none_more

pub ruleset scopes_in_turn = (not_in_scope, is_in_scope)

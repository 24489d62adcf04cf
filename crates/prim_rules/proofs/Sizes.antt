-- What a dictionary takes with a reference at a key, whatever its name is.
use Rattle.std.specs.Prelude.{◌≡◌, ℕ, suc, ◌+◌, if◌then◌else◌, Bool, true, false, List, [], ◌∷◌, length, sum_by}
use Rattle.std.proofs.Common.{refl, sym, ap, ◌∙◌}
use Rattle.std.proofs.lemmas.List.Sums.{sum_by-cons}
use Rattle.gem_object.specs.insertion_map.Pairs.{with_pair}
use Rattle.gem_object.specs.Order.{same_value}
use Rattle.gem_object.specs.Sizes.{pair_size}
use Rattle.gem_object.specs.declared.value.Value.{Value}
use Rattle.gem_object.specs.declared.value.Value.TheVariants.{Ref}

module _ (key : Value) (name other : ℕ) where
  pub same_length : (pairs : List (Value × Value))
      → length (with_pair same_value key (Ref name) pairs)
      ≡ length (with_pair same_value key (Ref other) pairs)
  same_length [] = refl
  same_length (pair ∷ rest) = by (same_value key pair.0) (same_length rest)
    where
      by : (is_it : Bool)
          → length (with_pair same_value key (Ref name) rest)
          ≡ length (with_pair same_value key (Ref other) rest)
          → length (if is_it then (pair.0, Ref name) ∷ rest
          else pair ∷ with_pair same_value key (Ref name) rest)
          ≡ length (if is_it then (pair.0, Ref other) ∷ rest
          else pair ∷ with_pair same_value key (Ref other) rest)
      by true more = refl
      by false more = ap suc more

  pub same_bytes : (pairs : List (Value × Value))
      → sum_by pair_size (with_pair same_value key (Ref name) pairs)
      ≡ sum_by pair_size (with_pair same_value key (Ref other) pairs)
  same_bytes [] = refl
  same_bytes (pair ∷ rest) = by (same_value key pair.0) (same_bytes rest)
    where
      by : (is_it : Bool)
          → sum_by pair_size (with_pair same_value key (Ref name) rest)
          ≡ sum_by pair_size (with_pair same_value key (Ref other) rest)
          → sum_by pair_size (if is_it then (pair.0, Ref name) ∷ rest
          else pair ∷ with_pair same_value key (Ref name) rest)
          ≡ sum_by pair_size (if is_it then (pair.0, Ref other) ∷ rest
          else pair ∷ with_pair same_value key (Ref other) rest)
      by true more = refl
      by false more =
          sum_by-cons pair_size pair (with_pair same_value key (Ref name) rest)
          ∙ ap (λ (n : ℕ). pair_size pair + n) more
          ∙ sym (sum_by-cons pair_size pair (with_pair same_value key (Ref other) rest))

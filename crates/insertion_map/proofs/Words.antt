-- The words of this crate against those of the kit's map.
use Rattle.std.proofs.Common.{◌≡◌, Bool, false, cond, List, [], ◌∷◌, Some, refl, ap}
use Rattle.std.specs.List.{AllByRecursion, IsDistinct}
use Rattle.std.specs.Map.{keys_of, lookup, remove_entry}
use Rattle.indexmap.specs.IndexMap.{insert_entry}
use Rattle.insertion_map.specs.Pairs.{AreDistinct, entry_of, with_pair, without_key}

module _ {K T : Type 0} (eq : K → K → Bool) where
  later_apart : (x : K) (pairs : List (K × T)) → AllByRecursion (λ y. eq x y ≡ false) (keys_of pairs) → AllByRecursion (λ later. eq x later.0 ≡ false) pairs
  later_apart x [] apart = tt
  later_apart x (pair ∷ rest) apart = (apart.0, later_apart x rest apart.1)

  pub are_distinct : (pairs : List (K × T)) → IsDistinct eq (keys_of pairs) → AreDistinct eq pairs
  unfolding IsDistinct
  are_distinct [] distinct = tt
  are_distinct (pair ∷ rest) distinct = (later_apart pair.0 rest distinct.0, are_distinct rest distinct.1)

  module _ (key : K) where
    pub same_entry : (pairs : List (K × T)) → lookup (eq key) pairs ≡ entry_of eq key pairs
    same_entry [] = refl
    same_entry (pair ∷ rest) = ap (cond (eq key pair.0) (Some pair.1)) (same_entry rest)

    pub same_put : (value : T) (pairs : List (K × T)) → insert_entry eq pairs key value ≡ with_pair eq key value pairs
    same_put value [] = refl
    same_put value (pair ∷ rest) = ap (λ r. cond (eq key pair.0) ((pair.0, value) ∷ rest) (pair ∷ r)) (same_put value rest)

    pub same_removal : (pairs : List (K × T)) → remove_entry (eq key) pairs ≡ without_key eq key pairs
    same_removal [] = refl
    same_removal (pair ∷ rest) = ap (λ r. cond (eq key pair.0) rest (pair ∷ r)) (same_removal rest)

-- what the calls of the kit's map come to
pub ruleset kit_words = (are_distinct, same_entry, same_put, same_removal)

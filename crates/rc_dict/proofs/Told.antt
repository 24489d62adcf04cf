-- The entries tell what dictionary it is.
use Rattle.std.proofs.Common.{◌≡◌, false, List, [], ◌∷◌, Some, None, Ordering, refl, sym, ap, ◌∙◌}
use Rattle.std.proofs.lemmas.Cmp.{tied_itself}
use Rattle.std.proofs.lemmas.Option.{same_Some, none-some}
use Rattle.std.specs.Cmp.{IsTotalOrder}
use Rattle.std.specs.Ordering.{is_eq, ordering_reverse}
use Rattle.std.specs.declared.cmp.Ordering.TheVariants.{Less, Equal}
use Rattle.rc_dict.specs.Dict.{IsDict, entry}
use Rattle.rc_dict.proofs.Edits.{entry-here, entry-past}
use Rattle.rc_dict.proofs.Entries.{tie, entry-below}
use Rattle.rc_dict.proofs.Kept.{first_below, rest_dict}
use Rattle.sorted_pairs.proofs.Below.{all_over}
use Rattle.sorted_pairs.proofs.Cases.{by_ordering, by_test}

module _ {K T : Type 0} (cmp : K → K → Ordering) (total : IsTotalOrder cmp) where
  entry-own : (pair : K × T) (rest : List (K × T)) → entry cmp pair.0 (pair ∷ rest) ≡ Some pair.1
  entry-own pair rest = entry-here cmp pair.0 pair rest (ap is_eq (tied_itself total pair.0))

  -- a key that is below the first has no value
  entry-less : (z : K) (pair : K × T) (rest : List (K × T)) → IsDict cmp (pair ∷ rest) → cmp z pair.0 ≡ Less → entry cmp z (pair ∷ rest) ≡ None
  entry-less z pair rest dict less = entry-below cmp total z z (pair ∷ rest) (less, all_over cmp total z pair.0 rest less (first_below cmp pair rest dict)) (tied_itself total z)

  -- the same entries of all keys, those of the first pair too
  abbrev pub SameEntries : List (K × T) → List (K × T) → Type 0
  SameEntries one other = (key : K) → entry cmp key one ≡ entry cmp key other

  -- the first keys tie
  firsts_tie : (pair other : K × T) (rest others : List (K × T)) → IsDict cmp (pair ∷ rest) → IsDict cmp (other ∷ others) → SameEntries (pair ∷ rest) (other ∷ others) → cmp pair.0 other.0 ≡ Equal
  firsts_tie pair other rest others dict dict' same = by_ordering (cmp pair.0 other.0)
      (λ less. absurd (none-some _ (sym (entry-less pair.0 other others dict' less) ∙ sym (same pair.0) ∙ entry-own pair rest)))
      (λ tied. tied)
      (λ more. let less : cmp other.0 pair.0 ≡ Less = total.antisymm other.0 pair.0 ∙ ap ordering_reverse more in
      absurd (none-some _ (sym (entry-less other.0 pair rest dict less) ∙ same other.0 ∙ entry-own other others)))

  -- and the rests have the same entries
  rests_same : (pair other : K × T) (rest others : List (K × T)) → IsDict cmp (pair ∷ rest) → IsDict cmp (other ∷ others) → cmp pair.0 other.0 ≡ Equal → SameEntries (pair ∷ rest) (other ∷ others) → SameEntries rest others
  rests_same pair other rest others dict dict' tied same key = by_test (is_eq (cmp pair.0 key))
      (λ h. let here : cmp pair.0 key ≡ Equal = tie (cmp pair.0 key) h in
      let here' : cmp other.0 key ≡ Equal = sym (total.congr pair.0 other.0 key tied) ∙ here in
      entry-below cmp total key pair.0 rest (first_below cmp pair rest dict) here ∙ sym (entry-below cmp total key other.0 others (first_below cmp other others dict') here'))
      (λ h. let past : is_eq (cmp other.0 key) ≡ false = ap is_eq (sym (total.congr pair.0 other.0 key tied)) ∙ h in
      sym (entry-past cmp key pair rest h) ∙ same key ∙ entry-past cmp key other others past)

  module _ (tells : (j k : K) → cmp j k ≡ Equal → j ≡ k) where
    pub told : (one other : List (K × T)) → IsDict cmp one → IsDict cmp other → SameEntries one other → one ≡ other
    told [] [] dict dict' same = refl
    told [] (other ∷ others) dict dict' same = absurd (none-some _ (same other.0 ∙ entry-own other others))
    told (pair ∷ rest) [] dict dict' same = absurd (none-some _ (sym (same pair.0) ∙ entry-own pair rest))
    told (pair ∷ rest) (other ∷ others) dict dict' same =
        let tied = firsts_tie pair other rest others dict dict' same in
        let key : pair.0 ≡ other.0 = tells pair.0 other.0 tied in
        let here : entry cmp other.0 (pair ∷ rest) ≡ Some pair.1 = entry-here cmp other.0 pair rest (ap is_eq tied) in
        let value : pair.1 ≡ other.1 = same_Some _ _ (sym here ∙ same other.0 ∙ entry-own other others) in
        let first : pair ≡ other = λ i. (key i, value i) in
        let tails : rest ≡ others = told rest others (rest_dict cmp pair rest dict) (rest_dict cmp other others dict') (rests_same pair other rest others dict dict' tied same) in
        λ i. first i ∷ tails i

-- What a search in an ascending list of names says.
use Rattle.std.proofs.Common.{◌≡◌, ℕ, ◌<◌, ◌≤◌, List, length, get_or, Err, ap, ◌∙◌, arith}
use Rattle.std.specs.List.{Contains}
use Rattle.std.specs.Ordering.{nat_cmp, is_lt}
use Rattle.std.specs.List.Sorted.{IsBinarySearchResult}
use Rattle.std.proofs.lemmas.Cmp.{nat_cmp_total}
use Rattle.std.proofs.lemmas.List.{get_or_default}
use Rattle.std.proofs.lemmas.List.Sorted.{searched}
use Rattle.std.proofs.lemmas.Map.Keys.{Less-from_sorted, ge_from_not_lt}
use Rattle.sorted_pairs.proofs.Cases.{above_lesser}
use Rattle.gem_record.specs.Names.{Ascend}

between : (i j x y : ℕ) → i ≤ j → (i < j → x ≤ y) → (i ≡ j → x ≡ y) → x ≤ y
between i j x y before earlier here = grind arith

apart : (k at n x y : ℕ) → (k < at → x < y) → (at ≤ k → k < n → y < x) → k < n → x ≡ y → ⊥
apart k at n x y low high within same = grind arith

-- a name that stands before another isn't above it
rises : (names : List ℕ) → Ascend names → (i j : ℕ) → i ≤ j → j < length names
    → get_or names i 0 ≤ get_or names j 0
rises names ascend i j before within =
    let x = get_or names i 0 in
    let y = get_or names j 0 in
    let earlier : i < j → x ≤ y = λ h. ge_from_not_lt y x
    (ap is_lt (above_lesser nat_cmp_total x y (Less-from_sorted nat_cmp names i j 0 ascend h within))) in
    let here : i ≡ j → x ≡ y = ap (λ k. get_or names k 0) in
    between i j x y before earlier here

-- a name that a search doesn't find isn't in the list
pub not_found : (names : List ℕ) (name at : ℕ) → Ascend names
    → IsBinarySearchResult (λ other. nat_cmp other name) names (Err at) → Contains names name → ⊥
not_found names name at ascend answer there =
    let parted = searched names name (Err at) answer (rises names ascend) in
    let same : get_or names there.0 0 ≡ name
    = get_or_default names there.0 0 name there.1 ∙ there.2 in
    apart there.0 at (length names) (get_or names there.0 0) name (parted.1 there.0)
    (parted.2 there.0) there.1 same

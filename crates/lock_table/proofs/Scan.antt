-- A walk over the entries from an object's first holding on.
use Rattle.std.proofs.Common.{◌≡◌, ◌≢◌, ◌==◌, ℕ, ◌<◌, ◌≤◌, Bool, true, false, not, ◌&&◌, ◌||◌, inl, inr, [], ◌∷◌, Option, Some, None, if◌then◌else◌, refl, sym, arith}
use Rattle.std.specs.Option.{option_map}
use Rattle.std.specs.declared.cmp.Ordering.TheVariants.{Less}
use Rattle.std.specs.Ordering.{is_le}
use Rattle.std.specs.Map.{keys_of}
use Rattle.std.specs.BTreeMap.Range.{entries_between}
use Rattle.std.specs.declared.ops.Bound.TheVariants.{Included, Unbounded}
use Rattle.std.specs.List.Sorted.{IsStrictlySortedBy}
use Rattle.std.proofs.lemmas.Map.Keys.{sorted_head, sorted_tail}
use Rattle.std.specs.List.{find, AllByRecursion}
use Rattle.std.proofs.lemmas.Bool.{cases_lt}
use Rattle.std.proofs.lemmas.Bool.Decides.{nat_tests}
use Rattle.lock_table.specs.LockKind.{is_write}
use Rattle.lock_table.specs.Locks.{holding, holding_cmp}
use Rattle.lock_table.specs.Search.{is_in_the_way, holder_of, first_in_the_way}
use Rattle.lock_table.specs.declared.lock.Holding.{Holding}
use Rattle.lock_table.specs.declared.lock.LockKind.{LockKind}
use Rattle.lock_table.proofs.Held.{Entries}

module _ (session oid : ℕ) (kind : LockKind) where
  abbrev pub stands_in_the_way : Holding × LockKind → Bool
  stands_in_the_way entry = not (entry.0.session == session) && (is_write kind || is_write entry.1)

  -- the first entry of the object whose session is in the way, before the first entry of another object
  abbrev pub scan : Entries → Option (ℕ × LockKind)
  scan [] = None
  scan (entry ∷ entries) = if entry.0.oid == oid then (if stands_in_the_way entry then Some (holder_of entry) else scan entries) else None

-- a holding that is not above another is of no greater object
oid_le : (a b : Holding) → holding_cmp a b ≡ Less → a.oid ≤ b.oid
oid_le a b less = grind (arith, nat_tests)

module _ (session oid : ℕ) (kind : LockKind) where
  -- the first holding of the object
  abbrev first_holding : Holding
  first_holding = holding 0 oid

  below_first : (q : Holding) → q.oid < oid → is_le (holding_cmp first_holding q) ≡ false
  below_first q below = grind (arith, nat_tests)

  from_first : (q : Holding) → oid ≤ q.oid → is_le (holding_cmp first_holding q) ≡ true
  from_first q from = grind (arith, nat_tests)

  other_object : (entry : Holding × LockKind) → entry.0.oid ≢ oid → is_in_the_way session oid kind entry ≡ false
  other_object entry other = grind (arith, nat_tests)

  -- past the object, no entry is in the way
  none_past : (q : Holding) (entries : Entries) → AllByRecursion (λ key. holding_cmp q key ≡ Less) (keys_of entries) → oid < q.oid → first_in_the_way session oid kind entries ≡ None
  none_past q [] above past = refl
  none_past q (entry ∷ entries) above past =
      let other = other_object entry (λ same. omega (arith, oid_le q entry.0 above.0)) in
      rw other (none_past q entries above.1 past)

  this_object : (entry : Holding × LockKind) → entry.0.oid ≡ oid → is_in_the_way session oid kind entry ≡ stands_in_the_way session oid kind entry
  this_object entry same = let here : (entry.0.oid == oid) ≡ true = grind (arith, nat_tests) in rw here

  -- an entry of the object, found or passed over
  one_more : (here : Bool) (entry : Holding × LockKind) (from rest : Entries) → scan session oid kind from ≡ first_in_the_way session oid kind rest
      → (if here then Some (holder_of entry) else scan session oid kind from) ≡ option_map holder_of (if here then Some entry else find (is_in_the_way session oid kind) rest)
  one_more true entry from rest later = refl
  one_more false entry from rest later = later

  -- from the object's first holding on, the walk finds what the whole table has
  pub scan-between : (entries : Entries) → IsStrictlySortedBy holding_cmp (keys_of entries)
      → scan session oid kind (entries_between holding_cmp (Included first_holding) Unbounded entries) ≡ first_in_the_way session oid kind entries
  scan-between [] sorted = refl
  scan-between (entry ∷ entries) sorted =
      let later = scan-between entries (sorted_tail holding_cmp entry.0 (keys_of entries) sorted) in
      elim (cases_lt entry.0.oid oid) [
        | inl below ↦ rw (below_first entry.0 below, other_object entry (λ same. omega arith)) later
        | inr from ↦ rw (from_first entry.0 from) (elim (cases_lt oid entry.0.oid) [
          | inl past ↦
              let other : (entry.0.oid == oid) ≡ false = grind (arith, nat_tests) in
              rw other (sym (none_past entry.0 entries (sorted_head holding_cmp entry.0 (keys_of entries) sorted) past))
          | inr upto ↦
              let here : (entry.0.oid == oid) ≡ true = grind (arith, nat_tests) in
              rw here (one_more (stands_in_the_way session oid kind entry) entry _ entries later)
        ])
      ]

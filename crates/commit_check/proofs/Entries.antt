-- Which names and kinds the entries at one name have, and that they are in order.
use Rattle.std.proofs.Common.{◌≡◌, ℕ, ◌<◌, ◌≤◌, Bool, true, false, ◌||◌, if◌then◌else◌, nat_lt, List, ◌++◌, Option, Some, None, option_map, option_and_then, option_to_list, Less, nat_cmp, refl, sym, ap, ◌∙◌, arith}
use Rattle.std.specs.List.{AllByRecursion}
use Rattle.std.specs.List.Sorted.{IsStrictlySortedBy}
use Rattle.std.specs.Ordering.{ordering_then}
use Rattle.std.specs.Cmp.{nat_cmp_is, tied_itself}
use Rattle.std.specs.FinMap.{get}
use Rattle.std.proofs.lemmas.Cmp.{nat_cmp_total}
use Rattle.gem_object.specs.gem_value.Conflict.{kind_number}
use Rattle.gem_object.specs.gem_value.declared.conflict.Conflict.{Conflict}
use Rattle.gem_object.specs.gem_value.declared.conflict.ConflictKind.{ConflictKind}
use Rattle.gem_object.specs.declared.body.Body.{Body}
use Rattle.gem_object.specs.declared.body.Body.TheVariants as body
use Rattle.gem_object.specs.declared.object.Object.{Object}
use Rattle.gem_image.specs.Image.{Image}
use Rattle.gem_update.specs.Update.{merged, merge_kind}
use Rattle.gem_update.specs.declared.update.Update.{Update}
use Rattle.gem_record.specs.Names.{under}
use Rattle.gem_record.specs.declared.record.TxnRecord.{TxnRecord}
use Rattle.lock_table.specs.Locks.{denied_for}
use Rattle.lock_table.specs.declared.lock.LockKind.{LockKind}
use Rattle.lock_table.specs.declared.lock.LockKind.TheVariants.{Read, Write}
use Rattle.commit_check.specs.Conflicts.{Place, change_kind, later_change, on_change, lock_conflict, on_lock, is_written, is_checked, is_updated, refused, made_or_refused, merge_of, merge_at, conflict_in, object_in, conflicts_on, merged_on}
use Rattle.commit_check.specs.Table.{conflict_cmp}
use Rattle.commit_check.specs.declared.merging.Outcome.{Outcome}
use Rattle.commit_check.specs.declared.merging.Outcome.TheVariants.{Nothing, Made, Refused}
use Rattle.commit_check.proofs.Sorted.{all_weaker, all_append, sorted_append, sorted_one, sorted_none, below_by, pair_cmp}

-- the entry is of this name, and its kind is between two
pub record IsEntry (oid low high : ℕ) (conflict : Conflict) : Type 0 where
  pub named : conflict.oid ≡ oid
  pub over : low ≤ kind_number conflict.kind
  pub under : kind_number conflict.kind ≤ high

wider : (oid low high : ℕ) (least most : ℕ) → least ≤ low → high ≤ most → (conflict : Conflict)
    → IsEntry oid low high conflict → IsEntry oid least most conflict
wider oid low high least most down up conflict entry =
    let over = entry.over in
    let under = entry.under in
    record { named = entry.named; over = omega arith; under = omega arith }

-- ---- the parts

changes : (oid shown : ℕ) (later written touched : Bool) → AllByRecursion (IsEntry oid 1 2)
    (option_to_list (if later
    then option_map (λ k. record { oid = oid; kind = k; shown = shown }) (change_kind written touched) else None))
changes oid shown false written touched = tt
changes oid shown true true touched =
    (record { named = refl; over = omega arith; under = omega arith }, tt)
changes oid shown true false true =
    (record { named = refl; over = omega arith; under = omega arith }, tt)
changes oid shown true false false = tt

change_entries : (view oid : ℕ) (written touched : Bool) (object : Option Object)
    → AllByRecursion (IsEntry oid 1 2) (option_to_list
    (option_and_then (later_change view oid (change_kind written touched)) object))
change_entries view oid written touched None = tt
change_entries view oid written touched (Some object) =
    changes oid object.changed (nat_lt view object.changed) written touched

lock_entries : (oid : ℕ) (changed : Bool) (holder : Option (ℕ × LockKind))
    → AllByRecursion (IsEntry oid 3 4)
    (option_to_list (if changed then option_map (lock_conflict oid) holder else None))
lock_entries oid false holder = tt
lock_entries oid true None = tt
lock_entries oid true (Some (holder, Read)) =
    (record { named = refl; over = omega arith; under = omega arith }, tt)
lock_entries oid true (Some (holder, Write)) =
    (record { named = refl; over = omega arith; under = omega arith }, tt)

-- the kind is one of merges
record IsOfMerge (kind : ConflictKind) : Type 0 where
  over : 5 ≤ kind_number kind
  under : kind_number kind ≤ 8

merge_kinds : (b : Body) → AllByRecursion IsOfMerge (option_to_list (merge_kind b))
merge_kinds (body.Plain _) = tt
merge_kinds (body.Bytes _) = tt
merge_kinds (body.Dict _) = tt
merge_kinds (body.Class _) = tt
merge_kinds (body.Segment _) = tt
merge_kinds (body.User _) = tt
merge_kinds (body.Counter _) = (record { over = omega arith; under = omega arith }, tt)
merge_kinds (body.Bag _) = (record { over = omega arith; under = omega arith }, tt)
merge_kinds (body.RcDict _) = (record { over = omega arith; under = omega arith }, tt)
merge_kinds (body.Queue _) = (record { over = omega arith; under = omega arith }, tt)

refusals : (oid : ℕ) (place : Object) (kind : Option ConflictKind)
    → AllByRecursion IsOfMerge (option_to_list kind)
    → AllByRecursion (IsEntry oid 5 8) (conflict_in (refused oid place kind))
refusals oid place None kinds = tt
refusals oid place (Some kind) kinds =
    (record { named = refl; over = kinds.0.over; under = kinds.0.under }, tt)

outcomes : (oid : ℕ) (place : Object) (after : Option Body)
    → AllByRecursion (IsEntry oid 5 8) (conflict_in (made_or_refused oid place after))
outcomes oid place (Some after) = tt
outcomes oid place None = refusals oid place (merge_kind place.body) (merge_kinds place.body)

merge_entries : (oid : ℕ) (updates : Option (List Update)) (view place : Option Object)
    → AllByRecursion (IsEntry oid 5 8) (conflict_in (merge_of oid updates view place))
merge_entries oid None view place = tt
merge_entries oid (Some updates) None place = tt
merge_entries oid (Some updates) (Some view) None = tt
merge_entries oid (Some updates) (Some view) (Some place) =
    outcomes oid place (merged view.body place.body updates)

-- ---- all at one name

one_sorted : (o : Option Conflict) → IsStrictlySortedBy conflict_cmp (option_to_list o)
one_sorted None = sorted_none conflict_cmp
one_sorted (Some conflict) = sorted_one conflict_cmp conflict

outcome_sorted : (outcome : Outcome) → IsStrictlySortedBy conflict_cmp (conflict_in outcome)
outcome_sorted Nothing = sorted_none conflict_cmp
outcome_sorted (Made object) = sorted_none conflict_cmp
outcome_sorted (Refused conflict) = sorted_one conflict_cmp conflict

by_kind : (oid most least : ℕ) → most < least → (a b : Conflict) → IsEntry oid 1 most a
    → IsEntry oid least 8 b → conflict_cmp a b ≡ Less
by_kind oid most least apart a b first other =
    let under = first.under in
    let over = other.over in
    let less : kind_number a.kind < kind_number b.kind = omega arith in
    ap (λ r. ordering_then r (nat_cmp (kind_number a.kind) (kind_number b.kind)))
    (ap (λ k. nat_cmp k b.oid) (first.named ∙ sym other.named) ∙ tied_itself nat_cmp_total b.oid)
    ∙ sym (nat_cmp_is (kind_number a.kind) (kind_number b.kind) Less less)

module _ (place : Place) (transaction : TxnRecord) (oid : ℕ) where
  abbrev on_changes : List Conflict
  on_changes = option_to_list (on_change place.image transaction oid)

  abbrev on_locks : List Conflict
  on_locks = option_to_list (on_lock place.locks transaction oid)

  abbrev on_merges : List Conflict
  on_merges = conflict_in (merge_at place.image transaction oid)

  of_changes : AllByRecursion (IsEntry oid 1 2) on_changes
  of_changes = change_entries transaction.view oid (is_written transaction oid)
      (is_checked transaction oid) (get place.image oid)

  of_locks : AllByRecursion (IsEntry oid 3 4) on_locks
  of_locks = lock_entries oid (is_written transaction oid || is_updated transaction oid)
      (denied_for place.locks transaction.session oid Write)

  of_merges : AllByRecursion (IsEntry oid 5 8) on_merges
  of_merges = merge_entries oid (under oid transaction.updates) (get transaction.base oid)
      (get place.image oid)

  of_later : AllByRecursion (IsEntry oid 3 8) (on_locks ++ on_merges)
  of_later = all_append (IsEntry oid 3 8) on_locks on_merges
      (all_weaker (IsEntry oid 3 4) (IsEntry oid 3 8) (wider oid 3 4 3 8 (omega arith) (omega arith)) on_locks of_locks)
      (all_weaker (IsEntry oid 5 8) (IsEntry oid 3 8) (wider oid 5 8 3 8 (omega arith) (omega arith)) on_merges of_merges)

  pub conflicts_named : AllByRecursion (λ c. c.oid ≡ oid) (conflicts_on place transaction oid)
  conflicts_named = all_append (λ c. c.oid ≡ oid) on_changes (on_locks ++ on_merges)
      (all_weaker (IsEntry oid 1 2) (λ c. c.oid ≡ oid) (λ c entry. entry.named) on_changes of_changes)
      (all_weaker (IsEntry oid 3 8) (λ c. c.oid ≡ oid) (λ c entry. entry.named) (on_locks ++ on_merges) of_later)

  later_sorted : IsStrictlySortedBy conflict_cmp (on_locks ++ on_merges)
  later_sorted = sorted_append conflict_cmp on_locks on_merges
      (one_sorted (on_lock place.locks transaction oid))
      (outcome_sorted (merge_at place.image transaction oid))
      (below_by conflict_cmp (IsEntry oid 1 4) (IsEntry oid 5 8) (by_kind oid 4 5 (omega arith))
      on_locks on_merges
      (all_weaker (IsEntry oid 3 4) (IsEntry oid 1 4) (wider oid 3 4 1 4 (omega arith) (omega arith)) on_locks of_locks)
      of_merges)

  pub conflicts_sorted : IsStrictlySortedBy conflict_cmp (conflicts_on place transaction oid)
  conflicts_sorted = sorted_append conflict_cmp on_changes (on_locks ++ on_merges)
      (one_sorted (on_change place.image transaction oid)) later_sorted
      (below_by conflict_cmp (IsEntry oid 1 2) (IsEntry oid 3 8) (by_kind oid 2 3 (omega arith))
      on_changes (on_locks ++ on_merges) of_changes of_later)

-- ---- merged objects

object_sorted : (oid : ℕ) (outcome : Outcome) → IsStrictlySortedBy pair_cmp (object_in oid outcome)
object_sorted oid Nothing = sorted_none pair_cmp
object_sorted oid (Made object) = sorted_one pair_cmp (oid, object)
object_sorted oid (Refused conflict) = sorted_none pair_cmp

object_named : (oid : ℕ) (outcome : Outcome)
    → AllByRecursion (λ pair. pair.0 ≡ oid) (object_in oid outcome)
object_named oid Nothing = tt
object_named oid (Made object) = (refl, tt)
object_named oid (Refused conflict) = tt

module _ (image : Image) (transaction : TxnRecord) (oid : ℕ) where
  pub merged_sorted : IsStrictlySortedBy pair_cmp (merged_on image transaction oid)
  merged_sorted = object_sorted oid (merge_at image transaction oid)

  pub merged_named : AllByRecursion (λ pair. pair.0 ≡ oid) (merged_on image transaction oid)
  merged_named = object_named oid (merge_at image transaction oid)

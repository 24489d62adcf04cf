-- What stands is listed.
use Rattle.std.proofs.Common.{◌≡◌, ℕ, ◌<◌, Bool, true, false, ◌||◌, nat_lt, ◌⊎◌, inl, ⊎_elim, ◌++◌, Option, Some, is_some, option_to_list, flat_map, Contains, refl, sym, ap, ◌∙◌, subst}
use Rattle.std.proofs.lemmas.Bool.{lt-ltb}
use Rattle.gem_object.specs.gem_value.declared.conflict.Conflict.{Conflict}
use Rattle.gem_object.specs.gem_value.declared.conflict.ConflictKind.{ConflictKind}
use Rattle.gem_object.specs.gem_value.declared.conflict.ConflictKind.TheVariants.{WriteWrite, ReadWrite}
use Rattle.gem_image.specs.Image.{Image}
use Rattle.gem_record.specs.declared.record.TxnRecord.{TxnRecord}
use Rattle.lock_table.specs.Locks.{IsLowestHolder}
use Rattle.lock_table.specs.declared.lock.LockKind.{LockKind}
use Rattle.lock_table.specs.declared.lock.LockKind.TheVariants.{Read, Write}
use Rattle.lock_table.proofs.Denied.{lowest_is_value}
use Rattle.commit_check.specs.Conflicts.{Place, changed_of, last_change, change_kind, on_change, lock_conflict, on_lock, checks_reads, is_written, is_touched, is_checked, is_updated, merge_at, conflict_in, conflicts_on, conflicts_of, names_used}
use Rattle.commit_check.specs.Table.{IsWritten, IsUpdated, IsChangedSince, IsRefused, Stands, write_write, read_write, write_read_lock, write_write_lock, merge_refused}
use Rattle.commit_check.specs.declared.merging.Outcome.TheVariants.{Refused}
use Rattle.commit_check.proofs.Members.{IsOneOf, one_of, contained, given_in, in_first, in_second}
use Rattle.commit_check.proofs.Used.{to_any, and_from, first_true, second_true, touched_used, written_used, updated_used}

not_true : (b : Bool) → (b ≡ true → ⊥) → b ≡ false
not_true true no_more = absurd (no_more refl)
not_true false no_more = refl

some_one : {X : Type 0} (o : Option X) (x : X) → o ≡ Some x → IsOneOf x (option_to_list o)
some_one o x is = subst (λ l. IsOneOf x (option_to_list l)) (sym is) (inl refl)

refused_one : (image : Image) (transaction : TxnRecord) (oid : ℕ) (c : Conflict)
    → merge_at image transaction oid ≡ Refused c → IsOneOf c (conflict_in (merge_at image transaction oid))
refused_one image transaction oid c is = subst (λ m. IsOneOf c (conflict_in m)) (sym is) (inl refl)

changed_is : (image : Image) (transaction : TxnRecord) (oid : ℕ) (kind : ConflictKind)
    → IsChangedSince image transaction.view oid
    → change_kind (is_written transaction oid) (is_checked transaction oid) ≡ Some kind
    → on_change image transaction oid
    ≡ Some (record { oid = oid; kind = kind; shown = last_change image oid })
changed_is image transaction oid kind since is =
    let later : nat_lt transaction.view since.object.changed ≡ true
    = lt-ltb transaction.view since.object.changed
    (subst (λ k. transaction.view < k) (ap changed_of since.stands) since.later) in
    rw (since.stands, later, is) refl

lock_is : (place : Place) (transaction : TxnRecord) (oid holder : ℕ) (held : LockKind)
    → (is_written transaction oid || is_updated transaction oid) ≡ true
    → IsLowestHolder place.locks transaction.session oid holder held
    → on_lock place.locks transaction oid ≡ Some (lock_conflict oid (holder, held))
lock_is place transaction oid holder held changed lowest =
    let denied = (lowest_is_value place.locks transaction.session oid holder held).1 lowest in
    rw (changed, denied) refl

refusal_is : (image : Image) (transaction : TxnRecord) (oid : ℕ) (kind : ConflictKind)
    → IsRefused image transaction oid kind
    → merge_at image transaction oid
    ≡ Refused (record { oid = oid; kind = kind; shown = last_change image oid })
refusal_is image transaction oid kind r =
    rw (r.updated, r.at_view, r.at_place, r.refused, r.class) refl

module _ (place : Place) (transaction : TxnRecord) where
  in_list : (oid : ℕ) (c : Conflict) → IsOneOf oid (names_used transaction)
      → IsOneOf c (conflicts_on place transaction oid) → Contains (conflicts_of place transaction) c
  unfolding conflicts_of
  in_list oid c used there = contained c
      (flat_map (conflicts_on place transaction) (names_used transaction))
      (given_in (conflicts_on place transaction) c oid (names_used transaction) used there)

  change_listed : (oid : ℕ) (c : Conflict) → IsOneOf oid (names_used transaction)
      → on_change place.image transaction oid ≡ Some c → Contains (conflicts_of place transaction) c
  change_listed oid c used is = in_list oid c used
      (in_first c (option_to_list (on_change place.image transaction oid))
      (option_to_list (on_lock place.locks transaction oid)
      ++ conflict_in (merge_at place.image transaction oid))
      (some_one (on_change place.image transaction oid) c is))

  lock_listed : (oid : ℕ) (c : Conflict) → IsOneOf oid (names_used transaction)
      → on_lock place.locks transaction oid ≡ Some c → Contains (conflicts_of place transaction) c
  lock_listed oid c used is = in_list oid c used
      (in_second c (option_to_list (on_change place.image transaction oid))
      (option_to_list (on_lock place.locks transaction oid)
      ++ conflict_in (merge_at place.image transaction oid))
      (in_first c (option_to_list (on_lock place.locks transaction oid))
      (conflict_in (merge_at place.image transaction oid))
      (some_one (on_lock place.locks transaction oid) c is)))

  refusal_listed : (oid : ℕ) (c : Conflict) → IsOneOf oid (names_used transaction)
      → merge_at place.image transaction oid ≡ Refused c → Contains (conflicts_of place transaction) c
  refusal_listed oid c used is = in_list oid c used
      (in_second c (option_to_list (on_change place.image transaction oid))
      (option_to_list (on_lock place.locks transaction oid)
      ++ conflict_in (merge_at place.image transaction oid))
      (in_second c (option_to_list (on_lock place.locks transaction oid))
      (conflict_in (merge_at place.image transaction oid))
      (refused_one place.image transaction oid c is)))

  changed_used : (oid : ℕ) → IsWritten transaction oid ⊎ IsUpdated transaction oid
      → IsOneOf oid (names_used transaction)
  changed_used oid changed =
      ⊎_elim (written_used transaction oid) (updated_used transaction oid) changed

  changed_test : (oid : ℕ) → IsWritten transaction oid ⊎ IsUpdated transaction oid
      → (is_written transaction oid || is_updated transaction oid) ≡ true
  changed_test oid changed = ⊎_elim
      (first_true (is_written transaction oid) (is_updated transaction oid))
      (second_true (is_written transaction oid) (is_updated transaction oid)) changed

  pub stands_listed : (c : Conflict) → Stands place transaction c
      → Contains (conflicts_of place transaction) c
  stands_listed c (write_write oid written since) = change_listed oid c (written_used transaction oid written)
      (changed_is place.image transaction oid WriteWrite since
      (ap (λ w. change_kind w (is_checked transaction oid)) written))
  stands_listed c (read_write oid full touched not_written since) = change_listed oid c (touched_used transaction oid touched)
      (changed_is place.image transaction oid ReadWrite since
      (ap (λ w. change_kind w (is_checked transaction oid)) (not_true (is_written transaction oid) not_written)
      ∙ ap (change_kind false) (and_from (checks_reads transaction.mode) (is_touched transaction oid)
      (ap checks_reads full) (to_any oid transaction.touched (one_of oid transaction.touched touched)))))
  stands_listed c (write_read_lock oid holder changed lowest) = lock_listed oid c (changed_used oid changed)
      (lock_is place transaction oid holder Read (changed_test oid changed) lowest)
  stands_listed c (write_write_lock oid holder changed lowest) = lock_listed oid c (changed_used oid changed)
      (lock_is place transaction oid holder Write (changed_test oid changed) lowest)
  stands_listed c (merge_refused oid kind r) = refusal_listed oid c
      (updated_used transaction oid (ap is_some r.updated))
      (refusal_is place.image transaction oid kind r)

-- What is listed stands.
use Rattle.std.proofs.Common.{◌≡◌, ℕ, ◌<◌, Bool, true, false, ◌||◌, nat_lt, if◌then◌else◌, ◌⊎◌, inl, inr, ⊎_elim, List, ◌++◌, Option, Some, None, option_map, option_and_then, option_to_list, flat_map, Contains, refl, sym, ap, ◌∙◌, subst}
use Rattle.std.specs.FinMap.{get}
use Rattle.std.proofs.lemmas.Bool.{false≢true, ltb-true}
use Rattle.std.proofs.lemmas.Option.{none-some, same_Some}
use Rattle.gem_object.specs.gem_value.declared.conflict.Conflict.{Conflict}
use Rattle.gem_object.specs.gem_value.declared.conflict.ConflictKind.{ConflictKind}
use Rattle.gem_object.specs.gem_value.declared.conflict.ConflictKind.TheVariants.{WriteWrite, ReadWrite}
use Rattle.gem_object.specs.declared.body.Body.{Body}
use Rattle.gem_object.specs.declared.object.Object.{Object}
use Rattle.gem_update.specs.Update.{merged, merge_kind}
use Rattle.gem_update.specs.declared.update.Update.{Update}
use Rattle.gem_record.specs.Names.{under}
use Rattle.gem_record.specs.declared.record.TxnRecord.{TxnRecord}
use Rattle.lock_table.specs.Locks.{denied_for}
use Rattle.lock_table.specs.declared.lock.LockKind.{LockKind}
use Rattle.lock_table.specs.declared.lock.LockKind.TheVariants.{Read, Write}
use Rattle.lock_table.proofs.Denied.{lowest_is_value}
use Rattle.commit_check.specs.Conflicts.{Place, changed_of, last_change, change_kind, later_change, on_change, lock_conflict, on_lock, checks_reads, is_written, is_touched, is_checked, is_updated, refused, made_or_refused, merge_of, merge_at, conflict_in, conflicts_on, conflicts_of, names_used}
use Rattle.commit_check.specs.Table.{IsChangedSince, Stands, write_write, read_write, write_read_lock, write_write_lock, merge_refused}
use Rattle.commit_check.proofs.Members.{IsOneOf, one_of, contained, given_by, in_either}
use Rattle.commit_check.proofs.Used.{from_any, either, and_parts, is_full}

one_some : {X : Type 0} (o : Option X) (x : X) → IsOneOf x (option_to_list o) → o ≡ Some x
one_some None x none = absurd none
one_some (Some y) x (inl same) = ap Some same
one_some (Some y) x (inr none) = absurd none

module _ (place : Place) (transaction : TxnRecord) (oid : ℕ) (c : Conflict) where
  -- ---- changes

  later_found : (object : Object) → get place.image oid ≡ Some object
      → (later : Bool) → nat_lt transaction.view object.changed ≡ later
      → (written : Bool) → is_written transaction oid ≡ written
      → (checked : Bool) → is_checked transaction oid ≡ checked
      → (if later
      then option_map (λ k. record { oid = oid; kind = k; shown = object.changed }) (change_kind written checked)
      else None) ≡ Some c
      → Stands place transaction c
  later_found object found false l written w touched t e = absurd (none-some c e)
  later_found object found true l true w touched t e =
      let last : object.changed ≡ last_change place.image oid = sym (ap changed_of found) in
      let since : IsChangedSince place.image transaction.view oid = record {
        object = object;
        stands = found;
        later = subst (λ k. transaction.view < k) last (ltb-true transaction.view object.changed l);
      } in
      subst (Stands place transaction)
      (ap (λ k. record { oid = oid; kind = WriteWrite; shown = k }) (sym last) ∙ same_Some _ _ e)
      (write_write oid w since)
  later_found object found true l false w true t e =
      let both = and_parts (checks_reads transaction.mode) (is_touched transaction oid) t in
      let last : object.changed ≡ last_change place.image oid = sym (ap changed_of found) in
      let since : IsChangedSince place.image transaction.view oid = record {
        object = object;
        stands = found;
        later = subst (λ k. transaction.view < k) last (ltb-true transaction.view object.changed l);
      } in
      subst (Stands place transaction)
      (ap (λ k. record { oid = oid; kind = ReadWrite; shown = k }) (sym last) ∙ same_Some _ _ e)
      (read_write oid (is_full transaction.mode both.0)
      (contained oid transaction.touched (from_any oid transaction.touched both.1))
      (λ h. false≢true (sym w ∙ h)) since)
  later_found object found true l false w false t e = absurd (none-some c e)

  change_found : (o : Option Object) → get place.image oid ≡ o
      → option_and_then (later_change transaction.view oid
      (change_kind (is_written transaction oid) (is_checked transaction oid))) o ≡ Some c
      → Stands place transaction c
  change_found None found e = absurd (none-some c e)
  change_found (Some object) found e = later_found object found
      (nat_lt transaction.view object.changed) refl (is_written transaction oid) refl
      (is_checked transaction oid) refl e

  -- ---- locks

  lock_found : (changed : Bool) → (is_written transaction oid || is_updated transaction oid) ≡ changed
      → (holder : Option (ℕ × LockKind)) → denied_for place.locks transaction.session oid Write ≡ holder
      → (if changed then option_map (lock_conflict oid) holder else None) ≡ Some c
      → Stands place transaction c
  lock_found false is holder denied e = absurd (none-some c e)
  lock_found true is None denied e = absurd (none-some c e)
  lock_found true is (Some (holder, Read)) denied e = subst (Stands place transaction) (same_Some _ _ e)
      (write_read_lock oid holder (either (is_written transaction oid) (is_updated transaction oid) is)
      ((lowest_is_value place.locks transaction.session oid holder Read).0 denied))
  lock_found true is (Some (holder, Write)) denied e = subst (Stands place transaction) (same_Some _ _ e)
      (write_write_lock oid holder (either (is_written transaction oid) (is_updated transaction oid) is)
      ((lowest_is_value place.locks transaction.session oid holder Write).0 denied))

  -- ---- merges

  refusal_found : (updates : List Update) (view object : Object)
      → under oid transaction.updates ≡ Some updates → get transaction.base oid ≡ Some view
      → get place.image oid ≡ Some object → merged view.body object.body updates ≡ None
      → (kind : Option ConflictKind) → merge_kind object.body ≡ kind
      → IsOneOf c (conflict_in (refused oid object kind)) → Stands place transaction c
  refusal_found updates view object u v p m None k none = absurd none
  refusal_found updates view object u v p m (Some kind) k (inr none) = absurd none
  refusal_found updates view object u v p m (Some kind) k (inl same) =
      let last : object.changed ≡ last_change place.image oid = sym (ap changed_of p) in
      subst (Stands place transaction)
      (ap (λ n. record { oid = oid; kind = kind; shown = n }) (sym last) ∙ same)
      (merge_refused oid kind (record {
        updates = updates;
        view = view;
        place = object;
        updated = u;
        at_view = v;
        at_place = p;
        refused = m;
        class = k;
      }))

  outcome_found : (updates : List Update) (view object : Object)
      → under oid transaction.updates ≡ Some updates → get transaction.base oid ≡ Some view
      → get place.image oid ≡ Some object
      → (after : Option Body) → merged view.body object.body updates ≡ after
      → IsOneOf c (conflict_in (made_or_refused oid object after)) → Stands place transaction c
  outcome_found updates view object u v p (Some after) m none = absurd none
  outcome_found updates view object u v p None m there =
      refusal_found updates view object u v p m (merge_kind object.body) refl there

  merge_found : (updates : Option (List Update)) → under oid transaction.updates ≡ updates
      → (view : Option Object) → get transaction.base oid ≡ view
      → (object : Option Object) → get place.image oid ≡ object
      → IsOneOf c (conflict_in (merge_of oid updates view object)) → Stands place transaction c
  merge_found None u view v object p none = absurd none
  merge_found (Some updates) u None v object p none = absurd none
  merge_found (Some updates) u (Some view) v None p none = absurd none
  merge_found (Some updates) u (Some view) v (Some object) p there =
      outcome_found updates view object u v p (merged view.body object.body updates) refl there

  -- ---- all of them

  entry_stands : IsOneOf c (conflicts_on place transaction oid) → Stands place transaction c
  entry_stands there = ⊎_elim
      (λ h. change_found (get place.image oid) refl
      (one_some (on_change place.image transaction oid) c h))
      (λ more. ⊎_elim
      (λ h. lock_found (is_written transaction oid || is_updated transaction oid) refl
      (denied_for place.locks transaction.session oid Write) refl
      (one_some (on_lock place.locks transaction oid) c h))
      (λ h. merge_found (under oid transaction.updates) refl (get transaction.base oid) refl
      (get place.image oid) refl h)
      (in_either c (option_to_list (on_lock place.locks transaction oid))
      (conflict_in (merge_at place.image transaction oid)) more))
      (in_either c (option_to_list (on_change place.image transaction oid))
      (option_to_list (on_lock place.locks transaction oid)
      ++ conflict_in (merge_at place.image transaction oid)) there)

pub listed_stands : (place : Place) (transaction : TxnRecord) (c : Conflict)
    → Contains (conflicts_of place transaction) c → Stands place transaction c
unfolding conflicts_of
listed_stands place transaction c there =
    let at = given_by (conflicts_on place transaction) c (names_used transaction)
    (one_of c (flat_map (conflicts_on place transaction) (names_used transaction)) there) in
    entry_stands place transaction at.0 c at.1

-- The merged objects are those whose merge isn't refused.
use Rattle.std.proofs.Common.{◌≡◌, ℕ, inl, inr, List, Option, Some, None, is_some, flat_map, Contains, refl, sym, ap, ◌∙◌, subst}
use Rattle.std.specs.FinMap.{get}
use Rattle.gem_object.specs.gem_value.declared.conflict.ConflictKind.{ConflictKind}
use Rattle.gem_object.specs.declared.body.Body.{Body}
use Rattle.gem_object.specs.declared.object.Object.{Object}
use Rattle.gem_image.specs.Image.{Image}
use Rattle.gem_update.specs.Update.{merged, merge_kind}
use Rattle.gem_update.specs.declared.update.Update.{Update}
use Rattle.gem_record.specs.Names.{under}
use Rattle.gem_record.specs.declared.record.TxnRecord.{TxnRecord}
use Rattle.commit_check.specs.Conflicts.{refused, made_or_refused, merge_of, merge_at, object_in, merged_on, merged_objects, names_used}
use Rattle.commit_check.specs.Table.{IsMerged}
use Rattle.commit_check.specs.declared.merging.Outcome.TheVariants.{Made}
use Rattle.commit_check.proofs.Members.{IsOneOf, one_of, contained, given_by, given_in}
use Rattle.commit_check.proofs.Used.{updated_used}

module _ (image : Image) (transaction : TxnRecord) (name oid : ℕ) (object : Object) where
  none_refused : (place : Object) (kind : Option ConflictKind)
      → IsOneOf (oid, object) (object_in name (refused name place kind)) → ⊥
  none_refused place None none = none
  none_refused place (Some kind) none = none

  made_found : (updates : List Update) (view place : Object)
      → under name transaction.updates ≡ Some updates → get transaction.base name ≡ Some view
      → get image name ≡ Some place
      → (after : Option Body) → merged view.body place.body updates ≡ after
      → IsOneOf (oid, object) (object_in name (made_or_refused name place after))
      → (name ≡ oid) × IsMerged image transaction name object
  made_found updates view place u v p None m there =
      absurd (none_refused place (merge_kind place.body) there)
  made_found updates view place u v p (Some after) m (inr none) = absurd none
  made_found updates view place u v p (Some after) m (inl same) = (
    ap (λ e. e.0) same,
    record {
      updates = updates;
      view = view;
      place = place;
      body = after;
      updated = u;
      at_view = v;
      at_place = p;
      merges = m;
      is = sym (ap (λ e. e.1) same);
    },
  )

  merge_found : (updates : Option (List Update)) → under name transaction.updates ≡ updates
      → (view : Option Object) → get transaction.base name ≡ view
      → (place : Option Object) → get image name ≡ place
      → IsOneOf (oid, object) (object_in name (merge_of name updates view place))
      → (name ≡ oid) × IsMerged image transaction name object
  merge_found None u view v place p none = absurd none
  merge_found (Some updates) u None v place p none = absurd none
  merge_found (Some updates) u (Some view) v None p none = absurd none
  merge_found (Some updates) u (Some view) v (Some place) p there =
      made_found updates view place u v p (merged view.body place.body updates) refl there

pub listed_merged : (image : Image) (transaction : TxnRecord) (oid : ℕ) (object : Object)
    → Contains (merged_objects image transaction) (oid, object)
    → IsMerged image transaction oid object
unfolding merged_objects
listed_merged image transaction oid object there =
    let at = given_by (merged_on image transaction) (oid, object) (names_used transaction)
    (one_of (oid, object) (flat_map (merged_on image transaction) (names_used transaction)) there) in
    let found = merge_found image transaction at.0 oid object (under at.0 transaction.updates) refl
    (get transaction.base at.0) refl (get image at.0) refl at.1 in
    subst (λ n. IsMerged image transaction n object) found.0 found.1

made_is : (image : Image) (transaction : TxnRecord) (oid : ℕ) (object : Object)
    → (m : IsMerged image transaction oid object)
    → merge_at image transaction oid ≡ Made (record m.place { body = m.body })
made_is image transaction oid object m = rw (m.updated, m.at_view, m.at_place, m.merges) refl

pub merged_listed : (image : Image) (transaction : TxnRecord) (oid : ℕ) (object : Object)
    → IsMerged image transaction oid object
    → Contains (merged_objects image transaction) (oid, object)
unfolding merged_objects
merged_listed image transaction oid object m =
    let made : merge_at image transaction oid ≡ Made object
    = made_is image transaction oid object m ∙ ap Made (sym m.is) in
    contained (oid, object) (flat_map (merged_on image transaction) (names_used transaction))
    (given_in (merged_on image transaction) (oid, object) oid (names_used transaction)
    (updated_used transaction oid (ap is_some m.updated))
    (subst (λ o. IsOneOf (oid, object) (object_in oid o)) (sym made) (inl refl)))

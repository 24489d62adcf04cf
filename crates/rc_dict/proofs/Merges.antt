-- Merges of sessions that update no key in common, and where a merge is refused.
use Rattle.std.proofs.Common.{◌≡◌, ℕ, suc, ◌+◌, Bool, true, false, cond, List, [], ◌∷◌, take, slice_get, Option, Some, None, is_some, Ok, Err, IsOk, Ordering, refl, sym, ap, ◌∙◌, inl, inr, ◌⊎◌, ⊎_elim, arith}
use Rattle.std.proofs.lemmas.Option.{same_Some, cond_some}
use Rattle.std.specs.Cmp.{IsTotalOrder}
use Rattle.std.specs.List.{AllByRecursion}
use Rattle.std.specs.Ordering.{is_eq}
use Rattle.std.specs.declared.cmp.Ordering.TheVariants.{Equal}
use Rattle.rc_dict.specs.Dict.{IsDict, key_of, value_of, entry, without, settled, updated, all_settled, last_entry, is_same_at, same_entry, first_changed, unless_changed, merged}
use Rattle.rc_dict.specs.Turns.{AreApart, merged_after, merged_twice}
use Rattle.rc_dict.specs.declared.update.DictUpdate.{DictUpdate}
use Rattle.rc_dict.specs.declared.update.DictUpdate.TheVariants.{Put, Remove}
use Rattle.rc_dict.proofs.Entries.{tie, entry-all_settled}
use Rattle.rc_dict.proofs.Kept.{IsDict-all_settled}
use Rattle.sorted_pairs.proofs.Cases.{by_test, tie_flip}
use Rattle.rc_dict.proofs.Told.{told}

-- what an update that isn't refused leaves
pub settled-from_updated : {K T : Type 0} (cmp : K → K → Ordering) (update : DictUpdate K T) (pairs after : List (K × T)) → updated cmp update pairs ≡ Some after → settled cmp update pairs ≡ after
settled-from_updated cmp (Put key value) pairs after e = same_Some _ after e
settled-from_updated cmp (Remove key) pairs after e = (cond_some (is_some (entry cmp key pairs)) (without cmp key pairs) after e).1

-- a merge that isn't refused
pub merged-Ok : {K T : Type 0} (changed : Option ℕ) (pairs after : List (K × T)) → unless_changed changed pairs ≡ Ok after → (changed ≡ None) × (pairs ≡ after)
merged-Ok None pairs after e = (refl, cc)
merged-Ok (Some at) pairs after e = absurd (cc)

pub merged-is_ok : {K T : Type 0} (changed : Option ℕ) (pairs : List (K × T)) → IsOk (unless_changed changed pairs) → changed ≡ None
merged-is_ok None pairs h = refl
merged-is_ok (Some at) pairs h = absurd (cc)

merged-Err : {K T : Type 0} (changed : Option ℕ) (pairs : List (K × T)) (at : ℕ) → unless_changed changed pairs ≡ Err at → changed ≡ Some at
merged-Err None pairs at e = absurd (cc)
merged-Err (Some k) pairs at e = let same : k ≡ at = cc in ap Some same

module _ {K T : Type 0} (cmp : K → K → Ordering) (total : IsTotalOrder cmp) where
  -- no update is of the key
  abbrev pub IsUntouched : K → List (DictUpdate K T) → Type 0
  IsUntouched key updates = AllByRecursion (λ update. is_eq (cmp (key_of update) key) ≡ false) updates

  last_entry-untouched : (key : K) (updates : List (DictUpdate K T)) (before : Option T) → IsUntouched key updates → last_entry cmp key updates before ≡ before
  last_entry-untouched key [] before apart = refl
  last_entry-untouched key (update ∷ rest) before apart =
      ap (λ b. last_entry cmp key rest (cond b (value_of update) before)) apart.0 ∙ last_entry-untouched key rest before apart.1

  -- one update of the second session, and the others
  first_apart : (first : List (DictUpdate K T)) (other : DictUpdate K T) (rest : List (DictUpdate K T)) → AreApart cmp first (other ∷ rest) → IsUntouched (key_of other) first × AreApart cmp first rest
  first_apart [] other rest apart = (tt, tt)
  first_apart (one ∷ ones) other rest apart =
      let r = first_apart ones other rest apart.1 in ((apart.0.0, r.0), (apart.0.1, r.1))

  row_flip : (one : DictUpdate K T) (updates : List (DictUpdate K T)) → IsUntouched (key_of one) updates → AllByRecursion (λ other. is_eq (cmp (key_of one) (key_of other)) ≡ false) updates
  row_flip one [] apart = tt
  row_flip one (other ∷ rest) apart = (tie_flip total (key_of one) (key_of other) ∙ apart.0, row_flip one rest apart.1)

  apart_flip : (first second : List (DictUpdate K T)) → AreApart cmp first second → AreApart cmp second first
  apart_flip first [] apart = tt
  apart_flip first (other ∷ rest) apart =
      let r = first_apart first other rest apart in (row_flip other first r.0, apart_flip first rest r.1)

  -- a key is untouched by one of the two sessions
  untouched_past : (key : K) (one : DictUpdate K T) (second : List (DictUpdate K T)) → cmp (key_of one) key ≡ Equal → AllByRecursion (λ other. is_eq (cmp (key_of one) (key_of other)) ≡ false) second → IsUntouched key second
  untouched_past key one [] tied apart = tt
  untouched_past key one (other ∷ rest) tied apart =
      (tie_flip total (key_of other) key ∙ ap is_eq (sym (total.congr (key_of one) key (key_of other) tied)) ∙ apart.0, untouched_past key one rest tied apart.1)

  by_one : (key : K) (first second : List (DictUpdate K T)) → AreApart cmp first second → IsUntouched key first ⊎ IsUntouched key second
  by_one key [] second apart = inl tt
  by_one key (one ∷ rest) second apart = by_test (is_eq (cmp (key_of one) key))
      (λ h. inr (untouched_past key one second (tie (cmp (key_of one) key) h) apart.0))
      (λ h. ⊎_elim (λ r. inl (h, r)) (λ r. inr r) (by_one key rest second apart.1))

  last_entry_comm : (key : K) (first second : List (DictUpdate K T)) (before : Option T) → AreApart cmp first second → last_entry cmp key second (last_entry cmp key first before) ≡ last_entry cmp key first (last_entry cmp key second before)
  last_entry_comm key first second before apart = ⊎_elim
      (λ r. ap (last_entry cmp key second) (last_entry-untouched key first before r) ∙ sym (last_entry-untouched key first (last_entry cmp key second before) r))
      (λ r. last_entry-untouched key second (last_entry cmp key first before) r ∙ sym (ap (last_entry cmp key first) (last_entry-untouched key second before r)))
      (by_one key first second apart)

  module _ (value_cmp : T → T → Ordering) (view place : List (K × T)) (dict : IsDict cmp place) where
    -- the second session's keys are as they were
    changed-settled : (start : ℕ) (first second : List (DictUpdate K T)) → AreApart cmp first second → first_changed cmp value_cmp view (all_settled cmp first place) start second ≡ first_changed cmp value_cmp view place start second
    changed-settled start first [] apart = refl
    changed-settled start first (other ∷ rest) apart =
        let r = first_apart first other rest apart in
        let key = key_of other in
        let same : entry cmp key (all_settled cmp first place) ≡ entry cmp key place = entry-all_settled cmp total key first place dict ∙ last_entry-untouched key first (entry cmp key place) r.0 in
        ap (λ e. cond (same_entry value_cmp (entry cmp key view) e) (first_changed cmp value_cmp view (all_settled cmp first place) (start + 1) rest) (Some start)) same
        ∙ ap (λ o. cond (is_same_at cmp value_cmp key view place) o (Some start)) (changed-settled (start + 1) first rest r.1)

    pub merged_twice-apart : (first second : List (DictUpdate K T)) → AreApart cmp first second → IsOk (merged cmp value_cmp view place first) → IsOk (merged cmp value_cmp view place second)
        → merged_twice cmp value_cmp view place first second ≡ Ok (all_settled cmp second (all_settled cmp first place))
    merged_twice-apart first second apart ok other =
        let stands = merged-is_ok (first_changed cmp value_cmp view place 0 first) (all_settled cmp first place) ok in
        let follows = changed-settled 0 first second apart ∙ merged-is_ok (first_changed cmp value_cmp view place 0 second) (all_settled cmp second place) other in
        ap (λ o. merged_after cmp value_cmp (unless_changed o (all_settled cmp first place)) view second) stands ∙ ap (λ o. unless_changed o (all_settled cmp second (all_settled cmp first place))) follows

    pub merges_commute : ((j k : K) → cmp j k ≡ Equal → j ≡ k) → (first second : List (DictUpdate K T)) → AreApart cmp first second → IsOk (merged cmp value_cmp view place first) → IsOk (merged cmp value_cmp view place second)
        → merged_twice cmp value_cmp view place first second ≡ merged_twice cmp value_cmp view place second first
    merges_commute tells first second apart ok other =
        let after_first = IsDict-all_settled cmp total first place dict in
        let after_second = IsDict-all_settled cmp total second place dict in
        let same : all_settled cmp second (all_settled cmp first place) ≡ all_settled cmp first (all_settled cmp second place) =
        told cmp total tells _ _ (IsDict-all_settled cmp total second (all_settled cmp first place) after_first) (IsDict-all_settled cmp total first (all_settled cmp second place) after_second) (λ key.
        entry-all_settled cmp total key second (all_settled cmp first place) after_first ∙ ap (last_entry cmp key second) (entry-all_settled cmp total key first place dict)
        ∙ last_entry_comm key first second (entry cmp key place) apart
        ∙ sym (entry-all_settled cmp total key first (all_settled cmp second place) after_second ∙ ap (last_entry cmp key first) (entry-all_settled cmp total key second place dict))) in
        merged_twice-apart first second apart ok other ∙ ap Ok same ∙ sym (merged_twice-apart second first (apart_flip first second apart) other ok)

-- ---- the first refusal

module _ {K T : Type 0} (cmp : K → K → Ordering) (value_cmp : T → T → Ordering) (view place : List (K × T)) where
  pub record IsChangedAt (start i : ℕ) (updates : List (DictUpdate K T)) : Type 0 where
    pub index : ℕ
    pub counted : i ≡ start + index
    pub update : DictUpdate K T
    pub here : slice_get updates index ≡ Some update
    pub changed : is_same_at cmp value_cmp (key_of update) view place ≡ false
    pub before : first_changed cmp value_cmp view place start (take index updates) ≡ None

  changed_by : (same : Bool) (start i : ℕ) (update : DictUpdate K T) (rest : List (DictUpdate K T)) → is_same_at cmp value_cmp (key_of update) view place ≡ same
      → (first_changed cmp value_cmp view place (start + 1) rest ≡ Some i → IsChangedAt (start + 1) i rest)
      → cond same (first_changed cmp value_cmp view place (start + 1) rest) (Some start) ≡ Some i → IsChangedAt start i (update ∷ rest)
  changed_by true start i update rest test more e =
      let r = more e in
      record {
        index = suc r.index;
        counted = omega (arith, r.counted);
        update = r.update;
        here = r.here;
        changed = r.changed;
        before = ap (λ b. cond b (first_changed cmp value_cmp view place (start + 1) (take r.index rest)) (Some start)) test ∙ r.before;
      }
  changed_by false start i update rest test more e =
      let same : start ≡ i = cc in
      record { index = 0; counted = omega arith; update = update; here = refl; changed = test; before = refl }

  changed_at : (start : ℕ) (updates : List (DictUpdate K T)) (i : ℕ) → first_changed cmp value_cmp view place start updates ≡ Some i → IsChangedAt start i updates
  changed_at start [] i e = absurd (cc)
  changed_at start (update ∷ rest) i e = changed_by (is_same_at cmp value_cmp (key_of update) view place) start i update rest refl (changed_at (start + 1) rest i) e

  pub first_refusal : (updates : List (DictUpdate K T)) (at : ℕ) → merged cmp value_cmp view place updates ≡ Err at → IsChangedAt 0 at updates
  first_refusal updates at e = changed_at 0 updates at (merged-Err (first_changed cmp value_cmp view place 0 updates) (all_settled cmp updates place) at e)

-- What a record's transaction touched, and what the absence of conflicts says of it.
use Rattle.std.proofs.Common.{◌≡◌, ℕ, ◌≤◌, ◌<◌, Bool, true, false, ◌||◌, inl, inr, List, [], ◌∷◌, map, Contains, Option, Some, None, is_some, nat_eq, refl, sym, ap, ap₂, subst, ◌∙◌, arith}
use Rattle.std.specs.Ordering.{nat_cmp, eq_by_cmp}
use Rattle.std.specs.Cmp.{nat_cmp_total, unsigned_tied}
use Rattle.std.specs.List.{list_any}
use Rattle.std.specs.FinMap.{get, from_entries, contains_key-keys, get-from_entries}
use Rattle.std.specs.FinMap.Entries.{is_some-find}
use Rattle.std.proofs.lemmas.Bool.{false≢true, cases_lt}
use Rattle.gem_meaning.specs.gem_object.declared.object.Object.{Object}
use Rattle.gem_meaning.specs.gem_record.declared.record.TxnRecord.{TxnRecord}
use Rattle.gem_meaning.specs.gem_record.declared.mode.Mode.TheVariants.{Full}
use Rattle.gem_meaning.specs.gem_record.declared.record.Entry.{Entry}
use Rattle.gem_meaning.specs.gem_value.declared.conflict.Conflict.{Conflict}
use Rattle.gem_meaning.specs.gem_world.World.{Setting, World, is_among}
use Rattle.gem_meaning.specs.gem_record.RunNames.{marked, ascending}
use Rattle.gem_meaning.specs.gem_record.Record.{record_of}
use Rattle.gem_meaning.specs.commit_check.Conflicts.{Place, changed_of, last_change, conflicts_of, is_touched, is_written}
use Rattle.gem_meaning.specs.commit_check.Table.{IsTouched, IsWritten, IsChangedSince, Stands, write_write, read_write}
use Rattle.gem_meaning.proofs.commit_check_lemmas.Listed.{stands_listed}
use Rattle.gem_meaning.proofs.commit_check_lemmas.Members.{contained}
use Rattle.gem_meaning.proofs.commit_check_lemmas.Used.{from_any}

pub same_tests : (name : ℕ) (names : List ℕ)
    → list_any (eq_by_cmp nat_cmp name) names ≡ list_any (nat_eq name) names
same_tests name [] = refl
same_tests name (first ∷ rest) = ap₂ ◌||◌ (unsigned_tied name first) (same_tests name rest)

marked_names : (names : List ℕ) → map (λ (entry : ℕ × Unit {0}). entry.0) (marked names) ≡ names
marked_names [] = refl
marked_names (first ∷ rest) = ap (λ names. first ∷ names) (marked_names rest)

-- the names in order are the same names
pub ascending_has : (name : ℕ) (names : List ℕ)
    → list_any (eq_by_cmp nat_cmp name) (ascending names) ≡ list_any (nat_eq name) names
ascending_has name names =
    sym (contains_key-keys (from_entries {R = nat_cmp} (marked names)) name)
    ∙ ap is_some (get-from_entries nat_cmp_total (marked names) name)
    ∙ is_some-find nat_cmp name (marked names)
    ∙ ap (list_any (eq_by_cmp nat_cmp name)) (marked_names names)
    ∙ same_tests name names

-- the record has the names that the run touched
pub touched_in_record : (e : Entry) (setting : Setting) (world : World) (name : ℕ)
    → is_touched (record_of e setting world) name ≡ is_among name world.touched
unfolding record_of
touched_in_record e setting world name = ascending_has name world.touched

pub is_contained : (done : TxnRecord) (name : ℕ) → is_touched done name ≡ true → IsTouched done name
is_contained done name is = contained name done.touched (from_any name done.touched is)

-- ---- without conflicts

pub none_stands : (place : Place) (done : TxnRecord) (c : Conflict) → conflicts_of place done ≡ []
    → Stands place done c → ⊥
none_stands place done c none stands =
    let listed = subst (λ cs. Contains cs c) none (stands_listed place done c stands) in
    let below = listed.1 in
    omega (arith, below)

module _ (place : Place) (done : TxnRecord) (none : conflicts_of place done ≡ []) where
  not_changed_by : done.mode ≡ Full → (name : ℕ) (written : Bool) → is_written done name ≡ written
      → IsTouched done name → IsChangedSince place.image done.view name → ⊥
  not_changed_by full name true is touched since =
      none_stands place done _ none (write_write name is since)
  not_changed_by full name false is touched since =
      none_stands place done _ none (read_write name full touched (λ some. false≢true (sym is ∙ some)) since)

  changed_by : (name : ℕ) (found : Option Object) → get place.image name ≡ found
      → done.view < last_change place.image name → IsChangedSince place.image done.view name
  changed_by name None is later = let last : last_change place.image name ≡ 0 = ap changed_of is in
      absurd (omega (arith, last, later))
  changed_by name (Some object) is later =
      record { object = object; stands = is; later = later }

  -- no commit after the view has changed what was touched, where the commit is checked for it
  pub touched_is_old : done.mode ≡ Full → (name : ℕ) → IsTouched done name
      → last_change place.image name ≤ done.view
  touched_is_old full name touched = elim (cases_lt done.view (last_change place.image name)) [
    | inl later ↦ absurd (not_changed_by full name (is_written done name) refl touched
        (changed_by name (get place.image name) refl later))
    | inr old ↦ old
  ]

  -- nor what was written, in each mode
  pub written_is_old : (name : ℕ) → IsWritten done name → last_change place.image name ≤ done.view
  written_is_old name written = elim (cases_lt done.view (last_change place.image name)) [
    | inl later ↦ absurd (none_stands place done _ none (write_write name written
        (changed_by name (get place.image name) refl later)))
    | inr old ↦ old
  ]

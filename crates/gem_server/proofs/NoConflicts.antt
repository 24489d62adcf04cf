-- A commit without conflicts.
use Rattle.std.proofs.Common.{◌≡◌, ℕ, Bool, true, false, ◌||◌, List, [], ◌∷◌, ◌++◌, Option, Some, None, IfSome, option_map, refl, sym, ap, ◌∙◌}
use Rattle.std.specs.Prelude.{nat_lt, option_and_then, if◌then◌else◌}
use Rattle.std.specs.Option.{option_to_list}
use Rattle.std.specs.List.{flat_map}
use Rattle.std.specs.FinMap.{empty, entries, len-entries, len-empty}
use Rattle.gem_meaning.specs.gem_value.declared.conflict.Conflict.{Conflict}
use Rattle.gem_meaning.specs.gem_value.declared.conflict.ConflictKind.{ConflictKind}
use Rattle.gem_meaning.specs.gem_object.declared.object.Object.{Object}
use Rattle.gem_meaning.specs.gem_image.Image.{Image}
use Rattle.gem_meaning.specs.gem_record.declared.record.TxnRecord.{TxnRecord}
use Rattle.gem_meaning.specs.lock_table.Locks.{holding_cmp, denied_for}
use Rattle.gem_meaning.specs.lock_table.Search.{first_in_the_way}
use Rattle.gem_meaning.specs.lock_table.declared.lock.LockKind.{LockKind}
use Rattle.gem_meaning.specs.lock_table.declared.lock.LockKind.TheVariants.{Write}
use Rattle.gem_meaning.specs.commit_check.Conflicts.{Place, is_written, is_updated, later_change, on_change, on_lock, lock_conflict, conflict_in, merge_at, conflicts_on, conflicts_of, names_used}
use Rattle.gem_server.proofs.RunRecords.{no_length}

-- an object that was changed no later than the view
pub no_change : (object : Option Object) (oid view : ℕ) (kind : Option ConflictKind) → IfSome object (λ o. nat_lt view o.changed ≡ false)
    → option_and_then (later_change view oid kind) object ≡ None
no_change None oid view kind unchanged = refl
no_change (Some object) oid view kind unchanged =
    ap (λ (later : Bool). if later then option_map (λ k. record { oid = oid; kind = k; shown = object.changed }) kind else None) unchanged

none_denied : (session oid : ℕ) (kind : LockKind) → denied_for empty session oid kind ≡ None
unfolding denied_for
none_denied session oid kind = ap (first_in_the_way session oid kind)
    (no_length (entries (empty {X = LockKind} {R = holding_cmp}))
    (sym (len-entries (empty {X = LockKind} {R = holding_cmp})) ∙ len-empty holding_cmp LockKind))

no_lock_by : (asks : Bool) (denied : Option (ℕ × LockKind)) (oid : ℕ) → denied ≡ None
    → (if asks then option_map (lock_conflict oid) denied else None) ≡ None
no_lock_by true denied oid none = ap (option_map (lock_conflict oid)) none
no_lock_by false denied oid none = refl

-- no lock of another session
pub no_lock : (done : TxnRecord) (oid : ℕ) → on_lock empty done oid ≡ None
no_lock done oid = no_lock_by (is_written done oid || is_updated done oid) (denied_for empty done.session oid Write) oid
    (none_denied done.session oid Write)

none_of_three : (change lock : Option Conflict) (merge : List Conflict) → change ≡ None → lock ≡ None → merge ≡ []
    → option_to_list change ++ (option_to_list lock ++ merge) ≡ []
none_of_three change lock merge no_change no_lock no_merge =
    ap (λ (c : Option Conflict). option_to_list c ++ (option_to_list lock ++ merge)) no_change
    ∙ ap (λ (l : Option Conflict). option_to_list l ++ merge) no_lock ∙ no_merge

none_on_any : (place : Place) (done : TxnRecord) (names : List ℕ) → ((oid : ℕ) → conflicts_on place done oid ≡ [])
    → flat_map (conflicts_on place done) names ≡ []
none_on_any place done [] none = refl
none_on_any place done (name ∷ names) none =
    ap (λ (found : List Conflict). found ++ flat_map (conflicts_on place done) names) (none name) ∙ none_on_any place done names none

-- no conflict stands against a commit where nobody holds a lock
pub no_conflicts : (image : Image) (done : TxnRecord) → ((oid : ℕ) → on_change image done oid ≡ None)
    → ((oid : ℕ) → conflict_in (merge_at image done oid) ≡ [])
    → conflicts_of (record { image = image; locks = empty }) done ≡ []
unfolding conflicts_of
no_conflicts image done unchanged merged = none_on_any (record { image = image; locks = empty }) done (names_used done)
    (λ oid. none_of_three _ _ _ (unchanged oid) (no_lock done oid) (merged oid))

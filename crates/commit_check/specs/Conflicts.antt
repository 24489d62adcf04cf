-- Which conflicts stand against a commit, and what its merges make, as they are computed.
use Rattle.std.specs.Prelude.{ℕ, Bool, true, false, ◌&&◌, ◌||◌, nat_lt, if◌then◌else◌, List, [], ◌∷◌, ◌++◌, map, Option, Some, None, is_some, option_map, option_and_then}
use Rattle.std.specs.Option.{option_to_list}
use Rattle.std.specs.Ordering.{nat_cmp, eq_by_cmp}
use Rattle.std.specs.List.{flat_map, list_any}
use Rattle.std.specs.FinMap.{get}
use Rattle.gem_object.specs.gem_value.declared.conflict.Conflict.{Conflict}
use Rattle.gem_object.specs.gem_value.declared.conflict.ConflictKind.{ConflictKind}
use Rattle.gem_object.specs.gem_value.declared.conflict.ConflictKind.TheVariants.{WriteWrite, ReadWrite, WriteReadLock, WriteWriteLock}
use Rattle.gem_object.specs.declared.body.Body.{Body}
use Rattle.gem_object.specs.declared.object.Object.{Object}
use Rattle.gem_image.specs.Image.{Image}
use Rattle.gem_update.specs.Update.{merged, merge_kind}
use Rattle.gem_update.specs.declared.update.Update.{Update}
use Rattle.gem_record.specs.Names.{under}
use Rattle.gem_record.specs.declared.record.TxnRecord.{TxnRecord}
use Rattle.gem_record.specs.declared.mode.Mode.{Mode}
use Rattle.gem_record.specs.declared.mode.Mode.TheVariants.{Full, NoRw}
use Rattle.lock_table.specs.Locks.{LockSet, denied_for}
use Rattle.lock_table.specs.declared.lock.LockKind.{LockKind}
use Rattle.lock_table.specs.declared.lock.LockKind.TheVariants.{Read, Write}
use Rattle.commit_check.specs.Union.{union}
use Rattle.commit_check.specs.declared.merging.Outcome.{Outcome}
use Rattle.commit_check.specs.declared.merging.Outcome.TheVariants.{Nothing, Made, Refused}

-- what a commit meets at its place
pub record Place : Type 0 where
  pub image : Image
  pub locks : LockSet

-- the number of the commit that last changed an object, or 0 where there is none
abbrev pub changed_of : Option Object → ℕ
changed_of None = 0
changed_of (Some object) = object.changed

-- the same of the object of this name in an image
abbrev pub last_change : Image → ℕ → ℕ
last_change image oid = changed_of (get image oid)

-- ---- what the transaction did with an object

abbrev pub is_touched : TxnRecord → ℕ → Bool
is_touched transaction oid = list_any (eq_by_cmp nat_cmp oid) transaction.touched

-- whether a commit in this mode is checked for what its transaction only read
abbrev pub checks_reads : Mode → Bool
checks_reads Full = true
checks_reads NoRw = false

-- whether the commit is checked for having touched the object
abbrev pub is_checked : TxnRecord → ℕ → Bool
is_checked transaction oid = checks_reads transaction.mode && is_touched transaction oid

abbrev pub is_written : TxnRecord → ℕ → Bool
is_written transaction oid = is_some (under oid transaction.written)

abbrev pub is_updated : TxnRecord → ℕ → Bool
is_updated transaction oid = is_some (under oid transaction.updates)

module _ {T : Type 0} where
  -- the names of pairs
  abbrev pub names_of : List (ℕ × T) → List ℕ
  names_of pairs = map (λ pair. pair.0) pairs

-- the objects that it touched, wrote or updated
abbrev pub names_used : TxnRecord → List ℕ
names_used transaction = union (union transaction.touched (names_of transaction.written))
    (names_of transaction.updates)

-- ---- changes since the view

-- which conflict a change since the view is, by whether the object was written, and whether the
-- commit is checked for having touched it
abbrev pub change_kind : Bool → Bool → Option ConflictKind
change_kind true checked = Some WriteWrite
change_kind false true = Some ReadWrite
change_kind false false = None

-- the conflict of this kind at an object that was changed after the view
abbrev pub later_change : ℕ → ℕ → Option ConflictKind → Object → Option Conflict
later_change view oid kind object = if nat_lt view object.changed
    then option_map (λ k. record { oid = oid; kind = k; shown = object.changed }) kind
    else None

abbrev pub on_change : Image → TxnRecord → ℕ → Option Conflict
on_change image transaction oid = option_and_then (later_change transaction.view oid
    (change_kind (is_written transaction oid) (is_checked transaction oid))) (get image oid)

-- ---- locks of other sessions

abbrev pub lock_kind : LockKind → ConflictKind
lock_kind Read = WriteReadLock
lock_kind Write = WriteWriteLock

abbrev pub lock_conflict : ℕ → ℕ × LockKind → Conflict
lock_conflict oid holder = record { oid = oid; kind = lock_kind holder.1; shown = holder.0 }

abbrev pub on_lock : LockSet → TxnRecord → ℕ → Option Conflict
on_lock locks transaction oid = if is_written transaction oid || is_updated transaction oid
    then option_map (lock_conflict oid) (denied_for locks transaction.session oid Write) else None

-- ---- merges

-- a refused merge at the object of the place, where its body is one that is merged
abbrev pub refused : ℕ → Object → Option ConflictKind → Outcome
refused oid place None = Nothing
refused oid place (Some kind) =
    Refused (record { oid = oid; kind = kind; shown = place.changed })

-- the object of the place with the body that the merge makes, or the refusal where it makes none
abbrev pub made_or_refused : ℕ → Object → Option Body → Outcome
made_or_refused oid place (Some body) = Made (record place { body = body })
made_or_refused oid place None = refused oid place (merge_kind place.body)

-- by the updates of an object, and the object at the view and at the place: nothing comes of an
-- object without updates, and of one that isn't at both
abbrev pub merge_of : ℕ → Option (List Update) → Option Object → Option Object → Outcome
merge_of oid None view place = Nothing
merge_of oid (Some updates) None place = Nothing
merge_of oid (Some updates) (Some view) None = Nothing
merge_of oid (Some updates) (Some view) (Some place) =
    made_or_refused oid place (merged view.body place.body updates)

abbrev pub merge_at : Image → TxnRecord → ℕ → Outcome
merge_at image transaction oid =
    merge_of oid (under oid transaction.updates) (get transaction.base oid) (get image oid)

abbrev pub conflict_in : Outcome → List Conflict
conflict_in Nothing = []
conflict_in (Made object) = []
conflict_in (Refused conflict) = conflict ∷ []

abbrev pub object_in : ℕ → Outcome → List (ℕ × Object)
object_in oid Nothing = []
object_in oid (Made object) = (oid, object) ∷ []
object_in oid (Refused conflict) = []

-- ---- all of them

-- the conflicts at one object, by kind
abbrev pub conflicts_on : Place → TxnRecord → ℕ → List Conflict
conflicts_on place transaction oid = option_to_list (on_change place.image transaction oid)
    ++ (option_to_list (on_lock place.locks transaction oid)
    ++ conflict_in (merge_at place.image transaction oid))

-- the conflicts that stand against the commit, by object and then by kind
unfoldable pub conflicts_of : Place → TxnRecord → List Conflict
conflicts_of place transaction = flat_map (conflicts_on place transaction) (names_used transaction)

-- the merged object of this name
abbrev pub merged_on : Image → TxnRecord → ℕ → List (ℕ × Object)
merged_on image transaction oid = object_in oid (merge_at image transaction oid)

-- the updated objects whose merge isn't refused, as it leaves them, by name; the number of the last
-- change is still the one before the commit
unfoldable pub merged_objects : Image → TxnRecord → List (ℕ × Object)
merged_objects image transaction = flat_map (merged_on image transaction) (names_used transaction)

-- The table of conflicts.
use Rattle.std.specs.Prelude.{◌≡◌, ℕ, ◌<◌, ◌⊎◌, List, Some, None, IsSome}
use Rattle.std.specs.Ordering.{nat_cmp, ordering_then}
use Rattle.std.specs.declared.cmp.Ordering.{Ordering}
use Rattle.std.specs.List.{Contains}
use Rattle.std.specs.FinMap.{get}
use Rattle.gem_object.specs.gem_value.Conflict.{kind_number}
use Rattle.gem_object.specs.gem_value.declared.conflict.Conflict.{Conflict}
use Rattle.gem_object.specs.gem_value.declared.conflict.ConflictKind.{ConflictKind}
use Rattle.gem_object.specs.gem_value.declared.conflict.ConflictKind.TheVariants.{WriteWrite, ReadWrite, WriteReadLock, WriteWriteLock}
use Rattle.gem_object.specs.declared.body.Body.{Body}
use Rattle.gem_object.specs.declared.object.Object.{Object}
use Rattle.gem_image.specs.Image.{Image}
use Rattle.gem_update.specs.Update.{merged, merge_kind}
use Rattle.gem_update.specs.declared.update.Update.{Update}
use Rattle.gem_record.specs.Names.{Ascend, AscendByName, under}
use Rattle.gem_record.specs.declared.record.TxnRecord.{TxnRecord}
use Rattle.gem_record.specs.declared.mode.Mode.TheVariants.{Full}
use Rattle.lock_table.specs.Locks.{IsLowestHolder}
use Rattle.lock_table.specs.declared.lock.LockKind.TheVariants.{Read, Write}
use Rattle.commit_check.specs.Conflicts.{Place, last_change}

-- the record's lists are in the order of names, as its type has it
pub record IsInOrder (transaction : TxnRecord) : Type 0 where
  pub touched : Ascend transaction.touched
  pub written : AscendByName transaction.written
  pub updates : AscendByName transaction.updates

abbrev pub IsTouched : TxnRecord → ℕ → Type 0
IsTouched transaction oid = Contains transaction.touched oid

abbrev pub IsWritten : TxnRecord → ℕ → Type 0
IsWritten transaction oid = IsSome (under oid transaction.written)

abbrev pub IsUpdated : TxnRecord → ℕ → Type 0
IsUpdated transaction oid = IsSome (under oid transaction.updates)

-- An object stands at the name, and a commit after the view has changed it. Also a reduced-conflict
-- one: its name is touched only where the view lacks it.
pub record IsChangedSince (image : Image) (view oid : ℕ) : Type 0 where
  pub object : Object
  pub stands : get image oid ≡ Some object
  pub later : view < last_change image oid

-- the merge of the updates of the object is refused, which is this kind of conflict by the class of
-- the object at the place
pub record IsRefused (image : Image) (transaction : TxnRecord) (oid : ℕ) (kind : ConflictKind)
    : Type 0 where
  pub updates : List Update
  pub view : Object
  pub place : Object
  pub updated : under oid transaction.updates ≡ Some updates
  pub at_view : get transaction.base oid ≡ Some view
  pub at_place : get image oid ≡ Some place
  pub refused : merged view.body place.body updates ≡ None
  pub class : merge_kind place.body ≡ Some kind

-- the conflict stands against the commit of the transaction at this place
pub data Stands (place : Place) (transaction : TxnRecord) : Conflict → Type 0 where
  write_write : (oid : ℕ) → IsWritten transaction oid
      → IsChangedSince place.image transaction.view oid
      → Stands place transaction
      (record { oid = oid; kind = WriteWrite; shown = last_change place.image oid })
  read_write : (oid : ℕ) → transaction.mode ≡ Full → IsTouched transaction oid
      → ¬ IsWritten transaction oid
      → IsChangedSince place.image transaction.view oid
      → Stands place transaction
      (record { oid = oid; kind = ReadWrite; shown = last_change place.image oid })
  write_read_lock : (oid holder : ℕ) → IsWritten transaction oid ⊎ IsUpdated transaction oid
      → IsLowestHolder place.locks transaction.session oid holder Read
      → Stands place transaction
      (record { oid = oid; kind = WriteReadLock; shown = holder })
  write_write_lock : (oid holder : ℕ) → IsWritten transaction oid ⊎ IsUpdated transaction oid
      → IsLowestHolder place.locks transaction.session oid holder Write
      → Stands place transaction
      (record { oid = oid; kind = WriteWriteLock; shown = holder })
  merge_refused : (oid : ℕ) (kind : ConflictKind) → IsRefused place.image transaction oid kind
      → Stands place transaction
      (record { oid = oid; kind = kind; shown = last_change place.image oid })

-- by object, and then by kind
abbrev pub conflict_cmp : Conflict → Conflict → Ordering
conflict_cmp a b =
    ordering_then (nat_cmp a.oid b.oid) (nat_cmp (kind_number a.kind) (kind_number b.kind))

-- the object is what the merge of the updates of this name makes of the one at the place
pub record IsMerged (image : Image) (transaction : TxnRecord) (oid : ℕ) (object : Object)
    : Type 0 where
  pub updates : List Update
  pub view : Object
  pub place : Object
  pub body : Body
  pub updated : under oid transaction.updates ≡ Some updates
  pub at_view : get transaction.base oid ≡ Some view
  pub at_place : get image oid ≡ Some place
  pub merges : merged view.body place.body updates ≡ Some body
  pub is : object ≡ record place { body = body }

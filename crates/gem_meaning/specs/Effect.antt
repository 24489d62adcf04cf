-- What a commit changes in the image.
use Rattle.std.specs.Prelude.{◌≡◌, ◌<◌, ◌^◌, ℕ, List, [], ◌++◌, map, All}
use Rattle.std.specs.Ordering.{nat_cmp}
use Rattle.std.specs.FinMap.{entries, from_entries}
use Rattle.gem_object.specs.declared.object.Object.{Object}
use Rattle.gem_record.specs.gem_image.Image.{Image}
use Rattle.gem_record.specs.gem_update.Spelling.{entries_of}
use Rattle.gem_record.specs.declared.record.TxnRecord.{TxnRecord}
use Rattle.kept_set.specs.Kept.{kept_of, roots_of}
use Rattle.commit_check.specs.Conflicts.{merged_objects}

-- the made objects to which something leads that the transaction wrote, or an update of it
abbrev pub kept_objects : TxnRecord → List (ℕ × Object)
kept_objects done = kept_of (roots_of done.written done.updates) done.made

-- The merged objects can be stored: the pairs or items of each are fewer than 2^32.
abbrev pub MergesFit : Image → TxnRecord → Type 0
MergesFit image done =
    All (λ entry. entries_of entry.1.body < 2 ^ 32) (merged_objects image done)

-- The objects that a commit changes where this image stands: those that the transaction wrote, the
-- made ones that are kept, and each updated one as its merge with the one in the image leaves it.
abbrev pub changed_objects : Image → TxnRecord → List (ℕ × Object)
changed_objects image done = done.written ++ (kept_objects done ++ merged_objects image done)

-- the object, changed by the commit with this number
abbrev pub stamped : ℕ → ℕ × Object → ℕ × Object
stamped number entry = (entry.0, record entry.1 { changed = number })

-- pairs in the order of their names
abbrev pub by_name : List (ℕ × Object) → List (ℕ × Object)
by_name objects = entries (from_entries {R = nat_cmp} objects)

-- the effect of the commit with this number: the changed objects by name, each with this number
unfoldable pub effect_at : Image → ℕ → TxnRecord → List (ℕ × Object)
effect_at image number done = by_name (map (stamped number) (changed_objects image done))

-- the transaction wrote no object and updated none
pub record IsUnchanged (done : TxnRecord) : Type 0 where
  pub unwritten : done.written ≡ []
  pub not_updated : done.updates ≡ []

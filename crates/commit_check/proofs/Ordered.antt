-- The list of conflicts and the merged objects are in order.
use Rattle.std.proofs.Common.{◌≡◌, ℕ, List, flat_map, Less, nat_cmp, ap}
use Rattle.std.specs.Ordering.{ordering_then}
use Rattle.std.specs.List.Sorted.{IsStrictlySortedBy}
use Rattle.gem_object.specs.gem_value.Conflict.{kind_number}
use Rattle.gem_object.specs.gem_value.declared.conflict.Conflict.{Conflict}
use Rattle.gem_image.specs.Image.{Image}
use Rattle.gem_record.specs.Names.{Ascend, AscendByName}
use Rattle.gem_record.specs.declared.record.TxnRecord.{TxnRecord}
use Rattle.commit_check.specs.Union.{union}
use Rattle.commit_check.specs.Conflicts.{Place, names_of, names_used, conflicts_on, conflicts_of, merged_on, merged_objects}
use Rattle.commit_check.specs.Table.{IsInOrder, conflict_cmp}
use Rattle.commit_check.proofs.Unions.{union_ascends}
use Rattle.commit_check.proofs.Sorted.{flat_sorted, by_name, pair_cmp}
use Rattle.commit_check.proofs.Entries.{conflicts_sorted, conflicts_named, merged_sorted, merged_named}

pub names_ascend : (transaction : TxnRecord) → IsInOrder transaction → Ascend (names_used transaction)
names_ascend transaction order = union_ascends
    (union transaction.touched (names_of transaction.written)) (names_of transaction.updates)
    (union_ascends transaction.touched (names_of transaction.written) order.touched order.written)
    order.updates

by_object : (a b : Conflict) → nat_cmp a.oid b.oid ≡ Less → conflict_cmp a b ≡ Less
by_object a b less =
    ap (λ r. ordering_then r (nat_cmp (kind_number a.kind) (kind_number b.kind))) less

pub in_order : (place : Place) (transaction : TxnRecord) → IsInOrder transaction
    → IsStrictlySortedBy conflict_cmp (conflicts_of place transaction)
unfolding conflicts_of
in_order place transaction order = flat_sorted conflict_cmp (λ c. c.oid)
    (conflicts_on place transaction) by_object (conflicts_sorted place transaction)
    (conflicts_named place transaction) (names_used transaction) (names_ascend transaction order)

pub merged_by_name : (image : Image) (transaction : TxnRecord) (names : List ℕ) → Ascend names
    → AscendByName (flat_map (merged_on image transaction) names)
merged_by_name image transaction names ascend =
    by_name (flat_map (merged_on image transaction) names)
    (flat_sorted pair_cmp (λ pair. pair.0) (merged_on image transaction) (λ a b less. less)
    (merged_sorted image transaction) (merged_named image transaction) names ascend)

pub merged_in_order : (image : Image) (transaction : TxnRecord) → IsInOrder transaction
    → AscendByName (merged_objects image transaction)
unfolding merged_objects
merged_in_order image transaction order =
    merged_by_name image transaction (names_used transaction) (names_ascend transaction order)

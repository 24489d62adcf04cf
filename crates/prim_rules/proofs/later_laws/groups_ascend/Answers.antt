use Rattle.std.specs.Prelude.{bytes_eq}
use Rattle.std.proofs.Common.{subst, sym}
use Rattle.std.proofs.lemmas.Cmp.{nat_list_cmp_total}
use Rattle.std.specs.Ordering.{nat_cmp}
use Rattle.std.specs.Cmp.Lexicographic.{slice_cmp}
use Rattle.gem_object.specs.seg_rights.declared.right.Right.TheVariants.{None as NoRight, Read, Write}
use Rattle.gem_object.specs.Spelling.{Ascend}
use Rattle.prim_rules.proofs.Ascending.{insert_ascends, remove_ascends, keys_with_entry, keys_without_entry}
use Rattle.prim_rules.proofs.later_laws.groups_ascend.Goals as goal

pub returns-clause-user : goal.returns-clause-user
returns-clause-user c group groups ascend =
    insert_ascends (slice_cmp nat_cmp) nat_list_cmp_total groups group ascend

pub returns-clause-left : goal.returns-clause-left
returns-clause-left c group groups ascend =
    remove_ascends (slice_cmp nat_cmp) nat_list_cmp_total (bytes_eq group) groups ascend

pub returns-clause-segment : goal.returns-clause-segment
returns-clause-segment c group NoRight groups ascend =
    subst Ascend (sym (keys_without_entry (bytes_eq group) groups))
    (remove_ascends (slice_cmp nat_cmp) nat_list_cmp_total (bytes_eq group) _ ascend)
returns-clause-segment c group Read groups ascend =
    subst Ascend (sym (keys_with_entry (slice_cmp nat_cmp) groups group Read))
    (insert_ascends (slice_cmp nat_cmp) nat_list_cmp_total _ group ascend)
returns-clause-segment c group Write groups ascend =
    subst Ascend (sym (keys_with_entry (slice_cmp nat_cmp) groups group Write))
    (insert_ascends (slice_cmp nat_cmp) nat_list_cmp_total _ group ascend)

-- Groups of segments and of users. They stand in the order of their bytes, each once.
use Rattle.std.specs.Prelude.{Bool, nat_le, bytes_eq, length, List}
use Rattle.std.specs.Ordering.{nat_cmp}
use Rattle.std.specs.Cmp.Lexicographic.{slice_cmp}
use Rattle.std.specs.BTreeMap.{insert_entry}
use Rattle.std.specs.BTreeSet.{insert_key}
use Rattle.std.specs.Map.{remove_entry}
use Rattle.std.specs.Set.{remove_key}
use Rattle.gem_object.specs.texts.Bytes.{Bytes as Text}
use Rattle.gem_object.specs.seg_rights.declared.right.Right.{Right}
use Rattle.gem_object.specs.seg_rights.declared.right.Right.TheVariants.{None as NoRight, Read, Write}
use Rattle.object_programs.specs.declared.limits.TheConstants.{GROUPS_LIMIT}

abbrev pub are_few_groups : {X : Type 0} → List X → Bool
are_few_groups groups = nat_le (length groups) GROUPS_LIMIT

-- the groups of a user with this one, and without it
abbrev pub with_group : Text → List Text → List Text
with_group group groups = insert_key (slice_cmp nat_cmp) groups group

abbrev pub without_group : Text → List Text → List Text
without_group group groups = remove_key (bytes_eq group) groups

-- The groups of a segment where this one has that right: a group without a right isn't among them,
-- and one that was there gets the right in place of the one that it had.
abbrev pub with_right : Text → Right → List (Text × Right) → List (Text × Right)
with_right group NoRight groups = remove_entry (bytes_eq group) groups
with_right group Read groups = insert_entry (slice_cmp nat_cmp) groups group Read
with_right group Write groups = insert_entry (slice_cmp nat_cmp) groups group Write

-- Rights that a segment gives to others than groups.
use Rattle.gem_object.specs.texts.Bytes.{Bytes as Text}
use Rattle.gem_object.specs.seg_rights.declared.right.Right.{Right}
use Rattle.gem_object.specs.seg_rights.declared.rights.Rights.{Rights}
use Rattle.prim_rules.specs.Segments.{with_owner_right, with_world_right}
use Rattle.prim_shared.specs.declared.segments.Holder.{Holder}
use Rattle.prim_shared.specs.declared.segments.Holder.TheVariants as holder

-- the rights with another one of the owner or of the world
abbrev pub with_right_of : Holder → Right → Rights Text → Rights Text
with_right_of holder.Owner = with_owner_right
with_right_of holder.World = with_world_right

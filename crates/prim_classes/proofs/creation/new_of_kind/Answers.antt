use Rattle.prim_classes.proofs.Created.{kind_other}
use Rattle.prim_classes.proofs.creation.new_of_kind.Goals as goal

pub returns-in_default : goal.returns-in_default
returns-in_default g c = kind_other c.args.kind c.args.class c.in_default.not-Segment c.new_other.ensures

use Rattle.prim_parts.proofs.Walks.{does_under}
use Rattle.prim_parts.proofs.kinds.is_under.Goals as goal

pub returns : goal.returns
returns g c = does_under (g.O.Objects.seen c.args.objects.now) c.sound.ensures c.args.class c.args.ancestor c.has_class.result
    c.requires c.has_class.ensures

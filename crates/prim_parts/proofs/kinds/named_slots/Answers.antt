use Rattle.prim_parts.proofs.Walks.{few_names, does_named}
use Rattle.prim_parts.proofs.kinds.named_slots.Goals as goal

pub count_names-requires : goal.count_names-requires
count_names-requires g c = few_names (g.O.Objects.seen c.args.objects.now) c.sound.ensures c.args.class c.requires

pub returns : goal.returns
returns g c = does_named (g.O.Objects.seen c.args.objects.now) c.sound.ensures c.args.class c.count_names.result c.requires
    c.count_names.ensures

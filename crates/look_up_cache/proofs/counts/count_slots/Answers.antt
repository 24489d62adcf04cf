use Rattle.running_objects.specs.gem_image.Image.{contents_of}
use Rattle.running_objects.specs.Seen.{Seen}
use Rattle.prim_parts.specs.Does.{IsThere}
use Rattle.prim_parts.proofs.Walks.{class_known}
use Rattle.look_up_cache.proofs.Naming.{count_told}
use Rattle.look_up_cache.proofs.Sequences.{named_is}
use Rattle.look_up_cache.proofs.counts.count_slots.Goals as goal

pub named_slots-named-requires : goal.named_slots-named-requires
named_slots-named-requires g c = class_known (g.O.Objects.seen c.args.objects.now) c.sound.ensures c.in-Some.name
    (contents_of c.in-Some-object.object.now) c.in-Some-object.ensures

pub returns : goal.returns
returns g c =
    let seen : Seen = g.O.Objects.seen c.args.objects.now in
    let there : IsThere c.in-Some-object.object.now.class seen = class_known seen c.sound.ensures c.in-Some.name
    (contents_of c.in-Some-object.object.now) c.in-Some-object.ensures in
    c.put_count.ensures seen (count_told seen c.sound.ensures c.in-Some-object.object.now.class c.named_slots-named.result there
    (named_is seen c.sound.ensures c.in-Some-object.object.now.class c.named_slots-named.result there c.named_slots-named.ensures))

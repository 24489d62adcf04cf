use Rattle.running_objects.specs.gem_image.Image.{contents_of}
use Rattle.running_objects.specs.Seen.{Seen}
use Rattle.prim_parts.specs.Does.{IsThere}
use Rattle.prim_parts.proofs.Walks.{class_known}
use Rattle.look_up_cache.proofs.Naming.{count_given}
use Rattle.look_up_cache.proofs.Sequences.{always_named}
use Rattle.look_up_cache.proofs.counts.named_of.Goals as goal

pub named_slots-requires : goal.named_slots-requires
named_slots-requires g c = class_known (g.O.Objects.seen c.args.objects.now) c.sound.ensures c.requires.seen.name
    (contents_of c.args.object.now) c.requires.seen.there

pub returns-in-Some : goal.returns-in-Some
returns-in-Some g c =
    let seen : Seen = g.O.Objects.seen c.args.objects.now in
    let there : IsThere c.args.object.now.class seen = class_known seen c.sound.ensures c.requires.seen.name
    (contents_of c.args.object.now) c.requires.seen.there in
    count_given seen c.sound.ensures c.args.object.now.class c.in-Some.named there (c.in-Some.ensures seen c.requires.counts)

pub returns-in-None : goal.returns-in-None
returns-in-None g c =
    let seen : Seen = g.O.Objects.seen c.args.objects.now in
    let there : IsThere c.args.object.now.class seen = class_known seen c.sound.ensures c.requires.seen.name
    (contents_of c.args.object.now) c.requires.seen.there in
    always_named seen c.sound.ensures c.args.object.now.class c.named_slots.result there c.named_slots.ensures

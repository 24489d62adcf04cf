use Rattle.std.proofs.Common.{IfSome}
use Rattle.running_objects.specs.Seen.{Seen}
use Rattle.prim_parts.specs.Does.{IsThere}
use Rattle.look_up_cache.specs.Variables.{bare_frame, SlotIsLeft}
use Rattle.look_up_cache.specs.Memory.{founds, Holds}
use Rattle.look_up_cache.specs.declared.elements.Slot.{Slot}
use Rattle.look_up_cache.proofs.Again.{where_true}
use Rattle.look_up_cache.proofs.Keeps.{as_seen}
use Rattle.look_up_cache.proofs.known.KnownObjects.slot_to_set.Goals as goal

pub returns-then-self-clause-left : goal.returns-then-self-clause-left
returns-then-self-clause-left g c = as_seen g.O.Objects.seen (λ (seen : Seen). IfSome c.slot_to_set.result (λ (slot : Slot).
    SlotIsLeft c.args.name.now (bare_frame c.args.receiver.now c.args.holder c.args.class_side) c.args.value.now slot seen))
    c.self.inside.objects (founds c.self.inside.memory.methods.items) c.args.self.now c.self.view_is
    (c.slot_to_set.ensures.left (where_true c.self.inside.holds
    (Holds c.self.inside.memory (g.O.Objects.seen c.self.inside.objects)) c.if-self.true c.self.invariant.holds))

pub returns-then-self-clause-there : goal.returns-then-self-clause-there
returns-then-self-clause-there g c = as_seen g.O.Objects.seen (λ (seen : Seen). IfSome c.slot_to_set.result
    (λ (slot : Slot). IsThere slot.name seen)) c.self.inside.objects (founds c.self.inside.memory.methods.items)
    c.args.self.now c.self.view_is c.slot_to_set.ensures.there

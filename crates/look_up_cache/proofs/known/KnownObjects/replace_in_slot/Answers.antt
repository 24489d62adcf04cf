use Rattle.std.proofs.Common.{Ok, Err}
use Rattle.gem_object.specs.Edits.{with_slot}
use Rattle.running_objects.specs.Seen.{Seen}
use Rattle.prim_parts.specs.Does.{IsThere}
use Rattle.prim_parts.specs.Edits.{Replaces}
use Rattle.look_up_cache.specs.Memory.{founds}
use Rattle.look_up_cache.proofs.Keeps.{replaced_known, as_seen, as_within}
use Rattle.look_up_cache.proofs.Edits.{with_slot_lasts}
use Rattle.look_up_cache.proofs.Lacking.{put_lacks}
use Rattle.look_up_cache.proofs.known.KnownObjects.replace_in_slot.Goals as goal

pub invariant_of-self : goal.invariant_of-self
invariant_of-self g c = replaced_known g.T.MethodCodeKept.is_of c.self.inside.memory
    (g.O.Objects.seen c.self.inside.objects) (g.O.Objects.seen c.replace_slot.new.objects)
    c.args.slot.name (with_slot c.args.slot.at c.args.value) (with_slot_lasts c.args.slot.at c.args.value)
    c.self.inside.holds (as_within g.O.Objects.seen (λ (seen : Seen). IsThere c.args.slot.name seen) c.self.inside.objects
    (founds c.self.inside.memory.methods.items) c.args.self.now c.self.view_is c.requires) c.in-Ok.ensures c.self.invariant

pub returns-in-Ok-clause-put : goal.returns-in-Ok-clause-put
returns-in-Ok-clause-put g c = as_seen g.O.Objects.seen (λ (before : Seen). Replaces (λ body. 0) c.args.slot.name
    (with_slot c.args.slot.at c.args.value) before (Ok tt) (g.O.Objects.seen c.replace_slot.new.objects))
    c.self.inside.objects (founds c.self.inside.memory.methods.items) c.args.self.now c.self.view_is c.in-Ok.ensures

pub returns-in-Err-clause-put : goal.returns-in-Err-clause-put
returns-in-Err-clause-put g c = as_seen g.O.Objects.seen (λ (before : Seen). Replaces (λ body. 0) c.args.slot.name
    (with_slot c.args.slot.at c.args.value) before (Err c.in-Err.stop) (g.O.Objects.seen c.replace_slot.new.objects))
    c.self.inside.objects (founds c.self.inside.memory.methods.items) c.args.self.now c.self.view_is c.in-Err.ensures

pub returns-in-Err-clause-lacks : goal.returns-in-Err-clause-lacks
returns-in-Err-clause-lacks g c = put_lacks c.args.slot.name (with_slot c.args.slot.at c.args.value)
    (g.O.Objects.seen c.self.inside.objects) (g.O.Objects.seen c.replace_slot.new.objects) (Err c.in-Err.stop)
    (as_within g.O.Objects.seen (λ (seen : Seen). IsThere c.args.slot.name seen) c.self.inside.objects
    (founds c.self.inside.memory.methods.items) c.args.self.now c.self.view_is c.requires) c.in-Err.ensures

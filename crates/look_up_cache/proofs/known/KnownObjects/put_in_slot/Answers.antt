use Rattle.std.proofs.Common.{subst, Ok}
use Rattle.gem_object.specs.Edits.{with_slot}
use Rattle.gem_object.specs.declared.value.Value.{Value}
use Rattle.running_objects.specs.Seen.{Seen}
use Rattle.prim_parts.specs.Edits.{Replaces}
use Rattle.prim_parts.proofs.Replaced.{replaced_within}
use Rattle.look_up_cache.specs.Memory.{founds}
use Rattle.look_up_cache.proofs.Keeps.{within_known, as_seen}
use Rattle.look_up_cache.proofs.Edits.{with_slot_lasts}
use Rattle.look_up_cache.proofs.known.KnownObjects.put_in_slot.Goals as goal

pub invariant_of-self : goal.invariant_of-self
invariant_of-self g c = within_known g.T.MethodCodeKept.is_of c.self.inside.memory
    (g.O.Objects.seen c.self.inside.objects) (g.O.Objects.seen c.set_slot_within.new.self)
    c.args.slot.name (with_slot c.args.slot.at c.args.value) (with_slot_lasts c.args.slot.at c.args.value)
    c.self.inside.holds c.set_slot_within.result c.set_slot_within.ensures.put c.set_slot_within.ensures.unchanged c.self.invariant

pub returns-in-Ok-clause-put : goal.returns-in-Ok-clause-put
returns-in-Ok-clause-put g c = as_seen g.O.Objects.seen (λ (before : Seen). Replaces (λ body. 0) c.args.slot.name
    (with_slot c.args.slot.at c.args.value) before (Ok tt) (g.O.Objects.seen c.set_slot_within.new.self))
    c.self.inside.objects (founds c.self.inside.memory.methods.items) c.args.self.now c.self.view_is
    (replaced_within c.args.slot.name (with_slot c.args.slot.at c.args.value) c.in-Ok.ensures.put)

pub returns-in-Err-clause-put : goal.returns-in-Err-clause-put
returns-in-Err-clause-put g c =
    let P : Value → Seen → Type 0 = λ value before. Replaces (λ body. 0) c.args.slot.name (with_slot c.args.slot.at value)
    before c.replace_in_slot.result (g.O.Objects.seen c.replace_in_slot.new.self.0) in
    as_seen g.O.Objects.seen (P c.args.value) c.self.inside.objects (founds c.self.inside.memory.methods.items)
    c.args.self.now c.self.view_is (subst (P c.args.value) c.in-Err.ensures.unchanged
    (subst (λ (value : Value). P value (g.O.Objects.seen c.set_slot_within.new.self)) c.in-Err.ensures.given
    c.replace_in_slot.ensures.put))

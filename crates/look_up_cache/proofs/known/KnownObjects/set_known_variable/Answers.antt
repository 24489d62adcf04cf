use Rattle.std.proofs.Common.{subst}
use Rattle.gem_object.specs.Edits.{with_slot}
use Rattle.gem_object.specs.declared.value.Value.{Value}
use Rattle.running_objects.specs.Seen.{Seen}
use Rattle.prim_parts.specs.Edits.{Replaces}
use Rattle.look_up_cache.proofs.known.KnownObjects.set_known_variable.Goals as goal

pub returns-clause-done : goal.returns-clause-done
returns-clause-done g c =
    let before : Seen = g.O.Objects.seen c.args.self.now.0 in
    let after : Seen = g.O.Objects.seen c.put_in_slot.new.self.0 in
    c.in_ok-slot.ensures.left c.put_in_slot.result after (subst (λ (value : Value). Replaces (λ body. 0) c.in_ok-slot.slot.name
    (with_slot c.in_ok-slot.slot.at value) before c.put_in_slot.result after) c.in_ok-copy.ensures c.put_in_slot.ensures.put)

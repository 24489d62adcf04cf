use Rattle.std.proofs.Common.{IfSome}
use Rattle.gem_object.specs.declared.value.Value.{Value}
use Rattle.running_objects.specs.Seen.{Seen}
use Rattle.gem_language.specs.OutOfScope.{read_out_of_scope}
use Rattle.look_up_cache.specs.Variables.{bare_frame}
use Rattle.look_up_cache.specs.Memory.{founds, Holds}
use Rattle.look_up_cache.specs.Elements.{AlwaysGives}
use Rattle.look_up_cache.proofs.Again.{where_true}
use Rattle.look_up_cache.proofs.Keeps.{as_seen}
use Rattle.look_up_cache.proofs.known.KnownObjects.known_variable.Goals as goal

pub returns-then-self : goal.returns-then-self
returns-then-self g c = as_seen g.O.Objects.seen (λ (seen : Seen). IfSome c.known_variable.result (λ (value : Value).
    AlwaysGives (read_out_of_scope c.args.name.now (bare_frame c.args.receiver.now c.args.holder c.args.class_side)) value seen))
    c.self.inside.objects (founds c.self.inside.memory.methods.items) c.args.self.now c.self.view_is
    (c.known_variable.ensures (where_true c.self.inside.holds
    (Holds c.self.inside.memory (g.O.Objects.seen c.self.inside.objects)) c.if-self.true c.self.invariant.holds))

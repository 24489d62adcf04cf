use Rattle.std.proofs.Common.{IfSome}
use Rattle.gem_object.specs.declared.value.Value.{Value}
use Rattle.running_objects.specs.Seen.{Seen}
use Rattle.gem_language.specs.prim_rules.Rules.{rule_of}
use Rattle.gem_language.specs.prim_rules.declared.answer.PrimitiveAnswer.TheVariants.{Gives}
use Rattle.look_up_cache.specs.Memory.{founds, Holds}
use Rattle.look_up_cache.specs.Elements.{AlwaysGives}
use Rattle.look_up_cache.proofs.Again.{where_true}
use Rattle.look_up_cache.proofs.Keeps.{as_seen}
use Rattle.look_up_cache.proofs.known.KnownObjects.known_answer.Goals as goal

pub known_answer-requires : goal.known_answer-requires
known_answer-requires g c = where_true c.self.inside.holds
    (Holds c.self.inside.memory (g.O.Objects.seen c.self.inside.objects)) c.if-self.true c.self.invariant.holds

pub returns-then-self : goal.returns-then-self
returns-then-self g c = as_seen g.O.Objects.seen (λ (seen : Seen). IfSome c.known_answer.result (λ (value : Value).
    AlwaysGives (rule_of c.args.number c.args.receiver.now c.args.arguments.now) (Gives value) seen))
    c.self.inside.objects (founds c.self.inside.memory.methods.items) c.args.self.now c.self.view_is
    c.known_answer.ensures

use Rattle.std.proofs.Common.{[], ◌∷◌, IfSome, codes}
use Rattle.gem_object.specs.declared.value.Value.{Value}
use Rattle.running_objects.specs.Seen.{Seen}
use Rattle.gem_language.specs.prim_rules.Rules.{rule_of}
use Rattle.gem_language.specs.prim_rules.declared.answer.PrimitiveAnswer.TheVariants.{Gives}
use Rattle.look_up_cache.specs.Answering.{AnswersBy}
use Rattle.look_up_cache.specs.Memory.{founds, Holds}
use Rattle.look_up_cache.specs.Elements.{AlwaysGives}
use Rattle.look_up_cache.proofs.Again.{where_true}
use Rattle.look_up_cache.proofs.Keeps.{as_seen}
use Rattle.look_up_cache.proofs.known.KnownObjects.known_element.Goals as goal

pub known_element-requires : goal.known_element-requires
known_element-requires g c = where_true c.self.inside.holds
    (Holds c.self.inside.memory (g.O.Objects.seen c.self.inside.objects)) c.if-self.true c.self.invariant.holds

pub returns-then-self-clause-answers : goal.returns-then-self-clause-answers
returns-then-self-clause-answers g c = as_seen g.O.Objects.seen (λ (seen : Seen). IfSome c.known_element.result
    (λ (value : Value). AnswersBy 34 c.args.receiver.now (codes "at:") seen))
    c.self.inside.objects (founds c.self.inside.memory.methods.items) c.args.self.now c.self.view_is
    c.known_element.ensures.answers

pub returns-then-self-clause-value : goal.returns-then-self-clause-value
returns-then-self-clause-value g c = as_seen g.O.Objects.seen (λ (seen : Seen). IfSome c.known_element.result
    (λ (value : Value). AlwaysGives (rule_of 34 c.args.receiver.now (c.args.index.now ∷ [])) (Gives value) seen))
    c.self.inside.objects (founds c.self.inside.memory.methods.items) c.args.self.now c.self.view_is
    c.known_element.ensures.value

use Rattle.std.proofs.Common.{[], ◌∷◌, IfSome, codes}
use Rattle.running_objects.specs.Seen.{Seen}
use Rattle.gem_language.specs.prim_rules.Rules.{rule_of}
use Rattle.prim_parts.specs.Does.{IsThere}
use Rattle.look_up_cache.specs.Answering.{AnswersBy}
use Rattle.look_up_cache.specs.Memory.{founds, Holds}
use Rattle.look_up_cache.specs.Elements.{PutIsLeft}
use Rattle.look_up_cache.specs.declared.elements.Put.{Put}
use Rattle.look_up_cache.proofs.Again.{where_true}
use Rattle.look_up_cache.proofs.Keeps.{as_seen}
use Rattle.look_up_cache.proofs.known.KnownObjects.known_put.Goals as goal

pub known_put-requires : goal.known_put-requires
known_put-requires g c = where_true c.self.inside.holds
    (Holds c.self.inside.memory (g.O.Objects.seen c.self.inside.objects)) c.if-self.true c.self.invariant.holds

pub returns-then-self-clause-answers : goal.returns-then-self-clause-answers
returns-then-self-clause-answers g c = as_seen g.O.Objects.seen (λ (seen : Seen). IfSome c.known_put.result
    (λ (put : Put). AnswersBy 35 c.args.receiver.now (codes "at:put:") seen))
    c.self.inside.objects (founds c.self.inside.memory.methods.items) c.args.self.now c.self.view_is
    c.known_put.ensures.answers

pub returns-then-self-clause-left : goal.returns-then-self-clause-left
returns-then-self-clause-left g c = as_seen g.O.Objects.seen (λ (seen : Seen). IfSome c.known_put.result
    (λ (put : Put). PutIsLeft (rule_of 35 c.args.receiver.now (c.args.index.now ∷ c.args.value.now ∷ [])) put seen))
    c.self.inside.objects (founds c.self.inside.memory.methods.items) c.args.self.now c.self.view_is
    c.known_put.ensures.left

pub returns-then-self-clause-there : goal.returns-then-self-clause-there
returns-then-self-clause-there g c = as_seen g.O.Objects.seen (λ (seen : Seen). IfSome c.known_put.result
    (λ (put : Put). IsThere put.slot.name seen)) c.self.inside.objects (founds c.self.inside.memory.methods.items)
    c.args.self.now c.self.view_is c.known_put.ensures.there

use Rattle.std.proofs.Common.{IfSome}
use Rattle.running_objects.specs.Seen.{Seen}
use Rattle.gem_language.specs.prim_rules.Rules.{rule_of}
use Rattle.prim_parts.specs.Does.{IsThere}
use Rattle.look_up_cache.specs.Memory.{founds, Holds}
use Rattle.look_up_cache.specs.Elements.{PutIsLeft}
use Rattle.look_up_cache.specs.declared.elements.Put.{Put}
use Rattle.look_up_cache.proofs.Again.{where_true}
use Rattle.look_up_cache.proofs.Keeps.{as_seen}
use Rattle.look_up_cache.proofs.known.KnownObjects.element_put.Goals as goal

pub element_put-requires : goal.element_put-requires
element_put-requires g c = where_true c.self.inside.holds
    (Holds c.self.inside.memory (g.O.Objects.seen c.self.inside.objects)) c.if-self.true c.self.invariant.holds

pub returns-then-self-clause-left : goal.returns-then-self-clause-left
returns-then-self-clause-left g c = as_seen g.O.Objects.seen (λ (seen : Seen). IfSome c.element_put.result (λ (put : Put).
    PutIsLeft (rule_of c.args.number c.args.receiver.now c.args.arguments.now) put seen))
    c.self.inside.objects (founds c.self.inside.memory.methods.items) c.args.self.now c.self.view_is
    c.element_put.ensures.left

pub returns-then-self-clause-there : goal.returns-then-self-clause-there
returns-then-self-clause-there g c = as_seen g.O.Objects.seen (λ (seen : Seen). IfSome c.element_put.result
    (λ (put : Put). IsThere put.slot.name seen)) c.self.inside.objects (founds c.self.inside.memory.methods.items)
    c.args.self.now c.self.view_is c.element_put.ensures.there

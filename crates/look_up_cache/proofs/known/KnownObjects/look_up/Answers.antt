use Rattle.std.proofs.Common.{◌∙◌, sym, subst, ℕ, false, Result}
use Rattle.running_objects.specs.Seen.{Seen, Keeps}
use Rattle.running_objects.specs.declared.stop.Stop.{Stop}
use Rattle.running_objects.specs.declared.stop.Stop.TheVariants as stop
use Rattle.gem_language.specs.LookUp.{find_method}
use Rattle.prim_parts.specs.Does.{Does}
use Rattle.prim_parts.proofs.Does.{does_nothing}
use Rattle.prim_parts.proofs.Onward.{handed}
use Rattle.look_up_cache.specs.Table.{AllHeld}
use Rattle.look_up_cache.specs.Memory.{founds, told_by, IsCoded}
use Rattle.look_up_cache.proofs.Told.{method_told}
use Rattle.look_up_cache.proofs.Keeps.{holds_remain, as_seen}
use Rattle.look_up_cache.proofs.known.KnownObjects.look_up.Goals as goal

pub remember-requires : goal.remember-requires
remember-requires g c = (method_told c.args.frame.now c.args.receiver.now c.args.selector.now c.in_ok-found.found
    (g.O.Objects.seen c.self.inside.objects) (g.O.Objects.seen c.find_method.new.objects) c.in_ok-found.ensures).1

pub invariant_of-self-in_err-at : goal.invariant_of-self-in_err-at
invariant_of-self-in_err-at g c =
    record { holds = tt; coded = c.remember.ensures.coded (c.renew.ensures.coded c.self.invariant.coded) }

pub returns-in_err-at : goal.returns-in_err-at
returns-in_err-at g c =
    let after : Seen = g.O.Objects.seen c.find_method.new.objects in
    let program = find_method false c.args.frame.now c.args.receiver.now c.args.selector.now in
    handed (λ (result : Result ℕ Stop). Does program (g.O.Objects.seen c.args.self.now.0)
    (told_by (founds c.remember.new.memory.methods.items) result) after)
    c.from_residual-in_err-at.result stop.NoMemory c.from_residual-in_err-at.ensures.1
    (does_nothing program (as_seen g.O.Objects.seen (λ (before : Seen). Keeps before after) c.self.inside.objects
    (founds c.self.inside.memory.methods.items) c.args.self.now c.self.view_is c.find_method.ensures.keeps))

pub invariant_of-self-2 : goal.invariant_of-self-2
invariant_of-self-2 g c =
    let before : Seen = g.O.Objects.seen c.self.inside.objects in
    let after : Seen = g.O.Objects.seen c.find_method.new.objects in
    let told = method_told c.args.frame.now c.args.receiver.now c.args.selector.now c.in_ok-found.found
    before after c.in_ok-found.ensures in
    record {
      holds = c.remember_operator.ensures.holds after (c.remember_count.ensures.holds (c.in_ok-at.ensures.holds
          (holds_remain before after told.0 c.renew.new.memory (c.renew.ensures.holds before c.self.invariant.holds))));
      coded = subst (λ methods. AllHeld (IsCoded g.T.MethodCodeKept.is_of) methods)
          (sym (c.remember_operator.ensures.methods ∙ c.remember_count.ensures.methods))
          (c.remember.ensures.coded (c.renew.ensures.coded c.self.invariant.coded));
    }

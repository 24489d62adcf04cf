use Rattle.std.proofs.Common.{sym, subst, ℕ, Option, Result, Ok}
use Rattle.running_objects.specs.object_programs.Run.{give, and_then}
use Rattle.running_objects.specs.Seen.{Seen}
use Rattle.running_objects.specs.declared.stop.Stop.{Stop}
use Rattle.gem_language.specs.tree_meaning.Names.{index_of}
use Rattle.gem_language.specs.OutOfScope.{instance_names}
use Rattle.prim_parts.specs.Does.{Does}
use Rattle.prim_parts.proofs.Onward.{handed}
use Rattle.look_up_cache.specs.Table.{AllHeld}
use Rattle.look_up_cache.specs.Memory.{founds, IsCoded}
use Rattle.look_up_cache.proofs.Keeps.{holds_remain, as_seen}
use Rattle.look_up_cache.proofs.Names.{variable_told}
use Rattle.look_up_cache.proofs.known.KnownObjects.look_for.Goals as goal

pub returns-in_err-found : goal.returns-in_err-found
returns-in_err-found g c =
    let after : Seen = g.O.Objects.seen c.variable_index.new.objects in
    let At : Seen → Result (Option ℕ) Stop → Type 0 = λ before result. Does (and_then (instance_names c.args.holder)
    (λ names. give (index_of c.args.name.now names))) before result after in
    as_seen g.O.Objects.seen (λ (before : Seen). At before c.from_residual.result) c.self.inside.objects
    (founds c.self.inside.memory.methods.items) c.args.self.now c.self.view_is
    (handed (At (g.O.Objects.seen c.self.inside.objects)) c.from_residual.result c.in_err-found.field-0.0
    c.from_residual.ensures.1 c.in_err-found.ensures)

pub invariant_of-self-2 : goal.invariant_of-self-2
invariant_of-self-2 g c =
    let before : Seen = g.O.Objects.seen c.self.inside.objects in
    let after : Seen = g.O.Objects.seen c.variable_index.new.objects in
    let told = variable_told c.args.holder c.args.name.now c.in_ok-found.found before after c.in_ok-found.ensures in
    record {
      holds = c.remember_variable.ensures.holds after told.1 (holds_remain before after told.0 c.renew.new.memory
          (c.renew.ensures.holds before c.self.invariant.holds));
      coded = subst (λ methods. AllHeld (IsCoded g.T.MethodCodeKept.is_of) methods)
          (sym c.remember_variable.ensures.methods) (c.renew.ensures.coded c.self.invariant.coded);
    }

pub returns : goal.returns
returns g c =
    let after : Seen = g.O.Objects.seen c.variable_index.new.objects in
    as_seen g.O.Objects.seen (λ (before : Seen). Does (and_then (instance_names c.args.holder)
    (λ names. give (index_of c.args.name.now names))) before (Ok c.in_ok-found.found) after) c.self.inside.objects
    (founds c.self.inside.memory.methods.items) c.args.self.now c.self.view_is c.in_ok-found.ensures

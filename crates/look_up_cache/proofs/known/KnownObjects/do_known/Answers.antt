use Rattle.std.proofs.Common.{sym, subst, Result}
use Rattle.gem_object.specs.declared.value.Value.{Value}
use Rattle.running_objects.specs.object_programs.Atom.{Tick}
use Rattle.running_objects.specs.object_programs.Run.{atom, and_then}
use Rattle.running_objects.specs.Acted.{with_answer}
use Rattle.running_objects.specs.declared.stop.Stop.{Stop}
use Rattle.gem_language.specs.prim_rules.Rules.{rule_of}
use Rattle.prim_parts.specs.Does.{Does}
use Rattle.look_up_cache.specs.Elements.{ended_by}
use Rattle.look_up_cache.proofs.Sequences.{unit_and_put_does}
use Rattle.look_up_cache.proofs.known.KnownObjects.do_known.Goals as goal

pub returns-clause-done : goal.returns-clause-done
returns-clause-done g c =
    let program = rule_of c.args.number c.args.receiver.now c.args.arguments.now in
    let before = g.O.Objects.seen c.args.self.now.0 in
    let after = g.O.Objects.seen c.put_after_unit.new.self.0 in
    let Here : Result Value Stop → Type 0 = λ ended. Does (and_then (atom Tick) (λ unit. program)) before (ended_by ended) after in
    subst Here (sym c.with_answer.ensures) (subst (λ (answer : Value). Here (with_answer answer c.put_after_unit.result))
    (sym c.in_ok-answer.ensures) (unit_and_put_does program c.in_ok-put.put before after c.put_after_unit.result
    c.put_after_unit.ensures.put c.in_ok-put.ensures.left))

use Rattle.std.proofs.Common.{subst, w64, rules}
use Rattle.std.proofs.lemmas.Int.{to_z-of_z}
use Rattle.gem_object.specs.declared.value.Value.{Value}
use Rattle.gem_object.specs.declared.value.Value.TheVariants.{Int, True, False}
use Rattle.st_machine.specs.AtOnce.{IsReady}
use Rattle.st_machine.proofs.ReadyAnswers.{ready_put}
use Rattle.st_machine.proofs.known.put_computed.Goals as goal

pub returns-in-Some-Int-clause-put : goal.returns-in-Some-Int-clause-put
returns-in-Some-Int-clause-put g c = λ is.
    let Here : Value → Type 0 = λ value. IsReady c.args.number c.at_depth.result.now c.upper.result.now
    (g.O.Objects.seen c.args.objects.now) value in
    ready_put c.args.stack.now.own c.args.count c.requires c.at_depth.result.now c.at_depth.ensures c.args.number
    c.upper.result.now (g.O.Objects.seen c.args.objects.now) (Int c.in-Some-Int.answer) c.put_over.new.stack.own
    (subst Here c.in-Some-Int.field-0-is c.in-Some-Int.ensures) c.upper.ensures
    (rw (to_z-of_z w64 c.in-Some-Int.answer (search rules)) at c.put_over.ensures.own)

pub returns-in-Some-True-clause-put : goal.returns-in-Some-True-clause-put
returns-in-Some-True-clause-put g c = λ is.
    let Here : Value → Type 0 = λ value. IsReady c.args.number c.at_depth.result.now c.upper.result.now
    (g.O.Objects.seen c.args.objects.now) value in
    ready_put c.args.stack.now.own c.args.count c.requires c.at_depth.result.now c.at_depth.ensures c.args.number
    c.upper.result.now (g.O.Objects.seen c.args.objects.now) True c.put_over-in-Some-True.new.stack.own
    (subst Here c.in-Some-True.field-0-is c.in-Some-True.ensures) c.upper.ensures c.put_over-in-Some-True.ensures.own

pub returns-in-Some-False-clause-put : goal.returns-in-Some-False-clause-put
returns-in-Some-False-clause-put g c = λ is.
    let Here : Value → Type 0 = λ value. IsReady c.args.number c.at_depth.result.now c.upper.result.now
    (g.O.Objects.seen c.args.objects.now) value in
    ready_put c.args.stack.now.own c.args.count c.requires c.at_depth.result.now c.at_depth.ensures c.args.number
    c.upper.result.now (g.O.Objects.seen c.args.objects.now) False c.put_over-in-Some-False.new.stack.own
    (subst Here c.in-Some-False.field-0-is c.in-Some-False.ensures) c.upper.ensures c.put_over-in-Some-False.ensures.own

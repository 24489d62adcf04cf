use Rattle.std.proofs.Common.{◌∙◌, subst, [], ◌∷◌, get_or, codes}
use Rattle.std.proofs.lemmas.Option.{same_Some, slice_get-get_or}
use Rattle.gem_object.specs.declared.value.Value.{Value}
use Rattle.gem_object.specs.declared.value.Value.TheVariants.{Nil}
use Rattle.look_up_cache.specs.Answering.{AnswersBy}
use Rattle.st_machine.proofs.KnownElements.{one_argument}
use Rattle.st_machine.proofs.ReadyAnswers.{ready_put}
use Rattle.st_machine.proofs.elements.put_element_over.Goals as goal

pub returns-in-Some-clause-answers : goal.returns-in-Some-clause-answers
returns-in-Some-clause-answers g c = λ is.
    let own = c.args.stack.now.own in
    subst (λ (at : Value). AnswersBy 34 at (codes "at:") (g.O.Objects.seen c.args.objects.now))
    (same_Some c.at_depth.result.now (get_or own 1 Nil) (c.at_depth.ensures ∙ slice_get-get_or own 1 Nil c.requires))
    c.in-Some.ensures.answers

pub returns-in-Some-clause-put : goal.returns-in-Some-clause-put
returns-in-Some-clause-put g c = λ is.
    let own = c.args.stack.now.own in
    ready_put own 1 c.requires c.at_depth.result.now c.at_depth.ensures 34 (c.at_depth-2.result.now ∷ [])
    (g.O.Objects.seen c.args.objects.now) c.in-Some.value c.put_over.new.stack.own
    c.in-Some.ensures.ready (one_argument own c.at_depth-2.result.now c.at_depth-2.ensures)
    c.put_over.ensures.own

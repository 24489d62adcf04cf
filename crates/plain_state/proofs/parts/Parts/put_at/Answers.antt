use Rattle.std.proofs.Common.{◌∙◌, sym}
use Rattle.std.proofs.lemmas.Result.{err_from_is_err_and}
use Rattle.gem_object.specs.Edits.{with_value_at}
use Rattle.plain_state.specs.Edit.{edited_by}
use Rattle.plain_state.specs.declared.edit.Edit.TheVariants.{PutAt}
use Rattle.plain_state.specs.Classes.{has_pairs}
use Rattle.plain_state.proofs.Slots.{edited_as}
use Rattle.plain_state.proofs.KeyPuts.{put_done, put_lacks, no_put, edited_kept}
use Rattle.plain_state.proofs.SlotPuts.{edited_absent, untold}
use Rattle.plain_state.proofs.parts.Parts.put_at.Goals as goal

pub returns-then-not-has_pairs-clause-edited : goal.returns-then-not-has_pairs-clause-edited
returns-then-not-has_pairs-clause-edited c = no_put c.args.self.now.seen c.args.oid c.args.key c.args.value c.requires
    (sym c.has_pairs.ensures ∙ c.if-not-has_pairs.true)

pub returns-then-may_put-clause-edited : goal.returns-then-may_put-clause-edited
returns-then-may_put-clause-edited c = edited_as c.args.oid (with_value_at c.args.key c.args.value)
    (put_done c.args.self.now.seen c.args.oid c.args.key c.args.value c.requires
    (sym c.has_pairs.ensures ∙ c.if-not-has_pairs.false) (sym c.may_put.ensures ∙ c.if-may_put.true))
    c.in_ok-change.ensures.edited

pub returns-in_err-miss_both-clause-edited : goal.returns-in_err-miss_both-clause-edited
returns-in_err-miss_both-clause-edited c =
    let p = err_from_is_err_and c.from_residual-in_err-miss_both.result c.from_residual-in_err-miss_both.ensures.1 in
    rw (p.1, p.2) (edited_kept c.args.self.now.seen c.miss_both.new.self.seen c.args.oid (with_value_at c.args.key c.args.value)
    c.in_err-miss_both.ensures.same)

pub returns-clause-edited : goal.returns-clause-edited
returns-clause-edited c = edited_as c.args.oid (with_value_at c.args.key c.args.value)
    (put_lacks c.args.self.now.seen c.args.oid c.args.key c.args.value c.requires
    (sym c.has_pairs.ensures ∙ c.if-not-has_pairs.false) (sym c.may_put.ensures ∙ c.if-may_put.false))
    c.in_ok-miss_both.ensures.missed

pub returns-then-may_put-clause-absent : goal.returns-then-may_put-clause-absent
returns-then-may_put-clause-absent c = λ absent. c.in_ok-change.ensures.edited
    ∙ edited_absent c.args.self.now.seen c.args.oid (edited_by (PutAt c.args.key c.args.value)) absent

pub returns-in_err-miss_both-clause-absent : goal.returns-in_err-miss_both-clause-absent
returns-in_err-miss_both-clause-absent c = λ absent. absurd (untold c.args.self.now.seen c.args.oid
    (λ object. has_pairs object.body) (sym c.has_pairs.ensures ∙ c.if-not-has_pairs.false) absent)

pub returns-clause-absent : goal.returns-clause-absent
returns-clause-absent c = λ absent. absurd (untold c.args.self.now.seen c.args.oid
    (λ object. has_pairs object.body) (sym c.has_pairs.ensures ∙ c.if-not-has_pairs.false) absent)

use Rattle.std.proofs.Common.{◌∙◌, sym}
use Rattle.std.proofs.lemmas.Result.{on_ok_weaker}
use Rattle.plain_state.proofs.Notes.{update_misses, made_applied, noted_applied}
use Rattle.plain_state.proofs.parts.Parts.update.Goals as goal

pub returns-then-not-may_update-clause-updated : goal.returns-then-not-may_update-clause-updated
returns-then-not-may_update-clause-updated c = on_ok_weaker c.miss_update.result (λ is. is
    ∙ update_misses c.args.self.now.seen c.args.oid c.args.update c.requires c.spelling_stays.ensures.update
    (sym c.fits_update.ensures ∙ c.if-not-fits_update.false) (sym c.may_update.ensures ∙ c.if-not-may_update.true))
    c.miss_update.ensures.missed

pub returns-then-is_made-clause-updated : goal.returns-then-is_made-clause-updated
returns-then-is_made-clause-updated c = c.in_ok-apply.ensures.applied
    ∙ made_applied c.args.self.now.seen c.args.oid c.args.update c.requires c.spelling_stays.ensures.update
    (sym c.may_update.ensures ∙ c.if-not-may_update.false) (sym c.is_made.ensures ∙ c.if-is_made.true)

pub returns-clause-updated : goal.returns-clause-updated
returns-clause-updated c = on_ok_weaker c.apply_noted.result (λ is. is
    ∙ noted_applied c.args.self.now.seen c.args.oid c.args.update c.requires c.spelling_stays.ensures.update
    (sym c.may_update.ensures ∙ c.if-not-may_update.false) (sym c.is_made.ensures ∙ c.if-is_made.false))
    c.apply_noted.ensures.updated

use Rattle.std.proofs.Common.{◌∙◌, sym, ap}
use Rattle.std.proofs.lemmas.Result.{err_from_is_err_and}
use Rattle.plain_state.specs.Updates.{after_allowed_update}
use Rattle.plain_state.proofs.Touched.{acted_by}
use Rattle.plain_state.proofs.Notes.{note_no, note_yes, note_kept, asked_sound, asked_then}
use Rattle.plain_state.proofs.Replaced.{unchanged_same}
use Rattle.plain_state.proofs.parts.Parts.note.Goals as goal

pub returns-in_err-ask : goal.returns-in_err-ask
returns-in_err-ask c =
    let p = err_from_is_err_and c.from_residual.result c.from_residual.ensures.1 in
    rw (p.1, p.2) (note_kept c.args.self.now.seen c.args.oid c.args.update c.ask.new.self.seen (unchanged_same c.in_err-ask.ensures.unchanged))

pub returns-then-not-allowed : goal.returns-then-not-allowed
returns-then-not-allowed c = acted_by
    (note_no c.args.self.now.seen c.args.oid c.args.update (sym c.may_write-allowed.ensures ∙ c.if-not-allowed.true))
    c.in_ok-ask.ensures.asked

pub update-requires : goal.update-requires
update-requires c = asked_sound c.args.self.now.seen c.args.oid c.args.update c.ask.new.self.seen c.requires c.in_ok-ask.ensures.asked

pub returns-in_err-update : goal.returns-in_err-update
returns-in_err-update c =
    let p = err_from_is_err_and c.from_residual-in_err-update.result c.from_residual-in_err-update.ensures.1 in
    rw (p.1, p.2) (note_kept c.args.self.now.seen c.args.oid c.args.update c.update.new.self.seen
    (asked_then c.args.self.now.seen c.args.oid c.args.update c.ask.new.self.seen c.update.new.self.seen c.in_ok-ask.ensures.asked
    c.in_err-update.ensures.same))

pub returns : goal.returns
returns c = acted_by
    (note_yes c.args.self.now.seen c.args.oid c.args.update (sym c.may_write-allowed.ensures ∙ c.if-not-allowed.false))
    (c.in_ok-update.ensures.updated ∙ ap (after_allowed_update c.args.oid c.args.update) c.in_ok-ask.ensures.asked)

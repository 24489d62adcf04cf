use Rattle.std.proofs.Common.{◌≡◌, ◌∙◌, sym, ap, subst, ℕ, true}
use Rattle.gem_record.specs.declared.record.TxnRecord.{TxnRecord}
use Rattle.gem_meaning.specs.Serial.{IsRecorded}
use Rattle.gem_session.proofs.Others.{goes_on_twice, nobody_came}
use Rattle.gem_session.proofs.Commits.{session_is, recorded, commit_spoiled, commit_short, goes_as, commit_next, replied_ended, fell_short, replied_going_on}
use Rattle.gem_session.proofs.CutShort.{gave_up}
use Rattle.gem_session.proofs.session.Session.commit.Goals as goal

pub returns-then-self-clause-replied : goal.returns-then-self-clause-replied
returns-then-self-clause-replied g c =
    let t = (g.P.StonePort.state c.args.port.now).told in
    let r = c.requires.comes in
    commit_spoiled t.opened t.events c.args.number c.args.self.now r.stands r.command c.if-self.true

pub returns-in_default-clause-replied : goal.returns-in_default-clause-replied
returns-in_default-clause-replied g c =
    let t = (g.P.StonePort.state c.args.port.now).told in
    let r = c.requires.comes in
    commit_short t.opened t.events c.args.number c.args.self.now r.stands r.command t.events c.if-self.false (nobody_came _ _)

pub commit-answer-requires-clause-recorded : goal.commit-answer-requires-clause-recorded
commit-answer-requires-clause-recorded g c =
    let t = (g.P.StonePort.state c.args.port.now).told in
    let r = c.requires.comes in
    subst (IsRecorded t) (sym c.in-Ok.ensures)
    (recorded t.opened t.events c.args.number c.args.self.now r.stands r.command c.if-self.false)

pub begin_next-requires : goal.begin_next-requires
begin_next-requires g c =
    let ends = sym c.ends_transaction.ensures ∙ c.if-ends_transaction.true in
    record {
      ended = commit_next _ _ c.args.number c.args.self.now c.requires.comes c.in-Ok.done c.in-Ok.ensures c.commit-answer.result c.if-self.false
          c.commit-answer.ensures.port c.commit-answer.ensures.says ends;
    }

pub returns-in_err-begin_next-clause-port : goal.returns-in_err-begin_next-clause-port
returns-in_err-begin_next-clause-port g c =
    goes_on_twice _ _ _ _ (goes_as _ _ c.args.number c.args.self.now c.requires.comes c.in-Ok.done c.in-Ok.ensures c.commit-answer.result c.if-self.false
    c.commit-answer.ensures.port c.commit-answer.ensures.says) c.begin_next.ensures.port

pub returns-then-ends_transaction-clause-port : goal.returns-then-ends_transaction-clause-port
returns-then-ends_transaction-clause-port g c =
    goes_on_twice _ _ _ _ (goes_as _ _ c.args.number c.args.self.now c.requires.comes c.in-Ok.done c.in-Ok.ensures c.commit-answer.result c.if-self.false
    c.commit-answer.ensures.port c.commit-answer.ensures.says) c.begin_next.ensures.port

pub returns-then-ends_transaction-clause-replied : goal.returns-then-ends_transaction-clause-replied
returns-then-ends_transaction-clause-replied g c =
    let ends = sym c.ends_transaction.ensures ∙ c.if-ends_transaction.true in
    rw c.commit_line.ensures
    (replied_ended _ _ c.args.number c.args.self.now c.requires.comes c.in-Ok.done c.in-Ok.ensures c.commit-answer.result c.if-self.false
    c.commit-answer.ensures.port c.commit-answer.ensures.says c.placed_as_recorded.ensures.effect (g.P.StonePort.state c.begin_next.new.port) c.begin_next.new.self ends c.in_ok-begin_next.ensures.begins)

pub returns-clause-port : goal.returns-clause-port
returns-clause-port g c =
    goes_as _ _ c.args.number c.args.self.now c.requires.comes c.in-Ok.done c.in-Ok.ensures c.commit-answer.result c.if-self.false
    c.commit-answer.ensures.port c.commit-answer.ensures.says

pub returns-clause-replied : goal.returns-clause-replied
returns-clause-replied g c =
    let stays = sym c.ends_transaction.ensures ∙ c.if-ends_transaction.false in
    rw c.commit_line-2.ensures
    (replied_going_on _ _ c.args.number c.args.self.now c.requires.comes c.in-Ok.done c.in-Ok.ensures c.commit-answer.result c.if-self.false
    c.commit-answer.ensures.port c.commit-answer.ensures.says c.placed_as_recorded.ensures.effect c.args.self.now.number stays)

pub commit-answer-requires-clause-serves : goal.commit-answer-requires-clause-serves
commit-answer-requires-clause-serves g c =
    subst (λ (n : ℕ). (g.P.StonePort.state c.args.port.now).serves n ≡ true)
    (sym (session_is c.args.number c.args.self.now) ∙ sym (ap (λ (x : TxnRecord). x.session) c.in-Ok.ensures)) c.requires.comes.serves

pub returns-in_err-begin_next-clause-fell_short : goal.returns-in_err-begin_next-clause-fell_short
returns-in_err-begin_next-clause-fell_short g c =
    let ends = sym c.ends_transaction.ensures ∙ c.if-ends_transaction.true in
    gave_up _ (fell_short _ _ c.args.number c.args.self.now c.requires.comes c.in-Ok.done c.in-Ok.ensures c.commit-answer.result c.if-self.false
    c.commit-answer.ensures.port c.commit-answer.ensures.says c.placed_as_recorded.ensures.effect (g.P.StonePort.state c.begin_next.new.port) ends c.in_err-begin_next.ensures.starved)

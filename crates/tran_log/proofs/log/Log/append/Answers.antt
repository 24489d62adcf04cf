use Rattle.std.proofs.Common.{◌∷◌, [], inl, inr, arith}
use Rattle.tran_log.proofs.Appending.{one_chain, nothing_added, reads_nothing}
use Rattle.tran_log.proofs.log.Log.append.Goals as goal

pub returns-then-saturating_add-gt-LOG_LIMIT-clause-any_moment : goal.returns-then-saturating_add-gt-LOG_LIMIT-clause-any_moment
returns-then-saturating_add-gt-LOG_LIMIT-clause-any_moment g c logged mode effect tells may =
    let past = g.D.Disk.past c.args.disk.now in
    nothing_added past c.args.self.now c.args.body.now logged ((mode, effect) ∷ [])
    (one_chain past c.args.self.now c.args.body.now logged mode effect may)

pub returns-then-saturating_add-gt-LOG_LIMIT-clause-reads : goal.returns-then-saturating_add-gt-LOG_LIMIT-clause-reads
returns-then-saturating_add-gt-LOG_LIMIT-clause-reads g c logged mode effect tells may =
    let past = g.D.Disk.past c.args.disk.now in
    reads_nothing past c.args.self.now c.args.body.now logged ((mode, effect) ∷ [])
    (one_chain past c.args.self.now c.args.body.now logged mode effect may)

pub append_chain-requires-clause-bodies : goal.append_chain-requires-clause-bodies
append_chain-requires-clause-bodies g c tells = elim (c.requires tells) [
  | inl long ↦ absurd (omega (arith, long, c.if-saturating_add-gt-LOG_LIMIT.false, c.saturating_add.ensures, c.length-length.ensures))
  | inr may ↦ (
    may.0,
    (may.1, may.2) ∷ [],
    one_chain (g.D.Disk.past c.args.disk.now) c.args.self.now c.args.body.now may.0 may.1 may.2 may.3,
  )
]

pub returns-in_err-append_chain-clause-any_moment : goal.returns-in_err-append_chain-clause-any_moment
returns-in_err-append_chain-clause-any_moment g c logged mode effect tells may =
    c.in_err-append_chain.ensures.any_moment logged ((mode, effect) ∷ []) tells
    (one_chain (g.D.Disk.past c.args.disk.now) c.args.self.now c.args.body.now logged mode effect may)

pub returns-in_err-append_chain-clause-reads : goal.returns-in_err-append_chain-clause-reads
returns-in_err-append_chain-clause-reads g c logged mode effect tells may =
    c.in_err-append_chain.ensures.reads logged ((mode, effect) ∷ []) tells
    (one_chain (g.D.Disk.past c.args.disk.now) c.args.self.now c.args.body.now logged mode effect may)

pub returns-clause-any_moment : goal.returns-clause-any_moment
returns-clause-any_moment g c logged mode effect tells may =
    c.in_ok-append_chain.ensures.any_moment logged ((mode, effect) ∷ []) tells
    (one_chain (g.D.Disk.past c.args.disk.now) c.args.self.now c.args.body.now logged mode effect may)

pub returns-clause-acknowledged : goal.returns-clause-acknowledged
returns-clause-acknowledged g c logged mode effect tells may =
    c.in_ok-append_chain.ensures.acknowledged logged ((mode, effect) ∷ []) tells
    (one_chain (g.D.Disk.past c.args.disk.now) c.args.self.now c.args.body.now logged mode effect may)

pub returns-clause-reads : goal.returns-clause-reads
returns-clause-reads g c logged mode effect tells may =
    c.in_ok-append_chain.ensures.reads logged ((mode, effect) ∷ []) tells
    (one_chain (g.D.Disk.past c.args.disk.now) c.args.self.now c.args.body.now logged mode effect may)

use Rattle.std.proofs.Common.{◌+◌, ◌∷◌, List, sym, subst, length, ℕ}
use Rattle.std.specs.Vec.{vec_capacity}
use Rattle.script_run.specs.Workers.{HasEndedAt, IsStartedAt}
use Rattle.script_run.specs.declared.session.Started.{Started}
use Rattle.script_run.proofs.Filling.{Filling, filling_more, each_at}
use Rattle.script_run.proofs.together.end_all.Goals as goal

pub loop-started-preserved : goal.loop-started-preserved
loop-started-preserved g c =
    let clock = g.N.Named.clock in
    let o = g.N.Named.opened in
    let sessions = c.args.sessions.now in
    let l = c.loop-started in
    let rest = c.next.new.self.rest.items in
    let so : Filling (HasEndedAt clock o sessions) c.args.all.items l.yielded (c.in-Some.started ∷ rest) l.ended.items (vec_capacity l.ended) =
    subst (λ (left : List (Started g.row.K.Denot g.row.N.Denot)). Filling (HasEndedAt clock o sessions) c.args.all.items l.yielded left l.ended.items (vec_capacity l.ended))
    c.in-Some.ensures.steps.0 l.invariant in
    let started : IsStartedAt {K = g.row.K.Denot} {N = g.row.N.Denot} clock o sessions (length l.ended.items) c.in-Some.started =
    subst (λ (n : ℕ). IsStartedAt {K = g.row.K.Denot} {N = g.row.N.Denot} clock o sessions n c.in-Some.started) (sym so.counted)
    (each_at (IsStartedAt {K = g.row.K.Denot} {N = g.row.N.Denot} clock o sessions) c.args.all.items l.yielded c.in-Some.started rest c.requires.started so.steps) in
    rw c.in-Ok.ensures.items
    (filling_more (HasEndedAt clock o sessions) c.args.all.items l.yielded c.in-Some.started rest l.ended.items c.end.result
    (vec_capacity l.ended) (vec_capacity c.push.new.self) c.in-Ok.ensures.capacity so
    (λ script is. c.end.ensures (length l.ended.items + 1) script (started script is)))

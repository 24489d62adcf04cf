use Rattle.std.proofs.Common.{◌≡◌, ◌+◌, ◌∷◌, ◌++◌, List, subst, length, ℕ, arith}
use Rattle.std.specs.Vec.{vec_capacity}
use Rattle.gem_clock.specs.Shown.{StampView, first_stamp}
use Rattle.gem_meaning.specs.declared.event.What.{What}
use Rattle.script_run.specs.Workers.{IsStartedAt}
use Rattle.script_run.proofs.Filling.{Filling, filling_more, each_at}
use Rattle.script_run.proofs.together.start_all.Goals as goal

pub start_at-started-requires-clause-stamp : goal.start_at-started-requires-clause-stamp
start_at-started-requires-clause-stamp g c κs within =
    let clock = g.N.Named.clock in
    let l = c.loop-stamp in
    let counted = l.invariant.counted in
    let at : length l.yielded ≡ c.len-index.result = omega (arith, c.len-index.ensures, l.all.ok, counted) in
    let steps = subst (λ (left : List (StampView What)). l.yielded ++ left ≡ c.args.stamps.items) c.in-Some.ensures.steps.0 l.invariant.steps in
    subst (λ (n : ℕ). c.in-Some.stamp ≡ first_stamp clock (n + 1)) at
    (each_at (λ (n : ℕ) (stamp : StampView What). stamp ≡ first_stamp clock (n + 1)) c.args.stamps.items l.yielded c.in-Some.stamp
    c.next.new.self.rest.items c.requires.stamps.each steps)

pub loop-stamp-preserved : goal.loop-stamp-preserved
loop-stamp-preserved g c =
    let clock = g.N.Named.clock in
    let o = g.N.Named.opened in
    let sessions = c.args.sessions.now in
    let l = c.loop-stamp in
    let rest = c.next.new.self.rest.items in
    let so : Filling (IsStartedAt {K = g.row.K.Denot} {N = g.row.N.Denot} clock o sessions) c.args.stamps.items l.yielded (c.in-Some.stamp ∷ rest) l.all.items (vec_capacity l.all) =
    subst (λ (left : List (StampView What)). Filling (IsStartedAt {K = g.row.K.Denot} {N = g.row.N.Denot} clock o sessions) c.args.stamps.items l.yielded left l.all.items (vec_capacity l.all))
    c.in-Some.ensures.steps.0 l.invariant in
    let at : c.len-index.result ≡ length l.all.items = omega (arith, c.len-index.ensures, l.all.ok) in
    rw c.in-Ok.ensures.items
    (filling_more (IsStartedAt {K = g.row.K.Denot} {N = g.row.N.Denot} clock o sessions) c.args.stamps.items l.yielded c.in-Some.stamp rest l.all.items c.start_at-started.result
    (vec_capacity l.all) (vec_capacity c.push.new.self) c.in-Ok.ensures.capacity so
    (subst (λ (n : ℕ). IsStartedAt {K = g.row.K.Denot} {N = g.row.N.Denot} clock o sessions n c.start_at-started.result) at c.start_at-started.ensures))

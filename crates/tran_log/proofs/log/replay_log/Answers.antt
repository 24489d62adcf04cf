use Rattle.std.proofs.Common.{◌≡◌, ◌≤◌, IsTrue, length, subst, sym, ap, ◌∙◌, arith}
use Rattle.std.proofs.lemmas.Result.{err_from_is_err_and}
use Rattle.gem_disk.specs.declared.disk.Which.TheVariants.{Log}
use Rattle.gem_disk.specs.Disk.{reads}
use Rattle.gem_disk.specs.Runs.{LeavesOnly}
use Rattle.tran_log.specs.Resting.{IsDurable, IsOldOrRead, IsTornAt}
use Rattle.tran_log.proofs.Opening.{synced, sync_durable, before_sync, after_sync, while_closed, all_held, same_length, torn_short, one_gate, long_replayed, short_replayed, long_broken, honest_same, honest_after}
use Rattle.tran_log.proofs.log.replay_log.Goals as goal

pub returns-in_err-sync-clause-any_moment : goal.returns-in_err-sync-clause-any_moment
returns-in_err-sync-clause-any_moment g c logged tells read all =
    let old = g.D.Disk.past c.args.disk.now in
    let new = g.D.Disk.past c.sync.new.self in
    let same : new ≡ old = c.in_err-sync.ensures.past tells in
    all_held old logged read all new (subst (λ p. LeavesOnly old p (IsOldOrRead old)) (sym same) (before_sync old))

pub returns-in_err-sync-clause-each_image : goal.returns-in_err-sync-clause-each_image
returns-in_err-sync-clause-each_image g c tells =
    let old = g.D.Disk.past c.args.disk.now in
    let new = g.D.Disk.past c.sync.new.self in
    let same : new ≡ old = c.in_err-sync.ensures.past tells in
    subst (λ p. LeavesOnly old p (IsOldOrRead old)) (sym same) (before_sync old)

pub returns-in_err-sync-clause-kept : goal.returns-in_err-sync-clause-kept
returns-in_err-sync-clause-kept g c tells long =
    let old = g.D.Disk.past c.args.disk.now in
    let new = g.D.Disk.past c.sync.new.self in
    let same : new ≡ old = c.in_err-sync.ensures.past tells in
    ap (λ p. reads p Log) same

pub returns-in_err-sync-clause-short : goal.returns-in_err-sync-clause-short
returns-in_err-sync-clause-short g c tells small =
    let old = g.D.Disk.past c.args.disk.now in
    let new = g.D.Disk.past c.sync.new.self in
    let same : new ≡ old = c.in_err-sync.ensures.past tells in
    omega (arith, small, ap (λ p. length (reads p Log)) same)

pub returns-in_err-sync-clause-honest : goal.returns-in_err-sync-clause-honest
returns-in_err-sync-clause-honest g c tells =
    let old = g.D.Disk.past c.args.disk.now in
    let new = g.D.Disk.past c.sync.new.self in
    let same : new ≡ old = c.in_err-sync.ensures.past tells in
    honest_same old new same

pub returns-in_err-size-clause-any_moment : goal.returns-in_err-size-clause-any_moment
returns-in_err-size-clause-any_moment g c logged tells read all =
    let old = g.D.Disk.past c.args.disk.now in
    let new = g.D.Disk.past c.length.new.self in
    let same : new ≡ synced old = c.in_err-size.ensures.past tells ∙ c.in_ok-sync.ensures.past tells in
    all_held old logged read all new (subst (λ p. LeavesOnly old p (IsOldOrRead old)) (sym same) (after_sync old))

pub returns-in_err-size-clause-each_image : goal.returns-in_err-size-clause-each_image
returns-in_err-size-clause-each_image g c tells =
    let old = g.D.Disk.past c.args.disk.now in
    let new = g.D.Disk.past c.length.new.self in
    let same : new ≡ synced old = c.in_err-size.ensures.past tells ∙ c.in_ok-sync.ensures.past tells in
    subst (λ p. LeavesOnly old p (IsOldOrRead old)) (sym same) (after_sync old)

pub returns-in_err-size-clause-kept : goal.returns-in_err-size-clause-kept
returns-in_err-size-clause-kept g c tells long =
    let old = g.D.Disk.past c.args.disk.now in
    let new = g.D.Disk.past c.length.new.self in
    let same : new ≡ synced old = c.in_err-size.ensures.past tells ∙ c.in_ok-sync.ensures.past tells in
    ap (λ p. reads p Log) same

pub returns-in_err-size-clause-short : goal.returns-in_err-size-clause-short
returns-in_err-size-clause-short g c tells small =
    let old = g.D.Disk.past c.args.disk.now in
    let new = g.D.Disk.past c.length.new.self in
    let same : new ≡ synced old = c.in_err-size.ensures.past tells ∙ c.in_ok-sync.ensures.past tells in
    same_length old new same small

pub returns-in_err-size-clause-honest : goal.returns-in_err-size-clause-honest
returns-in_err-size-clause-honest g c tells =
    let old = g.D.Disk.past c.args.disk.now in
    let new = g.D.Disk.past c.length.new.self in
    let same : new ≡ synced old = c.in_err-size.ensures.past tells ∙ c.in_ok-sync.ensures.past tells in
    honest_after old new same

pub returns-in_err-end-clause-any_moment : goal.returns-in_err-end-clause-any_moment
returns-in_err-end-clause-any_moment g c logged tells read all =
    let old = g.D.Disk.past c.args.disk.now in
    let new = g.D.Disk.past c.replay_chain.new.disk in
    let same : new ≡ synced old = c.in_err-end.ensures.past tells ∙ c.in_ok-size.ensures.past tells ∙ c.in_ok-sync.ensures.past tells in
    all_held old logged read all new (subst (λ p. LeavesOnly old p (IsOldOrRead old)) (sym same) (after_sync old))

pub returns-in_err-end-clause-each_image : goal.returns-in_err-end-clause-each_image
returns-in_err-end-clause-each_image g c tells =
    let old = g.D.Disk.past c.args.disk.now in
    let new = g.D.Disk.past c.replay_chain.new.disk in
    let same : new ≡ synced old = c.in_err-end.ensures.past tells ∙ c.in_ok-size.ensures.past tells ∙ c.in_ok-sync.ensures.past tells in
    subst (λ p. LeavesOnly old p (IsOldOrRead old)) (sym same) (after_sync old)

pub returns-in_err-end-clause-kept : goal.returns-in_err-end-clause-kept
returns-in_err-end-clause-kept g c tells long =
    let old = g.D.Disk.past c.args.disk.now in
    let new = g.D.Disk.past c.replay_chain.new.disk in
    let same : new ≡ synced old = c.in_err-end.ensures.past tells ∙ c.in_ok-size.ensures.past tells ∙ c.in_ok-sync.ensures.past tells in
    ap (λ p. reads p Log) same

pub returns-in_err-end-clause-short : goal.returns-in_err-end-clause-short
returns-in_err-end-clause-short g c tells small =
    let old = g.D.Disk.past c.args.disk.now in
    let new = g.D.Disk.past c.replay_chain.new.disk in
    let same : new ≡ synced old = c.in_err-end.ensures.past tells ∙ c.in_ok-size.ensures.past tells ∙ c.in_ok-sync.ensures.past tells in
    same_length old new same small

pub returns-in_err-end-clause-honest : goal.returns-in_err-end-clause-honest
returns-in_err-end-clause-honest g c tells =
    let old = g.D.Disk.past c.args.disk.now in
    let new = g.D.Disk.past c.replay_chain.new.disk in
    let same : new ≡ synced old = c.in_err-end.ensures.past tells ∙ c.in_ok-size.ensures.past tells ∙ c.in_ok-sync.ensures.past tells in
    honest_after old new same

pub returns-then-size-gt1-clause-any_moment : goal.returns-then-size-gt1-clause-any_moment
returns-then-size-gt1-clause-any_moment g c logged tells read all =
    let old = g.D.Disk.past c.args.disk.now in
    let new = g.D.Disk.past c.replay_chain.new.disk in
    let same : new ≡ synced old = c.in_ok-end.ensures.past tells ∙ c.in_ok-size.ensures.past tells ∙ c.in_ok-sync.ensures.past tells in
    all_held old logged read all new (subst (λ p. LeavesOnly old p (IsOldOrRead old)) (sym same) (after_sync old))

pub returns-then-size-gt1-clause-each_image : goal.returns-then-size-gt1-clause-each_image
returns-then-size-gt1-clause-each_image g c tells =
    let old = g.D.Disk.past c.args.disk.now in
    let new = g.D.Disk.past c.replay_chain.new.disk in
    let same : new ≡ synced old = c.in_ok-end.ensures.past tells ∙ c.in_ok-size.ensures.past tells ∙ c.in_ok-sync.ensures.past tells in
    subst (λ p. LeavesOnly old p (IsOldOrRead old)) (sym same) (after_sync old)

pub returns-then-size-gt1-clause-kept : goal.returns-then-size-gt1-clause-kept
returns-then-size-gt1-clause-kept g c tells long =
    let old = g.D.Disk.past c.args.disk.now in
    let new = g.D.Disk.past c.replay_chain.new.disk in
    let same : new ≡ synced old = c.in_ok-end.ensures.past tells ∙ c.in_ok-size.ensures.past tells ∙ c.in_ok-sync.ensures.past tells in
    ap (λ p. reads p Log) same

pub returns-then-size-gt1-clause-short : goal.returns-then-size-gt1-clause-short
returns-then-size-gt1-clause-short g c tells small =
    let old = g.D.Disk.past c.args.disk.now in
    let new = g.D.Disk.past c.replay_chain.new.disk in
    let same : new ≡ synced old = c.in_ok-end.ensures.past tells ∙ c.in_ok-size.ensures.past tells ∙ c.in_ok-sync.ensures.past tells in
    same_length old new same small

pub returns-then-size-gt1-clause-honest : goal.returns-then-size-gt1-clause-honest
returns-then-size-gt1-clause-honest g c tells =
    let old = g.D.Disk.past c.args.disk.now in
    let new = g.D.Disk.past c.replay_chain.new.disk in
    let same : new ≡ synced old = c.in_ok-end.ensures.past tells ∙ c.in_ok-size.ensures.past tells ∙ c.in_ok-sync.ensures.past tells in
    honest_after old new same

pub returns-in_err-end-clause-broken : goal.returns-in_err-end-clause-broken
returns-in_err-end-clause-broken g c tells =
    let old = g.D.Disk.past c.args.disk.now in
    let mid = g.D.Disk.past c.length.new.self in
    let file_is : IsTrue g.D.Disk.tells → reads mid Log ≡ reads old Log =
    λ tells. ap (λ p. reads p Log) (c.in_ok-size.ensures.past tells ∙ c.in_ok-sync.ensures.past tells) in
    let p = err_from_is_err_and c.from_residual-in_err-end.result c.from_residual-in_err-end.ensures.1 in
    let size : c.in_ok-size.size ≡ length (reads mid Log) =
    c.in_ok-size.ensures.bytes tells ∙ ap (λ p. length (reads p Log)) (sym (c.in_ok-size.ensures.past tells)) in
    rw (p.1, p.2) (long_broken old (reads mid Log) c.in_err-end.field-0.0 (file_is tells) (omega (arith, size, c.if-size-gt1.true))
    (c.in_err-end.ensures.broken tells))

pub returns-then-size-gt1-clause-replayed : goal.returns-then-size-gt1-clause-replayed
returns-then-size-gt1-clause-replayed g c =
    let old = g.D.Disk.past c.args.disk.now in
    let mid = g.D.Disk.past c.length.new.self in
    let file_is : IsTrue g.D.Disk.tells → reads mid Log ≡ reads old Log =
    λ tells. ap (λ p. reads p Log) (c.in_ok-size.ensures.past tells ∙ c.in_ok-sync.ensures.past tells) in
    let new = g.D.Disk.past c.replay_chain.new.disk in
    long_replayed g.R.Replay.takes c.args.replay.now g.D.Disk.tells old c.replay_chain.new.replay (reads mid Log) new c.in_ok-end.end
    file_is (λ tells. c.in_ok-end.ensures.past tells ∙ c.in_ok-size.ensures.past tells ∙ c.in_ok-sync.ensures.past tells)
    c.in_ok-end.ensures.replayed

pub returns-then-size-gt1-clause-closed : goal.returns-then-size-gt1-clause-closed
returns-then-size-gt1-clause-closed g c tells small =
    let old = g.D.Disk.past c.args.disk.now in
    let size : c.in_ok-size.size ≡ length (reads old Log) =
    c.in_ok-size.ensures.bytes tells ∙ ap (λ p. length (reads p Log)) (c.in_ok-sync.ensures.past tells) in
    absurd (omega (arith, small, c.if-size-gt1.true, size))

pub returns-in_err-write_through-clause-any_moment : goal.returns-in_err-write_through-clause-any_moment
returns-in_err-write_through-clause-any_moment g c logged tells read all =
    let old = g.D.Disk.past c.args.disk.now in
    let mid = g.D.Disk.past c.length.new.self in
    let new = g.D.Disk.past c.write_through.new.disk in
    let same : mid ≡ synced old = c.in_ok-size.ensures.past tells ∙ c.in_ok-sync.ensures.past tells in
    let size : c.in_ok-size.size ≡ length (reads old Log) =
    c.in_ok-size.ensures.bytes tells ∙ ap (λ p. length (reads p Log)) (c.in_ok-sync.ensures.past tells) in
    let small : length (reads old Log) ≤ 1 = omega (arith, c.if-size-gt1.false, size) in
    let durable : IsDurable mid = subst IsDurable (sym same) (sync_durable old) in
    all_held old logged read all new (while_closed old small new (subst (λ p. LeavesOnly p new (IsTornAt p 0 1)) same (c.in_err-write_through.ensures.any_moment tells durable)))

pub returns-in_err-write_through-clause-each_image : goal.returns-in_err-write_through-clause-each_image
returns-in_err-write_through-clause-each_image g c tells =
    let old = g.D.Disk.past c.args.disk.now in
    let mid = g.D.Disk.past c.length.new.self in
    let new = g.D.Disk.past c.write_through.new.disk in
    let same : mid ≡ synced old = c.in_ok-size.ensures.past tells ∙ c.in_ok-sync.ensures.past tells in
    let size : c.in_ok-size.size ≡ length (reads old Log) =
    c.in_ok-size.ensures.bytes tells ∙ ap (λ p. length (reads p Log)) (c.in_ok-sync.ensures.past tells) in
    let small : length (reads old Log) ≤ 1 = omega (arith, c.if-size-gt1.false, size) in
    let durable : IsDurable mid = subst IsDurable (sym same) (sync_durable old) in
    while_closed old small new (subst (λ p. LeavesOnly p new (IsTornAt p 0 1)) same (c.in_err-write_through.ensures.any_moment tells durable))

pub returns-in_err-write_through-clause-kept : goal.returns-in_err-write_through-clause-kept
returns-in_err-write_through-clause-kept g c tells long =
    let old = g.D.Disk.past c.args.disk.now in
    let mid = g.D.Disk.past c.length.new.self in
    let new = g.D.Disk.past c.write_through.new.disk in
    let same : mid ≡ synced old = c.in_ok-size.ensures.past tells ∙ c.in_ok-sync.ensures.past tells in
    let size : c.in_ok-size.size ≡ length (reads old Log) =
    c.in_ok-size.ensures.bytes tells ∙ ap (λ p. length (reads p Log)) (c.in_ok-sync.ensures.past tells) in
    let small : length (reads old Log) ≤ 1 = omega (arith, c.if-size-gt1.false, size) in
    absurd (omega (arith, long, small))

pub returns-in_err-write_through-clause-short : goal.returns-in_err-write_through-clause-short
returns-in_err-write_through-clause-short g c tells less =
    let old = g.D.Disk.past c.args.disk.now in
    let mid = g.D.Disk.past c.length.new.self in
    let new = g.D.Disk.past c.write_through.new.disk in
    let same : mid ≡ synced old = c.in_ok-size.ensures.past tells ∙ c.in_ok-sync.ensures.past tells in
    let size : c.in_ok-size.size ≡ length (reads old Log) =
    c.in_ok-size.ensures.bytes tells ∙ ap (λ p. length (reads p Log)) (c.in_ok-sync.ensures.past tells) in
    let small : length (reads old Log) ≤ 1 = omega (arith, c.if-size-gt1.false, size) in
    torn_short old new mid same small (c.in_err-write_through.ensures.torn tells)

pub returns-in_err-write_through-clause-honest : goal.returns-in_err-write_through-clause-honest
returns-in_err-write_through-clause-honest g c tells honest =
    let old = g.D.Disk.past c.args.disk.now in
    let mid = g.D.Disk.past c.length.new.self in
    let new = g.D.Disk.past c.write_through.new.disk in
    let same : mid ≡ synced old = c.in_ok-size.ensures.past tells ∙ c.in_ok-sync.ensures.past tells in
    let size : c.in_ok-size.size ≡ length (reads old Log) =
    c.in_ok-size.ensures.bytes tells ∙ ap (λ p. length (reads p Log)) (c.in_ok-sync.ensures.past tells) in
    let small : length (reads old Log) ≤ 1 = omega (arith, c.if-size-gt1.false, size) in
    c.in_err-write_through.ensures.honest tells (honest_after old mid same honest)

pub returns-clause-any_moment : goal.returns-clause-any_moment
returns-clause-any_moment g c logged tells read all =
    let old = g.D.Disk.past c.args.disk.now in
    let mid = g.D.Disk.past c.length.new.self in
    let new = g.D.Disk.past c.write_through.new.disk in
    let same : mid ≡ synced old = c.in_ok-size.ensures.past tells ∙ c.in_ok-sync.ensures.past tells in
    let size : c.in_ok-size.size ≡ length (reads old Log) =
    c.in_ok-size.ensures.bytes tells ∙ ap (λ p. length (reads p Log)) (c.in_ok-sync.ensures.past tells) in
    let small : length (reads old Log) ≤ 1 = omega (arith, c.if-size-gt1.false, size) in
    let durable : IsDurable mid = subst IsDurable (sym same) (sync_durable old) in
    all_held old logged read all new (while_closed old small new (subst (λ p. LeavesOnly p new (IsTornAt p 0 1)) same (c.in_ok-write_through.ensures.any_moment tells durable)))

pub returns-clause-each_image : goal.returns-clause-each_image
returns-clause-each_image g c tells =
    let old = g.D.Disk.past c.args.disk.now in
    let mid = g.D.Disk.past c.length.new.self in
    let new = g.D.Disk.past c.write_through.new.disk in
    let same : mid ≡ synced old = c.in_ok-size.ensures.past tells ∙ c.in_ok-sync.ensures.past tells in
    let size : c.in_ok-size.size ≡ length (reads old Log) =
    c.in_ok-size.ensures.bytes tells ∙ ap (λ p. length (reads p Log)) (c.in_ok-sync.ensures.past tells) in
    let small : length (reads old Log) ≤ 1 = omega (arith, c.if-size-gt1.false, size) in
    let durable : IsDurable mid = subst IsDurable (sym same) (sync_durable old) in
    while_closed old small new (subst (λ p. LeavesOnly p new (IsTornAt p 0 1)) same (c.in_ok-write_through.ensures.any_moment tells durable))

pub returns-clause-kept : goal.returns-clause-kept
returns-clause-kept g c tells long =
    let old = g.D.Disk.past c.args.disk.now in
    let mid = g.D.Disk.past c.length.new.self in
    let new = g.D.Disk.past c.write_through.new.disk in
    let same : mid ≡ synced old = c.in_ok-size.ensures.past tells ∙ c.in_ok-sync.ensures.past tells in
    let size : c.in_ok-size.size ≡ length (reads old Log) =
    c.in_ok-size.ensures.bytes tells ∙ ap (λ p. length (reads p Log)) (c.in_ok-sync.ensures.past tells) in
    let small : length (reads old Log) ≤ 1 = omega (arith, c.if-size-gt1.false, size) in
    absurd (omega (arith, long, small))

pub returns-clause-short : goal.returns-clause-short
returns-clause-short g c tells less =
    let old = g.D.Disk.past c.args.disk.now in
    let mid = g.D.Disk.past c.length.new.self in
    let new = g.D.Disk.past c.write_through.new.disk in
    let same : mid ≡ synced old = c.in_ok-size.ensures.past tells ∙ c.in_ok-sync.ensures.past tells in
    let size : c.in_ok-size.size ≡ length (reads old Log) =
    c.in_ok-size.ensures.bytes tells ∙ ap (λ p. length (reads p Log)) (c.in_ok-sync.ensures.past tells) in
    let small : length (reads old Log) ≤ 1 = omega (arith, c.if-size-gt1.false, size) in
    torn_short old new mid same small (c.in_ok-write_through.ensures.torn tells)

pub returns-clause-honest : goal.returns-clause-honest
returns-clause-honest g c tells honest =
    let old = g.D.Disk.past c.args.disk.now in
    let mid = g.D.Disk.past c.length.new.self in
    let new = g.D.Disk.past c.write_through.new.disk in
    let same : mid ≡ synced old = c.in_ok-size.ensures.past tells ∙ c.in_ok-sync.ensures.past tells in
    let size : c.in_ok-size.size ≡ length (reads old Log) =
    c.in_ok-size.ensures.bytes tells ∙ ap (λ p. length (reads p Log)) (c.in_ok-sync.ensures.past tells) in
    let small : length (reads old Log) ≤ 1 = omega (arith, c.if-size-gt1.false, size) in
    c.in_ok-write_through.ensures.honest tells (honest_after old mid same honest)

pub returns-clause-closed : goal.returns-clause-closed
returns-clause-closed g c tells less =
    let old = g.D.Disk.past c.args.disk.now in
    let mid = g.D.Disk.past c.length.new.self in
    let new = g.D.Disk.past c.write_through.new.disk in
    let same : mid ≡ synced old = c.in_ok-size.ensures.past tells ∙ c.in_ok-sync.ensures.past tells in
    let size : c.in_ok-size.size ≡ length (reads old Log) =
    c.in_ok-size.ensures.bytes tells ∙ ap (λ p. length (reads p Log)) (c.in_ok-sync.ensures.past tells) in
    let small : length (reads old Log) ≤ 1 = omega (arith, c.if-size-gt1.false, size) in
    one_gate old mid new same small (c.in_ok-write_through.ensures.written tells)

pub returns-clause-replayed : goal.returns-clause-replayed
returns-clause-replayed g c =
    let old = g.D.Disk.past c.args.disk.now in
    let mid = g.D.Disk.past c.length.new.self in
    short_replayed g.R.Replay.takes c.args.replay.now g.D.Disk.tells old mid (g.D.Disk.past c.write_through.new.disk)
    (λ tells. omega (
      arith,
      c.if-size-gt1.false,
      c.in_ok-size.ensures.bytes tells ∙ ap (λ p. length (reads p Log)) (c.in_ok-sync.ensures.past tells),
    ))
    (λ tells. c.in_ok-write_through.ensures.written tells)

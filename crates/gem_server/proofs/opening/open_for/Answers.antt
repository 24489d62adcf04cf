use Rattle.std.proofs.Common.{is_ok, Err, ap, ◌∙◌}
use Rattle.gem_server.proofs.Starting.{is_started, is_refused, is_full}
use Rattle.gem_server.proofs.opening.open_for.Goals as goal

pub returns-in-Err-clause-err : goal.returns-in-Err-clause-err
returns-in-Err-clause-err g c =
    let opened = c.open_store-result.ensures in
    is_refused g.D.Disk.tells g.D.Disk.past g.D.Disk.faults c.args.disk c.args.script.now c.in-Err.fault _ c.open_store-result.result.store.disk
    (c.refused_over.ensures.status ∙ c.of_store.ensures) c.refused_over.ensures.first c.refused_over.ensures.base c.refused_over.ensures.disk
    (λ told. rw c.in-Err.is at (opened.opens told)) (λ e. opened.failed (c.in-Err.is ∙ ap (λ why. Err why) e))
    (record { same = opened.same; crash_since = opened.any_moment })

pub returns-in-Ok-room_for-clause-ok : goal.returns-in-Ok-room_for-clause-ok
returns-in-Ok-room_for-clause-ok g c =
    let opened = c.open_store-result.ensures in
    is_started g.D.Disk.tells g.D.Disk.past g.D.Disk.faults c.args.disk c.args.script.now c.in-Ok.found c.in-Ok-room_for.base c.open_store-result.result.store
    (record { named = c.invariant.ensures.named; spelled = c.invariant.ensures.spelled })
    (rw c.in-Ok.is at opened.may_go_on) c.in-Ok-room_for.ensures.ok (opened.ready ∙ ap is_ok c.in-Ok.is)
    (λ told. rw c.in-Ok.is at (opened.opens told)) (λ told. rw c.in-Ok.is at (opened.stands told)) opened.stored
    (record { same = opened.same; crash_since = opened.any_moment }) (rw c.in-Ok.is at opened.quiet)

pub returns-in-Err-room_for-clause-err : goal.returns-in-Err-room_for-clause-err
returns-in-Err-room_for-clause-err g c =
    let opened = c.open_store-result.ensures in
    let told = c.refused_over-in-Err-room_for.ensures in
    is_full g.D.Disk.tells g.D.Disk.past g.D.Disk.faults c.args.disk c.args.script.now c.in-Ok.found c.in-Err-room_for.none.base c.in-Err-room_for.none.sessions _ c.open_store-result.result.store.disk
    c.in-Err-room_for.ensures.err told.status told.first told.base told.disk
    (λ told. rw c.in-Ok.is at (opened.opens told))
    (record { same = opened.same; crash_since = opened.any_moment })

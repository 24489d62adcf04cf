use Rattle.std.proofs.Common.{Err, refl, ap, ◌∙◌}
use Rattle.gem_server.proofs.Looks.{checks_found, checks_fault}
use Rattle.gem_server.proofs.looking.check_store.Goals as goal

pub returns-in-Err-clause-checks : goal.returns-in-Err-clause-checks
returns-in-Err-clause-checks g c =
    let opened = c.open_store-result.ensures in
    let disk_is = c.blank.ensures.disk ∙ c.close.ensures in
    let status_is = c.blank.ensures.status ∙ c.of_store.ensures in
    rw (disk_is, status_is)
    (checks_fault _ _ _ (record { same = opened.same; crash_since = opened.any_moment }) c.in-Err.fault
    (λ told. rw c.in-Err.is at (opened.opens told)) (λ e. opened.failed (c.in-Err.is ∙ ap (λ why. Err why) e)) (record { same = refl; quiet = refl }))

pub returns-clause-checks : goal.returns-clause-checks
returns-clause-checks g c =
    let opened = c.open_store-result.ensures in
    let disk_is = c.blank-2.ensures.disk ∙ c.close-2.ensures in
    rw (disk_is, c.blank-2.ensures.status)
    (checks_found _ _ _ (record { same = opened.same; crash_since = opened.any_moment }) c.in-Ok.found _
    (λ told. rw c.in-Ok.is at (opened.opens told)) c.write_line-status.ensures)

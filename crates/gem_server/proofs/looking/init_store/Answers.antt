use Rattle.std.proofs.Common.{Err, IsTrue, refl, ap, ◌∙◌}
use Rattle.gem_disk.specs.Disk.{as_read}
use Rattle.stone_store.specs.Store.{store_of}
use Rattle.stone_store.specs.Opening.{IsFound}
use Rattle.gem_server.specs.Devices.{seen}
use Rattle.gem_server.proofs.Looks.{inits_made, inits_fault, inits_unstored, inits_not_empty}
use Rattle.gem_server.proofs.Making.{leaves_unused, risen_since, leaves_opened, never_flawed, kernel_found, leaves_stored, is_made}
use Rattle.gem_server.proofs.looking.init_store.Goals as goal

pub returns-in-Err-clause-inits : goal.returns-in-Err-clause-inits
returns-in-Err-clause-inits g c =
    let looks = c.in-Err.ensures in
    rw (c.blank.ensures.disk, c.blank.ensures.status)
    (inits_not_empty _ _ _ c.in-Err.status (leaves_unused g.D.Disk.tells (seen g.D.Disk.past g.D.Disk.faults c.args.disk c.see_empty.new.disk) looks.same) looks.same looks.why (record { same = refl; quiet = refl }))

pub returns-in-Err-result-clause-inits : goal.returns-in-Err-result-clause-inits
returns-in-Err-result-clause-inits g c =
    let looks = c.see_empty.ensures in
    let opened = c.open_store-result.ensures in
    let disk_is = c.blank-in-Err-result.ensures.disk ∙ c.close.ensures in
    let status_is = c.blank-in-Err-result.ensures.status ∙ c.of_store.ensures in
    let first = g.D.Disk.past c.args.disk in
    let looked = g.D.Disk.past c.see_empty.new.disk in
    let here = g.D.Disk.past c.open_store-result.result.store.disk in
    rw (disk_is, status_is)
    (inits_fault _ _ _ c.in_default.ensures.empty (leaves_opened g.D.Disk.tells first looked here looks.same opened.any_moment (g.D.Disk.faults c.args.disk) (g.D.Disk.faults c.open_store-result.result.store.disk)) c.in-Err-result.fault
    (λ flaw. never_flawed g.D.Disk.tells first looked here looks.same opened.any_moment c.in-Err-result.fault flaw
    (λ told. rw c.in-Err-result.is at (opened.opens told)) c.in_default.ensures.empty)
    (λ e. risen_since _ _ _ looks.later (opened.failed (c.in-Err-result.is ∙ ap (λ why. Err why) e)))
    (record { same = refl; quiet = refl }))

pub returns-in-Err-first_checkpoint-clause-inits : goal.returns-in-Err-first_checkpoint-clause-inits
returns-in-Err-first_checkpoint-clause-inits g c =
    let looks = c.see_empty.ensures in
    let opened = c.open_store-result.ensures in
    let disk_is = c.blank-in-Err-first_checkpoint.ensures.disk ∙ c.close-in-Err-first_checkpoint.ensures in
    let first = g.D.Disk.past c.args.disk in
    let looked = g.D.Disk.past c.see_empty.new.disk in
    let here = g.D.Disk.past c.open_store-result.result.store.disk in
    let is : IsTrue g.D.Disk.tells → IsFound (store_of (as_read looked)) c.in-Ok.found = λ told. rw c.in-Ok.is at (opened.opens told) in
    let none = c.in_default.ensures.empty in
    rw (disk_is, c.blank-in-Err-first_checkpoint.ensures.status)
    (inits_unstored _ _ _ none
    (leaves_stored g.D.Disk.tells first looked here looks.same opened.any_moment c.in-Ok.found is none g.D.Disk.past
    c.open_store-result.result.store c.first_checkpoint.new.store refl c.first_checkpoint.ensures.any_moment (g.D.Disk.faults c.args.disk) (g.D.Disk.faults c.first_checkpoint.new.store.disk))
    _ _ _ c.in-Err-first_checkpoint.status c.in-Err-first_checkpoint.ensures.why
    (λ told. (kernel_found g.D.Disk.tells first looked here looks.same opened.any_moment c.in-Ok.found is none told).1)
    (λ risen. risen_since _ _ _ looks.later (risen_since _ _ _ opened.later risen))
    (record { same = refl; quiet = refl }))

pub returns-clause-inits : goal.returns-clause-inits
returns-clause-inits g c =
    let looks = c.see_empty.ensures in
    let opened = c.open_store-result.ensures in
    let made = c.in_default-first_checkpoint.ensures in
    let disk_is = c.blank-2.ensures.disk ∙ c.close-2.ensures in
    let first = g.D.Disk.past c.args.disk in
    let looked = g.D.Disk.past c.see_empty.new.disk in
    let here = g.D.Disk.past c.open_store-result.result.store.disk in
    let is : IsTrue g.D.Disk.tells → IsFound (store_of (as_read looked)) c.in-Ok.found = λ told. rw c.in-Ok.is at (opened.opens told) in
    let none = c.in_default.ensures.empty in
    rw (disk_is, c.blank-2.ensures.status)
    (inits_made _ _ _ none
    (leaves_stored g.D.Disk.tells first looked here looks.same opened.any_moment c.in-Ok.found is none g.D.Disk.past
    c.open_store-result.result.store c.first_checkpoint.new.store refl c.first_checkpoint.ensures.any_moment (g.D.Disk.faults c.args.disk) (g.D.Disk.faults c.first_checkpoint.new.store.disk))
    c.in-Ok.found c.write_line-status.result
    (is_made g.D.Disk.tells first looked here looks.same opened.any_moment c.in-Ok.found is none g.D.Disk.past c.first_checkpoint.new.store
    made.stands made.stored c.invariant.ensures.stored (g.D.Disk.faults c.args.disk) (g.D.Disk.faults c.first_checkpoint.new.store.disk))
    c.write_line-status.ensures)

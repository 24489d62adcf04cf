use Rattle.std.proofs.Common.{◌∙◌}
use Rattle.gem_disk.proofs.Moments.{and_then}
use Rattle.stone_store.specs.Left.{FilesStandFor}
use Rattle.stone_store.proofs.Opens.{pages_leave, all_synced, pages_same, log_leaves, log_same, same_then, pages_rest, number_found, first_is, restored_over, image_unchanged}
use Rattle.stone_store.proofs.Misfits.{all_restored}
use Rattle.stone_store.proofs.opening.read_both.Goals as goal

pub returns-in_err-pages-clause-any_moment : goal.returns-in_err-pages-clause-any_moment
returns-in_err-pages-clause-any_moment g c image number tells all =
    pages_leave (g.D.Disk.past c.args.disk.now) image number all c.open_pages.result (g.D.Disk.past c.open_pages.new.disk)
    (c.open_pages.ensures.past tells)

pub returns-in_err-first-clause-any_moment : goal.returns-in_err-first-clause-any_moment
returns-in_err-first-clause-any_moment g c image number tells all =
    pages_leave (g.D.Disk.past c.args.disk.now) image number all c.open_pages.result (g.D.Disk.past c.open_pages.new.disk)
    (c.open_pages.ensures.past tells)

pub returns-in_err-log-clause-same : goal.returns-in_err-log-clause-same
returns-in_err-log-clause-same g c tells =
    let mid = g.D.Disk.past c.open_pages.new.disk in
    let new = g.D.Disk.past c.replay_log.new.disk in
    let old = g.D.Disk.past c.args.disk.now in
    same_then old mid new (pages_same old mid c.open_pages.result (c.open_pages.ensures.past tells))
    (log_same mid new (c.replay_log.ensures.each_image tells) (c.replay_log.ensures.extent tells)
    (c.replay_log.ensures.kept tells) (c.replay_log.ensures.short tells))

pub returns-in_err-log-clause-any_moment : goal.returns-in_err-log-clause-any_moment
returns-in_err-log-clause-any_moment g c image number tells all =
    let old = g.D.Disk.past c.args.disk.now in
    let mid = g.D.Disk.past c.open_pages.new.disk in
    let new = g.D.Disk.past c.replay_log.new.disk in
    and_then old mid new (FilesStandFor image number)
    (pages_leave old image number all c.open_pages.result mid (c.open_pages.ensures.past tells))
    (log_leaves mid new (c.replay_log.ensures.each_image tells) (c.replay_log.ensures.extent tells) image number
    (all_synced old image number all mid (c.in_ok-pages.ensures.past tells)))

pub returns-clause-rests : goal.returns-clause-rests
returns-clause-rests g c tells =
    let mid = g.D.Disk.past c.open_pages.new.disk in
    let new = g.D.Disk.past c.replay_log.new.disk in
    let opened = c.in_ok-pages.ensures.opens tells in
    let rest = pages_rest mid new (c.replay_log.ensures.each_image tells) (c.replay_log.ensures.extent tells) c.in_ok-pages.pages opened.0 opened.3 in
    let replayed = c.in_ok-log.ensures.replayed in
    let started = c.start_restoring-restoring.ensures in
    let restored = all_restored c.start_restoring-restoring.result c.replay_log.new.replay (λ t. t.root) (λ t. t.restored) replayed.logged
    c.in_ok-first.first c.in_ok-pages.number replayed.taken started.root started.image started.number started.misfit in
    let number = number_found c.in_ok-pages.image c.in_ok-pages.number opened.0 opened.2 in
    record {
      root = opened.0;
      logged = replayed.logged;
      extent = rest;
      log = replayed.at_rest tells;
      restored_is = restored_over c.in_ok-first.first c.in_ok-pages.number replayed.logged c.replay_log.new.replay.restored opened.0 restored
          (c.in_ok-first.ensures ∙ first_is c.in_ok-pages.image c.in_ok-pages.number opened.0 opened.2) number;
      counted = c.root_of-root.ensures new opened.0 rest number;
    }

pub returns-clause-records : goal.returns-clause-records
returns-clause-records g c =
    let replayed = c.in_ok-log.ensures.replayed in
    let started = c.start_restoring-restoring.ensures in
    record {
      first = c.in_ok-first.first;
      root = c.in_ok-pages.number;
      logged = replayed.logged;
      unchanged = image_unchanged c.in_ok-pages.image c.in_ok-first.first c.in_ok-first.ensures c.in_ok-pages.ensures.unchanged;
      read = replayed.read;
      restored_is = all_restored c.start_restoring-restoring.result c.replay_log.new.replay (λ t. t.root) (λ t. t.restored) replayed.logged
          c.in_ok-first.first c.in_ok-pages.number replayed.taken started.root started.image started.number started.misfit;
    }

pub returns-clause-same : goal.returns-clause-same
returns-clause-same g c tells =
    let mid = g.D.Disk.past c.open_pages.new.disk in
    let new = g.D.Disk.past c.replay_log.new.disk in
    let old = g.D.Disk.past c.args.disk.now in
    same_then old mid new (pages_same old mid c.open_pages.result (c.open_pages.ensures.past tells))
    (log_same mid new (c.replay_log.ensures.each_image tells) (c.replay_log.ensures.extent tells)
    (c.replay_log.ensures.kept tells) (c.replay_log.ensures.short tells))

pub returns-clause-any_moment : goal.returns-clause-any_moment
returns-clause-any_moment g c image number tells all =
    let old = g.D.Disk.past c.args.disk.now in
    let mid = g.D.Disk.past c.open_pages.new.disk in
    let new = g.D.Disk.past c.replay_log.new.disk in
    and_then old mid new (FilesStandFor image number)
    (pages_leave old image number all c.open_pages.result mid (c.open_pages.ensures.past tells))
    (log_leaves mid new (c.replay_log.ensures.each_image tells) (c.replay_log.ensures.extent tells) image number
    (all_synced old image number all mid (c.in_ok-pages.ensures.past tells)))

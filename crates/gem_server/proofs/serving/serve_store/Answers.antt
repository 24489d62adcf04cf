use Rattle.std.proofs.Common.{refl, ap}
use Rattle.gem_server.proofs.Courses.{store_unread, store_refused, store_served}
use Rattle.gem_server.proofs.serving.serve_store.Goals as goal

pub returns-in-Err : goal.returns-in-Err
returns-in-Err g c =
    store_unread g.D.Disk.tells _ _ _ c.in-Err.status _ _ _ c.in-Err.ensures.err c.blank.ensures.status c.blank.ensures.blank (record { same = refl; quiet = refl })
    (ap g.D.Disk.past c.blank.ensures.disk)

pub returns-in-Err-open_for : goal.returns-in-Err-open_for
returns-in-Err-open_for g c =
    store_refused g.D.Disk.tells g.D.Disk.past g.D.Disk.faults c.args.disk c.in-Ok.script _ _ c.in-Err-open_for.refused c.unserved.result
    c.in-Ok.ensures.ok c.in-Err-open_for.ensures.err c.unserved.ensures.status c.unserved.ensures.disk c.unserved.ensures.blank (record { same = refl; quiet = refl })

pub returns : goal.returns
returns g c =
    store_served g.D.Disk.tells g.D.Disk.past g.D.Disk.faults c.args.disk c.in-Ok.script _ _ c.in-Ok-open_for.start c.run_script-ran.result c.finish.result
    c.in-Ok.ensures.ok c.in-Ok-open_for.ensures.ok c.run_script-ran.ensures c.finish.ensures.finished c.finish.ensures.stored

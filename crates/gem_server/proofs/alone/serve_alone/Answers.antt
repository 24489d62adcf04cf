use Rattle.std.proofs.Common.{refl}
use Rattle.gem_server.proofs.Completes.{alone_unread, alone_told}
use Rattle.gem_server.proofs.alone.serve_alone.Goals as goal

pub returns-in-Err-clause-serves : goal.returns-in-Err-clause-serves
returns-in-Err-clause-serves g c =
    alone_unread _ _ c.in-Err.status _ _ _ c.in-Err.ensures.err c.blank.ensures.status c.blank.ensures.blank (record { same = refl; quiet = refl })

pub returns-clause-serves : goal.returns-clause-serves
returns-clause-serves g c =
    alone_told _ _ c.in-Ok.script _ _ _ c.in-Ok.ensures.ok c.in-Ok-serve_script.ensures.run
    (rw (c.deref.ensures.value, c.in-Ok-serve_script.ensures.report) at c.write_out.ensures)

use Rattle.gem_server.proofs.Looks.{wrote_or_not}
use Rattle.gem_server.proofs.looking.write_line.Goals as goal

pub returns-in-Ok : goal.returns-in-Ok
returns-in-Ok g c =
    wrote_or_not _ _ c.write_out.result
    (rw (c.as_bytes.ensures.value, c.in-Ok.ensures, c.count.ensures.count) at c.write_out.ensures)

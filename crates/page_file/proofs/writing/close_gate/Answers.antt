use Rattle.page_file.proofs.Bringing.{none_still}
use Rattle.page_file.proofs.writing.close_gate.Goals as goal

pub returns-in_err-length-clause-any_moment : goal.returns-in_err-length-clause-any_moment
returns-in_err-length-clause-any_moment g c tells durable none =
    none_still (g.D.Disk.past c.args.disk.now) (g.D.Disk.past c.length.new.self) (c.in_err-length.ensures.past tells) durable none

pub returns-clause-any_moment : goal.returns-clause-any_moment
returns-clause-any_moment g c tells durable none =
    none_still (g.D.Disk.past c.args.disk.now) (g.D.Disk.past c.length.new.self) (c.in_ok-length.ensures.past tells) durable none

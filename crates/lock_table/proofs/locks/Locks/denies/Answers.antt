use Rattle.std.proofs.Common.{sym}
use Rattle.lock_table.proofs.Request.{denied_for-found}
use Rattle.lock_table.proofs.locks.Locks.denies.Goals as goal

pub returns : goal.returns
returns c =
    sym (denied_for-found c.self.inside.held.entries c.args.self.now c.self.view_is c.args.session c.args.oid c.args.kind c.first_in_the_way.ensures.ordered _ c.first_in_the_way.ensures.first)

use Rattle.std.proofs.Common.{ap, ◌∙◌}
use Rattle.lock_table.proofs.Scan.{scan, scan-between}
use Rattle.lock_table.proofs.search.first_in_the_way.Goals as goal

pub loop-holding-init : goal.loop-holding-init
loop-holding-init c =
    ap (scan c.args.session c.args.oid c.args.kind) (c.into_iter-holding-iterator.ensures.into_iter_gives ∙ c.range-holding-items.ensures.between tt)
    ∙ scan-between c.args.session c.args.oid c.args.kind c.args.locks.now.entries c.range-holding-items.ensures.ordered

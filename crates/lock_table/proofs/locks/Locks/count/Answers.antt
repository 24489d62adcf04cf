use Rattle.std.proofs.Common.{sym, ap, ◌∙◌}
use Rattle.std.specs.FinMap.{len}
use Rattle.lock_table.proofs.Counts.{count_entries}
use Rattle.lock_table.proofs.locks.Locks.count.Goals as goal

pub returns : goal.returns
returns c =
    c.len.ensures.len ∙ sym (count_entries c.self.inside.held.entries c.len.ensures.ordered) ∙ ap len c.self.view_is

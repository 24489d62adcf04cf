use Rattle.radix_pages.proofs.Root.{count_bound}
use Rattle.radix_pages.proofs.pages.Pages.count.Goals as goal

pub returns-clause-bound : goal.returns-clause-bound
returns-clause-bound g c = count_bound g.row.BITS g.row.LEVELS c.self.inside.root c.self.inside.count c.self.invariant

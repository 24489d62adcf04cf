use Rattle.std.proofs.Common.{sym}
use Rattle.radix_pages.proofs.Root.{none_in_empty}
use Rattle.radix_pages.proofs.pages.Pages.leaf.Goals as goal

pub returns-in-Empty : goal.returns-in-Empty
returns-in-Empty g c = sym (none_in_empty c.self.inside.root c.args.self.now c.args.key c.in-Empty.is c.self.view_is)

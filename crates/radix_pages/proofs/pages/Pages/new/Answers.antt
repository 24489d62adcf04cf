use Rattle.radix_pages.proofs.Root.{new_root}
use Rattle.radix_pages.proofs.pages.Pages.new.Goals as goal

pub invariant_of-result : goal.invariant_of-result
invariant_of-result g c =
    new_root g.row.BITS g.row.LEVELS c.requires.some_bits c.requires.few_bits c.requires.some_levels c.requires.in_range

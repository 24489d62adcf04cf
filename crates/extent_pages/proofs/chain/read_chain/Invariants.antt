use Rattle.std.proofs.Common.{◌≡◌, ◌*◌, length, IsTrue, ◌-◌}
use Rattle.extent_pages.specs.Pages.{most_pages, payload_size}
use Rattle.extent_pages.proofs.Chains.{ChainRuns}
use Rattle.extent_pages.proofs.chain.read_chain.Given as goal

abbrev pub invariant-loop : goal.invariant-loop
invariant-loop g l = (length l.payload.items ≡ payload_size * length l.pages.items)
    × ChainRuns (IsTrue g.D.Disk.tells) (g.D.Disk.past l.fn.disk) (g.D.Disk.past l.disk)
    (g.D.Disk.faults l.fn.disk) (g.D.Disk.faults l.disk) l.fn.marks.items l.marks.items l.first
    l.pages.items l.payload.items l.page (most_pages - l.counter)

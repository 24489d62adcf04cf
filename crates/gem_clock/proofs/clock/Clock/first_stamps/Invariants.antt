use Rattle.std.proofs.Common.{◌≡◌, ◌+◌, ◌-◌, []}
use Rattle.std.specs.List.{range_with_len}
use Rattle.gem_clock.specs.Shown.{AreFirst}
use Rattle.gem_clock.proofs.clock.Clock.first_stamps.Given as goal

-- the pen holds the authors from the next one on, and the others have their stamps
abbrev pub invariant-loop-index : goal.invariant-loop-index
invariant-loop-index g l = record {
  clock : l.pen.clock ≡ l.self;
  held : l.pen.held ≡ range_with_len (l.index + 1) (l.authors - l.index);
  list : l.pen.list ≡ [];
  stamps : AreFirst l.self l.index l.stamps.items;
}

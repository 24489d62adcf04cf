use Rattle.std.proofs.Common.{◌≡◌, length, map}
use Rattle.std.specs.Ordering.{nat_cmp}
use Rattle.std.specs.Cmp.Lexicographic.{slice_cmp}
use Rattle.object_programs.specs.Spelled.{ascends_after, texts_ascend}
use Rattle.object_guard.proofs.spelled.ascend.Given as goal

-- what is left ascends after the last one exactly where all ascend
abbrev pub invariant-loop-next : goal.invariant-loop-next
invariant-loop-next g l = ascends_after (slice_cmp nat_cmp) (g.T.Named.text l.last) (map g.T.Named.text l.rest)
    ≡ texts_ascend (map g.T.Named.text l.items)

abbrev pub decreases-loop-next : goal.decreases-loop-next
decreases-loop-next g l = length l.rest

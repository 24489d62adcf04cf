use Rattle.std.proofs.Common.{◌≡◌, [], length, map}
use Rattle.gem_meaning.specs.Effect.{stamped}
use Rattle.stone_core.proofs.ByName.{put_on}
use Rattle.stone_core.proofs.effect.stamp_all.Given as goal

-- what is left, put on what is there, is all put on nothing
abbrev pub invariant-loop-entry : goal.invariant-loop-entry
invariant-loop-entry l = put_on (map (stamped l.number) l.changed.items) l.objects.entries
    ≡ put_on (map (stamped l.number) l.fn.changed.items) []

abbrev pub decreases-loop-entry : goal.decreases-loop-entry
decreases-loop-entry l = length l.changed.items

use Rattle.std.proofs.Common.{◌<◌, ◌^◌, take}
use Rattle.std.specs.List.{AllByRecursion}
use Rattle.gem_record.specs.gem_update.Spelling.{entries_of}
use Rattle.stone_core.proofs.effect.fit.Given as goal

-- the objects so far can be stored
abbrev pub invariant-loop-entry : goal.invariant-loop-entry
invariant-loop-entry l =
    AllByRecursion (λ entry. entries_of entry.1.body < 2 ^ 32) (take l.entry-index l.merged)

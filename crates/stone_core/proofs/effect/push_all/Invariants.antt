use Rattle.std.proofs.Common.{◌≡◌, ◌++◌, take}
use Rattle.stone_core.proofs.effect.push_all.Given as goal

-- the objects so far are added
abbrev pub invariant-loop-entry : goal.invariant-loop-entry
invariant-loop-entry l =
    l.changed.items ≡ l.initial.changed.items ++ take l.entry-index l.objects

use Rattle.std.proofs.Common.{◌≡◌, ◌++◌, take}
use Rattle.stone_core.specs.Effects.{found_in}
use Rattle.stone_core.proofs.effect.push_found.Given as goal

-- the objects of the names so far are added
abbrev pub invariant-loop-name : goal.invariant-loop-name
invariant-loop-name l =
    l.changed.items ≡ l.initial.changed.items ++ found_in l.objects (take l.name-index l.names)

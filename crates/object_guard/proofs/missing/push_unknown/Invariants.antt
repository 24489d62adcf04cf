use Rattle.std.proofs.Common.{◌≡◌, ◌++◌, take}
use Rattle.object_guard.specs.Missing.{missing_of}
use Rattle.object_guard.proofs.missing.push_unknown.Given as goal

-- those of the names before this one at which no object is are added
abbrev pub invariant-loop-name : goal.invariant-loop-name
invariant-loop-name g l = l.missing.items
    ≡ l.initial.missing.items ++ missing_of (g.S.Sees.parts l.state) (take l.name-index l.names)

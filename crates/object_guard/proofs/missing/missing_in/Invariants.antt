use Rattle.std.proofs.Common.{◌≡◌, take}
use Rattle.std.specs.List.{flat_map}
use Rattle.object_guard.proofs.Lines.{missing_for}
use Rattle.object_guard.proofs.missing.missing_in.Given as goal

-- the names so far are those that the objects before this one ask for
abbrev pub invariant-loop-object : goal.invariant-loop-object
invariant-loop-object g l = l.missing.items
    ≡ flat_map (missing_for (g.S.Sees.parts l.state)) (take l.object-index l.objects)

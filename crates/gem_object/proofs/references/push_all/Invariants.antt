use Rattle.std.proofs.Common.{◌≡◌, ◌++◌, take}
use Rattle.std.specs.List.{flat_map}
use Rattle.gem_object.proofs.references.push_all.Given as goal

-- what the items before this one refer to is added
abbrev pub invariant-loop-item : goal.invariant-loop-item
invariant-loop-item g l = l.list.items
    ≡ l.initial.list.items ++ flat_map g.T.Refers.names (take l.item-index l.items)

use Rattle.std.proofs.Common.{◌≡◌, ◌++◌, take}
use Rattle.std.specs.List.{flat_map}
use Rattle.body_codec.proofs.items.put_all.Given as goal

-- the items before this one are added
abbrev pub invariant-loop-item : goal.invariant-loop-item
invariant-loop-item g l = l.out.items
    ≡ l.initial.out.items ++ flat_map g.T.Spell.spelled (take l.item-index l.items)

use Rattle.std.proofs.Common.{◌≡◌, take}
use Rattle.plain_state.specs.Lists.{all_chosen}
use Rattle.plain_state.proofs.lists.choose.Given as goal

-- what was chosen of the names before this one
abbrev pub invariant-loop-oid : goal.invariant-loop-oid
invariant-loop-oid l = l.objects.items ≡ all_chosen l.made l.parts.seen (take l.oid-index l.names)

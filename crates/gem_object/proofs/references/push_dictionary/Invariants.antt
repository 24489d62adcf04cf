use Rattle.std.proofs.Common.{◌≡◌, ◌++◌, take}
use Rattle.gem_object.specs.References.{names_in_pairs}
use Rattle.gem_object.proofs.references.push_dictionary.Given as goal

-- what the pairs before this place refer to is added
abbrev pub invariant-loop-at : goal.invariant-loop-at
invariant-loop-at l = l.list.items
    ≡ l.initial.list.items ++ names_in_pairs (take l.at l.pairs)

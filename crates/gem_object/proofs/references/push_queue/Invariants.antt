use Rattle.std.proofs.Common.{◌≡◌, ◌++◌, take}
use Rattle.std.specs.List.{flat_map}
use Rattle.std.specs.Option.{option_to_list}
use Rattle.gem_object.specs.References.{reference_of}
use Rattle.gem_object.proofs.references.push_queue.Given as goal

-- what the items before this place refer to is added
abbrev pub invariant-loop-at : goal.invariant-loop-at
invariant-loop-at l = l.list.items ≡ l.initial.list.items
    ++ flat_map (λ value. option_to_list (reference_of value)) (take l.at l.queue.items)

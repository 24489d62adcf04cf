use Rattle.std.proofs.Common.{◌≡◌, ◌^◌, ◌-◌, min, take}
use Rattle.std.specs.List.{sum_by}
use Rattle.gem_object.specs.declared.object.Object.{Object}
use Rattle.object_programs.specs.Budget.{object_cost}
use Rattle.object_guard.proofs.limits.objects_cost.Given as goal

-- the cost so far is that of the objects before this one
abbrev pub invariant-loop-object : goal.invariant-loop-object
invariant-loop-object l =
    l.cost ≡ min (sum_by (λ (object : Object). object_cost object.body) (take l.object-index l.objects)) (2 ^ 64 - 1)

use Rattle.std.proofs.Common.{◌≡◌, ◌^◌, ◌-◌, min, take}
use Rattle.std.specs.List.{sum_by}
use Rattle.gem_record.specs.Effects.{changed_size}
use Rattle.gem_record.proofs.effect.total_size.Given as goal

-- the sum so far is that of the objects before this one
abbrev pub invariant-loop-object : goal.invariant-loop-object
invariant-loop-object l =
    l.sum ≡ min (sum_by changed_size (take l.object-index l.objects)) (2 ^ 64 - 1)

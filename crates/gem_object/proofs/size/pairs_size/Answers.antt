use Rattle.std.proofs.Common.{◌≡◌, ◌+◌, Some, take, arith}
use Rattle.std.specs.List.{sum_by, slice_get}
use Rattle.std.proofs.lemmas.Option.{slice_get_cases}
use Rattle.gem_object.specs.Sizes.{pair_size}
use Rattle.gem_object.specs.declared.value.Value.{Value}
use Rattle.gem_object.proofs.Sums.{next_sum}
use Rattle.gem_object.proofs.size.pairs_size.Goals as goal
use Rattle.gem_object.proofs.size.pairs_size.Goals.{in-Some, in_default}

pub loop-at-preserved : goal.loop-at-preserved
loop-at-preserved c = elim c.match-pair.branch [
  | in-Some w ↦
      let pairs = c.args.pairs.now in
      let pair : Value × Value = (w.in-Some.key.now, w.in-Some.value.now) in
      let here : slice_get pairs c.loop-at.at ≡ Some pair = grind arith in
      let next : sum_by pair_size (take (c.loop-at.at + 1) pairs)
      ≡ sum_by pair_size (take c.loop-at.at pairs) + pair_size pair
      = next_sum pair_size pairs c.loop-at.at pair here in
      grind arith
  | in_default w ↦ grind (arith, slice_get_cases)
]

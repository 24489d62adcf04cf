use Rattle.std.proofs.Common.{◌≡◌, ◌+◌, Some, take, arith}
use Rattle.std.specs.List.{sum_by, slice_get}
use Rattle.std.proofs.lemmas.Option.{slice_get_cases}
use Rattle.gem_object.specs.Sizes.{value_size}
use Rattle.gem_object.proofs.Sums.{next_sum}
use Rattle.gem_object.proofs.size.queue_size.Goals as goal
use Rattle.gem_object.proofs.size.queue_size.Goals.{in-Some, in_default}

pub loop-at-preserved : goal.loop-at-preserved
loop-at-preserved c = elim c.match-item.branch [
  | in-Some w ↦
      let items = c.args.queue.now.items in
      let item = w.in-Some.item.now in
      let here : slice_get items c.loop-at.at ≡ Some item = grind arith in
      let next : sum_by value_size (take (c.loop-at.at + 1) items)
      ≡ sum_by value_size (take c.loop-at.at items) + value_size item
      = next_sum value_size items c.loop-at.at item here in
      grind arith
  | in_default w ↦ grind (arith, slice_get_cases)
]

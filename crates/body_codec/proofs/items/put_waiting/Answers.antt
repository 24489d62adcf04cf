use Rattle.std.proofs.Common.{◌≡◌, ◌++◌, Some, arith}
use Rattle.std.specs.List.{slice_get}
use Rattle.std.proofs.lemmas.Option.{slice_get_cases}
use Rattle.gem_object.proofs.Joined.{found_added}
use Rattle.body_codec.specs.Spelled.{spelled_value}
use Rattle.body_codec.proofs.items.put_waiting.Goals as goal
use Rattle.body_codec.proofs.items.put_waiting.Goals.{in-Some+in_ok-put_value, in_default}

pub loop-at-preserved : goal.loop-at-preserved
loop-at-preserved c = elim c.match-item.branch [
  | in-Some+in_ok-put_value w ↦
      let items = c.args.queue.now.items in
      let item = w.in-Some.item.now in
      let here : slice_get items c.loop-at.at ≡ Some item = grind arith in
      let added : c.match-item.out.items ≡ c.loop-at.out.items ++ spelled_value item = grind arith in
      found_added spelled_value items c.loop-at.at item _ _ _ here c.loop-at.invariant added
  | in_default w ↦ grind (arith, slice_get_cases)
]

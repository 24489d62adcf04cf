use Rattle.std.proofs.Common.{◌≡◌, ◌++◌, Some, length, refl, arith}
use Rattle.std.specs.List.{slice_get}
use Rattle.std.specs.Option.{option_to_list}
use Rattle.std.proofs.lemmas.Option.{slice_get_cases}
use Rattle.gem_object.specs.References.{reference_of}
use Rattle.gem_object.proofs.Joined.{found_added, all_added, given_after}
use Rattle.gem_object.proofs.references.push_queue.Goals as goal
use Rattle.gem_object.proofs.references.push_queue.Goals.{in-Some+in_ok-push_reference, in_default}

pub loop-at-preserved : goal.loop-at-preserved
loop-at-preserved c = elim c.match-item.branch [
  | in-Some+in_ok-push_reference w ↦
      let items = c.args.queue.now.items in
      let item = w.in-Some.item.now in
      let here : slice_get items c.loop-at.at ≡ Some item = grind arith in
      let added : c.match-item.list.items
      ≡ c.loop-at.list.items ++ option_to_list (reference_of item)
      = grind arith in
      found_added (λ value. option_to_list (reference_of value)) items c.loop-at.at item _ _ _
      here c.loop-at.invariant added
  | in_default w ↦ grind (arith, slice_get_cases)
]

pub returns : goal.returns
returns c =
    let items = c.args.queue.now.items in
    let over : c.loop-at.at ≡ length items = omega arith in
    given_after reference_of items items _ _ refl
    (all_added (λ value. option_to_list (reference_of value)) items c.loop-at.at _ _ over c.loop-at.invariant)

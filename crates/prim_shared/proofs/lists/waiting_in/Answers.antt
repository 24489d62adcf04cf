use Rattle.std.proofs.Common.{◌≡◌, ◌++◌, [], ◌∷◌, Some, sym, ap, ◌∙◌, arith, take}
use Rattle.std.specs.List.{slice_get}
use Rattle.std.proofs.lemmas.List.{take_more}
use Rattle.std.proofs.lemmas.Option.{slice_get_cases, slice_get_within, get_or_from_slice_get}
use Rattle.prim_shared.proofs.lists.waiting_in.Goals as goal
use Rattle.prim_shared.proofs.lists.waiting_in.Goals.{in-Some+in_ok-clone+in_ok-push, in_default}

pub loop-at-preserved : goal.loop-at-preserved
loop-at-preserved c = elim c.match-item.branch [
  | in-Some+in_ok-clone+in_ok-push w ↦
      let items = c.args.queue.now.items in
      let item = w.in-Some.item.now in
      let here : slice_get items c.loop-at.at ≡ Some item = grind arith in
      let added : c.match-item.values.items ≡ c.loop-at.values.items ++ item ∷ [] = grind arith in
      added ∙ ap (λ list. list ++ item ∷ []) c.loop-at.invariant
      ∙ sym (take_more items c.loop-at.at item (slice_get_within items c.loop-at.at item here)
      ∙ ap (λ one. take c.loop-at.at items ++ one ∷ []) (get_or_from_slice_get items c.loop-at.at item item here))
  | in_default w ↦ grind (arith, slice_get_cases)
]

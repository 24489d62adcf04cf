use Rattle.std.proofs.Common.{◌≡◌, [], ◌∷◌, ◌++◌, Some, arith}
use Rattle.std.specs.List.{slice_get}
use Rattle.std.proofs.lemmas.Option.{slice_get_cases}
use Rattle.gem_object.specs.declared.value.Value.{Value}
use Rattle.prim_collections.proofs.Added.{map_added}
use Rattle.prim_collections.proofs.lists.values_of.Goals as goal
use Rattle.prim_collections.proofs.lists.values_of.Goals.{in-Some+in_ok-clone+in_ok-push, in_default}

pub loop-at-preserved : goal.loop-at-preserved
loop-at-preserved c = elim c.match-pair.branch [
  | in-Some+in_ok-clone+in_ok-push w ↦
      let pairs = c.args.pairs.now in
      let pair : Value × Value = (w.in-Some.field-0-0.now, w.in-Some.value.now) in
      let found : slice_get pairs c.loop-at.at ≡ Some pair = grind arith in
      let added : c.match-pair.values.items ≡ c.loop-at.values.items ++ pair.1 ∷ [] = grind arith in
      map_added (λ (one : Value × Value). one.1) pairs c.loop-at.at pair _ _ found c.loop-at.invariant added
  | in_default w ↦ grind (arith, slice_get_cases)
]

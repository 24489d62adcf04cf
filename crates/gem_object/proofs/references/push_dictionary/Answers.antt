use Rattle.std.proofs.Common.{◌≡◌, [], ◌∷◌, ◌++◌, Some, arith}
use Rattle.std.specs.List.{slice_get}
use Rattle.std.proofs.lemmas.Option.{slice_get_cases}
use Rattle.gem_object.specs.References.{names_in}
use Rattle.gem_object.specs.declared.value.Value.{Value}
use Rattle.gem_object.proofs.Joined.{found_added}
use Rattle.gem_object.proofs.references.push_dictionary.Goals as goal
use Rattle.gem_object.proofs.references.push_dictionary.Goals.{in-Some+in_ok-push_pair, in_default}

pub loop-at-preserved : goal.loop-at-preserved
loop-at-preserved c = elim c.match-pair.branch [
  | in-Some+in_ok-push_pair w ↦
      let pairs = c.args.pairs.now in
      let pair : Value × Value = (w.in-Some.key.now, w.in-Some.value.now) in
      let here : slice_get pairs c.loop-at.at ≡ Some pair = grind arith in
      let added : c.match-pair.list.items
      ≡ c.loop-at.list.items ++ names_in (pair.0 ∷ pair.1 ∷ [])
      = grind arith in
      found_added (λ p. names_in (p.0 ∷ p.1 ∷ [])) pairs c.loop-at.at pair _ _ _ here
      c.loop-at.invariant added
  | in_default w ↦ grind (arith, slice_get_cases)
]

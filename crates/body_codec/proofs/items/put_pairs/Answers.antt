use Rattle.std.proofs.Common.{◌≡◌, ◌++◌, Some, arith}
use Rattle.std.specs.List.{slice_get}
use Rattle.std.proofs.lemmas.Option.{slice_get_cases}
use Rattle.gem_object.specs.declared.value.Value.{Value}
use Rattle.gem_object.proofs.Joined.{found_added}
use Rattle.body_codec.specs.Spelled.{spelled_pair}
use Rattle.body_codec.proofs.items.put_pairs.Goals as goal
use Rattle.body_codec.proofs.items.put_pairs.Goals.{in-Some+in_ok-put_pair, in_default}

pub loop-at-preserved : goal.loop-at-preserved
loop-at-preserved c = elim c.match-pair.branch [
  | in-Some+in_ok-put_pair w ↦
      let pairs = c.args.pairs.now in
      let pair : Value × Value = (w.in-Some.key.now, w.in-Some.value.now) in
      let here : slice_get pairs c.loop-at.at ≡ Some pair = grind arith in
      let added : c.match-pair.out.items ≡ c.loop-at.out.items ++ spelled_pair pair = grind arith in
      found_added spelled_pair pairs c.loop-at.at pair _ _ _ here c.loop-at.invariant added
  | in_default w ↦ grind (arith, slice_get_cases)
]

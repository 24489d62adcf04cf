use Rattle.std.proofs.Common.{◌≡◌, ◌∷◌, ◌++◌, [], sym, subst, List, arith}
use Rattle.extent_plan.specs.declared.place.LeafPlace.{LeafPlace}
use Rattle.page_file.proofs.Taking.{Taking, one_taken, front_leaves}
use Rattle.page_file.proofs.opening.take_leaves.Goals as goal

pub loop-leaf-preserved : goal.loop-leaf-preserved
loop-leaf-preserved g c =
    let was : c.loop-leaf.leaves.items ≡ c.pop.new.self.items ++ c.in-Some.leaf ∷ [] = grind arith in (
      subst (λ (l : List LeafPlace). Taking c.args.leaves.items c.pop.new.self.items c.take_leaf.new.image l) (sym c.in_ok-push.ensures.items)
          (one_taken c.args.leaves.items c.loop-leaf.leaves.items c.pop.new.self.items c.in-Some.leaf c.loop-leaf.image c.take_leaf.new.image c.loop-leaf.places.items c.in_ok-place.place
          c.loop-leaf.invariant.0 was c.in_ok-place.ensures.image c.in_ok-place.ensures.place),
      front_leaves c.loop-leaf.leaves.items c.pop.new.self.items c.in-Some.leaf was c.loop-leaf.invariant.1,
    )

use Rattle.std.proofs.Common.{◌≡◌, ◌++◌, [], ◌∷◌, false, length, refl, ap, ◌∙◌, arith}
use Rattle.std.proofs.lemmas.List.{length-replicate}
use Rattle.kept_set.proofs.Marks.{no_marks}
use Rattle.kept_set.proofs.Steps.{begins, followed}
use Rattle.kept_set.proofs.reach.reached.Goals as goal

pub loop-name-init : goal.loop-name-init
loop-name-init c =
    let all = c.in_ok-seen.ensures.items_if_clones_equal (λ y h. h) in
    record {
      marks = ap length all ∙ length-replicate (length c.args.made.now) false;
      on = begins c.args.pile.items c.args.made.now _ (no_marks c.args.made.now (length c.args.made.now) _ refl all);
    }

pub loop-name-preserved : goal.loop-name-preserved
loop-name-preserved c =
    let was : c.loop-name.pile.items ≡ c.pop.new.self.items ++ c.in-Some.name ∷ [] = grind arith in
    record {
      marks = c.follow.ensures.marks;
      on = followed c.args.pile.items c.args.made.now c.in-Some.name c.loop-name.pile.items c.pop.new.self.items _ was _ _ c.loop-name.invariant.on c.in_ok-follow.ensures.followed;
    }

use Rattle.std.proofs.Common.{ℕ, sym, subst}
use Rattle.gem_image.specs.Image.{objects_in}
use Rattle.image_check.specs.Chains.{IsCount, AreSteps, AreCounts}
use Rattle.image_check.proofs.Counts.{steps_less, count_below, counts_more}
use Rattle.image_check.proofs.chains.count_names.Goals as goal

pub loop-step-preserved : goal.loop-step-preserved
loop-step-preserved c =
    let objects = objects_in c.args.image.now in
    let climb = c.loop-step.invariant.climb in
    let step = c.in-Some-pop.step in
    let parts = steps_less objects c.pop.new.self.items step c.args.name climb.top
    (subst (λ items. AreSteps objects items c.args.name climb.top) c.in-Some-pop.ensures.items climb.steps_are) in
    let made = count_below objects step climb.top c.loop-step.count c.saturating_add-count.result parts.1 climb.count_is
    c.saturating_add-count.ensures in
    let named = subst (λ (n : ℕ). IsCount objects n c.saturating_add-count.result) (sym c.number.ensures.number) made in
    record {
      climb = record { top = step.class; steps_are = parts.0; count_is = made };
      kept = subst (AreCounts objects) (sym c.in_ok-insert.ensures.entries)
          (counts_more objects c.number.result c.saturating_add-count.result named c.loop-step.counts.entries c.loop-step.invariant.kept);
    }

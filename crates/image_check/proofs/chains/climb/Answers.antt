use Rattle.std.proofs.Common.{arith}
use Rattle.gem_image.specs.Image.{objects_in}
use Rattle.image_check.proofs.Counts.{endless_below, step_taken}
use Rattle.image_check.proofs.Circles.{circle}
use Rattle.image_check.proofs.chains.climb.Goals as goal

pub returns-in-Nothing-clause-none : goal.returns-in-Nothing-clause-none
returns-in-Nothing-clause-none c =
    endless_below (objects_in c.args.image.now) c.loop-turn.steps.items c.args.name c.loop-turn.class c.loop-turn.invariant.steps c.in-Nothing.ensures

pub loop-turn-preserved : goal.loop-turn-preserved
loop-turn-preserved c =
    let taken = step_taken (objects_in c.args.image.now) c.loop-turn.steps.items c.push.new.self.items _ c.args.name c.in-Above.superclass
    c.loop-turn._turn c.in_ok-push-in-Above.ensures.items c.loop-turn.invariant.count c.loop-turn.invariant.steps c.in-Above.ensures in
    record { count = taken.0; steps = taken.1 }

pub returns-clause-none : goal.returns-clause-none
returns-clause-none c =
    let count = c.loop-turn.invariant.count in
    let all = c.loop-turn-test.false in
    let objects = c.count-objects.ensures.count in
    circle c.args.image.now c.loop-turn.steps.items c.args.name c.loop-turn.class c.loop-turn.invariant.steps
    (omega (arith, count, all, objects))

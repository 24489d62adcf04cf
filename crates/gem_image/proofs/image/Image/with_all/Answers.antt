use Rattle.std.proofs.Common.{ap, length, arith}
use Rattle.gem_image.proofs.Puts.{one_more}
use Rattle.gem_image.proofs.image.Image.with_all.Goals as goal

pub loop-oid-preserved : goal.loop-oid-preserved
loop-oid-preserved g c =
    let at = c.loop-oid in
    let steps = c.in-Some.ensures.steps.0 in
    let gone = c.in-Some.ensures.steps.1 in
    let short = ap length steps in
    let was = at.invariant.0 in (
      omega arith,
      one_more _ _ _ at.changed _ at.steps c.in-Some.oid c.in-Some.object _ _ c.insert.new.steps
          at.invariant.1 steps c.in_ok-insert.ensures.ok c.in_ok-insert.ensures.nodes,
    )

use Rattle.std.proofs.Common.{◌≡◌, ◌<◌, length, arith}
use Rattle.kept_set.proofs.Marks.{next_marked, marked_end}
use Rattle.kept_set.proofs.reach.names_seen.Goals as goal

pub loop-at-preserved : goal.loop-at-preserved
loop-at-preserved c =
    let within : c.loop-at.at < length c.args.made.now = omega arith in
    let in_marks : c.loop-at.at < length c.args.seen.now = omega (arith, c.requires) in
    next_marked c.args.made.now c.args.seen.now c.loop-at.at c.index-made-at.result _ _ _ within in_marks c.index-made-at.is c.in_ok-push_seen.ensures c.loop-at.invariant

pub returns : goal.returns
returns c =
    let over : c.loop-at.at ≡ length c.args.made.now = omega arith in
    marked_end c.args.made.now c.args.seen.now c.loop-at.at _ over c.loop-at.invariant

use Rattle.std.proofs.Common.{◌∙◌, sym}
use Rattle.object_guard.specs.Known.{is_known_pair}
use Rattle.object_guard.proofs.Walks.{one_holds, one_fails}
use Rattle.object_guard.proofs.known.are_pairs_known.Goals as goal

pub returns-then-not-knows_pair : goal.returns-then-not-knows_pair
returns-then-not-knows_pair g c = one_fails (is_known_pair (g.S.Sees.parts c.args.state.now)) c.args.pairs.now c.loop-at.at (c.in-Some.pair.0.now, c.in-Some.pair.1.now) (sym c.in-Some.ensures)
    (sym c.knows_pair.ensures ∙ c.if-not-knows_pair.true)

pub loop-at-preserved : goal.loop-at-preserved
loop-at-preserved g c = one_holds (is_known_pair (g.S.Sees.parts c.args.state.now)) c.args.pairs.now c.loop-at.at (c.in-Some.pair.0.now, c.in-Some.pair.1.now) (sym c.in-Some.ensures)
    c.loop-at.invariant (sym c.knows_pair.ensures ∙ c.if-not-knows_pair.false)

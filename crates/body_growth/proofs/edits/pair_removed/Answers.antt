use Rattle.body_growth.proofs.Changes.{unchanged, pair_not_there, pair_away}
use Rattle.body_growth.proofs.edits.pair_removed.Goals as goal

pub returns-in_default : goal.returns-in_default
returns-in_default c = unchanged c.none.ensures (pair_not_there c.args.key.now c.args.body.now c.in_default.ensures)

pub returns : goal.returns
returns c = pair_away c.args.key.now c.args.body.now c.in-Some.old.now c.pair_bytes.result c.in-Some.ensures c.pair_bytes.ensures

use Rattle.body_growth.proofs.Told.{key_gone, key_missing}
use Rattle.body_growth.proofs.updates.key_removed.Goals as goal

pub returns-in_default : goal.returns-in_default
returns-in_default c = rw (← c.pairs-pairs.ensures.pairs)
    (key_missing c.args.key.now c.pairs-pairs.result.now c.in_default.field-0 c.in_default.ensures.fits)

pub returns : goal.returns
returns c = rw (← c.pairs-pairs.ensures.pairs)
    (key_gone c.args.key.now c.pairs-pairs.result.now c.in-Ok.at c.index-pairs-at.result c.pair_bytes.result
    c.in-Ok.ensures.stands c.in-Ok.ensures.in_range c.index-pairs-at.is c.pair_bytes.ensures)

use Rattle.body_growth.proofs.Told.{key_new, key_set}
use Rattle.body_growth.proofs.updates.key_put.Goals as goal

pub returns-in-Ok : goal.returns-in-Ok
returns-in-Ok c = rw (← c.pairs-pairs.ensures.pairs)
    (key_set c.args.key.now c.pairs-pairs.result.now c.in-Ok.at c.args.value.now c.index-pairs-at.result c.pair_bytes.result
    c.pair_bytes-in-Ok.result c.in-Ok.ensures.stands c.in-Ok.ensures.in_range c.index-pairs-at.is c.pair_bytes.ensures
    c.pair_bytes-in-Ok.ensures)

pub returns-in-Err : goal.returns-in-Err
returns-in-Err c = rw (← c.pairs-pairs.ensures.pairs)
    (key_new c.args.key.now c.pairs-pairs.result.now c.in-Err.field-0 c.args.value.now c.pair_bytes-in-Err.result
    c.in-Err.ensures.fits c.in-Err.ensures.in_range c.pair_bytes-in-Err.ensures)

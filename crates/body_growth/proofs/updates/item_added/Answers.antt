use Rattle.body_growth.proofs.Told.{item_new, item_more, occurs}
use Rattle.body_growth.proofs.updates.item_added.Goals as goal

pub step-requires : goal.step-requires
step-requires c = occurs c.pairs-pairs.result.now c.in-Ok.at c.index-pairs-at.result
    (rw c.pairs-pairs.ensures.pairs c.pairs-pairs.ensures.bag.occur) c.in-Ok.ensures.in_range c.index-pairs-at.is

pub returns-in-Ok : goal.returns-in-Ok
returns-in-Ok c = rw (← c.pairs-pairs.ensures.pairs)
    (item_more c.args.item.now c.pairs-pairs.result.now c.in-Ok.at c.index-pairs-at.result c.step.result c.in-Ok.ensures.stands
    c.in-Ok.ensures.in_range c.index-pairs-at.is c.step.ensures.more)

pub returns-in-Err : goal.returns-in-Err
returns-in-Err c = rw (← c.pairs-pairs.ensures.pairs)
    (item_new c.args.item.now c.pairs-pairs.result.now c.in-Err.field-0 c.item_bytes.result c.in-Err.ensures.fits c.item_bytes.ensures)

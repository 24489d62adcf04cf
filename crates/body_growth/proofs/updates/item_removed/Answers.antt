use Rattle.body_growth.proofs.Told.{item_gone, item_less, item_missing, occurs}
use Rattle.body_growth.proofs.updates.item_removed.Goals as goal

pub returns-in_default : goal.returns-in_default
returns-in_default c = rw (← c.pairs-pairs.ensures.pairs)
    (item_missing c.args.item.now c.pairs-pairs.result.now c.in_default.field-0 c.in_default.ensures.fits)

pub returns-then-pair-eq1 : goal.returns-then-pair-eq1
returns-then-pair-eq1 c = rw (← c.pairs-pairs.ensures.pairs)
    (item_gone c.args.item.now c.pairs-pairs.result.now c.in-Ok.at c.index-pairs-at.result c.item_bytes.result
    c.in-Ok.ensures.stands c.in-Ok.ensures.in_range c.index-pairs-at.is c.if-pair-eq1.true c.item_bytes.ensures)

pub step-requires : goal.step-requires
step-requires c = occurs c.pairs-pairs.result.now c.in-Ok.at c.index-pairs-at.result
    (rw c.pairs-pairs.ensures.pairs c.pairs-pairs.ensures.bag.occur) c.in-Ok.ensures.in_range c.index-pairs-at.is

pub returns : goal.returns
returns c = rw (← c.pairs-pairs.ensures.pairs)
    (item_less c.args.item.now c.pairs-pairs.result.now c.in-Ok.at c.index-pairs-at.result c.step.result
    c.in-Ok.ensures.stands c.in-Ok.ensures.in_range c.index-pairs-at.is c.if-pair-eq1.false c.step.ensures.less
    c.step.ensures.small)

use Rattle.plain_state.proofs.Rooms.{bag_there, bag_apart}
use Rattle.plain_state.proofs.updates.has_room_in_bag.Goals as goal

pub returns-in-Ok : goal.returns-in-Ok
returns-in-Ok c = rw (← c.pairs-pairs.ensures.pairs) (bag_there c.args.item.now c.pairs-pairs.result.now c.in-Ok.field-0 c.in-Ok.ensures.stands)

pub returns-in-Err : goal.returns-in-Err
returns-in-Err c = rw (← c.pairs-pairs.ensures.pairs) (bag_apart c.args.item.now c.pairs-pairs.result.now c.in-Err.field-0 c.in-Err.ensures.fits)

use Rattle.plain_state.proofs.Rooms.{dict_there, dict_apart}
use Rattle.plain_state.proofs.updates.has_room_in_dict.Goals as goal

pub returns-in-Ok : goal.returns-in-Ok
returns-in-Ok c = λ value. rw (← c.pairs-pairs.ensures.pairs)
    (dict_there c.args.key.now value c.pairs-pairs.result.now c.in-Ok.field-0 c.in-Ok.ensures.stands)

pub returns-in-Err : goal.returns-in-Err
returns-in-Err c = λ value. rw (← c.pairs-pairs.ensures.pairs)
    (dict_apart c.args.key.now value c.pairs-pairs.result.now c.in-Err.field-0 c.in-Err.ensures.fits)

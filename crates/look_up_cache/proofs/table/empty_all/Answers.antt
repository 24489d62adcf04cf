use Rattle.std.proofs.Common.{arith}
use Rattle.look_up_cache.proofs.Places.{none_more, none_left}
use Rattle.look_up_cache.proofs.table.empty_all.Goals as goal

pub places-preserved : goal.places-preserved
places-preserved g c =
    none_more c.places.places.items c.empty_at.new.places.items c.places.at c.empty_at.ensures.here c.empty_at.ensures.others
    c.places.invariant

pub returns : goal.returns
returns g c = none_left c.places.places.items c.places.at (omega arith) c.places.invariant

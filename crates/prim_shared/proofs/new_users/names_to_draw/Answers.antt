use Rattle.prim_shared.proofs.Entered.{are_drawn}
use Rattle.prim_shared.proofs.new_users.names_to_draw.Goals as goal

pub returns : goal.returns
returns g c = λ has. are_drawn _ _ c.sound.ensures has (c.first_name-segment.ensures has) c.name_after.ensures c.name_after-2.ensures

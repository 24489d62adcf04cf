use Rattle.session_view.proofs.Bodies.{look_shows, changed_shows, others_show, moved_shows, moves_elsewhere, updated_shows, updates_elsewhere, made_shows, made_beside}
use Rattle.session_view.proofs.laws.bodies_are_exact.Goals as goal

pub returns-clause-looks : goal.returns-clause-looks
returns-clause-looks c = look_shows

pub returns-clause-changed : goal.returns-clause-changed
returns-clause-changed c = changed_shows

pub returns-clause-others : goal.returns-clause-others
returns-clause-others c = others_show

pub returns-clause-moved : goal.returns-clause-moved
returns-clause-moved c = moved_shows

pub returns-clause-stay : goal.returns-clause-stay
returns-clause-stay c = moves_elsewhere

pub returns-clause-updated : goal.returns-clause-updated
returns-clause-updated c = updated_shows

pub returns-clause-elsewhere : goal.returns-clause-elsewhere
returns-clause-elsewhere c = updates_elsewhere

pub returns-clause-made : goal.returns-clause-made
returns-clause-made c = made_shows

pub returns-clause-beside : goal.returns-clause-beside
returns-clause-beside c = made_beside

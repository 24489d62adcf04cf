use Rattle.session_view.proofs.Bodies.{begun_shows, unchanged_shows}
use Rattle.session_view.proofs.laws.image_stays.Goals as goal

pub returns-clause-begun : goal.returns-clause-begun
returns-clause-begun c = begun_shows

pub returns-clause-unchanged : goal.returns-clause-unchanged
returns-clause-unchanged c = unchanged_shows

use Rattle.session_view.proofs.Bodies.{untouched}
use Rattle.session_view.proofs.laws.shared_objects_untouched.Goals as goal

pub returns : goal.returns
returns c = untouched

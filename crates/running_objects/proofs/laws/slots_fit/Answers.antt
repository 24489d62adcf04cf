use Rattle.running_objects.proofs.Edits.{slot_fits}
use Rattle.running_objects.proofs.laws.slots_fit.Goals as goal

pub returns : goal.returns
returns c = λ name at value values setting world old sound there is within.
    slot_fits setting world name old sound there values at value is within

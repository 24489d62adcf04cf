use Rattle.gem_object.specs.Edits.{with_slot}
use Rattle.running_objects.proofs.Puts.{edit_of_same}
use Rattle.running_objects.proofs.laws.same_edits_do_nothing.Goals as goal

pub returns : goal.returns
returns c = λ seen name at value sound same. edit_of_same seen name sound (with_slot at value) same

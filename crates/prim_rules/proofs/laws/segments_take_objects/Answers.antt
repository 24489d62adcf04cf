use Rattle.prim_rules.proofs.Moves.{segment_taken, segment_refused}
use Rattle.prim_rules.proofs.laws.segments_take_objects.Goals as goal

pub returns-clause-taken : goal.returns-clause-taken
returns-clause-taken c = segment_taken

pub returns-clause-refused : goal.returns-clause-refused
returns-clause-refused c = segment_refused

use Rattle.gem_world.proofs.Touches.{recorded, unrecorded, kept, kept_by_access}
use Rattle.gem_world.proofs.laws.touches_are_kept.Goals as goal

pub returns-clause-recorded : goal.returns-clause-recorded
returns-clause-recorded c = recorded

pub returns-clause-kept : goal.returns-clause-kept
returns-clause-kept c = kept

pub returns-clause-access : goal.returns-clause-access
returns-clause-access c = kept_by_access

pub returns-clause-private : goal.returns-clause-private
returns-clause-private c = unrecorded

use Rattle.gem_session.proofs.Commits.{aborted, abort_has_ended}
use Rattle.gem_session.proofs.CutShort.{gave_up}
use Rattle.gem_session.proofs.session.Session.abort.Goals as goal

pub begin_next-requires : goal.begin_next-requires
begin_next-requires g c = record { ended = abort_has_ended _ _ _ c.requires.comes }

pub returns-clause-replied : goal.returns-clause-replied
returns-clause-replied g c = aborted _ _ _ _ _ _ c.in_ok-begin_next.ensures.begins

pub returns-in_err-begin_next-clause-starved : goal.returns-in_err-begin_next-clause-starved
returns-in_err-begin_next-clause-starved g c = gave_up _ c.in_err-begin_next.ensures.starved

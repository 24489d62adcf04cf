use Rattle.gem_session.proofs.session.Session.record.Goals as goal

pub returns : goal.returns
returns c = rw c.view.ensures at c.finish.ensures

use Rattle.plain_state.proofs.edit.Edit.apply.Goals as goal

pub returns-in-MoveTo-clause-changed : goal.returns-in-MoveTo-clause-changed
returns-in-MoveTo-clause-changed c = c.none.ensures c.args.object.now.body

use Rattle.std.proofs.Common.{◌∙◌, sym, ap, subst}
use Rattle.tree_meaning.specs.Scopes.{give_back, leave_method}
use Rattle.st_commands.specs.Leaving.{LeftSo}
use Rattle.st_machine.specs.Called.{called_as, ended_as}
use Rattle.st_machine.specs.declared.ended.Ended.{Ended}
use Rattle.st_machine.proofs.Called.{left_stopped}
use Rattle.st_machine.proofs.returns.end_method.Goals as goal

pub returns-in-Stopped-clause-left : goal.returns-in-Stopped-clause-left
returns-in-Stopped-clause-left g c =
    let seen = g.O.Objects.seen c.args.objects.now in
    let result = called_as c.end_stopped.result c.end_stopped.new.why c.end_stopped.new.stack.own in
    let At : Ended → Type 0 = λ one. LeftSo (leave_method c.args.mark)
    (ended_as c.args.mark.living one c.args.why.now c.args.stack.now.own) seen c.args.locals.now result c.give_back.new.self in
    subst At (sym c.in-Stopped.is)
    (left_stopped c.args.mark c.args.why.now seen c.args.locals.now c.give_back.new.self result
    (c.give_back.ensures ∙ ap (give_back c.args.mark) c.end_living.ensures)
    (c.end_stopped.ensures.left seen c.give_back.new.self))

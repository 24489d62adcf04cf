use Rattle.std.proofs.Common.{take, reverse}
use Rattle.std.proofs.lemmas.Result.{on_ok_weaker}
use Rattle.st_machine.proofs.MoreNils.{opened_more}
use Rattle.st_machine.proofs.locals.open_moving.Goals as goal

pub returns-clause-opened : goal.returns-clause-opened
returns-clause-opened c =
    on_ok_weaker c.fill.result
    (λ is. opened_more c.args.nils (reverse (take c.args.taken c.args.stack.now.own)) c.args.scopes.now
    c.move_upper.new.lists c.fill.new.scopes c.in_ok-move_upper.ensures.opened is)
    c.fill.ensures.added

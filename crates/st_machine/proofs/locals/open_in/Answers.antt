use Rattle.std.proofs.lemmas.Result.{on_ok_weaker}
use Rattle.st_machine.proofs.MoreNils.{opened_more}
use Rattle.st_machine.proofs.locals.open_in.Goals as goal

pub returns-clause-opened : goal.returns-clause-opened
returns-clause-opened c =
    on_ok_weaker c.fill.result
    (λ is. opened_more c.args.nils c.args.values.items c.args.scopes.now c.open_with.new.self c.fill.new.scopes
    c.in_ok-open_with.ensures.opened is)
    c.fill.ensures.added

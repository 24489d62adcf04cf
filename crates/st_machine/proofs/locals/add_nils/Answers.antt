use Rattle.std.proofs.Common.{◌∙◌, ap, take}
use Rattle.st_machine.proofs.MoreNils.{more_some, more_below}
use Rattle.st_machine.proofs.locals.add_nils.Goals as goal

pub push-requires : goal.push-requires
push-requires c = more_some c.loop-nil._nil c.args.scopes.now c.loop-nil.scopes c.loop-nil.invariant c.requires

pub returns-in_err-push-clause-rest : goal.returns-in_err-push-clause-rest
returns-in_err-push-clause-rest c = λ count within.
    ap (take count) (c.in_err-push.ensures.unchanged ∙ c.loop-nil.invariant)
    ∙ more_below c.loop-nil._nil c.args.scopes.now count within

pub returns-clause-rest : goal.returns-clause-rest
returns-clause-rest c = λ count within.
    ap (take count) c.loop-nil.invariant ∙ more_below c.loop-nil._nil c.args.scopes.now count within

use Rattle.std.proofs.Common.{ap}
use Rattle.object_programs.specs.Laws.{answered}
use Rattle.object_programs.proofs.Exact as exact
use Rattle.object_programs.proofs.laws.updates_are_exact.Goals as goal

pub returns-clause-nothing : goal.returns-clause-nothing
returns-clause-nothing c name update setting world budget none =
    ap (λ after. answered tt after budget) (exact.update_nothing name update setting world none)

pub returns-clause-forbidden : goal.returns-clause-forbidden
returns-clause-forbidden c name update setting world budget shut =
    ap (λ after. answered tt after budget) (exact.update_forbidden name update setting world shut)

pub returns-clause-refused : goal.returns-clause-refused
returns-clause-refused c name update setting world budget old allowed there is =
    ap (λ after. answered tt after budget) (exact.update_refused name update setting world old allowed there is)

pub returns-clause-noted : goal.returns-clause-noted
returns-clause-noted c name update setting world budget old body allowed there is fit unmade =
    ap (λ after. answered tt after budget) (exact.update_noted name update setting world old body allowed there is fit unmade)

pub returns-clause-made : goal.returns-clause-made
returns-clause-made c name update setting world budget old body allowed there is fit made =
    ap (λ after. answered tt after budget) (exact.update_made name update setting world old body allowed there is fit made)

pub returns-clause-unfit : goal.returns-clause-unfit
returns-clause-unfit c name update setting world budget old body allowed there is unfit =
    ap (λ after. answered tt after budget) (exact.update_unfit name update setting world old body allowed there is unfit)

use Rattle.std.proofs.Common.{Option, ◌≤◌, sym, subst}
use Rattle.std.proofs.lemmas.Result.{err_from_is_err_and}
use Rattle.extent_pages.specs.Pages.{most_pages}
use Rattle.extent_pages.specs.Extent.{Extent}
use Rattle.page_file.specs.Changing.{pages_taken, IsPlanCounted}
use Rattle.page_file.proofs.Changes.{no_root, first_next, later_shares, later_next}
use Rattle.page_file.proofs.file.PageFile.plan_next.Goals as goal

pub returns-in_ok-plan-in-None-clause-planned : goal.returns-in_ok-plan-in-None-clause-planned
returns-in_ok-plan-in-None-clause-planned c past before small may =
    first_next past c.args.image.now c.args.number c.args.changed.now c.in_ok-plan-in-None.plan c.args.self.now before may c.in-None.is
    (c.in_ok-plan-in-None.ensures.planned small (no_root past c.args.image.now c.args.number c.args.changed.now c.args.self.now before may c.in-None.is).1)

pub returns-in_err-plan-in-None-clause-counted : goal.returns-in_err-plan-in-None-clause-counted
returns-in_err-plan-in-None-clause-counted c past before may =
    let none = no_root past c.args.image.now c.args.number c.args.changed.now c.args.self.now before may c.in-None.is in
    let p = err_from_is_err_and c.from_residual.result c.from_residual.ensures.1 in
    subst (λ (b : Option Extent). IsPlanCounted (pages_taken b c.args.image.now) c.from_residual.result) (sym none.0)
    (rw (p.1, p.2) (c.in_err-plan-in-None.ensures.counted none.1))

pub returns-in_ok-plan-in-None-clause-counted : goal.returns-in_ok-plan-in-None-clause-counted
returns-in_ok-plan-in-None-clause-counted c past before may =
    let none = no_root past c.args.image.now c.args.number c.args.changed.now c.args.self.now before may c.in-None.is in
    subst (λ (b : Option Extent). pages_taken b c.args.image.now ≤ most_pages) (sym none.0) (c.in_ok-plan-in-None.ensures.counted none.1)

pub returns-in_ok-plan-in-Some-clause-planned : goal.returns-in_ok-plan-in-Some-clause-planned
returns-in_ok-plan-in-Some-clause-planned c past before small may =
    let shares = later_shares past c.args.image.now c.args.number c.args.changed.now c.args.self.now c.in-Some.current before may c.in-Some.is in
    let planned = c.in_ok-plan-in-Some.ensures.planned shares.0 small shares.2 in
    later_next past c.args.image.now c.args.number c.args.changed.now c.in_ok-plan-in-Some.plan c.args.self.now c.in-Some.current before shares.0 shares.1 may c.in-Some.is planned.0 planned.1 planned.2

pub returns-in_err-plan-in-Some-clause-counted : goal.returns-in_err-plan-in-Some-clause-counted
returns-in_err-plan-in-Some-clause-counted c past before may =
    let shares = later_shares past c.args.image.now c.args.number c.args.changed.now c.args.self.now c.in-Some.current before may c.in-Some.is in
    let p = err_from_is_err_and c.from_residual-in_err-plan-in-Some.result c.from_residual-in_err-plan-in-Some.ensures.1 in
    subst (λ (b : Option Extent). IsPlanCounted (pages_taken b c.args.image.now) c.from_residual-in_err-plan-in-Some.result) (sym shares.1)
    (rw (p.1, p.2) (c.in_err-plan-in-Some.ensures.counted shares.0 shares.2))

pub returns-in_ok-plan-in-Some-clause-counted : goal.returns-in_ok-plan-in-Some-clause-counted
returns-in_ok-plan-in-Some-clause-counted c past before may =
    let shares = later_shares past c.args.image.now c.args.number c.args.changed.now c.args.self.now c.in-Some.current before may c.in-Some.is in
    subst (λ (b : Option Extent). pages_taken b c.args.image.now ≤ most_pages) (sym shares.1) (c.in_ok-plan-in-Some.ensures.counted shares.0 shares.2)

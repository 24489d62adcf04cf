use Rattle.std.proofs.Common.{◌≡◌, ◌+◌, sym, subst, ◌∙◌, arith}
use Rattle.extent_plan.specs.Used.{marked, Collected}
use Rattle.extent_plan.proofs.Marking.{collect_none, collect_take}
use Rattle.extent_plan.proofs.used.marked_pages.Goals as goal

pub loop-page-init : goal.loop-page-init
loop-page-init c = subst (λ l. Collected 3 (marked c.args.marks.now) l 3) (sym c.new-pages.ensures.items) (collect_none 3 (marked c.args.marks.now))

pub loop-page-preserved : goal.loop-page-preserved
loop-page-preserved c = subst (λ l. Collected 3 (marked c.args.marks.now) l (c.loop-page.page + 1)) (sym c.in_ok-push.ensures.items)
    (collect_take 3 (marked c.args.marks.now) c.loop-page.pages.items c.loop-page.page c.loop-page.auto.page c.loop-page.invariant
    (sym c.is_marked.ensures ∙ c.if-not-is_marked.false))

pub returns : goal.returns
returns c =
    let most = c.loop-page.auto.page-end c.requires in
    let whole : c.loop-page.page ≡ c.args.count = omega (arith, most, c.loop-page-test.false) in
    subst (Collected 3 (marked c.args.marks.now) c.loop-page.pages.items) whole c.loop-page.invariant

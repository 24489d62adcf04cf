use Rattle.page_file.proofs.Shares.{used_are, later_planned}
use Rattle.page_file.proofs.Counted.{later_counted}
use Rattle.page_file.proofs.changing.plan_later.Goals as goal

pub returns-clause-planned : goal.returns-clause-planned
returns-clause-planned c extent small share =
    later_planned c.args.image.now c.args.changed.now c.args.number c.args.current.now extent c.in_ok-used.used.items c.deref-3.result.now c.deref-4.result.now
    c.from-page.result c.new.result.items c.new-2.result.items c.plan_checkpoint.result share c.from-page.ensures c.deref-3.ensures.value c.deref-4.ensures.value c.new.ensures.items c.new-2.ensures.items
    (used_are c.args.image.now c.args.changed.now c.args.current.now extent c.in_ok-used.used.items c.deref.result.now c.deref-2.result.now share c.deref.ensures.value c.deref-2.ensures.value c.in_ok-used.ensures.are c.in_ok-used.ensures.none)
    (λ written places sharing few. c.plan_checkpoint.ensures.planned c.args.current.now.number extent.leaves small written places sharing few)

pub returns-clause-counted : goal.returns-clause-counted
returns-clause-counted c extent share =
    later_counted c.args.image.now c.args.changed.now c.args.current.now extent c.in_ok-used.used.items c.deref-3.result.now c.deref-4.result.now c.plan_checkpoint.result
    c.invariant.ensures.named share c.deref-3.ensures.value c.deref-4.ensures.value c.in_ok-used.ensures.ascend
    (used_are c.args.image.now c.args.changed.now c.args.current.now extent c.in_ok-used.used.items c.deref.result.now c.deref-2.result.now share c.deref.ensures.value c.deref-2.ensures.value c.in_ok-used.ensures.are c.in_ok-used.ensures.none)
    (c.plan_checkpoint.ensures.full c.args.current.now.number) (c.plan_checkpoint.ensures.room c.args.current.now.number)

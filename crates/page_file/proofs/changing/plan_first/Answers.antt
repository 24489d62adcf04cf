use Rattle.std.proofs.Common.{[], arith}
use Rattle.extent_plan.proofs.Changed.{first_written}
use Rattle.page_file.proofs.Shares.{first_planned}
use Rattle.page_file.proofs.Counted.{first_counted}
use Rattle.page_file.proofs.changing.plan_first.Goals as goal

pub returns-clause-planned : goal.returns-clause-planned
returns-clause-planned c small are =
    first_planned c.args.image.now c.args.number c.in_ok-before.before.items c.in_ok-after.after.items c.in_ok-make_selector_piece.field-0
    c.in_ok-make_empty_piece.field-0 c.plan_checkpoint.result c.in_ok-before.ensures c.in_ok-make_selector_piece.ensures c.in_ok-after.ensures
    c.in_ok-make_empty_piece.ensures
    (c.plan_checkpoint.ensures.planned 0 [] small (first_written c.args.image.now 0 c.args.changed.now are) tt tt (omega arith))

pub returns-clause-counted : goal.returns-clause-counted
returns-clause-counted c are =
    let written = first_written c.args.image.now 0 c.args.changed.now are in
    first_counted c.args.image.now c.plan_checkpoint.result c.invariant.ensures.named
    (λ pages is. c.plan_checkpoint.ensures.full 0 pages written is) (c.plan_checkpoint.ensures.room 0 written)

use Rattle.std.proofs.Common.{◌≡◌, ◌+◌, ◌*◌, length, ap, arith}
use Rattle.extent_plan.specs.Laying.{pages_of_drafts}
use Rattle.extent_plan.specs.Pieces.{pages_filled}
use Rattle.extent_plan.proofs.Assembling.{plan_is, split_parts}
use Rattle.extent_plan.proofs.plan.plan_checkpoint.Goals as goal

pub write_plan-requires : goal.write_plan-requires
write_plan-requires c = omega (arith, c.in_ok-laid.ensures.count, c.split_at.ensures.front_len, c.in-Some.ensures, c.len.ensures)

pub returns-clause-planned : goal.returns-clause-planned
returns-clause-planned c = λ since old small written are sharing few.
    let many : length c.split_at.result.0.now ≡ pages_filled (4 + 12 * length c.in_ok-laid.laid.0.items) =
    omega (arith, c.in_ok-laid.ensures.count, c.split_at.ensures.front_len, c.in-Some.ensures, c.len.ensures) in
    plan_is c.args.image.now old c.args.used.now c.args.number c.args.page since c.in_ok-drafts.drafts.items c.in_ok-free.free.items
    c.split_at.result.0.now c.split_at.result.1.now c.in_ok-laid.laid.0.items c.in_ok-laid.laid.1.items
    c.args.around.0.items c.args.around.1.items c.in_ok-plan.plan small (c.in_ok-drafts.ensures.drafts since old written are sharing) sharing few
    c.in_ok-free.ensures.run
    (split_parts _ c.in_ok-free.free.items _ c.split_at.result.0.now c.split_at.result.1.now c.deref-2.ensures.value c.split_at.ensures.front c.split_at.ensures.back)
    many (λ made left from to run. c.in_ok-laid.ensures.laid c.args.image.now c.args.used.now old made left from to run) c.in_ok-plan.ensures

pub returns-clause-room : goal.returns-clause-room
returns-clause-room c = λ since written.
    let counted = c.in_ok-drafts.ensures.counted since written in
    let drafts = ap pages_of_drafts c.deref.ensures.value in
    omega (arith, counted.0, counted.1, drafts, c.pages_of.ensures)

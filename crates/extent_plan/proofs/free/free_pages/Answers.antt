use Rattle.std.proofs.Common.{◌<◌, ◌+◌, length, sym, subst, arith}
use Rattle.extent_pages.specs.Pages.{most_pages}
use Rattle.extent_plan.proofs.Runs.{Walked, walk_skip, walk_take, walk_room}
use Rattle.extent_plan.proofs.free.free_pages.Goals as goal

pub loop-rest-preserved-in-Some : goal.loop-rest-preserved-in-Some
loop-rest-preserved-in-Some c = record {
  walked = walk_skip c.args.used.now c.loop-rest.pages.items c.in-Some.behind.now c.loop-rest.page
      (subst (λ l. Walked c.args.used.now l c.loop-rest.pages.items c.loop-rest.page) c.in-Some.ensures c.loop-rest.invariant.walked);
  few = c.loop-rest.invariant.few;
}

pub loop-rest-preserved : goal.loop-rest-preserved
loop-rest-preserved c =
    let w = c.loop-rest.invariant.walked in
    let room = walk_room c.args.used.now c.loop-rest.rest.now c.loop-rest.pages.items c.loop-rest.page w in
    let fewer : length c.loop-rest.pages.items < c.args.count = omega arith in
    let few : c.loop-rest.page < most_pages = omega (arith, room, fewer, c.requires.room, w.count) in
    let more = c.in_ok-push.ensures.items in
    record {
      walked = subst (λ l. Walked c.args.used.now c.loop-rest.rest.now l (c.loop-rest.page + 1)) (sym more)
          (walk_take c.args.used.now c.loop-rest.rest.now c.loop-rest.pages.items c.loop-rest.page w c.in_default.ensures few);
      few = omega (arith, c.in_ok-push.ensures.len, fewer);
    }

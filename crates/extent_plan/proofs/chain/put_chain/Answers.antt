use Rattle.extent_plan.proofs.Chains.{page_done}
use Rattle.extent_plan.proofs.chain.put_chain.Goals as goal

pub loop-page-preserved : goal.loop-page-preserved
loop-page-preserved c = page_done c.args.out.now.items c.loop-page.out.items c.args.pages.now c.args.payload.now
    c.loop-page.left.now c.in-Some.page.now c.first_page.result c.min.result c.loop-page.rest.now c.in-Some.behind.now
    c.split_at.result.0.now c.split_at.result.1.now c.in_ok-piece_of_page.field-0 c.push.new.self.items
    c.loop-page.invariant c.in-Some.ensures.cases.0 c.min.ensures c.split_at.ensures.front c.split_at.ensures.back
    c.first_page.ensures c.in_ok-piece_of_page.ensures c.in_ok-push.ensures.items

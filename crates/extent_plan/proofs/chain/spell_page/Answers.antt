use Rattle.extent_plan.proofs.Chains.{page_room, page_spelled}
use Rattle.extent_plan.proofs.chain.spell_page.Goals as goal

pub fill_up-requires : goal.fill_up-requires
fill_up-requires c = page_room c.args.next c.from.result c.args.payload.now _ _ _ _ c.from.ensures c.new-bytes.ensures.items
    c.in_ok-put_four.ensures c.in_ok-put_four-2.ensures c.in_ok-extend_from_slice.ensures.items c.requires

pub returns : goal.returns
returns c = page_spelled c.args.next c.from.result c.args.payload.now _ _ _ _ c.from.ensures c.new-bytes.ensures.items
    c.in_ok-put_four.ensures c.in_ok-put_four-2.ensures c.in_ok-extend_from_slice.ensures.items c.in_ok-fill_up.ensures c.requires

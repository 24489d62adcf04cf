use Rattle.extent_plan.proofs.Counting.{root_short, root_spelled}
use Rattle.extent_plan.proofs.totals.spell_root.Goals as goal

pub fill_up-requires : goal.fill_up-requires
fill_up-requires c = root_short c.args.root.now _ _ _ _ _ _ _ _ _ c.new-bytes.ensures.items c.in_ok-put_eight.ensures
    c.from.ensures c.in_ok-put_four.ensures c.in_ok-put_eight-2.ensures c.from-2.ensures c.in_ok-put_four-2.ensures
    c.from-3.ensures c.in_ok-put_four-3.ensures

pub returns : goal.returns
returns c = root_spelled c.args.root.now _ _ _ _ _ _ _ _ _ c.new-bytes.ensures.items c.in_ok-put_eight.ensures
    c.from.ensures c.in_ok-put_four.ensures c.in_ok-put_eight-2.ensures c.from-2.ensures c.in_ok-put_four-2.ensures
    c.from-3.ensures c.in_ok-put_four-3.ensures _ c.in_ok-fill_up.ensures

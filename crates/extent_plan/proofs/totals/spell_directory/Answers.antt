use Rattle.extent_plan.proofs.Counting.{none_left, directory_start, directory_more, directory_end}
use Rattle.extent_plan.proofs.totals.spell_directory.Goals as goal

pub loop-place-init : goal.loop-place-init
loop-place-init c = directory_start c.args.places.now _ _ c.new-bytes.ensures.items c.in_ok-put_four.ensures

pub loop-place-preserved : goal.loop-place-preserved
loop-place-preserved c = directory_more c.loop-place.bytes.items _ _ c.loop-place.rest.now c.in-Some.place.now c.in-Some.behind.now
    c.in-Some.ensures.cases.0 c.in_ok-put_place.ensures c.loop-place.invariant

pub returns : goal.returns
returns c = directory_end c.args.places.now c.loop-place.bytes.items c.loop-place.rest.now
    (none_left c.loop-place.rest.now c.in_default.ensures.cases) c.loop-place.invariant

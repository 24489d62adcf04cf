use Rattle.std.proofs.Common.{◌<◌, ◌^◌, refl, sym, subst}
use Rattle.std.specs.List.{AllByRecursion}
use Rattle.extent_plan.specs.Needed.{numbers_at}
use Rattle.extent_plan.proofs.Counting.{none_left}
use Rattle.extent_plan.proofs.Merging.{StaysHere, SpelledHere, all_passed}
use Rattle.extent_plan.proofs.Tallies.{Counted, counted_start, counted_kept, counted_spelled, counted_end}
use Rattle.extent_plan.proofs.Drafting.{Drafting, draft_start, kept_more, spelled_more, draft_end}
use Rattle.extent_plan.proofs.draft.draft_leaves.Goals as goal

pub loop-place-init : goal.loop-place-init
loop-place-init c =
    let image = c.args.image.now in
    let kept = numbers_at c.args.kept.now in
    let changed = c.args.changed.now in
    let named = c.invariant.ensures.named in
    record {
      low = c.requires;
      counted = λ since written. subst (Counted image since kept changed c.args.kept.now changed) (sym c.new-drafts.ensures.items)
          (counted_start image since kept changed named written c.args.kept.now refl);
      drafting = λ since old written are sharing. subst (Drafting image kept changed old c.args.kept.now changed) (sym c.new-drafts.ensures.items)
          (draft_start image kept changed old since named written c.args.kept.now refl are);
    }

pub loop-place-preserved-in-Some : goal.loop-place-preserved-in-Some
loop-place-preserved-in-Some c =
    let at = c.loop-place in
    let image = c.args.image.now in
    let kept = numbers_at c.args.kept.now in
    let changed = c.args.changed.now in
    let named = c.invariant.ensures.named in
    let stays : StaysHere at.places.now c.in-Some.behind.now at.left.now at.drafts.items c.keep_place.new.drafts.items = record {
      place = c.in-Some.place.now;
      places_are = c.in-Some.ensures.0;
      before = c.in-Some.ensures.1;
      keeps = c.in_ok-keep_place.ensures;
    } in
    record {
      low = at.invariant.low;
      counted = λ since written. counted_kept image since kept changed named written at.places.now c.in-Some.behind.now at.left.now
          at.drafts.items c.keep_place.new.drafts.items (at.invariant.counted since written) stays;
      drafting = λ since old written are sharing. kept_more image kept changed old since named written sharing c.invariant.ensures.spelled
          at.places.now c.in-Some.behind.now at.left.now at.drafts.items c.keep_place.new.drafts.items
          (at.invariant.drafting since old written are sharing) stays;
    }

pub loop-place-preserved : goal.loop-place-preserved
loop-place-preserved c =
    let at = c.loop-place in
    let image = c.args.image.now in
    let kept = numbers_at c.args.kept.now in
    let changed = c.args.changed.now in
    let named = c.invariant.ensures.named in
    let behind = c.in-Some-split_first.behind.now in
    let spelled : SpelledHere image at.places.now c.places_behind-places.result.now at.left.now behind at.drafts.items c.spell_leaf.new.drafts.items = record {
      leaf = c.in-Some-split_first.leaf.now;
      left_is = c.in-Some-split_first.ensures.cases.0;
      first = c.in_default.ensures;
      rest_is = c.places_behind-places.ensures;
      spells = c.in_ok-spell_leaf.ensures;
    } in
    record {
      low = (subst (AllByRecursion (λ leaf. leaf < 2 ^ 42)) c.in-Some-split_first.ensures.cases.0 at.invariant.low).1;
      counted = λ since written. counted_spelled image since kept changed named written at.places.now c.places_behind-places.result.now at.left.now behind
          at.drafts.items c.spell_leaf.new.drafts.items (at.invariant.counted since written) spelled;
      drafting = λ since old written are sharing. spelled_more image kept changed old since named written sharing c.invariant.ensures.spelled
          at.places.now c.places_behind-places.result.now at.left.now behind at.drafts.items c.spell_leaf.new.drafts.items
          (at.invariant.drafting since old written are sharing) spelled;
    }

pub returns-in_default-split_first-clause-counted : goal.returns-in_default-split_first-clause-counted
returns-in_default-split_first-clause-counted c = λ since written.
    let no_leaf = none_left c.loop-place.left.now c.in_default-split_first.ensures.cases in
    counted_end c.args.image.now since (numbers_at c.args.kept.now) c.args.changed.now c.invariant.ensures.named written
    c.loop-place.places.now c.loop-place.left.now c.loop-place.drafts.items (c.loop-place.invariant.counted since written)
    (all_passed c.loop-place.places.now c.loop-place.left.now no_leaf c.in_default.ensures) no_leaf

pub returns-in_default-split_first-clause-drafts : goal.returns-in_default-split_first-clause-drafts
returns-in_default-split_first-clause-drafts c = λ since old written are sharing.
    let no_leaf = none_left c.loop-place.left.now c.in_default-split_first.ensures.cases in
    draft_end c.args.image.now (numbers_at c.args.kept.now) c.args.changed.now old since c.invariant.ensures.named written
    c.loop-place.places.now c.loop-place.left.now c.loop-place.drafts.items (c.loop-place.invariant.drafting since old written are sharing)
    (all_passed c.loop-place.places.now c.loop-place.left.now no_leaf c.in_default.ensures) no_leaf

use Rattle.std.proofs.Common.{◌≡◌, ◌≤◌, [], ◌∷◌, length, sym, ap, subst, ◌∙◌, arith}
use Rattle.std.specs.Vec.Iter.{into_iter_items}
use Rattle.extent_plan.specs.Drafts.{DraftsTo}
use Rattle.extent_plan.specs.Laying.{pages_of_drafts, LaidTo}
use Rattle.extent_plan.proofs.Laying.{lay_start, lay_first, lay_room, lay_step, lay_end}
use Rattle.extent_plan.proofs.Counting.{none_left}
use Rattle.extent_plan.proofs.lay.lay_leaves.Goals as goal

pub loop-draft-init : goal.loop-draft-init
loop-draft-init c =
    let items = c.into_iter-draft-iterator.ensures.into_iter_gives.0 in
    let many = c.into_iter-draft-iterator.ensures.into_iter_gives.1 in
    let count : length (into_iter_items c.into_iter-draft-iterator.result) ≡ length c.args.drafts.items = ap length items in
    record {
      left = omega (arith, many, count);
      room = subst (λ l. pages_of_drafts l ≤ length c.args.free.now) (sym items) c.requires;
      count = omega (arith, c.new-places.ensures.len);
      laid = λ image kept old made left from to run.
          subst (λ p. LaidTo image kept old from (into_iter_items c.into_iter-draft-iterator.result) c.args.free.now p c.new-places.result.items made left)
          (sym c.new-pieces.ensures.items)
          (subst (λ p. LaidTo image kept old from (into_iter_items c.into_iter-draft-iterator.result) c.args.free.now [] p made left)
          (sym c.new-places.ensures.items)
          (lay_start image kept old from made left (into_iter_items c.into_iter-draft-iterator.result) c.args.free.now to run));
    }

pub lay_leaf-requires : goal.lay_leaf-requires
lay_leaf-requires c =
    let room : pages_of_drafts (c.in-Some.draft ∷ into_iter_items c.next.new.self) ≤ length c.loop-draft.rest.now =
    subst (λ l. pages_of_drafts l ≤ length c.loop-draft.rest.now) c.in-Some.ensures.steps.0 c.loop-draft.invariant.room in
    let first = lay_first c.in-Some.draft (into_iter_items c.next.new.self) in
    omega (arith, room, first)

pub loop-draft-preserved : goal.loop-draft-preserved
loop-draft-preserved c =
    let steps = c.in-Some.ensures.steps.0 in
    let gone = c.in-Some.ensures.steps.1 in
    let short = ap length steps in
    let at = c.loop-draft in
    let room : pages_of_drafts (c.in-Some.draft ∷ into_iter_items c.next.new.self) ≤ length at.rest.now =
    subst (λ l. pages_of_drafts l ≤ length at.rest.now) steps at.invariant.room in
    let first = lay_first c.in-Some.draft (into_iter_items c.next.new.self) in
    let taken = lay_room c.in-Some.draft at.rest.now c.in_ok-place.behind.now at.pieces.items c.lay_leaf.new.pieces.items c.in_ok-place.place c.in_ok-place.ensures in
    record {
      left = omega (arith, gone, short, at.invariant.left);
      room = omega (arith, room, first, taken);
      count = omega (arith, c.in_ok-push.ensures.len, short, at.invariant.count);
      laid = λ image kept old made left from to run.
          lay_step image kept old from made left c.in-Some.draft (into_iter_items c.next.new.self)
          (into_iter_items at.draft-iterator) at.rest.now c.in_ok-place.behind.now at.pieces.items c.lay_leaf.new.pieces.items at.places.items
          c.push.new.self.items c.in_ok-place.place steps c.in_ok-push.ensures.items c.in_ok-place.ensures
          (at.invariant.laid image kept old made left from to run);
    }

pub returns-clause-laid : goal.returns-clause-laid
returns-clause-laid c = λ image kept old made left from to run.
    let items = c.into_iter-draft-iterator.ensures.into_iter_gives.0 in
    let given : DraftsTo image old (into_iter_items c.into_iter-draft-iterator.result) made left =
    subst (λ d. DraftsTo image old d made left) (sym items) to in
    let at = c.loop-draft in
    let none = none_left (into_iter_items at.draft-iterator) (sym at.invariant.left ∙ c.in-None.ensures.steps.0) in
    lay_end image kept old from made left at.rest.now at.pieces.items at.places.items
    (subst (λ d. LaidTo image kept old from d at.rest.now at.pieces.items at.places.items made left) none
    (at.invariant.laid image kept old made left from given run))

pub returns-clause-count : goal.returns-clause-count
returns-clause-count c =
    let items = ap length c.into_iter-draft-iterator.ensures.into_iter_gives.0 in
    omega (arith, items, c.loop-draft.invariant.count, c.loop-draft.invariant.left, c.in-None.ensures.steps.0)

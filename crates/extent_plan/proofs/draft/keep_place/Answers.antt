use Rattle.extent_plan.proofs.draft.keep_place.Goals as goal

pub returns : goal.returns
returns c = record {
  copy = c.in_ok-copied.field-0;
  same = c.in_ok-copied.ensures;
  drafts = c.in_ok-push.ensures.items;
}

use Rattle.std.proofs.Common.{◌≡◌, ◌+◌, ◌≤◌, ℕ, List, length}
use Rattle.std.specs.Vec.Iter.{into_iter_items, into_iter_len}
use Rattle.gem_image.specs.Image.{Image}
use Rattle.extent_pages.specs.Extent.{Leaf}
use Rattle.extent_plan.specs.Runs.{IsRun}
use Rattle.extent_plan.specs.Drafts.{DraftsTo}
use Rattle.extent_plan.specs.Laying.{pages_of_drafts, LaidTo}
use Rattle.extent_plan.proofs.lay.lay_leaves.Given as goal

abbrev pub invariant-loop-draft : goal.invariant-loop-draft
invariant-loop-draft l = record {
  left : into_iter_len l.draft-iterator ≡ length (into_iter_items l.draft-iterator);
  room : pages_of_drafts (into_iter_items l.draft-iterator) ≤ length l.rest;
  count : length l.places.items + length (into_iter_items l.draft-iterator)
      ≡ length (into_iter_items l.initial.draft-iterator);
  laid : (image : Image) (kept : List ℕ) (old made left : List Leaf) (from : ℕ)
      → DraftsTo image old (into_iter_items l.initial.draft-iterator) made left → IsRun kept from l.free
      → LaidTo image kept old from (into_iter_items l.draft-iterator) l.rest l.pieces.items l.places.items made left;
}

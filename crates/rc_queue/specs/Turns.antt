-- Two updates, or the merges of two sessions, one after the other.
use Rattle.std.specs.Prelude.{List, Option, option_and_then, ℕ, Result, Ok, Err}
use Rattle.std.specs.declared.cmp.Ordering.{Ordering}
use Rattle.rc_queue.specs.Contents.{Contents}
use Rattle.rc_queue.specs.Update.{updated, merged}
use Rattle.rc_queue.specs.declared.update.QueueUpdate.{QueueUpdate}

module _ {T : Type 0} (cmp : T → T → Ordering) where
  -- the queue after the first update and then the second, or None where one of the two is refused
  abbrev pub updated_twice : QueueUpdate T → QueueUpdate T → Contents T → Option (Contents T)
  updated_twice first second queue = option_and_then (updated cmp second) (updated cmp first queue)

  -- the merge at the place that an earlier merge made, or that merge's refusal
  abbrev pub merged_after : Result (Contents T) ℕ → Contents T → List (QueueUpdate T)
      → Result (Contents T) ℕ
  merged_after (Err at) view updates = Err at
  merged_after (Ok place) view updates = merged cmp view place updates

  -- the merge of the first session's updates and then that of the second's, where both worked at
  -- the view
  abbrev pub merged_twice : Contents T → Contents T → List (QueueUpdate T)
      → List (QueueUpdate T) → Result (Contents T) ℕ
  merged_twice view place first second = merged_after (merged cmp view place first) view second

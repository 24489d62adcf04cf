-- What an update leaves of a queue, and what a merge of updates does.
use Rattle.std.specs.Prelude.{ℕ, ◌+◌, ◌^◌, ◌-◌, ◌==◌, min, Bool, true, false, if◌then◌else◌, List, [], ◌∷◌, ◌++◌, Option, Some, None, Result, Ok, Err}
use Rattle.std.specs.declared.cmp.Ordering.{Ordering}
use Rattle.std.specs.Ordering.{is_eq}
use Rattle.rc_queue.specs.Contents.{Contents}
use Rattle.rc_queue.specs.declared.update.QueueUpdate.{QueueUpdate}
use Rattle.rc_queue.specs.declared.update.QueueUpdate.TheVariants.{Add, Remove}

-- the greatest count of removals: it stays there
abbrev pub most_removals : ℕ
most_removals = 2 ^ 64 - 1

-- one removal more
abbrev pub one_removal_more : ℕ → ℕ
one_removal_more removed = min (removed + 1) most_removals

module _ {T : Type 0} where
  -- the update is a removal
  abbrev pub is_removal : QueueUpdate T → Bool
  is_removal (Add item) = false
  is_removal (Remove item) = true

  -- the items that the updates add, in order
  abbrev pub added_items : List (QueueUpdate T) → List T
  added_items [] = []
  added_items (Add item ∷ rest) = item ∷ added_items rest
  added_items (Remove item ∷ rest) = added_items rest

  -- the items that the updates' removals name, in order
  abbrev pub removed_items : List (QueueUpdate T) → List T
  removed_items [] = []
  removed_items (Add item ∷ rest) = removed_items rest
  removed_items (Remove item ∷ rest) = item ∷ removed_items rest

  -- the index of the first removal, where the updates are numbered from `at`
  abbrev pub first_removal : ℕ → List (QueueUpdate T) → Option ℕ
  first_removal at [] = None
  first_removal at (update ∷ rest) =
      if is_removal update then Some at else first_removal (at + 1) rest

  -- the first removal, where the fronts that the view and the place removed differ in number
  abbrev pub removed_since : Contents T → Contents T → List (QueueUpdate T) → Option ℕ
  removed_since view place updates =
      if view.removed == place.removed then None else first_removal 0 updates

  -- the answer, unless there is a refusal before it
  abbrev pub unless_refused : Option ℕ → Result (Contents T) ℕ → Result (Contents T) ℕ
  unless_refused None answer = answer
  unless_refused (Some at) answer = Err at

  -- the answer for the rest of the updates, or a refusal at this index where this update gives no
  -- queue
  abbrev pub and_then : ℕ → Option (Contents T) → (Contents T → Result (Contents T) ℕ)
      → Result (Contents T) ℕ
  and_then at None rest = Err at
  and_then at (Some queue) rest = rest queue

  module _ (cmp : T → T → Ordering) where
    -- the queue without its front, which must be the named item
    abbrev pub without_front : T → ℕ → List T → Option (Contents T)
    without_front item removed [] = None
    without_front item removed (front ∷ rest) =
        if is_eq (cmp front item)
        then Some (record { removed = one_removal_more removed; items = rest })
        else None

    -- the queue after the update, or None where the update is refused
    abbrev pub updated : QueueUpdate T → Contents T → Option (Contents T)
    updated (Add item) queue =
        Some (record { removed = queue.removed; items = queue.items ++ item ∷ [] })
    updated (Remove item) queue = without_front item queue.removed queue.items

    -- the queue after the updates one by one, or the index of the first that is refused, where they
    -- are numbered from `at`
    abbrev pub replayed : ℕ → List (QueueUpdate T) → Contents T → Result (Contents T) ℕ
    replayed at [] queue = Ok queue
    replayed at (update ∷ rest) queue = and_then at (updated update queue) (replayed (at + 1) rest)

    -- What a commit makes of updates that were made at the view: the first removal is refused where
    -- the front was removed since, and else the updates are applied in order at the place.
    abbrev pub merged : Contents T → Contents T → List (QueueUpdate T) → Result (Contents T) ℕ
    merged view place updates =
        unless_refused (removed_since view place updates) (replayed 0 updates place)

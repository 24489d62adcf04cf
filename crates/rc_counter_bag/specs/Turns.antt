-- Two updates, or the merges of two sessions, one after the other.
use Rattle.std.specs.Prelude.{ℕ, ℤ, List, Option, option_and_then, Result, Ok, Err}
use Rattle.std.specs.declared.cmp.Ordering.{Ordering}
use Rattle.rc_counter_bag.specs.Bag as bag
use Rattle.rc_counter_bag.specs.Counter as counter
use Rattle.rc_counter_bag.specs.declared.update.BagUpdate.{BagUpdate}

-- a counter raised by the first number and then by the second, or None where one of the two is
-- refused
abbrev pub raised_twice : ℤ → ℤ → ℤ → Option ℤ
raised_twice first second value =
    option_and_then (counter.updated second) (counter.updated first value)

-- the merge of the first session's updates and then that of the second's, where both worked at the
-- view
abbrev pub sums_merged : ℤ → ℤ → List ℤ → List ℤ → Option ℤ
sums_merged view place first second =
    option_and_then (λ after. counter.merged view after second) (counter.merged view place first)

module _ {T : Type 0} (cmp : T → T → Ordering) where
  -- the bag after the first update and then the second, or None where one of the two is refused
  abbrev pub updated_twice : BagUpdate T → BagUpdate T → List (T × ℕ) → Option (List (T × ℕ))
  updated_twice first second pairs =
      option_and_then (bag.updated cmp second) (bag.updated cmp first pairs)

  -- the merge at the place that an earlier merge made, or that merge's refusal
  abbrev pub merged_after : Result (List (T × ℕ)) ℕ → List (T × ℕ) → List (BagUpdate T)
      → Result (List (T × ℕ)) ℕ
  merged_after (Err at) view updates = Err at
  merged_after (Ok place) view updates = bag.merged cmp view place updates

  -- the merge of the first session's updates and then that of the second's, where both worked at
  -- the view
  abbrev pub merged_twice : List (T × ℕ) → List (T × ℕ) → List (BagUpdate T)
      → List (BagUpdate T) → Result (List (T × ℕ)) ℕ
  merged_twice view place first second = merged_after (bag.merged cmp view place first) view second

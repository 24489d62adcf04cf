-- A bag as the list of its items with their occurrences; what an update leaves of it, and what a
-- merge of updates does.
use Rattle.std.specs.Prelude.{ℕ, ◌+◌, ◌-◌, ◌^◌, ◌<◌, ◌==◌, min, Bool, false, if◌then◌else◌, List, [], ◌∷◌, sum_by, Option, Some, None, option_map, Result, Ok, Err}
use Rattle.std.specs.declared.cmp.Ordering.{Ordering}
use Rattle.std.specs.List.{AllByRecursion}
use Rattle.std.specs.Ordering.{is_eq, match_ordering}
use Rattle.sorted_pairs.specs.Place.{Ascends}
use Rattle.rc_counter_bag.specs.declared.update.BagUpdate.{BagUpdate}
use Rattle.rc_counter_bag.specs.declared.update.BagUpdate.TheVariants.{Add, Remove}

-- one occurrence more; a count stays at the end of its 64 bits
abbrev pub one_more : ℕ → ℕ
one_more occurrences = min (occurrences + 1) (2 ^ 64 - 1)

-- one occurrence less; a count that stands at its end doesn't know how many there are, so it stays
-- there
abbrev pub one_less : ℕ → ℕ
one_less occurrences = if occurrences == 2 ^ 64 - 1 then occurrences else occurrences - 1

module _ {T : Type 0} where
  -- all occurrences; the sum stays at its end too
  abbrev pub size : List (T × ℕ) → ℕ
  size pairs = min (sum_by (λ pair. pair.1) pairs) (2 ^ 64 - 1)

  -- the answer for the rest of the updates, or a refusal at this index where this update gives no
  -- bag
  abbrev pub and_then : ℕ → Option (List (T × ℕ)) → (List (T × ℕ) → Result (List (T × ℕ)) ℕ)
      → Result (List (T × ℕ)) ℕ
  and_then at None rest = Err at
  and_then at (Some pairs) rest = rest pairs

  module _ (cmp : T → T → Ordering) where
    -- the items ascend strictly, and each occurs
    pub record IsBag (pairs : List (T × ℕ)) : Type 0 where
      pub ascends : Ascends cmp pairs
      pub occur : AllByRecursion (λ pair. 0 < pair.1) pairs

    -- how often the item occurs
    abbrev pub count : T → List (T × ℕ) → ℕ
    count item [] = 0
    count item (pair ∷ rest) = if is_eq (cmp pair.0 item) then pair.1 else count item rest

    -- with one occurrence more: of the item that is there, or of a new one at its place in the
    -- order
    abbrev pub with_one_more : T → List (T × ℕ) → List (T × ℕ)
    with_one_more item [] = (item, 1) ∷ []
    with_one_more item (pair ∷ rest) = match_ordering (cmp pair.0 item)
        (pair ∷ with_one_more item rest)
        ((pair.0, one_more pair.1) ∷ rest)
        ((item, 1) ∷ pair ∷ rest)

    -- with one occurrence less, or None where there is none
    abbrev pub with_one_less : T → List (T × ℕ) → Option (List (T × ℕ))
    with_one_less item [] = None
    with_one_less item (pair ∷ rest) =
        if is_eq (cmp pair.0 item)
        then Some (if pair.1 == 1 then rest else (pair.0, one_less pair.1) ∷ rest)
        else option_map (λ less. pair ∷ less) (with_one_less item rest)

    -- the bag after the update, or None where the update is refused
    abbrev pub updated : BagUpdate T → List (T × ℕ) → Option (List (T × ℕ))
    updated (Add item) pairs = Some (with_one_more item pairs)
    updated (Remove item) pairs = with_one_less item pairs

    -- the update is an add of an item that doesn't occur yet
    abbrev pub adds_new : BagUpdate T → List (T × ℕ) → Bool
    adds_new (Add item) pairs = count item pairs == 0
    adds_new (Remove item) pairs = false

    -- the bag after the updates one by one, or the index of the first that is refused, where they
    -- are numbered from `at`
    abbrev pub replayed : ℕ → List (BagUpdate T) → List (T × ℕ) → Result (List (T × ℕ)) ℕ
    replayed at [] pairs = Ok pairs
    replayed at (update ∷ rest) pairs = and_then at (updated update pairs) (replayed (at + 1) rest)

    -- What a commit makes of updates that were made at the view: they are applied in order at the
    -- place, and the first removal without an occurrence is refused.
    abbrev pub merged : List (T × ℕ) → List (T × ℕ) → List (BagUpdate T) → Result (List (T × ℕ)) ℕ
    merged view place updates = replayed 0 updates place

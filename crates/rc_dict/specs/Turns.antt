-- Two updates, or the merges of two sessions, one after the other.
use Rattle.std.specs.Prelude.{◌≡◌, ℕ, false, List, Option, option_and_then, Result, Ok, Err}
use Rattle.std.specs.declared.cmp.Ordering.{Ordering}
use Rattle.std.specs.List.{AllByRecursion}
use Rattle.std.specs.Ordering.{is_eq}
use Rattle.rc_dict.specs.Dict.{key_of, updated, merged}
use Rattle.rc_dict.specs.declared.update.DictUpdate.{DictUpdate}

module _ {K T : Type 0} (cmp : K → K → Ordering) where
  -- the dictionary after the first update and then the second, or None where one of the two is
  -- refused
  abbrev pub updated_twice : DictUpdate K T → DictUpdate K T → List (K × T) → Option (List (K × T))
  updated_twice first second pairs = option_and_then (updated cmp second) (updated cmp first pairs)

  -- no update of the first session and update of the second have one key
  abbrev pub AreApart : List (DictUpdate K T) → List (DictUpdate K T) → Type 0
  AreApart first second = AllByRecursion (λ one.
      AllByRecursion (λ other. is_eq (cmp (key_of one) (key_of other)) ≡ false) second) first

  module _ (value_cmp : T → T → Ordering) where
    -- the merge at the place that an earlier merge made, or that merge's refusal
    abbrev pub merged_after : Result (List (K × T)) ℕ → List (K × T) → List (DictUpdate K T)
        → Result (List (K × T)) ℕ
    merged_after (Err at) view updates = Err at
    merged_after (Ok place) view updates = merged cmp value_cmp view place updates

    -- the merge of the first session's updates and then that of the second's, where both worked at
    -- the view
    abbrev pub merged_twice : List (K × T) → List (K × T) → List (DictUpdate K T)
        → List (DictUpdate K T) → Result (List (K × T)) ℕ
    merged_twice view place first second =
        merged_after (merged cmp value_cmp view place first) view second

-- Lists in the order of names.
use Rattle.std.specs.Prelude.{ℕ, List, Option}
use Rattle.std.specs.Ordering.{nat_cmp}
use Rattle.std.specs.List.Sorted.{IsStrictlySortedBy}
use Rattle.sorted_pairs.specs.Place.{Ascends}
use Rattle.gem_object.specs.rc_dict.Dict as dicts

-- each name is below those after it, so no name stands twice
abbrev pub Ascend : List ℕ → Type 0
Ascend names = IsStrictlySortedBy nat_cmp names

module _ {T : Type 0} where
  -- the same of the names of pairs
  abbrev pub AscendByName : List (ℕ × T) → Type 0
  AscendByName pairs = Ascends nat_cmp pairs

  -- what stands under the name, if anything does
  abbrev pub under : ℕ → List (ℕ × T) → Option T
  under name pairs = dicts.entry nat_cmp name pairs

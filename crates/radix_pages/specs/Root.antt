-- The root of a map, and the bounds of its keys.
use Rattle.std.specs.Prelude.{◌≡◌, ℕ, ◌*◌, ◌^◌, ◌<◌, ◌≤◌, None}
use Rattle.std.specs.Ordering.{nat_cmp}
use Rattle.std.specs.FinMap.{FinMap, get, len}
use Rattle.radix_pages.specs.declared.node.Slot.{Slot}
use Rattle.radix_pages.specs.Node.{SlotFits, slot_map}

-- the map has nothing from the number n on
abbrev pub AllBelow : {X : Type 0} → ℕ → FinMap nat_cmp X → Type 0
AllBelow n m = (key : ℕ) → n ≤ key → get m key ≡ None

pub record IsRoot {X : Type 0} (bits levels : ℕ) (root : Slot X) (count : ℕ) : Type 0 where
  pub some_bits : 0 < bits
  pub few_bits : bits ≤ 8
  pub some_levels : 0 < levels
  pub in_range : bits * levels ≤ 48
  pub fits : SlotFits bits levels root
  pub below : AllBelow (2 ^ (bits * levels)) (slot_map root)
  pub counted : count ≡ len (slot_map root)

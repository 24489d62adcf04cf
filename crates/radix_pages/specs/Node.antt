-- The map that a node's slots make, and how a node is built.
use Rattle.std.specs.Prelude.{◌≡◌, ℕ, ◌+◌, ◌*◌, ◌/◌, ◌%◌, ◌^◌, ◌<◌, ◌≤◌, max, List, length, Option, None, Some}
use Rattle.std.specs.List.{All}
use Rattle.std.proofs.Common.{get_or}
use Rattle.std.specs.Ordering.{nat_cmp}
use Rattle.std.specs.FinMap.{FinMap, empty, get}
use Rattle.radix_pages.specs.declared.node.Slot.{Slot}
use Rattle.radix_pages.specs.declared.node.Slot.TheVariants.{Empty, Value, Branch}
use Rattle.radix_pages.specs.Table.{table}

-- what a slot has at the rest of a key
abbrev pub slot_at : {X : Type 0} → Slot X → ℕ → Option X
slot_at Empty rest = None
slot_at (Value v) rest = Some v.value
slot_at (Branch node) rest = get node.value.map rest

-- what the slots of a node have at a key: its upper digit names the slot, and its rest is a key of
-- what stands there
abbrev pub slots_at : {X : Type 0} → ℕ → ℕ → List (Slot X) → ℕ → Option X
slots_at bits height slots key =
    slot_at (get_or slots (key / 2 ^ (bits * height)) Empty) (key % 2 ^ (bits * height))

-- the map of a node with these slots
abbrev pub map_of : {X : Type 0} → ℕ → ℕ → List (Slot X) → FinMap nat_cmp X
map_of bits height slots = table (2 ^ (bits * (height + 1))) (slots_at bits height slots)

-- what may stand in a slot of a node of this height: values at the height 0, and above it nodes
-- that are one lower
abbrev pub SlotFits : {X : Type 0} → ℕ → ℕ → Slot X → Type 0
SlotFits bits height Empty = Unit {0}
SlotFits bits height (Value v) = height ≡ 0
SlotFits bits height (Branch node) = (node.value.bits ≡ bits) × (node.value.height + 1 ≡ height)

pub record IsWellBuilt {X : Type 0} (bits height : ℕ) (slots : List (Slot X)) : Type 0 where
  pub some_bits : 0 < bits
  pub in_range : bits * (height + 1) ≤ 48
  pub few_slots : length slots ≤ 2 ^ bits
  pub slots_fit : All (SlotFits bits height) slots

-- the map in a slot that has no value
abbrev pub slot_map : {X : Type 0} → Slot X → FinMap nat_cmp X
slot_map Empty = empty
slot_map (Value v) = empty
slot_map (Branch node) = node.value.map

-- the number is a key of what stands in the slot; a value has the key 0 alone
abbrev pub SlotTakes : {X : Type 0} → Slot X → ℕ → Type 0
SlotTakes Empty key = Unit {0}
SlotTakes (Value v) key = key ≡ 0
SlotTakes (Branch node) key = key < 2 ^ (node.value.bits * (node.value.height + 1))

-- the others have the same in each slot, and are no shorter than these; they are longer at most up
-- to the length that was asked for
pub record SameSlots {X : Type 0} (asked : ℕ) (slots others : List (Slot X)) : Type 0 where
  pub each : (at : ℕ) → get_or others at Empty ≡ get_or slots at Empty
  pub longer : length slots ≤ length others
  pub no_longer : length others ≤ max asked (length slots)

-- two slots with the same in them
abbrev pub SlotClones : {X : Type 0} → Slot X → Slot X → Type 0
SlotClones Empty Empty = Unit {0}
SlotClones (Value v) (Value w) = w.value ≡ v.value
SlotClones (Branch node) (Branch other) = other.value ≡ node.value
SlotClones Empty (Value w) = ⊥
SlotClones Empty (Branch other) = ⊥
SlotClones (Value v) Empty = ⊥
SlotClones (Value v) (Branch other) = ⊥
SlotClones (Branch node) Empty = ⊥
SlotClones (Branch node) (Value w) = ⊥

-- The nodes below a node are lower than it.
use Rattle.std.specs.Prelude.{ℕ, ◌≤◌, max, List, [], ◌∷◌}
use Rattle.std.specs.List.{AllByRecursion}
use Rattle.std.proofs.Common.{arith}
use Rattle.std.proofs.lemmas.List.Elements.{recursion_from_All}
use denote.Param.Weighed.{most}
use Rattle.radix_pages.specs.declared.node.Slot.{Slot}
use Rattle.radix_pages.specs.declared.node.Slot.TheVariants.{Empty, Value, Branch}
use Rattle.radix_pages.specs.declared.node.Node.TheDeep.{deep-Slot}
use Rattle.radix_pages.specs.Node.{SlotFits, IsWellBuilt}

slot_below : {X : Type 0} (bits height : ℕ) (slot : Slot X) → SlotFits bits height slot
    → deep-Slot X slot ≤ height
slot_below bits height Empty fits = omega arith
slot_below bits height (Value v) fits = omega arith
slot_below bits height (Branch node) fits = omega (arith, fits.1)

slots_below : {X : Type 0} (bits height : ℕ) (slots : List (Slot X))
    → AllByRecursion (SlotFits bits height) slots → most (deep-Slot X) slots ≤ height
slots_below bits height [] fits = omega arith
slots_below bits height (slot ∷ slots) fits =
    omega (arith, slot_below bits height slot fits.0, slots_below bits height slots fits.1)

pub child_below : {X : Type 0} (bits height : ℕ) (slots : List (Slot X))
    → IsWellBuilt bits height slots → max (most (deep-Slot X) slots) 0 ≤ height
child_below bits height slots built =
    omega (arith, slots_below bits height slots (recursion_from_All _ _ built.slots_fit))

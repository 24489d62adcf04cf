-- What the slots of a node have at each key, before a change and after it.
use Rattle.std.proofs.Common.{◌≡◌, ◌≢◌, ℕ, ◌+◌, ◌*◌, ◌/◌, ◌%◌, ◌^◌, ◌<◌, ◌≤◌, List, [], length, set, get_or, None, Some, Global, refl, sym, ap, subst, ◌∙◌, inl, inr, arith}
use Rattle.std.proofs.lemmas.Bool.{cases_eq, cases_lt}
use Rattle.std.proofs.lemmas.List.{length-set, get_or-set_same, get_or-set_other, get_or_default, get_or_past}
use Rattle.std.proofs.lemmas.List.Elements.{All-get_or, All-from_get_or, All-set, AllZip-get_or, length_all_zip}
use Rattle.std.proofs.lemmas.Nat.{pow_pos, shr_split, shr_below, mod_below}
use Rattle.std.specs.declared.sync.Arc.{Arc}
use Rattle.std.specs.List.{All, AllZip}
use Rattle.std.specs.Ordering.{nat_cmp}
use Rattle.std.specs.FinMap.{empty, get, insert, get-empty}
use Rattle.radix_pages.specs.declared.node.Slot.{Slot}
use Rattle.radix_pages.specs.declared.node.Slot.TheVariants.{Empty, Value, Branch}
use Rattle.radix_pages.specs.Level.{Level, level}
use Rattle.radix_pages.specs.Node.{slot_at, slots_at, map_of, slot_map, SlotFits, SlotClones, SameSlots, IsWellBuilt}
use Rattle.radix_pages.proofs.Tables.{get-table_below, table_is, same_table, table-insert, get-insert_same, get-insert_other}

wide : (bits height : ℕ) → bits * (height + 1) ≡ bits + bits * height
wide bits height = omega arith

-- keys with the same upper digit and the same rest are the same
same_digits : (q k s : ℕ) → q / 2 ^ s ≡ k / 2 ^ s → q % 2 ^ s ≡ k % 2 ^ s → q ≡ k
same_digits q k s upper rest =
    sym (shr_split q s) ∙ ap (λ (d : ℕ). d * 2 ^ s + q % 2 ^ s) upper
    ∙ ap (λ (r : ℕ). k / 2 ^ s * 2 ^ s + r) rest ∙ shr_split k s

pub digit_below : (bits height k : ℕ) → k < 2 ^ (bits * (height + 1))
    → k / 2 ^ (bits * height) < 2 ^ bits
digit_below bits height k below =
    shr_below k bits (bits * height) (subst (λ (n : ℕ). k < 2 ^ n) (wide bits height) below)

pub rest_below : (k s : ℕ) → k % 2 ^ s < 2 ^ s
rest_below k s = mod_below k (2 ^ s) (pow_pos s)

-- a slot without a value has what its map has
pub slot_at-map : {X : Type 0} (bits height : ℕ) (slot : Slot X) (rest : ℕ)
    → SlotFits bits (height + 1) slot → slot_at slot rest ≡ get (slot_map slot) rest
slot_at-map bits height Empty rest fits = sym (get-empty nat_cmp rest)
slot_at-map bits height (Value v) rest fits = absurd (omega (arith, fits))
slot_at-map bits height (Branch node) rest fits = refl

module _ {X : Type 0} (bits height : ℕ) where
  -- each slot fits, also past the end
  pub fits_at : (slots : List (Slot X)) (at : ℕ) → All (SlotFits bits height) slots
      → SlotFits bits height (get_or slots at Empty)
  fits_at slots at fits = elim (cases_lt at (length slots)) [
    | inl within ↦ All-get_or (SlotFits bits height) slots at Empty within fits
    | inr past ↦ subst (SlotFits {X = X} bits height) (sym (get_or_past slots at Empty past)) tt
  ]

  -- slots that have the same at each place make the same map
  pub same_map_of : (slots others : List (Slot X))
      → ((at rest : ℕ) → slot_at (get_or others at Empty) rest ≡ slot_at (get_or slots at Empty) rest)
      → map_of bits height others ≡ map_of bits height slots
  same_map_of slots others same =
      same_table _ _ _ (λ q within. same (q / 2 ^ (bits * height)) (q % 2 ^ (bits * height)))

  -- one slot changes: it has the value at the rest of the key, and all else as before
  set_slot : (slots others : List (Slot X)) (k : ℕ) (v : X) → k < 2 ^ (bits * (height + 1))
      → slot_at (get_or others (k / 2 ^ (bits * height)) Empty) (k % 2 ^ (bits * height)) ≡ Some v
      → ((rest : ℕ) → rest < 2 ^ (bits * height) → rest ≢ k % 2 ^ (bits * height)
      → slot_at (get_or others (k / 2 ^ (bits * height)) Empty) rest ≡ slot_at (get_or slots (k / 2 ^ (bits * height)) Empty) rest)
      → ((at : ℕ) → at ≢ k / 2 ^ (bits * height) → get_or others at Empty ≡ get_or slots at Empty)
      → map_of bits height others ≡ insert (map_of bits height slots) k v
  set_slot slots others k v below here beside elsewhere =
      let s : ℕ = bits * height in
      table-insert (2 ^ (bits * (height + 1))) (slots_at bits height slots) (slots_at bits height others) k v below here (λ q within apart.
      elim (cases_eq (q / 2 ^ s) (k / 2 ^ s)) [
        | inl same ↦ ap (λ (at : ℕ). slot_at (get_or others at Empty) (q % 2 ^ s)) same
            ∙ beside (q % 2 ^ s) (rest_below q s) (λ rest. apart (same_digits q k s same rest))
            ∙ sym (ap (λ (at : ℕ). slot_at (get_or slots at Empty) (q % 2 ^ s)) same)
        | inr other ↦ ap (λ (slot : Slot X). slot_at slot (q % 2 ^ s)) (elsewhere (q / 2 ^ s) other)
      ])

-- a node without slots
pub empty_map : {X : Type 0} (bits height : ℕ) (slots : List (Slot X)) → slots ≡ []
    → map_of bits height slots ≡ empty
empty_map {X} bits height slots none = table_is (2 ^ (bits * (height + 1))) (slots_at bits height slots) empty
    (λ q within. ap (λ (s : List (Slot X)). slots_at bits height s q) none ∙ sym (get-empty nat_cmp q))
    (λ q past. get-empty nat_cmp q)

-- a clone has the same, and fits where its source does
slot_at-clone : {X : Type 0} (slot other : Slot X) (rest : ℕ) → SlotClones slot other
    → slot_at other rest ≡ slot_at slot rest
slot_at-clone Empty Empty rest same = refl
slot_at-clone (Value v) (Value w) rest same = ap Some same
slot_at-clone (Branch node) (Branch other) rest same = ap (λ l. get l.map rest) same
slot_at-clone Empty (Value w) rest same = absurd same
slot_at-clone Empty (Branch other) rest same = absurd same
slot_at-clone (Value v) Empty rest same = absurd same
slot_at-clone (Value v) (Branch other) rest same = absurd same
slot_at-clone (Branch node) Empty rest same = absurd same
slot_at-clone (Branch node) (Value w) rest same = absurd same

fits-clone : {X : Type 0} (bits height : ℕ) (slot other : Slot X) → SlotClones slot other
    → SlotFits bits height slot → SlotFits bits height other
fits-clone bits height Empty Empty same fits = tt
fits-clone bits height (Value v) (Value w) same fits = fits
fits-clone {X} bits height (Branch node) (Branch other) same fits = subst (λ (l : Level X). (l.bits ≡ bits) × (l.height + 1 ≡ height)) (sym same) fits
fits-clone bits height Empty (Value w) same fits = absurd same
fits-clone bits height Empty (Branch other) same fits = absurd same
fits-clone bits height (Value v) Empty same fits = absurd same
fits-clone bits height (Value v) (Branch other) same fits = absurd same
fits-clone bits height (Branch node) Empty same fits = absurd same
fits-clone bits height (Branch node) (Value w) same fits = absurd same

module _ {X : Type 0} (bits height : ℕ) (slots copies : List (Slot X)) (same : AllZip SlotClones slots copies) where
  clone_at : (at rest : ℕ)
      → slot_at (get_or copies at Empty) rest ≡ slot_at (get_or slots at Empty) rest
  clone_at at rest = elim (cases_lt at (length slots)) [
    | inl within ↦ slot_at-clone (get_or slots at Empty) (get_or copies at Empty) rest (AllZip-get_or SlotClones slots copies at Empty Empty same within)
    | inr past ↦ ap (λ (slot : Slot X). slot_at slot rest) (get_or_past copies at Empty (omega (arith, length_all_zip SlotClones slots copies same)) ∙ sym (get_or_past slots at Empty past))
  ]

  pub map_of-clone : map_of bits height copies ≡ map_of bits height slots
  map_of-clone = same_map_of bits height slots copies clone_at

  pub clone_built : IsWellBuilt bits height slots → IsWellBuilt bits height copies
  clone_built built =
      let long : length slots ≡ length copies = length_all_zip SlotClones slots copies same in
      record {
        some_bits = built.some_bits;
        in_range = built.in_range;
        few_slots = omega (arith, built.few_slots);
        slots_fit = All-from_get_or (SlotFits bits height) copies Empty (λ at within.
            fits-clone bits height (get_or slots at Empty) (get_or copies at Empty)
            (AllZip-get_or SlotClones slots copies at Empty Empty same (omega arith))
            (fits_at bits height slots at built.slots_fit));
      }

-- what a node finds in its slots
module _ {X : Type 0} (bits height : ℕ) (slots : List (Slot X)) (l : Level X)
    (view : level bits height (map_of bits height slots) ≡ l) where
  pub view_below : (k : ℕ) → k < 2 ^ (l.bits * (l.height + 1)) → k < 2 ^ (bits * (height + 1))
  view_below k below = subst (λ (m : Level X). k < 2 ^ (m.bits * (m.height + 1))) (sym view) below

  view_at : (k : ℕ) → k < 2 ^ (l.bits * (l.height + 1)) → slots_at bits height slots k ≡ get l.map k
  view_at k below =
      sym (get-table_below (2 ^ (bits * (height + 1))) (slots_at bits height slots) k (view_below k below))
      ∙ ap (λ (m : Level X). get m.map k) view

  -- the slot that was found, as it was matched
  pub found_view : (k : ℕ) (found slot : Slot X) → k < 2 ^ (l.bits * (l.height + 1))
      → k / 2 ^ (bits * height) < length slots
      → found ≡ get_or slots (k / 2 ^ (bits * height)) found → found ≡ slot
      → slot_at slot (k % 2 ^ (bits * height)) ≡ get l.map k
  found_view k found slot below within here is =
      let at : ℕ = k / 2 ^ (bits * height) in
      ap (λ (s : Slot X). slot_at s (k % 2 ^ (bits * height)))
      (sym is ∙ here ∙ get_or_default slots at found Empty within)
      ∙ view_at k below

  pub none_view : (k : ℕ) → k < 2 ^ (l.bits * (l.height + 1))
      → length slots ≤ k / 2 ^ (bits * height) → None ≡ get l.map k
  none_view k below past =
      ap (λ (s : Slot X). slot_at s (k % 2 ^ (bits * height)))
      (sym (get_or_past slots (k / 2 ^ (bits * height)) Empty past))
      ∙ view_at k below

-- a key is set in a node, with room for its slot made before
module _ {X : Type 0} (bits height : ℕ) (slots roomy : List (Slot X)) (k : ℕ) (v : X)
    (below : k < 2 ^ (bits * (height + 1)))
    (same : SameSlots (k / 2 ^ (bits * height) + 1) slots roomy) where
  -- the slot of the key, and its rest
  abbrev digit : ℕ
  digit = k / 2 ^ (bits * height)

  abbrev low : ℕ
  low = k % 2 ^ (bits * height)

  -- the slots with another one at the key
  abbrev with_slot : Slot X → List (Slot X)
  with_slot slot = set roomy digit slot

  pub room_built : IsWellBuilt bits height slots → IsWellBuilt bits height roomy
  room_built built = record {
    some_bits = built.some_bits;
    in_range = built.in_range;
    few_slots = omega (arith, built.few_slots, same.no_longer, digit_below bits height k below);
    slots_fit = All-from_get_or (SlotFits bits height) roomy Empty (λ at within.
        subst (SlotFits {X = X} bits height) (sym (same.each at)) (fits_at bits height slots at built.slots_fit));
  }

  pub set_built : (slot : Slot X) → SlotFits bits height slot → IsWellBuilt bits height slots
      → IsWellBuilt bits height (with_slot slot)
  set_built slot fits built = record {
    some_bits = built.some_bits;
    in_range = built.in_range;
    few_slots = omega (arith, (room_built built).few_slots, length-set roomy digit slot);
    slots_fit = All-set (SlotFits bits height) roomy digit slot fits (room_built built).slots_fit;
  }

  module _ (slot : Slot X) (room : digit + 1 ≤ length roomy) where
    here : get_or (with_slot slot) digit Empty ≡ slot
    here = get_or-set_same roomy digit slot Empty (omega (arith, room))

    there : (at : ℕ) → at ≢ digit
        → get_or (with_slot slot) at Empty ≡ get_or slots at Empty
    there at apart = get_or-set_other roomy digit at slot Empty apart ∙ same.each at

    changed : slot_at slot low ≡ Some v
        → ((rest : ℕ) → rest < 2 ^ (bits * height) → rest ≢ low
        → slot_at slot rest ≡ slot_at (get_or slots digit Empty) rest)
        → map_of bits height (with_slot slot) ≡ insert (map_of bits height slots) k v
    changed has beside = set_slot bits height slots (with_slot slot) k v below
        (ap (λ (s : Slot X). slot_at s low) here ∙ has)
        (λ rest within apart. ap (λ (s : Slot X). slot_at s rest) here ∙ beside rest within apart)
        there

    unchanged : ((rest : ℕ) → slot_at slot rest ≡ slot_at (get_or slots digit Empty) rest)
        → map_of bits height (with_slot slot) ≡ map_of bits height slots
    unchanged beside = same_map_of bits height slots (with_slot slot) (λ at rest.
        elim (cases_eq at digit) [
          | inl is ↦ ap (λ (n : ℕ). slot_at (get_or (with_slot slot) n Empty) rest) is
              ∙ ap (λ (s : Slot X). slot_at s rest) here ∙ beside rest
              ∙ sym (ap (λ (n : ℕ). slot_at (get_or slots n Empty) rest) is)
          | inr apart ↦ ap (λ (s : Slot X). slot_at s rest) (there at apart)
        ])

  -- in a leaf
  pub set_leaf : (value : Arc X Global) → height ≡ 0 → value.value ≡ v
      → digit + 1 ≤ length roomy
      → map_of bits height (with_slot (Value value)) ≡ insert (map_of bits height slots) k v
  set_leaf value leaf is room =
      let none : bits * 0 ≡ 0 = omega arith in
      let one : 2 ^ (bits * height) ≡ 1 = ap (λ (h : ℕ). 2 ^ (bits * h)) leaf ∙ ap (λ (n : ℕ). 2 ^ n) none in
      changed (Value value) room (ap Some is) (λ rest within apart.
      absurd (apart (omega (arith, one, within, rest_below k (bits * height)))))

  module _ (lower : ℕ) (above : height ≡ lower + 1) (old slot : Slot X) (room : digit + 1 ≤ length roomy)
      (was : old ≡ get_or roomy digit old)
      (built : IsWellBuilt bits height slots) where
    old_is : old ≡ get_or slots digit Empty
    old_is = was ∙ get_or_default roomy digit old Empty (omega (arith, room)) ∙ same.each digit

    pub old_fits : SlotFits bits (lower + 1) old
    old_fits = subst (λ (s : Slot X). SlotFits bits (lower + 1) s) (sym old_is)
        (subst (λ (h : ℕ). SlotFits bits h (get_or slots digit Empty)) above
        (fits_at bits height slots digit built.slots_fit))

    old_at : (rest : ℕ)
        → get (slot_map old) rest ≡ slot_at (get_or slots digit Empty) rest
    old_at rest = sym (slot_at-map bits lower old rest old_fits) ∙ ap (λ (s : Slot X). slot_at s rest) old_is

    -- in a node below
    pub set_branch : SlotFits bits (lower + 1) slot
        → slot_map slot ≡ insert (slot_map old) low v
        → map_of bits height (with_slot slot) ≡ insert (map_of bits height slots) k v
    set_branch fits is =
        let at_rest = λ (rest : ℕ). slot_at-map bits lower slot rest fits ∙ ap (λ m. get m rest) is in
        changed slot room
        (at_rest low ∙ get-insert_same (slot_map old) low v low refl)
        (λ rest within apart.
        at_rest rest ∙ get-insert_other (slot_map old) low v rest apart ∙ old_at rest)

    pub keep_branch : SlotFits bits (lower + 1) slot → slot_map slot ≡ slot_map old
        → map_of bits height (with_slot slot) ≡ map_of bits height slots
    keep_branch fits is = unchanged slot room (λ rest.
        slot_at-map bits lower slot rest fits ∙ ap (λ m. get m rest) is ∙ old_at rest)

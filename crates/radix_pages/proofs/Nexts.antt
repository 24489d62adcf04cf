-- How far a search for the next key has come in a node.
use Rattle.std.proofs.Common.{◌≡◌, ℕ, ◌+◌, ◌-◌, ◌*◌, ◌/◌, ◌%◌, ◌^◌, ◌<◌, ◌≤◌, List, length, get_or, None, Some, sym, ap, subst, ◌∙◌, inl, inr, arith}
use Rattle.std.proofs.lemmas.Bool.{cases_lt}
use Rattle.std.proofs.lemmas.List.{get_or_default, get_or_past}
use Rattle.std.proofs.lemmas.Nat.{pow_pos, shr_split, mod_below, div-add-mod', same_from_place, le-div, mul-add-lt, pow-add}
use Rattle.std.specs.List.{All}
use Rattle.radix_pages.specs.declared.node.Slot.{Slot}
use Rattle.radix_pages.specs.declared.node.Slot.TheVariants.{Empty, Value, Branch}
use Rattle.radix_pages.specs.Next.{IsNext, IsNextAt, NoneBetween}
use Rattle.radix_pages.specs.Node.{slot_at, slots_at, map_of, SlotFits, SlotTakes}
use Rattle.radix_pages.proofs.Slots.{rest_below, fits_at}
use Rattle.radix_pages.proofs.Tables.{get-table_below, get-table_above}

-- how high the node in a slot is, and one more; the measure of the search in a slot
abbrev pub height_in : {X : Type 0} → Slot X → ℕ
height_in Empty = 0
height_in (Value v) = 0
height_in (Branch node) = node.value.height + 1

pub height_fits : {X : Type 0} (bits height : ℕ) (slot : Slot X) → SlotFits bits height slot
    → height_in slot ≤ height
height_fits bits height Empty fits = omega arith
height_fits bits height (Value v) fits = omega arith
height_fits bits height (Branch node) fits = omega (arith, fits.1)

-- a rest of a key in a slot
pub takes_rest : {X : Type 0} (bits height : ℕ) (slot : Slot X) (rest : ℕ)
    → SlotFits bits height slot → rest < 2 ^ (bits * height) → SlotTakes slot rest
takes_rest bits height Empty rest fits below = tt
takes_rest bits height (Value v) rest fits below =
    let none : bits * 0 ≡ 0 = omega arith in
    let one : 2 ^ (bits * height) ≡ 1 = ap (λ (h : ℕ). 2 ^ (bits * h)) fits ∙ ap (λ (n : ℕ). 2 ^ n) none in
    omega (arith, one, below)
takes_rest bits height (Branch node) rest fits below =
    let same : 2 ^ (bits * height) ≡ 2 ^ (node.value.bits * (node.value.height + 1)) =
    sym (ap (λ (b : ℕ). 2 ^ (b * (node.value.height + 1))) fits.0 ∙ ap (λ (h : ℕ). 2 ^ (bits * h)) fits.1) in
    omega (arith, same, below)

pub rest_taken : {X : Type 0} (bits height : ℕ) (slot : Slot X) (rest : ℕ) (v : X)
    → SlotFits bits height slot → SlotTakes slot rest → slot_at slot rest ≡ Some v
    → rest < 2 ^ (bits * height)
rest_taken bits height Empty rest v fits takes has = cc
rest_taken bits height (Value w) rest v fits takes has = omega (arith, takes, pow_pos (bits * height))
rest_taken bits height (Branch node) rest v fits takes has =
    let same : 2 ^ (bits * height) ≡ 2 ^ (node.value.bits * (node.value.height + 1)) =
    sym (ap (λ (b : ℕ). 2 ^ (b * (node.value.height + 1))) fits.0 ∙ ap (λ (h : ℕ). 2 ^ (bits * h)) fits.1) in
    omega (arith, same, takes)

-- a number within the digit `at`: its digit, and its rest
within_digit : (q at w : ℕ) → 0 < w → at * w ≤ q → q < at * w + w
    → (q / w ≡ at) × (q % w ≡ q - at * w)
within_digit q at w some low high =
    let back : at * w + (q - at * w) ≡ q = omega arith in
    same_from_place (q / w) (q % w) at (q - at * w) w (mod_below q w some) (omega arith) (div-add-mod' q w ∙ sym back)

module _ {X : Type 0} (bits height : ℕ) (slots : List (Slot X)) where
  -- nothing was found from the key up to the rest `from` in the slot `at`
  pub record IsReached (key at from : ℕ) : Type 0 where
    pub from_key : key ≤ at * 2 ^ (bits * height) + from
    pub in_slot : from < 2 ^ (bits * height)
    pub none_yet : NoneBetween (slots_at bits height slots) key (at * 2 ^ (bits * height) + from)

  pub reached_first : (key at from : ℕ) → at ≡ key / 2 ^ (bits * height)
      → from ≡ key % 2 ^ (bits * height) → IsReached key at from
  reached_first key at from at_is from_is =
      let back : at * 2 ^ (bits * height) + from ≡ key =
      ap (λ (d : ℕ). d * 2 ^ (bits * height) + from) at_is
      ∙ ap (λ (r : ℕ). key / 2 ^ (bits * height) * 2 ^ (bits * height) + r) from_is ∙ shr_split key (bits * height) in
      record {
        from_key = omega (arith, back);
        in_slot = omega (arith, from_is, rest_below key (bits * height));
        none_yet = λ q low high. absurd (omega (arith, back, low, high));
      }

  -- the slot that was read
  pub read_slot : (at : ℕ) (slot : Slot X) → at < length slots → slot ≡ get_or slots at slot
      → slot ≡ get_or slots at Empty
  read_slot at slot within is = is ∙ get_or_default slots at slot Empty within

  pub read_fits : (at : ℕ) (slot : Slot X) → at < length slots → slot ≡ get_or slots at slot
      → All (SlotFits bits height) slots → SlotFits bits height slot
  read_fits at slot within is fits =
      subst (λ (s : Slot X). SlotFits bits height s) (sym (read_slot at slot within is))
      (fits_at bits height slots at fits)

  pub in_node : (at rest : ℕ) → at < 2 ^ bits → rest < 2 ^ (bits * height)
      → at * 2 ^ (bits * height) + rest < 2 ^ (bits * (height + 1))
  in_node at rest upper lower =
      let whole : 2 ^ (bits * (height + 1)) ≡ 2 ^ (bits * height) * 2 ^ bits =
      ap (λ (n : ℕ). 2 ^ n) (omega arith) ∙ pow-add 2 (bits * height) bits in
      omega (arith, whole, mul-add-lt at (2 ^ (bits * height)) rest (2 ^ bits) upper lower)

  module _ (key at from : ℕ) (slot : Slot X) (is : slot ≡ get_or slots at Empty) (reached : IsReached key at from) where
    -- nothing up to a rest in the slot
    up_to : (to q : ℕ) → to ≤ 2 ^ (bits * height) → NoneBetween (slot_at slot) from to → key ≤ q
        → q < at * 2 ^ (bits * height) + to → slots_at bits height slots q ≡ None
    up_to to q short none low high = elim (cases_lt q (at * 2 ^ (bits * height) + from)) [
      | inl before ↦ reached.none_yet q low before
      | inr after ↦
          let w : ℕ = 2 ^ (bits * height) in
          let digit = within_digit q at w (pow_pos (bits * height)) (omega arith) (omega arith) in
          ap (λ (d : ℕ). slot_at (get_or slots d Empty) (q % w)) digit.0
          ∙ ap (λ (s : Slot X). slot_at s (q % w)) (sym is)
          ∙ none (q % w) (omega (arith, digit.1, after)) (omega (arith, digit.1, high))
    ]

    -- nothing in this slot
    pub reached_more : IsNextAt (slot_at slot) from None → IsReached key (at + 1) 0
    reached_more none =
        let w : ℕ = 2 ^ (bits * height) in
        let more : (at + 1) * w ≡ at * w + w = omega arith in
        record {
          from_key = omega (arith, more, reached.from_key, reached.in_slot);
          in_slot = pow_pos (bits * height);
          none_yet = λ q low high. up_to w q (omega arith) (λ r above below. none r above) low (omega (arith, more, high));
        }

    -- the next key is in this slot
    pub found_here : (rest : ℕ) (v : X) → rest < 2 ^ (bits * height) → at < 2 ^ bits
        → IsNextAt (slot_at slot) from (Some (rest, v))
        → IsNext (map_of bits height slots) key (Some (at * 2 ^ (bits * height) + rest, v))
    found_here rest v short upper next =
        let w : ℕ = 2 ^ (bits * height) in
        let n : ℕ = 2 ^ (bits * (height + 1)) in
        let f = slots_at bits height slots in
        let found : ℕ = at * w + rest in
        let within : found < n = in_node at rest upper short in
        let digit = within_digit found at w (pow_pos (bits * height)) (omega arith) (omega arith) in
        let same : found % w ≡ rest = digit.1 ∙ omega arith in (
          omega (arith, reached.from_key, next.0),
          (
            get-table_below n f found within
                ∙ ap (λ (d : ℕ). slot_at (get_or slots d Empty) (found % w)) digit.0
                ∙ ap (λ (s : Slot X). slot_at s (found % w)) (sym is)
                ∙ ap (slot_at slot) same ∙ next.1.0,
            λ q low high. get-table_below n f q (omega arith) ∙ up_to rest q (omega arith) next.1.1 low high,
          ),
        )

  -- no slot is left
  pub none_left : (key at from : ℕ) → IsReached key at from → length slots ≤ at
      → IsNext (map_of bits height slots) key None
  none_left key at from reached past q low = elim (cases_lt q (2 ^ (bits * (height + 1)))) [
    | inr above ↦ get-table_above (2 ^ (bits * (height + 1))) (slots_at bits height slots) q above
    | inl within ↦ get-table_below (2 ^ (bits * (height + 1))) (slots_at bits height slots) q within
        ∙ elim (cases_lt q (at * 2 ^ (bits * height) + from)) [
          | inl before ↦ reached.none_yet q low before
          | inr after ↦
              let digit : at ≤ q / 2 ^ (bits * height) = le-div at q (2 ^ (bits * height)) (pow_pos (bits * height)) (omega arith) in
              ap (λ (slot : Slot X). slot_at slot (q % 2 ^ (bits * height))) (get_or_past slots (q / 2 ^ (bits * height)) Empty (omega arith))
        ]
  ]

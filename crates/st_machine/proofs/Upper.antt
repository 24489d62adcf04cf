-- The uppermost items of a stack.
use Rattle.std.proofs.Common.{◌≡◌, ◌∙◌, sym, ap, ℕ, ◌+◌, ◌-◌, ◌≤◌, List, ◌++◌, length, reverse, take, drop, arith, length-drop}
use Rattle.std.proofs.lemmas.List.{reverse-append, reverse-reverse, length-reverse, take-append-drop, take_at, drop_at, drop-drop, drop-take, take_rest}

module _ {A : Type 0} where
  turned : (ys : List A) (left : ℕ) → reverse ys ≡ reverse (drop left ys) ++ reverse (take left ys)
  turned ys left = ap reverse (sym (take-append-drop left ys)) ∙ reverse-append (take left ys) (drop left ys)

  upper_length : (ys : List A) (left count : ℕ) → left + count ≡ length ys → length (reverse (drop left ys)) ≡ count
  upper_length ys left count whole =
      let rest : length ys - left ≡ count = omega (arith, whole) in
      length-reverse (drop left ys) ∙ (length-drop left ys ∙ rest)

  taken : (ys : List A) (left count : ℕ) → left + count ≡ length ys → take count (reverse ys) ≡ reverse (drop left ys)
  taken ys left count whole = ap (take count) (turned ys left)
      ∙ take_at (reverse (drop left ys)) (reverse (take left ys)) count (upper_length ys left count whole)

  dropped : (ys : List A) (left count : ℕ) → left + count ≡ length ys → drop count (reverse ys) ≡ reverse (take left ys)
  dropped ys left count whole = ap (drop count) (turned ys left)
      ∙ drop_at (reverse (drop left ys)) (reverse (take left ys)) count (upper_length ys left count whole)

  module _ (xs own : List A) (base count place : ℕ) (is_own : reverse (drop base xs) ≡ own) (has : count ≤ length own)
      (within : base ≤ length xs) (is_place : place + count ≡ length xs) where
    own_length : length own ≡ length xs - base
    own_length = ap length (sym is_own) ∙ (length-reverse (drop base xs) ∙ length-drop base xs)

    parts : (place - base) + count ≡ length (drop base xs)
    parts =
        let sum : (place - base) + count ≡ length xs - base = omega (arith, own_length, has, within, is_place) in
        sum ∙ sym (length-drop base xs)

    place_is : base + (place - base) ≡ place
    place_is = omega (arith, own_length, has, within, is_place)

    -- what stands from there on
    pub upper_items : drop place xs ≡ reverse (take count own)
    upper_items =
        let there : drop (base + (place - base)) xs ≡ drop place xs = ap (λ (n : ℕ). drop n xs) place_is in
        sym there ∙ (sym (drop-drop (place - base) base xs)
        ∙ (sym (reverse-reverse (drop (place - base) (drop base xs)))
        ∙ ap reverse (sym (taken (drop base xs) (place - base) count parts) ∙ ap (take count) is_own)))

    -- what stands before
    pub rest_items : reverse (drop base (take place xs)) ≡ drop count own
    rest_items =
        let there : take place xs ≡ take (base + (place - base)) xs = ap (λ (n : ℕ). take n xs) (sym place_is) in
        ap (λ (items : List A). reverse (drop base items)) there
        ∙ (ap reverse (drop-take base (place - base) xs)
        ∙ (sym (dropped (drop base xs) (place - base) count parts) ∙ ap (drop count) is_own))

  module _ (xs own : List A) (base count size : ℕ) (is_own : reverse (drop base xs) ≡ own) (has : count ≤ length own)
      (within : base ≤ length xs) (is_size : size ≡ length xs) where
    place_of : (size - count) + count ≡ length xs
    place_of =
        let long : length own ≡ length xs - base = ap length (sym is_own) ∙ (length-reverse (drop base xs) ∙ length-drop base xs) in
        omega (arith, long, has, is_size)

    -- the slice of the uppermost items
    pub upper_slice : (ds : List A) → ds ≡ xs
        → take (length ds - (size - count)) (drop (size - count) ds) ≡ reverse (take count own)
    upper_slice ds same = take_rest ds (size - count)
        ∙ (ap (λ (items : List A). drop (size - count) items) same
        ∙ upper_items xs own base count (size - count) is_own has within place_of)

    -- the items that are taken, and those that stay
    pub upper_taken : (ds : List A) → ds ≡ drop (size - count) xs → ds ≡ reverse (take count own)
    upper_taken ds same = same ∙ upper_items xs own base count (size - count) is_own has within place_of

    pub own_left : (ds : List A) → ds ≡ take (size - count) xs → reverse (drop base ds) ≡ drop count own
    own_left ds same = ap (λ (items : List A). reverse (drop base items)) same
        ∙ rest_items xs own base count (size - count) is_own has within place_of

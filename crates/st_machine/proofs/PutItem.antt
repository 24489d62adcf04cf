-- An item of a stack is replaced.
use Rattle.std.proofs.Common.{◌≡◌, ◌∙◌, sym, ap, ℕ, zero, suc, ◌+◌, ◌-◌, ◌<◌, List, [], ◌∷◌, ◌++◌, length, reverse, drop, set, arith, length-drop}
use Rattle.std.proofs.lemmas.List.{reverse-append, length-reverse, set_at, set-append_left, drop-set-add}

module _ {A : Type 0} where
  turned : (first : A) (rest : List A) → reverse (first ∷ rest) ≡ reverse rest ++ first ∷ []
  turned first rest = reverse-append (first ∷ []) rest

  -- from behind
  set_turned : (ys : List A) (at depth : ℕ) (y : A) → at + suc depth ≡ length ys
      → reverse (set ys at y) ≡ set (reverse ys) depth y
  set_turned [] at depth y whole = absurd (omega (arith, whole))
  set_turned (first ∷ rest) zero depth y whole =
      let long : length (reverse rest) ≡ depth = length-reverse rest ∙ omega (arith, whole) in
      turned y rest ∙ (sym (set_at (reverse rest) first [] y depth long)
      ∙ ap (λ (items : List A). set items depth y) (sym (turned first rest)))
  set_turned (first ∷ rest) (suc at) depth y whole =
      let within : depth < length (reverse rest) = omega (arith, whole, length-reverse rest) in
      turned first (set rest at y)
      ∙ (ap (λ (items : List A). items ++ first ∷ []) (set_turned rest at depth y (omega (arith, whole)))
      ∙ (sym (set-append_left (reverse rest) (first ∷ []) depth y within)
      ∙ ap (λ (items : List A). set items depth y) (sym (turned first rest))))

  -- so many stand there
  pub own_size : (xs own : List A) (base depth size : ℕ) → reverse (drop base xs) ≡ own → size ≡ length xs
      → depth < length own → depth < size - base
  own_size xs own base depth size is_own is_size within =
      let long : length own ≡ length xs - base = ap length (sym is_own) ∙ (length-reverse (drop base xs) ∙ length-drop base xs) in
      omega (arith, long, is_size, within)

  module _ (xs own : List A) (base depth size : ℕ) (y : A) (is_own : reverse (drop base xs) ≡ own)
      (is_size : size ≡ length xs) (within : depth < size - base) where
    place_is : base + (size - 1 - depth - base) ≡ size - 1 - depth
    place_is = omega (arith, within)

    pub put_own : reverse (drop base (set xs (size - 1 - depth) y)) ≡ set own depth y
    put_own =
        let rest : (size - 1 - depth - base) + suc depth ≡ length xs - base = omega (arith, is_size, within) in
        let parts : (size - 1 - depth - base) + suc depth ≡ length (drop base xs) = rest ∙ sym (length-drop base xs) in
        ap (λ (n : ℕ). reverse (drop base (set xs n y))) (sym place_is)
        ∙ (ap reverse (drop-set-add base xs (size - 1 - depth - base) y)
        ∙ (set_turned (drop base xs) (size - 1 - depth - base) depth y parts
        ∙ ap (λ (items : List A). set items depth y) is_own))

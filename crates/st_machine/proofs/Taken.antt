-- Arguments that stand on a stack.
use Rattle.std.proofs.Common.{◌≡◌, ◌∙◌, sym, ap, ℕ, suc, ◌+◌, ◌<◌, ◌≤◌, List, ◌++◌, length, reverse, take, drop, arith, length-drop}
use Rattle.std.proofs.lemmas.List.{reverse-append, reverse-reverse, length-reverse, take_at, drop_at, drop-drop, drop-append-le}

module _ {A : Type 0} where
  -- one item less
  pub one_less : (count : ℕ) (own : List A) → drop 1 (drop count own) ≡ drop (suc count) own
  one_less count own =
      let sum : count + 1 ≡ suc count = omega arith in
      drop-drop 1 count own ∙ ap (λ (n : ℕ). drop n own) sum

  -- where one stands below so many
  pub one_left : (count : ℕ) (own left : List A) → count < length own → left ≡ drop count own → 0 < length left
  one_left count own left within is =
      let rest : length left ≡ length (drop count own) = ap length is in
      omega (arith, rest, length-drop count own, within)

  -- Items were put on top of what stood, the last one uppermost.
  module _ (items rest now : List A) (size : ℕ) (is_size : size ≡ length items)
      (is_now : now ≡ reverse items ++ rest) where
    long : length (reverse items) ≡ size
    long = length-reverse items ∙ sym is_size

    pub put_taken : reverse (take size now) ≡ items
    put_taken = ap (λ (all : List A). reverse (take size all)) is_now
        ∙ (ap reverse (take_at (reverse items) rest size long) ∙ reverse-reverse items)

    pub put_left : drop (suc size) now ≡ drop 1 rest
    put_left = sym (one_less size now) ∙ (ap (λ (all : List A). drop 1 (drop size all)) is_now
        ∙ ap (drop 1) (drop_at (reverse items) rest size long))

  -- where the stack is a part of a list
  pub put_own : (all new own left : List A) (base : ℕ) → reverse (drop base all) ≡ own → base ≤ length all
      → left ≡ all ++ new → reverse (drop base left) ≡ reverse new ++ own
  put_own all new own left base is_own within is_left =
      ap (λ (items : List A). reverse (drop base items)) is_left
      ∙ (ap reverse (drop-append-le base all new within)
      ∙ (reverse-append (drop base all) new ∙ ap (λ (items : List A). reverse new ++ items) is_own))

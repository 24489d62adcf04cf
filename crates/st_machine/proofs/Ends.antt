-- What stands on a stack once an activation has ended.
use Rattle.std.proofs.Common.{◌≡◌, ◌∙◌, refl, sym, ap, ap₂, ℕ, zero, suc, ◌<◌, ◌≤◌, ◌+◌, ◌-◌, List, [], ◌∷◌, ◌++◌, length, reverse, take, drop, get_or, Result, Ok, Err, IfOk, arith, length-append, length-drop}
use Rattle.std.proofs.lemmas.List.{take_at, drop_at, reverse-reverse}
use Rattle.st_machine.specs.Layers.{Layers, ended}

module _ {A : Type 0} where
  -- The one that waited finds all as it was.
  pub ended_begun : (old last : Layers A) (base : ℕ) → base ≡ length old.below
      → last.below ≡ old.below ++ reverse old.own → ended base last ≡ old
  ended_begun old last base is_base is_below =
      let own : reverse (drop base last.below) ≡ old.own =
      ap (λ (items : List A). reverse (drop base items)) is_below
      ∙ (ap reverse (drop_at old.below (reverse old.own) base (sym is_base)) ∙ reverse-reverse old.own) in
      let below : take base last.below ≡ old.below =
      ap (take base) is_below ∙ take_at old.below (reverse old.own) base (sym is_base) in
      ap₂ (λ (first second : List A). record { own = first; below = second }) own below

  pub base_within : (old last : Layers A) (base : ℕ) → base ≡ length old.below
      → last.below ≡ old.below ++ reverse old.own → base ≤ length last.below
  base_within old last base is_base is_below =
      let long : length last.below ≡ length old.below + length (reverse old.own) =
      ap length is_below ∙ length-append old.below (reverse old.own) in
      omega (arith, is_base, long)

  -- The receiver of a message, below its arguments.
  pub receiver_first : (own : List A) (count : ℕ) (none : A) → count < length own
      → drop count own ≡ get_or own count none ∷ drop (suc count) own
  receiver_first [] count none within = absurd (omega (arith, within))
  receiver_first (first ∷ rest) zero none within = refl
  receiver_first (first ∷ rest) (suc count) none within =
      let less : count < length rest = omega (arith, within) in receiver_first rest count none less

  abbrev first_of : A → List A → A
  first_of none [] = none
  first_of none (first ∷ rest) = first

  abbrev rest_of : List A → List A
  rest_of [] = []
  rest_of (first ∷ rest) = rest

  pub receiver_is : (own : List A) (count : ℕ) (none first : A) (rest : List A) → count < length own
      → drop count own ≡ first ∷ rest → first ≡ get_or own count none
  receiver_is own count none first rest within is =
      ap (first_of none) (sym is ∙ receiver_first own count none within)

  pub rest_is : (own : List A) (count : ℕ) (none first : A) (rest : List A) → count < length own
      → drop count own ≡ first ∷ rest → rest ≡ drop (suc count) own
  rest_is own count none first rest within is = ap rest_of (sym is ∙ receiver_first own count none within)

  -- Where the receiver stands below the arguments, something is left once they are taken.
  pub never_empty : (own : List A) (count : ℕ) → count < length own → drop count own ≡ [] → ⊥
  never_empty own count within is =
      let none : length (drop count own) ≡ 0 = ap length is in
      omega (arith, none, length-drop count own, within)

-- What holds whatever the result is.
pub whatever : {T E P : Type 0} (result : Result T E) → P → IfOk result (λ found. P)
whatever (Ok found) holds = holds
whatever (Err ended) holds = tt

-- The same in other words.
pub is_then : {T E A : Type 0} (result : Result T E) (new old other : A) → old ≡ other
    → IfOk result (λ found. new ≡ old) → IfOk result (λ found. new ≡ other)
is_then (Ok found) new old other same is = is ∙ same
is_then (Err stop) new old other same is = tt

-- The measure of the machine's loop, where it goes on.
pub less_forward : (whole size at there : ℕ) → at < size → at < there
    → whole + (size + 1 - there) < whole + (size + 1 - at)
less_forward whole size at there within forward = omega (arith, within, forward)

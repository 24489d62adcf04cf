-- Texts of a length are the same where their ends are, which may overlap, and which are read as numbers.
use Rattle.std.specs.Array.{IsFirstChunk, IsWholeChunk}
use Rattle.std.specs.Int.{Width, w8, w16, w32, w64, from_le_bytes, to_le_bytes}
use Rattle.std.proofs.Common.{◌≡◌, ◌∙◌, refl, sym, ap, ap₂, ℕ, ◌+◌, ◌-◌, ◌<◌, ◌≤◌, true, nat_eq, List, ◌++◌, length, take, drop, get_or, Fits, inl, inr, arith}
use Rattle.std.proofs.lemmas.Bool.{eqb-true, cases_lt}
use Rattle.std.proofs.lemmas.List.{take-append-drop, drop-drop, length-take, get_or-take, get_or-drop, get_or_past}
use Rattle.std.proofs.lemmas.Nat.{le_bytes_2, le_bytes_4, le_bytes_8}

behind : (n k : ℕ) (xs : List ℕ) → k ≤ n → drop (n - k) (drop k xs) ≡ drop n xs
behind n k xs within =
    let there : k + (n - k) ≡ n = omega (arith, within) in
    drop-drop (n - k) k xs ∙ ap (λ (at : ℕ). drop at xs) there

whole : (n k : ℕ) (xs ys : List ℕ) → k ≤ n → take n xs ≡ take n ys → drop k xs ≡ drop k ys → xs ≡ ys
whole n k xs ys within front back = sym (take-append-drop n xs)
    ∙ (ap₂ (λ (a b : List ℕ). a ++ b) front (sym (behind n k xs within)
    ∙ (ap (λ (rest : List ℕ). drop (n - k) rest) back ∙ behind n k ys within)) ∙ take-append-drop n ys)

abbrev AreBytes : List ℕ → Type 0
AreBytes xs = (i : ℕ) → Fits w8 (get_or xs i 0)

abbrev AreSmall : List ℕ → Type 0
AreSmall xs = (i : ℕ) → get_or xs i 0 < 256

front_small : (n : ℕ) (xs : List ℕ) → AreBytes xs → AreSmall (take n xs)
front_small n xs fits i = elim (cases_lt i n) [
  | inl below ↦ rw (get_or-take n xs i 0 below) (omega (arith, fits i))
  | inr past ↦ rw (get_or_past (take n xs) i 0 (omega (arith, length-take n xs))) (omega arith)
]

back_small : (n : ℕ) (xs : List ℕ) → AreBytes xs → AreSmall (drop n xs)
back_small n xs fits i = rw get_or-drop (omega (arith, fits (n + i)))

-- so many bytes are read by numbers of this width
abbrev AreRead : ℕ → Width → Type 0
AreRead n w = (bytes : List ℕ) → length bytes ≡ n → AreSmall bytes → to_le_bytes w (from_le_bytes w bytes) ≡ bytes

pub words : AreRead 8 w64
words bytes long small = le_bytes_8 bytes (from_le_bytes w64 bytes) long small refl

pub half_words : AreRead 4 w32
half_words bytes long small = le_bytes_4 bytes (from_le_bytes w32 bytes) long small refl

pub pairs : AreRead 2 w16
pairs bytes long small = le_bytes_2 bytes (from_le_bytes w16 bytes) long small refl

module _ (n : ℕ) (w : Width) (again : AreRead n w) where
  read_same : (a b : List ℕ) → length a ≡ n → length b ≡ n → AreSmall a → AreSmall b
      → from_le_bytes w a ≡ from_le_bytes w b → a ≡ b
  read_same a b long other_long small other_small is =
      sym (again a long small) ∙ (ap (to_le_bytes w) is ∙ again b other_long other_small)

  numbers_same : (a b front back : List ℕ) (x y : ℕ) → front ≡ a → back ≡ b → x ≡ from_le_bytes w front
      → y ≡ from_le_bytes w back → x ≡ y → from_le_bytes w a ≡ from_le_bytes w b
  numbers_same a b front back x y is other_is read other_read same = sym (read ∙ ap (from_le_bytes w) is)
      ∙ (same ∙ (other_read ∙ ap (from_le_bytes w) other_is))

  pub same_by_ends : (xs ys front other_front back other_back : List ℕ) (x y z u : ℕ) → AreBytes xs → AreBytes ys
      → length xs ≡ length ys → length xs ≤ n + n → IsFirstChunk xs front n → IsFirstChunk ys other_front n
      → IsWholeChunk (drop (length xs - n) xs) back n → IsWholeChunk (drop (length ys - n) ys) other_back n
      → x ≡ from_le_bytes w front → y ≡ from_le_bytes w other_front → x ≡ y
      → z ≡ from_le_bytes w back → u ≡ from_le_bytes w other_back → nat_eq z u ≡ true → xs ≡ ys
  same_by_ends xs ys front other_front back other_back x y z u fits other_fits same short first other_first last other_last
      x_is y_is xy z_is u_is zu =
      let long : length (take n xs) ≡ n = omega (arith, length-take n xs, first.enough) in
      let other_long : length (take n ys) ≡ n = omega (arith, length-take n ys, other_first.enough) in
      whole n (length xs - n) xs ys (omega (arith, short))
      (read_same (take n xs) (take n ys) long other_long (front_small n xs fits) (front_small n ys other_fits)
      (numbers_same (take n xs) (take n ys) front other_front x y first.same other_first.same x_is y_is xy))
      (read_same (drop (length xs - n) xs) (drop (length ys - n) ys) last.long other_last.long
      (back_small (length xs - n) xs fits) (back_small (length ys - n) ys other_fits)
      (numbers_same (drop (length xs - n) xs) (drop (length ys - n) ys) back other_back z u last.same other_last.same z_is u_is
      (eqb-true z u zu))
      ∙ ap (λ (l : ℕ). drop (l - n) ys) (sym same))

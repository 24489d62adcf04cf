-- Numbers, bytes and lists: where two are spelled in front of the same bytes, they are the same.
use Rattle.std.proofs.Common.{◌≡◌, ℕ, ℤ, ◌^◌, ◌%◌, ◌<◌, List, [], ◌∷◌, ◌++◌, length, All, IsTrue, refl, sym, ap, ap₂, ◌∙◌, append_assoc, mod-eq_of_lt, arith}
use Rattle.std.specs.List.{flat_map, AllByRecursion}
use Rattle.std.specs.Int.{w16, w32, w64, from_le_bytes, cast_signed, cast_unsigned}
use Rattle.std.specs.Prelude.{FitsSigned}
use Rattle.std.proofs.lemmas.Nat.{from_le_bytes-to_le_bytes_2, from_le_bytes-to_le_bytes_4, from_le_bytes-to_le_bytes_8}
use Rattle.std.proofs.lemmas.Int.{to_z-of_z}
use Rattle.std.proofs.lemmas.List.Elements.{recursion_from_All}
use Rattle.std.proofs.Math.Facts.{Fits-of_z}
use Rattle.gem_object.specs.texts.SmallInteger.{is_small_integer}
use Rattle.body_codec.specs.Spelled.{two_bytes, four_bytes, eight_bytes, integer_bytes, short_list, long_list}
use Rattle.body_codec.specs.Stored.{TellsApart}
use Rattle.body_codec.proofs.Lengths.{two_long, four_long, eight_long}

pub heads : {a b : ℕ} {x y : List ℕ} → a ∷ x ≡ b ∷ y → (a ≡ b) × (x ≡ y)
heads e = (cc, cc)

-- parts of one length in front of the same bytes
pub fronts : (a b x y : List ℕ) → length a ≡ length b → a ++ x ≡ b ++ y → (a ≡ b) × (x ≡ y)
fronts [] [] x y long e = (refl, e)
fronts [] (q ∷ b) x y long e = absurd (omega (arith, long))
fronts (p ∷ a) [] x y long e = absurd (omega (arith, long))
fronts (p ∷ a) (q ∷ b) x y long e =
    let first = heads e in
    let others = fronts a b x y (omega (arith, long)) first.1 in
    (ap₂ (λ (n : ℕ) (l : List ℕ). n ∷ l) first.0 others.0, others.1)

-- the first of two parts
pub first_part : {X : Type 0} (P : X → Type 0) (f : X → List ℕ) → TellsApart P f
    → (x y : X) (a b rest more : List ℕ) → P x → P y
    → (f x ++ a) ++ rest ≡ (f y ++ b) ++ more → (x ≡ y) × (a ++ rest ≡ b ++ more)
first_part P f apart x y a b rest more p q e = apart x y (a ++ rest) (b ++ more) p q
    (sym (append_assoc (f x) a rest) ∙ e ∙ append_assoc (f y) b more)

abbrev pub IsBelow : ℕ → ℕ → Type 0
IsBelow limit number = number < limit

pub two_back : (n : ℕ) → n < 2 ^ 16 → from_le_bytes w16 (two_bytes n) ≡ n
unfolding two_bytes
two_back n below = from_le_bytes-to_le_bytes_2 (n % 2 ^ 16) (rw (mod-eq_of_lt below) below)
    ∙ mod-eq_of_lt below

pub four_back : (n : ℕ) → n < 2 ^ 32 → from_le_bytes w32 (four_bytes n) ≡ n
unfolding four_bytes
four_back n below = from_le_bytes-to_le_bytes_4 (n % 2 ^ 32) (rw (mod-eq_of_lt below) below)
    ∙ mod-eq_of_lt below

pub eight_back : (n : ℕ) → n < 2 ^ 64 → from_le_bytes w64 (eight_bytes n) ≡ n
unfolding eight_bytes
eight_back n below = from_le_bytes-to_le_bytes_8 n below

pub two_apart : TellsApart (IsBelow (2 ^ 16)) two_bytes
two_apart m n rest more p q e =
    let parts = fronts (two_bytes m) (two_bytes n) rest more (two_long m ∙ sym (two_long n)) e in
    (sym (two_back m p) ∙ ap (from_le_bytes w16) parts.0 ∙ two_back n q, parts.1)

pub four_apart : TellsApart (IsBelow (2 ^ 32)) four_bytes
four_apart m n rest more p q e =
    let parts = fronts (four_bytes m) (four_bytes n) rest more (four_long m ∙ sym (four_long n)) e in
    (sym (four_back m p) ∙ ap (from_le_bytes w32) parts.0 ∙ four_back n q, parts.1)

pub eight_apart : TellsApart (IsBelow (2 ^ 64)) eight_bytes
eight_apart m n rest more p q e =
    let parts = fronts (eight_bytes m) (eight_bytes n) rest more (eight_long m ∙ sym (eight_long n)) e in
    (sym (eight_back m p) ∙ ap (from_le_bytes w64) parts.0 ∙ eight_back n q, parts.1)

abbrev pub IsSmall : ℤ → Type 0
IsSmall z = IsTrue (is_small_integer z)

pub small_fits : (z : ℤ) → IsSmall z → FitsSigned w64 z
small_fits z small = grind arith

pub integer_apart : TellsApart IsSmall integer_bytes
integer_apart y z rest more p q e =
    let fits = small_fits y p in
    let others = small_fits z q in
    let low : cast_unsigned w64 y < 2 ^ 64 = omega (arith, Fits-of_z fits) in
    let other_low : cast_unsigned w64 z < 2 ^ 64 = omega (arith, Fits-of_z others) in
    let parts = eight_apart (cast_unsigned w64 y) (cast_unsigned w64 z) rest more low other_low e in
    (sym (to_z-of_z w64 y fits) ∙ ap (cast_signed w64) parts.0 ∙ to_z-of_z w64 z others, parts.1)

-- bytes behind their number
module _ (limit : ℕ) (count : ℕ → List ℕ) (apart : TellsApart (IsBelow limit) count) where
  pub counted : (a b rest more : List ℕ) → length a < limit → length b < limit
      → (count (length a) ++ a) ++ rest ≡ (count (length b) ++ b) ++ more
      → (a ≡ b) × (rest ≡ more)
  counted a b rest more p q e =
      let parts = first_part (IsBelow limit) count apart (length a) (length b) a b rest more p q e in
      fronts a b rest more parts.0 parts.1

module _ {X : Type 0} (P : X → Type 0) (spelled : X → List ℕ) (apart : TellsApart P spelled) where
  each_apart : (xs ys : List X) (rest more : List ℕ) → length xs ≡ length ys
      → AllByRecursion P xs → AllByRecursion P ys
      → flat_map spelled xs ++ rest ≡ flat_map spelled ys ++ more → (xs ≡ ys) × (rest ≡ more)
  each_apart [] [] rest more long p q e = (refl, e)
  each_apart [] (y ∷ ys) rest more long p q e = absurd (omega (arith, long))
  each_apart (x ∷ xs) [] rest more long p q e = absurd (omega (arith, long))
  each_apart (x ∷ xs) (y ∷ ys) rest more long p q e =
      let first = first_part P spelled apart x y (flat_map spelled xs) (flat_map spelled ys) rest more p.0 q.0 e in
      let others = each_apart xs ys rest more (omega (arith, long)) p.1 q.1 first.1 in
      (ap₂ (λ (z : X) (zs : List X). z ∷ zs) first.0 others.0, others.1)

  -- lists behind their number
  listed : (limit : ℕ) (count : ℕ → List ℕ) → TellsApart (IsBelow limit) count
      → (xs ys : List X) (rest more : List ℕ) → length xs < limit → length ys < limit
      → All P xs → All P ys
      → (count (length xs) ++ flat_map spelled xs) ++ rest
      ≡ (count (length ys) ++ flat_map spelled ys) ++ more
      → (xs ≡ ys) × (rest ≡ more)
  listed limit count numbers xs ys rest more p q each others e =
      let parts = first_part (IsBelow limit) count numbers (length xs) (length ys)
      (flat_map spelled xs) (flat_map spelled ys) rest more p q e in
      each_apart xs ys rest more parts.0 (recursion_from_All P xs each) (recursion_from_All P ys others) parts.1

  pub record AreShort (xs : List X) : Type 0 where
    pub count : length xs < 2 ^ 16
    pub each : All P xs

  pub record AreLong (xs : List X) : Type 0 where
    pub count : length xs < 2 ^ 32
    pub each : All P xs

  pub short_apart : TellsApart AreShort (short_list spelled)
  short_apart xs ys rest more p q e =
      listed (2 ^ 16) two_bytes two_apart xs ys rest more p.count q.count p.each q.each e

  pub long_apart : TellsApart AreLong (long_list spelled)
  long_apart xs ys rest more p q e =
      listed (2 ^ 32) four_bytes four_apart xs ys rest more p.count q.count p.each q.each e

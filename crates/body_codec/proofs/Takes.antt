-- What is read is spelled so, and what is spelled so is read.
use Rattle.std.proofs.Common.{◌≡◌, ℕ, ℤ, suc, ◌+◌, ◌^◌, ◌<◌, ◌≤◌, Bool, true, false, cond, eqb, ltb, List, [], ◌∷◌, ◌++◌, length, get_or, take, drop, All, Result, Ok, Err, refl, sym, ap, subst, ◌∙◌, append_assoc, mod-eq_of_lt, arith, inl, inr}
use Rattle.std.specs.List.{list_all}
use Rattle.std.specs.Int.{Width, w16, w32, w64, byte_len, from_le_bytes, to_le_bytes, cast_signed, cast_unsigned}
use Rattle.std.proofs.lemmas.Bool.{cases_lt, ltb-false, ltb-true, le-ltb, lt-ltb}
use Rattle.std.proofs.lemmas.Int.{to_z-of_z, of_z-to_z}
use Rattle.std.proofs.Math.Facts.{Fits-of_z}
use Rattle.gem_object.specs.texts.SmallInteger.{is_small_integer}
use Rattle.gem_object.specs.Spelling.{IsOid, IsText, IsPlainByte}
use Rattle.std.proofs.lemmas.List.{take_at, drop_at, take-append-drop, length-append, length-take, length-drop, get_or-drop, get_or-take, get_or_past}
use Rattle.std.proofs.lemmas.List.Sums.{AllPass-from_list_all, list_all-from_AllPass}
use Rattle.std.proofs.lemmas.Bool.Decides.{nat_tests}
use Rattle.std.proofs.lemmas.Nat.{le_bytes_2, le_bytes_4, le_bytes_8}
use Rattle.body_codec.specs.declared.fault.BodyRule.TheVariants as rule
use Rattle.body_codec.specs.declared.fault.Flaw.{Flaw}
use Rattle.body_codec.specs.Spelled.{two_bytes, four_bytes, eight_bytes, integer_bytes, spelled_text}
use Rattle.body_codec.specs.Reading.{◌>>=◌, breaks, number_at, byte_at, name_at, integer_at, times_at, plain_at, text_at, bytes_at, char_at}
use Rattle.body_codec.proofs.Lengths.{two_long, four_long, eight_long}
use Rattle.body_codec.proofs.Fields.{IsBelow, IsSmall, small_fits, two_back, four_back, eight_back}

abbrev pub IsBytes : List ℕ → Type 0
IsBytes bytes = (i : ℕ) → get_or bytes i 0 < 256

-- bytes of which each that is there is below 256
pub all_bytes : (bytes : List ℕ) → All (λ byte. byte < 256) bytes → IsBytes bytes
all_bytes bytes all i = elim (cases_lt i (length bytes)) [
  | inl below ↦ all i 0 below
  | inr past ↦ rw (get_or_past bytes i 0 past) (omega arith)
]

pub bytes_drop : (n : ℕ) (bytes : List ℕ) → IsBytes bytes → IsBytes (drop n bytes)
bytes_drop n bytes h i = rw get_or-drop (h (n + i))

pub bytes_take : (n : ℕ) (bytes : List ℕ) → IsBytes bytes → IsBytes (take n bytes)
bytes_take n bytes h i =
    elim (cases_lt i n) [
      | inl lt ↦ rw (get_or-take n bytes i 0 lt) (h i)
      | inr le ↦ rw (get_or_past (take n bytes) i 0 (omega (arith, length-take n bytes))) (omega arith)
    ]

-- the value of a step that did not fail
pub bind_ok : {A B : Type 0} (r : Result A Flaw) (f : A → Result B Flaw) (y : B) → (r >>= f) ≡ Ok y
    → (x : A) × (r ≡ Ok x) × (f x ≡ Ok y)
bind_ok (Ok x) f y e = (x, refl, e)
bind_ok (Err d) f y e = absurd cc

-- a test that did not fail, of either order of its sides
pub guard_ok : {A : Type 0} (b : Bool) (d : Flaw) (r : Result A Flaw) (y : A) → cond b (Err d) r ≡ Ok y
    → (b ≡ false) × (r ≡ Ok y)
guard_ok true d r y e = absurd cc
guard_ok false d r y e = (refl, e)

pub passed_ok : {A : Type 0} (b : Bool) (d : Flaw) (r : Result A Flaw) (y : A) → cond b r (Err d) ≡ Ok y
    → (b ≡ true) × (r ≡ Ok y)
passed_ok true d r y e = (refl, e)
passed_ok false d r y e = absurd cc

abbrev done : {A : Type 0} → A → Result A Flaw
done x = Ok x

pub ok_is : {A : Type 0} (x y : A) → done x ≡ done y → x ≡ y
ok_is x y e = cc

-- what a reader took from the front of bytes
pub record Takes (bytes text rest : List ℕ) : Type 0 where
  pub parts : bytes ≡ text ++ rest
  pub rest_fits : IsBytes rest

-- what is left, or what is left from the first field on that fails, is no longer than the bytes
abbrev pub IsWithin : {A : Type 0} → List ℕ → Result (A × List ℕ) Flaw → Type 0
IsWithin bytes (Ok x) = length x.1 ≤ length bytes
IsWithin bytes (Err f) = f.left ≤ length bytes

-- a reader of what has these spellings: it reads them again, and nothing else
pub record Reads {X : Type 0} (P : X → Type 0) (spelled : X → List ℕ)
    (read : List ℕ → Result (X × List ℕ) Flaw) : Type 0 where
  pub again : (x : X) (rest : List ℕ) → P x → read (spelled x ++ rest) ≡ Ok (x, rest)
  pub takes : (bytes : List ℕ) (x : X) (rest : List ℕ) → IsBytes bytes → read bytes ≡ Ok (x, rest)
      → Takes bytes (spelled x) rest × P x
  pub within : (bytes : List ℕ) → IsWithin bytes (read bytes)

-- ---- what is read or fails stands within the bytes

pub wider : {A : Type 0} (bytes rest : List ℕ) (r : Result (A × List ℕ) Flaw)
    → length rest ≤ length bytes → IsWithin rest r → IsWithin bytes r
wider bytes rest (Ok x) shorter within = omega (arith, shorter, within)
wider bytes rest (Err f) shorter within = omega (arith, shorter, within)

pub bind_within : {A B : Type 0} (bytes : List ℕ) (r : Result (A × List ℕ) Flaw)
    (f : A × List ℕ → Result (B × List ℕ) Flaw) → IsWithin bytes r
    → ((x : A × List ℕ) → length x.1 ≤ length bytes → IsWithin bytes (f x)) → IsWithin bytes (r >>= f)
bind_within bytes (Ok x) f first next = next x first
bind_within bytes (Err e) f first next = first

pub cond_within : {A : Type 0} (bytes : List ℕ) (b : Bool) (r s : Result (A × List ℕ) Flaw)
    → IsWithin bytes r → IsWithin bytes s → IsWithin bytes (cond b r s)
cond_within bytes true r s one other = one
cond_within bytes false r s one other = other

pub breaks_within : (bytes : List ℕ) → length bytes ≤ length bytes
breaks_within bytes = omega arith

pub number_within : (w : Width) (bytes : List ℕ) → IsWithin bytes (number_at w bytes)
number_within w bytes = cond_within bytes (ltb (length bytes) (byte_len w)) _
    (Ok (from_le_bytes w (take (byte_len w) bytes), drop (byte_len w) bytes))
    (breaks_within bytes) (omega (arith, length-drop (byte_len w) bytes))

-- a width whose numbers are spelled by this function
record IsWide (w : Width) (limit : ℕ) (spelled : ℕ → List ℕ) : Type 0 where
  pub len : (n : ℕ) → length (spelled n) ≡ byte_len w
  pub again : (n : ℕ) → n < limit → from_le_bytes w (spelled n) ≡ n
  pub back : (bytes : List ℕ) → length bytes ≡ byte_len w → IsBytes bytes
      → spelled (from_le_bytes w bytes) ≡ bytes
  pub below : (bytes : List ℕ) → IsBytes bytes → from_le_bytes w bytes < limit

below_two : (bytes : List ℕ) → IsBytes bytes → from_le_bytes w16 bytes < 2 ^ 16
below_two bytes fits = omega (arith, fits 0, fits 1)

wide_two : IsWide w16 (2 ^ 16) two_bytes
unfolding two_bytes
wide_two = record {
  len = two_long;
  again = two_back;
  back = λ bytes len fits. ap (to_le_bytes w16) (mod-eq_of_lt (below_two bytes fits)) ∙ le_bytes_2 bytes _ len fits refl;
  below = below_two;
}

wide_eight : IsWide w64 (2 ^ 64) eight_bytes
unfolding eight_bytes
wide_eight = record {
  len = eight_long;
  again = eight_back;
  back = λ bytes len fits. le_bytes_8 bytes _ len fits refl;
  below = λ bytes fits. omega (arith, fits 0, fits 1, fits 2, fits 3, fits 4, fits 5, fits 6, fits 7);
}

below_four : (bytes : List ℕ) → IsBytes bytes → from_le_bytes w32 bytes < 2 ^ 32
below_four bytes fits = omega (arith, fits 0, fits 1, fits 2, fits 3)

wide_four : IsWide w32 (2 ^ 32) four_bytes
unfolding four_bytes
wide_four = record {
  len = four_long;
  again = four_back;
  back = λ bytes len fits. ap (to_le_bytes w32) (mod-eq_of_lt (below_four bytes fits)) ∙ le_bytes_4 bytes _ len fits refl;
  below = below_four;
}

number_takes : (w : Width) (limit : ℕ) (spelled : ℕ → List ℕ) → IsWide w limit spelled
    → (bytes : List ℕ) (n : ℕ) (rest : List ℕ) → IsBytes bytes → number_at w bytes ≡ Ok (n, rest)
    → Takes bytes (spelled n) rest × (n < limit)
number_takes w limit spelled wide bytes n rest fits e =
    let front = take (byte_len w) bytes in
    let g = guard_ok (ltb (length bytes) (byte_len w)) _ (Ok (from_le_bytes w front, drop (byte_len w) bytes)) (n, rest) e in
    let long : byte_len w ≤ length bytes = ltb-false _ _ g.0 in
    let is = ok_is (from_le_bytes w front, drop (byte_len w) bytes) (n, rest) g.1 in
    let number-is : from_le_bytes w front ≡ n = ap (λ (p : ℕ × List ℕ). p.0) is in
    let rest-is : drop (byte_len w) bytes ≡ rest = ap (λ (p : ℕ × List ℕ). p.1) is in
    let same : spelled n ≡ front = subst (λ (k : ℕ). spelled k ≡ front) number-is
    (wide.back front (omega (arith, length-take (byte_len w) bytes)) (bytes_take (byte_len w) bytes fits)) in
    let whole : bytes ≡ front ++ rest = subst (λ (r : List ℕ). bytes ≡ front ++ r) rest-is (sym (take-append-drop (byte_len w) bytes)) in (
      record {
        parts = subst (λ (f : List ℕ). bytes ≡ f ++ rest) (sym same) whole;
        rest_fits = subst IsBytes rest-is (bytes_drop (byte_len w) bytes fits);
      },
      subst (λ (k : ℕ). k < limit) number-is (wide.below front (bytes_take (byte_len w) bytes fits)),
    )

number_again : (w : Width) (limit : ℕ) (spelled : ℕ → List ℕ) → IsWide w limit spelled
    → (n : ℕ) (rest : List ℕ) → n < limit → number_at w (spelled n ++ rest) ≡ Ok (n, rest)
number_again w limit spelled wide n rest below =
    let long : byte_len w ≤ length (spelled n ++ rest) = omega (arith, length-append (spelled n) rest, wide.len n) in
    let front : take (byte_len w) (spelled n ++ rest) ≡ spelled n = take_at (spelled n) rest (byte_len w) (wide.len n) in
    let back : drop (byte_len w) (spelled n ++ rest) ≡ rest = drop_at (spelled n) rest (byte_len w) (wide.len n) in
    rw (le-ltb _ _ long, front, back, wide.again n below) refl

pub two_reads : Reads (IsBelow (2 ^ 16)) two_bytes (number_at w16)
two_reads = record {
  again = number_again w16 (2 ^ 16) two_bytes wide_two;
  takes = number_takes w16 (2 ^ 16) two_bytes wide_two;
  within = number_within w16;
}

pub four_reads : Reads (IsBelow (2 ^ 32)) four_bytes (number_at w32)
four_reads = record {
  again = number_again w32 (2 ^ 32) four_bytes wide_four;
  takes = number_takes w32 (2 ^ 32) four_bytes wide_four;
  within = number_within w32;
}

pub eight_reads : Reads (IsBelow (2 ^ 64)) eight_bytes (number_at w64)
eight_reads = record {
  again = number_again w64 (2 ^ 64) eight_bytes wide_eight;
  takes = number_takes w64 (2 ^ 64) eight_bytes wide_eight;
  within = number_within w64;
}

-- a reader's answer where a step was read
pub step : {A B : Type 0} (r : Result A Flaw) (x : A) (f : A → Result B Flaw) → r ≡ Ok x → (r >>= f) ≡ f x
step r x f e = ap (λ s. s >>= f) e

pub name_reads : Reads IsOid eight_bytes name_at
unfolding name_at
name_reads = record {
  again = λ n rest below.
      step (number_at w64 (eight_bytes n ++ rest)) (n, rest) (λ number. cond (ltb number.0 (2 ^ 48)) (Ok number) _)
      (eight_reads.again n rest (omega (arith, below)))
      ∙ rw (lt-ltb n (2 ^ 48) below) refl;
  takes = λ bytes n rest fits e.
      let a = bind_ok (number_at w64 bytes) (λ number. cond (ltb number.0 (2 ^ 48)) (Ok number) (breaks bytes rule.Range)) (n, rest) e in
      let b = passed_ok (ltb a.0.0 (2 ^ 48)) _ (Ok a.0) (n, rest) a.2 in
      let is = ok_is a.0 (n, rest) b.1 in
      let taken = eight_reads.takes bytes a.0.0 a.0.1 fits a.1 in
      subst (λ (p : ℕ × List ℕ). Takes bytes (eight_bytes p.0) p.1 × IsOid p.0) is (taken.0, ltb-true _ _ b.0);
  within = λ bytes. bind_within bytes (number_at w64 bytes)
      (λ number. cond (ltb number.0 (2 ^ 48)) (Ok number) (breaks bytes rule.Range)) (number_within w64 bytes)
      (λ x le. cond_within bytes (ltb x.0 (2 ^ 48)) (Ok x) (breaks bytes rule.Range) le (breaks_within bytes));
}

abbrev pub IsTimes : ℕ → Type 0
IsTimes n = (0 < n) × (n < 2 ^ 64)

pub times_reads : Reads IsTimes eight_bytes times_at
unfolding times_at
times_reads = record {
  again = λ n rest is.
      let some : eqb n 0 ≡ false = grind (arith, nat_tests, is.0) in
      step (number_at w64 (eight_bytes n ++ rest)) (n, rest)
      (λ number. cond (eqb number.0 0) (breaks (eight_bytes n ++ rest) rule.Range) (Ok number))
      (eight_reads.again n rest is.1)
      ∙ rw some refl;
  takes = λ bytes n rest fits e.
      let a = bind_ok (number_at w64 bytes) (λ number. cond (eqb number.0 0) (breaks bytes rule.Range) (Ok number)) (n, rest) e in
      let b = guard_ok (eqb a.0.0 0) _ (Ok a.0) (n, rest) a.2 in
      let is = ok_is a.0 (n, rest) b.1 in
      let taken = eight_reads.takes bytes a.0.0 a.0.1 fits a.1 in
      let some : 0 < a.0.0 = grind (arith, nat_tests, b.0) in
      subst (λ (p : ℕ × List ℕ). Takes bytes (eight_bytes p.0) p.1 × IsTimes p.0) is (taken.0, (some, taken.1));
  within = λ bytes. bind_within bytes (number_at w64 bytes)
      (λ number. cond (eqb number.0 0) (breaks bytes rule.Range) (Ok number)) (number_within w64 bytes)
      (λ x le. cond_within bytes (eqb x.0 0) (breaks bytes rule.Range) (Ok x) (breaks_within bytes) le);
}

pub integer_reads : Reads IsSmall integer_bytes integer_at
unfolding integer_at
integer_reads = record {
  again = λ z rest small.
      let fits = small_fits z small in
      let below : cast_unsigned w64 z < 2 ^ 64 = omega (arith, Fits-of_z fits) in
      step (number_at w64 (integer_bytes z ++ rest)) (cast_unsigned w64 z, rest) _
      (eight_reads.again (cast_unsigned w64 z) rest below)
      ∙ rw (to_z-of_z w64 z fits, small) refl;
  takes = λ bytes z rest fits e.
      let a = bind_ok (number_at w64 bytes) _ (z, rest) e in
      let b = passed_ok (is_small_integer (cast_signed w64 a.0.0)) _ (Ok (cast_signed w64 a.0.0, a.0.1)) (z, rest) a.2 in
      let is = ok_is (cast_signed w64 a.0.0, a.0.1) (z, rest) b.1 in
      let taken = eight_reads.takes bytes a.0.0 a.0.1 fits a.1 in
      let same : integer_bytes (cast_signed w64 a.0.0) ≡ eight_bytes a.0.0 = ap eight_bytes (of_z-to_z w64 a.0.0 taken.1) in
      subst (λ (p : ℤ × List ℕ). Takes bytes (integer_bytes p.0) p.1 × IsSmall p.0) is
      (subst (λ (l : List ℕ). Takes bytes l a.0.1) (sym same) taken.0, b.0);
  within = λ bytes. bind_within bytes (number_at w64 bytes)
      (λ number. cond (is_small_integer (cast_signed w64 number.0)) (Ok (cast_signed w64 number.0, number.1)) (breaks bytes rule.Range))
      (number_within w64 bytes)
      (λ x le. cond_within bytes (is_small_integer (cast_signed w64 x.0)) (Ok (cast_signed w64 x.0, x.1)) (breaks bytes rule.Range)
      le (breaks_within bytes));
}

all_plain : (bytes : List ℕ) → All IsPlainByte bytes → list_all (λ b. ltb b 128) bytes ≡ true
all_plain bytes plain = list_all-from_AllPass (λ b. ltb b 128) bytes (λ k d below. lt-ltb _ _ (plain k d below))

plain_all : (bytes : List ℕ) → list_all (λ b. ltb b 128) bytes ≡ true → All IsPlainByte bytes
plain_all bytes e k d below = ltb-true _ _ (AllPass-from_list_all (λ b. ltb b 128) bytes e k d below)

pub plain_again : (text rest : List ℕ) → All IsPlainByte text
    → plain_at (length text) (text ++ rest) ≡ Ok (text, rest)
unfolding plain_at
plain_again text rest plain =
    let long : ltb (length (text ++ rest)) (length text) ≡ false = le-ltb _ _ (omega (arith, length-append text rest)) in
    rw (long, take_at text rest (length text) refl, drop_at text rest (length text) refl, all_plain text plain) refl

plain_within : (n : ℕ) (bytes : List ℕ) → IsWithin bytes (plain_at n bytes)
unfolding plain_at
plain_within n bytes = cond_within bytes (ltb (length bytes) n) _ _ (breaks_within bytes)
    (cond_within bytes (list_all (λ b. ltb b 128) (take n bytes)) (Ok (take n bytes, drop n bytes)) _
    (omega (arith, length-drop n bytes)) (breaks_within bytes))

pub plain_takes : (n : ℕ) (bytes text rest : List ℕ) → IsBytes bytes → plain_at n bytes ≡ Ok (text, rest)
    → Takes bytes text rest × ((length text ≡ n) × All IsPlainByte text)
unfolding plain_at
plain_takes n bytes text rest fits e =
    let g = guard_ok (ltb (length bytes) n) _ _ (text, rest) e in
    let long : n ≤ length bytes = ltb-false _ _ g.0 in
    let b = passed_ok (list_all (λ b. ltb b 128) (take n bytes)) _ (Ok (take n bytes, drop n bytes)) (text, rest) g.1 in
    let is = ok_is (take n bytes, drop n bytes) (text, rest) b.1 in
    let taken : Takes bytes (take n bytes) (drop n bytes) =
    record { parts = sym (take-append-drop n bytes); rest_fits = bytes_drop n bytes fits } in
    subst (λ (p : List ℕ × List ℕ). Takes bytes p.0 p.1 × ((length p.0 ≡ n) × All IsPlainByte p.0)) is
    (taken, (omega (arith, length-take n bytes), plain_all (take n bytes) b.0))

-- one part behind another
pub then_takes : (a x b y c : List ℕ) → Takes a x b → Takes b y c → Takes a (x ++ y) c
then_takes a x b y c p q = record {
  parts = p.parts ∙ ap (λ (t : List ℕ). x ++ t) q.parts ∙ sym (append_assoc x y c);
  rest_fits = q.rest_fits;
}

pub text_reads : Reads IsText spelled_text text_at
unfolding text_at
text_reads = record {
  again = λ text rest stored.
      let short : length text < 2 ^ 16 = omega (arith, stored.short) in
      let limit : ltb 1000 (length text) ≡ false = le-ltb _ _ stored.short in
      ap text_at (append_assoc (two_bytes (length text)) text rest)
      ∙ step (number_at w16 (two_bytes (length text) ++ (text ++ rest))) (length text, text ++ rest) _
      (two_reads.again (length text) (text ++ rest) short)
      ∙ rw limit (plain_again text rest stored.bytes);
  takes = λ bytes text rest fits e.
      let a = bind_ok (number_at w16 bytes) _ (text, rest) e in
      let g = guard_ok (ltb 1000 a.0.0) _ (plain_at a.0.0 a.0.1) (text, rest) a.2 in
      let count = two_reads.takes bytes a.0.0 a.0.1 fits a.1 in
      let taken = plain_takes a.0.0 a.0.1 text rest count.0.rest_fits g.1 in
      let both = then_takes bytes (two_bytes a.0.0) a.0.1 text rest count.0 taken.0 in
      let limit : a.0.0 ≤ 1000 = ltb-false _ _ g.0 in (
        subst (λ (n : ℕ). Takes bytes (two_bytes n ++ text) rest) (sym taken.1.0) both,
        record { short = omega (arith, limit, taken.1.0); bytes = taken.1.1 },
      );
  within = λ bytes. bind_within bytes (number_at w16 bytes)
      (λ count. cond (ltb 1000 count.0) (breaks bytes rule.Range) (plain_at count.0 count.1)) (number_within w16 bytes)
      (λ x le. cond_within bytes (ltb 1000 x.0) (breaks bytes rule.Range) (plain_at x.0 x.1) (breaks_within bytes)
      (wider bytes x.1 (plain_at x.0 x.1) le (plain_within x.0 x.1)));
}

pub record IsLongText (text : List ℕ) : Type 0 where
  pub count : length text < 2 ^ 32
  pub bytes : All IsPlainByte text

pub bytes_reads : Reads IsLongText (λ (text : List ℕ). four_bytes (length text) ++ text) bytes_at
unfolding bytes_at
bytes_reads = record {
  again = λ text rest stored.
      ap bytes_at (append_assoc (four_bytes (length text)) text rest)
      ∙ step (number_at w32 (four_bytes (length text) ++ (text ++ rest))) (length text, text ++ rest)
      (λ count. plain_at count.0 count.1) (four_reads.again (length text) (text ++ rest) stored.count)
      ∙ plain_again text rest stored.bytes;
  takes = λ bytes text rest fits e.
      let a = bind_ok (number_at w32 bytes) (λ count. plain_at count.0 count.1) (text, rest) e in
      let count = four_reads.takes bytes a.0.0 a.0.1 fits a.1 in
      let taken = plain_takes a.0.0 a.0.1 text rest count.0.rest_fits a.2 in
      let both = then_takes bytes (four_bytes a.0.0) a.0.1 text rest count.0 taken.0 in (
        subst (λ (n : ℕ). Takes bytes (four_bytes n ++ text) rest) (sym taken.1.0) both,
        record { count = subst (λ (n : ℕ). n < 2 ^ 32) (sym taken.1.0) count.1; bytes = taken.1.1 },
      );
  within = λ bytes. bind_within bytes (number_at w32 bytes) (λ count. plain_at count.0 count.1) (number_within w32 bytes)
      (λ x le. wider bytes x.1 (plain_at x.0 x.1) le (plain_within x.0 x.1));
}

char_takes : (bytes : List ℕ) (code : ℕ) (rest : List ℕ) → IsBytes bytes → char_at bytes ≡ Ok (code, rest)
    → Takes bytes (code ∷ []) rest × IsPlainByte code
unfolding char_at byte_at
char_takes [] code rest fits e = absurd cc
char_takes (byte ∷ more) code rest fits e =
    let b = passed_ok (ltb byte 128) _ (Ok (byte, more)) (code, rest) e in
    let is = ok_is (byte, more) (code, rest) b.1 in
    subst (λ (p : ℕ × List ℕ). Takes (byte ∷ more) (p.0 ∷ []) p.1 × IsPlainByte p.0) is
    (record { parts = refl; rest_fits = λ i. fits (suc i) }, ltb-true _ _ b.0)

pub byte_within : (bytes : List ℕ) → IsWithin bytes (byte_at bytes)
unfolding byte_at
byte_within [] = omega arith
byte_within (byte ∷ rest) = omega arith

pub char_reads : Reads IsPlainByte (λ code. code ∷ []) char_at
unfolding char_at byte_at
char_reads = record {
  again = λ code rest below. rw (lt-ltb code 128 below) refl;
  takes = char_takes;
  within = λ bytes. bind_within bytes (byte_at bytes)
      (λ byte. cond (ltb byte.0 128) (Ok byte) (breaks bytes rule.Byte)) (byte_within bytes)
      (λ x le. cond_within bytes (ltb x.0 128) (Ok x) (breaks bytes rule.Byte) le (breaks_within bytes));
}

-- All instructions of a text in the order of its bytes, each with what every way brings to it; and what
-- stands at each place by them.
use Rattle.std.proofs.Common.{◌≡◌, ◌∙◌, refl, sym, ap, subst, ℕ, zero, suc, ◌+◌, ◌≤◌, List, [], ◌∷◌, ◌++◌, length, replicate, slice_get, Some, None, arith, append_assoc}
use Rattle.std.proofs.lemmas.Option.{same_Some}
use Rattle.st_code.specs.declared.line.Line.{Line}
use Rattle.st_code.specs.Held.{Held}
use Rattle.st_code.specs.Lines.{Lines}
use Rattle.st_compiler.proofs.Steps.{HasAt}

-- An instruction, the number of its operands' bytes, and what every way brings to it.
pub record Row : Type 0 where
  pub line : Line
  pub more : ℕ
  pub held : Held

-- what stands at the places of these
abbrev pub lines_in : List Row → Lines
lines_in [] = []
lines_in (row ∷ rest) = Some row.line ∷ (replicate row.more None ++ lines_in rest)

abbrev pub marks_in : List Row → List Held
marks_in [] = []
marks_in (row ∷ rest) = row.held ∷ (replicate row.more row.held ++ marks_in rest)

-- the place of the instruction of this number
abbrev pub place_in : List Row → ℕ → ℕ
place_in rows zero = 0
place_in [] (suc number) = 0
place_in (row ∷ rest) (suc number) = suc (row.more + place_in rest number)

abbrev pub rows_size : List Row → ℕ
rows_size [] = 0
rows_size (row ∷ rest) = suc (row.more + rows_size rest)

pub lines_append : (xs ys : List Row) → lines_in (xs ++ ys) ≡ lines_in xs ++ lines_in ys
lines_append [] ys = refl
lines_append (x ∷ xs) ys =
    ap (λ (all : Lines). Some x.line ∷ (replicate x.more None ++ all)) (lines_append xs ys)
    ∙ ap (λ (all : Lines). Some x.line ∷ all)
    (sym (append_assoc (replicate x.more None) (lines_in xs) (lines_in ys)))

pub rows_append : (xs ys : List Row) → rows_size (xs ++ ys) ≡ rows_size xs + rows_size ys
rows_append [] ys = omega arith
rows_append (x ∷ xs) ys = omega (arith, rows_append xs ys)

get_behind : {A : Type 0} (count : ℕ) (x : A) (xs : List A) (at : ℕ)
    → slice_get (replicate count x ++ xs) (count + at) ≡ slice_get xs at
get_behind zero x xs at =
    let none : 0 + at ≡ at = omega arith in ap (λ (n : ℕ). slice_get xs n) none
get_behind (suc count) x xs at =
    let further : suc count + at ≡ suc (count + at) = omega arith in
    ap (λ (n : ℕ). slice_get (x ∷ (replicate count x ++ xs)) n) further ∙ get_behind count x xs at

pub get_line : (rows : List Row) (number : ℕ) (row : Row) → slice_get rows number ≡ Some row
    → slice_get (lines_in rows) (place_in rows number) ≡ Some (Some row.line)
get_line [] number row is = absurd (cc)
get_line (first ∷ rest) zero row is = ap (λ (one : Row). Some (Some one.line)) (same_Some _ _ is)
get_line (first ∷ rest) (suc number) row is =
    get_behind first.more None (lines_in rest) (place_in rest number) ∙ get_line rest number row is

pub get_mark : (rows : List Row) (number : ℕ) (row : Row) → slice_get rows number ≡ Some row
    → slice_get (marks_in rows) (place_in rows number) ≡ Some row.held
get_mark [] number row is = absurd (cc)
get_mark (first ∷ rest) zero row is = ap (λ (one : Row). Some one.held) (same_Some _ _ is)
get_mark (first ∷ rest) (suc number) row is =
    get_behind first.more first.held (marks_in rest) (place_in rest number) ∙ get_mark rest number row is

-- the instruction that stands at a place
pub record StandsAt (rows : List Row) (at : ℕ) (line : Line) : Type 0 where
  pub number : ℕ
  pub row : Row
  pub here : slice_get rows number ≡ Some row
  pub place : at ≡ place_in rows number
  pub is : row.line ≡ line

none_or_behind : (count : ℕ) (lines : Lines) (at : ℕ) (line : Line)
    → slice_get (replicate count None ++ lines) at ≡ Some (Some line)
    → (behind : ℕ) × (at ≡ count + behind) × (slice_get lines behind ≡ Some (Some line))
none_or_behind zero lines at line is = (at, omega arith, is)
none_or_behind (suc count) lines zero line is = absurd (cc)
none_or_behind (suc count) lines (suc at) line is =
    let later = none_or_behind count lines at line is in
    (later.0, omega (arith, later.1), later.2)

pub stands_at : (rows : List Row) (at : ℕ) (line : Line) → slice_get (lines_in rows) at ≡ Some (Some line)
    → StandsAt rows at line
stands_at [] at line is = absurd (cc)
stands_at (first ∷ rest) zero line is =
    record { number = 0; row = first; here = refl; place = refl; is = same_Some _ _ (same_Some _ _ is) }
stands_at (first ∷ rest) (suc at) line is =
    let behind = none_or_behind first.more (lines_in rest) at line is in
    let found = stands_at rest behind.0 line behind.2 in
    record {
      number = suc found.number;
      row = found.row;
      here = found.here;
      place = omega (arith, behind.1, found.place);
      is = found.is;
    }

-- ---- what holds of each

abbrev pub Each : (ℕ → Row → Type 0) → (number : ℕ) → List Row → Type 0
Each Good number [] = Unit {0}
Each Good number (row ∷ rest) = Good number row × Each Good (suc number) rest

pub each_append : (Good : ℕ → Row → Type 0) (number : ℕ) (xs ys : List Row) → Each Good number xs
    → Each Good (number + length xs) ys → Each Good number (xs ++ ys)
each_append Good number [] ys first second =
    let same : number + 0 ≡ number = omega arith in subst (λ (n : ℕ). Each Good n ys) same second
each_append Good number (x ∷ xs) ys first second =
    let same : number + suc (length xs) ≡ suc number + length xs = omega arith in
    (first.0, each_append Good (suc number) xs ys first.1 (subst (λ (n : ℕ). Each Good n ys) same second))

each_from : (Good : ℕ → Row → Type 0) (first : ℕ) (rows : List Row) → Each Good first rows → (number : ℕ) (row : Row)
    → slice_get rows number ≡ Some row → Good (first + number) row
each_from Good first [] each number row is = absurd (cc)
each_from Good first (x ∷ xs) each zero row is =
    let same : first ≡ first + 0 = omega arith in
    subst (λ (n : ℕ). Good n row) same (subst (λ (one : Row). Good first one) (same_Some _ _ is) each.0)
each_from Good first (x ∷ xs) each (suc number) row is =
    let same : suc first + number ≡ first + suc number = omega arith in
    subst (λ (n : ℕ). Good n row) same (each_from Good (suc first) xs each.1 number row is)

pub each_at : (Good : ℕ → Row → Type 0) (rows : List Row) → Each Good 0 rows → (number : ℕ) (row : Row)
    → slice_get rows number ≡ Some row → Good number row
each_at Good rows each number row is =
    let same : 0 + number ≡ number = omega arith in
    subst (λ (n : ℕ). Good n row) same (each_from Good 0 rows each number row is)

-- ---- rows among others

pub get_has : {A : Type 0} (all : List A) (from : ℕ) (xs : List A) (number : ℕ) (x : A) → HasAt all from xs
    → slice_get xs number ≡ Some x → slice_get all (from + number) ≡ Some x
get_has all from [] number x has is = absurd (cc)
get_has all from (first ∷ rest) zero x has is =
    let same : from ≡ from + 0 = omega arith in
    subst (λ (n : ℕ). slice_get all n ≡ Some x) same (has.0 ∙ is)
get_has all from (first ∷ rest) (suc number) x has is =
    let same : suc from + number ≡ from + suc number = omega arith in
    subst (λ (n : ℕ). slice_get all n ≡ Some x) same (get_has all (suc from) rest number x has.1 is)

place_next : (all : List Row) (number : ℕ) (row : Row) → slice_get all number ≡ Some row
    → place_in all (suc number) ≡ place_in all number + suc row.more
place_next [] number row is = absurd (cc)
place_next (first ∷ rest) zero row is =
    let same : first.more ≡ row.more = ap (λ (one : Row). one.more) (same_Some _ _ is) in omega (arith, same)
place_next (first ∷ rest) (suc number) row is = omega (arith, place_next rest number row is)

pub place_has : (all : List Row) (from : ℕ) (xs : List Row) (number : ℕ) → HasAt all from xs → number ≤ length xs
    → place_in all (from + number) ≡ place_in all from + place_in xs number
place_has all from xs zero has within =
    let same : from + 0 ≡ from = omega arith in
    omega (arith, ap (λ (n : ℕ). place_in all n) same)
place_has all from [] (suc number) has within = absurd (omega (arith, within))
place_has all from (first ∷ rest) (suc number) has within =
    let same : from + suc number ≡ suc from + number = omega arith in
    let later = place_has all (suc from) rest number has.1 (omega (arith, within)) in
    omega (arith, ap (λ (n : ℕ). place_in all n) same, later, place_next all from first has.0)

pub place_all : (rows : List Row) → place_in rows (length rows) ≡ rows_size rows
place_all [] = refl
place_all (row ∷ rest) = omega (arith, place_all rest)

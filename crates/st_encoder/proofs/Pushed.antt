-- Where each block is first pushed, where each is pushed once.
use Rattle.std.proofs.Common.{◌≡◌, ◌≢◌, ◌∙◌, refl, sym, ap, subst, ℕ, zero, suc, ◌+◌, ◌≤◌, ◌⊎◌, inl, inr, nat_eq, Bool, true, false, ◌&&◌, if◌then◌else◌, List, [], ◌∷◌, ◌++◌, replicate, slice_get, slice_set, Option, Some, None, arith}
use Rattle.std.proofs.lemmas.Bool.{false≢true, eqb-true, eq-eqb}
use Rattle.std.proofs.lemmas.Option.{same_Some}
use Rattle.st_code.specs.declared.line.Line.{Line}
use Rattle.st_code.specs.Lines.{Lines}
use Rattle.st_code.specs.Operands.{pushes_block, note_place, note_push, first_pushes, is_pushed}
use Rattle.st_encoder.proofs.Pushes.{one_if}

abbrev pub pushed_by : ℕ → Option Line → ℕ
pushed_by block None = 0
pushed_by block (Some line) = one_if (pushes_block line.row.op && nat_eq line.first block)

abbrev pub line_pushes : ℕ → Lines → ℕ
line_pushes block [] = 0
line_pushes block (line ∷ lines) = pushed_by block line + line_pushes block lines

pub lines_push : (block : ℕ) (xs ys : Lines) → line_pushes block (xs ++ ys) ≡ line_pushes block xs + line_pushes block ys
lines_push block [] ys = omega arith
lines_push block (x ∷ xs) ys = omega (arith, lines_push block xs ys)

pub nones_push : (block count : ℕ) → line_pushes block (replicate count None) ≡ 0
nones_push block zero = refl
nones_push block (suc count) = omega (arith, nones_push block count)

get_set_other : {A : Type 0} (xs : List A) (i j : ℕ) (x : A) → i ≢ j → slice_get (slice_set xs i x) j ≡ slice_get xs j
get_set_other [] i j x apart = refl
get_set_other (y ∷ ys) zero zero x apart = absurd (apart refl)
get_set_other (y ∷ ys) zero (suc j) x apart = refl
get_set_other (y ∷ ys) (suc i) zero x apart = refl
get_set_other (y ∷ ys) (suc i) (suc j) x apart = get_set_other ys i j x (λ is. apart (ap (λ (n : ℕ). suc n) is))

get_set_same : {A : Type 0} (xs : List A) (i : ℕ) (x y : A) → slice_get xs i ≡ Some y → slice_get (slice_set xs i x) i ≡ Some x
get_set_same [] i x y is = absurd (cc)
get_set_same (z ∷ zs) zero x y is = refl
get_set_same (z ∷ zs) (suc i) x y is = get_set_same zs i x y is

abbrev Pushes : Type 0
Pushes = List (Option ℕ)

-- ---- one instruction

place_keeps : (number at block place : ℕ) (pushes : Pushes) (found : Option (Option ℕ)) → slice_get pushes number ≡ found
    → slice_get pushes block ≡ Some (Some place)
    → slice_get (note_place number at pushes found) block ≡ Some (Some place)
place_keeps number at block place pushes (Some None) is there =
    let apart : number ≢ block = λ same. let other = ap (λ (n : ℕ). slice_get pushes n) same in absurd (cc) in
    get_set_other pushes number block (Some at) apart ∙ there
place_keeps number at block place pushes (Some (Some other)) is there = there
place_keeps number at block place pushes None is there = there

keeps : (at block place : ℕ) (line : Option Line) (pushes : Pushes) → slice_get pushes block ≡ Some (Some place)
    → slice_get (note_push at line pushes) block ≡ Some (Some place)
keeps at block place None pushes there = there
keeps at block place (Some line) pushes there = by (pushes_block line.row.op)
  where
    by : (test : Bool)
        → slice_get (if test then note_place line.first at pushes (slice_get pushes line.first) else pushes) block
        ≡ Some (Some place)
    by true = place_keeps line.first at block place pushes (slice_get pushes line.first) refl there
    by false = there

place_other : (number at block : ℕ) (pushes : Pushes) (found : Option (Option ℕ)) → nat_eq number block ≡ false
    → slice_get (note_place number at pushes found) block ≡ slice_get pushes block
place_other number at block pushes (Some None) apart =
    get_set_other pushes number block (Some at) (λ same. false≢true (sym apart ∙ eq-eqb number block same))
place_other number at block pushes (Some (Some other)) apart = refl
place_other number at block pushes None apart = refl

unmoved : (at block : ℕ) (line : Option Line) (pushes : Pushes) → pushed_by block line ≡ 0
    → slice_get (note_push at line pushes) block ≡ slice_get pushes block
unmoved at block None pushes none = refl
unmoved at block (Some line) pushes none = by (pushes_block line.row.op) (nat_eq line.first block) refl none
  where
    by : (test same : Bool) → nat_eq line.first block ≡ same → one_if (test && same) ≡ 0
        → slice_get (if test then note_place line.first at pushes (slice_get pushes line.first) else pushes) block
        ≡ slice_get pushes block
    by true true is none = absurd (omega (arith, none))
    by true false is none = place_other line.first at block pushes (slice_get pushes line.first) is
    by false same is none = refl

noted : (at block : ℕ) (line : Option Line) (pushes : Pushes) → pushed_by block line ≡ 1
    → slice_get pushes block ≡ Some None → slice_get (note_push at line pushes) block ≡ Some (Some at)
noted at block None pushes one there = absurd (omega (arith, one))
noted at block (Some line) pushes one there = by (pushes_block line.row.op) (nat_eq line.first block) refl one
  where
    by : (test same : Bool) → nat_eq line.first block ≡ same → one_if (test && same) ≡ 1
        → slice_get (if test then note_place line.first at pushes (slice_get pushes line.first) else pushes) block
        ≡ Some (Some at)
    by true true is one =
        let same : block ≡ line.first = sym (eqb-true line.first block is) in
        let here : slice_get pushes line.first ≡ Some None =
        subst (λ (n : ℕ). slice_get pushes n ≡ Some None) same there in
        ap (λ (n : ℕ). slice_get (note_place line.first at pushes (slice_get pushes line.first)) n) same
        ∙ ap (λ (found : Option (Option ℕ)). slice_get (note_place line.first at pushes found) line.first) here
        ∙ get_set_same pushes line.first (Some at) None here
    by true false is one = absurd (omega (arith, one))
    by false same is one = absurd (omega (arith, one))

-- ---- all instructions

stays : (block at : ℕ) (lines : Lines) (pushes : Pushes) (place : ℕ) → slice_get pushes block ≡ Some (Some place)
    → slice_get (first_pushes at lines pushes) block ≡ Some (Some place)
stays block at [] pushes place there = there
stays block at (line ∷ lines) pushes place there =
    stays block (at + 1) lines (note_push at line pushes) place (keeps at block place line pushes there)

pub counted : (block : ℕ) (lines : Lines) (number : ℕ) (line : Line) → slice_get lines number ≡ Some (Some line)
    → pushed_by block (Some line) ≡ 1 → 1 ≤ line_pushes block lines
counted block [] number line is one = absurd (cc)
counted block (first ∷ rest) zero line is one =
    let same : pushed_by block first ≡ 1 = ap (λ (l : Option Line). pushed_by block l) (same_Some _ _ is) ∙ one in
    omega (arith, same)
counted block (first ∷ rest) (suc number) line is one = omega (arith, counted block rest number line is one)

zero_or_one : (test : Bool) → (one_if test ≡ 0) ⊎ (one_if test ≡ 1)
zero_or_one true = inr refl
zero_or_one false = inl refl

none_or_once : (block : ℕ) (line : Option Line) → (pushed_by block line ≡ 0) ⊎ (pushed_by block line ≡ 1)
none_or_once block None = inl refl
none_or_once block (Some line) = zero_or_one (pushes_block line.row.op && nat_eq line.first block)

pub first_at : (block at : ℕ) (lines : Lines) (pushes : Pushes) (number : ℕ) (line : Line)
    → slice_get pushes block ≡ Some None → slice_get lines number ≡ Some (Some line)
    → pushed_by block (Some line) ≡ 1 → line_pushes block lines ≡ 1
    → slice_get (first_pushes at lines pushes) block ≡ Some (Some (at + number))
first_at block at [] pushes number line none is one once = absurd (cc)
first_at block at (first ∷ rest) pushes zero line none is one once =
    let here : at ≡ at + 0 = omega arith in
    let same : pushed_by block first ≡ 1 = ap (λ (l : Option Line). pushed_by block l) (same_Some _ _ is) ∙ one in
    stays block (at + 1) rest (note_push at first pushes) at (noted at block first pushes same none)
    ∙ ap (λ (n : ℕ). Some (Some n)) here
first_at block at (first ∷ rest) pushes (suc number) line none is one once =
    let further : at + 1 + number ≡ at + suc number = omega arith in
    let other : pushed_by block first ≡ 0 = omega (arith, once, counted block rest number line is one) in
    first_at block (at + 1) rest (note_push at first pushes) number line
    (unmoved at block first pushes other ∙ none) is one (omega (arith, once, other))
    ∙ ap (λ (n : ℕ). Some (Some n)) further

pub some_pushed : (block at : ℕ) (lines : Lines) (pushes : Pushes) → slice_get pushes block ≡ Some None
    → line_pushes block lines ≡ 1 → is_pushed (slice_get (first_pushes at lines pushes) block) ≡ true
some_pushed block at [] pushes none once = absurd (omega (arith, once))
some_pushed block at (first ∷ rest) pushes none once =
    by (none_or_once block first)
    (λ other. some_pushed block (at + 1) rest (note_push at first pushes) (unmoved at block first pushes other ∙ none)
    (omega (arith, once, other)))
  where
    by : (pushed_by block first ≡ 0) ⊎ (pushed_by block first ≡ 1)
        → (pushed_by block first ≡ 0
        → is_pushed (slice_get (first_pushes (at + 1) rest (note_push at first pushes)) block) ≡ true)
        → is_pushed (slice_get (first_pushes (at + 1) rest (note_push at first pushes)) block) ≡ true
    by (inl other) later = later other
    by (inr one) later =
        ap (λ (found : Option (Option ℕ)). is_pushed found)
        (stays block (at + 1) rest (note_push at first pushes) at (noted at block first pushes one none))

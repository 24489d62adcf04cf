-- Which blocks are pushed, and how often.
use Rattle.std.proofs.Common.{◌≡◌, ◌∙◌, refl, ap, ℕ, zero, suc, ◌+◌, ◌<◌, ◌≤◌, nat_eq, Bool, true, false, List, [], ◌∷◌, ◌++◌, arith, replicate}
use Rattle.std.proofs.lemmas.Bool.{eqb-true}
use Rattle.std.proofs.lemmas.Bool.Decides.{nat_tests}
use Rattle.st_compiler.specs.Instruction.{Instruction, Pop, PushBlock}
use Rattle.st_compiler.specs.Code.{Piece, jump_unless}

abbrev pub one_if : Bool → ℕ
one_if true = 1
one_if false = 0

abbrev pub pushes_by : ℕ → Instruction → ℕ
pushes_by block (PushBlock number) = one_if (nat_eq number block)
pushes_by block other = 0

-- how often a block is pushed
abbrev pub pushes : ℕ → List Instruction → ℕ
pushes block [] = 0
pushes block (one ∷ rest) = pushes_by block one + pushes block rest

abbrev pub piece_pushes : ℕ → List Piece → ℕ
piece_pushes block [] = 0
piece_pushes block (piece ∷ rest) = pushes block piece.code + piece_pushes block rest

-- whether this is one of so many from there on, as a number
abbrev pub within : (from count : ℕ) → ℕ → ℕ
within from zero block = 0
within from (suc count) block = one_if (nat_eq from block) + within (suc from) count block

pub pushes_append : (block : ℕ) (xs ys : List Instruction)
    → pushes block (xs ++ ys) ≡ pushes block xs + pushes block ys
pushes_append block [] ys = omega arith
pushes_append block (x ∷ xs) ys = omega (arith, pushes_append block xs ys)

pub piece_append : (block : ℕ) (xs ys : List Piece)
    → piece_pushes block (xs ++ ys) ≡ piece_pushes block xs + piece_pushes block ys
piece_append block [] ys = omega arith
piece_append block (x ∷ xs) ys = omega (arith, piece_append block xs ys)

pub within_sum : (from one two block : ℕ) → within from (one + two) block ≡ within from one block + within (from + one) two block
within_sum from zero two block =
    let same : from + 0 ≡ from = omega arith in
    let none : 0 + two ≡ two = omega arith in
    let count : within from (0 + two) block ≡ within from two block = ap (λ (n : ℕ). within from n block) none in
    let start : within (from + 0) two block ≡ within from two block = ap (λ (n : ℕ). within n two block) same in
    omega (arith, count, start)
within_sum from (suc one) two block =
    let same : suc from + one ≡ from + suc one = omega arith in
    let rest : within (suc from) (one + two) block ≡ within (suc from) one block + within (from + suc one) two block =
    within_sum (suc from) one two block ∙ ap (λ (n : ℕ). within (suc from) one block + within n two block) same in
    let count : suc one + two ≡ suc (one + two) = omega arith in
    let whole : within from (suc one + two) block ≡ within from (suc (one + two)) block =
    ap (λ (n : ℕ). within from n block) count in
    omega (arith, rest, whole)

not_same : (one two : ℕ) → one < two → nat_eq two one ≡ false
not_same one two less = by (nat_eq two one) refl
  where
    by : (test : Bool) → nat_eq two one ≡ test → test ≡ false
    by true is = let same : two ≡ one = eqb-true two one is in absurd (omega (arith, less, same))
    by false is = refl

-- none below, each from there on once
pub within_below : (from count block : ℕ) → block < from → within from count block ≡ 0
within_below from zero block below = refl
within_below from (suc count) block below =
    let other : one_if (nat_eq from block) ≡ 0 = ap one_if (not_same block from below) in
    omega (arith, other, within_below (suc from) count block (omega (arith, below)))

pub within_once : (from count block : ℕ) → from ≤ block → block < from + count → within from count block ≡ 1
within_once from zero block above below = absurd (omega (arith, above, below))
within_once from (suc count) block above below =
    by (nat_eq from block) refl (λ further. within_once (suc from) count block further (omega (arith, below)))
  where
    by : (test : Bool) → nat_eq from block ≡ test → (suc from ≤ block → within (suc from) count block ≡ 1)
        → one_if test + within (suc from) count block ≡ 1
    by true is later =
        let same : from ≡ block = eqb-true from block is in
        omega (arith, within_below (suc from) count block (omega (arith, same)))
    by false is later =
        let further : suc from ≤ block = grind (arith, nat_tests, is, above) in
        omega (arith, later further)

-- instructions that push no block
abbrev pub none_pushed : Instruction → Bool
none_pushed (PushBlock number) = false
none_pushed other = true

pub unless_pushes : (block : ℕ) (when : Bool) (ahead : ℕ) → pushes_by block (jump_unless when ahead) ≡ 0
unless_pushes block true ahead = refl
unless_pushes block false ahead = refl

pub pops_push : (block height : ℕ) → pushes block (replicate height Pop) ≡ 0
pops_push block zero = refl
pops_push block (suc height) = omega (arith, pops_push block height)

-- What is read, and what is left to read.
use Rattle.std.proofs.Common.{◌≡◌, ℕ, zero, suc, ◌+◌, ◌<◌, ◌≤◌, nat_lt, Bool, true, false, ◌&&◌, List, [], ◌∷◌, length, None, Err, refl, ap, arith}
use Rattle.std.proofs.lemmas.Bool.{false≢true}
use Rattle.std.proofs.lemmas.Bool.Decides.{nat_tests}
use Rattle.st_code.specs.declared.blocks.BlockCode.{BlockCode}
use Rattle.st_code.specs.Lines.{end_of, ascend, starts_at, are_blocks, line_at, after_line, lines_from}

-- no instruction begins here
pub none_begins : (block at skip : ℕ) (bytes : List ℕ) → 0 < length bytes → skip ≡ 0 → line_at block at bytes ≡ None
    → lines_from block at skip bytes ≡ Err at
none_begins block at skip [] some is none = absurd (omega arith)
none_begins block at zero (byte ∷ rest) some is none =
    ap (λ found. after_line at found (λ skip. lines_from block (at + 1) skip rest)) none
none_begins block at (suc skip) (byte ∷ rest) some is none = absurd (omega arith)

-- blocks end within the code, and each above its start
both : (a b : Bool) → (a && b) ≡ true → (a ≡ true) × (b ≡ true)
both true b is = (refl, is)
both false b is = absurd (false≢true is)

pub ends_above : (size : ℕ) (block : BlockCode) (later : List BlockCode) → ascend size (block ∷ later) ≡ true
    → (block.start < end_of size later) × (ascend size later ≡ true)
ends_above size block later is =
    let parts = both (nat_lt block.start (end_of size later)) (ascend size later) is in
    (grind (arith, nat_tests, parts.0), parts.1)

pub ends_within : (size : ℕ) (blocks : List BlockCode) → ascend size blocks ≡ true → end_of size blocks ≤ size
ends_within size [] is = omega arith
ends_within size (block ∷ later) is =
    let here = ends_above size block later is in
    omega (arith, here.0, ends_within size later here.1)

pub are_from_zero : (size : ℕ) (blocks : List BlockCode) → are_blocks size blocks ≡ true
    → (end_of size blocks ≡ 0) × (ascend size blocks ≡ true)
are_from_zero size [] is = absurd (false≢true is)
are_from_zero size (block ∷ later) is =
    let parts = both (starts_at 0 (block ∷ later)) (ascend size (block ∷ later)) is in
    (grind (arith, nat_tests, parts.0), parts.1)

-- What the encoder adds to what it has written, and when it finds something too large.
use Rattle.std.specs.Prelude.{◌≡◌, ◌⊎◌, ◌≤◌, ◌^◌, ℕ, ◌+◌, Bool, true, false, List, ◌∷◌, ◌++◌, length}
use Rattle.op_table.specs.Ops.{row_for}
use Rattle.st_tree.specs.declared.nodes.Literal.{Literal}
use Rattle.st_code.specs.declared.blocks.BlockCode.{BlockCode}
use Rattle.st_compiler.specs.Instruction.{Instruction, op_of}
use Rattle.st_compiler.specs.Emitted.{Body}
use Rattle.st_encoder.specs.Bytes.{literals_of, bytes_from, fit_from, bytes_of, all_literals, blocks_of, total_size, bodies_fit}
use Rattle.st_encoder.specs.Operands.{operands_of, operands_bytes, operands_fit}
use Rattle.st_encoder.specs.declared.error.EncodeError.{EncodeError}
use Rattle.st_encoder.specs.declared.error.EncodeError.TheVariants.{TooLarge, NoMemory}

-- too large by this, or no memory
abbrev pub IsTooLarge : Type 0 → EncodeError → Type 0
IsTooLarge Why TooLarge = Why
IsTooLarge Why NoMemory = Unit {0}

-- These bytes were added, and what was asked of their numbers is true.
pub record Wrote (more : List ℕ) (fits : Bool) (before after : List ℕ) : Type 0 where
  pub bytes_are : after ≡ before ++ more
  pub fit : fits ≡ true

-- An instruction was added.
pub record WroteOne (literal : ℕ) (places : List ℕ) (number : ℕ) (one : Instruction)
    (before after : List ℕ) : Type 0 where
  pub bytes_are : after
      ≡ before ++ (row_for (op_of one)).byte ∷ operands_bytes (operands_of literal places number one)
  pub fit : operands_fit (operands_of literal places number one) ≡ true

-- The instructions from this number on were added, in a block that starts there.
pub record WroteCode (start : ℕ) (code : List Instruction) (number : ℕ) (rest : List Instruction)
    (bytes : List ℕ) (literals : List Literal) (bytes_now : List ℕ) (literals_now : List Literal)
    : Type 0 where
  pub bytes_are : bytes_now ≡ bytes ++ bytes_from start (length literals) code number rest
  pub literals_are : literals_now ≡ literals ++ literals_of rest
  pub fit : fit_from start (length literals) code number rest ≡ true

-- These blocks were added.
pub record WroteBodies (bodies : List Body) (bytes : List ℕ) (literals : List Literal)
    (blocks : List BlockCode) (bytes_now : List ℕ) (literals_now : List Literal)
    (blocks_now : List BlockCode) : Type 0 where
  pub bytes_are : bytes_now ≡ bytes ++ bytes_of (length bytes) (length literals) bodies
  pub literals_are : literals_now ≡ literals ++ all_literals bodies
  pub blocks_are : blocks_now ≡ blocks ++ blocks_of (length bytes) bodies
  pub fit : bodies_fit (length bytes) (length literals) bodies ≡ true

-- There are no bytes for these blocks behind so many bytes and literals.
abbrev pub DontFit : List Body → (start literal : ℕ) → Type 0
DontFit bodies start literal = (2 ^ 32 ≤ start + total_size bodies)
    ⊎ (bodies_fit start literal bodies ≡ false)

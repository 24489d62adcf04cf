-- What breaks a rule of checked code at a place: the instruction that stands there, or what ways
-- bring there.
use Rattle.std.specs.Prelude.{◌≡◌, ℕ, true, false, List, slice_get, Some, Result, Ok, Err}
use Rattle.st_tree.specs.declared.nodes.Literal.{Literal}
use Rattle.st_code.specs.declared.blocks.BlockCode.{BlockCode}
use Rattle.st_code.specs.declared.fault.CodeFault.{CodeFault}
use Rattle.st_code.specs.declared.fault.CodeFault.TheVariants.{Byte, Jump, Operand, Stack, NoMemory}
use Rattle.st_code.specs.declared.line.Line.{Line}
use Rattle.st_code.specs.Held.{Held}
use Rattle.st_code.specs.Lines.{Lines, is_of}
use Rattle.st_code.specs.Operands.{first_pushes, operands_fit}
use Rattle.st_code.specs.Ways.{jumps}
use Rattle.st_code.specs.Comes.{Comes}
use Rattle.st_code.specs.Faults.{no_pushes, scopes_fit, stack_fits}

-- a jump whose target is no instruction of its block
pub record JumpBreaks (lines : Lines) (at : ℕ) : Type 0 where
  pub line : Line
  pub here : slice_get lines at ≡ Some (Some line)
  pub jump : jumps line.row.op ≡ true
  pub target : is_of line.block (slice_get lines line.first) ≡ false

-- A literal or a block isn't what it has to be; or a way comes there that has no such variable, or
-- no scope of its block to close; or two ways come there with other scopes.
pub data OperandBreaks (literals : List Literal) (blocks : List BlockCode) (lines : Lines) (at : ℕ)
    : Type 0 where
  misnamed : (line : Line) → slice_get lines at ≡ Some (Some line)
      → operands_fit literals blocks (first_pushes 0 lines (no_pushes blocks)) at line ≡ false
      → OperandBreaks literals blocks lines at
  unscoped : (line : Line) (held : Held) → slice_get lines at ≡ Some (Some line)
      → Comes lines blocks at held → scopes_fit line.row.op line.first line.second held ≡ false
      → OperandBreaks literals blocks lines at
  scopes_apart : (one other : Held) → Comes lines blocks at one → Comes lines blocks at other
      → ((one.scopes ≡ other.scopes) × (one.around ≡ other.around) → ⊥)
      → OperandBreaks literals blocks lines at

-- A way comes there with too few values for the instruction, or other than one for a return, or
-- would go on outside its block; or two ways come there with other heights.
pub data StackBreaks (blocks : List BlockCode) (lines : Lines) (at : ℕ) : Type 0 where
  unfit : (line : Line) (held : Held) → slice_get lines at ≡ Some (Some line)
      → Comes lines blocks at held → stack_fits lines line held.height ≡ false
      → StackBreaks blocks lines at
  heights_apart : (one other : Held) → Comes lines blocks at one → Comes lines blocks at other
      → (one.height ≡ other.height → ⊥) → StackBreaks blocks lines at

-- The fault of code whose blocks are right says what breaks there: no instruction begins where one
-- has to, or one of the other rules breaks by what stands at the places.
abbrev pub Breaks : List Literal → List BlockCode → Result Lines ℕ → CodeFault → Type 0
Breaks literals blocks (Err place) (Byte at) = place ≡ at
Breaks literals blocks (Err place) other = ⊥
Breaks literals blocks (Ok lines) (Byte at) = ⊥
Breaks literals blocks (Ok lines) (Jump at) = JumpBreaks lines at
Breaks literals blocks (Ok lines) (Operand at) = OperandBreaks literals blocks lines at
Breaks literals blocks (Ok lines) (Stack at) = StackBreaks blocks lines at
Breaks literals blocks (Ok lines) NoMemory = ⊥

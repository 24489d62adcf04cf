-- What bytes of code say: the instructions of each block, with what their operands stand for. This
-- goes from bytes to instructions, and knows nothing of how code is written in bytes.
use Rattle.std.specs.Prelude.{ℕ, zero, suc, ◌-◌, ◌==◌, nat_lt, nat_le, if◌then◌else◌, List, [], ◌∷◌, length, map, slice_get, slice_range, Option, None, Some, option_map, option_and_then, Result, Ok, Err}
use Rattle.gem_object.specs.texts.Bytes.{Bytes as Text}
use Rattle.op_table.specs.declared.ops.Op.{Op}
use Rattle.op_table.specs.declared.ops.Op.TheVariants as op
use Rattle.st_tree.specs.Trees.{Program}
use Rattle.st_tree.specs.Views.{constant_of}
use Rattle.st_tree.specs.declared.nodes.Literal.{Literal}
use Rattle.st_tree.specs.declared.nodes.Literal.TheVariants.{Sym}
use Rattle.gem_object.specs.declared.value.Value.{Value}
use Rattle.tree_meaning.specs.Meaning.{plain_constant}
use Rattle.tree_meaning.specs.Bodies.{params_count, temps_count}
use Rattle.st_code.specs.declared.blocks.BlockCode.{BlockCode}
use Rattle.st_code.specs.Lines.{Lines, end_of, lines_of}
use Rattle.st_compiler.specs.Instruction.{Instruction, PushSelf, PushNil, PushTrue, PushFalse, PushLit, MakeLit, PushLocal, StoreLocal, PushName, StoreName, Pop, Dup, Send, SuperSend, PushBlock, ReturnMethod, ReturnHome, ReturnBlock, Jump, JumpBack, JumpTrue, JumpFalse, TakeUnit, Enter, Leave, LoopStart, LoopNext, LoopStep}
use Rattle.st_compiler.specs.Code.{Piece, Part}
use Rattle.st_compiler.specs.Emitted.{Body}

-- ---- operands

-- the literal as a value, where it is one; as a name or a selector
abbrev pub value_in : Literal → Option Value
value_in one = plain_constant (constant_of one)

abbrev pub text_in : Literal → Option Text
text_in (Sym text) = Some text
text_in other = None

-- Block 0 is the whole text, and those that are pushed are counted from the one behind it.
abbrev pub pushed_by : (operand : ℕ) → Option Instruction
pushed_by zero = None
pushed_by (suc block) = Some (PushBlock block)

-- the jump from one instruction to another, by their numbers: on past those between, or back
abbrev pub ahead : (jump : ℕ → Instruction) → (number there : ℕ) → Option Instruction
ahead jump number there = if nat_lt number there then Some (jump (there - suc number)) else None

abbrev pub behind : (jump : ℕ → Instruction) → (number there : ℕ) → Option Instruction
behind jump number there = if nat_le there number then Some (jump (number - there)) else None

abbrev pub either_way : (number there : ℕ) → Option Instruction
either_way number there =
    if nat_lt number there then ahead (λ far. Jump far) number there
    else behind (λ far. JumpBack far) number there

-- ---- instructions

-- The instruction of this number in its block, by its op and its operands: the first may stand for
-- a literal, or for the place of an instruction, which has a number in the block too.
abbrev pub instruction_by : (found : Option Literal) → (there : Option ℕ)
    → (number first second : ℕ) → Op → Option Instruction
instruction_by found there number first second op.PushSelf = Some PushSelf
instruction_by found there number first second op.PushNil = Some PushNil
instruction_by found there number first second op.PushTrue = Some PushTrue
instruction_by found there number first second op.PushFalse = Some PushFalse
instruction_by found there number first second op.PushLit =
    option_map (λ answer. PushLit answer) (option_and_then value_in found)
instruction_by found there number first second op.MakeLit =
    option_map (λ one. MakeLit (constant_of one)) found
instruction_by found there number first second op.PushLocal = Some (PushLocal first second)
instruction_by found there number first second op.StoreLocal = Some (StoreLocal first second)
instruction_by found there number first second op.PushName =
    option_map (λ name. PushName name) (option_and_then text_in found)
instruction_by found there number first second op.StoreName =
    option_map (λ name. StoreName name) (option_and_then text_in found)
instruction_by found there number first second op.Pop = Some Pop
instruction_by found there number first second op.Dup = Some Dup
instruction_by found there number first second op.Send =
    option_map (λ selector. Send selector second) (option_and_then text_in found)
instruction_by found there number first second op.SuperSend =
    option_map (λ selector. SuperSend selector second) (option_and_then text_in found)
instruction_by found there number first second op.PushBlock = pushed_by first
instruction_by found there number first second op.ReturnMethod = Some ReturnMethod
instruction_by found there number first second op.ReturnHome = Some ReturnHome
instruction_by found there number first second op.ReturnBlock = Some ReturnBlock
instruction_by found there number first second op.Jump = option_and_then (either_way number) there
instruction_by found there number first second op.JumpTrue =
    option_and_then (ahead (λ far. JumpTrue far) number) there
instruction_by found there number first second op.JumpFalse =
    option_and_then (ahead (λ far. JumpFalse far) number) there
instruction_by found there number first second op.Unit = Some TakeUnit
instruction_by found there number first second op.Enter = Some (Enter first)
instruction_by found there number first second op.Leave = Some Leave
instruction_by found there number first second op.LoopStart = Some LoopStart
instruction_by found there number first second op.LoopNext =
    option_and_then (ahead (λ far. LoopNext far) number) there
instruction_by found there number first second op.LoopStep =
    option_and_then (behind (λ far. LoopStep far) number) there

-- The number of the instruction that begins at a place, where one does. The first of these lines
-- stands at another place, and the first instruction in them has a number.
abbrev pub number_from : (number at : ℕ) → Lines → (place : ℕ) → Option ℕ
number_from number at [] place = None
number_from number at (None ∷ lines) place = number_from number (suc at) lines place
number_from number at (Some line ∷ lines) place =
    if at == place then Some number else number_from (suc number) (suc at) lines place

-- one thing and then others, where they are all there
abbrev pub and_more : {A : Type 0} → Option A → Option (List A) → Option (List A)
and_more None others = None
and_more (Some first) others = option_map (λ rest. first ∷ rest) others

-- the instructions of a block from this number on, where the numbers of all are found by places
abbrev pub instructions_from : List Literal → (number_at : ℕ → Option ℕ) → (number : ℕ) → Lines
    → Option (List Instruction)
instructions_from literals number_at number [] = Some []
instructions_from literals number_at number (None ∷ lines) =
    instructions_from literals number_at number lines
instructions_from literals number_at number (Some line ∷ lines) =
    and_more
    (instruction_by (slice_get literals line.first) (number_at line.first) number line.first
    line.second line.row.op)
    (instructions_from literals number_at (suc number) lines)

-- ---- blocks

-- a block with its instructions, by what stands at its own places
abbrev pub body_by : List Literal → BlockCode → (own : Lines) → Option Body
body_by literals block own =
    option_map
    (λ code. record { params = block.params; temps = block.temps; code = code })
    (instructions_from literals (number_from 0 block.start own) 0 own)

-- the same of these blocks, by what stands at all places
abbrev pub bodies_by : List Literal → Lines → List BlockCode → Option (List Body)
bodies_by literals lines [] = Some []
bodies_by literals lines (block ∷ later) =
    and_more
    (body_by literals block (slice_range lines block.start (end_of (length lines) later)))
    (bodies_by literals lines later)

abbrev pub read_by : List Literal → List BlockCode → Result Lines ℕ → Option (List Body)
read_by literals blocks (Ok lines) = bodies_by literals lines blocks
read_by literals blocks (Err place) = None

-- What bytes say, with the literals and the blocks of their code: each block's instructions.
unfoldable pub decoded : (bytes : List ℕ) → List Literal → List BlockCode → Option (List Body)
decoded bytes literals blocks = read_by literals blocks (lines_of bytes 0 blocks)

-- ---- of a text

abbrev pub block_body : Piece → Body
block_body piece =
    record { params = params_count piece.tree; temps = temps_count piece.tree; code = piece.code }

-- a text with its code, and the blocks that are pushed in it with theirs
abbrev pub text_and_blocks : Program → Part → List Body
text_and_blocks tree part =
    record { params = length tree.params; temps = length tree.temps; code = part.code }
    ∷ map block_body part.pieces

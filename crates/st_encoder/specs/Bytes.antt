-- The bytes of code: its blocks one behind the other, and in each block the instructions, each with
-- its op code's byte and then its operands. Jumps lead to places among all bytes.
use Rattle.std.specs.Prelude.{ℕ, zero, suc, ◌+◌, ◌-◌, ◌^◌, nat_lt, Bool, true, ◌&&◌, List, [], ◌∷◌, ◌++◌, length, take, map}
use Rattle.std.specs.Int.{w32, to_le_bytes}
use Rattle.op_table.specs.Ops.{row_for}
use Rattle.st_tree.specs.Trees.{Constant, int, char, str, sym, nothing, yes, no, array, Program}
use Rattle.st_tree.specs.declared.nodes.Literal.{Literal}
use Rattle.st_tree.specs.declared.nodes.Literal.TheVariants as literal
use Rattle.gem_object.specs.declared.value.Value.{Value}
use Rattle.gem_object.specs.declared.value.Value.TheVariants as value
use Rattle.st_code.specs.declared.blocks.BlockCode.{BlockCode}
use Rattle.st_code.specs.Lines.{width}
use Rattle.st_compiler.specs.Instruction.{Instruction, PushLit, MakeLit, PushLocal, StoreLocal, PushName, StoreName, Send, SuperSend, PushBlock, Jump, JumpBack, JumpTrue, JumpFalse, Enter, LoopNext, LoopStep, op_of}
use Rattle.st_compiler.specs.Emitted.{Body, piece_body, text_code}

-- ---- literals

abbrev pub constant_literal : Constant → Literal
constant_literal (int number) = literal.Int number
constant_literal (char code) = literal.Char code
constant_literal (str bytes) = literal.Str bytes
constant_literal (sym bytes) = literal.Sym bytes
constant_literal nothing = literal.Nil
constant_literal yes = literal.True
constant_literal no = literal.False
constant_literal (array items) = literal.Array items

-- a value that no literal stands for is in no code of a tree
abbrev pub value_literal : Value → Literal
value_literal (value.Int number) = literal.Int number
value_literal (value.Char code) = literal.Char code
value_literal (value.Sym bytes) = literal.Sym bytes
value_literal value.Nil = literal.Nil
value_literal value.True = literal.True
value_literal value.False = literal.False
value_literal (value.Ref oid) = literal.Nil
value_literal (value.Block block) = literal.Nil

-- the literal of an instruction, where it has one
abbrev pub literals_in : Instruction → List Literal
literals_in (PushLit answer) = value_literal answer ∷ []
literals_in (MakeLit tree) = constant_literal tree ∷ []
literals_in (PushName name) = literal.Sym name ∷ []
literals_in (StoreName name) = literal.Sym name ∷ []
literals_in (Send selector count) = literal.Sym selector ∷ []
literals_in (SuperSend selector count) = literal.Sym selector ∷ []
literals_in other = []

abbrev pub literals_of : List Instruction → List Literal
literals_of [] = []
literals_of (one ∷ rest) = literals_in one ++ literals_of rest

-- ---- places

-- how many bytes an instruction takes; how many these take
abbrev pub size_of : Instruction → ℕ
size_of one = suc (width (op_of one) 0 + width (op_of one) 1)

abbrev pub code_size : List Instruction → ℕ
code_size [] = 0
code_size (one ∷ rest) = size_of one + code_size rest

-- the place of the instruction of this number in a block that starts there
abbrev pub place_at : (start : ℕ) → List Instruction → (number : ℕ) → ℕ
place_at start code number = start + code_size (take number code)

-- ---- operands

-- A literal is given by its number. Block 0 is the whole text, so that each block that is pushed
-- has the number after its own.
abbrev pub first_operand : (start literal : ℕ) → List Instruction → (number : ℕ) → Instruction → ℕ
first_operand start literal code number (PushLit answer) = literal
first_operand start literal code number (MakeLit tree) = literal
first_operand start literal code number (PushLocal depth index) = depth
first_operand start literal code number (StoreLocal depth index) = depth
first_operand start literal code number (PushName name) = literal
first_operand start literal code number (StoreName name) = literal
first_operand start literal code number (Send selector count) = literal
first_operand start literal code number (SuperSend selector count) = literal
first_operand start literal code number (PushBlock block) = suc block
first_operand start literal code number (Jump ahead) = place_at start code (suc number + ahead)
first_operand start literal code number (JumpBack behind) = place_at start code (number - behind)
first_operand start literal code number (JumpTrue ahead) = place_at start code (suc number + ahead)
first_operand start literal code number (JumpFalse ahead) =
    place_at start code (suc number + ahead)
first_operand start literal code number (Enter count) = count
first_operand start literal code number (LoopNext ahead) = place_at start code (suc number + ahead)
first_operand start literal code number (LoopStep behind) = place_at start code (number - behind)
first_operand start literal code number other = 0

abbrev pub second_operand : Instruction → ℕ
second_operand (PushLocal depth index) = index
second_operand (StoreLocal depth index) = index
second_operand (Send selector count) = count
second_operand (SuperSend selector count) = count
second_operand other = 0

-- a number in so many bytes, the lowest first
abbrev pub operand_bytes : (width : ℕ) → ℕ → List ℕ
operand_bytes width operand = take width (to_le_bytes w32 operand)

abbrev pub instruction_bytes : Instruction → (first second : ℕ) → List ℕ
instruction_bytes one first second = (row_for (op_of one)).byte
    ∷ (operand_bytes (width (op_of one) 0) first ++ operand_bytes (width (op_of one) 1) second)

-- the instructions from this number on, where the literals before them are so many
abbrev pub bytes_from : (start literal : ℕ) → List Instruction → (number : ℕ) → List Instruction
    → List ℕ
bytes_from start literal code number [] = []
bytes_from start literal code number (one ∷ rest) =
    instruction_bytes one (first_operand start literal code number one) (second_operand one)
    ++ bytes_from start (literal + length (literals_in one)) code (suc number) rest

-- ---- blocks

abbrev pub bytes_of : (start literal : ℕ) → List Body → List ℕ
bytes_of start literal [] = []
bytes_of start literal (body ∷ later) = bytes_from start literal body.code 0 body.code
    ++ bytes_of (start + code_size body.code) (literal + length (literals_of body.code)) later

abbrev pub all_literals : List Body → List Literal
all_literals [] = []
all_literals (body ∷ later) = literals_of body.code ++ all_literals later

abbrev pub blocks_of : (start : ℕ) → List Body → List BlockCode
blocks_of start [] = []
blocks_of start (body ∷ later) =
    record { start = start; params = body.params; temps = body.temps }
    ∷ blocks_of (start + code_size body.code) later

abbrev pub total_size : List Body → ℕ
total_size [] = 0
total_size (body ∷ later) = code_size body.code + total_size later

-- ---- what there are bytes for

-- a number that so many bytes hold
abbrev pub number_fits : (width : ℕ) → ℕ → Bool
number_fits zero operand = true
number_fits (suc zero) operand = nat_lt operand 256
number_fits width operand = nat_lt operand (2 ^ 32)

abbrev pub instruction_fits : Instruction → (first second : ℕ) → Bool
instruction_fits one first second =
    number_fits (width (op_of one) 0) first && number_fits (width (op_of one) 1) second

abbrev pub fit_from : (start literal : ℕ) → List Instruction → (number : ℕ) → List Instruction
    → Bool
fit_from start literal code number [] = true
fit_from start literal code number (one ∷ rest) =
    instruction_fits one (first_operand start literal code number one) (second_operand one)
    && fit_from start (literal + length (literals_in one)) code (suc number) rest

abbrev pub body_fits : (start literal : ℕ) → Body → Bool
body_fits start literal body = nat_lt body.params (2 ^ 32) && nat_lt body.temps (2 ^ 32)
    && fit_from start literal body.code 0 body.code

abbrev pub bodies_fit : (start literal : ℕ) → List Body → Bool
bodies_fit start literal [] = true
bodies_fit start literal (body ∷ later) = body_fits start literal body
    && bodies_fit (start + code_size body.code) (literal + length (literals_of body.code)) later

-- All bytes are fewer than 2^32, and each number has its place in them.
abbrev pub are_small : List Body → Bool
are_small bodies = nat_lt (total_size bodies) (2 ^ 32) && bodies_fit 0 0 bodies

-- ---- of a text

-- the text itself, and the blocks that are pushed in it
abbrev pub text_bodies : Program → List Body
text_bodies tree = record {
  params = length tree.params;
  temps = length tree.temps;
  code = (text_code tree 0).code;
} ∷ map piece_body (text_code tree 0).pieces

unfoldable pub text_bytes : Program → List ℕ
text_bytes tree = bytes_of 0 0 (text_bodies tree)

unfoldable pub text_literals : Program → List Literal
text_literals tree = all_literals (text_bodies tree)

unfoldable pub text_blocks : Program → List BlockCode
text_blocks tree = blocks_of 0 (text_bodies tree)

-- there are bytes for the code of a text
unfoldable pub text_fits : Program → Bool
text_fits tree = are_small (text_bodies tree)

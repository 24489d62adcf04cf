-- What the compiler puts out: instructions, and the blocks that they push.
use Rattle.std.specs.Prelude.{◌≡◌, ℕ, List, [], ◌∷◌, ◌++◌, length, map, Option, None, Some}
use Rattle.gem_object.specs.texts.Bytes.{Bytes as Text}
use Rattle.st_tree.specs.Trees.{Closure, closure, Program}
use Rattle.st_tree.specs.Views.{constant_of}
use Rattle.tree_meaning.specs.Place.{Place}
use Rattle.tree_meaning.specs.Names.{where_is}
use Rattle.st_compiler.specs.Instruction as instruction
use Rattle.st_compiler.specs.Instruction.{Instruction}
use Rattle.st_compiler.specs.Code.{Piece, Gen}
use Rattle.st_compiler.specs.TreeCode.{store_op, method_code, chunk_code}
use Rattle.st_compiler.specs.declared.instr.Instr.{Instr}
use Rattle.st_compiler.specs.declared.instr.Instr.TheVariants.{PushSelf, PushNil, PushTrue, PushFalse, PushLit, MakeLit, PushLocal, StoreLocal, PushName, StoreName, Pop, Dup, Send, SuperSend, PushBlock, ReturnMethod, ReturnHome, ReturnBlock, Jump, JumpBack, JumpTrue, JumpFalse, TakeUnit, Enter, Leave, LoopStart, LoopNext, LoopStep}
use Rattle.st_compiler.specs.declared.instr.BlockBody.{BlockBody}

-- the instruction that is meant
abbrev pub instruction_of : Instr → Instruction
instruction_of PushSelf = instruction.PushSelf
instruction_of PushNil = instruction.PushNil
instruction_of PushTrue = instruction.PushTrue
instruction_of PushFalse = instruction.PushFalse
instruction_of (PushLit answer) = instruction.PushLit answer
instruction_of (MakeLit literal) = instruction.MakeLit (constant_of literal)
instruction_of (PushLocal depth index) = instruction.PushLocal depth index
instruction_of (StoreLocal depth index) = instruction.StoreLocal depth index
instruction_of (PushName name) = instruction.PushName name
instruction_of (StoreName name) = instruction.StoreName name
instruction_of Pop = instruction.Pop
instruction_of Dup = instruction.Dup
instruction_of (Send selector count) = instruction.Send selector count
instruction_of (SuperSend selector count) = instruction.SuperSend selector count
instruction_of (PushBlock number) = instruction.PushBlock number
instruction_of ReturnMethod = instruction.ReturnMethod
instruction_of ReturnHome = instruction.ReturnHome
instruction_of ReturnBlock = instruction.ReturnBlock
instruction_of (Jump ahead) = instruction.Jump ahead
instruction_of (JumpBack back) = instruction.JumpBack back
instruction_of (JumpTrue ahead) = instruction.JumpTrue ahead
instruction_of (JumpFalse ahead) = instruction.JumpFalse ahead
instruction_of TakeUnit = instruction.TakeUnit
instruction_of (Enter count) = instruction.Enter count
instruction_of Leave = instruction.Leave
instruction_of LoopStart = instruction.LoopStart
instruction_of (LoopNext ahead) = instruction.LoopNext ahead
instruction_of (LoopStep back) = instruction.LoopStep back

abbrev pub instructions : List Instr → List Instruction
instructions code = map instruction_of code

-- A block that is pushed: how many parameters and temporaries it has, and its instructions.
pub record Body : Type 0 where
  pub params : ℕ
  pub temps : ℕ
  pub code : List Instruction

abbrev pub body_of : BlockBody → Body
body_of block = record {
  params = block.params;
  temps = block.temps;
  code = instructions block.code.items;
}

abbrev pub bodies : List BlockBody → List Body
bodies blocks = map body_of blocks

abbrev pub tree_body : Closure → List Instruction → Body
tree_body (closure params temps body) code =
    record { params = length params; temps = length temps; code = code }

abbrev pub piece_body : Piece → Body
piece_body piece = tree_body piece.tree piece.code

-- These instructions were added.
pub record Puts (more : List Instruction) (before after : List Instr) : Type 0 where
  pub code : instructions after ≡ instructions before ++ more

-- A part was added: its instructions to these, and the blocks that it pushes to those.
pub record Adds (part : Gen) (code : List Instr) (blocks : List BlockBody) (code_now : List Instr)
    (blocks_now : List BlockBody) : Type 0 where
  pub code_is : instructions code_now ≡ instructions code ++ (part (length blocks)).code
  pub blocks_are : bodies blocks_now ≡ bodies blocks ++ map piece_body (part (length blocks)).pieces

-- the assignments of an expression's value, the last one first
abbrev pub assigned : List Text → Place → List Instruction
assigned [] place = []
assigned (name ∷ names) place =
    assigned names place ++ store_op (where_is name place.names) name ∷ []

-- The code of a text: of a method where there is a selector, and else of a chunk.
abbrev pub text_code_by : Option Text → Program → Gen
text_code_by None tree = chunk_code tree
text_code_by (Some selector) tree = method_code tree

abbrev pub text_code : Program → Gen
text_code tree = text_code_by tree.selector tree

-- These are the instructions of a part, and these the blocks that it pushes, numbered from 0.
pub record AreOf (part : Gen) (code : List Instr) (blocks : List BlockBody) : Type 0 where
  pub code_is : instructions code ≡ (part 0).code
  pub blocks_are : bodies blocks ≡ map piece_body (part 0).pieces

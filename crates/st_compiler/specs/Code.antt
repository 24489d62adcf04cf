-- Code: the instructions of a part of a tree, and the blocks that they push, each with its own.
-- Blocks are numbered from 0 in the order of the text; where code is spelled in bytes, number 0 is
-- the whole tree, and each of these blocks has the number after its own. How the parts are put
-- together looks at no tree.
use Rattle.std.specs.Prelude.{ℕ, zero, suc, ◌+◌, pos, Bool, true, false, List, [], ◌∷◌, ◌++◌, length}
use Rattle.st_tree.specs.Trees.{Closure}
use Rattle.tree_meaning.specs.Place.{Place}
use Rattle.st_compiler.specs.Instruction.{Instruction, Pop, PushNil, PushLit, PushLocal, StoreLocal, Jump, JumpBack, JumpTrue, JumpFalse, TakeUnit, Enter, Leave, LoopStart, LoopNext, LoopStep}
use Rattle.gem_object.specs.declared.value.Value.TheVariants.{Int}

-- A block that is pushed: its tree, where it stands, and its instructions.
pub record Piece : Type 0 where
  pub tree : Closure
  pub place : Place
  pub code : List Instruction

-- The instructions of a part of a tree, and the blocks that are pushed in it, each before those in
-- it.
pub record Part : Type 0 where
  pub code : List Instruction
  pub pieces : List Piece

-- a part, by the number that its first block has
abbrev pub Gen : Type 0
Gen = ℕ → Part

-- instructions alone
abbrev pub only : List Instruction → Gen
only instructions number = record { code = instructions; pieces = [] }

-- one part and then the other
abbrev pub then_part : Part → Part → Part
then_part first second = record {
  code = first.code ++ second.code;
  pieces = first.pieces ++ second.pieces;
}

abbrev pub seq : Gen → Gen → Gen
seq first second number =
    then_part (first number) (second (number + length (first number).pieces))

-- instructions, and then a part
abbrev pub prefixed_part : List Instruction → Part → Part
prefixed_part before part = record { code = before ++ part.code; pieces = part.pieces }

abbrev pub prefixed : List Instruction → Gen → Gen
prefixed before part number = prefixed_part before (part number)

-- a part between instructions
abbrev pub between_part : List Instruction → Part → List Instruction → Part
between_part before part after = record {
  code = before ++ (part.code ++ after);
  pieces = part.pieces;
}

abbrev pub between : List Instruction → Gen → List Instruction → Gen
between before part after number = between_part before (part number) after

-- a part in a scope of its own, of so many variables; a scope without variables isn't opened
abbrev pub in_scope_code : (variables : ℕ) → Gen → Gen
in_scope_code zero part = part
in_scope_code (suc others) part = between (Enter (suc others) ∷ []) part (Leave ∷ [])

-- leads past so many instructions unless the uppermost value is this truth value
abbrev pub jump_unless : (when : Bool) → ℕ → Instruction
jump_unless true ahead = JumpFalse ahead
jump_unless false ahead = JumpTrue ahead

-- one of two parts: the first where the uppermost value is this truth value
abbrev pub choice_part : (when : Bool) → (first second : Part) → Part
choice_part when first second = record {
  code = jump_unless when (suc (length first.code))
      ∷ (first.code ++ Jump (length second.code) ∷ second.code);
  pieces = first.pieces ++ second.pieces;
}

abbrev pub choice : (when : Bool) → (first second : Gen) → Gen
choice when first second number =
    choice_part when (first number) (second (number + length (first number).pieces))

-- the turns of a while loop: condition, unit and body, and back; nil at the end
abbrev pub while_part : (when : Bool) → (condition body : Part) → Part
while_part when condition body = record {
  code = condition.code ++ jump_unless when (length body.code + 3) ∷ TakeUnit
      ∷ (body.code ++ Pop ∷ JumpBack (length condition.code + length body.code + 3) ∷ PushNil ∷ []);
  pieces = condition.pieces ++ body.pieces;
}

abbrev pub while_code : (when : Bool) → (condition body : Gen) → Gen
while_code when condition body number =
    while_part when (condition number) (body (number + length (condition number).pieces))

-- A counting loop between the two uppermost values, the counter and above it the limit, which it
-- drops in the end: a unit and the body, which takes the counter, and back.
abbrev pub count_part : Part → Part
count_part body = record {
  code = LoopStart ∷ LoopNext (length body.code + 3) ∷ TakeUnit
      ∷ (body.code ++ Pop ∷ LoopStep (length body.code + 3) ∷ []);
  pieces = body.pieces;
}

abbrev pub count_code : Gen → Gen
count_code body number = count_part (body number)

-- The number of turns is on the stack, and stays there; the 1 and it are put above it, in the order
-- that a counting loop wants. A scope holds the number for so long.
abbrev pub begin_repeating : List Instruction
begin_repeating =
    Enter 1 ∷ StoreLocal 0 0 ∷ PushLit (Int (pos 1)) ∷ PushLocal 0 0 ∷ Leave ∷ []

-- Texts that run by their code, and the blocks that are pushed in them.
use Rattle.std.specs.Prelude.{ℕ, ◌<◌, List, [], length, get_or, true, Option, None, Some}
use Rattle.gem_object.specs.texts.Bytes.{Bytes as Text}
use Rattle.st_tree.specs.Trees.{closure, no_statements, Program}
use Rattle.tree_meaning.specs.Place.{Frame, MadeBlock}
use Rattle.tree_meaning.specs.Operands.{ValueRun}
use Rattle.tree_meaning.specs.Meaning.{Outside}
use Rattle.tree_meaning.specs.Bodies.{method_body, chunk_body, block_body}
use Rattle.tree_meaning.specs.declared.place.Mark.{Mark}
use Rattle.st_compiler.specs.Instruction.{Instruction}
use Rattle.st_compiler.specs.Code.{Piece}
use Rattle.st_compiler.specs.Emitted.{text_code}
use Rattle.st_machine.specs.declared.shared_code.Part.{Part}
use Rattle.st_machine.specs.declared.shared_code.Part.TheVariants.{Whole, Block}

-- the blocks that are pushed in a text
abbrev pub table_of : Program → List Piece
table_of tree = (text_code tree 0).pieces

-- what stands for a block that isn't there
abbrev pub no_piece : Piece
no_piece = record {
  tree = closure [] [] no_statements;
  place = record { names = []; in_block = true };
  code = [];
}

abbrev pub piece_of : Program → ℕ → Piece
piece_of tree number = get_or (table_of tree) number no_piece

-- there is such a part of a text
abbrev pub HasPart : Program → Part → Type 0
HasPart tree Whole = Unit {0}
HasPart tree (Block number) = number < length (table_of tree)

-- the instructions of a part
abbrev pub part_code : Program → Part → List Instruction
part_code tree Whole = (text_code tree 0).code
part_code tree (Block number) = (piece_of tree number).code

-- what a text means, of a method where there is a selector, and else of a chunk
abbrev pub text_run_by : Option Text → Outside → Program → Frame → ValueRun
text_run_by None outside tree frame = chunk_body outside tree frame
text_run_by (Some selector) outside tree frame = method_body outside tree frame

-- what a part means
abbrev pub part_run : Outside → Program → Part → Frame → ValueRun
part_run outside tree Whole frame = text_run_by tree.selector outside tree frame
part_run outside tree (Block number) frame =
    block_body outside (piece_of tree number).tree (piece_of tree number).place frame

-- the block of a number that an activation with this frame makes
abbrev pub made_of : Program → ℕ → Frame → MadeBlock
made_of tree number frame = record {
  tree = (piece_of tree number).tree;
  place = (piece_of tree number).place;
  frame = frame;
}

-- a frame with these scopes
abbrev pub framed : List Mark → Frame → Frame
framed scopes frame = record frame { scopes = scopes }

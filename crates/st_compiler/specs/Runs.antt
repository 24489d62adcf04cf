-- Code that does what a program does.
use Rattle.std.specs.Prelude.{◌≡◌, ℕ, ◌+◌, ◌≤◌, List, [], length, ⊤}
use Rattle.gem_object.specs.declared.value.Value.{Value}
use Rattle.tree_meaning.specs.gem_world.World.{Setting}
use Rattle.tree_meaning.specs.object_programs.Run.{State, perform}
use Rattle.tree_meaning.specs.Place.{Frame, MadeBlock}
use Rattle.tree_meaning.specs.Operands.{ValueRun}
use Rattle.tree_meaning.specs.Meaning.{Outside}
use Rattle.st_compiler.specs.Instruction.{Instruction, FitsRow}
use Rattle.st_compiler.specs.Code.{Piece}
use Rattle.st_compiler.specs.Machine.{CodeEnd, Next, over, ran_out, stuck, execute}
use Rattle.tree_meaning.specs.Bodies.{block_body}

-- The code does what the program does, in each frame and state: from its first instruction and an
-- empty stack there are enough instructions in at most as many stretches as there are units, and
-- one. The list has a number for each stretch.
abbrev pub Runs : Outside → Setting → (table : List Piece) → (code : List Instruction)
    → (Frame → ValueRun) → Type 0
Runs outside setting table code program = (frame : Frame) (state : State MadeBlock)
    → (allowed : List ℕ) × (length allowed ≤ state.budget.units + 1)
    × (execute outside setting table code allowed 0 [] frame state
    ≡ over (perform (program frame) setting state))

-- The code of a block does what the block means.
abbrev pub IsBlockCode : Outside → Setting → (table : List Piece) → Piece → Type 0
IsBlockCode outside setting table piece =
    Runs outside setting table piece.code (block_body outside piece.tree piece.place)

-- Two ends agree, unless in one of them the allowed number of instructions ran out.
abbrev pub Agree : CodeEnd → CodeEnd → Type 0
Agree ran_out second = ⊤
Agree first ran_out = ⊤
Agree (over first) (over second) = first ≡ second
Agree (over first) stuck = ⊥
Agree stuck (over second) = ⊥
Agree stuck stuck = ⊤

-- However many instructions are allowed, the code ends as the program ends, or they run out.
abbrev pub EveryRun : Outside → Setting → (table : List Piece) → (code : List Instruction)
    → (Frame → ValueRun) → Type 0
EveryRun outside setting table code program = (allowed : List ℕ) (frame : Frame)
    (state : State MadeBlock)
    → Agree (execute outside setting table code allowed 0 [] frame state)
    (over (perform (program frame) setting state))

-- Both go on in the same way with each stack that has the height which the instruction leaves.
abbrev pub SameAfter : Instruction → (before : ℕ) → (next other : Next) → Type 0
SameAfter one before next other = (place : ℕ) (stack : List Value) (frame : Frame)
    (state : State MadeBlock) → FitsRow one before (length stack)
    → next place stack frame state ≡ other place stack frame state

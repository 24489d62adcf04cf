-- Instructions: the op codes with their operands. Jumps say how far they lead: the first of these
-- numbers past the next place, or back from where the jump stands.
use Rattle.std.specs.Prelude.{◌≡◌, ◌⊎◌, ℕ, ◌+◌, Bool, true, false}
use Rattle.gem_object.specs.texts.Bytes.{Bytes as Text}
use Rattle.st_tree.specs.Trees.{Constant}
use Rattle.gem_object.specs.declared.value.Value.{Value}
use Rattle.tree_meaning.specs.op_table.Ops.{row_for}
use Rattle.tree_meaning.specs.op_table.declared.ops.Op.{Op}
use Rattle.tree_meaning.specs.op_table.declared.ops.Op.TheVariants as op

-- An instruction.
pub data Instruction : Type 0 where
  -- puts the receiver, nil, true, false
  PushSelf : Instruction
  PushNil : Instruction
  PushTrue : Instruction
  PushFalse : Instruction
  -- puts this value; puts a new object for the string or the array of the text
  PushLit : Value → Instruction
  MakeLit : Constant → Instruction
  -- puts a variable, stores the uppermost value in one
  PushLocal : (depth index : ℕ) → Instruction
  StoreLocal : (depth index : ℕ) → Instruction
  -- the same with a name that is no variable in scope
  PushName : Text → Instruction
  StoreName : Text → Instruction
  -- drops the uppermost value, puts it again
  Pop : Instruction
  Dup : Instruction
  -- sends a message with so many arguments
  Send : (selector : Text) → (count : ℕ) → Instruction
  SuperSend : (selector : Text) → (count : ℕ) → Instruction
  -- puts a new block: the one of this number
  PushBlock : ℕ → Instruction
  -- answers from the method, from the method in which the block stands, from the block
  ReturnMethod : Instruction
  ReturnHome : Instruction
  ReturnBlock : Instruction
  -- goes on past so many instructions; goes back by so many
  Jump : ℕ → Instruction
  JumpBack : ℕ → Instruction
  -- goes on past so many where the uppermost value, which it drops, is true, or false
  JumpTrue : ℕ → Instruction
  JumpFalse : ℕ → Instruction
  -- spends a unit
  TakeUnit : Instruction
  -- opens a scope of so many variables, closes one
  Enter : ℕ → Instruction
  Leave : Instruction
  -- asks for two integers, a counter and above it a limit
  LoopStart : Instruction
  -- puts the counter, or drops both and goes on past so many where it is above the limit
  LoopNext : ℕ → Instruction
  -- adds one to the counter and goes back by so many, or drops both where there is no next integer
  LoopStep : ℕ → Instruction

-- the op code of an instruction
abbrev pub op_of : Instruction → Op
op_of PushSelf = op.PushSelf
op_of PushNil = op.PushNil
op_of PushTrue = op.PushTrue
op_of PushFalse = op.PushFalse
op_of (PushLit answer) = op.PushLit
op_of (MakeLit tree) = op.MakeLit
op_of (PushLocal depth index) = op.PushLocal
op_of (StoreLocal depth index) = op.StoreLocal
op_of (PushName name) = op.PushName
op_of (StoreName name) = op.StoreName
op_of Pop = op.Pop
op_of Dup = op.Dup
op_of (Send selector count) = op.Send
op_of (SuperSend selector count) = op.SuperSend
op_of (PushBlock number) = op.PushBlock
op_of ReturnMethod = op.ReturnMethod
op_of ReturnHome = op.ReturnHome
op_of ReturnBlock = op.ReturnBlock
op_of (Jump ahead) = op.Jump
op_of (JumpBack back) = op.Jump
op_of (JumpTrue ahead) = op.JumpTrue
op_of (JumpFalse ahead) = op.JumpFalse
op_of TakeUnit = op.Unit
op_of (Enter count) = op.Enter
op_of Leave = op.Leave
op_of LoopStart = op.LoopStart
op_of (LoopNext ahead) = op.LoopNext
op_of (LoopStep back) = op.LoopStep

-- how many operands an instruction has
abbrev pub operands_of : Instruction → ℕ
operands_of (PushLit answer) = 1
operands_of (MakeLit tree) = 1
operands_of (PushLocal depth index) = 2
operands_of (StoreLocal depth index) = 2
operands_of (PushName name) = 1
operands_of (StoreName name) = 1
operands_of (Send selector count) = 2
operands_of (SuperSend selector count) = 2
operands_of (PushBlock number) = 1
operands_of (Jump ahead) = 1
operands_of (JumpBack back) = 1
operands_of (JumpTrue ahead) = 1
operands_of (JumpFalse ahead) = 1
operands_of (Enter count) = 1
operands_of (LoopNext ahead) = 1
operands_of (LoopStep back) = 1
operands_of other = 0

-- How many values an instruction takes from the stack and puts there, by its op code's row: a send
-- takes its arguments too.
abbrev pub takes : Instruction → ℕ
takes (Send selector count) = (row_for op.Send).pops + count
takes (SuperSend selector count) = (row_for op.SuperSend).pops + count
takes one = (row_for (op_of one)).pops

abbrev pub puts : Instruction → ℕ
puts one = (row_for (op_of one)).pushes

-- whether it may end a loop, and drop counter and limit
abbrev pub may_drop_both : Instruction → Bool
may_drop_both (LoopNext ahead) = true
may_drop_both (LoopStep back) = true
may_drop_both one = false

-- The stack has this height after the instruction, if it had that height before.
abbrev pub FitsRow : Instruction → (before after : ℕ) → Type 0
FitsRow one before after = (after + takes one ≡ before + puts one)
    ⊎ ((may_drop_both one ≡ true) × (after + 2 ≡ before))

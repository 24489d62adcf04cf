-- What a send and what a block come to, by cases: for whoever wants to know what the language means
-- without reading programs.
use Rattle.std.specs.Prelude.{◌≡◌, ℕ, suc, Bool, true, false, nat_eq, length, List, reverse, slice_get, Option, None, Some, Ok, Err}
use Rattle.gem_object.specs.texts.Bytes.{Bytes as Text}
use Rattle.object_programs.specs.st_tree.Trees.{Program}
use Rattle.object_programs.specs.st_grammar.Grammar.{method}
use Rattle.object_programs.specs.st_grammar_laws.TreeOf.{TextFault, tree_of}
use Rattle.gem_object.specs.declared.value.Value.{Value}
use Rattle.gem_object.specs.declared.value.BlockRef.{BlockRef}
use Rattle.gem_object.specs.declared.body.MethodCode.TheVariants.{Source, Primitive}
use Rattle.object_programs.specs.gem_world.World.{Setting}
use Rattle.object_programs.specs.Run.{Ending, gives, returns, fails, State}
use Rattle.object_programs.specs.declared.fault.Fault.TheVariants as fault
use Rattle.tree_meaning.specs.Place.{Frame, MadeBlock}
use Rattle.tree_meaning.specs.Operands.{ValueRun}
use Rattle.tree_meaning.specs.Bodies.{method_body, block_body, params_count, temps_count}
use Rattle.tree_meaning.specs.Calls.{activation, evaluation}
use Rattle.prim_rules.specs.declared.answer.PrimitiveAnswer.{PrimitiveAnswer}
use Rattle.prim_rules.specs.declared.answer.PrimitiveAnswer.TheVariants.{Gives, Evaluates}
use Rattle.gem_language.specs.declared.found.Found.{Found}
use Rattle.gem_language.specs.LookUp.{FindingRun, find_method}
use Rattle.prim_rules.specs.Rules.{rule_of}
use Rattle.gem_language.specs.Sends.{outside}
use Rattle.gem_language.specs.Comes.{Comes}

-- A message that is sent, with its arguments, the first one first.
pub record Sent : Type 0 where
  pub to_super : Bool
  pub selector : Text
  pub frame : Frame
  pub receiver : Value
  pub arguments : List Value

-- its look-up
abbrev pub look_up : Sent → FindingRun
look_up message = find_method message.to_super message.frame message.receiver message.selector

-- an end without an answer, which ends what comes after it too
abbrev pub stop_of : {A : Type 0} → Ending A → Option (Ending Value)
stop_of (gives answer) = None
stop_of (returns answer home) = Some (returns answer home)
stop_of (fails fault) = Some (fails fault)

-- the state with so many units left
abbrev pub with_units : ℕ → State MadeBlock → State MadeBlock
with_units units state = record state { budget = record state.budget { units = units } }

-- A made block, by its number, is handed these values where so many activations may still begin.
pub data BlockComes (depth : ℕ) (setting : Setting) (number : ℕ) (values : List Value)
    (state : State MadeBlock) : Ending Value → (after : State MadeBlock) → Type 0 where
  -- there is no such block: E5; no value of a chunk comes there
  no_block : slice_get state.local.blocks number ≡ None
      → BlockComes depth setting number values state (fails fault.ArgumentKind) state
  -- it takes another number of them: E9
  other_count : (made : MadeBlock) → slice_get state.local.blocks number ≡ Some made
      → nat_eq (length values) (params_count made.tree) ≡ false
      → BlockComes depth setting number values state (fails fault.BlockArgumentCount) state
  -- no activation may begin: E14
  too_deep : (made : MadeBlock) → slice_get state.local.blocks number ≡ Some made
      → nat_eq (length values) (params_count made.tree) ≡ true → depth ≡ 0
      → BlockComes depth setting number values state (fails fault.Depth) state
  -- it is evaluated in the scopes in which it was made, and one activation less may begin in it
  evaluated : (made : MadeBlock) (below : ℕ) (end : Ending Value) (after : State MadeBlock)
      → slice_get state.local.blocks number ≡ Some made
      → nat_eq (length values) (params_count made.tree) ≡ true → depth ≡ suc below
      → Comes (evaluation (block_body (outside below) made.tree made.place)
      (temps_count made.tree) made.frame values) setting state end after
      → BlockComes depth setting number values state end after

-- A method that was found is called.
pub data CallComes (depth : ℕ) (setting : Setting) (message : Sent) (found : Found)
    (state : State MadeBlock) : Ending Value → (after : State MadeBlock) → Type 0 where
  -- its primitive ends without an answer, with a value, or with a block that is evaluated
  primitive_stops : (number : ℕ) (end : Ending PrimitiveAnswer) (stop : Ending Value)
      (after : State MadeBlock) → found.code ≡ Primitive number
      → Comes (rule_of number message.receiver message.arguments) setting state end after
      → stop_of end ≡ Some stop → CallComes depth setting message found state stop after
  primitive_gives : (number : ℕ) (answer : Value) (after : State MadeBlock)
      → found.code ≡ Primitive number
      → Comes (rule_of number message.receiver message.arguments) setting state
      (gives (Gives answer)) after
      → CallComes depth setting message found state (gives answer) after
  primitive_evaluates : (number : ℕ) (block : BlockRef) (values : List Value)
      (between : State MadeBlock) (end : Ending Value) (after : State MadeBlock)
      → found.code ≡ Primitive number
      → Comes (rule_of number message.receiver message.arguments) setting state
      (gives (Evaluates block values)) between
      → BlockComes depth setting block.number values between end after
      → CallComes depth setting message found state end after
  -- its source has no tree: E1; no sound image has such a source
  no_tree : (source : Text) (wrong : TextFault) → found.code ≡ Source source
      → tree_of method source ≡ Err wrong
      → CallComes depth setting message found state
      (fails (fault.NotUnderstood message.selector)) state
  -- no activation may begin: E14
  method_too_deep : (source : Text) (tree : Program) → found.code ≡ Source source
      → tree_of method source ≡ Ok tree → depth ≡ 0
      → CallComes depth setting message found state (fails fault.Depth) state
  -- an activation of its tree, in which one less may begin; its names are those of its holder
  activated : (source : Text) (tree : Program) (below : ℕ) (end : Ending Value)
      (after : State MadeBlock) → found.code ≡ Source source
      → tree_of method source ≡ Ok tree → depth ≡ suc below
      → Comes (activation (method_body (outside below) tree) (length tree.temps) found.holder
      found.class_side message.receiver message.arguments) setting state end after
      → CallComes depth setting message found state end after

-- A send: a unit, then the look-up, then the method.
pub data SendComes (depth : ℕ) (setting : Setting) (message : Sent) (state : State MadeBlock)
    : Ending Value → (after : State MadeBlock) → Type 0 where
  -- no unit is left: E13
  no_unit : state.budget.units ≡ 0
      → SendComes depth setting message state (fails fault.SendBudget) state
  -- the look-up ends without an answer: what it reads may not be read
  look_up_stops : (left : ℕ) (end : Ending (Option Found)) (stop : Ending Value)
      (after : State MadeBlock) → state.budget.units ≡ suc left
      → Comes (look_up message) setting (with_units left state) end after
      → stop_of end ≡ Some stop → SendComes depth setting message state stop after
  -- nothing is found: E1
  not_understood : (left : ℕ) (after : State MadeBlock) → state.budget.units ≡ suc left
      → Comes (look_up message) setting (with_units left state) (gives None) after
      → SendComes depth setting message state (fails (fault.NotUnderstood message.selector)) after
  -- a method is found, and called
  called : (left : ℕ) (found : Found) (between : State MadeBlock) (end : Ending Value)
      (after : State MadeBlock) → state.budget.units ≡ suc left
      → Comes (look_up message) setting (with_units left state) (gives (Some found)) between
      → CallComes depth setting message found between end after
      → SendComes depth setting message state end after

-- the program of a send; a tree hands the arguments over with the last one first
abbrev pub send_program : (depth : ℕ) → Sent → ValueRun
send_program depth message = (outside depth).send_message message.to_super message.selector
    message.frame message.receiver (reverse message.arguments)

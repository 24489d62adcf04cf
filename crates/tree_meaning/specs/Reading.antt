-- How a tree is read: what its parts do, by cases on the tree. A deed is what something does in
-- each state. The laws in `src/laws.rt` say that the programs of the meaning do just this.
use Rattle.std.specs.Prelude.{◌≡◌, ◌≢◌, ◌<◌, slice_get, Some, ℕ, zero, suc, nat_eq, Bool, true, false, List, [], ◌∷◌}
use Rattle.object_programs.specs.texts.Bytes.{Bytes as Text}
use Rattle.object_programs.specs.st_tree.Trees.{block, Closure, Expression, expression, Expressions, no_expressions, an_expression, Send, Sends, no_sends, a_send}
use Rattle.object_programs.specs.gem_object.declared.value.Value.{Value}
use Rattle.object_programs.specs.gem_world.World.{Setting}
use Rattle.object_programs.specs.Run.{Ending, gives, returns, fails, State, Outcome, onward, perform}
use Rattle.object_programs.specs.declared.fault.Fault.{Fault}
use Rattle.object_programs.specs.declared.fault.Fault.TheVariants as fault
use Rattle.tree_meaning.specs.Place.{Place, Frame, MadeBlock}
use Rattle.tree_meaning.specs.Operands.{ValueRun}
use Rattle.tree_meaning.specs.Meaning.{Outside, expression_value, message_of}
use Rattle.tree_meaning.specs.declared.operand.Truth.{Truth}
use Rattle.tree_meaning.specs.declared.operand.Truth.TheVariants as truth

-- an expression that is a literal block and nothing else, and one or two arguments
abbrev pub a_block : Closure → Expression
a_block tree = expression [] (block tree) no_sends no_sends

abbrev pub one_argument : Expression → Expressions
one_argument first = an_expression first no_expressions

abbrev pub two_arguments : (first second : Expression) → Expressions
two_arguments first second = an_expression first (an_expression second no_expressions)

-- the text names the variable at this index of the scope at this depth, and no scope further in has
-- a variable of this name
pub record IsVariable (text : Text) (names : List (List Text)) (depth index : ℕ) : Type 0 where
  pub scope : List Text
  pub there : slice_get names depth ≡ Some scope
  pub named : slice_get scope index ≡ Some text
  pub hides : (further : ℕ) (other : List Text) → further < depth
      → slice_get names further ≡ Some other → (at : ℕ) → slice_get other at ≢ Some text

-- the text names no variable
pub record IsNoVariable (text : Text) (names : List (List Text)) : Type 0 where
  pub none : (depth : ℕ) (other : List Text) → slice_get names depth ≡ Some other
      → (at : ℕ) → slice_get other at ≢ Some text

-- what something does in each state
abbrev pub Deed : Type 0
Deed = State MadeBlock → Outcome MadeBlock Value

-- what a program does
abbrev pub deed : Setting → ValueRun → Deed
deed setting program state = perform program setting state

-- an answer, a value that returns to a home, and an error: the state stays as it is
abbrev pub answers : Value → Deed
answers answer state = record { end = gives answer; state = state }

abbrev pub returns_to : Value → (home : ℕ) → Deed
returns_to answer home state = record { end = returns answer home; state = state }

abbrev pub stops : Fault → Deed
stops fault state = record { end = fails fault; state = state }

-- one deed, and where it gives an answer another one with that
abbrev pub then_do : Deed → (Value → Deed) → Deed
then_do first second state = onward (first state).end (first state).state second

-- one of two deeds
abbrev pub either : Bool → (first second : Deed) → Deed
either true first second = first
either false first second = second

-- a unit, or E13 where none is left; and then a deed
abbrev pub with_units : ℕ → State MadeBlock → State MadeBlock
with_units units state = record state { budget = record state.budget { units = units } }

abbrev pub spending : ℕ → Deed → Deed
spending zero next state = stops fault.SendBudget state
spending (suc left) next state = next (with_units left state)

abbrev pub unit_then : Deed → Deed
unit_then next state = spending state.budget.units next state

-- how a method ends whose statements end so: a value that returns to it is its answer
abbrev pub caught_where : Bool → Value → (number : ℕ) → Ending Value
caught_where true answer number = gives answer
caught_where false answer number = returns answer number

abbrev pub caught : (home : ℕ) → Ending Value → Ending Value
caught home (gives answer) = gives answer
caught home (returns answer number) = caught_where (nat_eq number home) answer number
caught home (fails fault) = fails fault

-- one of two deeds by a condition: the first where it is this truth value; E3 where it is none
abbrev pub by_condition : Truth → (when : Bool) → (first second : Deed) → Deed
by_condition truth.True when first second = either when first second
by_condition truth.False when first second = either when second first
by_condition truth.Neither when first second = stops fault.NotBoolean

module _ (outside : Outside) (setting : Setting) (place : Place) (frame : Frame) where
  -- the values of arguments from left to right, before those that stand here; then a deed with all
  -- of them, the last one first
  abbrev pub in_order : Expressions → List Value → (List Value → Deed) → Deed
  in_order no_expressions values next = next values
  in_order (an_expression first rest) values next =
      then_do (deed setting (expression_value outside first place frame)) (λ answer.
      in_order rest (answer ∷ values) next)

  -- a message that is sent to a receiver
  abbrev pub sent : (to_super : Bool) → (receiver : Value) → Send → Deed
  sent to_super receiver message =
      deed setting ((message_of outside message).as_sent to_super receiver place frame)

  -- messages to one receiver, one after the other; the last answer counts
  abbrev pub sent_in_turn : (to_super : Bool) → (receiver : Value) → Send → Sends → Deed
  sent_in_turn to_super receiver first no_sends = sent to_super receiver first
  sent_in_turn to_super receiver first (a_send next rest) =
      then_do (sent to_super receiver first) (λ answer.
      sent_in_turn to_super receiver next rest)

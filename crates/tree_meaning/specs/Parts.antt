-- How the programs of a tree's parts are put together: messages in turn, cascades, statements,
-- literal blocks. Nothing here looks at a tree.
use Rattle.std.specs.Prelude.{Bool, true, false, List, [], ◌∷◌, ◌++◌, length, Option, None, Some}
use Rattle.object_programs.specs.texts.Bytes.{Bytes as Text}
use Rattle.object_programs.specs.gem_object.declared.value.Value.{Value}
use Rattle.object_programs.specs.gem_object.declared.value.Value.TheVariants as value
use Rattle.object_programs.specs.Run.{give, fail, return_to, seeing, and_then}
use Rattle.object_programs.specs.Programs.{choose}
use Rattle.object_programs.specs.declared.fault.Fault.TheVariants as fault
use Rattle.tree_meaning.specs.Place.{Place, Frame}
use Rattle.tree_meaning.specs.Operands.{ValueRun}
use Rattle.tree_meaning.specs.Scopes.{set_variable, in_scope, is_living}
use Rattle.tree_meaning.specs.Loops.{while_loop}

-- What an argument of a message means: its value; and as a block that is evaluated in its place,
-- with what its parameter is handed.
pub record Argument : Type 1 where
  pub value : Place → Frame → ValueRun
  pub in_place : Place → Option Value → Frame → ValueRun

-- What a message means to a receiver: as one that is sent, and by its special form, where it has
-- one; and its argument as the body of a while loop.
pub record Message : Type 1 where
  pub as_sent : (to_super : Bool) → (receiver : Value) → Place → Frame → ValueRun
  pub by_form : (to_super : Bool) → (receiver : Value) → Place → Frame → ValueRun
  pub body : Place → Frame → ValueRun

-- what stands for a block that isn't there: no special form asks for one
abbrev pub without_block : Place → Option Value → Frame → ValueRun
without_block place handed frame = give value.Nil

abbrev pub first_argument : List Argument → Argument
first_argument [] = record { value = λ place frame. give value.Nil; in_place = without_block }
first_argument (first ∷ rest) = first

abbrev pub rest_arguments : List Argument → List Argument
rest_arguments [] = []
rest_arguments (first ∷ rest) = rest

abbrev pub first_body : List Message → Place → Frame → ValueRun
first_body [] place frame = give value.Nil
first_body (first ∷ rest) place frame = first.body place frame

abbrev pub rest_messages : List Message → List Message
rest_messages [] = []
rest_messages (first ∷ rest) = rest

-- the values of arguments from left to right, before those that stand here; then what is done with
-- all of them, the last one first
abbrev pub argument_values : List Argument → List Value → Place → Frame
    → (List Value → ValueRun) → ValueRun
argument_values [] values place frame next = next values
argument_values (argument ∷ rest) values place frame next =
    and_then (argument.value place frame) (λ answer.
    argument_values rest (answer ∷ values) place frame next)

-- a block's variables come into scope
abbrev pub with_variables : List Text → Place → Place
with_variables [] place = place
with_variables (first ∷ rest) place = record place { names = (first ∷ rest) ∷ place.names }

-- the first parameter is handed a value, where there are both
abbrev pub hand : (params : List Text) → Option Value → Frame → ValueRun
hand [] handed frame = give value.Nil
hand (first ∷ rest) None frame = give value.Nil
hand (first ∷ rest) (Some answer) frame = set_variable frame 0 0 answer

-- A block that is evaluated in its place: its variables are new in each evaluation.
abbrev pub block_in_place : (params temps : List Text) → (Place → Frame → ValueRun) → Place
    → Option Value → Frame → ValueRun
block_in_place params temps body place handed frame =
    in_scope (length (params ++ temps)) frame (λ inner.
    and_then (hand params handed inner) (λ done.
    body (with_variables (params ++ temps) place) inner))

-- A cascade: a message and those after the semicolons, all to one receiver; the last answer counts.
abbrev pub cascade_in_turn : Message → List Message → (to_super : Bool) → (receiver : Value)
    → Place → Frame → ValueRun
cascade_in_turn message [] to_super receiver place frame =
    message.as_sent to_super receiver place frame
cascade_in_turn message (next ∷ rest) to_super receiver place frame =
    and_then (message.as_sent to_super receiver place frame) (λ answer.
    cascade_in_turn next rest to_super receiver place frame)

-- Messages one after the other, each to the answer of the one before it; the last of them begins
-- the cascade, where there is one. Only the first of them is sent to `super`.
abbrev pub messages_in_turn : (messages cascade : List Message) → (to_super : Bool)
    → (receiver : Value) → Place → Frame → ValueRun
messages_in_turn [] cascade to_super receiver place frame = give receiver
messages_in_turn (message ∷ []) (next ∷ rest) to_super receiver place frame =
    cascade_in_turn message (next ∷ rest) to_super receiver place frame
messages_in_turn (message ∷ rest) cascade to_super receiver place frame =
    and_then (message.by_form to_super receiver place frame) (λ answer.
    messages_in_turn rest cascade false answer place frame)

-- What begins an expression, and its messages. Where the first message is a while loop, what begins
-- the expression is the loop's condition.
abbrev pub head_and_messages : (loop : Option Bool) → (to_super : Bool)
    → (head : Place → Frame → ValueRun) → (condition : Place → Option Value → Frame → ValueRun)
    → (messages cascade : List Message) → Place → Frame → ValueRun
head_and_messages None to_super head condition messages cascade place frame =
    and_then (head place frame) (λ receiver.
    messages_in_turn messages cascade to_super receiver place frame)
head_and_messages (Some when) to_super head condition messages cascade place frame =
    and_then (while_loop when (condition place None frame) (first_body messages place frame))
    (λ answer. messages_in_turn (rest_messages messages) cascade false answer place frame)

-- statements one after the other: the answer is that of the last one, and nil where there is none
abbrev pub statements_from : (Place → Frame → ValueRun) → List (Place → Frame → ValueRun) → Place
    → Frame → ValueRun
statements_from first [] place frame = first place frame
statements_from first (next ∷ rest) place frame =
    and_then (first place frame) (λ answer. statements_from next rest place frame)

abbrev pub statements_in_turn : List (Place → Frame → ValueRun) → Place → Frame → ValueRun
statements_in_turn [] place frame = give value.Nil
statements_in_turn (first ∷ rest) place frame = statements_from first rest place frame

-- An answer by `^`. A method that runs is still there; the one in which a block stands may have
-- ended: then E8.
abbrev pub return_value : (in_block : Bool) → Frame → Value → ValueRun
return_value false frame answer = return_to answer frame.home
return_value true frame answer = seeing (λ budget local.
    choose (is_living frame.home local) (return_to answer frame.home) (fail fault.DeadHome))

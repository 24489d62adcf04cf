-- What a tree means obeys, where all does that stands outside of it.
use Rattle.std.proofs.Common.{refl, ℕ, zero, suc, Bool, true, false, ℤ, pos, Option, Some, None, List, [], ◌∷◌, ◌++◌, length}
use Rattle.gem_meaning.specs.texts.Bytes.{Bytes as Text}
use Rattle.gem_meaning.specs.st_tree.Trees.{Constant, Head, name, constant, block, paren, Closure, closure, Expression, expression, Expressions, no_expressions, an_expression, Send, send, Sends, no_sends, a_send, Statement, statement, Statements, no_statements, a_statement, Program}
use Rattle.gem_meaning.specs.gem_object.declared.value.Value.{Value}
use Rattle.gem_meaning.specs.gem_object.declared.value.Value.TheVariants as value
use Rattle.gem_meaning.specs.object_programs.Run.{and_then, Ending, gives, returns, fails}
use Rattle.gem_meaning.specs.object_programs.declared.fault.Fault.{Fault}
use Rattle.gem_meaning.specs.tree_meaning.Place.{Place, Frame, MadeBlock}
use Rattle.gem_meaning.specs.tree_meaning.Names.{where_is}
use Rattle.gem_meaning.specs.tree_meaning.Forms.{form_under, first_loop}
use Rattle.gem_meaning.specs.tree_meaning.Operands.{ValueRun, truth_of, by_truth, int_pair}
use Rattle.gem_meaning.specs.tree_meaning.Scopes.{variable_value, set_variable, close_scope, in_scope, ending_at_home, same_ending, leave_method, leave_block}
use Rattle.gem_meaning.specs.tree_meaning.Loops.{while_turns_up_to, while_turns, count_turns_up_to, count_turns, count_between}
use Rattle.gem_meaning.specs.tree_meaning.Parts.{Argument, Message, first_argument, rest_arguments, first_body, rest_messages, argument_values, with_variables, hand, block_in_place, cascade_in_turn, messages_in_turn, head_and_messages, statements_from, statements_in_turn, return_value}
use Rattle.gem_meaning.specs.tree_meaning.Meaning.{Outside, plain_constant, is_super_head, constant_run, read_where, write_where, assign_all, message, head_value, head_in_place, closure_in_place, expression_value, expression_in_place, messages_of, message_of, arguments_of, statement_value, statement_runs}
use Rattle.gem_meaning.specs.tree_meaning.Bodies.{method_body, chunk_body, block_body, method_place, block_place, statements_of}
use Rattle.gem_meaning.specs.tree_meaning.Calls.{activation, evaluation, call_block, call_block_at, make_block}
use Rattle.gem_meaning.specs.tree_meaning.declared.place.Mark.{Mark}
use Rattle.gem_meaning.specs.tree_meaning.declared.name.Where.{Where}
use Rattle.gem_meaning.specs.tree_meaning.declared.name.Where.TheVariants.{Receiver, Fixed, Variable, OutOfScope}
use Rattle.gem_meaning.specs.tree_meaning.declared.form.Form.{Form}
use Rattle.gem_meaning.specs.tree_meaning.declared.form.Form.TheVariants.{Plain, OneArm, TwoArms, Counting, Repeating}
use Rattle.gem_meaning.specs.tree_meaning.declared.operand.Truth.{Truth}
use Rattle.gem_meaning.specs.tree_meaning.declared.operand.Truth.TheVariants as truth
use Rattle.gem_meaning.specs.tree_meaning.declared.operand.Pair.{Pair}
use Rattle.gem_meaning.specs.tree_meaning.declared.operand.Pair.TheVariants.{Ints, Others}
use Rattle.history_laws.proofs.Obeys.{Obeys, Quits, gives_so, fails_so, returns_so, becomes, sees, then, ends_so, ticks, chooses, checks}

-- ---- scopes

pub variables : (frame : Frame) (depth index : ℕ) → Obeys (variable_value frame depth index)
unfolding variable_value
variables frame depth index = sees (λ budget local. gives_so)

pub sets : (frame : Frame) (depth index : ℕ) (one : Value) → Obeys (set_variable frame depth index one)
unfolding set_variable
sets frame depth index one = sees (λ budget local. then becomes (λ stored. gives_so))

closes : (mark : Mark) (one : Value) → Obeys (close_scope mark one)
unfolding close_scope
closes mark one = sees (λ budget local. then becomes (λ closed. gives_so))

pub scoped : (count : ℕ) (frame : Frame) (body : Frame → ValueRun) → ((inner : Frame) → Obeys (body inner))
    → Obeys (in_scope count frame body)
scoped zero frame body each = each frame
scoped (suc others) frame body each =
    sees (λ budget local. then becomes (λ opened. then (each _) (λ answer. closes _ _)))

home_so : (home : ℕ) (end : Ending Value) → Obeys (ending_at_home home end)
home_so home (gives one) = gives_so
home_so home (returns one number) = chooses _ gives_so returns_so
home_so home (fails error) = fails_so

same_so : (end : Ending Value) → Obeys (same_ending end)
same_so (gives one) = gives_so
same_so (returns one number) = returns_so
same_so (fails error) = fails_so

method_left : (mark : Mark) (end : Ending Value) → Obeys (leave_method mark end)
method_left mark end = sees (λ budget local. then becomes (λ left. home_so mark.living end))

block_left : (mark : Mark) (end : Ending Value) → Obeys (leave_block mark end)
block_left mark end = sees (λ budget local. then becomes (λ left. same_so end))

-- after an error nothing is done but that scopes are given back
method_quits : (mark : Mark) (error : Fault) → Quits (leave_method mark (fails error)) error
method_quits mark error = record {
  none = λ setting state. refl;
  end = λ setting state. refl;
  leaves = λ setting state. refl;
}

block_quits : (mark : Mark) (error : Fault) → Quits (leave_block mark (fails error)) error
block_quits mark error = record {
  none = λ setting state. refl;
  end = λ setting state. refl;
  leaves = λ setting state. refl;
}

pub activates : (body : Frame → ValueRun) (temps holder : ℕ) (class_side : Bool) (receiver : Value)
    (arguments : List Value) → ((frame : Frame) → Obeys (body frame))
    → Obeys (activation body temps holder class_side receiver arguments)
unfolding activation
activates body temps holder class_side receiver arguments each = sees (λ budget local.
    then becomes (λ begun.
    ends_so (each _) (λ end. method_left _ end) (λ error. method_quits _ error)))

pub evaluates : (body : Frame → ValueRun) (temps : ℕ) (frame : Frame) (arguments : List Value)
    → ((inner : Frame) → Obeys (body inner)) → Obeys (evaluation body temps frame arguments)
unfolding evaluation
evaluates body temps frame arguments each = sees (λ budget local. then becomes (λ opened.
    ends_so (each _) (λ end. block_left _ end) (λ error. block_quits _ error)))

called : (call : MadeBlock → List Value → ValueRun) (made : Option MadeBlock) (arguments : List Value)
    → ((one : MadeBlock) → Obeys (call one arguments)) → Obeys (call_block call made arguments)
called call None arguments each = fails_so
called call (Some one) arguments each = then (checks _ _) (λ checked. each one)

pub calls : (call : MadeBlock → List Value → ValueRun) (number : ℕ) (arguments : List Value)
    → ((one : MadeBlock) → Obeys (call one arguments)) → Obeys (call_block_at call number arguments)
unfolding call_block_at
calls call number arguments each =
    sees (λ budget local. called call _ arguments each)

pub makes_block : (tree : Closure) (place : Place) (frame : Frame) → Obeys (make_block tree place frame)
unfolding make_block
makes_block tree place frame = sees (λ budget local. then becomes (λ made. gives_so))

-- ---- loops and tests

by_truth_so : (test : Truth) (when : Bool) {first second : ValueRun} → Obeys first → Obeys second
    → Obeys (by_truth test when first second)
by_truth_so truth.True when first second = chooses _ first second
by_truth_so truth.False when first second = chooses _ second first
by_truth_so truth.Neither when first second = fails_so

turns_so : (limit : ℕ) (when : Bool) (condition body : ValueRun) → Obeys condition → Obeys body
    → Obeys (while_turns_up_to limit when condition body)
turns_so zero when condition body first second = fails_so
turns_so (suc limit) when condition body first second = then first (λ test.
    by_truth_so (truth_of test) when
    (then ticks (λ ticked. then second (λ answer. turns_so limit when condition body first second)))
    gives_so)

while_so : (when : Bool) (condition body : ValueRun) → Obeys condition → Obeys body
    → Obeys (while_turns when condition body)
unfolding while_turns
while_so when condition body first second =
    sees (λ budget local. turns_so (suc budget.units) when condition body first second)

count_so : (turns : ℕ) (number limit : ℤ) (body : Value → ValueRun) (answer : Value)
    → ((one : Value) → Obeys (body one)) → Obeys (count_turns_up_to turns number limit body answer)
count_so zero number limit body answer each = fails_so
count_so (suc turns) number limit body answer each = chooses _
    (then ticks (λ ticked. then (each _) (λ ended.
    chooses _ gives_so (count_so turns _ limit body answer each))))
    gives_so

counts : (number limit : ℤ) (body : Value → ValueRun) (answer : Value)
    → ((one : Value) → Obeys (body one)) → Obeys (count_turns number limit body answer)
unfolding count_turns
counts number limit body answer each =
    sees (λ budget local. count_so (suc budget.units) number limit body answer each)

between_so : (pair : Pair) (body : Value → ValueRun) (answer : Value) → ((one : Value) → Obeys (body one))
    → Obeys (count_between pair body answer)
between_so (Ints number limit) body answer each = counts number limit body answer each
between_so Others body answer each = fails_so

-- ---- parts of trees

-- arguments, messages and statements that obey
pub record ArgumentObeys (argument : Argument) : Type 0 where
  pub value : (place : Place) (frame : Frame) → Obeys (argument.value place frame)
  pub in_place : (place : Place) (handed : Option Value) (frame : Frame)
      → Obeys (argument.in_place place handed frame)

pub record MessageObeys (one : Message) : Type 0 where
  pub as_sent : (to_super : Bool) (receiver : Value) (place : Place) (frame : Frame)
      → Obeys (one.as_sent to_super receiver place frame)
  pub by_form : (to_super : Bool) (receiver : Value) (place : Place) (frame : Frame)
      → Obeys (one.by_form to_super receiver place frame)
  pub body : (place : Place) (frame : Frame) → Obeys (one.body place frame)

abbrev ArgumentsObey : List Argument → Type 0
ArgumentsObey [] = Unit {0}
ArgumentsObey (first ∷ rest) = ArgumentObeys first × ArgumentsObey rest

abbrev MessagesObey : List Message → Type 0
MessagesObey [] = Unit {0}
MessagesObey (first ∷ rest) = MessageObeys first × MessagesObey rest

abbrev StatementsObey : List (Place → Frame → ValueRun) → Type 0
StatementsObey [] = Unit {0}
StatementsObey (first ∷ rest) =
    ((place : Place) (frame : Frame) → Obeys (first place frame)) × StatementsObey rest

first_so : (arguments : List Argument) → ArgumentsObey arguments → ArgumentObeys (first_argument arguments)
first_so [] each =
    record { value = λ place frame. gives_so; in_place = λ place handed frame. gives_so }
first_so (first ∷ rest) each = each.0

rest_so : (arguments : List Argument) → ArgumentsObey arguments → ArgumentsObey (rest_arguments arguments)
rest_so [] each = tt
rest_so (first ∷ rest) each = each.1

body_so : (messages : List Message) → MessagesObey messages → (place : Place) (frame : Frame)
    → Obeys (first_body messages place frame)
body_so [] each place frame = gives_so
body_so (first ∷ rest) each place frame = each.0.body place frame

rest_messages_so : (messages : List Message) → MessagesObey messages → MessagesObey (rest_messages messages)
rest_messages_so [] each = tt
rest_messages_so (first ∷ rest) each = each.1

values_so : (arguments : List Argument) (values : List Value) (place : Place) (frame : Frame)
    (next : List Value → ValueRun) → ArgumentsObey arguments → ((all : List Value) → Obeys (next all))
    → Obeys (argument_values arguments values place frame next)
values_so [] values place frame next each last = last values
values_so (argument ∷ rest) values place frame next each last = then (each.0.value place frame) (λ answer.
    values_so rest (answer ∷ values) place frame next each.1 last)

hand_so : (params : List Text) (handed : Option Value) (frame : Frame) → Obeys (hand params handed frame)
hand_so [] handed frame = gives_so
hand_so (first ∷ rest) None frame = gives_so
hand_so (first ∷ rest) (Some answer) frame = sets _ _ _ _

in_place_so : (params temps : List Text) (body : Place → Frame → ValueRun) (place : Place)
    (handed : Option Value) (frame : Frame) → ((at : Place) (inner : Frame) → Obeys (body at inner))
    → Obeys (block_in_place params temps body place handed frame)
in_place_so params temps body place handed frame each = scoped (length (params ++ temps)) frame
    (λ inner. and_then (hand params handed inner) (λ done.
    body (with_variables (params ++ temps) place) inner))
    (λ inner. then (hand_so params handed inner) (λ done. each _ inner))

cascade_so : (one : Message) (more : List Message) (to_super : Bool) (receiver : Value) (place : Place)
    (frame : Frame) → MessageObeys one → MessagesObey more
    → Obeys (cascade_in_turn one more to_super receiver place frame)
cascade_so one [] to_super receiver place frame first each = first.as_sent to_super receiver place frame
cascade_so one (next ∷ rest) to_super receiver place frame first each =
    then (first.as_sent to_super receiver place frame) (λ answer.
    cascade_so next rest to_super receiver place frame each.0 each.1)

in_turn_so : (messages cascade : List Message) (to_super : Bool) (receiver : Value) (place : Place)
    (frame : Frame) → MessagesObey messages → MessagesObey cascade
    → Obeys (messages_in_turn messages cascade to_super receiver place frame)
in_turn_so [] cascade to_super receiver place frame each last = gives_so
in_turn_so (one ∷ []) [] to_super receiver place frame each last =
    then (each.0.by_form to_super receiver place frame) (λ answer. gives_so)
in_turn_so (one ∷ []) (next ∷ rest) to_super receiver place frame each last =
    cascade_so one (next ∷ rest) to_super receiver place frame each.0 last
in_turn_so (one ∷ second ∷ rest) cascade to_super receiver place frame each last =
    then (each.0.by_form to_super receiver place frame) (λ answer.
    in_turn_so (second ∷ rest) cascade false answer place frame each.1 last)

head_messages_so : (loop : Option Bool) (to_super : Bool) (head : Place → Frame → ValueRun)
    (condition : Place → Option Value → Frame → ValueRun) (messages cascade : List Message)
    (place : Place) (frame : Frame) → Obeys (head place frame) → Obeys (condition place None frame)
    → MessagesObey messages → MessagesObey cascade
    → Obeys (head_and_messages loop to_super head condition messages cascade place frame)
head_messages_so None to_super head condition messages cascade place frame first test each last =
    then first (λ receiver. in_turn_so messages cascade to_super receiver place frame each last)
head_messages_so (Some when) to_super head condition messages cascade place frame first test each last =
    then (then ticks (λ ticked.
    while_so when (condition place None frame) (first_body messages place frame) test
    (body_so messages each place frame)))
    (λ answer. in_turn_so (rest_messages messages) cascade false answer place frame
    (rest_messages_so messages each) last)

from_so : (first : Place → Frame → ValueRun) (more : List (Place → Frame → ValueRun)) (place : Place)
    (frame : Frame) → ((at : Place) (inner : Frame) → Obeys (first at inner)) → StatementsObey more
    → Obeys (statements_from first more place frame)
from_so first [] place frame here each = here place frame
from_so first (next ∷ rest) place frame here each =
    then (here place frame) (λ answer. from_so next rest place frame each.0 each.1)

statements_so : (all : List (Place → Frame → ValueRun)) (place : Place) (frame : Frame)
    → StatementsObey all → Obeys (statements_in_turn all place frame)
statements_so [] place frame each = gives_so
statements_so (first ∷ rest) place frame each = from_so first rest place frame each.0 each.1

return_so : (in_block : Bool) (frame : Frame) (answer : Value) → Obeys (return_value in_block frame answer)
return_so false frame answer = returns_so
return_so true frame answer = sees (λ budget local. chooses _ returns_so fails_so)

-- ---- trees

-- all that stands outside a tree obeys
pub record OutsideObeys (outside : Outside) : Type 0 where
  pub send_message : (to_super : Bool) (selector : Text) (frame : Frame) (receiver : Value)
      (arguments : List Value) → Obeys (outside.send_message to_super selector frame receiver arguments)
  pub read_name : (text : Text) (frame : Frame) → Obeys (outside.read_name text frame)
  pub write_name : (text : Text) (frame : Frame) (answer : Value)
      → Obeys (outside.write_name text frame answer)
  pub literal_value : (tree : Constant) → Obeys (outside.literal_value tree)
  pub make_block : (tree : Closure) (place : Place) (frame : Frame)
      → Obeys (outside.make_block tree place frame)

module _ (outside : Outside) (obeys : OutsideObeys outside) where
  constant_so : (found : Option Value) (tree : Constant) → Obeys (constant_run outside found tree)
  constant_so (Some answer) tree = gives_so
  constant_so None tree = obeys.literal_value tree

  read_so : (place : Where) (text : Text) (frame : Frame) → Obeys (read_where outside place text frame)
  read_so Receiver text frame = gives_so
  read_so (Fixed always) text frame = gives_so
  read_so (Variable depth index) text frame = variables _ _ _
  read_so OutOfScope text frame = obeys.read_name text frame

  write_so : (place : Where) (text : Text) (frame : Frame) (answer : Value)
      → Obeys (write_where outside place text frame answer)
  write_so (Variable depth index) text frame answer = sets _ _ _ _
  write_so other text frame answer = obeys.write_name text frame answer

  assign_so : (texts : List Text) (place : Place) (frame : Frame) (answer : Value)
      → Obeys (assign_all outside texts place frame answer)
  assign_so [] place frame answer = gives_so
  assign_so (text ∷ rest) place frame answer = then (assign_so rest place frame answer) (λ assigned.
      write_so (where_is text place.names) text frame assigned)

  message_so : (form : Form) (selector : Text) (arguments : List Argument) (to_super : Bool)
      (receiver : Value) (place : Place) (frame : Frame) → ArgumentsObey arguments
      → Obeys (message outside form selector arguments to_super receiver place frame)
  message_so Plain selector arguments to_super receiver place frame each =
      values_so arguments [] place frame
      (λ values. outside.send_message to_super selector frame receiver values) each
      (λ values. obeys.send_message to_super selector frame receiver values)
  message_so (OneArm when otherwise) selector arguments to_super receiver place frame each =
      then ticks (λ ticked. by_truth_so (truth_of receiver) when
      ((first_so arguments each).in_place place None frame) gives_so)
  message_so (TwoArms when) selector arguments to_super receiver place frame each =
      then ticks (λ ticked. by_truth_so (truth_of receiver) when
      ((first_so arguments each).in_place place None frame)
      ((first_so (rest_arguments arguments) (rest_so arguments each)).in_place place None frame))
  message_so Counting selector arguments to_super receiver place frame each =
      then ((first_so arguments each).value place frame) (λ limit. then ticks (λ ticked.
      between_so (int_pair receiver limit)
      (λ number. (first_argument (rest_arguments arguments)).in_place place (Some number) frame) receiver
      (λ number.
      (first_so (rest_arguments arguments) (rest_so arguments each)).in_place place (Some number) frame)))
  message_so Repeating selector arguments to_super receiver place frame each =
      then ticks (λ ticked. between_so (int_pair (value.Int (pos 1)) receiver)
      (λ number. (first_argument arguments).in_place place None frame) receiver (λ number.
      (first_so arguments each).in_place place None frame))

  mutual
    head_so : (tree : Head) (place : Place) (frame : Frame) → Obeys (head_value outside tree place frame)
    head_so (name text) place frame = read_so (where_is text place.names) text frame
    head_so (constant tree) place frame = constant_so (plain_constant tree) tree
    head_so (block tree) place frame = obeys.make_block tree place frame
    head_so (paren tree) place frame = expression_so tree place frame

    head_in_place_so : (tree : Head) (place : Place) (handed : Option Value) (frame : Frame)
        → Obeys (head_in_place outside tree place handed frame)
    head_in_place_so (block tree) place handed frame = closure_so tree place handed frame
    head_in_place_so (name text) place handed frame = gives_so
    head_in_place_so (constant tree) place handed frame = gives_so
    head_in_place_so (paren tree) place handed frame = gives_so

    closure_so : (tree : Closure) (place : Place) (handed : Option Value) (frame : Frame)
        → Obeys (closure_in_place outside tree place handed frame)
    closure_so (closure params temps body) place handed frame = in_place_so params temps
        (statements_in_turn (statement_runs outside body)) place handed frame (λ at inner.
        statements_so (statement_runs outside body) at inner (runs_so body))

    expression_so : (tree : Expression) (place : Place) (frame : Frame)
        → Obeys (expression_value outside tree place frame)
    expression_so (expression assigns head messages cascade) place frame = then
        (head_messages_so (first_loop head messages cascade) (is_super_head head) (head_value outside head)
        (head_in_place outside head) (messages_of outside messages)
        (messages_of outside cascade) place frame
        (head_so head place frame) (head_in_place_so head place None frame) (messages_so messages)
        (messages_so cascade))
        (λ answer. assign_so assigns place frame answer)

    expression_in_place_so : (tree : Expression) (place : Place) (handed : Option Value) (frame : Frame)
        → Obeys (expression_in_place outside tree place handed frame)
    expression_in_place_so (expression assigns head messages cascade) place handed frame =
        head_in_place_so head place handed frame

    messages_so : (trees : Sends) → MessagesObey (messages_of outside trees)
    messages_so no_sends = tt
    messages_so (a_send first rest) = (one_message_so first, messages_so rest)

    one_message_so : (tree : Send) → MessageObeys (message_of outside tree)
    one_message_so (send selector arguments) = record {
      as_sent = λ to_super receiver place frame. message_so Plain selector (arguments_of outside arguments)
          to_super receiver place frame (arguments_so arguments);
      by_form = λ to_super receiver place frame.
          message_so (form_under to_super selector arguments) selector
          (arguments_of outside arguments) to_super receiver place frame (arguments_so arguments);
      body = λ place frame.
          (first_so (arguments_of outside arguments) (arguments_so arguments)).in_place place
          None frame;
    }

    arguments_so : (trees : Expressions) → ArgumentsObey (arguments_of outside trees)
    arguments_so no_expressions = tt
    arguments_so (an_expression first rest) = (
      record {
        value = expression_so first;
        in_place = expression_in_place_so first;
      },
      arguments_so rest,
    )

    statement_so : (tree : Statement) (place : Place) (frame : Frame)
        → Obeys (statement_value outside tree place frame)
    statement_so (statement false tree) place frame = expression_so tree place frame
    statement_so (statement true tree) place frame = then (expression_so tree place frame) (λ answer.
        return_so place.in_block frame answer)

    runs_so : (trees : Statements) → StatementsObey (statement_runs outside trees)
    runs_so no_statements = tt
    runs_so (a_statement first rest) = (statement_so first, runs_so rest)

  -- ---- bodies

  pub method_so : (tree : Program) (frame : Frame) → Obeys (method_body outside tree frame)
  unfolding method_body
  method_so tree frame = then
      (statements_so (statement_runs outside tree.body) (method_place tree) frame (runs_so tree.body))
      (λ answer. returns_so)

  pub chunk_so : (tree : Program) (frame : Frame) → Obeys (chunk_body outside tree frame)
  unfolding chunk_body
  chunk_so tree frame = then
      (statements_so (statement_runs outside tree.body) (method_place tree) frame (runs_so tree.body))
      (λ answer. returns_so)

  pub block_so : (tree : Closure) (place : Place) (frame : Frame)
      → Obeys (block_body outside tree place frame)
  unfolding block_body
  block_so tree place frame = statements_so (statement_runs outside (statements_of tree))
      (block_place tree place) frame (runs_so (statements_of tree))

-- What a tree means: a program for each of its parts. What stands outside a tree, as sends and
-- names that are no variables, is one record of programs. All that decides, as special forms,
-- cascades and loops, is a function over small records of programs, and looks at no tree.
use Rattle.std.specs.Prelude.{pos, Bool, true, false, List, [], ◌∷◌, Option, None, Some}
use Rattle.object_programs.specs.texts.Bytes.{Bytes as Text}
use Rattle.object_programs.specs.st_tree.Trees.{Constant, int, char, str, sym, nothing, yes, no, array, Head, name, constant, block, paren, Closure, closure, Expression, expression, Expressions, no_expressions, an_expression, Send, send, Sends, no_sends, a_send, Statement, statement, Statements, no_statements, a_statement}
use Rattle.object_programs.specs.gem_object.declared.value.Value.{Value}
use Rattle.object_programs.specs.gem_object.declared.value.Value.TheVariants as value
use Rattle.object_programs.specs.Atom.{Tick}
use Rattle.object_programs.specs.Run.{give, atom, and_then}
use Rattle.tree_meaning.specs.Place.{Place, Frame}
use Rattle.tree_meaning.specs.Names.{where_is, is_super, singleton_value}
use Rattle.tree_meaning.specs.Forms.{form_under, first_loop}
use Rattle.tree_meaning.specs.Operands.{ValueRun, truth_of, by_truth, int_pair}
use Rattle.tree_meaning.specs.Scopes.{variable_value, set_variable}
use Rattle.tree_meaning.specs.Loops.{count_between}
use Rattle.tree_meaning.specs.declared.name.Where.{Where}
use Rattle.tree_meaning.specs.declared.name.Where.TheVariants.{Receiver, Fixed, Variable, OutOfScope}
use Rattle.tree_meaning.specs.declared.form.Form.{Form}
use Rattle.tree_meaning.specs.declared.form.Form.TheVariants.{Plain, OneArm, TwoArms, Counting, Repeating}
use Rattle.tree_meaning.specs.Parts.{Argument, Message, without_block, first_argument, rest_arguments, argument_values, block_in_place, head_and_messages, statements_in_turn, return_value}

-- What stands outside a tree.
pub record Outside : Type 1 where
  -- A message with this selector to a receiver, with its arguments, the LAST one first. It begins
  -- by spending its unit.
  pub send_message : (to_super : Bool) → Text → Frame → (receiver : Value)
      → (arguments : List Value) → ValueRun
  -- the value of a name that is no variable in scope, and an assignment to it, which answers the
  -- value
  pub read_name : Text → Frame → ValueRun
  pub write_name : Text → Frame → Value → ValueRun
  -- the new object of a string or an array that is written out in the text
  pub literal_value : Constant → ValueRun
  -- a new block, where it stands at this place
  pub make_block : Closure → Place → Frame → ValueRun

-- the value that a literal stands for, but for a string and an array
abbrev pub plain_constant : Constant → Option Value
plain_constant (int number) = Some (value.Int number)
plain_constant (char code) = Some (value.Char code)
plain_constant (sym bytes) = Some (value.Sym bytes)
plain_constant nothing = Some value.Nil
plain_constant yes = Some value.True
plain_constant no = Some value.False
plain_constant (str bytes) = None
plain_constant (array items) = None

-- whether what begins an expression is `super`
abbrev pub is_super_head : Head → Bool
is_super_head (name text) = is_super text
is_super_head head = false

module _ (outside : Outside) where
  -- a literal
  abbrev pub constant_run : Option Value → Constant → ValueRun
  constant_run (Some answer) tree = give answer
  constant_run None tree = outside.literal_value tree

  -- the value of a name, and an assignment to it
  abbrev pub read_where : Where → Text → Frame → ValueRun
  read_where Receiver text frame = give frame.receiver
  read_where (Fixed always) text frame = give (singleton_value always)
  read_where (Variable depth index) text frame = variable_value frame depth index
  read_where OutOfScope text frame = outside.read_name text frame

  abbrev pub write_where : Where → Text → Frame → Value → ValueRun
  write_where (Variable depth index) text frame answer = set_variable frame depth index answer
  write_where other text frame answer = outside.write_name text frame answer

  -- assignments, from right to left
  abbrev pub assign_all : List Text → Place → Frame → Value → ValueRun
  assign_all [] place frame answer = give answer
  assign_all (text ∷ rest) place frame answer =
      and_then (assign_all rest place frame answer) (λ assigned.
      write_where (where_is text place.names) text frame assigned)

  -- A message to a receiver. One that is sent: its arguments from left to right, and then the send.
  -- By a special form: the limit, where it has one, then a unit, and then what the form does.
  abbrev pub message : Form → Text → List Argument → (to_super : Bool) → (receiver : Value)
      → Place → Frame → ValueRun
  message Plain selector arguments to_super receiver place frame =
      argument_values arguments [] place frame (λ values.
      outside.send_message to_super selector frame receiver values)
  message (OneArm when otherwise) selector arguments to_super receiver place frame =
      and_then (atom Tick) (λ ticked.
      by_truth (truth_of receiver) when
      ((first_argument arguments).in_place place None frame)
      (give (singleton_value otherwise)))
  message (TwoArms when) selector arguments to_super receiver place frame =
      and_then (atom Tick) (λ ticked.
      by_truth (truth_of receiver) when
      ((first_argument arguments).in_place place None frame)
      ((first_argument (rest_arguments arguments)).in_place place None frame))
  message Counting selector arguments to_super receiver place frame =
      and_then ((first_argument arguments).value place frame) (λ limit.
      and_then (atom Tick) (λ ticked.
      count_between (int_pair receiver limit)
      (λ number. (first_argument (rest_arguments arguments)).in_place place (Some number) frame)
      receiver))
  message Repeating selector arguments to_super receiver place frame =
      and_then (atom Tick) (λ ticked.
      count_between (int_pair (value.Int (pos 1)) receiver)
      (λ number. (first_argument arguments).in_place place None frame)
      receiver)

  -- what each part of a tree means
  abbrev mutual
    pub head_value : Head → Place → Frame → ValueRun
    head_value (name text) place frame = read_where (where_is text place.names) text frame
    head_value (constant tree) place frame = constant_run (plain_constant tree) tree
    head_value (block tree) place frame = outside.make_block tree place frame
    head_value (paren tree) place frame = expression_value tree place frame

    -- the same as a block that is evaluated in its place
    pub head_in_place : Head → Place → Option Value → Frame → ValueRun
    head_in_place (block tree) place handed frame = closure_in_place tree place handed frame
    head_in_place (name text) place handed frame = without_block place handed frame
    head_in_place (constant tree) place handed frame = without_block place handed frame
    head_in_place (paren tree) place handed frame = without_block place handed frame

    pub closure_in_place : Closure → Place → Option Value → Frame → ValueRun
    closure_in_place (closure params temps body) place handed frame =
        block_in_place params temps (statements_in_turn (statement_runs body)) place handed frame

    -- an expression: what begins it, its messages, and then its assignments
    pub expression_value : Expression → Place → Frame → ValueRun
    expression_value (expression assigns head messages cascade) place frame =
        and_then
        (head_and_messages (first_loop head messages cascade) (is_super_head head)
        (head_value head) (head_in_place head) (messages_of messages)
        (messages_of cascade) place frame)
        (λ answer. assign_all assigns place frame answer)

    pub expression_in_place : Expression → Place → Option Value → Frame → ValueRun
    expression_in_place (expression assigns head messages cascade) place handed frame =
        head_in_place head place handed frame

    pub messages_of : Sends → List Message
    messages_of no_sends = []
    messages_of (a_send first rest) = message_of first ∷ messages_of rest

    pub message_of : Send → Message
    message_of (send selector arguments) = record {
      as_sent = λ to_super receiver place frame.
          message Plain selector (arguments_of arguments) to_super receiver place frame;
      by_form = λ to_super receiver place frame.
          message (form_under to_super selector arguments) selector (arguments_of arguments)
          to_super receiver place frame;
      body = λ place frame. (first_argument (arguments_of arguments)).in_place place None frame;
    }

    pub arguments_of : Expressions → List Argument
    arguments_of no_expressions = []
    arguments_of (an_expression first rest) = record {
      value = expression_value first;
      in_place = expression_in_place first;
    } ∷ arguments_of rest

    pub statement_value : Statement → Place → Frame → ValueRun
    statement_value (statement false tree) place frame = expression_value tree place frame
    statement_value (statement true tree) place frame =
        and_then (expression_value tree place frame) (λ answer.
        return_value place.in_block frame answer)

    pub statement_runs : Statements → List (Place → Frame → ValueRun)
    statement_runs no_statements = []
    statement_runs (a_statement first rest) = statement_value first ∷ statement_runs rest

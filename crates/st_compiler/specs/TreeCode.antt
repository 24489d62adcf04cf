-- The code of a tree. Each part knows its place and how many values stand on the stack beneath it:
-- a return from the middle of an expression drops these first, since a return wants one value.
use Rattle.std.specs.Prelude.{ℕ, zero, suc, Bool, true, false, List, [], ◌∷◌, ◌++◌, length, replicate, Option, None, Some}
use Rattle.gem_object.specs.texts.Bytes.{Bytes as Text}
use Rattle.st_tree.specs.Trees.{Constant, Head, name, constant, block, paren, Closure, closure, Expression, expression, Expressions, no_expressions, an_expression, Send as AMessage, send, Sends, no_sends, a_send, Statement, statement, Statements, no_statements, a_statement, Program}
use Rattle.gem_object.specs.declared.value.Value.{Value}
use Rattle.tree_meaning.specs.Place.{Place}
use Rattle.tree_meaning.specs.Names.{where_is}
use Rattle.tree_meaning.specs.Forms.{form_under, first_loop}
use Rattle.tree_meaning.specs.Parts.{with_variables}
use Rattle.tree_meaning.specs.Meaning.{plain_constant, is_super_head}
use Rattle.tree_meaning.specs.Bodies.{method_place, block_place}
use Rattle.tree_meaning.specs.declared.name.Singleton.{Singleton}
use Rattle.tree_meaning.specs.declared.name.Singleton.TheVariants as singleton
use Rattle.tree_meaning.specs.declared.name.Where.{Where}
use Rattle.tree_meaning.specs.declared.name.Where.TheVariants.{Receiver, Fixed, Variable, OutOfScope}
use Rattle.tree_meaning.specs.declared.form.Form.{Form}
use Rattle.tree_meaning.specs.declared.form.Form.TheVariants.{Plain, OneArm, TwoArms, Counting, Repeating}
use Rattle.st_compiler.specs.Instruction.{Instruction, PushSelf, PushNil, PushTrue, PushFalse, PushLit, MakeLit, PushLocal, StoreLocal, PushName, StoreName, Pop, Dup, Send, SuperSend, PushBlock, ReturnMethod, ReturnHome, ReturnBlock, TakeUnit}
use Rattle.st_compiler.specs.Code.{Part, Gen, only, seq, prefixed, in_scope_code, choice, while_code, count_code, begin_repeating}

-- The code of an argument: of its value; and as a block in its place, which may take the uppermost
-- value for its parameter.
pub record ArgumentCode : Type 0 where
  pub value : Place → (height : ℕ) → Gen
  pub in_place : Place → (handed : Bool) → (height : ℕ) → Gen

-- The code of a message to the uppermost value: as one that is sent, and by its special form; and
-- of its argument as the body of a while loop. The height is that beneath the receiver.
pub record MessageCode : Type 0 where
  pub as_sent : (to_super : Bool) → Place → (height : ℕ) → Gen
  pub by_form : (to_super : Bool) → Place → (height : ℕ) → Gen
  pub body : Place → (height : ℕ) → Gen

-- the value handed to a block that isn't there is dropped
abbrev pub drop_handed : Bool → List Instruction
drop_handed true = Pop ∷ []
drop_handed false = []

abbrev pub no_block_code : Place → (handed : Bool) → (height : ℕ) → Gen
no_block_code place handed height = prefixed (drop_handed handed) (only (PushNil ∷ []))

abbrev pub first_argument_code : List ArgumentCode → ArgumentCode
first_argument_code [] =
    record { value = λ place height. only (PushNil ∷ []); in_place = no_block_code }
first_argument_code (first ∷ rest) = first

abbrev pub rest_argument_codes : List ArgumentCode → List ArgumentCode
rest_argument_codes [] = []
rest_argument_codes (first ∷ rest) = rest

abbrev pub first_body_code : List MessageCode → Place → (height : ℕ) → Gen
first_body_code [] place height = only (PushNil ∷ [])
first_body_code (first ∷ rest) place height = first.body place height

abbrev pub rest_message_codes : List MessageCode → List MessageCode
rest_message_codes [] = []
rest_message_codes (first ∷ rest) = rest

-- the arguments from left to right
abbrev pub argument_values_code : List ArgumentCode → Place → (height : ℕ) → Gen → Gen
argument_values_code [] place height next = next
argument_values_code (argument ∷ rest) place height next =
    seq (argument.value place height) (argument_values_code rest place (suc height) next)

-- what a block's first parameter is handed is stored there and dropped
abbrev pub hand_code : (params : List Text) → (handed : Bool) → List Instruction
hand_code params false = []
hand_code [] true = Pop ∷ []
hand_code (first ∷ rest) true = StoreLocal 0 0 ∷ Pop ∷ []

abbrev pub block_in_place_code : (params temps : List Text) → (Place → (height : ℕ) → Gen) → Place
    → (handed : Bool) → (height : ℕ) → Gen
block_in_place_code params temps body place handed height =
    in_scope_code (length (params ++ temps))
    (prefixed (hand_code params handed) (body (with_variables (params ++ temps) place) height))

-- the receiver of a cascade is put once more for each of its messages but the last
abbrev pub cascade_code : MessageCode → List MessageCode → (to_super : Bool) → Place
    → (height : ℕ) → Gen
cascade_code message [] to_super place height = message.as_sent to_super place height
cascade_code message (next ∷ rest) to_super place height =
    prefixed (Dup ∷ [])
    (seq (message.as_sent to_super place (suc height))
    (prefixed (Pop ∷ []) (cascade_code next rest to_super place height)))

abbrev pub messages_in_turn_code : (messages cascade : List MessageCode) → (to_super : Bool)
    → Place → (height : ℕ) → Gen
messages_in_turn_code [] cascade to_super place height = only []
messages_in_turn_code (message ∷ []) (next ∷ rest) to_super place height =
    cascade_code message (next ∷ rest) to_super place height
messages_in_turn_code (message ∷ rest) cascade to_super place height =
    seq (message.by_form to_super place height)
    (messages_in_turn_code rest cascade false place height)

abbrev pub head_and_messages_code : (loop : Option Bool) → (to_super : Bool)
    → (head : Place → (height : ℕ) → Gen)
    → (condition : Place → (handed : Bool) → (height : ℕ) → Gen)
    → (messages cascade : List MessageCode) → Place → (height : ℕ) → Gen
head_and_messages_code None to_super head condition messages cascade place height =
    seq (head place height) (messages_in_turn_code messages cascade to_super place height)
head_and_messages_code (Some when) to_super head condition messages cascade place height =
    seq
    (prefixed (TakeUnit ∷ [])
    (while_code when (condition place false height)
    (first_body_code messages place height)))
    (messages_in_turn_code (rest_message_codes messages) cascade false place height)

abbrev pub statements_from_code : (Place → (height : ℕ) → Gen)
    → List (Place → (height : ℕ) → Gen) → Place → (height : ℕ) → Gen
statements_from_code first [] place height = first place height
statements_from_code first (next ∷ rest) place height =
    seq (first place height)
    (prefixed (Pop ∷ []) (statements_from_code next rest place height))

abbrev pub statements_in_turn_code : List (Place → (height : ℕ) → Gen) → Place → (height : ℕ)
    → Gen
statements_in_turn_code [] place height = only (PushNil ∷ [])
statements_in_turn_code (first ∷ rest) place height = statements_from_code first rest place height

-- an answer by `^`, from a method and from a block that is made
abbrev pub return_op : (in_block : Bool) → Instruction
return_op false = ReturnMethod
return_op true = ReturnHome

abbrev pub literal_op : Option Value → Constant → Instruction
literal_op (Some answer) tree = PushLit answer
literal_op None tree = MakeLit tree

abbrev pub singleton_op : Singleton → Instruction
singleton_op singleton.Nil = PushNil
singleton_op singleton.True = PushTrue
singleton_op singleton.False = PushFalse

abbrev pub push_op : Where → Text → Instruction
push_op Receiver text = PushSelf
push_op (Fixed always) text = singleton_op always
push_op (Variable depth index) text = PushLocal depth index
push_op OutOfScope text = PushName text

abbrev pub store_op : Where → Text → Instruction
store_op (Variable depth index) text = StoreLocal depth index
store_op other text = StoreName text

abbrev pub assign_code : List Text → Place → Gen
assign_code [] place = only []
assign_code (text ∷ rest) place =
    seq (assign_code rest place) (only (store_op (where_is text place.names) text ∷ []))

abbrev pub send_op : (to_super : Bool) → Text → ℕ → Instruction
send_op false selector count = Send selector count
send_op true selector count = SuperSend selector count

-- A message to the uppermost value. In `to:do:` it is put once more, for the counter.
abbrev pub message_code : Form → Text → List ArgumentCode → (to_super : Bool) → Place
    → (height : ℕ) → Gen
message_code Plain selector arguments to_super place height =
    argument_values_code arguments place (suc height)
    (only (send_op to_super selector (length arguments) ∷ []))
message_code (OneArm when otherwise) selector arguments to_super place height =
    prefixed (TakeUnit ∷ [])
    (choice when ((first_argument_code arguments).in_place place false height)
    (only (singleton_op otherwise ∷ [])))
message_code (TwoArms when) selector arguments to_super place height =
    prefixed (TakeUnit ∷ [])
    (choice when ((first_argument_code arguments).in_place place false height)
    ((first_argument_code (rest_argument_codes arguments)).in_place place false height))
message_code Counting selector arguments to_super place height =
    prefixed (Dup ∷ [])
    (seq ((first_argument_code arguments).value place (suc (suc height)))
    (prefixed (TakeUnit ∷ [])
    (count_code ((first_argument_code (rest_argument_codes arguments)).in_place place
    true (suc (suc (suc height)))))))
message_code Repeating selector arguments to_super place height =
    prefixed (TakeUnit ∷ [])
    (prefixed begin_repeating
    (count_code (prefixed (Pop ∷ [])
    ((first_argument_code arguments).in_place place false (suc (suc (suc height)))))))

-- a block that is pushed, with its code
abbrev pub pushed : ℕ → Closure → Place → Part → Part
pushed number tree place part = record {
  code = PushBlock number ∷ [];
  pieces = record { tree = tree; place = place; code = part.code } ∷ part.pieces;
}

-- the code of each part of a tree
abbrev mutual
  pub head_code : Head → Place → (height : ℕ) → Gen
  head_code (name text) place height = only (push_op (where_is text place.names) text ∷ [])
  head_code (constant tree) place height = only (literal_op (plain_constant tree) tree ∷ [])
  head_code (block tree) place height =
      λ number. pushed number tree place (closure_code tree place (suc number))
  head_code (paren tree) place height = expression_code tree place height

  pub head_in_place_code : Head → Place → (handed : Bool) → (height : ℕ) → Gen
  head_in_place_code (block tree) place handed height =
      closure_in_place_code tree place handed height
  head_in_place_code (name text) place handed height = no_block_code place handed height
  head_in_place_code (constant tree) place handed height = no_block_code place handed height
  head_in_place_code (paren tree) place handed height = no_block_code place handed height

  pub closure_in_place_code : Closure → Place → (handed : Bool) → (height : ℕ) → Gen
  closure_in_place_code (closure params temps body) place handed height =
      block_in_place_code params temps (statements_in_turn_code (statement_codes body)) place
      handed height

  -- of a block that is made, by the place where it stands
  pub closure_code : Closure → Place → Gen
  closure_code (closure params temps body) place =
      seq (statements_in_turn_code (statement_codes body)
      (block_place (closure params temps body) place) zero)
      (only (ReturnBlock ∷ []))

  pub expression_code : Expression → Place → (height : ℕ) → Gen
  expression_code (expression assigns head messages cascade) place height =
      seq
      (head_and_messages_code (first_loop head messages cascade) (is_super_head head)
      (head_code head) (head_in_place_code head) (message_codes messages)
      (message_codes cascade) place height)
      (assign_code assigns place)

  pub expression_in_place_code : Expression → Place → (handed : Bool) → (height : ℕ) → Gen
  expression_in_place_code (expression assigns head messages cascade) place handed height =
      head_in_place_code head place handed height

  pub message_codes : Sends → List MessageCode
  message_codes no_sends = []
  message_codes (a_send first rest) = message_code_of first ∷ message_codes rest

  pub message_code_of : AMessage → MessageCode
  message_code_of (send selector arguments) = record {
    as_sent = λ to_super place height.
        message_code Plain selector (argument_codes arguments) to_super place height;
    by_form = λ to_super place height.
        message_code (form_under to_super selector arguments) selector (argument_codes arguments)
        to_super place height;
    body = λ place height.
        (first_argument_code (argument_codes arguments)).in_place place false height;
  }

  pub argument_codes : Expressions → List ArgumentCode
  argument_codes no_expressions = []
  argument_codes (an_expression first rest) = record {
    value = expression_code first;
    in_place = expression_in_place_code first;
  } ∷ argument_codes rest

  pub statement_code : Statement → Place → (height : ℕ) → Gen
  statement_code (statement false tree) place height = expression_code tree place height
  statement_code (statement true tree) place height =
      prefixed (replicate height Pop)
      (seq (expression_code tree place zero) (only (return_op place.in_block ∷ [])))

  pub statement_codes : Statements → List (Place → (height : ℕ) → Gen)
  statement_codes no_statements = []
  statement_codes (a_statement first rest) = statement_code first ∷ statement_codes rest

-- The code of a method, which ends as if `^self` stood at its end, and of a chunk, which ends as if
-- `^` stood before its last statement.
unfoldable pub method_code : Program → Gen
method_code tree =
    seq (statements_in_turn_code (statement_codes tree.body) (method_place tree) zero)
    (only (Pop ∷ PushSelf ∷ ReturnMethod ∷ []))

unfoldable pub chunk_code : Program → Gen
chunk_code tree =
    seq (statements_in_turn_code (statement_codes tree.body) (method_place tree) zero)
    (only (ReturnMethod ∷ []))

-- The blocks that are made in a text, in its order: those of what an expression begins with, of its
-- messages with their arguments from left to right, and of its cascade; each block before those in
-- it. A special form goes into its blocks: these aren't made, and those in them may be.
use Rattle.std.specs.Prelude.{Bool, false, List, [], ◌∷◌, ◌++◌, Option, None, Some}
use Rattle.st_tree.specs.Trees.{Head, name, constant, block, paren, Closure, closure, Expression, expression, Expressions, no_expressions, an_expression, Send, send, Sends, no_sends, a_send, Statement, statement, Statements, no_statements, a_statement}
use Rattle.tree_meaning.specs.Forms.{form_under, first_loop}
use Rattle.tree_meaning.specs.Meaning.{is_super_head}
use Rattle.tree_meaning.specs.declared.form.Form.{Form}
use Rattle.tree_meaning.specs.declared.form.Form.TheVariants.{Plain, OneArm, TwoArms, Counting, Repeating}

-- of an argument, where it is evaluated, and where a special form goes into it
pub record ArgumentBlocks : Type 0 where
  pub value : List Closure
  pub in_place : List Closure

-- a message: its arguments, and its special form
pub record MessageBlocks : Type 0 where
  pub arguments : List ArgumentBlocks
  pub form : (to_super : Bool) → Form

abbrev pub no_blocks : ArgumentBlocks
no_blocks = record { value = []; in_place = [] }

abbrev pub first_blocks : List ArgumentBlocks → ArgumentBlocks
first_blocks [] = no_blocks
first_blocks (first ∷ rest) = first

abbrev pub rest_blocks : List ArgumentBlocks → List ArgumentBlocks
rest_blocks [] = []
rest_blocks (first ∷ rest) = rest

abbrev pub value_blocks : List ArgumentBlocks → List Closure
value_blocks [] = []
value_blocks (first ∷ rest) = first.value ++ value_blocks rest

-- the arguments of a message of this form
abbrev pub form_blocks : Form → List ArgumentBlocks → List Closure
form_blocks Plain arguments = value_blocks arguments
form_blocks (OneArm when otherwise) arguments = (first_blocks arguments).in_place
form_blocks (TwoArms when) arguments =
    (first_blocks arguments).in_place ++ (first_blocks (rest_blocks arguments)).in_place
form_blocks Counting arguments =
    (first_blocks arguments).value ++ (first_blocks (rest_blocks arguments)).in_place
form_blocks Repeating arguments = (first_blocks arguments).in_place

-- messages that are sent, whatever their forms
abbrev pub sent_blocks : List MessageBlocks → List Closure
sent_blocks [] = []
sent_blocks (message ∷ rest) = value_blocks message.arguments ++ sent_blocks rest

-- the last message before a cascade is one of the cascade
abbrev pub messages_blocks : (messages cascade : List MessageBlocks) → (to_super : Bool)
    → List Closure
messages_blocks [] cascade to_super = []
messages_blocks (message ∷ []) (next ∷ rest) to_super = sent_blocks (message ∷ next ∷ rest)
messages_blocks (message ∷ rest) cascade to_super =
    form_blocks (message.form to_super) message.arguments ++ messages_blocks rest cascade false

-- the body of a while loop is the argument of its first message
abbrev pub body_blocks : List MessageBlocks → List Closure
body_blocks [] = []
body_blocks (message ∷ rest) = (first_blocks message.arguments).in_place

abbrev pub later_messages : List MessageBlocks → List MessageBlocks
later_messages [] = []
later_messages (message ∷ rest) = rest

abbrev pub whole_blocks : (loop : Option Bool) → (to_super : Bool) → (head : ArgumentBlocks)
    → (messages cascade : List MessageBlocks) → List Closure
whole_blocks None to_super head messages cascade =
    head.value ++ messages_blocks messages cascade to_super
whole_blocks (Some when) to_super head messages cascade =
    (head.in_place ++ body_blocks messages)
    ++ messages_blocks (later_messages messages) cascade false

-- each part of a tree
abbrev mutual
  pub head_blocks : Head → ArgumentBlocks
  head_blocks (name text) = no_blocks
  head_blocks (constant tree) = no_blocks
  head_blocks (block tree) =
      record { value = tree ∷ closure_blocks tree; in_place = closure_blocks tree }
  head_blocks (paren tree) = record { value = expression_blocks tree; in_place = [] }

  pub closure_blocks : Closure → List Closure
  closure_blocks (closure params temps body) = statements_blocks body

  pub expression_blocks : Expression → List Closure
  expression_blocks (expression assigns head messages cascade) =
      whole_blocks (first_loop head messages cascade) (is_super_head head) (head_blocks head)
      (sends_blocks messages) (sends_blocks cascade)

  pub in_place_blocks : Expression → List Closure
  in_place_blocks (expression assigns head messages cascade) = (head_blocks head).in_place

  pub sends_blocks : Sends → List MessageBlocks
  sends_blocks no_sends = []
  sends_blocks (a_send first rest) = send_blocks first ∷ sends_blocks rest

  pub send_blocks : Send → MessageBlocks
  send_blocks (send selector arguments) = record {
    arguments = arguments_blocks arguments;
    form = λ to_super. form_under to_super selector arguments;
  }

  pub arguments_blocks : Expressions → List ArgumentBlocks
  arguments_blocks no_expressions = []
  arguments_blocks (an_expression first rest) =
      record { value = expression_blocks first; in_place = in_place_blocks first }
      ∷ arguments_blocks rest

  pub statement_blocks : Statement → List Closure
  statement_blocks (statement returns tree) = expression_blocks tree

  pub statements_blocks : Statements → List Closure
  statements_blocks no_statements = []
  statements_blocks (a_statement first rest) = statement_blocks first ++ statements_blocks rest

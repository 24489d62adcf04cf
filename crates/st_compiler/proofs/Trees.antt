-- The code of each part of a tree does what that means: by induction on trees.
use Rattle.std.proofs.Common.{refl, ap, ℕ, zero, suc, ◌+◌, true, false, List, [], ◌∷◌, length, Option, Some, None, arith}
use Rattle.gem_object.specs.texts.Bytes.{Bytes as Text}
use Rattle.st_tree.specs.Trees.{Constant, Head, name, constant, block, paren, Closure, closure, Expression, expression, Expressions, no_expressions, an_expression, Send, send, Sends, no_sends, a_send, Statement, statement, Statements, no_statements, a_statement}
use Rattle.gem_object.specs.declared.value.Value.{Value}
use Rattle.tree_meaning.specs.gem_world.World.{Setting}
use Rattle.tree_meaning.specs.object_programs.Run.{give}
use Rattle.tree_meaning.specs.Place.{Place, Frame}
use Rattle.tree_meaning.specs.Names.{where_is}
use Rattle.tree_meaning.specs.Forms.{form_under, first_loop}
use Rattle.tree_meaning.specs.Scopes.{variable_value, set_variable}
use Rattle.tree_meaning.specs.Parts.{return_value, statements_in_turn, head_and_messages}
use Rattle.tree_meaning.specs.Meaning.{Outside, plain_constant, constant_run, read_where, write_where, assign_all, is_super_head, head_value, head_in_place, closure_in_place, expression_value, expression_in_place, messages_of, message_of, arguments_of, statement_value, statement_runs}
use Rattle.tree_meaning.specs.declared.name.Where.{Where}
use Rattle.tree_meaning.specs.declared.name.Where.TheVariants.{Receiver, Fixed, Variable, OutOfScope}
use Rattle.tree_meaning.specs.declared.form.Form.TheVariants.{Plain}
use Rattle.st_compiler.specs.Instruction.{Instruction, PushSelf, PushLit, MakeLit, PushLocal, StoreLocal, PushName, StoreName, PushBlock}
use Rattle.st_compiler.specs.Code.{Piece, only, seq}
use Rattle.st_compiler.specs.TreeCode.{push_op, literal_op, store_op, assign_code, return_op, statements_in_turn_code, head_and_messages_code, head_code, head_in_place_code, closure_in_place_code, expression_code, expression_in_place_code, message_codes, message_code_of, argument_codes, statement_code, statement_codes}
use Rattle.st_compiler.specs.Machine.{on_piece, does}
use Rattle.st_compiler.proofs.Steps.{steps, follows_at, performs}
use Rattle.st_compiler.proofs.Right.{Right, comes_same, seq_right, op_right, pops_right, return_right}
use Rattle.st_compiler.proofs.Messages.{is_handed, on_stack, MessageRight, StatementRight, ArgumentsRight, MessagesRight, StatementsRight, no_block_right, first_right, singleton_right, block_in_place_right}
use Rattle.st_compiler.proofs.InTurn.{message_right, whole_right, statements_right}

module _ (outside : Outside) (setting : Setting) (table : List Piece) (code : List Instruction) where
  -- names and literals
  push_right : (found : Where) (text : Text) (stack : List Value) (frame : Frame)
      → Right outside setting table code (only (push_op found text ∷ [])) stack stack frame
      (read_where outside found text frame)
  push_right Receiver text stack frame =
      op_right outside setting table code PushSelf stack stack frame (give frame.receiver)
      (λ place state at. record {
        does = steps outside setting table code place stack frame state PushSelf at (suc place)
            (frame.receiver ∷ stack) frame state (λ next back. refl) (omega arith);
      })
  push_right (Fixed always) text stack frame =
      singleton_right outside setting table code always stack frame
  push_right (Variable depth index) text stack frame =
      op_right outside setting table code (PushLocal depth index) stack stack frame
      (variable_value frame depth index)
      (λ place state at. performs outside setting table code place stack stack frame state
      (PushLocal depth index) at (variable_value frame depth index) (λ next back. refl))
  push_right OutOfScope text stack frame =
      op_right outside setting table code (PushName text) stack stack frame (outside.read_name text frame)
      (λ place state at. performs outside setting table code place stack stack frame state
      (PushName text) at (outside.read_name text frame) (λ next back. refl))

  literal_right : (found : Option Value) (tree : Constant) (stack : List Value) (frame : Frame)
      → Right outside setting table code (only (literal_op found tree ∷ [])) stack stack frame
      (constant_run outside found tree)
  literal_right (Some answer) tree stack frame =
      op_right outside setting table code (PushLit answer) stack stack frame (give answer)
      (λ place state at. record {
        does = steps outside setting table code place stack frame state (PushLit answer) at (suc place)
            (answer ∷ stack) frame state (λ next back. refl) (omega arith);
      })
  literal_right None tree stack frame =
      op_right outside setting table code (MakeLit tree) stack stack frame (outside.literal_value tree)
      (λ place state at. performs outside setting table code place stack stack frame state
      (MakeLit tree) at (outside.literal_value tree) (λ next back. refl))

  block_right : (tree : Closure) (place : Place) (height : ℕ) (stack : List Value) (frame : Frame)
      → Right outside setting table code (head_code (block tree) place height) stack stack frame
      (outside.make_block tree place frame)
  block_right tree place height stack frame = record {
    at = λ here number state has pieces.
        follows_at outside setting table code 0 here stack frame state (suc here) (here + 1) stack frame
        (outside.make_block tree place frame) (omega arith)
        (performs outside setting table code here stack stack frame state (PushBlock number) has.0
        (outside.make_block tree place frame)
        (λ next back. ap (λ found. on_piece found (λ piece.
        does (outside.make_block piece.tree piece.place frame) setting state (λ answer later.
        next (suc here) (answer ∷ stack) frame later))) pieces.0));
  }

  -- assignments
  name_right : (text : Text) (answer : Value) (stack : List Value) (frame : Frame)
      → Right outside setting table code (only (StoreName text ∷ [])) (answer ∷ stack) stack frame
      (outside.write_name text frame answer)
  name_right text answer stack frame =
      op_right outside setting table code (StoreName text) (answer ∷ stack) stack frame
      (outside.write_name text frame answer)
      (λ place state at. performs outside setting table code place (answer ∷ stack) stack frame state
      (StoreName text) at (outside.write_name text frame answer) (λ next back. refl))

  store_right : (found : Where) (text : Text) (answer : Value) (stack : List Value) (frame : Frame)
      → Right outside setting table code (only (store_op found text ∷ [])) (answer ∷ stack) stack frame
      (write_where outside found text frame answer)
  store_right Receiver text answer stack frame = name_right text answer stack frame
  store_right (Fixed always) text answer stack frame = name_right text answer stack frame
  store_right (Variable depth index) text answer stack frame =
      op_right outside setting table code (StoreLocal depth index) (answer ∷ stack) stack frame
      (set_variable frame depth index answer)
      (λ place state at. performs outside setting table code place (answer ∷ stack) stack frame state
      (StoreLocal depth index) at (set_variable frame depth index answer) (λ next back. refl))
  store_right OutOfScope text answer stack frame = name_right text answer stack frame

  assign_right : (names : List Text) (place : Place) (answer : Value) (stack : List Value)
      (frame : Frame)
      → Right outside setting table code (assign_code names place) (answer ∷ stack) stack frame
      (assign_all outside names place frame answer)
  assign_right [] place answer stack frame = record {
    at = λ here number state has pieces. record {
      does = comes_same outside setting table code here (here + 0) (answer ∷ stack) frame state
          (omega arith);
    };
  }
  assign_right (text ∷ rest) place answer stack frame =
      seq_right outside setting table code (assign_code rest place)
      (only (store_op (where_is text place.names) text ∷ [])) (answer ∷ stack) stack stack frame
      (assign_all outside rest place frame answer)
      (λ assigned. write_where outside (where_is text place.names) text frame assigned)
      (assign_right rest place answer stack frame)
      (λ assigned. store_right (where_is text place.names) text assigned stack frame)

  -- each part of a tree
  mutual
    head_right : (tree : Head) (place : Place) (stack : List Value) (frame : Frame)
        → Right outside setting table code (head_code tree place (length stack)) stack stack frame
        (head_value outside tree place frame)
    head_right (name text) place stack frame = push_right (where_is text place.names) text stack frame
    head_right (constant tree) place stack frame = literal_right (plain_constant tree) tree stack frame
    head_right (block tree) place stack frame = block_right tree place (length stack) stack frame
    head_right (paren tree) place stack frame = expression_right tree place stack frame

    head_in_place_right : (tree : Head) (place : Place) (handed : Option Value) (stack : List Value)
        (frame : Frame)
        → Right outside setting table code
        (head_in_place_code tree place (is_handed handed) (length stack)) (on_stack handed stack) stack
        frame (head_in_place outside tree place handed frame)
    head_in_place_right (block tree) place handed stack frame =
        closure_right tree place handed stack frame
    head_in_place_right (name text) place handed stack frame =
        no_block_right outside setting table code place handed stack frame
    head_in_place_right (constant tree) place handed stack frame =
        no_block_right outside setting table code place handed stack frame
    head_in_place_right (paren tree) place handed stack frame =
        no_block_right outside setting table code place handed stack frame

    closure_right : (tree : Closure) (place : Place) (handed : Option Value) (stack : List Value)
        (frame : Frame)
        → Right outside setting table code
        (closure_in_place_code tree place (is_handed handed) (length stack)) (on_stack handed stack)
        stack frame (closure_in_place outside tree place handed frame)
    closure_right (closure params temps body) place handed stack frame =
        block_in_place_right outside setting table code params temps
        (statements_in_turn (statement_runs outside body))
        (statements_in_turn_code (statement_codes body))
        (statements_right outside setting table code (statement_runs outside body)
        (statement_codes body) (all_right body))
        place handed stack frame

    expression_right : (tree : Expression) (place : Place) (stack : List Value) (frame : Frame)
        → Right outside setting table code (expression_code tree place (length stack)) stack stack frame
        (expression_value outside tree place frame)
    expression_right (expression assigns head messages cascade) place stack frame =
        seq_right outside setting table code
        (head_and_messages_code (first_loop head messages cascade) (is_super_head head)
        (head_code head) (head_in_place_code head) (message_codes messages)
        (message_codes cascade) place (length stack))
        (assign_code assigns place) stack stack stack frame
        (head_and_messages (first_loop head messages cascade) (is_super_head head)
        (head_value outside head) (head_in_place outside head) (messages_of outside messages)
        (messages_of outside cascade) place frame)
        (λ answer. assign_all outside assigns place frame answer)
        (whole_right outside setting table code (first_loop head messages cascade)
        (is_super_head head)
        (record { value = head_value outside head; in_place = head_in_place outside head })
        (record { value = head_code head; in_place = head_in_place_code head })
        (record { value = head_right head; in_place = head_in_place_right head })
        (messages_of outside messages) (message_codes messages) (sends_right messages)
        (messages_of outside cascade) (message_codes cascade) (sends_right cascade) place stack
        frame)
        (λ answer. assign_right assigns place answer stack frame)

    in_place_right : (tree : Expression) (place : Place) (handed : Option Value) (stack : List Value)
        (frame : Frame)
        → Right outside setting table code
        (expression_in_place_code tree place (is_handed handed) (length stack)) (on_stack handed stack)
        stack frame (expression_in_place outside tree place handed frame)
    in_place_right (expression assigns head messages cascade) place handed stack frame =
        head_in_place_right head place handed stack frame

    sends_right : (tree : Sends)
        → MessagesRight outside setting table code (messages_of outside tree) (message_codes tree)
    sends_right no_sends = tt
    sends_right (a_send first rest) = (send_right first, sends_right rest)

    send_right : (tree : Send)
        → MessageRight outside setting table code (message_of outside tree) (message_code_of tree)
    send_right (send selector arguments) = record {
      as_sent = λ to_super receiver place stack frame.
          message_right outside setting table code Plain selector (arguments_of outside arguments)
          (argument_codes arguments) (arguments_right arguments) to_super receiver place stack frame;
      by_form = λ to_super receiver place stack frame.
          message_right outside setting table code (form_under to_super selector arguments) selector
          (arguments_of outside arguments) (argument_codes arguments) (arguments_right arguments)
          to_super receiver place stack frame;
      body = λ place stack frame.
          (first_right outside setting table code (arguments_of outside arguments)
          (argument_codes arguments) (arguments_right arguments)).in_place place None stack frame;
    }

    arguments_right : (tree : Expressions)
        → ArgumentsRight outside setting table code (arguments_of outside tree) (argument_codes tree)
    arguments_right no_expressions = tt
    arguments_right (an_expression first rest) = (
      record { value = expression_right first; in_place = in_place_right first },
      arguments_right rest,
    )

    statement_right : (tree : Statement)
        → StatementRight outside setting table code (statement_value outside tree) (statement_code tree)
    statement_right (statement false tree) place stack frame = expression_right tree place stack frame
    statement_right (statement true tree) place stack frame =
        pops_right outside setting table code
        (seq (expression_code tree place zero) (only (return_op place.in_block ∷ []))) stack stack
        frame (statement_value outside (statement true tree) place frame)
        (seq_right outside setting table code (expression_code tree place zero)
        (only (return_op place.in_block ∷ [])) [] [] stack frame
        (expression_value outside tree place frame)
        (λ answer. return_value place.in_block frame answer)
        (expression_right tree place [] frame)
        (λ answer. return_right outside setting table code place.in_block answer stack frame))

    all_right : (tree : Statements)
        → StatementsRight outside setting table code (statement_runs outside tree) (statement_codes tree)
    all_right no_statements = tt
    all_right (a_statement first rest) = (statement_right first, all_right rest)

  -- statements in turn
  pub body_right : (tree : Statements)
      → StatementRight outside setting table code (statements_in_turn (statement_runs outside tree))
      (statements_in_turn_code (statement_codes tree))
  body_right tree =
      statements_right outside setting table code (statement_runs outside tree) (statement_codes tree)
      (all_right tree)

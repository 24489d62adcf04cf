-- The code of each block that is pushed does what the block means: by induction on trees.
use Rattle.std.proofs.Common.{ℕ, zero, suc, ◌+◌, Bool, true, false, List, [], ◌∷◌, ◌++◌, length, replicate, Option, Some, None, All}
use Rattle.std.proofs.lemmas.List.Elements.{All-nil, All-cons, All-append}
use Rattle.gem_object.specs.texts.Bytes.{Bytes as Text}
use Rattle.st_tree.specs.Trees.{Head, name, constant, block, paren, Closure, closure, Expression, expression, Expressions, no_expressions, an_expression, Send, send, Sends, no_sends, a_send, Statement, statement, Statements, no_statements, a_statement, Program}
use Rattle.tree_meaning.specs.gem_world.World.{Setting}
use Rattle.tree_meaning.specs.Place.{Place}
use Rattle.tree_meaning.specs.Names.{where_is}
use Rattle.tree_meaning.specs.Forms.{form_under, first_loop}
use Rattle.tree_meaning.specs.Parts.{with_variables}
use Rattle.tree_meaning.specs.Meaning.{Outside, is_super_head}
use Rattle.tree_meaning.specs.Bodies.{method_place, block_place}
use Rattle.tree_meaning.specs.declared.form.Form.{Form}
use Rattle.tree_meaning.specs.declared.form.Form.TheVariants.{Plain, OneArm, TwoArms, Counting, Repeating}
use Rattle.st_compiler.specs.Instruction.{Instruction, PushNil, Pop, Dup, TakeUnit, ReturnMethod, ReturnBlock, PushSelf}
use Rattle.st_compiler.specs.Code.{Piece, Gen, only, seq, prefixed, in_scope_code, choice, while_code, count_code, begin_repeating}
use Rattle.st_compiler.specs.TreeCode.{ArgumentCode, MessageCode, no_block_code, drop_handed, first_argument_code, rest_argument_codes, first_body_code, rest_message_codes, argument_values_code, hand_code, cascade_code, messages_in_turn_code, head_and_messages_code, statements_from_code, statements_in_turn_code, assign_code, singleton_op, send_op, message_code, store_op, return_op, head_code, head_in_place_code, closure_in_place_code, closure_code, expression_code, expression_in_place_code, message_codes, message_code_of, argument_codes, statement_code, statement_codes, method_code, chunk_code}
use Rattle.st_compiler.specs.Runs.{IsBlockCode}
use Rattle.st_compiler.proofs.Steps.{HasAt, first_has, then_has}
use Rattle.st_compiler.proofs.Whole.{block_runs}

module _ (outside : Outside) (setting : Setting) (table : List Piece) where
  abbrev AreRight : List Piece → Type 0
  AreRight pieces = All (IsBlockCode outside setting table) pieces

  -- the blocks that a part pushes, and those in them
  pub record Blocks (part : Gen) : Type 0 where
    pub right : (number : ℕ) → HasAt table number (part number).pieces → AreRight (part number).pieces

  only_blocks : (instructions : List Instruction) → Blocks (only instructions)
  only_blocks instructions =
      record { right = λ number has. All-nil (IsBlockCode outside setting table) }

  both_right : (one two : List Piece) (number : ℕ)
      → (HasAt table number one → AreRight one)
      → (HasAt table (number + length one) two → AreRight two)
      → HasAt table number (one ++ two) → AreRight (one ++ two)
  both_right one two number first second has =
      All-append (IsBlockCode outside setting table) one two (first (first_has table number one two has))
      (second (then_has table number one two has))

  seq_blocks : (one two : Gen) → Blocks one → Blocks two → Blocks (seq one two)
  seq_blocks one two first second = record {
    right = λ number has.
        let next = number + length (one number).pieces in
        both_right (one number).pieces (two next).pieces number (first.right number)
        (second.right next) has;
  }

  choice_blocks : (when : Bool) (one two : Gen) → Blocks one → Blocks two → Blocks (choice when one two)
  choice_blocks when one two first second = record {
    right = λ number has.
        let next = number + length (one number).pieces in
        both_right (one number).pieces (two next).pieces number (first.right number)
        (second.right next) has;
  }

  while_blocks : (when : Bool) (one two : Gen) → Blocks one → Blocks two
      → Blocks (while_code when one two)
  while_blocks when one two first second = record {
    right = λ number has.
        let next = number + length (one number).pieces in
        both_right (one number).pieces (two next).pieces number (first.right number)
        (second.right next) has;
  }

  prefixed_blocks : (before : List Instruction) (part : Gen) → Blocks part → Blocks (prefixed before part)
  prefixed_blocks before part blocks = record { right = λ number has. blocks.right number has }

  count_blocks : (part : Gen) → Blocks part → Blocks (count_code part)
  count_blocks part blocks = record { right = λ number has. blocks.right number has }

  scope_blocks : (variables : ℕ) (part : Gen) → Blocks part → Blocks (in_scope_code variables part)
  scope_blocks zero part blocks = blocks
  scope_blocks (suc others) part blocks = record { right = λ number has. blocks.right number has }

  -- arguments, messages and statements
  record ArgumentBlocks (part : ArgumentCode) : Type 0 where
    value : (place : Place) (height : ℕ) → Blocks (part.value place height)
    in_place : (place : Place) (handed : Bool) (height : ℕ) → Blocks (part.in_place place handed height)

  record MessageBlocks (part : MessageCode) : Type 0 where
    as_sent : (to_super : Bool) (place : Place) (height : ℕ) → Blocks (part.as_sent to_super place height)
    by_form : (to_super : Bool) (place : Place) (height : ℕ) → Blocks (part.by_form to_super place height)
    body : (place : Place) (height : ℕ) → Blocks (part.body place height)

  abbrev StatementBlocks : (Place → ℕ → Gen) → Type 0
  StatementBlocks part = (place : Place) (height : ℕ) → Blocks (part place height)

  abbrev AllArguments : List ArgumentCode → Type 0
  AllArguments [] = Unit {0}
  AllArguments (part ∷ rest) = ArgumentBlocks part × AllArguments rest

  abbrev AllMessages : List MessageCode → Type 0
  AllMessages [] = Unit {0}
  AllMessages (part ∷ rest) = MessageBlocks part × AllMessages rest

  abbrev AllStatements : List (Place → ℕ → Gen) → Type 0
  AllStatements [] = Unit {0}
  AllStatements (part ∷ rest) = StatementBlocks part × AllStatements rest

  no_block_blocks : (place : Place) (handed : Bool) (height : ℕ)
      → Blocks (no_block_code place handed height)
  no_block_blocks place handed height =
      prefixed_blocks (drop_handed handed) (only (PushNil ∷ [])) (only_blocks (PushNil ∷ []))

  first_blocks : (parts : List ArgumentCode) → AllArguments parts
      → ArgumentBlocks (first_argument_code parts)
  first_blocks [] blocks =
      record { value = λ place height. only_blocks (PushNil ∷ []); in_place = no_block_blocks }
  first_blocks (part ∷ rest) blocks = blocks.0

  rest_blocks : (parts : List ArgumentCode) → AllArguments parts
      → AllArguments (rest_argument_codes parts)
  rest_blocks [] blocks = tt
  rest_blocks (part ∷ rest) blocks = blocks.1

  values_blocks : (parts : List ArgumentCode) → AllArguments parts → (place : Place) (height : ℕ)
      (next : Gen) → Blocks next → Blocks (argument_values_code parts place height next)
  values_blocks [] blocks place height next last = last
  values_blocks (part ∷ rest) blocks place height next last =
      seq_blocks (part.value place height) (argument_values_code rest place (suc height) next)
      (blocks.0.value place height) (values_blocks rest blocks.1 place (suc height) next last)

  message_blocks : (form : Form) (selector : Text) (parts : List ArgumentCode) → AllArguments parts
      → (to_super : Bool) (place : Place) (height : ℕ)
      → Blocks (message_code form selector parts to_super place height)
  message_blocks Plain selector parts blocks to_super place height =
      let sent = send_op to_super selector (length parts) ∷ [] in
      values_blocks parts blocks place (suc height) (only sent) (only_blocks sent)
  message_blocks (OneArm when otherwise) selector parts blocks to_super place height =
      let one = (first_argument_code parts).in_place place false height in
      let two = singleton_op otherwise ∷ [] in
      prefixed_blocks (TakeUnit ∷ []) (choice when one (only two))
      (choice_blocks when one (only two)
      ((first_blocks parts blocks).in_place place false height) (only_blocks two))
  message_blocks (TwoArms when) selector parts blocks to_super place height =
      let one = (first_argument_code parts).in_place place false height in
      let two = (first_argument_code (rest_argument_codes parts)).in_place place false height in
      prefixed_blocks (TakeUnit ∷ []) (choice when one two)
      (choice_blocks when one two ((first_blocks parts blocks).in_place place false height)
      ((first_blocks (rest_argument_codes parts) (rest_blocks parts blocks)).in_place place false
      height))
  message_blocks Counting selector parts blocks to_super place height =
      let one = (first_argument_code parts).value place (suc (suc height)) in
      let two = (first_argument_code (rest_argument_codes parts)).in_place place true
      (suc (suc (suc height))) in
      let turns = prefixed (TakeUnit ∷ []) (count_code two) in
      prefixed_blocks (Dup ∷ []) (seq one turns)
      (seq_blocks one turns ((first_blocks parts blocks).value place (suc (suc height)))
      (prefixed_blocks (TakeUnit ∷ []) (count_code two)
      (count_blocks two
      ((first_blocks (rest_argument_codes parts) (rest_blocks parts blocks)).in_place
      place true (suc (suc (suc height)))))))
  message_blocks Repeating selector parts blocks to_super place height =
      let one = (first_argument_code parts).in_place place false (suc (suc (suc height))) in
      let turns = count_code (prefixed (Pop ∷ []) one) in
      prefixed_blocks (TakeUnit ∷ []) (prefixed begin_repeating turns)
      (prefixed_blocks begin_repeating turns
      (count_blocks (prefixed (Pop ∷ []) one)
      (prefixed_blocks (Pop ∷ []) one
      ((first_blocks parts blocks).in_place place false (suc (suc (suc height)))))))

  cascade_blocks : (part : MessageCode) → MessageBlocks part → (rest : List MessageCode)
      → AllMessages rest → (to_super : Bool) (place : Place) (height : ℕ)
      → Blocks (cascade_code part rest to_super place height)
  cascade_blocks part first [] blocks to_super place height = first.as_sent to_super place height
  cascade_blocks part first (next ∷ rest) blocks to_super place height =
      let one = part.as_sent to_super place (suc height) in
      let two = cascade_code next rest to_super place height in
      prefixed_blocks (Dup ∷ []) (seq one (prefixed (Pop ∷ []) two))
      (seq_blocks one (prefixed (Pop ∷ []) two) (first.as_sent to_super place (suc height))
      (prefixed_blocks (Pop ∷ []) two
      (cascade_blocks next blocks.0 rest blocks.1 to_super place height)))

  turn_blocks : (part : MessageCode) → MessageBlocks part → (rest cascade : List MessageCode)
      → AllMessages cascade → (to_super : Bool) (place : Place) (height : ℕ)
      → Blocks (messages_in_turn_code rest cascade false place height)
      → Blocks (messages_in_turn_code (part ∷ rest) cascade to_super place height)
  turn_blocks part first [] [] also to_super place height next =
      seq_blocks (part.by_form to_super place height) (messages_in_turn_code [] [] false place height)
      (first.by_form to_super place height) next
  turn_blocks part first [] (message ∷ messages) also to_super place height next =
      cascade_blocks part first (message ∷ messages) also to_super place height
  turn_blocks part first (two ∷ rest) cascade also to_super place height next =
      seq_blocks (part.by_form to_super place height)
      (messages_in_turn_code (two ∷ rest) cascade false place height)
      (first.by_form to_super place height) next

  messages_blocks : (parts : List MessageCode) → AllMessages parts → (cascade : List MessageCode)
      → AllMessages cascade → (to_super : Bool) (place : Place) (height : ℕ)
      → Blocks (messages_in_turn_code parts cascade to_super place height)
  messages_blocks [] blocks cascade also to_super place height = only_blocks []
  messages_blocks (part ∷ rest) blocks cascade also to_super place height =
      turn_blocks part blocks.0 rest cascade also to_super place height
      (messages_blocks rest blocks.1 cascade also false place height)

  first_body_blocks : (parts : List MessageCode) → AllMessages parts → (place : Place) (height : ℕ)
      → Blocks (first_body_code parts place height)
  first_body_blocks [] blocks place height = only_blocks (PushNil ∷ [])
  first_body_blocks (part ∷ rest) blocks place height = blocks.0.body place height

  later_blocks : (parts : List MessageCode) → AllMessages parts → AllMessages (rest_message_codes parts)
  later_blocks [] blocks = tt
  later_blocks (part ∷ rest) blocks = blocks.1

  whole_blocks : (loop : Option Bool) (to_super : Bool) (part : ArgumentCode) → ArgumentBlocks part
      → (messages : List MessageCode) → AllMessages messages → (cascade : List MessageCode)
      → AllMessages cascade → (place : Place) (height : ℕ)
      → Blocks (head_and_messages_code loop to_super part.value part.in_place messages cascade place
      height)
  whole_blocks None to_super part first messages blocks cascade also place height =
      seq_blocks (part.value place height)
      (messages_in_turn_code messages cascade to_super place height) (first.value place height)
      (messages_blocks messages blocks cascade also to_super place height)
  whole_blocks (Some when) to_super part first messages blocks cascade also place height =
      let one = part.in_place place false height in
      let two = first_body_code messages place height in
      seq_blocks (prefixed (TakeUnit ∷ []) (while_code when one two))
      (messages_in_turn_code (rest_message_codes messages) cascade false place height)
      (prefixed_blocks (TakeUnit ∷ []) (while_code when one two)
      (while_blocks when one two (first.in_place place false height)
      (first_body_blocks messages blocks place height)))
      (messages_blocks (rest_message_codes messages) (later_blocks messages blocks) cascade also false
      place height)

  from_blocks : (part : Place → ℕ → Gen) → StatementBlocks part → (rest : List (Place → ℕ → Gen))
      → AllStatements rest → StatementBlocks (statements_from_code part rest)
  from_blocks part first [] blocks place height = first place height
  from_blocks part first (next ∷ rest) blocks place height =
      let two = statements_from_code next rest place height in
      seq_blocks (part place height) (prefixed (Pop ∷ []) two) (first place height)
      (prefixed_blocks (Pop ∷ []) two (from_blocks next blocks.0 rest blocks.1 place height))

  statements_blocks : (parts : List (Place → ℕ → Gen)) → AllStatements parts
      → StatementBlocks (statements_in_turn_code parts)
  statements_blocks [] blocks place height = only_blocks (PushNil ∷ [])
  statements_blocks (part ∷ rest) blocks place height =
      from_blocks part blocks.0 rest blocks.1 place height

  assign_blocks : (names : List Text) (place : Place) → Blocks (assign_code names place)
  assign_blocks [] place = only_blocks []
  assign_blocks (text ∷ rest) place =
      let store = store_op (where_is text place.names) text ∷ [] in
      seq_blocks (assign_code rest place) (only store) (assign_blocks rest place) (only_blocks store)

  -- each part of a tree
  mutual
    head_blocks : (tree : Head) (place : Place) (height : ℕ) → Blocks (head_code tree place height)
    head_blocks (name text) place height = record {
      right = λ number has. All-nil (IsBlockCode outside setting table);
    }
    head_blocks (constant tree) place height = record {
      right = λ number has. All-nil (IsBlockCode outside setting table);
    }
    head_blocks (block tree) place height = pushed_blocks tree place
    head_blocks (paren tree) place height = expression_blocks tree place height

    head_in_place_blocks : (tree : Head) (place : Place) (handed : Bool) (height : ℕ)
        → Blocks (head_in_place_code tree place handed height)
    head_in_place_blocks (block tree) place handed height = closure_blocks tree place handed height
    head_in_place_blocks (name text) place handed height = no_block_blocks place handed height
    head_in_place_blocks (constant tree) place handed height = no_block_blocks place handed height
    head_in_place_blocks (paren tree) place handed height = no_block_blocks place handed height

    pushed_blocks : (tree : Closure) (place : Place)
        → Blocks (head_code (block tree) place zero)
    pushed_blocks (closure params temps body) place = record {
      right = λ number has.
          let part = closure_code (closure params temps body) place (suc number) in
          let inner = block_place (closure params temps body) place in
          let one = statements_in_turn_code (statement_codes body) inner zero in
          All-cons (IsBlockCode outside setting table)
          (record { tree = closure params temps body; place = place; code = part.code }) part.pieces
          (block_runs outside setting table params temps body place (suc number) has.1)
          ((seq_blocks one (only (ReturnBlock ∷ []))
          (statements_blocks (statement_codes body) (all_blocks body) inner zero)
          (only_blocks (ReturnBlock ∷ []))).right (suc number) has.1);
    }

    closure_blocks : (tree : Closure) (place : Place) (handed : Bool) (height : ℕ)
        → Blocks (closure_in_place_code tree place handed height)
    closure_blocks (closure params temps body) place handed height =
        let inner = with_variables (params ++ temps) place in
        let part = statements_in_turn_code (statement_codes body) inner height in
        scope_blocks (length (params ++ temps)) (prefixed (hand_code params handed) part)
        (prefixed_blocks (hand_code params handed) part
        (statements_blocks (statement_codes body) (all_blocks body) inner height))

    expression_blocks : (tree : Expression) (place : Place) (height : ℕ)
        → Blocks (expression_code tree place height)
    expression_blocks (expression assigns head messages cascade) place height =
        seq_blocks
        (head_and_messages_code (first_loop head messages cascade) (is_super_head head)
        (head_code head) (head_in_place_code head) (message_codes messages)
        (message_codes cascade) place height)
        (assign_code assigns place)
        (whole_blocks (first_loop head messages cascade) (is_super_head head)
        (record { value = head_code head; in_place = head_in_place_code head })
        (record { value = head_blocks head; in_place = head_in_place_blocks head })
        (message_codes messages) (sends_blocks messages) (message_codes cascade)
        (sends_blocks cascade) place height)
        (assign_blocks assigns place)

    in_place_blocks : (tree : Expression) (place : Place) (handed : Bool) (height : ℕ)
        → Blocks (expression_in_place_code tree place handed height)
    in_place_blocks (expression assigns head messages cascade) place handed height =
        head_in_place_blocks head place handed height

    sends_blocks : (tree : Sends) → AllMessages (message_codes tree)
    sends_blocks no_sends = tt
    sends_blocks (a_send first rest) = (send_blocks first, sends_blocks rest)

    send_blocks : (tree : Send) → MessageBlocks (message_code_of tree)
    send_blocks (send selector arguments) = record {
      as_sent = λ to_super place height.
          message_blocks Plain selector (argument_codes arguments) (arguments_blocks arguments) to_super
          place height;
      by_form = λ to_super place height.
          message_blocks (form_under to_super selector arguments) selector (argument_codes arguments)
          (arguments_blocks arguments) to_super place height;
      body = λ place height.
          (first_blocks (argument_codes arguments) (arguments_blocks arguments)).in_place place false
          height;
    }

    arguments_blocks : (tree : Expressions) → AllArguments (argument_codes tree)
    arguments_blocks no_expressions = tt
    arguments_blocks (an_expression first rest) = (
      record { value = expression_blocks first; in_place = in_place_blocks first },
      arguments_blocks rest,
    )

    statement_blocks : (tree : Statement) → StatementBlocks (statement_code tree)
    statement_blocks (statement false tree) place height = expression_blocks tree place height
    statement_blocks (statement true tree) place height =
        let last = return_op place.in_block ∷ [] in
        prefixed_blocks (replicate height Pop) (seq (expression_code tree place zero) (only last))
        (seq_blocks (expression_code tree place zero) (only last) (expression_blocks tree place zero)
        (only_blocks last))

    all_blocks : (tree : Statements) → AllStatements (statement_codes tree)
    all_blocks no_statements = tt
    all_blocks (a_statement first rest) = (statement_blocks first, all_blocks rest)

  -- the blocks of a method and of a chunk
  pub method_blocks : (tree : Program) → Blocks (method_code tree)
  unfolding method_code
  method_blocks tree =
      let part = statements_in_turn_code (statement_codes tree.body) (method_place tree) zero in
      let last = Pop ∷ PushSelf ∷ ReturnMethod ∷ [] in
      let all = seq_blocks part (only last)
      (statements_blocks (statement_codes tree.body) (all_blocks tree.body) (method_place tree) zero)
      (only_blocks last) in
      record { right = λ number has. all.right number has }

  pub chunk_blocks : (tree : Program) → Blocks (chunk_code tree)
  unfolding chunk_code
  chunk_blocks tree =
      let part = statements_in_turn_code (statement_codes tree.body) (method_place tree) zero in
      let last = ReturnMethod ∷ [] in
      let all = seq_blocks part (only last)
      (statements_blocks (statement_codes tree.body) (all_blocks tree.body) (method_place tree) zero)
      (only_blocks last) in
      record { right = λ number has. all.right number has }

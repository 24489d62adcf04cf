-- The code of messages by their forms, of cascades, of messages and statements in turn.
use Rattle.std.proofs.Common.{◌≡◌, ◌∙◌, refl, ap, ap₂, ℕ, suc, ◌+◌, Bool, true, false, pos, List, [], ◌∷◌, ◌++◌, length, take, get_or, set, Option, Some, None, arith}
use Rattle.std.proofs.lemmas.List.{take_all}
use Rattle.std.proofs.lemmas.Bool.{eq-eqb}
use Rattle.gem_object.specs.texts.Bytes.{Bytes as Text}
use Rattle.gem_object.specs.declared.value.Value.{Value}
use Rattle.gem_object.specs.declared.value.Value.TheVariants as value
use Rattle.tree_meaning.specs.gem_world.World.{Setting}
use Rattle.tree_meaning.specs.object_programs.Atom.{Tick}
use Rattle.tree_meaning.specs.object_programs.Local.{Local}
use Rattle.tree_meaning.specs.object_programs.Run.{give, atom, and_then, State}
use Rattle.tree_meaning.specs.Place.{Place, Frame, MadeBlock}
use Rattle.tree_meaning.specs.Names.{singleton_value}
use Rattle.tree_meaning.specs.Operands.{ValueRun, truth_of, by_truth, int_pair}
use Rattle.tree_meaning.specs.Scopes.{mark, with_scope, open_scope, give_back, give_back_where, variable_value, set_variable, with_value}
use Rattle.tree_meaning.specs.Loops.{while_loop, while_turns, count_between}
use Rattle.tree_meaning.specs.Parts.{Argument, Message, first_argument, rest_arguments, first_body, rest_messages, cascade_in_turn, messages_in_turn, head_and_messages, statements_from, statements_in_turn}
use Rattle.tree_meaning.specs.Meaning.{Outside, message}
use Rattle.tree_meaning.specs.declared.form.Form.{Form}
use Rattle.tree_meaning.specs.declared.form.Form.TheVariants.{Plain, OneArm, TwoArms, Counting, Repeating}
use Rattle.st_compiler.specs.Instruction.{Instruction, PushLit, PushLocal, StoreLocal, Pop, TakeUnit, Enter, Leave}
use Rattle.st_compiler.specs.Code.{Piece, Gen, only, seq, prefixed, choice, while_code, count_code, begin_repeating}
use Rattle.st_compiler.specs.TreeCode.{ArgumentCode, MessageCode, first_argument_code, rest_argument_codes, first_body_code, rest_message_codes, cascade_code, messages_in_turn_code, head_and_messages_code, statements_from_code, statements_in_turn_code, singleton_op, send_op, message_code}
use Rattle.st_compiler.proofs.Steps.{HasAt, Comes, comes_then, steps}
use Rattle.st_compiler.proofs.Right.{Right, comes_same, comes_at, seq_right, prefixed_right, pop_right, dup_right, tick_right, choice_right}
use Rattle.st_compiler.proofs.Loops.{while_right, count_right}
use Rattle.st_compiler.proofs.Messages.{ArgumentRight, MessageRight, StatementRight, ArgumentsRight, MessagesRight, StatementsRight, nil_right, first_right, rest_right, values_right, send_right, singleton_right}

-- the scope that holds the number of turns for a moment
stored : (scopes : List (List Value)) (first : Value)
    → get_or (set (scopes ++ (value.Nil ∷ []) ∷ []) (length scopes)
    (set (get_or (scopes ++ (value.Nil ∷ []) ∷ []) (length scopes) []) 0 first)) (length scopes) []
    ≡ first ∷ []
stored [] first = refl
stored (scope ∷ scopes) first = stored scopes first

restored : (scopes more : List (List Value)) (scope : List Value)
    → take (length scopes) (set (scopes ++ more) (length scopes) scope) ≡ scopes
restored [] more scope = refl
restored (first ∷ scopes) more scope = ap (λ rest. first ∷ rest) (restored scopes more scope)

abbrev holding : Value → Local MadeBlock → Local MadeBlock
holding first local = with_value (length local.scopes) 0 first (open_scope (value.Nil ∷ []) local)

closed : (first : Value) (local : Local MadeBlock) → give_back (mark local) (holding first local) ≡ local
closed first local =
    let scope = set (get_or (local.scopes ++ (value.Nil ∷ []) ∷ []) (length local.scopes) []) 0 first in
    ap (λ same. give_back_where same (mark local) (holding first local))
    (eq-eqb (length local.blocks) (length local.blocks) refl)
    ∙ ap₂ (λ (scopes : List (List Value)) (living : List Bool).
    let all : Local MadeBlock = record {
      scopes = scopes;
      blocks = local.blocks;
      living = living;
    } in all)
    (restored local.scopes ((value.Nil ∷ []) ∷ []) scope)
    (take_all (length local.living) local.living (omega arith))

module _ (outside : Outside) (setting : Setting) (table : List Piece) (code : List Instruction) where
  abbrev held : Value → State MadeBlock → State MadeBlock
  held first state = record state { local = holding first state.local }

  begins : (first : Value) (stack : List Value) (frame : Frame) (place : ℕ) (state : State MadeBlock)
      → HasAt code place begin_repeating
      → Comes outside setting table code 0 place (first ∷ stack) frame state (place + 5)
      (first ∷ value.Int (pos 1) ∷ first ∷ stack) frame state
  unfolding variable_value set_variable
  begins first stack frame place state has =
      let one = value.Int (pos 1) in
      let inner = with_scope (mark state.local) frame in
      let opened : State MadeBlock = record state {
        local = open_scope (value.Nil ∷ []) state.local;
      } in
      let full = held first state in
      let two = suc place in
      let three = suc two in
      let four = suc three in
      let five = suc four in
      let first_step = steps outside setting table code place (first ∷ stack) frame state (Enter 1) has.0 two
      (first ∷ stack) inner opened (λ next back. refl) (omega arith) in
      let second_step = steps outside setting table code two (first ∷ stack) inner opened (StoreLocal 0 0)
      has.1.0 three (first ∷ stack) inner full (λ next back. refl) (omega arith) in
      let third_step = steps outside setting table code three (first ∷ stack) inner full (PushLit one)
      has.1.1.0 four (one ∷ first ∷ stack) inner full (λ next back. refl) (omega arith) in
      let fourth_step = steps outside setting table code four (one ∷ first ∷ stack) inner full
      (PushLocal 0 0) has.1.1.1.0 five (first ∷ one ∷ first ∷ stack) inner full
      (λ next back. ap (λ scope. next five (get_or scope 0 value.Nil ∷ one ∷ first ∷ stack) inner full)
      (stored state.local.scopes first))
      (omega arith) in
      let fifth_step = steps outside setting table code five (first ∷ one ∷ first ∷ stack) inner full Leave
      has.1.1.1.1.0 (suc five) (first ∷ one ∷ first ∷ stack) frame state
      (λ next back. ap (λ (local : Local MadeBlock). next (suc five) (first ∷ one ∷ first ∷ stack) frame
      (record state { local = local })) (closed first state.local))
      (omega arith) in
      comes_at outside setting table code 0 place (first ∷ stack) frame state (suc five) (place + 5)
      (first ∷ one ∷ first ∷ stack) frame state (omega arith)
      (comes_then outside setting table code 0 0 place (first ∷ stack) frame state two (first ∷ stack)
      inner opened (suc five) (first ∷ one ∷ first ∷ stack) frame state first_step
      (comes_then outside setting table code 0 0 two (first ∷ stack) inner opened three
      (first ∷ stack) inner full (suc five) (first ∷ one ∷ first ∷ stack) frame state second_step
      (comes_then outside setting table code 0 0 three (first ∷ stack) inner full four
      (one ∷ first ∷ stack) inner full (suc five) (first ∷ one ∷ first ∷ stack) frame state
      third_step
      (comes_then outside setting table code 0 0 four (one ∷ first ∷ stack) inner full five
      (first ∷ one ∷ first ∷ stack) inner full (suc five)
      (first ∷ one ∷ first ∷ stack) frame state fourth_step fifth_step))))

  -- a message by its form
  pub message_right : (form : Form) (selector : Text) (arguments : List Argument)
      (parts : List ArgumentCode) → ArgumentsRight outside setting table code arguments parts
      → (to_super : Bool) (receiver : Value) (place : Place) (stack : List Value) (frame : Frame)
      → Right outside setting table code (message_code form selector parts to_super place (length stack))
      (receiver ∷ stack) stack frame
      (message outside form selector arguments to_super receiver place frame)
  message_right Plain selector arguments parts right to_super receiver place stack frame =
      values_right outside setting table code arguments parts right place [] (receiver ∷ stack) stack frame
      (only (send_op to_super selector (length parts) ∷ []))
      (λ all. outside.send_message to_super selector frame receiver all)
      (λ all is. send_right outside setting table code to_super selector (length parts) frame receiver
      all stack is)
  message_right (OneArm when otherwise) selector arguments parts right to_super receiver place stack frame =
      let arm = first_right outside setting table code arguments parts right in
      let one = (first_argument_code parts).in_place place false (length stack) in
      let two = only (singleton_op otherwise ∷ []) in
      let chosen = (first_argument arguments).in_place place None frame in
      let other : ValueRun = give (singleton_value otherwise) in
      tick_right outside setting table code (choice when one two) (receiver ∷ stack) stack frame
      (by_truth (truth_of receiver) when chosen other)
      (choice_right outside setting table code when one two receiver stack stack frame chosen other
      (arm.in_place place None stack frame)
      (singleton_right outside setting table code otherwise stack frame))
  message_right (TwoArms when) selector arguments parts right to_super receiver place stack frame =
      let arm = first_right outside setting table code arguments parts right in
      let last = first_right outside setting table code (rest_arguments arguments)
      (rest_argument_codes parts) (rest_right outside setting table code arguments parts right) in
      let one = (first_argument_code parts).in_place place false (length stack) in
      let two = (first_argument_code (rest_argument_codes parts)).in_place place false (length stack) in
      let chosen = (first_argument arguments).in_place place None frame in
      let other = (first_argument (rest_arguments arguments)).in_place place None frame in
      tick_right outside setting table code (choice when one two) (receiver ∷ stack) stack frame
      (by_truth (truth_of receiver) when chosen other)
      (choice_right outside setting table code when one two receiver stack stack frame chosen other
      (arm.in_place place None stack frame) (last.in_place place None stack frame))
  message_right Counting selector arguments parts right to_super receiver place stack frame =
      let limits = first_right outside setting table code arguments parts right in
      let bodies = first_right outside setting table code (rest_arguments arguments)
      (rest_argument_codes parts) (rest_right outside setting table code arguments parts right) in
      let one = (first_argument_code parts).value place (suc (suc (length stack))) in
      let two = (first_argument_code (rest_argument_codes parts)).in_place place true
      (suc (suc (suc (length stack)))) in
      let limit = (first_argument arguments).value place frame in
      let body = λ (number : Value).
      (first_argument (rest_arguments arguments)).in_place place (Some number) frame in
      let loop = λ (last : Value). count_between (int_pair receiver last) body receiver in
      let turns = prefixed (TakeUnit ∷ []) (count_code two) in
      dup_right outside setting table code (seq one turns) receiver stack stack frame
      (and_then limit (λ last. and_then (atom Tick) (λ ticked. loop last)))
      (seq_right outside setting table code one turns (receiver ∷ receiver ∷ stack)
      (receiver ∷ receiver ∷ stack) stack frame limit
      (λ last. and_then (atom Tick) (λ ticked. loop last))
      (limits.value place (receiver ∷ receiver ∷ stack) frame)
      (λ last. tick_right outside setting table code (count_code two)
      (last ∷ receiver ∷ receiver ∷ stack) stack frame (loop last)
      (count_right outside setting table code two receiver last receiver stack frame body
      (λ number upper now. bodies.in_place place (Some number)
      (upper ∷ now ∷ receiver ∷ stack) frame))))
  message_right Repeating selector arguments parts right to_super receiver place stack frame =
      let bodies = first_right outside setting table code arguments parts right in
      let one = (first_argument_code parts).in_place place false (suc (suc (suc (length stack)))) in
      let turns = prefixed (Pop ∷ []) one in
      let body = λ (number : Value). (first_argument arguments).in_place place None frame in
      let first = value.Int (pos 1) in
      let loop = count_between (int_pair first receiver) body receiver in
      tick_right outside setting table code (prefixed begin_repeating (count_code turns))
      (receiver ∷ stack) stack frame loop
      (prefixed_right outside setting table code begin_repeating (count_code turns) (receiver ∷ stack)
      (receiver ∷ first ∷ receiver ∷ stack) stack frame loop
      (λ here state has. begins receiver stack frame here state has)
      (count_right outside setting table code turns first receiver receiver stack frame body
      (λ number upper now. pop_right outside setting table code one number
      (upper ∷ now ∷ receiver ∷ stack) (upper ∷ now ∷ receiver ∷ stack) frame (body number)
      (bodies.in_place place None (upper ∷ now ∷ receiver ∷ stack) frame))))

  -- a cascade
  cascade_right : (one : Message) (part : MessageCode) → MessageRight outside setting table code one part
      → (rest : List Message) (others : List MessageCode)
      → MessagesRight outside setting table code rest others
      → (to_super : Bool) (receiver : Value) (place : Place) (stack : List Value) (frame : Frame)
      → Right outside setting table code (cascade_code part others to_super place (length stack))
      (receiver ∷ stack) stack frame (cascade_in_turn one rest to_super receiver place frame)
  cascade_right one part first [] [] right to_super receiver place stack frame =
      first.as_sent to_super receiver place stack frame
  cascade_right one part first [] (other ∷ others) right to_super receiver place stack frame = absurd right
  cascade_right one part first (next ∷ rest) [] right to_super receiver place stack frame = absurd right
  cascade_right one part first (next ∷ rest) (other ∷ others) right to_super receiver place stack frame =
      let sent = part.as_sent to_super place (suc (length stack)) in
      let tail = cascade_code other others to_super place (length stack) in
      let after = cascade_in_turn next rest to_super receiver place frame in
      dup_right outside setting table code (seq sent (prefixed (Pop ∷ []) tail)) receiver stack stack frame
      (and_then (one.as_sent to_super receiver place frame) (λ answer. after))
      (seq_right outside setting table code sent (prefixed (Pop ∷ []) tail)
      (receiver ∷ receiver ∷ stack) (receiver ∷ stack) stack frame
      (one.as_sent to_super receiver place frame) (λ answer. after)
      (first.as_sent to_super receiver place (receiver ∷ stack) frame)
      (λ answer. pop_right outside setting table code tail answer (receiver ∷ stack) stack frame
      after
      (cascade_right next other right.0 rest others right.1 to_super receiver place stack
      frame)))

  -- messages in turn
  turn_right : (one : Message) (part : MessageCode) → MessageRight outside setting table code one part
      → (rest : List Message) (others : List MessageCode)
      → MessagesRight outside setting table code rest others
      → (cascade : List Message) (cascades : List MessageCode)
      → MessagesRight outside setting table code cascade cascades
      → (to_super : Bool) (receiver : Value) (place : Place) (stack : List Value) (frame : Frame)
      → ((answer : Value) → Right outside setting table code
      (messages_in_turn_code others cascades false place (length stack)) (answer ∷ stack) stack frame
      (messages_in_turn rest cascade false answer place frame))
      → Right outside setting table code
      (messages_in_turn_code (part ∷ others) cascades to_super place (length stack)) (receiver ∷ stack)
      stack frame (messages_in_turn (one ∷ rest) cascade to_super receiver place frame)
  turn_right one part first [] [] right [] [] also to_super receiver place stack frame next =
      seq_right outside setting table code (part.by_form to_super place (length stack))
      (messages_in_turn_code [] [] false place (length stack)) (receiver ∷ stack) stack stack frame
      (one.by_form to_super receiver place frame)
      (λ answer. messages_in_turn [] [] false answer place frame)
      (first.by_form to_super receiver place stack frame) next
  turn_right one part first [] [] right [] (last ∷ lasts) also to_super receiver place stack frame next =
      absurd also
  turn_right one part first [] [] right (message ∷ messages) [] also to_super receiver place stack frame
      next = absurd also
  turn_right one part first [] [] right (message ∷ messages) (last ∷ lasts) also to_super receiver place
      stack frame next =
      cascade_right one part first (message ∷ messages) (last ∷ lasts) also to_super receiver place stack
      frame
  turn_right one part first [] (other ∷ others) right cascade cascades also to_super receiver place stack
      frame next = absurd right
  turn_right one part first (two ∷ rest) [] right cascade cascades also to_super receiver place stack frame
      next = absurd right
  turn_right one part first (two ∷ rest) (other ∷ others) right cascade cascades also to_super receiver
      place stack frame next =
      seq_right outside setting table code (part.by_form to_super place (length stack))
      (messages_in_turn_code (other ∷ others) cascades false place (length stack)) (receiver ∷ stack)
      stack stack frame (one.by_form to_super receiver place frame)
      (λ answer. messages_in_turn (two ∷ rest) cascade false answer place frame)
      (first.by_form to_super receiver place stack frame) next

  pub messages_right : (messages : List Message) (parts : List MessageCode)
      → MessagesRight outside setting table code messages parts
      → (cascade : List Message) (cascades : List MessageCode)
      → MessagesRight outside setting table code cascade cascades
      → (to_super : Bool) (receiver : Value) (place : Place) (stack : List Value) (frame : Frame)
      → Right outside setting table code
      (messages_in_turn_code parts cascades to_super place (length stack)) (receiver ∷ stack) stack frame
      (messages_in_turn messages cascade to_super receiver place frame)
  messages_right [] [] right cascade cascades also to_super receiver place stack frame = record {
    at = λ here number state has pieces. record {
      does = comes_same outside setting table code here (here + 0) (receiver ∷ stack) frame state
          (omega arith);
    };
  }
  messages_right [] (part ∷ others) right cascade cascades also to_super receiver place stack frame =
      absurd right
  messages_right (one ∷ rest) [] right cascade cascades also to_super receiver place stack frame =
      absurd right
  messages_right (one ∷ rest) (part ∷ others) right cascade cascades also to_super receiver place stack
      frame =
      turn_right one part right.0 rest others right.1 cascade cascades also to_super receiver place stack
      frame
      (λ answer. messages_right rest others right.1 cascade cascades also false answer place stack frame)

  body_right : (messages : List Message) (parts : List MessageCode)
      → MessagesRight outside setting table code messages parts → (place : Place) (stack : List Value)
      (frame : Frame)
      → Right outside setting table code (first_body_code parts place (length stack)) stack stack frame
      (first_body messages place frame)
  body_right [] [] right place stack frame = nil_right outside setting table code stack frame
  body_right [] (part ∷ others) right place stack frame = absurd right
  body_right (one ∷ rest) [] right place stack frame = absurd right
  body_right (one ∷ rest) (part ∷ others) right place stack frame = right.0.body place stack frame

  later_right : (messages : List Message) (parts : List MessageCode)
      → MessagesRight outside setting table code messages parts
      → MessagesRight outside setting table code (rest_messages messages) (rest_message_codes parts)
  later_right [] [] right = tt
  later_right [] (part ∷ others) right = absurd right
  later_right (one ∷ rest) [] right = absurd right
  later_right (one ∷ rest) (part ∷ others) right = right.1

  -- what begins an expression, and its messages
  pub whole_right : (loop : Option Bool) (to_super : Bool) (head : Argument) (part : ArgumentCode)
      → ArgumentRight outside setting table code head part
      → (messages : List Message) (parts : List MessageCode)
      → MessagesRight outside setting table code messages parts
      → (cascade : List Message) (cascades : List MessageCode)
      → MessagesRight outside setting table code cascade cascades
      → (place : Place) (stack : List Value) (frame : Frame)
      → Right outside setting table code
      (head_and_messages_code loop to_super part.value part.in_place parts cascades place (length stack))
      stack stack frame
      (head_and_messages loop to_super head.value head.in_place messages cascade place frame)
  whole_right None to_super head part first messages parts right cascade cascades also place stack frame =
      seq_right outside setting table code (part.value place (length stack))
      (messages_in_turn_code parts cascades to_super place (length stack)) stack stack stack frame
      (head.value place frame)
      (λ receiver. messages_in_turn messages cascade to_super receiver place frame)
      (first.value place stack frame)
      (λ receiver. messages_right messages parts right cascade cascades also to_super receiver place
      stack frame)
  whole_right (Some when) to_super head part first messages parts right cascade cascades also place stack
      frame =
      let one = part.in_place place false (length stack) in
      let two = first_body_code parts place (length stack) in
      let condition = head.in_place place None frame in
      let body = first_body messages place frame in
      seq_right outside setting table code (prefixed (TakeUnit ∷ []) (while_code when one two))
      (messages_in_turn_code (rest_message_codes parts) cascades false place (length stack)) stack stack
      stack frame (while_loop when condition body)
      (λ answer. messages_in_turn (rest_messages messages) cascade false answer place frame)
      (tick_right outside setting table code (while_code when one two) stack stack frame
      (while_turns when condition body)
      (while_right outside setting table code when one two stack frame condition body
      (first.in_place place None stack frame)
      (body_right messages parts right place stack frame)))
      (λ answer. messages_right (rest_messages messages) (rest_message_codes parts)
      (later_right messages parts right) cascade cascades also false answer place stack frame)

  -- statements in turn
  from_right : (one : Place → Frame → ValueRun) (part : Place → ℕ → Gen)
      → StatementRight outside setting table code one part
      → (rest : List (Place → Frame → ValueRun)) (others : List (Place → ℕ → Gen))
      → StatementsRight outside setting table code rest others
      → StatementRight outside setting table code (statements_from one rest)
      (statements_from_code part others)
  from_right one part first [] [] right place stack frame = first place stack frame
  from_right one part first [] (other ∷ others) right place stack frame = absurd right
  from_right one part first (next ∷ rest) [] right place stack frame = absurd right
  from_right one part first (next ∷ rest) (other ∷ others) right place stack frame =
      let tail = statements_from_code other others place (length stack) in
      seq_right outside setting table code (part place (length stack)) (prefixed (Pop ∷ []) tail) stack
      stack stack frame (one place frame) (λ answer. statements_from next rest place frame)
      (first place stack frame)
      (λ answer. pop_right outside setting table code tail answer stack stack frame
      (statements_from next rest place frame)
      (from_right next other right.0 rest others right.1 place stack frame))

  pub statements_right : (all : List (Place → Frame → ValueRun)) (parts : List (Place → ℕ → Gen))
      → StatementsRight outside setting table code all parts
      → StatementRight outside setting table code (statements_in_turn all) (statements_in_turn_code parts)
  statements_right [] [] right place stack frame = nil_right outside setting table code stack frame
  statements_right [] (part ∷ others) right place stack frame = absurd right
  statements_right (one ∷ rest) [] right place stack frame = absurd right
  statements_right (one ∷ rest) (part ∷ others) right place stack frame =
      from_right one part right.0 rest others right.1 place stack frame

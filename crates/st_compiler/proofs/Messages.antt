-- The code of arguments, messages, statements and literal blocks, over records of programs and of code.
use Rattle.std.proofs.Common.{◌≡◌, refl, ap₂, subst, ℕ, suc, ◌+◌, Bool, true, false, List, [], ◌∷◌, ◌++◌, length, take, drop, Option, Some, None, arith}
use Rattle.std.proofs.Math.Seq.{drop-append_seam, take-append_seam}
use Rattle.gem_object.specs.texts.Bytes.{Bytes as Text}
use Rattle.gem_object.specs.declared.value.Value.{Value}
use Rattle.gem_object.specs.declared.value.Value.TheVariants as value
use Rattle.tree_meaning.specs.gem_world.World.{Setting}
use Rattle.tree_meaning.specs.object_programs.Run.{give, and_then, State}
use Rattle.tree_meaning.specs.Place.{Place, Frame, MadeBlock}
use Rattle.tree_meaning.specs.Names.{singleton_value}
use Rattle.tree_meaning.specs.Operands.{ValueRun}
use Rattle.tree_meaning.specs.Scopes.{set_variable}
use Rattle.tree_meaning.specs.Parts.{Argument, Message, without_block, first_argument, rest_arguments, argument_values, with_variables, hand, block_in_place}
use Rattle.tree_meaning.specs.Meaning.{Outside}
use Rattle.tree_meaning.specs.declared.name.Singleton.{Singleton}
use Rattle.tree_meaning.specs.declared.name.Singleton.TheVariants as singleton
use Rattle.st_compiler.specs.Instruction.{Instruction, PushNil, StoreLocal, Pop}
use Rattle.st_compiler.specs.Code.{Piece, Gen, only, prefixed}
use Rattle.st_compiler.specs.TreeCode.{ArgumentCode, MessageCode, no_block_code, first_argument_code, rest_argument_codes, argument_values_code, hand_code, block_in_place_code, singleton_op, send_op}
use Rattle.st_compiler.specs.Machine.{Next, on_top, does, act}
use Rattle.st_compiler.proofs.Steps.{comes_follows, steps, follows_then, follows_at, performs}
use Rattle.st_compiler.proofs.Right.{Right, comes_same, seq_right, op_right, prefixed_right, pop_comes, pop_right, right_same, scope_right}

-- whether a value is handed, and the stack with it
abbrev pub is_handed : Option Value → Bool
is_handed None = false
is_handed (Some answer) = true

abbrev pub on_stack : Option Value → List Value → List Value
on_stack None stack = stack
on_stack (Some answer) stack = answer ∷ stack

module _ (outside : Outside) (setting : Setting) (table : List Piece) (code : List Instruction) where
  -- the code of an argument, a message, a statement does what that does
  pub record ArgumentRight (argument : Argument) (part : ArgumentCode) : Type 0 where
    pub value : (place : Place) (stack : List Value) (frame : Frame)
        → Right outside setting table code (part.value place (length stack)) stack stack frame
        (argument.value place frame)
    pub in_place : (place : Place) (handed : Option Value) (stack : List Value) (frame : Frame)
        → Right outside setting table code (part.in_place place (is_handed handed) (length stack))
        (on_stack handed stack) stack frame (argument.in_place place handed frame)

  pub record MessageRight (one : Message) (part : MessageCode) : Type 0 where
    pub as_sent : (to_super : Bool) (receiver : Value) (place : Place) (stack : List Value) (frame : Frame)
        → Right outside setting table code (part.as_sent to_super place (length stack))
        (receiver ∷ stack) stack frame (one.as_sent to_super receiver place frame)
    pub by_form : (to_super : Bool) (receiver : Value) (place : Place) (stack : List Value) (frame : Frame)
        → Right outside setting table code (part.by_form to_super place (length stack))
        (receiver ∷ stack) stack frame (one.by_form to_super receiver place frame)
    pub body : (place : Place) (stack : List Value) (frame : Frame)
        → Right outside setting table code (part.body place (length stack)) stack stack frame
        (one.body place frame)

  abbrev pub StatementRight : (Place → Frame → ValueRun) → (Place → ℕ → Gen) → Type 0
  StatementRight one part = (place : Place) (stack : List Value) (frame : Frame)
      → Right outside setting table code (part place (length stack)) stack stack frame (one place frame)

  -- the same of lists
  abbrev pub ArgumentsRight : List Argument → List ArgumentCode → Type 0
  ArgumentsRight [] [] = Unit {0}
  ArgumentsRight (one ∷ rest) (part ∷ others) = ArgumentRight one part × ArgumentsRight rest others
  ArgumentsRight others parts = ⊥

  abbrev pub MessagesRight : List Message → List MessageCode → Type 0
  MessagesRight [] [] = Unit {0}
  MessagesRight (one ∷ rest) (part ∷ others) = MessageRight one part × MessagesRight rest others
  MessagesRight others parts = ⊥

  abbrev pub StatementsRight : List (Place → Frame → ValueRun) → List (Place → ℕ → Gen) → Type 0
  StatementsRight [] [] = Unit {0}
  StatementsRight (one ∷ rest) (part ∷ others) = StatementRight one part × StatementsRight rest others
  StatementsRight others parts = ⊥

  pub nil_right : (stack : List Value) (frame : Frame)
      → Right outside setting table code (only (PushNil ∷ [])) stack stack frame (give value.Nil)
  nil_right stack frame = op_right outside setting table code PushNil stack stack frame (give value.Nil)
      (λ place state at. record {
        does = steps outside setting table code place stack frame state PushNil at (suc place)
            (value.Nil ∷ stack) frame state (λ next back. refl) (omega arith);
      })

  pub nothing_right : (part : Gen) (pre stack : List Value) (frame : Frame) (program : ValueRun)
      → Right outside setting table code part pre stack frame program
      → Right outside setting table code (prefixed [] part) pre stack frame program
  nothing_right part pre stack frame program right =
      prefixed_right outside setting table code [] part pre pre stack frame program
      (λ place state has. comes_same outside setting table code place (place + 0) pre frame state
      (omega arith))
      right

  pub no_block_right : (place : Place) (handed : Option Value) (stack : List Value) (frame : Frame)
      → Right outside setting table code (no_block_code place (is_handed handed) (length stack))
      (on_stack handed stack) stack frame (without_block place handed frame)
  no_block_right place None stack frame =
      nothing_right (only (PushNil ∷ [])) stack stack frame (give value.Nil) (nil_right stack frame)
  no_block_right place (Some answer) stack frame =
      pop_right outside setting table code (only (PushNil ∷ [])) answer stack stack frame (give value.Nil)
      (nil_right stack frame)

  pub first_right : (arguments : List Argument) (parts : List ArgumentCode)
      → ArgumentsRight arguments parts → ArgumentRight (first_argument arguments) (first_argument_code parts)
  first_right [] [] right = record {
    value = λ place stack frame. nil_right stack frame;
    in_place = no_block_right;
  }
  first_right [] (part ∷ others) right = absurd right
  first_right (one ∷ rest) [] right = absurd right
  first_right (one ∷ rest) (part ∷ others) right = right.0

  pub rest_right : (arguments : List Argument) (parts : List ArgumentCode)
      → ArgumentsRight arguments parts → ArgumentsRight (rest_arguments arguments) (rest_argument_codes parts)
  rest_right [] [] right = tt
  rest_right [] (part ∷ others) right = absurd right
  rest_right (one ∷ rest) [] right = absurd right
  rest_right (one ∷ rest) (part ∷ others) right = right.1

  -- arguments in order, and then what is done with them
  pub values_right : (arguments : List Argument) (parts : List ArgumentCode)
      → ArgumentsRight arguments parts → (place : Place) (values stack beneath : List Value)
      (frame : Frame) (part : Gen) (next : List Value → ValueRun)
      → ((all : List Value) → length all ≡ length values + length parts
      → Right outside setting table code part (all ++ stack) beneath frame (next all))
      → Right outside setting table code
      (argument_values_code parts place (length (values ++ stack)) part) (values ++ stack) beneath frame
      (argument_values arguments values place frame next)
  values_right [] [] right place values stack beneath frame part next last =
      last values (omega arith)
  values_right [] (other ∷ others) right place values stack beneath frame part next last = absurd right
  values_right (one ∷ rest) [] right place values stack beneath frame part next last = absurd right
  values_right (one ∷ rest) (other ∷ others) right place values stack beneath frame part next last =
      seq_right outside setting table code (other.value place (length (values ++ stack)))
      (argument_values_code others place (suc (length (values ++ stack))) part) (values ++ stack)
      (values ++ stack) beneath frame (one.value place frame)
      (λ answer. argument_values rest (answer ∷ values) place frame next)
      (right.0.value place (values ++ stack) frame)
      (λ answer. values_right rest others right.1 place (answer ∷ values) stack beneath frame part next
      (λ all is. last all (omega (arith, is))))

  -- the arguments stand above the receiver
  send_does : (to_super : Bool) (selector : Text) (count : ℕ) (frame : Frame) (receiver : Value)
      (all stack : List Value) → length all ≡ count → (place : ℕ) (state : State MadeBlock)
      (next back : Next)
      → act outside setting table (Some (send_op to_super selector count)) next back place
      (all ++ receiver ∷ stack) frame state
      ≡ does (outside.send_message to_super selector frame receiver all) setting state
      (λ answer later. next (suc place) (answer ∷ stack) frame later)
  send_does false selector count frame receiver all stack is place state next back = subst
      (λ n. on_top (drop n (all ++ receiver ∷ stack)) (λ first rest.
      does (outside.send_message false selector frame first (take n (all ++ receiver ∷ stack))) setting
      state (λ answer later. next (suc place) (answer ∷ rest) frame later))
      ≡ does (outside.send_message false selector frame receiver all) setting state
      (λ answer later. next (suc place) (answer ∷ stack) frame later))
      is
      (ap₂ (λ dropped taken. on_top dropped (λ first rest.
      does (outside.send_message false selector frame first taken) setting
      state (λ answer later. next (suc place) (answer ∷ rest) frame later)))
      (drop-append_seam all (receiver ∷ stack)) (take-append_seam all (receiver ∷ stack)))
  send_does true selector count frame receiver all stack is place state next back = subst
      (λ n. on_top (drop n (all ++ receiver ∷ stack)) (λ first rest.
      does (outside.send_message true selector frame first (take n (all ++ receiver ∷ stack))) setting
      state (λ answer later. next (suc place) (answer ∷ rest) frame later))
      ≡ does (outside.send_message true selector frame receiver all) setting state
      (λ answer later. next (suc place) (answer ∷ stack) frame later))
      is
      (ap₂ (λ dropped taken. on_top dropped (λ first rest.
      does (outside.send_message true selector frame first taken) setting
      state (λ answer later. next (suc place) (answer ∷ rest) frame later)))
      (drop-append_seam all (receiver ∷ stack)) (take-append_seam all (receiver ∷ stack)))

  pub send_right : (to_super : Bool) (selector : Text) (count : ℕ) (frame : Frame) (receiver : Value)
      (all stack : List Value) → length all ≡ 0 + count
      → Right outside setting table code (only (send_op to_super selector count ∷ []))
      (all ++ receiver ∷ stack) stack frame (outside.send_message to_super selector frame receiver all)
  send_right to_super selector count frame receiver all stack is =
      let same : length all ≡ count = omega (arith, is) in
      op_right outside setting table code (send_op to_super selector count) (all ++ receiver ∷ stack) stack
      frame (outside.send_message to_super selector frame receiver all)
      (λ place state at. performs outside setting table code place (all ++ receiver ∷ stack) stack frame
      state (send_op to_super selector count) at
      (outside.send_message to_super selector frame receiver all)
      (λ next back. send_does to_super selector count frame receiver all stack same place state next
      back))

  pub singleton_right : (always : Singleton) (stack : List Value) (frame : Frame)
      → Right outside setting table code (only (singleton_op always ∷ [])) stack stack frame
      (give (singleton_value always))
  singleton_right always stack frame =
      op_right outside setting table code (singleton_op always) stack stack frame
      (give (singleton_value always))
      (λ place state at. record {
        does = steps outside setting table code place stack frame state (singleton_op always) at
            (suc place) (singleton_value always ∷ stack) frame state
            (λ next back. pushes always place stack frame state next back) (omega arith);
      })
    where
      pushes : (always : Singleton) (place : ℕ) (stack : List Value) (frame : Frame)
          (state : State MadeBlock) (next back : Next)
          → act outside setting table (Some (singleton_op always)) next back place stack frame state
          ≡ next (suc place) (singleton_value always ∷ stack) frame state
      pushes singleton.Nil place stack frame state next back = refl
      pushes singleton.True place stack frame state next back = refl
      pushes singleton.False place stack frame state next back = refl

  -- a block's parameter is handed its value
  hand_right : (params : List Text) (handed : Option Value) (part : Gen) (stack beneath : List Value)
      (frame : Frame) (program : ValueRun)
      → Right outside setting table code part stack beneath frame program
      → Right outside setting table code (prefixed (hand_code params (is_handed handed)) part)
      (on_stack handed stack) beneath frame
      (and_then (hand params handed frame) (λ done. program))
  unfolding set_variable
  hand_right [] None part stack beneath frame program right =
      right_same outside setting table code (prefixed [] part) stack beneath frame program
      (and_then (give value.Nil) (λ done. program)) (λ state. refl)
      (nothing_right part stack beneath frame program right)
  hand_right (first ∷ rest) None part stack beneath frame program right =
      right_same outside setting table code (prefixed [] part) stack beneath frame program
      (and_then (give value.Nil) (λ done. program)) (λ state. refl)
      (nothing_right part stack beneath frame program right)
  hand_right [] (Some answer) part stack beneath frame program right =
      right_same outside setting table code (prefixed (Pop ∷ []) part) (answer ∷ stack) beneath frame
      program (and_then (give value.Nil) (λ done. program)) (λ state. refl)
      (pop_right outside setting table code part answer stack beneath frame program right)
  hand_right (first ∷ rest) (Some answer) part stack beneath frame program right = record {
    at = λ place number state has pieces.
        let one = part number in
        let here = suc (suc place) in
        follows_at outside setting table code 0 place (answer ∷ stack) frame state (here + length one.code)
        (place + suc (suc (length one.code))) beneath frame
        (and_then (set_variable frame 0 0 answer) (λ done. program)) (omega arith)
        (follows_then outside setting table code 0 0 place (answer ∷ stack) frame state (suc place) stack
        frame (here + length one.code) beneath frame (set_variable frame 0 0 answer)
        (λ done. program)
        (performs outside setting table code place (answer ∷ stack) stack frame state
        (StoreLocal 0 0) has.0 (set_variable frame 0 0 answer) (λ next back. refl))
        (λ done later falls. comes_follows outside setting table code 0 0 (suc place)
        (done ∷ stack) frame later here stack frame later (here + length one.code) beneath
        frame program
        (pop_comes outside setting table code (suc place) done stack frame later has.1.0)
        (right.at here number later has.1.1 pieces) program refl));
  }

  pub block_in_place_right : (params temps : List Text) (body : Place → Frame → ValueRun)
      (part : Place → ℕ → Gen) → StatementRight body part
      → (place : Place) (handed : Option Value) (stack : List Value) (frame : Frame)
      → Right outside setting table code
      (block_in_place_code params temps part place (is_handed handed) (length stack))
      (on_stack handed stack) stack frame (block_in_place params temps body place handed frame)
  block_in_place_right params temps body part right place handed stack frame =
      scope_right outside setting table code (length (params ++ temps))
      (prefixed (hand_code params (is_handed handed))
      (part (with_variables (params ++ temps) place) (length stack)))
      (on_stack handed stack) stack frame
      (λ inner. and_then (hand params handed inner) (λ done.
      body (with_variables (params ++ temps) place) inner))
      (λ inner. hand_right params handed
      (part (with_variables (params ++ temps) place) (length stack)) stack stack inner
      (body (with_variables (params ++ temps) place) inner)
      (right (with_variables (params ++ temps) place) stack inner))

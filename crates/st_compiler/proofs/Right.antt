-- Code that does what a program does, wherever it stands: put together of parts.
use Rattle.std.proofs.Common.{◌≡◌, ◌∙◌, refl, sym, ap, subst, ℕ, zero, suc, ◌+◌, Bool, true, false, not, List, [], ◌∷◌, ◌++◌, length, length-append, replicate, slice_get, Some, arith}
use Rattle.gem_object.specs.declared.value.Value.{Value}
use Rattle.gem_object.specs.declared.value.Value.TheVariants.{Nil}
use Rattle.tree_meaning.specs.gem_world.World.{Setting}
use Rattle.tree_meaning.specs.object_programs.Atom.{Tick}
use Rattle.tree_meaning.specs.object_programs.Run.{fail, return_to, atom, and_then, returns, fails, State, perform}
use Rattle.tree_meaning.specs.object_programs.Programs.{choose}
use Rattle.tree_meaning.specs.object_programs.declared.fault.Fault.TheVariants as fault
use Rattle.tree_meaning.specs.Place.{Frame, MadeBlock}
use Rattle.tree_meaning.specs.Operands.{ValueRun, truth_of, by_truth}
use Rattle.tree_meaning.specs.Scopes.{mark, with_scope, open_scope, give_back, is_living, close_scope, in_scope}
use Rattle.tree_meaning.specs.Parts.{return_value}
use Rattle.tree_meaning.specs.Meaning.{Outside}
use Rattle.tree_meaning.specs.declared.operand.Truth.{Truth}
use Rattle.tree_meaning.specs.declared.operand.Truth.TheVariants as truth
use Rattle.st_compiler.specs.Instruction.{Instruction, Pop, Dup, ReturnMethod, ReturnHome, Jump, TakeUnit, Enter, Leave}
use Rattle.st_compiler.specs.Code.{Piece, Gen, only, seq, prefixed, in_scope_code, jump_unless, choice}
use Rattle.st_compiler.specs.TreeCode.{return_op}
use Rattle.st_compiler.specs.Machine.{CodeEnd, over, stuck, Next, after, by_condition, act}
use Rattle.st_compiler.proofs.Steps.{HasAt, first_has, then_has, with_units, Comes, Stops, Reaches, Follows, comes_then, comes_follows, steps, stops, follows_then, follows_on, follows_at, reaches_within, follows_within, tick_follows}

-- the truth value of a condition
abbrev pub truth_at : Bool → Truth
truth_at true = truth.True
truth_at false = truth.False

module _ (outside : Outside) (setting : Setting) (table : List Piece) (code : List Instruction) where
  -- wherever the part stands in the code it does what the program does
  pub record Right (part : Gen) (pre stack : List Value) (frame : Frame) (program : ValueRun) : Type 0 where
    pub at : (place number : ℕ) (state : State MadeBlock) → HasAt code place (part number).code
        → HasAt table number (part number).pieces
        → Follows outside setting table code 0 place pre frame state (place + length (part number).code)
        stack frame program

  pub comes_same : (place other : ℕ) (stack : List Value) (frame : Frame) (state : State MadeBlock)
      → place ≡ other → Comes outside setting table code 0 place stack frame state other stack frame state
  comes_same place other stack frame state same =
      subst (λ at. Comes outside setting table code 0 place stack frame state at stack frame state) same
      (record { by = λ allowed. (allowed, omega arith, refl) })

  pub comes_at : (extra place : ℕ) (pre : List Value) (frame : Frame) (state : State MadeBlock)
      (there other : ℕ) (stack : List Value) (inner : Frame) (later : State MadeBlock) → there ≡ other
      → Comes outside setting table code extra place pre frame state there stack inner later
      → Comes outside setting table code extra place pre frame state other stack inner later
  comes_at extra place pre frame state there other stack inner later same =
      subst (λ at. Comes outside setting table code extra place pre frame state at stack inner later) same

  pub seq_right : (first second : Gen) (pre middle stack : List Value) (frame : Frame)
      (program : ValueRun) (next : Value → ValueRun) → Right first pre middle frame program
      → ((answer : Value) → Right second (answer ∷ middle) stack frame (next answer))
      → Right (seq first second) pre stack frame (and_then program next)
  seq_right first second pre middle stack frame program next one two = record {
    at = λ place number state has pieces.
        let part = first number in
        let other = second (number + length part.pieces) in
        let here = place + length part.code in
        follows_at outside setting table code 0 place pre frame state (here + length other.code)
        (place + length (part.code ++ other.code)) stack frame (and_then program next)
        (omega (arith, length-append part.code other.code))
        (follows_then outside setting table code 0 0 place pre frame state here middle frame
        (here + length other.code) stack frame program next
        (one.at place number state (first_has code place part.code other.code has)
        (first_has table number part.pieces other.pieces pieces))
        (λ answer meanwhile falls. (two answer).at here (number + length part.pieces) meanwhile
        (then_has code place part.code other.code has)
        (then_has table number part.pieces other.pieces pieces)));
  }

  -- one instruction
  pub op_right : (one : Instruction) (pre stack : List Value) (frame : Frame) (program : ValueRun)
      → ((place : ℕ) (state : State MadeBlock) → slice_get code place ≡ Some one
      → Follows outside setting table code 0 place pre frame state (suc place) stack frame program)
      → Right (only (one ∷ [])) pre stack frame program
  op_right one pre stack frame program follows = record {
    at = λ place number state has pieces.
        follows_at outside setting table code 0 place pre frame state (suc place) (place + 1) stack frame
        program (omega arith) (follows place state has.0);
  }

  -- instructions that change the stack alone, and then a part
  pub prefixed_right : (before : List Instruction) (part : Gen) (pre middle stack : List Value)
      (frame : Frame) (program : ValueRun)
      → ((place : ℕ) (state : State MadeBlock) → HasAt code place before
      → Comes outside setting table code 0 place pre frame state (place + length before) middle frame
      state)
      → Right part middle stack frame program → Right (prefixed before part) pre stack frame program
  prefixed_right before part pre middle stack frame program comes right = record {
    at = λ place number state has pieces.
        let one = part number in
        let here = place + length before in
        follows_at outside setting table code 0 place pre frame state (here + length one.code)
        (place + length (before ++ one.code)) stack frame program
        (omega (arith, length-append before one.code))
        (comes_follows outside setting table code 0 0 place pre frame state here middle frame state
        (here + length one.code) stack frame program
        (comes place state (first_has code place before one.code has))
        (right.at here number state (then_has code place before one.code has) pieces)
        program refl);
  }

  pub pop_comes : (place : ℕ) (first : Value) (stack : List Value) (frame : Frame)
      (state : State MadeBlock) → slice_get code place ≡ Some Pop
      → Comes outside setting table code 0 place (first ∷ stack) frame state (suc place) stack frame state
  pop_comes place first stack frame state at =
      steps outside setting table code place (first ∷ stack) frame state Pop at (suc place) stack frame state
      (λ next back. refl) (omega arith)

  pub pop_right : (part : Gen) (first : Value) (middle stack : List Value) (frame : Frame)
      (program : ValueRun) → Right part middle stack frame program
      → Right (prefixed (Pop ∷ []) part) (first ∷ middle) stack frame program
  pop_right part first middle stack frame program right =
      prefixed_right (Pop ∷ []) part (first ∷ middle) middle stack frame program
      (λ place state has. comes_at 0 place (first ∷ middle) frame state (suc place) (place + 1) middle
      frame state (omega arith) (pop_comes place first middle frame state has.0))
      right

  pub dup_right : (part : Gen) (first : Value) (middle stack : List Value) (frame : Frame)
      (program : ValueRun) → Right part (first ∷ first ∷ middle) stack frame program
      → Right (prefixed (Dup ∷ []) part) (first ∷ middle) stack frame program
  dup_right part first middle stack frame program right =
      prefixed_right (Dup ∷ []) part (first ∷ middle) (first ∷ first ∷ middle) stack frame program
      (λ place state has. comes_at 0 place (first ∷ middle) frame state (suc place) (place + 1)
      (first ∷ first ∷ middle) frame state (omega arith)
      (steps outside setting table code place (first ∷ middle) frame state Dup has.0 (suc place)
      (first ∷ first ∷ middle) frame state (λ next back. refl) (omega arith)))
      right

  -- all that stands on the stack is dropped
  pops_come : (stack : List Value) (frame : Frame) (place : ℕ) (state : State MadeBlock)
      → HasAt code place (replicate (length stack) Pop)
      → Comes outside setting table code 0 place stack frame state
      (place + length (replicate (length stack) Pop)) [] frame state
  pops_come [] frame place state has = comes_same place (place + 0) [] frame state (omega arith)
  pops_come (first ∷ rest) frame place state has =
      comes_at 0 place (first ∷ rest) frame state
      (suc place + length (replicate (length rest) Pop))
      (place + suc (length (replicate (length rest) Pop))) [] frame state (omega arith)
      (comes_then outside setting table code 0 0 place (first ∷ rest) frame state (suc place) rest frame
      state (suc place + length (replicate (length rest) Pop)) [] frame state
      (pop_comes place first rest frame state has.0)
      (pops_come rest frame (suc place) state has.1))

  pub pops_right : (part : Gen) (middle stack : List Value) (frame : Frame) (program : ValueRun)
      → Right part [] stack frame program
      → Right (prefixed (replicate (length middle) Pop) part) middle stack frame program
  pops_right part middle stack frame program right =
      prefixed_right (replicate (length middle) Pop) part middle [] stack frame program
      (λ place state has. pops_come middle frame place state has) right

  -- a unit, and then a part
  pub tick_right : (part : Gen) (pre stack : List Value) (frame : Frame) (program : ValueRun)
      → Right part pre stack frame program
      → Right (prefixed (TakeUnit ∷ []) part) pre stack frame (and_then (atom Tick) (λ done. program))
  tick_right part pre stack frame program right = record {
    at = λ place number state has pieces.
        let one = part number in
        let there = suc place + length one.code in
        follows_at outside setting table code 0 place pre frame state there (place + suc (length one.code))
        stack frame (and_then (atom Tick) (λ done. program)) (omega arith)
        (tick_follows outside setting table code 0 place pre frame state there stack frame has.0 program
        (λ left is. follows_within outside setting table code 0 1 (suc place) pre frame
        (with_units left state) there stack frame (omega arith) program
        (right.at (suc place) number (with_units left state) has.1 pieces)));
  }

  -- the same code of another program that does the same
  pub right_same : (part : Gen) (pre stack : List Value) (frame : Frame) (program other : ValueRun)
      → ((state : State MadeBlock) → perform other setting state ≡ perform program setting state)
      → Right part pre stack frame program → Right part pre stack frame other
  right_same part pre stack frame program other same right = record {
    at = λ place number state has pieces.
        let there = place + length (part number).code in
        record {
          does = subst
              (λ outcome. Reaches outside setting table code 0 place pre frame state there stack frame
              outcome.end outcome.state)
              (sym (same state)) (right.at place number state has pieces).does;
        };
  }

  -- a scope
  enter_follows : (others : ℕ) (part : Gen) (pre stack : List Value) (frame : Frame)
      (body : Frame → ValueRun) → ((inner : Frame) → Right part pre stack inner (body inner))
      → (place number : ℕ) (state : State MadeBlock)
      → HasAt code place (in_scope_code (suc others) part number).code
      → HasAt table number (part number).pieces
      → Follows outside setting table code 0 place pre frame state
      (suc (suc place + length (part number).code)) stack frame (in_scope (suc others) frame body)
  unfolding close_scope
  enter_follows others part pre stack frame body right place number state has pieces =
      let one = part number in
      let begun = mark state.local in
      let inner = with_scope begun frame in
      let opened : State MadeBlock = record state {
        local = open_scope (replicate (suc others) Nil) state.local;
      } in
      let here = suc place + length one.code in
      let whole = and_then (body inner) (λ answer. close_scope begun answer) in
      comes_follows outside setting table code 0 0 place pre frame state (suc place) pre inner opened
      (suc here) stack frame whole
      (steps outside setting table code place pre frame state (Enter (suc others)) has.0 (suc place) pre
      inner opened (λ next back. refl) (omega arith))
      (follows_then outside setting table code 0 0 (suc place) pre inner opened here stack inner
      (suc here) stack frame (body inner) (λ answer. close_scope begun answer)
      ((right inner).at (suc place) number opened
      (first_has code (suc place) one.code (Leave ∷ []) has.1) pieces)
      (λ answer meanwhile falls. record {
        does = steps outside setting table code here (answer ∷ stack) inner meanwhile Leave
            (then_has code (suc place) one.code (Leave ∷ []) has.1).0 (suc here) (answer ∷ stack)
            frame (record meanwhile { local = give_back begun meanwhile.local })
            (λ next back. refl) (omega arith);
      }))
      (in_scope (suc others) frame body) refl

  pub scope_right : (variables : ℕ) (part : Gen) (pre stack : List Value) (frame : Frame)
      (body : Frame → ValueRun) → ((inner : Frame) → Right part pre stack inner (body inner))
      → Right (in_scope_code variables part) pre stack frame (in_scope variables frame body)
  scope_right zero part pre stack frame body right = right frame
  scope_right (suc others) part pre stack frame body right = record {
    at = λ place number state has pieces.
        let one = part number in
        follows_at outside setting table code 0 place pre frame state
        (suc (suc place + length one.code)) (place + suc (length (one.code ++ Leave ∷ []))) stack frame
        (in_scope (suc others) frame body) (omega (arith, length-append one.code (Leave ∷ [])))
        (enter_follows others part pre stack frame body right place number state has pieces);
  }

  -- an answer by `^`
  abbrev to_home : Value → Frame → (living : Bool) → ValueRun
  to_home first frame living = choose living (return_to first frame.home) (fail fault.DeadHome)

  living_reaches : (first : Value) (stack : List Value) (frame : Frame) (place : ℕ)
      (state : State MadeBlock) → slice_get code place ≡ Some ReturnHome
      → (living : Bool) → is_living frame.home state.local ≡ living
      → let outcome = perform (to_home first frame living) setting state in
      Reaches outside setting table code 0 place (first ∷ []) frame state (suc place) stack frame
      outcome.end outcome.state
  living_reaches first stack frame place state at true is =
      stops outside setting table code place (first ∷ []) frame state ReturnHome at
      (record { end = returns first frame.home; state = state })
      (λ next back. ap (λ living. after
      (perform (to_home first frame living) setting state).end
      (perform (to_home first frame living) setting state).state
      (λ (answer : Value) (later : State MadeBlock). stuck)) is)
      (omega arith)
  living_reaches first stack frame place state at false is =
      stops outside setting table code place (first ∷ []) frame state ReturnHome at
      (record { end = fails fault.DeadHome; state = state })
      (λ next back. ap (λ living. after
      (perform (to_home first frame living) setting state).end
      (perform (to_home first frame living) setting state).state
      (λ (answer : Value) (later : State MadeBlock). stuck)) is)
      (omega arith)

  pub return_right : (in_block : Bool) (first : Value) (stack : List Value) (frame : Frame)
      → Right (only (return_op in_block ∷ [])) (first ∷ []) stack frame (return_value in_block frame first)
  return_right false first stack frame =
      op_right ReturnMethod (first ∷ []) stack frame (return_value false frame first)
      (λ place state at. record {
        does = stops outside setting table code place (first ∷ []) frame state ReturnMethod at
            (record { end = returns first frame.home; state = state }) (λ next back. refl) (omega arith);
      })
  return_right true first stack frame =
      op_right ReturnHome (first ∷ []) stack frame (return_value true frame first)
      (λ place state at. record {
        does = living_reaches first stack frame place state at (is_living frame.home state.local) refl;
      })

  -- a jump by a condition
  module _ (place ahead : ℕ) (first : Value) (stack : List Value) (frame : Frame)
      (state : State MadeBlock) where
    tested_at : (skips jumps : CodeEnd) → (when : Bool) → Truth → CodeEnd
    tested_at skips jumps true test = by_condition test state skips jumps
    tested_at skips jumps false test = by_condition test state jumps skips

    jump_acts : (when : Bool) (next back : Next)
        → act outside setting table (Some (jump_unless when ahead)) next back place (first ∷ stack) frame
        state
        ≡ tested_at (next (suc place) stack frame state) (next (suc place + ahead) stack frame state) when
        (truth_of first)
    unfolding tested_at
    jump_acts true next back = refl
    jump_acts false next back = refl

    skips_where : (when : Bool) (skips jumps : CodeEnd) → tested_at skips jumps when (truth_at when) ≡ skips
    unfolding tested_at
    skips_where true skips jumps = refl
    skips_where false skips jumps = refl

    jumps_where : (when : Bool) (skips jumps : CodeEnd)
        → tested_at skips jumps when (truth_at (not when)) ≡ jumps
    unfolding tested_at
    jumps_where true skips jumps = refl
    jumps_where false skips jumps = refl

    neither_where : (when : Bool) (skips jumps : CodeEnd)
        → tested_at skips jumps when truth.Neither
        ≡ over (record { end = fails fault.NotBoolean; state = state })
    unfolding tested_at
    neither_where true skips jumps = refl
    neither_where false skips jumps = refl

    module _ (when : Bool) (at : slice_get code place ≡ Some (jump_unless when ahead)) where
      pub skips_on : truth_of first ≡ truth_at when
          → Comes outside setting table code 0 place (first ∷ stack) frame state (suc place) stack frame state
      skips_on is = steps outside setting table code place (first ∷ stack) frame state
          (jump_unless when ahead) at (suc place) stack frame state
          (λ next back. jump_acts when next back
          ∙ ap (tested_at (next (suc place) stack frame state) (next (suc place + ahead) stack frame state)
          when) is
          ∙ skips_where when (next (suc place) stack frame state)
          (next (suc place + ahead) stack frame state))
          (omega arith)

      pub jumps_over : truth_of first ≡ truth_at (not when)
          → Comes outside setting table code 0 place (first ∷ stack) frame state (suc place + ahead) stack
          frame state
      jumps_over is = steps outside setting table code place (first ∷ stack) frame state
          (jump_unless when ahead) at (suc place + ahead) stack frame state
          (λ next back. jump_acts when next back
          ∙ ap (tested_at (next (suc place) stack frame state) (next (suc place + ahead) stack frame state)
          when) is
          ∙ jumps_where when (next (suc place) stack frame state)
          (next (suc place + ahead) stack frame state))
          (omega arith)

      pub no_boolean : truth_of first ≡ truth.Neither
          → Stops outside setting table code 0 place (first ∷ stack) frame state
          (record { end = fails fault.NotBoolean; state = state })
      no_boolean is = stops outside setting table code place (first ∷ stack) frame state
          (jump_unless when ahead) at (record { end = fails fault.NotBoolean; state = state })
          (λ next back. jump_acts when next back
          ∙ ap (tested_at (next (suc place) stack frame state) (next (suc place + ahead) stack frame state)
          when) is
          ∙ neither_where when (next (suc place) stack frame state)
          (next (suc place + ahead) stack frame state))
          (omega arith)

  -- a choice by the condition, where each of the two programs is followed from its place
  pub by_choice : (place ahead : ℕ) (first : Value) (stack : List Value) (frame : Frame)
      (state : State MadeBlock) (extra there : ℕ) (beneath : List Value) (chosen other : ValueRun)
      (when : Bool) → slice_get code place ≡ Some (jump_unless when ahead)
      → Follows outside setting table code extra (suc place) stack frame state there beneath frame chosen
      → Follows outside setting table code extra (suc place + ahead) stack frame state there beneath frame
      other
      → (test : Truth) → truth_of first ≡ test
      → Follows outside setting table code (0 + extra) place (first ∷ stack) frame state there beneath frame
      (by_truth test when chosen other)
  by_choice place ahead first stack frame state extra there beneath chosen other true at skipped jumped
      truth.True is =
      comes_follows outside setting table code 0 extra place (first ∷ stack) frame state (suc place) stack
      frame state there beneath frame chosen
      (skips_on place ahead first stack frame state true at is) skipped chosen refl
  by_choice place ahead first stack frame state extra there beneath chosen other true at skipped jumped
      truth.False is =
      comes_follows outside setting table code 0 extra place (first ∷ stack) frame state
      (suc place + ahead) stack frame state there beneath frame other
      (jumps_over place ahead first stack frame state true at is) jumped other refl
  by_choice place ahead first stack frame state extra there beneath chosen other false at skipped jumped
      truth.True is =
      comes_follows outside setting table code 0 extra place (first ∷ stack) frame state
      (suc place + ahead) stack frame state there beneath frame other
      (jumps_over place ahead first stack frame state false at is) jumped other refl
  by_choice place ahead first stack frame state extra there beneath chosen other false at skipped jumped
      truth.False is =
      comes_follows outside setting table code 0 extra place (first ∷ stack) frame state (suc place) stack
      frame state there beneath frame chosen
      (skips_on place ahead first stack frame state false at is) skipped chosen refl
  by_choice place ahead first stack frame state extra there beneath chosen other when at skipped jumped
      truth.Neither is = record {
        does = reaches_within outside setting table code 0 (0 + extra) place (first ∷ stack) frame state
            there beneath frame (omega arith) (fails fault.NotBoolean) state
            (no_boolean place ahead first stack frame state when at is);
      }

  pub choice_right : (when : Bool) (one two : Gen) (first : Value) (pre stack : List Value)
      (frame : Frame) (chosen other : ValueRun) → Right one pre stack frame chosen
      → Right two pre stack frame other
      → Right (choice when one two) (first ∷ pre) stack frame
      (by_truth (truth_of first) when chosen other)
  choice_right when one two first pre stack frame chosen other chosen_right other_right = record {
    at = λ place number state has pieces.
        let part = one number in
        let second = two (number + length part.pieces) in
        let here = suc place + length part.code in
        let there = suc here + length second.code in
        let after = then_has code (suc place) part.code (Jump (length second.code) ∷ second.code) has.1 in
        let jumped = suc place + suc (length part.code) in
        let same : suc here ≡ jumped = omega arith in
        follows_at outside setting table code 0 place (first ∷ pre) frame state there
        (place + suc (length (part.code ++ Jump (length second.code) ∷ second.code))) stack frame
        (by_truth (truth_of first) when chosen other)
        (omega (arith, length-append part.code (Jump (length second.code) ∷ second.code)))
        (by_choice place (suc (length part.code)) first pre frame state 0 there stack chosen other when
        has.0
        (follows_on outside setting table code 0 0 (suc place) pre frame state here stack frame
        there stack frame chosen
        (chosen_right.at (suc place) number state
        (first_has code (suc place) part.code (Jump (length second.code) ∷ second.code)
        has.1)
        (first_has table number part.pieces second.pieces pieces))
        (λ answer later. steps outside setting table code here (answer ∷ stack) frame later
        (Jump (length second.code)) after.0 there (answer ∷ stack) frame later
        (λ next back. refl) (omega arith)))
        (follows_at outside setting table code 0 jumped pre frame state
        (jumped + length second.code) there stack frame other (omega arith)
        (other_right.at jumped (number + length part.pieces) state
        (subst (λ at. HasAt code at second.code) same after.1)
        (then_has table number part.pieces second.pieces pieces)))
        (truth_of first) refl);
  }

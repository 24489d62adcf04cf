-- However many instructions are allowed, code ends in one way: by cases on instructions.
use Rattle.std.proofs.Common.{subst, refl, ℕ, zero, suc, ◌+◌, ◌-◌, ℤ, pos, ◌+ℤ◌, int_le, Bool, true, false, List, [], ◌∷◌, take, drop, slice_get, Option, Some, None}
use Rattle.gem_object.specs.declared.value.Value.{Value}
use Rattle.gem_object.specs.declared.value.Value.TheVariants as value
use Rattle.tree_meaning.specs.gem_world.World.{Setting}
use Rattle.gem_object.specs.texts.declared.integers.TheConstants.{LARGEST_INTEGER}
use Rattle.tree_meaning.specs.object_programs.Atom.{Tick}
use Rattle.tree_meaning.specs.object_programs.Run.{Run, atom, Ending, gives, returns, fails, State, perform}
use Rattle.tree_meaning.specs.object_programs.declared.fault.Fault.TheVariants as fault
use Rattle.tree_meaning.specs.Place.{Frame, MadeBlock}
use Rattle.tree_meaning.specs.Operands.{ValueRun, truth_of, int_pair}
use Rattle.tree_meaning.specs.Scopes.{variable_value, set_variable}
use Rattle.tree_meaning.specs.Parts.{return_value}
use Rattle.tree_meaning.specs.Meaning.{Outside}
use Rattle.tree_meaning.specs.declared.place.Mark.{Mark}
use Rattle.tree_meaning.specs.declared.operand.Truth.{Truth}
use Rattle.tree_meaning.specs.declared.operand.Truth.TheVariants as truth
use Rattle.tree_meaning.specs.declared.operand.Pair.{Pair}
use Rattle.tree_meaning.specs.declared.operand.Pair.TheVariants.{Ints, Others}
use Rattle.st_compiler.specs.Instruction.{Instruction, PushSelf, PushNil, PushTrue, PushFalse, PushLit, MakeLit, PushLocal, StoreLocal, PushName, StoreName, Pop, Dup, Send, SuperSend, PushBlock, ReturnMethod, ReturnHome, ReturnBlock, Jump, JumpBack, JumpTrue, JumpFalse, TakeUnit, Enter, Leave, LoopStart, LoopNext, LoopStep}
use Rattle.st_compiler.specs.Code.{Piece}
use Rattle.st_compiler.specs.Machine.{CodeEnd, over, ran_out, stuck, Next, after, does, on_top, on_two, on_only, by_condition, on_ints, either, on_piece, on_scope, send, act, straight, execute}
use Rattle.st_compiler.specs.Runs.{Runs, EveryRun, Agree}

out_agrees : (end : CodeEnd) → Agree end ran_out
out_agrees (over outcome) = tt
out_agrees ran_out = tt
out_agrees stuck = tt

after_agrees : {A : Type 0} (end : Ending A) (state : State MadeBlock)
    (first second : A → State MadeBlock → CodeEnd)
    → ((answer : A) (later : State MadeBlock) → Agree (first answer later) (second answer later))
    → Agree (after end state first) (after end state second)
after_agrees (gives answer) state first second agree = agree answer state
after_agrees (returns answer home) state first second agree = refl
after_agrees (fails fault) state first second agree = refl

top_agrees : (stack : List Value) (first second : Value → List Value → CodeEnd)
    → ((one : Value) (rest : List Value) → Agree (first one rest) (second one rest))
    → Agree (on_top stack first) (on_top stack second)
top_agrees [] first second agree = tt
top_agrees (one ∷ rest) first second agree = agree one rest

two_agrees : (stack : List Value) (first second : Value → Value → List Value → CodeEnd)
    → ((one two : Value) (rest : List Value) → Agree (first one two rest) (second one two rest))
    → Agree (on_two stack first) (on_two stack second)
two_agrees [] first second agree = tt
two_agrees (one ∷ []) first second agree = tt
two_agrees (one ∷ two ∷ rest) first second agree = agree one two rest

only_agrees : (stack : List Value) (first second : Value → CodeEnd)
    → ((one : Value) → Agree (first one) (second one)) → Agree (on_only stack first) (on_only stack second)
only_agrees [] first second agree = tt
only_agrees (one ∷ []) first second agree = agree one
only_agrees (one ∷ two ∷ rest) first second agree = tt

condition_agrees : (test : Truth) (state : State MadeBlock) (first other second another : CodeEnd)
    → Agree first second → Agree other another
    → Agree (by_condition test state first other) (by_condition test state second another)
condition_agrees truth.True state first other second another agree also = agree
condition_agrees truth.False state first other second another agree also = also
condition_agrees truth.Neither state first other second another agree also = refl

ints_agree : (pair : Pair) (otherwise : CodeEnd) (first second : ℤ → ℤ → CodeEnd)
    → Agree otherwise otherwise
    → ((number limit : ℤ) → Agree (first number limit) (second number limit))
    → Agree (on_ints pair otherwise first) (on_ints pair otherwise second)
ints_agree (Ints number limit) otherwise first second same agree = agree number limit
ints_agree Others otherwise first second same agree = same

either_agrees : (test : Bool) (first other second another : CodeEnd) → Agree first second
    → Agree other another → Agree (either test first other) (either test second another)
either_agrees true first other second another agree also = agree
either_agrees false first other second another agree also = also

piece_agrees : (found : Option Piece) (first second : Piece → CodeEnd)
    → ((piece : Piece) → Agree (first piece) (second piece))
    → Agree (on_piece found first) (on_piece found second)
piece_agrees None first second agree = tt
piece_agrees (Some piece) first second agree = agree piece

scope_agrees : (scopes : List Mark) (first second : Mark → List Mark → CodeEnd)
    → ((one : Mark) (rest : List Mark) → Agree (first one rest) (second one rest))
    → Agree (on_scope scopes first) (on_scope scopes second)
scope_agrees [] first second agree = tt
scope_agrees (one ∷ rest) first second agree = agree one rest

abbrev AgreeAll : Next → Next → Type 0
AgreeAll first second = (place : ℕ) (stack : List Value) (frame : Frame) (state : State MadeBlock)
    → Agree (first place stack frame state) (second place stack frame state)

module _ (outside : Outside) (setting : Setting) (table : List Piece) where
  does_agree : {A : Type 0} (program : Run MadeBlock A) (state : State MadeBlock)
      (first second : A → State MadeBlock → CodeEnd)
      → ((answer : A) (later : State MadeBlock) → Agree (first answer later) (second answer later))
      → Agree (does program setting state first) (does program setting state second)
  does_agree program state first second agree =
      after_agrees (perform program setting state).end (perform program setting state).state first second
      agree

  module _ (next back other another : Next) (agree : AgreeAll next other) (also : AgreeAll back another)
      (place : ℕ) (stack : List Value) (frame : Frame) (state : State MadeBlock) where
    -- a program whose answer is put
    put_agrees : (program : Run MadeBlock Value) (rest : List Value)
        → Agree
        (does program setting state (λ answer later. next (suc place) (answer ∷ rest) frame later))
        (does program setting state (λ answer later. other (suc place) (answer ∷ rest) frame later))
    put_agrees program rest = does_agree program state
        (λ answer later. next (suc place) (answer ∷ rest) frame later)
        (λ answer later. other (suc place) (answer ∷ rest) frame later)
        (λ answer later. agree (suc place) (answer ∷ rest) frame later)

    sends_agree : (to_super : Bool) (selector : List ℕ) (count : ℕ)
        → Agree
        (send outside setting table to_super selector count stack frame state
        (λ answer rest later. next (suc place) (answer ∷ rest) frame later))
        (send outside setting table to_super selector count stack frame state
        (λ answer rest later. other (suc place) (answer ∷ rest) frame later))
    sends_agree to_super selector count = top_agrees (drop count stack) _ _ (λ receiver rest.
        put_agrees (outside.send_message to_super selector frame receiver (take count stack)) rest)

    acts_agree : (one : Option Instruction)
        → Agree (act outside setting table one next back place stack frame state)
        (act outside setting table one other another place stack frame state)
    acts_agree None = tt
    acts_agree (Some PushSelf) = agree (suc place) (frame.receiver ∷ stack) frame state
    acts_agree (Some PushNil) = agree (suc place) (value.Nil ∷ stack) frame state
    acts_agree (Some PushTrue) = agree (suc place) (value.True ∷ stack) frame state
    acts_agree (Some PushFalse) = agree (suc place) (value.False ∷ stack) frame state
    acts_agree (Some (PushLit answer)) = agree (suc place) (answer ∷ stack) frame state
    acts_agree (Some (MakeLit tree)) = put_agrees (outside.literal_value tree) stack
    acts_agree (Some (PushLocal depth index)) = put_agrees (variable_value frame depth index) stack
    acts_agree (Some (StoreLocal depth index)) = top_agrees stack _ _ (λ first rest.
        put_agrees (set_variable frame depth index first) rest)
    acts_agree (Some (PushName name)) = put_agrees (outside.read_name name frame) stack
    acts_agree (Some (StoreName name)) = top_agrees stack _ _ (λ first rest.
        put_agrees (outside.write_name name frame first) rest)
    acts_agree (Some Pop) = top_agrees stack _ _ (λ first rest. agree (suc place) rest frame state)
    acts_agree (Some Dup) = top_agrees stack _ _ (λ first rest.
        agree (suc place) (first ∷ first ∷ rest) frame state)
    acts_agree (Some (Send selector count)) = sends_agree false selector count
    acts_agree (Some (SuperSend selector count)) = sends_agree true selector count
    acts_agree (Some (PushBlock number)) = piece_agrees (slice_get table number) _ _ (λ piece.
        put_agrees (outside.make_block piece.tree piece.place frame) stack)
    acts_agree (Some ReturnMethod) = only_agrees stack _ _ (λ first.
        does_agree (return_value false frame first) state (λ answer later. stuck)
        (λ answer later. stuck) (λ answer later. tt))
    acts_agree (Some ReturnHome) = only_agrees stack _ _ (λ first.
        does_agree (return_value true frame first) state (λ answer later. stuck)
        (λ answer later. stuck) (λ answer later. tt))
    acts_agree (Some ReturnBlock) = only_agrees stack _ _ (λ first. refl)
    acts_agree (Some (Jump ahead)) = agree (suc place + ahead) stack frame state
    acts_agree (Some (JumpBack behind)) = also (place - behind) stack frame state
    acts_agree (Some (JumpTrue ahead)) = top_agrees stack _ _ (λ first rest.
        condition_agrees (truth_of first) state (next (suc place + ahead) rest frame state)
        (next (suc place) rest frame state) (other (suc place + ahead) rest frame state)
        (other (suc place) rest frame state) (agree (suc place + ahead) rest frame state)
        (agree (suc place) rest frame state))
    acts_agree (Some (JumpFalse ahead)) = top_agrees stack _ _ (λ first rest.
        condition_agrees (truth_of first) state (next (suc place) rest frame state)
        (next (suc place + ahead) rest frame state) (other (suc place) rest frame state)
        (other (suc place + ahead) rest frame state) (agree (suc place) rest frame state)
        (agree (suc place + ahead) rest frame state))
    acts_agree (Some TakeUnit) = does_agree (atom Tick) state
        (λ answer later. next (suc place) stack frame later)
        (λ answer later. other (suc place) stack frame later)
        (λ answer later. agree (suc place) stack frame later)
    acts_agree (Some (Enter count)) = agree (suc place) stack _ _
    acts_agree (Some Leave) = scope_agrees frame.scopes _ _ (λ first rest. agree (suc place) stack _ _)
    acts_agree (Some LoopStart) = two_agrees stack _ _ (λ limit counter rest.
        ints_agree (int_pair counter limit)
        (over (record { end = fails fault.ArgumentKind; state = state })) _ _ refl
        (λ number last. agree (suc place) stack frame state))
    acts_agree (Some (LoopNext ahead)) = two_agrees stack _ _ (λ limit counter rest.
        ints_agree (int_pair counter limit) stuck _ _ tt (λ number last.
        either_agrees (int_le number last) _ _ _ _ (agree (suc place) (counter ∷ stack) frame state)
        (agree (suc place + ahead) rest frame state)))
    acts_agree (Some (LoopStep behind)) = two_agrees stack _ _ (λ limit counter rest.
        ints_agree (int_pair counter limit) stuck _ _ tt (λ number last.
        either_agrees (int_le LARGEST_INTEGER number) _ _ _ _ (agree (suc place) rest frame state)
        (also (place - behind) (limit ∷ value.Int (number +ℤ pos 1) ∷ rest) frame state)))

  module _ (code : List Instruction) where
    straight_agrees : (back another : Next) → AgreeAll back another → (first second : ℕ)
        → AgreeAll (straight outside setting table code back first)
        (straight outside setting table code another second)
    straight_agrees back another also zero second place stack frame state = tt
    straight_agrees back another also (suc first) zero place stack frame state =
        out_agrees (straight outside setting table code back (suc first) place stack frame state)
    straight_agrees back another also (suc first) (suc second) place stack frame state =
        acts_agree (straight outside setting table code back first) back
        (straight outside setting table code another second) another
        (straight_agrees back another also first second) also place stack frame state
        (slice_get code place)

    pub one_end : (first second : List ℕ) (place : ℕ) (stack : List Value) (frame : Frame)
        (state : State MadeBlock)
        → Agree (execute outside setting table code first place stack frame state)
        (execute outside setting table code second place stack frame state)
    one_end [] second place stack frame state = tt
    one_end (count ∷ rest) [] place stack frame state =
        out_agrees (execute outside setting table code (count ∷ rest) place stack frame state)
    one_end (count ∷ rest) (other ∷ others) place stack frame state =
        straight_agrees (execute outside setting table code rest)
        (execute outside setting table code others) (one_end rest others) count other place stack frame
        state

  -- code that does what a program does comes to nothing else
  pub every_run : (code : List Instruction) (program : Frame → ValueRun)
      → Runs outside setting table code program → EveryRun outside setting table code program
  every_run code program runs allowed frame state =
      let enough = runs frame state in
      subst (λ end. Agree (execute outside setting table code allowed 0 [] frame state) end) enough.2
      (one_end code allowed enough.0 0 [] frame state)

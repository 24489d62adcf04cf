-- What instructions do. A send, a name out of scope, a new block and a new literal are programs, as
-- in the meaning of trees.
use Rattle.std.specs.Prelude.{ℕ, zero, suc, ◌+◌, ◌-◌, ℤ, pos, ◌+ℤ◌, int_le, Bool, true, false, List, [], ◌∷◌, take, drop, replicate, slice_get, Option, None, Some}
use Rattle.gem_object.specs.declared.value.Value.{Value}
use Rattle.gem_object.specs.declared.value.Value.TheVariants as value
use Rattle.tree_meaning.specs.gem_world.World.{Setting}
use Rattle.gem_object.specs.texts.declared.integers.TheConstants.{LARGEST_INTEGER}
use Rattle.tree_meaning.specs.object_programs.Atom.{Tick}
use Rattle.tree_meaning.specs.object_programs.Run.{Run, atom, Ending, gives, returns, fails, State, Outcome, perform}
use Rattle.tree_meaning.specs.object_programs.declared.fault.Fault.TheVariants as fault
use Rattle.tree_meaning.specs.Place.{Frame, MadeBlock}
use Rattle.tree_meaning.specs.Operands.{truth_of, int_pair}
use Rattle.tree_meaning.specs.Scopes.{mark, with_scope, open_scope, give_back, variable_value, set_variable}
use Rattle.tree_meaning.specs.Parts.{return_value}
use Rattle.tree_meaning.specs.Meaning.{Outside}
use Rattle.tree_meaning.specs.declared.place.Mark.{Mark}
use Rattle.tree_meaning.specs.declared.operand.Truth.{Truth}
use Rattle.tree_meaning.specs.declared.operand.Truth.TheVariants as truth
use Rattle.tree_meaning.specs.declared.operand.Pair.{Pair}
use Rattle.tree_meaning.specs.declared.operand.Pair.TheVariants.{Ints, Others}
use Rattle.st_compiler.specs.Instruction.{Instruction, PushSelf, PushNil, PushTrue, PushFalse, PushLit, MakeLit, PushLocal, StoreLocal, PushName, StoreName, Pop, Dup, Send, SuperSend, PushBlock, ReturnMethod, ReturnHome, ReturnBlock, Jump, JumpBack, JumpTrue, JumpFalse, TakeUnit, Enter, Leave, LoopStart, LoopNext, LoopStep}
use Rattle.st_compiler.specs.Code.{Piece}

-- How code ends: by an outcome; or the allowed number of instructions ran out; or an instruction
-- couldn't be carried out.
pub data CodeEnd : Type 0 where
  over : Outcome MadeBlock Value → CodeEnd
  ran_out : CodeEnd
  stuck : CodeEnd

-- what is done from a place on, with this stack, the uppermost value first
abbrev pub Next : Type 0
Next = (place : ℕ) → (stack : List Value) → Frame → State MadeBlock → CodeEnd

-- what follows a program; code ends where the program ends otherwise than by an answer
abbrev pub after : {A : Type 0} → Ending A → State MadeBlock → (A → State MadeBlock → CodeEnd)
    → CodeEnd
after (gives answer) state next = next answer state
after (returns answer home) state next = over (record { end = returns answer home; state = state })
after (fails fault) state next = over (record { end = fails fault; state = state })

abbrev pub does : {A : Type 0} → Run MadeBlock A → Setting → State MadeBlock
    → (A → State MadeBlock → CodeEnd) → CodeEnd
does program setting state next =
    let outcome = perform program setting state in after outcome.end outcome.state next

-- the uppermost value, the two uppermost ones, the only one
abbrev pub on_top : List Value → (Value → List Value → CodeEnd) → CodeEnd
on_top [] next = stuck
on_top (first ∷ rest) next = next first rest

abbrev pub on_two : List Value → (Value → Value → List Value → CodeEnd) → CodeEnd
on_two stack next = on_top stack (λ first rest. on_top rest (λ second others.
    next first second others))

abbrev pub on_only : List Value → (Value → CodeEnd) → CodeEnd
on_only (only ∷ []) next = next only
on_only stack next = stuck

-- a jump by a truth value, or E3
abbrev pub by_condition : Truth → State MadeBlock → (if_true if_false : CodeEnd) → CodeEnd
by_condition truth.True state if_true if_false = if_true
by_condition truth.False state if_true if_false = if_false
by_condition truth.Neither state if_true if_false =
    over (record { end = fails fault.NotBoolean; state = state })

-- the two ends of a loop
abbrev pub on_ints : Pair → (otherwise : CodeEnd) → (ℤ → ℤ → CodeEnd) → CodeEnd
on_ints (Ints first limit) otherwise next = next first limit
on_ints Others otherwise next = otherwise

-- one of two ends
abbrev pub either : Bool → CodeEnd → CodeEnd → CodeEnd
either true first second = first
either false first second = second

abbrev pub on_piece : Option Piece → (Piece → CodeEnd) → CodeEnd
on_piece None next = stuck
on_piece (Some piece) next = next piece

abbrev pub on_scope : List Mark → (Mark → List Mark → CodeEnd) → CodeEnd
on_scope [] next = stuck
on_scope (first ∷ rest) next = next first rest

module _ (outside : Outside) (setting : Setting) (table : List Piece) where
  -- a message with so many arguments, which stand above its receiver
  abbrev pub send : (to_super : Bool) → List ℕ → (count : ℕ) → List Value → Frame
      → State MadeBlock → (Value → List Value → State MadeBlock → CodeEnd) → CodeEnd
  send to_super selector count stack frame state next =
      on_top (drop count stack) (λ receiver rest.
      does (outside.send_message to_super selector frame receiver (take count stack)) setting state
      (λ answer later. next answer rest later))

  -- One instruction, or none past the last one: it goes on with `next`, and jumps back with `back`.
  abbrev pub act : Option Instruction → (next back : Next) → Next
  act None next back place stack frame state = stuck
  act (Some PushSelf) next back place stack frame state =
      next (suc place) (frame.receiver ∷ stack) frame state
  act (Some PushNil) next back place stack frame state =
      next (suc place) (value.Nil ∷ stack) frame state
  act (Some PushTrue) next back place stack frame state =
      next (suc place) (value.True ∷ stack) frame state
  act (Some PushFalse) next back place stack frame state =
      next (suc place) (value.False ∷ stack) frame state
  act (Some (PushLit answer)) next back place stack frame state =
      next (suc place) (answer ∷ stack) frame state
  act (Some (MakeLit tree)) next back place stack frame state =
      does (outside.literal_value tree) setting state (λ answer later.
      next (suc place) (answer ∷ stack) frame later)
  act (Some (PushLocal depth index)) next back place stack frame state =
      does (variable_value frame depth index) setting state (λ answer later.
      next (suc place) (answer ∷ stack) frame later)
  act (Some (StoreLocal depth index)) next back place stack frame state =
      on_top stack (λ first rest.
      does (set_variable frame depth index first) setting state (λ answer later.
      next (suc place) (answer ∷ rest) frame later))
  act (Some (PushName name)) next back place stack frame state =
      does (outside.read_name name frame) setting state (λ answer later.
      next (suc place) (answer ∷ stack) frame later)
  act (Some (StoreName name)) next back place stack frame state =
      on_top stack (λ first rest.
      does (outside.write_name name frame first) setting state (λ answer later.
      next (suc place) (answer ∷ rest) frame later))
  act (Some Pop) next back place stack frame state =
      on_top stack (λ first rest. next (suc place) rest frame state)
  act (Some Dup) next back place stack frame state =
      on_top stack (λ first rest. next (suc place) (first ∷ first ∷ rest) frame state)
  act (Some (Send selector count)) next back place stack frame state =
      send false selector count stack frame state (λ answer rest later.
      next (suc place) (answer ∷ rest) frame later)
  act (Some (SuperSend selector count)) next back place stack frame state =
      send true selector count stack frame state (λ answer rest later.
      next (suc place) (answer ∷ rest) frame later)
  act (Some (PushBlock number)) next back place stack frame state =
      on_piece (slice_get table number) (λ piece.
      does (outside.make_block piece.tree piece.place frame) setting state (λ answer later.
      next (suc place) (answer ∷ stack) frame later))
  act (Some ReturnMethod) next back place stack frame state =
      on_only stack (λ first.
      does (return_value false frame first) setting state (λ answer later. stuck))
  act (Some ReturnHome) next back place stack frame state =
      on_only stack (λ first.
      does (return_value true frame first) setting state (λ answer later. stuck))
  act (Some ReturnBlock) next back place stack frame state =
      on_only stack (λ first. over (record { end = gives first; state = state }))
  act (Some (Jump ahead)) next back place stack frame state =
      next (suc place + ahead) stack frame state
  act (Some (JumpBack behind)) next back place stack frame state =
      back (place - behind) stack frame state
  act (Some (JumpTrue ahead)) next back place stack frame state =
      on_top stack (λ first rest. by_condition (truth_of first) state
      (next (suc place + ahead) rest frame state)
      (next (suc place) rest frame state))
  act (Some (JumpFalse ahead)) next back place stack frame state =
      on_top stack (λ first rest. by_condition (truth_of first) state
      (next (suc place) rest frame state)
      (next (suc place + ahead) rest frame state))
  act (Some TakeUnit) next back place stack frame state =
      does (atom Tick) setting state (λ answer later. next (suc place) stack frame later)
  act (Some (Enter count)) next back place stack frame state =
      next (suc place) stack (with_scope (mark state.local) frame)
      (record state { local = open_scope (replicate count value.Nil) state.local })
  act (Some Leave) next back place stack frame state =
      on_scope frame.scopes (λ first rest.
      next (suc place) stack (record frame { scopes = rest })
      (record state { local = give_back first state.local }))
  act (Some LoopStart) next back place stack frame state =
      on_two stack (λ limit counter rest.
      on_ints (int_pair counter limit)
      (over (record { end = fails fault.ArgumentKind; state = state }))
      (λ number last. next (suc place) stack frame state))
  act (Some (LoopNext ahead)) next back place stack frame state =
      on_two stack (λ limit counter rest.
      on_ints (int_pair counter limit) stuck (λ number last.
      either (int_le number last)
      (next (suc place) (counter ∷ stack) frame state)
      (next (suc place + ahead) rest frame state)))
  act (Some (LoopStep behind)) next back place stack frame state =
      on_two stack (λ limit counter rest.
      on_ints (int_pair counter limit) stuck (λ number last.
      either (int_le LARGEST_INTEGER number)
      (next (suc place) rest frame state)
      (back (place - behind) (limit ∷ value.Int (number +ℤ pos 1) ∷ rest) frame state)))

  module _ (code : List Instruction) where
    -- so many instructions at most; a jump back goes on with `back`
    abbrev pub straight : (back : Next) → ℕ → Next
    straight back zero place stack frame state = ran_out
    straight back (suc count) place stack frame state =
        act (slice_get code place) (straight back count) back place stack frame state

    -- Carrying out code: one number for each stretch between two jumps back, which says how many
    -- instructions are allowed in it.
    abbrev pub execute : (allowed : List ℕ) → Next
    execute [] place stack frame state = ran_out
    execute (count ∷ rest) place stack frame state =
        straight (execute rest) count place stack frame state

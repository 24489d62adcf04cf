-- The loop of the machine: however far it has come, some number of instructions brings the code to
-- its end from there.
use Rattle.std.proofs.Common.{◌≡◌, ◌∙◌, sym, ap, subst, ℕ, zero, suc, List, [], ◌∷◌, slice_get, None, Some, Ok, Err}
use Rattle.gem_object.specs.declared.value.Value.{Value}
use Rattle.tree_meaning.specs.gem_world.World.{Setting}
use Rattle.tree_meaning.specs.object_programs.Local.{Local}
use Rattle.tree_meaning.specs.object_programs.Run.{gives, returns, fails, State, Outcome, perform}
use Rattle.tree_meaning.specs.Place.{Frame, MadeBlock}
use Rattle.tree_meaning.specs.Operands.{ValueRun}
use Rattle.tree_meaning.specs.Meaning.{Outside}
use Rattle.tree_meaning.specs.declared.place.Mark.{Mark}
use Rattle.running_objects.specs.Seen.{Seen, with_local, Keeps}
use Rattle.running_objects.specs.Ran.{Ran}
use Rattle.running_objects.specs.declared.stop.Stop.{Stop}
use Rattle.running_objects.specs.declared.stop.Stop.TheVariants as stop
use Rattle.running_objects.proofs.Running.{keeps_same, keeps_along}
use Rattle.st_compiler.specs.Instruction.{Instruction}
use Rattle.st_compiler.specs.Code.{Piece}
use Rattle.st_compiler.specs.Machine.{CodeEnd, over, ran_out, stuck, Next, act, straight, execute}
use Rattle.st_compiler.specs.Runs.{Runs}
use Rattle.st_machine.specs.Parts.{framed}
use Rattle.st_machine.specs.Led.{AskedBy, TurnedBy}
use Rattle.st_machine.specs.declared.flow.Asked.TheVariants as asked
use Rattle.st_machine.specs.declared.flow.Turn.TheVariants as turn

-- an end is none of the others
abbrev IsOver : CodeEnd → Type 0
IsOver (over outcome) = Unit {0}
IsOver ran_out = ⊥
IsOver stuck = ⊥

not_over : (end : CodeEnd) (outcome : Outcome MadeBlock Value) → end ≡ over outcome → IsOver end
not_over end outcome is = subst IsOver (sym is) tt

abbrev outcome_in : Outcome MadeBlock Value → CodeEnd → Outcome MadeBlock Value
outcome_in other (over outcome) = outcome
outcome_in other ran_out = other
outcome_in other stuck = other

same_outcome : {first second : Outcome MadeBlock Value} → over first ≡ over second → second ≡ first
same_outcome {first} is = sym (ap (outcome_in first) is)

module _ (outside : Outside) (table : List Piece) (code : List Instruction) where
  module _ (setting : Setting) where
    -- what is still allowed is enough for the code to end so
    abbrev pub Ends : Outcome MadeBlock Value → (place : ℕ) → List Value → Frame → State MadeBlock → Type 0
    Ends outcome place stack frame state = (allowed : List ℕ)
        × (execute outside setting table code allowed place stack frame state ≡ over outcome)

    module _ (outcome : Outcome MadeBlock Value) (one : Instruction) (place : ℕ) (stack : List Value)
        (frame : Frame) (state : State MadeBlock) (at : slice_get code place ≡ Some one) where
      -- what the instruction does here, in place of what stands at the place
      abbrev here : Next → Next → CodeEnd
      here next back = act outside setting table (Some one) next back place stack frame state

      at_here : (next back : Next)
          → here next back ≡ act outside setting table (slice_get code place) next back place stack frame state
      at_here next back = sym (ap (λ found. act outside setting table found next back place stack frame state) at)

      module _ (there : ℕ) (left : List Value) (inner : Frame) (later : State MadeBlock) where
        on_next : ((next back : Next) → here next back ≡ next there left inner later)
            → Ends outcome place stack frame state → Ends outcome there left inner later
        on_next led ([], is) = absurd (not_over ran_out outcome is)
        on_next led ((zero ∷ rest), is) = absurd (not_over ran_out outcome is)
        on_next led ((suc count ∷ rest), is) =
            let next : Next = straight outside setting table code (execute outside setting table code rest) count in
            let back : Next = execute outside setting table code rest in
            (count ∷ rest, sym (led next back) ∙ (at_here next back ∙ is))

        on_back : ((next back : Next) → here next back ≡ back there left inner later)
            → Ends outcome place stack frame state → Ends outcome there left inner later
        on_back led ([], is) = absurd (not_over ran_out outcome is)
        on_back led ((zero ∷ rest), is) = absurd (not_over ran_out outcome is)
        on_back led ((suc count ∷ rest), is) =
            let next : Next = straight outside setting table code (execute outside setting table code rest) count in
            let back : Next = execute outside setting table code rest in
            (rest, sym (led next back) ∙ (at_here next back ∙ is))

      on_end : (ended : Outcome MadeBlock Value) → ((next back : Next) → here next back ≡ over ended)
          → Ends outcome place stack frame state → outcome ≡ ended
      on_end ended led ([], is) = absurd (not_over ran_out outcome is)
      on_end ended led ((zero ∷ rest), is) = absurd (not_over ran_out outcome is)
      on_end ended led ((suc count ∷ rest), is) =
          let next : Next = straight outside setting table code (execute outside setting table code rest) count in
          let back : Next = execute outside setting table code rest in
          same_outcome (sym (led next back) ∙ (at_here next back ∙ is))

      on_stuck : ((next back : Next) → here next back ≡ stuck) → Ends outcome place stack frame state → ⊥
      on_stuck led ([], is) = not_over ran_out outcome is
      on_stuck led ((zero ∷ rest), is) = not_over ran_out outcome is
      on_stuck led ((suc count ∷ rest), is) =
          let next : Next = straight outside setting table code (execute outside setting table code rest) count in
          let back : Next = execute outside setting table code rest in
          not_over stuck outcome (sym (led next back) ∙ (at_here next back ∙ is))

    -- past the last instruction code never comes
    on_nothing : (outcome : Outcome MadeBlock Value) (place : ℕ) (stack : List Value) (frame : Frame)
        (state : State MadeBlock) → slice_get code place ≡ None → Ends outcome place stack frame state → ⊥
    on_nothing outcome place stack frame state at ([], is) = not_over ran_out outcome is
    on_nothing outcome place stack frame state at ((zero ∷ rest), is) = not_over ran_out outcome is
    on_nothing outcome place stack frame state at ((suc count ∷ rest), is) =
        let next : Next = straight outside setting table code (execute outside setting table code rest) count in
        let back : Next = execute outside setting table code rest in
        not_over stuck outcome (sym (ap (λ found. act outside setting table found next back place stack frame state) at) ∙ is)

  -- The machine has come so far, from where it began to carry out the code of a program.
  pub record Standing (program : ValueRun) (before : Seen) (begun : Local MadeBlock) (place : ℕ)
      (stack : List Value) (frame : Frame) (now : Seen) (local : Local MadeBlock) : Type 0 where
    pub keeps : Keeps before now
    pub ends : Ends now.setting (perform program before.setting (with_local before begun)) place stack frame
        (with_local now local)

  -- at its first instruction
  pub stands_first : (program : Frame → ValueRun) (frame : Frame) (before : Seen) (begun : Local MadeBlock)
      → Runs outside before.setting table code program
      → Standing (program frame) before begun 0 [] frame before begun
  stands_first program frame before begun runs =
      let enough = runs frame (with_local before begun) in
      record { keeps = keeps_same before; ends = (enough.0, enough.2) }

  -- The same where nothing stands on the stack.
  pub stands_empty : (program : Frame → ValueRun) (frame : Frame) (before : Seen) (begun : Local MadeBlock)
      (stack : List Value) → stack ≡ [] → Runs outside before.setting table code program
      → Standing (program frame) before begun 0 stack frame before begun
  stands_empty program frame before begun stack is runs =
      subst (λ items. Standing (program frame) before begun 0 items frame before begun) (sym is)
      (stands_first program frame before begun runs)

  -- The same where an instruction was left.
  pub stands_left : (program : ValueRun) (before : Seen) (begun : Local MadeBlock) (place : ℕ) (frame : Frame)
      {stack left : List Value} {scopes inner : List Mark} {now after : Seen} {local later : Local MadeBlock}
      → after ≡ now → left ≡ stack → inner ≡ scopes → later ≡ local
      → Standing program before begun place stack (framed scopes frame) now local
      → Standing program before begun place left (framed inner frame) after later
  stands_left program before begun place frame {stack} {left} {scopes} {inner} {now} {after} {local} {later} seen own marks
      variables standing =
      let AtSeen : Seen → Type 0 = λ one. Standing program before begun place left (framed inner frame) one later in
      let AtOwn : List Value → Type 0 = λ one. Standing program before begun place one (framed inner frame) now later in
      let AtMarks : List Mark → Type 0 = λ one. Standing program before begun place stack (framed one frame) now later in
      let AtLocal : Local MadeBlock → Type 0 = λ one. Standing program before begun place stack (framed scopes frame) now one in
      subst AtSeen (sym seen) (subst AtOwn (sym own) (subst AtMarks (sym marks) (subst AtLocal (sym variables) standing)))

  module _ (program : ValueRun) (before now after : Seen) (begun local later : Local MadeBlock) (place : ℕ)
      (stack left : List Value) (scopes inner : List Mark) (frame : Frame)
      (standing : Standing program before begun place stack (framed scopes frame) now local)
      (one : Instruction) (at : slice_get code place ≡ Some one) (keeps : Keeps now after) where
    pub stands_next : (there : ℕ)
        → AskedBy outside table one place stack scopes frame now local (Ok (asked.Goes there)) left inner after later
        → Standing program before begun there left (framed inner frame) after later
    stands_next there led =
        let outcome = perform program before.setting (with_local before begun) in
        record {
          keeps = keeps_along standing.keeps keeps;
          ends = subst (λ setting. Ends setting outcome there left (framed inner frame) (with_local after later))
              (sym keeps.setting)
              (on_next now.setting outcome one place stack (framed scopes frame) (with_local now local) at there left
              (framed inner frame) (with_local after later) led standing.ends);
        }

    pub stands_back : (there : ℕ)
        → TurnedBy outside table one place stack scopes frame now local (Ok (turn.Jumps there)) left inner after later
        → Standing program before begun there left (framed inner frame) after later
    stands_back there led =
        let outcome = perform program before.setting (with_local before begun) in
        record {
          keeps = keeps_along standing.keeps keeps;
          ends = subst (λ setting. Ends setting outcome there left (framed inner frame) (with_local after later))
              (sym keeps.setting)
              (on_back now.setting outcome one place stack (framed scopes frame) (with_local now local) at there left
              (framed inner frame) (with_local after later) led standing.ends);
        }

    pub stands_leaves : (answer : Value)
        → ((next back : Next) → act outside now.setting table (Some one) next back place stack (framed scopes frame)
        (with_local now local) ≡ over (record { end = gives answer; state = with_local after later }))
        → Ran program before begun (Ok answer) after later
    stands_leaves answer led = record {
      keeps = keeps_along standing.keeps keeps;
      ends = on_end now.setting (perform program before.setting (with_local before begun)) one place stack
          (framed scopes frame) (with_local now local) at
          (record { end = gives answer; state = with_local after later }) led standing.ends;
    }

    pub stands_stop : (ended : Stop)
        → AskedBy outside table one place stack scopes frame now local (Err ended) left inner after later
        → Ran program before begun (Err ended) after later
    stands_stop (stop.Fails fault) led = record {
      keeps = keeps_along standing.keeps keeps;
      ends = on_end now.setting (perform program before.setting (with_local before begun)) one place stack
          (framed scopes frame) (with_local now local) at
          (record { end = fails fault; state = with_local after later }) led standing.ends;
    }
    stands_stop (stop.Returns answer home) led = record {
      keeps = keeps_along standing.keeps keeps;
      ends = on_end now.setting (perform program before.setting (with_local before begun)) one place stack
          (framed scopes frame) (with_local now local) at
          (record { end = returns answer home; state = with_local after later }) led standing.ends;
    }
    stands_stop stop.NoMemory led = record { keeps = keeps_along standing.keeps keeps; ends = tt }

    pub never_stuck :
        AskedBy outside table one place stack scopes frame now local (Ok asked.Stuck) left inner after later → ⊥
    never_stuck led =
        on_stuck now.setting (perform program before.setting (with_local before begun)) one place stack
        (framed scopes frame) (with_local now local) at led standing.ends

  pub never_past : {program : ValueRun} {before now : Seen} {begun local : Local MadeBlock} {place : ℕ}
      {stack : List Value} {frame : Frame} → Standing program before begun place stack frame now local
      → slice_get code place ≡ None → ⊥
  never_past {program} {before} {now} {begun} {local} {place} {stack} {frame} standing at =
      on_nothing now.setting (perform program before.setting (with_local before begun)) place stack frame
      (with_local now local) at standing.ends

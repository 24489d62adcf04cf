-- Programs over objects, and what performing one does.
use Rattle.std.specs.Prelude.{ℕ}
use Rattle.gem_object.specs.declared.value.Value.{Value}
use Rattle.gem_world.specs.World.{Setting, World}
use Rattle.object_programs.specs.Budget.{Budget}
use Rattle.object_programs.specs.Local.{Local}
use Rattle.object_programs.specs.Atom.{Atom, Answer, says, refuses, Done, done}
use Rattle.object_programs.specs.declared.fault.Fault.{Fault}

-- How a program ends: it gives an answer, a value returns to the activation of this number, or an
-- error ends it.
pub data Ending (A : Type 0) : Type 0 where
  gives : A → Ending A
  returns : Value → ℕ → Ending A
  fails : Fault → Ending A

-- What a program changes: objects and budget by atoms alone, and what is local by `become` alone.
pub record State (B : Type 0) : Type 0 where
  pub world : World
  pub budget : Budget
  pub local : Local B

-- A program, by the type of its answer; B is the type of what a made block holds.
pub data Run (B : Type 0) : Type 0 → Type 1 where
  give : {A : Type 0} → A → Run B A
  fail : {A : Type 0} → Fault → Run B A
  return_to : {A : Type 0} → Value → ℕ → Run B A
  atom : {A : Type 0} → Atom A → Run B A
  -- it sees what is left and what is local
  seeing : {A : Type 0} → (Budget → Local B → Run B A) → Run B A
  become : Local B → Run B (Unit {0})
  -- one after the other, where the first gives an answer
  and_then : {A C : Type 0} → Run B C → (C → Run B A) → Run B A
  -- one after the other, however the first ends
  ending : {A C : Type 0} → Run B C → (Ending C → Run B A) → Run B A

-- How a program ended, and what it left.
pub record Outcome (B A : Type 0) : Type 0 where
  pub end : Ending A
  pub state : State B

abbrev pub end_of : {A : Type 0} → Answer A → Ending A
end_of (says answer) = gives answer
end_of (refuses fault) = fails fault

module _ {B : Type 0} where
  abbrev pub outcome_of : {A : Type 0} → Done A → Local B → Outcome B A
  outcome_of after local = record {
    end = end_of after.answer;
    state = record { world = after.world; budget = after.budget; local = local };
  }

  -- the second program after the first one's end; any end but an answer is kept
  abbrev pub onward : {A C : Type 0} → Ending C → State B → (C → State B → Outcome B A)
      → Outcome B A
  onward (gives answer) state second = second answer state
  onward (returns value home) state second =
      record { end = returns value home; state = state }
  onward (fails fault) state second = record { end = fails fault; state = state }

  -- what performing a program does
  abbrev pub perform : {A : Type 0} → Run B A → Setting → State B → Outcome B A
  perform (give answer) setting state = record { end = gives answer; state = state }
  perform (fail fault) setting state = record { end = fails fault; state = state }
  perform (return_to value home) setting state =
      record { end = returns value home; state = state }
  perform (atom one) setting state =
      outcome_of (done one setting state.world state.budget) state.local
  perform (seeing see) setting state = perform (see state.budget state.local) setting state
  perform (become local) setting state =
      record { end = gives tt; state = record state { local = local } }
  perform (and_then first second) setting state =
      let before = perform first setting state in
      onward before.end before.state (λ answer after. perform (second answer) setting after)
  perform (ending first second) setting state =
      let before = perform first setting state in
      perform (second before.end) setting before.state

-- Performing a program step by step, so that a step may be looked at by itself.
use Rattle.std.proofs.Common.{◌≡◌, ℕ, zero, suc, refl, sym, ap, ◌∙◌}
use Rattle.gem_meaning.specs.object_programs.Atom.{Note}
use Rattle.gem_meaning.specs.gem_update.declared.update.Update.{Update}
use Rattle.gem_meaning.specs.object_programs.Run.{Run, give, fail, return_to, atom, seeing, become, and_then, ending, Ending, gives, returns, fails, end_of}
use Rattle.gem_server.proofs.PlainWorlds.{PlainSetting, PlainWorld, plain_after_update, plain_done, PlainState, PlainOutcome, plain_onward, plain_perform}

-- what is still to be done with the end of a program
pub data Stack (B A : Type 0) : Type 0 → Type 1 where
  last : Stack B A A
  next_then : {C D : Type 0} → (C → Run B D) → Stack B A D → Stack B A C
  next_ending : {C D : Type 0} → (Ending C → Run B D) → Stack B A D → Stack B A C

pub record Config (B A : Type 0) : Type 1 where
  pub Answer : Type 0
  pub program : Run B Answer
  pub stack : Stack B A Answer
  pub state : PlainState B

abbrev ended : {B C : Type 0} → Ending C → Run B C
ended (gives answer) = give answer
ended (returns value home) = return_to value home
ended (fails fault) = fail fault

module _ {B A : Type 0} (setting : PlainSetting) where
  abbrev pub resume : {C : Type 0} → Stack B A C → Ending C → PlainState B → PlainOutcome B A
  resume last end state = record { end = end; state = state }
  resume (next_then next rest) (gives answer) state =
      let after = plain_perform (next answer) setting state in resume rest after.end after.state
  resume (next_then next rest) (returns value home) state = resume rest (returns value home) state
  resume (next_then next rest) (fails fault) state = resume rest (fails fault) state
  resume (next_ending next rest) end state =
      let after = plain_perform (next end) setting state in resume rest after.end after.state

  abbrev pub finish : Config B A → PlainOutcome B A
  finish config =
      let after = plain_perform config.program setting config.state in resume config.stack after.end after.state

  abbrev pub popped : {C : Type 0} → Stack B A C → Ending C → PlainState B → Config B A
  popped last end state = record { Answer = A; program = ended end; stack = last; state = state }
  popped (next_then {C} {D} next rest) (gives answer) state =
      record { Answer = D; program = next answer; stack = rest; state = state }
  popped (next_then {C} {D} next rest) (returns value home) state =
      record { Answer = D; program = return_to value home; stack = rest; state = state }
  popped (next_then {C} {D} next rest) (fails fault) state =
      record { Answer = D; program = fail fault; stack = rest; state = state }
  popped (next_ending {C} {D} next rest) end state =
      record { Answer = D; program = next end; stack = rest; state = state }

  abbrev step_of : {C : Type 0} → Run B C → Stack B A C → PlainState B → Config B A
  step_of (give answer) stack state = popped stack (gives answer) state
  step_of (fail fault) stack state = popped stack (fails fault) state
  step_of (return_to value home) stack state = popped stack (returns value home) state
  step_of (atom one) stack state =
      let done = plain_done one setting state.world state.budget in
      popped stack (end_of done.answer) (record { world = done.world; budget = done.budget; local = state.local })
  step_of {C} (seeing see) stack state =
      record { Answer = C; program = see state.budget state.local; stack = stack; state = state }
  step_of (become local) stack state = popped stack (gives tt) (record state { local = local })
  step_of (and_then {A = C'} {C = D} first second) stack state =
      record { Answer = D; program = first; stack = next_then second stack; state = state }
  step_of (ending {A = C'} {C = D} first second) stack state =
      record { Answer = D; program = first; stack = next_ending second stack; state = state }

  abbrev pub step : Config B A → Config B A
  step config = step_of config.program config.stack config.state

  abbrev pub steps : ℕ → Config B A → Config B A
  steps zero config = config
  steps (suc more) config = steps more (step config)

  -- ---- it is the same

  ended_is : (end : Ending A) (state : PlainState B)
      → finish (record { Answer = A; program = ended end; stack = last; state = state }) ≡ record { end = end; state = state }
  ended_is (gives answer) state = refl
  ended_is (returns value home) state = refl
  ended_is (fails fault) state = refl

  pub popped_is : {C : Type 0} (stack : Stack B A C) (end : Ending C) (state : PlainState B)
      → finish (popped stack end state) ≡ resume stack end state
  popped_is last end state = ended_is end state
  popped_is (next_then next rest) (gives answer) state = refl
  popped_is (next_then next rest) (returns value home) state = refl
  popped_is (next_then next rest) (fails fault) state = refl
  popped_is (next_ending next rest) end state = refl

  onward_is : {C D : Type 0} (second : D → Run B C) (stack : Stack B A C) (end : Ending D) (state : PlainState B)
      → resume (next_then second stack) end state
      ≡ (let after = plain_onward end state (λ answer after. plain_perform (second answer) setting after) in
      resume stack after.end after.state)
  onward_is second stack (gives answer) state = refl
  onward_is second stack (returns value home) state = refl
  onward_is second stack (fails fault) state = refl

  step_is : {C : Type 0} (program : Run B C) (stack : Stack B A C) (state : PlainState B)
      → finish (step_of program stack state) ≡ finish (record { Answer = C; program = program; stack = stack; state = state })
  step_is (give answer) stack state = popped_is stack (gives answer) state
  step_is (fail fault) stack state = popped_is stack (fails fault) state
  step_is (return_to value home) stack state = popped_is stack (returns value home) state
  step_is (atom one) stack state =
      let done = plain_done one setting state.world state.budget in
      popped_is stack (end_of done.answer) (record { world = done.world; budget = done.budget; local = state.local })
  step_is (seeing see) stack state = refl
  step_is (become local) stack state = popped_is stack (gives tt) (record state { local = local })
  step_is (and_then first second) stack state =
      let before = plain_perform first setting state in onward_is second stack before.end before.state
  step_is (ending first second) stack state = refl

  pub steps_are : (n : ℕ) (config : Config B A) → finish (steps n config) ≡ finish config
  steps_are zero config = refl
  steps_are (suc more) config = steps_are more (step config) ∙ step_is config.program config.stack config.state

  -- an update that is noted
  pub noted_is : (name : ℕ) (update : Update) (stack : Stack B A (Unit {0})) (state : PlainState B) (world : PlainWorld)
      → plain_after_update name update setting state.world ≡ world
      → finish (record { Answer = Unit {0}; program = atom (Note name update); stack = stack; state = state })
      ≡ finish (popped stack (gives tt) (record { world = world; budget = state.budget; local = state.local }))
  noted_is name update stack state world is =
      ap (λ (w : PlainWorld). resume stack (gives tt) (record { world = w; budget = state.budget; local = state.local })) is
      ∙ sym (popped_is stack (gives tt) (record { world = world; budget = state.budget; local = state.local }))

-- What holds when a program has run held before it, or began to hold in one of its moments, by a
-- write that was allowed.
use Rattle.std.proofs.Common.{◌≡◌, ℕ, ◌≤◌, true, ◌⊎◌, inl, inr, ⊎_elim, List, [], ◌∷◌, ◌++◌, Option, Some, refl, arith}
use Rattle.gem_meaning.specs.gem_world.World.{Setting, World}
use Rattle.gem_meaning.specs.gem_world.Access.{Access, a_write, is_allowed}
use Rattle.gem_meaning.specs.object_programs.Budget.{Budget}
use Rattle.gem_meaning.specs.object_programs.Atom.{Atom, done}
use Rattle.gem_meaning.specs.object_programs.Run.{Run, give, fail, return_to, atom, seeing, become, and_then, ending, Ending, gives, returns, fails, State, onward, perform}
use Rattle.gem_meaning.specs.object_programs.Laws.{Falls}
use Rattle.gem_meaning.proofs.object_programs_lemmas.Kept.{kept}
use Rattle.gem_meaning.proofs.object_programs_lemmas.Falling as falling
use Rattle.gem_meaning.specs.gem_language.Commands.{Command, command_reply}
use Rattle.gem_meaning.specs.gem_language.Transaction.{begin_command, command_outcome, transaction}
use Rattle.gem_meaning.proofs.commit_check_lemmas.Members.{IsOneOf, in_first, in_second}
use Rattle.history_laws.specs.Accesses.{Moment, asked_by, moments_onward, moments, moments_of, command_moments}

-- a write of the name is asked for, and allowed
abbrev pub IsWrite : ℕ → Setting → Option (Access × ℕ) → World → Type 0
IsWrite name setting asked world =
    (asked ≡ Some (a_write, name)) × (is_allowed a_write name setting world ≡ true)

-- in one of the moments such a write came, before which this didn't hold, and after which it did
abbrev pub HadWrite : ℕ → (World → Type 0) → Setting → List Moment → Type 0
HadWrite name Has setting passed = (moment : Moment) × IsOneOf moment passed
    × IsWrite name setting moment.asked moment.world × (Has moment.world → ⊥) × Has moment.after

write_first : (name : ℕ) (Has : World → Type 0) (setting : Setting) (first rest : List Moment)
    → HadWrite name Has setting first → HadWrite name Has setting (first ++ rest)
write_first name Has setting first rest had =
    (had.0, in_first had.0 first rest had.1, had.2, had.3, had.4)

write_later : (name : ℕ) (Has : World → Type 0) (setting : Setting) (first rest : List Moment)
    → HadWrite name Has setting rest → HadWrite name Has setting (first ++ rest)
write_later name Has setting first rest had =
    (had.0, in_second had.0 first rest had.1, had.2, had.3, had.4)

-- What holds of a world after an atom held before it, or the atom is such a write. Whether it holds
-- can be told.
pub record Gains (name : ℕ) (setting : Setting) (Has : World → Type 0) : Type 1 where
  pub step : {A : Type 0} (one : Atom A) (world : World) (budget : Budget)
      → setting.first ≤ world.next → Has (done one setting world budget).world
      → Has world ⊎ IsWrite name setting (asked_by one) world
  pub told : (world : World) → Has world ⊎ (Has world → ⊥)

module _ (name : ℕ) (setting : Setting) (Has : World → Type 0) (law : Gains name setting Has) where
  module _ {B : Type 0} where
    onward_gains : {A C : Type 0} (end : Ending C) (before : State B) (world : World)
        (passed : List Moment) (second : C → Run B A)
        → (Has before.world → Has world ⊎ HadWrite name Has setting passed)
        → ((answer : C) → Has (perform (second answer) setting before).state.world
        → Has before.world ⊎ HadWrite name Has setting (moments (second answer) setting before))
        → Has (onward end before (λ answer after. perform (second answer) setting after)).state.world
        → Has world ⊎ HadWrite name Has setting (passed
        ++ moments_onward end before (λ answer after. moments (second answer) setting after))
    onward_gains (gives answer) before world passed second first next has = ⊎_elim
        (λ earlier. ⊎_elim inl
        (λ had. inr (write_first name Has setting passed (moments (second answer) setting before) had))
        (first earlier))
        (λ had. inr (write_later name Has setting passed (moments (second answer) setting before) had))
        (next answer has)
    onward_gains (returns value home) before world passed second first next has =
        ⊎_elim inl (λ had. inr (write_first name Has setting passed [] had)) (first has)
    onward_gains (fails fault) before world passed second first next has =
        ⊎_elim inl (λ had. inr (write_first name Has setting passed [] had)) (first has)

    begun_later : {A : Type 0} (program : Run B A) (state : State B) → setting.first ≤ state.world.next
        → setting.first ≤ (perform program setting state).state.world.next
    begun_later program state begun =
        let falls = kept setting Falls (falling.budgets_fall setting) program state in
        let grows = falls.next in
        omega (arith, begun, grows)

    gains : {A : Type 0} (program : Run B A) (state : State B) → setting.first ≤ state.world.next
        → Has (perform program setting state).state.world
        → Has state.world ⊎ HadWrite name Has setting (moments program setting state)
    gains (give answer) state begun has = inl has
    gains (fail fault) state begun has = inl has
    gains (return_to value home) state begun has = inl has
    gains (atom one) state begun has =
        let after = (done one setting state.world state.budget).world in
        let moment : Moment
        = record { world = state.world; asked = asked_by one; after = after } in
        ⊎_elim inl
        (λ write. ⊎_elim inl (λ not. inr (moment, inl refl, write, not, has)) (law.told state.world))
        (law.step one state.world state.budget begun has)
    gains (seeing see) state begun has = gains (see state.budget state.local) state begun has
    gains (become local) state begun has = inl has
    gains (and_then first second) state begun has =
        let before = perform first setting state in
        onward_gains before.end before.state state.world (moments first setting state) second
        (gains first state begun)
        (λ answer. gains (second answer) before.state (begun_later first state begun)) has
    gains (ending first second) state begun has =
        let before = perform first setting state in
        let passed = moments first setting state in
        let rest = moments (second before.end) setting before.state in
        ⊎_elim
        (λ earlier. ⊎_elim inl (λ had. inr (write_first name Has setting passed rest had))
        (gains first state begun earlier))
        (λ had. inr (write_later name Has setting passed rest had))
        (gains (second before.end) before.state (begun_later first state begun) has)

  pub gains_all : (commands : List Command) (world : World) → setting.first ≤ world.next
      → Has (transaction commands setting world).world
      → Has world ⊎ HadWrite name Has setting (command_moments commands setting world)
  gains_all [] world begun has = inl has
  gains_all (command ∷ rest) world begun has =
      let between = (command_outcome command setting world).state.world in
      let passed = moments_of command setting world in
      let more = command_moments rest setting between in
      ⊎_elim
      (λ earlier. ⊎_elim inl (λ had. inr (write_first name Has setting passed more had))
      (gains (command_reply command) (begin_command world) begun earlier))
      (λ had. inr (write_later name Has setting passed more had))
      (gains_all rest between (begun_later (command_reply command) (begin_command world) begun) has)

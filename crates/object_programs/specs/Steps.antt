-- Commands of the first order, and the program of a list of them: laws are stated of all these.
use Rattle.std.specs.Prelude.{ℕ, List, [], ◌∷◌}
use Rattle.gem_object.specs.texts.Bytes.{Bytes as Text}
use Rattle.gem_object.specs.declared.body.Body.{Body}
use Rattle.gem_world.specs.gem_update.declared.update.Update.{Update}
use Rattle.gem_world.specs.gem_image.Image.{Contents}
use Rattle.gem_world.specs.World.{Setting, World}
use Rattle.object_programs.specs.Budget.{Budget}
use Rattle.object_programs.specs.Local.{nothing}
use Rattle.object_programs.specs.Atom.{Own, Made, Who, Put, Move, Note, Names, Tick, Room, Show}
use Rattle.object_programs.specs.Run.{Run, give, atom, and_then, Outcome, perform}
use Rattle.object_programs.specs.Programs.{read, write, known, make_objects, replace_body, update}
use Rattle.object_programs.specs.declared.fault.Fault.TheVariants as fault

-- A command.
pub data Step : Type 0 where
  -- the object of this name is read, or written
  reading : ℕ → Step
  writing : ℕ → Step
  -- the user's profile is looked at
  looking : Step
  -- its fixed part is asked for
  knowing : ℕ → Step
  -- it is asked whether it was made in the transaction
  asking : ℕ → Step
  -- the user's name is asked for
  calling : Step
  -- it gets this body, or lies in this segment
  putting : (growth name : ℕ) → Body → Step
  moving : (name segment : ℕ) → Step
  -- it is updated
  updating : (growth name : ℕ) → Update → Step
  -- the same, but it isn't written before: a body is put, it is moved, it is updated
  placing : ℕ → Body → Step
  shifting : (name segment : ℕ) → Step
  noting : ℕ → Update → Step
  -- so many names are to be had
  naming : ℕ → Step
  -- these objects are made
  making : (ℕ → List Contents) → Step
  -- a unit is spent, and so much space
  spending : Step
  taking : ℕ → Step
  -- this text comes on the transcript
  showing : Text → Step

module _ {B : Type 0} where
  -- a program without its answer
  abbrev pub only : {A : Type 0} → Run B A → Run B (Unit {0})
  only program = and_then program (λ answer. give tt)

  -- the program of a command
  abbrev pub step_program : Step → Run B (Unit {0})
  step_program (reading name) = only (read name)
  step_program (writing name) = only (write name)
  step_program looking = only (atom Own)
  step_program (knowing name) = only (known fault.ArgumentKind name)
  step_program (asking name) = only (atom (Made name))
  step_program calling = only (atom Who)
  step_program (putting growth name body) =
      and_then (write name) (λ object. replace_body growth name object body)
  step_program (moving name segment) = and_then (write name) (λ object. atom (Move name segment))
  step_program (updating growth name change) =
      and_then (write name) (λ object. update fault.KeyAbsent growth name object change)
  step_program (placing name body) = atom (Put name body)
  step_program (shifting name segment) = atom (Move name segment)
  step_program (noting name change) = atom (Note name change)
  step_program (naming count) = atom (Names count)
  step_program (making objects_at) = only (make_objects objects_at)
  step_program spending = atom Tick
  step_program (taking slots) = atom (Room slots)
  step_program (showing text) = atom (Show text)

  -- the program of a list of commands, which ends with the first error
  abbrev pub steps_program : List Step → Run B (Unit {0})
  steps_program [] = give tt
  steps_program (step ∷ rest) = and_then (step_program step) (λ done. steps_program rest)

-- what performing them does
abbrev pub after_steps : List Step → Setting → World → Budget → Outcome (Unit {0}) (Unit {0})
after_steps steps setting world budget = perform (steps_program steps) setting
    (record { world = world; budget = budget; local = nothing (Unit {0}) })

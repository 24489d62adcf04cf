use Rattle.std.proofs.Common.{◌≡◌, ◌⊎◌, true, List, inl, inr, ℕ}
use Rattle.gem_world.specs.World.{Setting, World, is_made}
use Rattle.object_programs.specs.Budget.{Budget}
use Rattle.object_programs.specs.Local.{nothing}
use Rattle.object_programs.specs.Run.{State}
use Rattle.object_programs.specs.Steps.{Step}
use Rattle.object_programs.specs.Laws.{MightWrite}
use Rattle.object_programs.proofs.Written.{Had, steps_add}
use Rattle.object_programs.proofs.laws.written_or_made.Goals as goal

abbrev begin : World → Budget → State (Unit {0})
begin world budget = record { world = world; budget = budget; local = nothing (Unit {0}) }

might : (name : ℕ) (steps : List Step) (setting : Setting) (world after : World) (budget : Budget)
    → (is_made name setting after ≡ true) ⊎ Had setting name steps (begin world budget)
    → (is_made name setting after ≡ true) ⊎ MightWrite name steps setting world budget
might name steps setting world after budget (inl made) = inl made
might name steps setting world after budget (inr had) =
    inr (record { before = had.0; step = had.1; rest = had.2; are = had.3; allowed = had.4 })

pub returns : goal.returns
returns c steps setting world budget name begun none some =
    might name steps setting world _ budget (steps_add setting name steps (begin world budget) begun none some)

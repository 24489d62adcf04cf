-- What holds of all programs holds of lists of commands.
use Rattle.std.proofs.Common.{arith, ◌≡◌, ◌∙◌, refl, ap, List, [], ◌∷◌, ◌++◌, ◌≤◌, ◌+◌, ◌*◌, length}
use Rattle.object_programs.specs.gem_image.Image.{Image}
use Rattle.object_programs.specs.gem_world.World.{Setting, World}
use Rattle.object_programs.specs.declared.limits.TheConstants.{SPACE_LIMIT}
use Rattle.object_programs.specs.Budget.{whole_budget}
use Rattle.object_programs.specs.Laws.{rebased, Stays, AgreeOnTouched, Falls}
use Rattle.object_programs.proofs.Kept.{Kept, kept}
use Rattle.object_programs.proofs.Falling.{GrowTouches, touches_stay}
use Rattle.object_programs.proofs.Falling as falling
use Rattle.object_programs.proofs.Frame as frames
use Rattle.gem_language.specs.Commands.{Command, command_reply}
use Rattle.gem_language.specs.Transaction.{begin_command, command_outcome, said_of, said_before, transaction, after_both}

module _ (setting : Setting) (R : World → World → Type 0) (law : Kept setting (λ world budget later left. R world later)) where
  -- what every program keeps of worlds every list of commands keeps
  pub listed : (commands : List Command) (world : World) → R world (transaction commands setting world).world
  listed [] world = law.same world whole_budget
  listed (command ∷ rest) world =
      let after = (command_outcome command setting world).state in
      law.along world whole_budget after.world after.budget (transaction rest setting after.world).world after.budget
      (kept setting (λ w b later left. R w later) law (command_reply command) (begin_command world))
      (listed rest after.world)

-- the budget of one command
pub falls : (command : Command) (setting : Setting) (world : World)
    → Falls world whole_budget (command_outcome command setting world).state.world
    (command_outcome command setting world).state.budget
falls command setting world =
    kept setting Falls (falling.budgets_fall setting) (command_reply command) (begin_command world)

-- names are drawn one after the other, and each takes space
pub next_grows : (commands : List Command) (setting : Setting) (world : World)
    → world.next ≤ (transaction commands setting world).world.next
next_grows [] setting world = omega arith
next_grows (command ∷ rest) setting world =
    let first = (falls command setting world).next in
    let later = next_grows rest setting (command_outcome command setting world).state.world in
    omega (arith, first, later)

pub few_drawn : (commands : List Command) (setting : Setting) (world : World)
    → (transaction commands setting world).world.next ≤ world.next + SPACE_LIMIT * length commands
few_drawn [] setting world = omega arith
few_drawn (command ∷ rest) setting world =
    let first = (falls command setting world).drawn in
    let later = few_drawn rest setting (command_outcome command setting world).state.world in
    omega (arith, first, later)

-- the same at another place
module _ (setting : Setting) (other : Image) (stays : Stays setting.place other) where
  pub frame : (commands : List Command) (world : World)
      → AgreeOnTouched setting.place other (transaction commands setting world).world
      → transaction commands (rebased other setting) world ≡ transaction commands setting world
  frame [] world agree = refl
  frame (command ∷ rest) world agree =
      let outcome = command_outcome command setting world in
      let grows = listed setting GrowTouches (touches_stay setting) rest outcome.state.world in
      ap (λ done. said_before (said_of done) (transaction rest (rebased other setting) done.state.world))
      (frames.frame setting other stays (command_reply command) (begin_command world)
      (λ name here. agree name (grows name here)))
      ∙ ap (said_before (said_of outcome)) (frame rest outcome.state.world agree)

-- commands go on where those before them ended
pub goes_on : (first rest : List Command) (setting : Setting) (world : World)
    → transaction (first ++ rest) setting world
    ≡ after_both (transaction first setting world) (transaction rest setting (transaction first setting world).world)
goes_on [] rest setting world = refl
goes_on (command ∷ first) rest setting world =
    let outcome = command_outcome command setting world in
    ap (said_before (said_of outcome)) (goes_on first rest setting outcome.state.world)

-- What a list of commands does in a transaction: each begins with a whole budget and with nothing
-- local, on the objects that those before it left.
use Rattle.std.specs.Prelude.{List, [], ◌∷◌, ◌++◌}
use Rattle.gem_object.specs.texts.Bytes.{Bytes as Text}
use Rattle.object_programs.specs.gem_world.World.{Setting, World}
use Rattle.object_programs.specs.Budget.{whole_budget}
use Rattle.object_programs.specs.Local.{nothing}
use Rattle.object_programs.specs.Run.{State, Outcome, perform}
use Rattle.tree_meaning.specs.Place.{MadeBlock}
use Rattle.gem_language.specs.Commands.{Command, Reply, command_reply, reply_of}

-- What is said of a command: what it wrote on the transcript, and its reply.
pub record Said : Type 0 where
  pub shown : Text
  pub reply : Reply

-- where a command begins
abbrev pub begin_command : World → State MadeBlock
begin_command world =
    record { world = world; budget = whole_budget; local = nothing MadeBlock }

-- how a command ends, and what it leaves
abbrev pub command_outcome : Command → Setting → World → Outcome MadeBlock Reply
command_outcome command setting world =
    perform (command_reply command) setting (begin_command world)

abbrev pub said_of : Outcome MadeBlock Reply → Said
said_of outcome =
    record { shown = outcome.state.budget.text; reply = reply_of outcome.end }

-- What a list of commands says, one after the other, and the objects that it leaves.
pub record Transaction : Type 0 where
  pub said : List Said
  pub world : World

-- the commands after the first one, whose outcome this is
abbrev pub said_before : Said → Transaction → Transaction
said_before said rest = record { said = said ∷ rest.said; world = rest.world }

abbrev pub transaction : List Command → Setting → World → Transaction
transaction [] setting world = record { said = []; world = world }
transaction (command ∷ rest) setting world =
    let outcome = command_outcome command setting world in
    said_before (said_of outcome) (transaction rest setting outcome.state.world)

-- two lists of commands one after the other, by what each says and leaves
abbrev pub after_both : (first rest : Transaction) → Transaction
after_both first rest = record { said = first.said ++ rest.said; world = rest.world }

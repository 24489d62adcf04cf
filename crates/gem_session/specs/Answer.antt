-- What a session answers to one command, and what a chunk or a method comes to.
use Rattle.std.specs.Prelude.{◌≡◌, List, [], ◌∷◌, ◌++◌, Option, Some, None, Result}
use Rattle.std.specs.declared.alloc.AllocError.{AllocError}
use Rattle.gem_object.specs.texts.Bytes.{Bytes as Text}
use Rattle.st_commands.specs.declared.reply.Reply.{Reply as PlainReply}
use Rattle.st_commands.specs.declared.reply.Reply.TheVariants.{NotRead, Failed, Ran, Printed, Installed}
use Rattle.gem_replies.specs.declared.reply.Line.{Line}
use Rattle.gem_replies.specs.declared.reply.Line.TheVariants as line
use Rattle.gem_meaning.specs.gem_language.Commands.{Command as ObjectCommand}
use Rattle.gem_meaning.specs.gem_language.Transaction.{command_outcome}
use Rattle.gem_meaning.specs.Lines.{error_line}
use Rattle.gem_meaning.specs.Runs.{lines_in}
use Rattle.running_objects.specs.Seen.{Seen}
use Rattle.st_commands.specs.Replies.{Replied}
use Rattle.session_view.specs.declared.view.View.{View}
use Rattle.gem_session.specs.declared.answer.Answer.{Answer}

-- the line of what was written on the transcript, if something was
abbrev pub shown_line : Option Text → List Line
shown_line None = []
shown_line (Some text) = line.Show text ∷ []

-- the lines of an answer
abbrev pub lines_of : Answer → List Line
lines_of answer = shown_line answer.shown ++ answer.line ∷ []

-- the line of what the evaluator replied
abbrev pub evaluated_line : PlainReply → Line
evaluated_line (NotRead at rule) = line.Parse at rule
evaluated_line (Failed fault) = error_line fault
evaluated_line Ran = line.Ran
evaluated_line (Printed text) = line.Printed text
evaluated_line (Installed selector) = line.Method selector

-- A command on objects ran from what was seen before: these are its lines, and it left these
-- objects.
pub record Meant (command : ObjectCommand) (before : Seen) (lines : List Line) (after : Seen)
    : Type 0 where
  pub lines_are : lines ≡ lines_in command before.setting before.world
  pub setting : after.setting ≡ before.setting
  pub world : after.world
      ≡ (command_outcome command before.setting before.world).state.world

abbrev pub MeantBy : Option ObjectCommand → Seen → List Line → Seen → Type 0
MeantBy None before lines after = ⊥
MeantBy (Some command) before lines after = Meant command before lines after

-- the evaluator replied so to a command on objects, with the budget at hand
abbrev pub EvaluatedBy : Option ObjectCommand → View → Result PlainReply AllocError
    → View → Type 0
EvaluatedBy None before result after = ⊥
EvaluatedBy (Some command) before result after =
    Replied command before.state.seen result after.state.seen

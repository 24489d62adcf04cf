-- What the reply of the evaluator says of a command.
use Rattle.std.specs.Prelude.{◌≡◌, Option, None, Some, Result, Ok, Err, IfOk, alloc_error}
use Rattle.std.specs.declared.alloc.AllocError.{AllocError}
use Rattle.gem_object.specs.texts.Bytes.{Bytes as Text}
use Rattle.object_programs.specs.st_grammar.Fails.{rule_number}
use Rattle.object_programs.specs.Local.{nothing}
use Rattle.object_programs.specs.Run.{Outcome, perform}
use Rattle.object_programs.specs.declared.fault.Fault.TheVariants as fault
use Rattle.gem_language.specs.tree_meaning.Place.{MadeBlock}
use Rattle.gem_language.specs.Commands.{Command, Reply, not_read, failed, ran, printed, installed, ReplyRun, command_reply, reply_of}
use Rattle.running_objects.specs.Seen.{Seen, with_local, Keeps}
use Rattle.running_objects.specs.declared.stop.Stop.{Stop}
use Rattle.running_objects.specs.declared.stop.Stop.TheVariants as stop
use Rattle.st_parser.specs.declared.faults.ParseFault.{ParseFault}
use Rattle.st_parser.specs.declared.faults.ParseFault.TheVariants.{Rule, NoMemory}
use Rattle.st_commands.specs.declared.reply.Reply.{Reply as PlainReply}
use Rattle.st_commands.specs.declared.reply.Reply.TheVariants.{NotRead, Failed, Ran, Printed, Installed}

-- a reply, as the evaluator gives it
abbrev pub shown : Reply → PlainReply
shown (not_read wrong) = NotRead wrong.place (rule_number wrong.rule)
shown (failed wrong) = Failed wrong
shown ran = Ran
shown (printed text) = Printed text
shown (installed selector) = Installed selector

-- the reply to a text without a tree, unless memory ran out
abbrev pub not_read_by : ParseFault → Result PlainReply AllocError
not_read_by (Rule place rule) = Ok (NotRead place rule)
not_read_by NoMemory = Err alloc_error

-- What a command comes to whose program ended so, unless memory ran out.
abbrev pub told : Result Reply Stop → Result PlainReply AllocError
told (Ok reply) = Ok (shown reply)
told (Err (stop.Fails wrong)) = Ok (Failed wrong)
told (Err (stop.Returns answer home)) = Ok (Failed fault.DeadHome)
told (Err stop.NoMemory) = Err alloc_error

-- the end of a chunk, by what is printed of its value
abbrev pub reply_of_print : Option Text → Reply
reply_of_print None = ran
reply_of_print (Some text) = printed text

abbrev pub said : Result (Option Text) Stop → Result Reply Stop
said (Ok print) = Ok (reply_of_print print)
said (Err ended) = Err ended

-- the end of an installation, by the selector
abbrev pub got : Result Text Stop → Result Reply Stop
got (Ok selector) = Ok (installed selector)
got (Err ended) = Err ended

-- The reply tells the outcome of a command, and these objects and this budget are those that it
-- leaves.
pub record Tells (outcome : Outcome MadeBlock Reply) (reply : PlainReply) (after : Seen)
    : Type 0 where
  pub told_by : reply ≡ shown (reply_of outcome.end)
  pub world : outcome.state.world ≡ after.world
  pub budget : outcome.state.budget ≡ after.budget

-- A command's program was performed with nothing local, from what was seen before, and was replied
-- to so. Where memory ran out only `keeps` is known.
pub record RepliedBy (program : ReplyRun) (before : Seen) (result : Result PlainReply AllocError)
    (after : Seen) : Type 0 where
  pub keeps : Keeps before after
  pub tells : IfOk result (λ reply.
      Tells (perform program before.setting (with_local before (nothing MadeBlock))) reply after)

abbrev pub Replied : Command → Seen → Result PlainReply AllocError → Seen → Type 0
Replied command before result after = RepliedBy (command_reply command) before result after

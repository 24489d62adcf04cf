-- The lines of what the evaluator replied.
use Rattle.std.proofs.Common.{◌≡◌, ◌∙◌, refl, sym, ap, List, [], ◌∷◌, ◌++◌, Option, Some, None, Ok, ℕ, append-nil, append_assoc}
use Rattle.gem_object.specs.texts.Bytes.{Bytes as Text}
use Rattle.gem_replies.specs.declared.reply.Line.{Line}
use Rattle.gem_replies.specs.declared.reply.Line.TheVariants.{Show}
use Rattle.gem_replies.specs.declared.reply.Reply.{Reply as LineReply}
use Rattle.gem_meaning.specs.Session.{reply_with, replies_with}
use Rattle.gem_meaning.specs.gem_language.Commands.{Command as ObjectCommand, Reply, not_read, failed, ran, printed, installed, reply_of}
use Rattle.gem_meaning.specs.gem_language.Transaction.{command_outcome}
use Rattle.running_objects.specs.object_programs.Budget.{Budget}
use Rattle.running_objects.specs.Seen.{Seen, with_whole_budget}
use Rattle.st_commands.specs.declared.reply.Reply.{Reply as PlainReply}
use Rattle.st_commands.specs.Replies.{shown, Replied}
use Rattle.gem_meaning.specs.Lines.{reply_line, show_lines}
use Rattle.gem_session.specs.Answer.{shown_line, evaluated_line, Meant}

-- the line of a reply, as the evaluator gives it
pub line_of_reply : (reply : Reply) → evaluated_line (shown reply) ≡ reply_line reply
line_of_reply (not_read fault) = refl
line_of_reply (failed fault) = refl
line_of_reply ran = refl
line_of_reply (printed text) = refl
line_of_reply (installed selector) = refl

-- a command that was replied to with a whole budget
pub meant_by : (command : ObjectCommand) (before after : Seen) (reply : PlainReply) (lines : List Line)
    → Replied command (with_whole_budget before) (Ok reply) after
    → lines ≡ show_lines after.budget.text ++ evaluated_line reply ∷ []
    → Meant command before lines after
meant_by command before after reply lines replied is =
    let outcome = command_outcome command before.setting before.world in
    let tells = replied.tells in
    let told : evaluated_line reply ≡ reply_line (reply_of outcome.end) =
    ap evaluated_line tells.told_by ∙ line_of_reply (reply_of outcome.end) in
    record {
      lines_are = is ∙ ap (λ line. show_lines after.budget.text ++ line ∷ []) told
          ∙ ap (λ (text : Text). show_lines text ++ reply_line (reply_of outcome.end) ∷ []) (ap (λ (b : Budget). b.text) (sym tells.budget));
      setting = replied.keeps.setting;
      world = sym tells.world;
    }

-- the replies to a command behind others: what was written, and how it ended
pub pushed : (command : ℕ) (old : List LineReply) (shown : Option Text) (line : Line)
    → (old ++ replies_with command (shown_line shown)) ++ reply_with command line ∷ [] ≡ old ++ replies_with command (shown_line shown ++ line ∷ [])
pushed command old None line = ap (λ (xs : List LineReply). xs ++ reply_with command line ∷ []) (append-nil old)
pushed command old (Some text) line = append_assoc old (reply_with command (Show text) ∷ []) (reply_with command line ∷ [])

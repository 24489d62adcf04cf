-- What the run of a command's program makes of the reply.
use Rattle.std.proofs.Common.{◌≡◌, refl, sym, subst, ℕ, Bool, Result, Ok, Err}
use Rattle.std.specs.Prelude.{alloc_error}
use Rattle.std.specs.declared.alloc.AllocError.{AllocError}
use Rattle.gem_object.specs.texts.Bytes.{Bytes as Text}
use Rattle.st_tree.specs.Trees.{Program}
use Rattle.object_programs.specs.st_grammar.Grammar.{chunk, method}
use Rattle.object_programs.specs.st_grammar.Fails.{rule_number}
use Rattle.object_programs.specs.st_grammar_laws.TreeOf.{TextFault, tree_of}
use Rattle.object_programs.specs.Local.{Local, nothing}
use Rattle.object_programs.specs.Run.{Outcome, gives, fails, returns, perform}
use Rattle.gem_language.specs.tree_meaning.Place.{MadeBlock}
use Rattle.gem_language.specs.Commands.{run_chunk, install_method, Reply, ReplyRun, reply_by, chunk_reply, method_reply, command_reply, reply_of}
use Rattle.running_objects.specs.Seen.{Seen, with_local}
use Rattle.running_objects.specs.Ran.{Ran}
use Rattle.running_objects.specs.declared.stop.Stop.{Stop}
use Rattle.running_objects.specs.declared.stop.Stop.TheVariants as stop
use Rattle.running_objects.proofs.Running.{keeps_same}
use Rattle.st_commands.specs.declared.reply.Reply.{Reply as PlainReply}
use Rattle.st_commands.specs.declared.reply.Reply.TheVariants.{NotRead}
use Rattle.st_commands.specs.Replies.{shown, not_read_by, told, Tells, RepliedBy, Replied}
use Rattle.st_parser.specs.Parsed.{IsTree, IsFault}
use Rattle.st_parser.specs.declared.faults.ParseFault.TheVariants.{Rule, NoMemory}
use Rattle.st_parser.specs.declared.faults.ParseFault.{ParseFault}

-- an outcome that is known tells its reply
tells_by : (outcome known : Outcome MadeBlock Reply) (after : Seen)
    → outcome ≡ known → Tells known (shown (reply_of known.end)) after → Tells outcome (shown (reply_of known.end)) after
tells_by outcome known after same tells =
    let At : Outcome MadeBlock Reply → Type 0 = λ one. Tells one (shown (reply_of known.end)) after in
    subst At (sym same) tells

-- The reply to what ran.
pub replied : (program : ReplyRun) (ended : Result Reply Stop) (result : Result PlainReply AllocError) {before after : Seen}
    {later : Local MadeBlock} → Ran program before (nothing MadeBlock) ended after later → result ≡ told ended
    → RepliedBy program before result after
replied program (Ok reply) result {before} {after} {later} ran is =
    let At : Result PlainReply AllocError → Type 0 = λ one. RepliedBy program before one after in
    subst At (sym is) (record {
      keeps = ran.keeps;
      tells = tells_by (perform program before.setting (with_local before (nothing MadeBlock)))
          (record { end = gives reply; state = with_local after later }) after ran.ends
          (record { told_by = refl; world = refl; budget = refl });
    })
replied program (Err (stop.Fails wrong)) result {before} {after} {later} ran is =
    let At : Result PlainReply AllocError → Type 0 = λ one. RepliedBy program before one after in
    subst At (sym is) (record {
      keeps = ran.keeps;
      tells = tells_by (perform program before.setting (with_local before (nothing MadeBlock)))
          (record { end = fails wrong; state = with_local after later }) after ran.ends
          (record { told_by = refl; world = refl; budget = refl });
    })
replied program (Err (stop.Returns answer home)) result {before} {after} {later} ran is =
    let At : Result PlainReply AllocError → Type 0 = λ one. RepliedBy program before one after in
    subst At (sym is) (record {
      keeps = ran.keeps;
      tells = tells_by (perform program before.setting (with_local before (nothing MadeBlock)))
          (record { end = returns answer home; state = with_local after later }) after ran.ends
          (record { told_by = refl; world = refl; budget = refl });
    })
replied program (Err stop.NoMemory) result {before} {after} {later} ran is =
    let At : Result PlainReply AllocError → Type 0 = λ one. RepliedBy program before one after in
    subst At (sym is) (record { keeps = ran.keeps; tells = tt })

-- where memory ran out before anything was done
pub replied_nothing : (program : ReplyRun) (seen : Seen) (wrong : AllocError) → RepliedBy program seen (Err wrong) seen
replied_nothing program seen wrong = record { keeps = keeps_same seen; tells = tt }

-- a text that has a tree, and one that has none
by_tree : (reply : Program → ReplyRun) (read : Result Program TextFault) (tree : Program) {before after : Seen}
    {result : Result PlainReply AllocError} → read ≡ Ok tree → RepliedBy (reply tree) before result after
    → RepliedBy (reply_by reply read) before result after
by_tree reply read tree {before} {after} {result} is said =
    let At : Result Program TextFault → Type 0 = λ one. RepliedBy (reply_by reply one) before result after in
    subst At (sym is) said

by_fault : (reply : Program → ReplyRun) (read : Result Program TextFault) (fault : TextFault) (seen : Seen)
    → read ≡ Err fault → RepliedBy (reply_by reply read) seen (Ok (NotRead fault.place (rule_number fault.rule))) seen
by_fault reply read fault seen is =
    let At : Result Program TextFault → Type 0 =
    λ one. RepliedBy (reply_by reply one) seen (Ok (NotRead fault.place (rule_number fault.rule))) seen in
    subst At (sym is) (record { keeps = keeps_same seen; tells = record { told_by = refl; world = refl; budget = refl } })

-- A chunk by its tree.
pub chunk_read : (prints : Bool) (text bytes : Text) (tree : Program) {before after : Seen} {result : Result PlainReply AllocError}
    → bytes ≡ text → IsTree chunk bytes tree → RepliedBy (chunk_reply prints tree) before result after
    → Replied (run_chunk prints text) before result after
unfolding command_reply
chunk_read prints text bytes tree {before} {after} {result} same is said =
    let At : Text → Type 0 = λ one. Replied (run_chunk prints one) before result after in
    subst At same (by_tree (chunk_reply prints) (tree_of chunk bytes) tree is.is said)

pub chunk_not_read : (prints : Bool) (text bytes : Text) (fault : ParseFault) (seen : Seen) {result : Result PlainReply AllocError}
    → bytes ≡ text → IsFault chunk bytes fault → result ≡ not_read_by fault → Replied (run_chunk prints text) seen result seen
unfolding command_reply
chunk_not_read prints text bytes (Rule place rule) seen {result} same (broken, is, there) is_reply =
    let At : Text → Type 0 = λ one. Replied (run_chunk prints one) seen (Ok (NotRead place rule)) seen in
    let AtRule : ℕ → Type 0 = λ number. Replied (run_chunk prints bytes) seen (Ok (NotRead place number)) seen in
    let AtReply : Result PlainReply AllocError → Type 0 = λ one. Replied (run_chunk prints text) seen one seen in
    subst AtReply (sym is_reply) (subst At same (subst AtRule (sym is)
    (by_fault (chunk_reply prints) (tree_of chunk bytes) (record { place = place; rule = broken }) seen there.is)))
chunk_not_read prints text bytes NoMemory seen {result} same nothing_known is_reply =
    let AtReply : Result PlainReply AllocError → Type 0 = λ one. Replied (run_chunk prints text) seen one seen in
    subst AtReply (sym is_reply) (replied_nothing (command_reply (run_chunk prints text)) seen alloc_error)

-- A method by its tree.
pub method_read : (class_side : Bool) (class source bytes : Text) (tree : Program) {before after : Seen}
    {result : Result PlainReply AllocError} → bytes ≡ source → IsTree method bytes tree
    → RepliedBy (method_reply class_side class source tree) before result after
    → Replied (install_method class_side class source) before result after
unfolding command_reply
method_read class_side class source bytes tree same is said =
    let At : Text → Type 0 = λ one. tree_of method one ≡ Ok tree in
    by_tree (method_reply class_side class source) (tree_of method source) tree (subst At same is.is) said

pub method_not_read : (class_side : Bool) (class source bytes : Text) (fault : ParseFault) (seen : Seen)
    {result : Result PlainReply AllocError} → bytes ≡ source → IsFault method bytes fault → result ≡ not_read_by fault
    → Replied (install_method class_side class source) seen result seen
unfolding command_reply
method_not_read class_side class source bytes (Rule place rule) seen {result} same (broken, is, there) is_reply =
    let At : Text → Type 0 = λ one. Replied (install_method class_side class one) seen (Ok (NotRead place rule)) seen in
    let AtRule : ℕ → Type 0 = λ number. Replied (install_method class_side class bytes) seen (Ok (NotRead place number)) seen in
    let AtReply : Result PlainReply AllocError → Type 0 = λ one. Replied (install_method class_side class source) seen one seen in
    subst AtReply (sym is_reply) (subst At same (subst AtRule (sym is)
    (by_fault (method_reply class_side class bytes) (tree_of method bytes) (record { place = place; rule = broken }) seen there.is)))
method_not_read class_side class source bytes NoMemory seen {result} same nothing_known is_reply =
    let AtReply : Result PlainReply AllocError → Type 0 = λ one. Replied (install_method class_side class source) seen one seen in
    subst AtReply (sym is_reply) (replied_nothing (command_reply (install_method class_side class source)) seen alloc_error)

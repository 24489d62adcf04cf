-- A session's commands on objects, and what each of them comes to.
use Rattle.std.specs.Prelude.{Bool, true, false, Option, None, Some, [], Result, Ok, Err}
use Rattle.gem_object.specs.texts.Bytes.{Bytes as Text}
use Rattle.object_programs.specs.st_tree.Trees.{Program}
use Rattle.object_programs.specs.st_grammar.Grammar.{chunk, method}
use Rattle.object_programs.specs.st_grammar_laws.TreeOf.{TextFault, tree_of}
use Rattle.object_programs.specs.Run.{Run, give, and_then, Ending, gives, returns, fails}
use Rattle.object_programs.specs.declared.fault.Fault.{Fault}
use Rattle.object_programs.specs.declared.fault.Fault.TheVariants as fault
use Rattle.tree_meaning.specs.Place.{MadeBlock}
use Rattle.gem_language.specs.Sends.{chunk_value}
use Rattle.prim_rules.specs.Printing.{print_text}
use Rattle.gem_language.specs.Install.{install}

-- A command on objects.
pub data Command : Type 0 where
  -- a chunk of this text; its value may be printed
  run_chunk : (prints : Bool) → Text → Command
  -- the source of a method, for the class that this global names, on one of its sides
  install_method : (class_side : Bool) → (class source : Text) → Command

-- What a command comes to.
pub data Reply : Type 0 where
  -- its text has no tree
  not_read : TextFault → Reply
  -- an error ended it
  failed : Fault → Reply
  -- a chunk ran, and its value isn't printed, or printed so
  ran : Reply
  printed : Text → Reply
  -- the class has the method with this selector
  installed : (selector : Text) → Reply

-- A program that ends with the reply to a command.
abbrev pub ReplyRun : Type 1
ReplyRun = Run MadeBlock Reply

-- a chunk that was read; the print text is made in the state that the chunk leaves
abbrev pub chunk_reply : (prints : Bool) → Program → ReplyRun
chunk_reply false tree = and_then (chunk_value tree) (λ answer. give ran)
chunk_reply true tree =
    and_then (chunk_value tree) (λ answer.
    and_then (print_text answer) (λ text.
    give (printed text)))

-- the selector of a method that was read; every method has one
abbrev pub selector_or : Option Text → Text
selector_or None = []
selector_or (Some selector) = selector

abbrev pub selector_of : Program → Text
selector_of tree = selector_or tree.selector

-- a method that was read
abbrev pub method_reply : (class_side : Bool) → (class source : Text) → Program → ReplyRun
method_reply class_side class source tree =
    and_then (install class_side class (selector_of tree) source) (λ done.
    give (installed (selector_of tree)))

-- what a text comes to, by its tree; a text without one does nothing
abbrev pub reply_by : (Program → ReplyRun) → Result Program TextFault → ReplyRun
reply_by reply (Ok tree) = reply tree
reply_by reply (Err fault) = give (not_read fault)

-- what a command does
unfoldable pub command_reply : Command → ReplyRun
command_reply (run_chunk prints text) = reply_by (chunk_reply prints) (tree_of chunk text)
command_reply (install_method class_side class source) =
    reply_by (method_reply class_side class source) (tree_of method source)

-- The reply by the way in which a command's program ended. No value returns further than to its
-- chunk: such an end would be E8.
abbrev pub reply_of : Ending Reply → Reply
reply_of (gives reply) = reply
reply_of (fails fault) = failed fault
reply_of (returns answer home) = failed fault.DeadHome

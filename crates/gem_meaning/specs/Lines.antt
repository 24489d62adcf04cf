-- The lines that a chunk or a method replies.
use Rattle.std.specs.Prelude.{List, [], ◌∷◌, ◌++◌}
use Rattle.gem_object.specs.texts.Bytes.{Bytes as Text}
use Rattle.gem_language.specs.st_grammar.Fails.{rule_number}
use Rattle.gem_language.specs.st_grammar_laws.TreeOf.{TextFault}
use Rattle.gem_language.specs.object_programs.Fault.{fault_number, fault_text}
use Rattle.gem_language.specs.object_programs.declared.fault.Fault.{Fault}
use Rattle.gem_language.specs.Commands.{Reply, not_read, failed, ran, printed, installed}
use Rattle.gem_language.specs.Transaction.{Said}
use Rattle.gem_replies.specs.declared.reply.Line.{Line}
use Rattle.gem_replies.specs.declared.reply.Line.TheVariants.{Parse, Error, Ran, Printed, Show, Method}

abbrev pub parse_line : TextFault → Line
parse_line fault = Parse fault.place (rule_number fault.rule)

abbrev pub error_line : Fault → Line
error_line fault = Error (fault_number fault) (fault_text fault)

-- the line of a command's reply
abbrev pub reply_line : Reply → Line
reply_line (not_read fault) = parse_line fault
reply_line (failed fault) = error_line fault
reply_line ran = Ran
reply_line (printed text) = Printed text
reply_line (installed selector) = Method selector

-- the line of what a command wrote on the transcript, unless it wrote nothing
abbrev pub show_lines : Text → List Line
show_lines [] = []
show_lines (byte ∷ bytes) = Show (byte ∷ bytes) ∷ []

-- what is said of a command: first what it wrote on the transcript
abbrev pub said_lines : Said → List Line
said_lines said = show_lines said.shown ++ reply_line said.reply ∷ []

-- The rules of a script by their numbers, and a text's fault.
use Rattle.std.specs.Prelude.{ℕ}
use Rattle.texts.specs.Bytes.{Bytes}
use Rattle.shell_words.specs.ScriptGrammar.{BreaksRule}
use Rattle.shell_words.specs.declared.fault.ScriptFault.{ScriptFault}
use Rattle.shell_words.specs.declared.fault.ScriptFault.TheVariants.{Rule, NoMemory}
use Rattle.shell_words.specs.declared.rule.ScriptRule.{ScriptRule}
use Rattle.shell_words.specs.declared.rule.ScriptRule.TheVariants.{KnownLine, InSession, ChunkEnd, ChunkSize, SessionCount, UserName, ScriptSize, ScriptBytes}

-- the number that stands after `S` where a rule is told
abbrev pub script_rule_number : ScriptRule → ℕ
script_rule_number KnownLine = 1
script_rule_number InSession = 2
script_rule_number ChunkEnd = 3
script_rule_number ChunkSize = 4
script_rule_number SessionCount = 5
script_rule_number UserName = 6
script_rule_number ScriptSize = 7
script_rule_number ScriptBytes = 8

-- a fault of the text: it breaks this rule first, at this line, or memory ran out
abbrev pub IsScriptFault : Bytes → ScriptFault → Type 0
IsScriptFault text (Rule line rule) = BreaksRule text line (script_rule_number rule)
IsScriptFault text NoMemory = Unit {0}

-- What a fault of a script says.
use Rattle.std.specs.Prelude.{◌++◌, codes}
use Rattle.std.specs.Fmt.{decimal}
use Rattle.texts.specs.Bytes.{Bytes}
use Rattle.shell_words.specs.Rules.{script_rule_number}
use Rattle.shell_words.specs.declared.fault.ScriptFault.{ScriptFault}
use Rattle.shell_words.specs.declared.fault.ScriptFault.TheVariants.{Rule, NoMemory}

abbrev pub fault_text : ScriptFault → Bytes
fault_text (Rule line rule) =
    codes "script line " ++ decimal line ++ codes " rule S" ++ decimal (script_rule_number rule)
fault_text NoMemory = codes "out of memory"

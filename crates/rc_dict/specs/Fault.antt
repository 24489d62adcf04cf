-- What a fault says.
use Rattle.std.specs.Prelude.{ℕ, List, ◌++◌, codes}
use Rattle.std.specs.Fmt.{decimal}
use Rattle.rc_dict.specs.declared.update.DictFault.{DictFault}
use Rattle.rc_dict.specs.declared.update.DictFault.TheVariants.{Key, NoMemory}

abbrev pub fault_text : DictFault → List ℕ
fault_text (Key at) =
    codes "the key of the update at index " ++ decimal at
    ++ codes " was changed or has no value"
fault_text NoMemory = codes "out of memory"

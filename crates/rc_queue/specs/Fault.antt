-- What a fault says.
use Rattle.std.specs.Prelude.{ℕ, List, ◌++◌, codes}
use Rattle.std.specs.Fmt.{decimal}
use Rattle.rc_queue.specs.declared.update.QueueFault.{QueueFault}
use Rattle.rc_queue.specs.declared.update.QueueFault.TheVariants.{Remove, NoMemory}

abbrev pub fault_text : QueueFault → List ℕ
fault_text (Remove at) =
    codes "the removal at index " ++ decimal at ++ codes " meets another front or none"
fault_text NoMemory = codes "out of memory"

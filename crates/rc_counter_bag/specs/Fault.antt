-- What a bag's fault says.
use Rattle.std.specs.Prelude.{ℕ, List, ◌++◌, codes}
use Rattle.std.specs.Fmt.{decimal}
use Rattle.rc_counter_bag.specs.declared.update.BagFault.{BagFault}
use Rattle.rc_counter_bag.specs.declared.update.BagFault.TheVariants.{Missing, NoMemory}

abbrev pub fault_text : BagFault → List ℕ
fault_text (Missing at) =
    codes "the removal at index " ++ decimal at ++ codes " finds no occurrence"
fault_text NoMemory = codes "out of memory"

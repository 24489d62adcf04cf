-- What a fault is and says.
use Rattle.std.specs.Prelude.{ℕ, Bool, true, false, List, codes}
use Rattle.gem_update.specs.declared.joined.UpdateFault.{UpdateFault}
use Rattle.gem_update.specs.declared.joined.UpdateFault.TheVariants.{Refused, NoMemory}

abbrev pub fault_text : UpdateFault → List ℕ
fault_text Refused = codes "the update is refused"
fault_text NoMemory = codes "out of memory"

-- the fault that another fault becomes, where this says whether that one is want of memory
abbrev pub fault_of : Bool → UpdateFault
fault_of true = NoMemory
fault_of false = Refused

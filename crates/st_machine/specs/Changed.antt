-- What came of an instruction that changes objects, where that may be known.
use Rattle.std.specs.Prelude.{◌≡◌, ℕ, suc, Result, Ok, Err}
use Rattle.std.specs.declared.alloc.AllocError.{AllocError}
use Rattle.st_machine.specs.declared.changed.Changed.{Changed}
use Rattle.st_machine.specs.declared.changed.Changed.TheVariants.{Stands, NoUnit, TooLarge, NoMemory, Unknown}
use Rattle.st_machine.specs.declared.flow.Turn.{Turn}
use Rattle.st_machine.specs.declared.flow.Turn.TheVariants as turn

-- This holds of the turn that it comes to at this place, where it is known.
abbrev pub IfChanged : Changed → (place : ℕ) → (Result Turn AllocError → Type 0) → Type 0
IfChanged Stands place P = P (Ok (turn.Goes (suc place)))
IfChanged NoUnit place P = P (Ok turn.NoUnit)
IfChanged TooLarge place P = P (Ok turn.TooLarge)
IfChanged NoMemory place P = (none : AllocError) → P (Err none)
IfChanged Unknown place P = Unit {0}

-- it is known, and this holds of that turn
abbrev pub IsChanged : Changed → (place : ℕ) → (Result Turn AllocError → Type 0) → Type 0
IsChanged Unknown place P = ⊥
IsChanged ended place P = IfChanged ended place P

-- This is the turn at this place that it comes to. No memory may be found for the next place.
abbrev pub ChangedTurned : Changed → (place : ℕ) → Result Turn AllocError → Type 0
ChangedTurned Stands place (Ok (turn.Goes there)) = there ≡ suc place
ChangedTurned Stands place (Err none) = Unit {0}
ChangedTurned NoUnit place (Ok turn.NoUnit) = Unit {0}
ChangedTurned TooLarge place (Ok turn.TooLarge) = Unit {0}
ChangedTurned NoMemory place (Err none) = Unit {0}
ChangedTurned changed place other = ⊥

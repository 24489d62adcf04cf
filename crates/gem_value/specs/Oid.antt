-- The names of objects, as numbers.
use Rattle.std.specs.Prelude.{ℕ, ◌+◌, ◌*◌, ◌/◌, ◌%◌, ◌^◌, List, ◌++◌, codes}
use Rattle.std.specs.Fmt.{decimal}

-- the number of the name with this serial and this counter
abbrev pub oid_number : ℕ → ℕ → ℕ
oid_number serial counter = serial * 2 ^ 24 + counter

-- the serial of the name with this number
abbrev pub serial_of : ℕ → ℕ
serial_of number = number / 2 ^ 24

-- its counter
abbrev pub counter_of : ℕ → ℕ
counter_of number = number % 2 ^ 24

-- the text of a name: its serial and its counter in decimal, with a colon between them
abbrev pub oid_text : ℕ → List ℕ
oid_text number = decimal (serial_of number) ++ codes ":" ++ decimal (counter_of number)

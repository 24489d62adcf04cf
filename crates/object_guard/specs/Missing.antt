-- The names that objects ask for and that are missing.
use Rattle.std.specs.Prelude.{◌≡◌, ◌<◌, ◌^◌, ℕ, Bool, true, not, List, filter, Option, Some, None, is_some}
use Rattle.object_programs.specs.Fixed.{ClassPart}
use Rattle.object_programs.specs.Guard.{Parts, is_known}

-- whether no object has this name
abbrev pub is_missing : Parts → ℕ → Bool
is_missing parts name = not (is_known parts name)

-- those of the names at which no object is
abbrev pub missing_of : Parts → List ℕ → List ℕ
missing_of parts names = filter (is_missing parts) names

-- whatever is there has a name of an object
abbrev pub HaveNames : Parts → Type 0
HaveNames parts = (name : ℕ) → is_some (parts name) ≡ true → name < 2 ^ 48

-- the superclass of a class, if it is one and has one
abbrev pub superclass_of : Option ClassPart → Option ℕ
superclass_of None = None
superclass_of (Some part) = part.superclass

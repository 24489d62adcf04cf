-- The kernel's dictionary that the language itself names.
use Rattle.std.specs.Prelude.{ℕ}
use Rattle.object_programs.specs.gem_sound.declared.names.TheConstants.{GLOBALS}

-- the dictionary of the globals of all users
abbrev pub globals : ℕ
globals = GLOBALS

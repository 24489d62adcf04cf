-- Records that laws name.
use Rattle.std.specs.Prelude.{ℕ, []}
use Rattle.gem_record.specs.declared.mode.Mode.TheVariants.{Full}
use Rattle.tran_log.specs.declared.logged.Logged.{Logged}

-- a record at this offset, of the commit of this number, which changed nothing
abbrev pub row : (at number : ℕ) → Logged
row at number = record { at = at; mode = Full; effect = record { number = number; objects = [] } }

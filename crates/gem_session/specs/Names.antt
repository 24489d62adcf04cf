-- What comes of names that locks give, as the code has it.
use Rattle.std.specs.Prelude.{Option, Some, None}
use Rattle.gem_object.specs.declared.value.Value.{Value}
use Rattle.gem_meaning.specs.Names.{Found, no_name, found}
use Rattle.gem_meaning.specs.Locks.{Target as Meant, replies, asks}
use Rattle.gem_session.specs.declared.targets.Target.{Target}
use Rattle.gem_session.specs.declared.targets.Target.TheVariants.{Replies, Asks}

-- the value that was found
abbrev pub found_by : Option Value → Found
found_by None = no_name
found_by (Some value) = found value

-- what a target stands for
abbrev pub target_by : Target → Meant
target_by (Replies line) = replies line
target_by (Asks oid) = asks oid

use Rattle.std.proofs.Common.{refl}
use Rattle.object_programs.specs.Programs.{replace_body}
use Rattle.prim_rules.proofs.later_laws.puts_leave_the_value.Goals as goal

pub returns : goal.returns
unfolding replace_body
returns c name class segment key value pairs setting state admits some key_fits fits small room =
    rw (admits.allowed, admits.there, some, key_fits, fits, small, room) refl

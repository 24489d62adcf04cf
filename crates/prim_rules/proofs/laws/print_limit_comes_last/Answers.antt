use Rattle.prim_rules.proofs.Printed.{too_long, profile_first}
use Rattle.prim_rules.proofs.laws.print_limit_comes_last.Goals as goal

pub returns-clause-long : goal.returns-clause-long
returns-clause-long c = too_long

pub returns-clause-profile : goal.returns-clause-profile
returns-clause-profile c = profile_first

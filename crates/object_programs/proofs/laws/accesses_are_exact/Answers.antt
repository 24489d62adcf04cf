use Rattle.std.proofs.Common.{refl}
use Rattle.object_programs.proofs.Exact as exact
use Rattle.object_programs.proofs.laws.accesses_are_exact.Goals as goal

pub returns-clause-read : goal.returns-clause-read
returns-clause-read c = exact.read_done

pub returns-clause-write : goal.returns-clause-write
returns-clause-write c = exact.write_done

pub returns-clause-write_shared : goal.returns-clause-write_shared
returns-clause-write_shared c = exact.write_shared_done

pub returns-clause-read_refused : goal.returns-clause-read_refused
returns-clause-read_refused c = exact.read_refused

pub returns-clause-write_refused : goal.returns-clause-write_refused
returns-clause-write_refused c = exact.write_refused

pub returns-clause-read_nothing : goal.returns-clause-read_nothing
returns-clause-read_nothing c = exact.read_nothing

pub returns-clause-write_nothing : goal.returns-clause-write_nothing
returns-clause-write_nothing c = exact.write_nothing

pub returns-clause-own : goal.returns-clause-own
returns-clause-own c setting world budget = refl

pub returns-clause-kind : goal.returns-clause-kind
returns-clause-kind c = exact.kind_done

pub returns-clause-kind_nothing : goal.returns-clause-kind_nothing
returns-clause-kind_nothing c = exact.kind_nothing

pub returns-clause-made : goal.returns-clause-made
returns-clause-made c name setting world budget = refl

pub returns-clause-who : goal.returns-clause-who
returns-clause-who c setting world budget = refl

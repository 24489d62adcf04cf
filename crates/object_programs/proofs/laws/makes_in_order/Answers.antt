use Rattle.std.proofs.Common.{true, false}
use Rattle.object_programs.proofs.Orders.{large, used_up, too_little, made}
use Rattle.object_programs.proofs.laws.makes_in_order.Goals as goal

pub returns-clause-large : goal.returns-clause-large
returns-clause-large c = large

pub returns-clause-used_up : goal.returns-clause-used_up
returns-clause-used_up c = used_up

pub returns-clause-too_little : goal.returns-clause-too_little
returns-clause-too_little c = too_little

pub returns-clause-made : goal.returns-clause-made
returns-clause-made c objects_at setting world budget may within below enough =
    made objects_at setting world budget true may within below enough

pub returns-clause-unfit : goal.returns-clause-unfit
returns-clause-unfit c objects_at setting world budget unfit within below enough =
    made objects_at setting world budget false unfit within below enough

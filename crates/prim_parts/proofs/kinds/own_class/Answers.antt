use Rattle.prim_parts.proofs.Walks.{ref_class, plain_known}
use Rattle.prim_parts.proofs.kinds.own_class.Goals as goal

pub returns-in-Some-clause-does : goal.returns-in-Some-clause-does
returns-in-Some-clause-does g c =
    ref_class c.args.value.now c.in-Some.name c.in-Some.ensures c.found_class.ensures.does

pub returns-clause-there : goal.returns-clause-there
returns-clause-there g c =
    plain_known (g.O.Objects.seen c.args.objects.now) c.sound.ensures c.args.value.now
    c.in-Some-class_of_plain.class c.in-Some-class_of_plain.ensures

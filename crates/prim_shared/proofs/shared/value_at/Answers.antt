use Rattle.gem_object.specs.rc_dict.Dict.{entry}
use Rattle.gem_object.specs.Order.{value_order}
use Rattle.prim_rules.specs.Receivers.{shared_pairs_in}
use Rattle.object_programs.specs.Programs.{need}
use Rattle.object_programs.specs.declared.fault.Fault.TheVariants as fault
use Rattle.prim_parts.proofs.Does.{does_give, does_fail}
use Rattle.prim_shared.proofs.Steps.{over, looked_up}
use Rattle.prim_shared.proofs.shared.value_at.Goals as goal

pub returns-in_ok-clone-in-Some : goal.returns-in_ok-clone-in-Some
returns-in_ok-clone-in-Some g c = λ object held there holds. over (need fault.KeyAbsent)
    (looked_up shared_pairs_in (entry value_order c.args.key.now) c.args.name (g.O.Objects.seen c.args.objects.now) there holds c.in-Some.ensures)
    (rw c.in_ok-clone-in-Some.ensures.cases (does_give _ _))

pub returns-in-None : goal.returns-in-None
returns-in-None g c = λ object held there holds. over (need fault.KeyAbsent)
    (looked_up shared_pairs_in (entry value_order c.args.key.now) c.args.name (g.O.Objects.seen c.args.objects.now) there holds c.in-None.ensures)
    (does_fail _ _)

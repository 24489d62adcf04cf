use Rattle.std.proofs.Common.{sym, ◌∙◌}
use Rattle.prim_classes.proofs.Created.{other_some}
use Rattle.prim_classes.proofs.creation.new_other.Goals as goal

pub returns : goal.returns
returns g c = other_some c.args.kind c.args.class c.named_slots-named.result c.in-Some.body (sym c.in-Some.is ∙ c.in_ok-body.ensures.body)
    c.named_slots-named.ensures c.new_object.ensures

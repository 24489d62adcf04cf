use Rattle.std.proofs.Common.{sym, ◌∙◌}
use Rattle.prim_calls.proofs.NoRule.{fails_so}
use Rattle.prim_calls.proofs.call.Goals as goal

pub returns : goal.returns
returns g c = fails_so c.args.number c.args.receiver.now c.args.arguments.now (g.O.Objects.seen c.args.objects.now)
    (sym c.is_of_numbers.ensures ∙ c.if-is_of_numbers.false) (sym c.is_of_collections.ensures ∙ c.if-is_of_collections.false)
    (sym c.is_of_classes.ensures ∙ c.if-is_of_classes.false) (sym c.is_of_shared.ensures ∙ c.if-is_of_shared.false)

use Rattle.std.proofs.Common.{◌∙◌}
use Rattle.kernel_tests.proofs.Samples.{user_is}
use Rattle.kernel_tests.proofs.objects.user.Goals as goal

pub object-requires-clause-body : goal.object-requires-clause-body
object-requires-clause-body c =
    user_is _ c.of.result c.name.result c.name-2.result c.in_ok-short.ensures (c.of.ensures ∙ c.new.ensures.items)
    c.name.ensures.is_oid c.name-2.ensures.is_oid

use Rattle.std.proofs.Common.{◌∙◌, arith}
use Rattle.kernel_tests.proofs.Samples.{segment_is}
use Rattle.kernel_tests.proofs.objects.segment.Goals as goal

pub object-requires-clause-body : goal.object-requires-clause-body
object-requires-clause-body c =
    segment_is c.from.result _ _ c.from-2.result (omega (arith, c.from.ensures)) (c.from-2.ensures ∙ c.new.ensures.items)

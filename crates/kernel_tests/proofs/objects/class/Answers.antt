use Rattle.std.proofs.Common.{◌∙◌, arith}
use Rattle.kernel_tests.proofs.Samples.{no_methods, class_is}
use Rattle.kernel_tests.proofs.objects.class.Goals as goal

pub class_object-requires : goal.class_object-requires
class_object-requires c =
    class_is _ c.name.result _ c.args.names _ _ c.in_ok-short.ensures
    (omega (arith, c.requires.some, c.name.ensures.number)) (omega (arith, c.requires.superclass, c.name.ensures.number))
    c.requires.count c.requires.texts
    (no_methods _ (c.of.ensures ∙ c.new.ensures.items)) (no_methods _ (c.of-2.ensures ∙ c.new-2.ensures.items))

use Rattle.std.proofs.Common.{◌∙◌, arith}
use Rattle.kernel_tests.proofs.Samples.{no_methods, one_method, no_names, class_is}
use Rattle.kernel_tests.proofs.objects.class_with.Goals as goal

pub class_object-requires : goal.class_object-requires
class_object-requires c =
    let none = no_names c.of.result (c.of.ensures ∙ c.new.ensures.items) in
    class_is _ c.name.result _ c.of.result _ _ c.in_ok-short.ensures
    (omega (arith, c.name.ensures.number)) (omega (arith, c.name.ensures.number))
    none.0 none.1
    (one_method _ c.args.method (c.of-2.ensures ∙ c.in_ok-vec.ensures.items) c.requires)
    (no_methods _ (c.of-3.ensures ∙ c.new-2.ensures.items))

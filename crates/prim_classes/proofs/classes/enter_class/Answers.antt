use Rattle.std.proofs.Common.{arith, length, refl, ap}
use Rattle.prim_parts.proofs.Does.{does_then, does_exit, does_give}
use Rattle.prim_classes.proofs.Steps.{does_no_memory}
use Rattle.gem_object.specs.declared.value.Value.TheVariants.{Sym}
use Rattle.prim_rules.specs.Classes.{class_entry}
use Rattle.prim_classes.proofs.ClassMade.{class_entered, class_contents, new_fits}
use Rattle.prim_classes.proofs.classes.enter_class.Goals as goal

pub returns-in_err-clone : goal.returns-in_err-clone
returns-in_err-clone g c = λ receiver is there. does_no_memory c.from_residual.ensures.1

pub returns-in_err-made : goal.returns-in_err-made
returns-in_err-made g c = λ receiver is there. does_no_memory c.from_residual-in_err-made.ensures.1

pub make_and_enter-requires-clause-some : goal.make_and_enter-requires-clause-some
make_and_enter-requires-clause-some g c = omega (arith, ap length c.in_ok-made.ensures.items)

pub make_and_enter-requires-clause-methods : goal.make_and_enter-requires-clause-methods
make_and_enter-requires-clause-methods g c = new_fits c.args.class _ c.in_ok-made.made.items c.requires c.in_ok-made.ensures.items refl

pub returns-in_err-class : goal.returns-in_err-class
returns-in_err-class g c = λ receiver is there. does_exit _ c.from_residual-in_err-class.ensures.1 (c.in_err-class.ensures (class_entry c.args.class c.args.segment) receiver
    (class_entered c.args.class c.args.segment _ c.in_ok-made.made.items c.next_or-name.result _ _ c.in_ok-made.ensures.items
    (class_contents c.args.class c.args.segment c.kernel_name.result c.kernel_name.ensures) c.next_or-name.ensures (ap Sym c.in_ok-clone.ensures.cases)) is there)

pub returns : goal.returns
returns g c = λ receiver is there. does_then (c.in_ok-class.ensures (class_entry c.args.class c.args.segment) receiver
    (class_entered c.args.class c.args.segment _ c.in_ok-made.made.items c.next_or-name.result _ _ c.in_ok-made.ensures.items
    (class_contents c.args.class c.args.segment c.kernel_name.result c.kernel_name.ensures) c.next_or-name.ensures (ap Sym c.in_ok-clone.ensures.cases)) is there) (does_give _ _)

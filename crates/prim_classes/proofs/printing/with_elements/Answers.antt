use Rattle.std.proofs.Common.{arith}
use Rattle.prim_classes.proofs.Shorts.{element_step, element_stop, elements_done}
use Rattle.prim_classes.proofs.printing.with_elements.Goals as goal

pub returns-in_err-so_far : goal.returns-in_err-so_far
returns-in_err-so_far g c = c.loop-element.invariant _ _ (λ whole is. element_stop whole c.loop-element.so_far is c.args.elements.now
    c.loop-element.element-index c.element-item.result (omega arith) c.element-item.is c.in_err-so_far.ensures
    c.from_residual-in_err-so_far.ensures.1)

pub loop-element-preserved : goal.loop-element-preserved
loop-element-preserved g c = λ result after more. c.loop-element.invariant result after (λ whole is. element_step whole c.loop-element.so_far is c.args.elements.now
    c.loop-element.element-index c.element-item.result (omega arith) c.element-item.is
    c.in_ok-so_far.so_far c.in_ok-so_far.ensures more)

pub returns : goal.returns
returns g c = c.loop-element.invariant _ _ (λ whole is. elements_done whole c.loop-element.so_far c.args.elements.now
    c.loop-element.element-index _ is (omega arith))

use Rattle.prim_classes.proofs.Shorts.{array_stop}
use Rattle.prim_classes.proofs.printing.array_text.Goals as goal

pub returns-in_err-text : goal.returns-in_err-text
returns-in_err-text g c = array_stop c.args.elements.now c.in_err-text.ensures c.from_residual.ensures.1

use Rattle.prim_parts.proofs.Onward.{does_stops}
use Rattle.prim_classes.proofs.Shorts.{mapped_stop}
use Rattle.prim_classes.proofs.printing.with_element.Goals as goal

pub returns-in_err-skim_element : goal.returns-in_err-skim_element
returns-in_err-skim_element g c = mapped_stop c.in_err-skim_element.ensures c.from_residual.ensures.1

pub returns-in_err-text : goal.returns-in_err-text
returns-in_err-text g c = does_stops c.in_err-text.ensures c.from_residual-in_err-text.ensures.1

use Rattle.std.proofs.Common.{◌∙◌}
use Rattle.prim_rules.specs.Printing.{print_text}
use Rattle.prim_classes.specs.Prints.{short}
use Rattle.prim_classes.proofs.Shorts.{mapped_then, mapped_stop, print_some, print_none}
use Rattle.prim_classes.proofs.printing.print_text.Goals as goal

pub returns-in_err-text : goal.returns-in_err-text
unfolding print_text
returns-in_err-text g c = mapped_stop {part = short} c.in_err-text.ensures c.from_residual.ensures.1

pub returns-in-Some : goal.returns-in-Some
unfolding print_text
returns-in-Some g c = mapped_then {part = short} c.in_ok-text.ensures (λ whole has. print_some whole c.in-Some.text _ _ (has ∙ c.in-Some.is))

pub returns-in-None : goal.returns-in-None
unfolding print_text
returns-in-None g c = mapped_then {part = short} c.in_ok-text.ensures (λ whole has. print_none whole _ _ (has ∙ c.in-None.is))

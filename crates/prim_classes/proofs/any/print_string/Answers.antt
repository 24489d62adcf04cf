use Rattle.prim_rules.specs.Printing.{whole_text}
use Rattle.prim_classes.specs.Prints.{short, print_string_of}
use Rattle.prim_classes.proofs.Shorts.{mapped_then, mapped_stop}
use Rattle.prim_classes.proofs.any.print_string.Goals as goal

pub returns-in_err-text : goal.returns-in_err-text
unfolding whole_text
returns-in_err-text g c = mapped_stop {part = short} c.in_err-text.ensures c.from_residual.ensures.1

pub returns : goal.returns
returns g c = mapped_then {part = short} {rest = print_string_of} c.in_ok-text.ensures c.string_of.ensures

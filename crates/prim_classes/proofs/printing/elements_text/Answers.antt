use Rattle.std.proofs.Common.{rules}
use Rattle.prim_parts.proofs.Does.{does_then, does_assoc}
use Rattle.prim_parts.proofs.Onward.{does_stops}
use Rattle.prim_classes.proofs.Shorts.{elements_split}
use Rattle.prim_classes.proofs.printing.elements_text.Goals as goal

pub returns-in_err-first : goal.returns-in_err-first
returns-in_err-first g c = elements_split c.args.elements.now c.in-Some.first.now c.in-Some.rest.now (search (rules, c.in-Some.ensures.cases))
    (does_assoc (does_stops c.in_err-first.ensures c.from_residual.ensures.1))

pub returns : goal.returns
returns g c = elements_split c.args.elements.now c.in-Some.first.now c.in-Some.rest.now (search (rules, c.in-Some.ensures.cases))
    (does_assoc (does_then c.in_ok-first.ensures c.with_elements.ensures))

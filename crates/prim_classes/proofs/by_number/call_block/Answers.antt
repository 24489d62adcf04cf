use Rattle.prim_rules.specs.Rules.{rule_of}
use Rattle.prim_rules.specs.FirstRules.{first_rule}
use Rattle.prim_classes.proofs.Numbered.{numbered}
use Rattle.prim_parts.proofs.Does.{does_compute}
use Rattle.prim_classes.proofs.by_number.call_block.Goals as goal

pub returns-in-28 : goal.returns-in-28
unfolding rule_of first_rule
returns-in-28 g c = numbered c.args.receiver.now c.args.arguments.now c.in-28.is (does_compute _ c.value_row.ensures)

pub returns-in-29 : goal.returns-in-29
unfolding rule_of first_rule
returns-in-29 g c = numbered c.args.receiver.now c.args.arguments.now c.in-29.is (does_compute _ c.value_row-in-29.ensures)

pub returns-in-30 : goal.returns-in-30
unfolding rule_of first_rule
returns-in-30 g c = numbered c.args.receiver.now c.args.arguments.now c.in-30.is (does_compute _ c.value_row-in-30.ensures)

pub returns-in-31 : goal.returns-in-31
unfolding rule_of first_rule
returns-in-31 g c = numbered c.args.receiver.now c.args.arguments.now c.in-31.is (does_compute _ c.value_row-in-31.ensures)

pub returns-in-32 : goal.returns-in-32
unfolding rule_of first_rule
returns-in-32 g c = numbered c.args.receiver.now c.args.arguments.now c.in-32.is (does_compute _ c.row_32.ensures)

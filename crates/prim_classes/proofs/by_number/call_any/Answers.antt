use Rattle.prim_rules.specs.Rules.{rule_of}
use Rattle.prim_rules.specs.FirstRules.{first_rule}
use Rattle.prim_classes.proofs.Numbered.{numbered}
use Rattle.prim_parts.proofs.Does.{does_compute}
use Rattle.prim_classes.proofs.by_number.call_any.Goals as goal

pub returns-in-1 : goal.returns-in-1
unfolding rule_of first_rule
returns-in-1 g c = numbered c.args.receiver.now c.args.arguments.now c.in-1.is (does_compute _ c.same_row.ensures)

pub returns-in-2 : goal.returns-in-2
unfolding rule_of first_rule
returns-in-2 g c = numbered c.args.receiver.now c.args.arguments.now c.in-2.is (does_compute _ c.same_row-in-2.ensures)

pub returns-in-3 : goal.returns-in-3
unfolding rule_of first_rule
returns-in-3 g c = numbered c.args.receiver.now c.args.arguments.now c.in-3.is c.row_3.ensures

pub returns-in-4 : goal.returns-in-4
unfolding rule_of first_rule
returns-in-4 g c = numbered c.args.receiver.now c.args.arguments.now c.in-4.is c.row_4.ensures

pub returns-in-5 : goal.returns-in-5
unfolding rule_of first_rule
returns-in-5 g c = numbered c.args.receiver.now c.args.arguments.now c.in-5.is c.row_5.ensures

pub returns-in-6 : goal.returns-in-6
unfolding rule_of first_rule
returns-in-6 g c = numbered c.args.receiver.now c.args.arguments.now c.in-6.is c.row_6.ensures

pub returns-in-7 : goal.returns-in-7
unfolding rule_of first_rule
returns-in-7 g c = numbered c.args.receiver.now c.args.arguments.now c.in-7.is c.row_7.ensures

pub returns-in-8 : goal.returns-in-8
unfolding rule_of first_rule
returns-in-8 g c = numbered c.args.receiver.now c.args.arguments.now c.in-8.is c.row_8.ensures

pub returns-in-9 : goal.returns-in-9
unfolding rule_of first_rule
returns-in-9 g c = numbered c.args.receiver.now c.args.arguments.now c.in-9.is c.row_9.ensures

use Rattle.prim_rules.specs.Rules.{rule_of}
use Rattle.prim_rules.specs.FirstRules.{first_rule}
use Rattle.prim_rules.specs.LaterRules.{later_rule}
use Rattle.prim_classes.proofs.Numbered.{numbered}
use Rattle.prim_classes.proofs.by_number.call_class.Goals as goal

pub returns-in-52 : goal.returns-in-52
unfolding rule_of first_rule
returns-in-52 g c = numbered c.args.receiver.now c.args.arguments.now c.in-52.is c.row_52.ensures

pub returns-in-53 : goal.returns-in-53
unfolding rule_of first_rule
returns-in-53 g c = numbered c.args.receiver.now c.args.arguments.now c.in-53.is c.row_53.ensures

pub returns-in-54 : goal.returns-in-54
unfolding rule_of later_rule
returns-in-54 g c = numbered c.args.receiver.now c.args.arguments.now c.in-54.is c.row_54.ensures

pub returns-in-55 : goal.returns-in-55
unfolding rule_of later_rule
returns-in-55 g c = numbered c.args.receiver.now c.args.arguments.now c.in-55.is c.tell.ensures

pub returns-in-56 : goal.returns-in-56
unfolding rule_of later_rule
returns-in-56 g c = numbered c.args.receiver.now c.args.arguments.now c.in-56.is c.tell-in-56.ensures

pub returns-in-57 : goal.returns-in-57
unfolding rule_of later_rule
returns-in-57 g c = numbered c.args.receiver.now c.args.arguments.now c.in-57.is c.list.ensures

pub returns-in-58 : goal.returns-in-58
unfolding rule_of later_rule
returns-in-58 g c = numbered c.args.receiver.now c.args.arguments.now c.in-58.is c.list-in-58.ensures

pub returns-in-59 : goal.returns-in-59
unfolding rule_of later_rule
returns-in-59 g c = numbered c.args.receiver.now c.args.arguments.now c.in-59.is c.row_59.ensures

pub returns-in-60 : goal.returns-in-60
unfolding rule_of later_rule
returns-in-60 g c = numbered c.args.receiver.now c.args.arguments.now c.in-60.is c.row_60.ensures

use Rattle.prim_rules.specs.Rules.{rule_of}
use Rattle.prim_rules.specs.LaterRules.{later_rule}
use Rattle.prim_shared.proofs.rows.call_fixed.Goals as goal

pub returns-in-68 : goal.returns-in-68
unfolding rule_of later_rule
returns-in-68 g c = rw c.in-68.is c.tell.ensures

pub returns-in-69 : goal.returns-in-69
unfolding rule_of later_rule
returns-in-69 g c = rw c.in-69.is c.set_right.ensures

pub returns-in-70 : goal.returns-in-70
unfolding rule_of later_rule
returns-in-70 g c = rw c.in-70.is c.set_right-in-70.ensures

pub returns-in-71 : goal.returns-in-71
unfolding rule_of later_rule
returns-in-71 g c = rw c.in-71.is c.row_71.ensures

pub returns-in-72 : goal.returns-in-72
unfolding rule_of later_rule
returns-in-72 g c = rw c.in-72.is c.tell-in-72.ensures

pub returns-in-73 : goal.returns-in-73
unfolding rule_of later_rule
returns-in-73 g c = rw c.in-73.is c.tell-in-73.ensures

pub returns-in-74 : goal.returns-in-74
unfolding rule_of later_rule
returns-in-74 g c = rw c.in-74.is c.tell-in-74.ensures

pub returns-in-75 : goal.returns-in-75
unfolding rule_of later_rule
returns-in-75 g c = rw c.in-75.is c.list.ensures

pub returns-in-76 : goal.returns-in-76
unfolding rule_of later_rule
returns-in-76 g c = rw c.in-76.is c.row_76.ensures

pub returns-in-77 : goal.returns-in-77
unfolding rule_of later_rule
returns-in-77 g c = rw c.in-77.is c.row_77.ensures

pub returns-in-78 : goal.returns-in-78
unfolding rule_of later_rule
returns-in-78 g c = rw c.in-78.is c.tell-in-78.ensures

pub returns-in-79 : goal.returns-in-79
unfolding rule_of later_rule
returns-in-79 g c = rw c.in-79.is c.row_79.ensures

pub returns-in-80 : goal.returns-in-80
unfolding rule_of later_rule
returns-in-80 g c = rw c.in-80.is c.row_80.ensures

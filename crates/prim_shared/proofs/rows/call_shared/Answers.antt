use Rattle.prim_rules.specs.Rules.{rule_of}
use Rattle.prim_rules.specs.LaterRules.{later_rule}
use Rattle.prim_shared.proofs.rows.call_shared.Goals as goal

pub returns-in-81 : goal.returns-in-81
unfolding rule_of later_rule
returns-in-81 g c = rw c.in-81.is c.row_81.ensures

pub returns-in-82 : goal.returns-in-82
unfolding rule_of later_rule
returns-in-82 g c = rw c.in-82.is c.row_82.ensures

pub returns-in-83 : goal.returns-in-83
unfolding rule_of later_rule
returns-in-83 g c = rw c.in-83.is c.tell.ensures

pub returns-in-84 : goal.returns-in-84
unfolding rule_of later_rule
returns-in-84 g c = rw c.in-84.is c.row_84.ensures

pub returns-in-85 : goal.returns-in-85
unfolding rule_of later_rule
returns-in-85 g c = rw c.in-85.is c.row_85.ensures

pub returns-in-86 : goal.returns-in-86
unfolding rule_of later_rule
returns-in-86 g c = rw c.in-86.is c.row_86.ensures

pub returns-in-87 : goal.returns-in-87
unfolding rule_of later_rule
returns-in-87 g c = rw c.in-87.is c.row_87.ensures

pub returns-in-88 : goal.returns-in-88
unfolding rule_of later_rule
returns-in-88 g c = rw c.in-88.is c.list.ensures

pub returns-in-89 : goal.returns-in-89
unfolding rule_of later_rule
returns-in-89 g c = rw c.in-89.is c.row_89.ensures

pub returns-in-90 : goal.returns-in-90
unfolding rule_of later_rule
returns-in-90 g c = rw c.in-90.is c.row_90.ensures

pub returns-in-91 : goal.returns-in-91
unfolding rule_of later_rule
returns-in-91 g c = rw c.in-91.is c.row_91.ensures

pub returns-in-92 : goal.returns-in-92
unfolding rule_of later_rule
returns-in-92 g c = rw c.in-92.is c.row_92.ensures

pub returns-in-93 : goal.returns-in-93
unfolding rule_of later_rule
returns-in-93 g c = rw c.in-93.is c.list-in-93.ensures

pub returns-in-94 : goal.returns-in-94
unfolding rule_of later_rule
returns-in-94 g c = rw c.in-94.is c.row_94.ensures

pub returns-in-95 : goal.returns-in-95
unfolding rule_of later_rule
returns-in-95 g c = rw c.in-95.is c.row_95.ensures

pub returns-in-96 : goal.returns-in-96
unfolding rule_of later_rule
returns-in-96 g c = rw c.in-96.is c.list-in-96.ensures

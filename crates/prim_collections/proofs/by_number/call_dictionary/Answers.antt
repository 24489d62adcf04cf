use Rattle.prim_rules.specs.Rules.{rule_of}
use Rattle.prim_rules.specs.LaterRules.{later_rule}
use Rattle.prim_collections.proofs.by_number.call_dictionary.Goals as goal

pub returns-in-61 : goal.returns-in-61
unfolding rule_of later_rule
returns-in-61 g c = rw c.in-61.is c.value_at_key.ensures

pub returns-in-62 : goal.returns-in-62
unfolding rule_of later_rule
returns-in-62 g c = rw c.in-62.is c.put_at_key.ensures

pub returns-in-63 : goal.returns-in-63
unfolding rule_of later_rule
returns-in-63 g c = rw c.in-63.is c.includes_key.ensures

pub returns-in-64 : goal.returns-in-64
unfolding rule_of later_rule
returns-in-64 g c = rw c.in-64.is c.remove_key.ensures

pub returns-in-65 : goal.returns-in-65
unfolding rule_of later_rule
returns-in-65 g c = rw c.in-65.is c.pairs_size.ensures

pub returns-in-66 : goal.returns-in-66
unfolding rule_of later_rule
returns-in-66 g c = rw c.in-66.is c.keys.ensures

pub returns-in-67 : goal.returns-in-67
unfolding rule_of later_rule
returns-in-67 g c = rw c.in-67.is c.values.ensures

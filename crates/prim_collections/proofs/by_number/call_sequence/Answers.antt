use Rattle.prim_rules.specs.Rules.{rule_of}
use Rattle.prim_rules.specs.FirstRules.{first_rule}
use Rattle.prim_collections.proofs.by_number.call_sequence.Goals as goal

pub returns-in-33 : goal.returns-in-33
unfolding rule_of first_rule
returns-in-33 g c = rw c.in-33.is c.size.ensures

pub returns-in-34 : goal.returns-in-34
unfolding rule_of first_rule
returns-in-34 g c = rw c.in-34.is c.element.ensures

pub returns-in-35 : goal.returns-in-35
unfolding rule_of first_rule
returns-in-35 g c = rw c.in-35.is c.put_element.ensures

pub returns-in-36 : goal.returns-in-36
unfolding rule_of first_rule
returns-in-36 g c = rw c.in-36.is c.add_last.ensures

pub returns-in-37 : goal.returns-in-37
unfolding rule_of first_rule
returns-in-37 g c = rw c.in-37.is c.add_first.ensures

pub returns-in-38 : goal.returns-in-38
unfolding rule_of first_rule
returns-in-38 g c = rw c.in-38.is c.remove_first.ensures

pub returns-in-39 : goal.returns-in-39
unfolding rule_of first_rule
returns-in-39 g c = rw c.in-39.is c.remove_last.ensures

pub returns-in-40 : goal.returns-in-40
unfolding rule_of first_rule
returns-in-40 g c = rw c.in-40.is c.copy_part.ensures

pub returns-in-41 : goal.returns-in-41
unfolding rule_of first_rule
returns-in-41 g c = rw c.in-41.is c.join_sequences.ensures

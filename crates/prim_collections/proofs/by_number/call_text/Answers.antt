use Rattle.prim_rules.specs.Rules.{rule_of}
use Rattle.prim_rules.specs.FirstRules.{first_rule}
use Rattle.prim_collections.proofs.by_number.call_text.Goals as goal

pub returns-in-42 : goal.returns-in-42
unfolding rule_of first_rule
returns-in-42 g c = rw c.in-42.is c.text_size.ensures

pub returns-in-43 : goal.returns-in-43
unfolding rule_of first_rule
returns-in-43 g c = rw c.in-43.is c.character.ensures

pub returns-in-44 : goal.returns-in-44
unfolding rule_of first_rule
returns-in-44 g c = rw c.in-44.is c.put_character.ensures

pub returns-in-45 : goal.returns-in-45
unfolding rule_of first_rule
returns-in-45 g c = rw c.in-45.is c.join.ensures

pub returns-in-46 : goal.returns-in-46
unfolding rule_of first_rule
returns-in-46 g c = rw c.in-46.is c.copy_text.ensures

pub returns-in-47 : goal.returns-in-47
unfolding rule_of first_rule
returns-in-47 g c = rw c.in-47.is c.as_symbol.ensures

pub returns-in-48 : goal.returns-in-48
unfolding rule_of first_rule
returns-in-48 g c = rw c.in-48.is c.as_string.ensures

pub returns-in-49 : goal.returns-in-49
unfolding rule_of first_rule
returns-in-49 g c = rw c.in-49.is c.equals.ensures

pub returns-in-50 : goal.returns-in-50
unfolding rule_of first_rule
returns-in-50 g c = rw c.in-50.is c.is_before.ensures

pub returns-in-51 : goal.returns-in-51
unfolding rule_of first_rule
returns-in-51 g c = rw c.in-51.is c.as_integer.ensures

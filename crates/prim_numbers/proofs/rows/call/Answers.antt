use Rattle.prim_rules.specs.Rules.{rule_of}
use Rattle.prim_rules.specs.FirstRules.{first_rule}
use Rattle.prim_parts.proofs.Does.{does_compute}
use Rattle.prim_numbers.proofs.rows.call.Goals as goal

pub returns-in-10 : goal.returns-in-10
unfolding rule_of first_rule
returns-in-10 g c = rw c.in-10.is (does_compute _ c.call_operation.ensures)

pub returns-in-11 : goal.returns-in-11
unfolding rule_of first_rule
returns-in-11 g c = rw c.in-11.is (does_compute _ c.call_operation-in-11.ensures)

pub returns-in-12 : goal.returns-in-12
unfolding rule_of first_rule
returns-in-12 g c = rw c.in-12.is (does_compute _ c.call_operation-in-12.ensures)

pub returns-in-13 : goal.returns-in-13
unfolding rule_of first_rule
returns-in-13 g c = rw c.in-13.is (does_compute _ c.call_operation-in-13.ensures)

pub returns-in-14 : goal.returns-in-14
unfolding rule_of first_rule
returns-in-14 g c = rw c.in-14.is (does_compute _ c.call_operation-in-14.ensures)

pub returns-in-15 : goal.returns-in-15
unfolding rule_of first_rule
returns-in-15 g c = rw c.in-15.is (does_compute _ c.call_operation-in-15.ensures)

pub returns-in-16 : goal.returns-in-16
unfolding rule_of first_rule
returns-in-16 g c = rw c.in-16.is (does_compute _ c.call_operation-in-16.ensures)

pub returns-in-17 : goal.returns-in-17
unfolding rule_of first_rule
returns-in-17 g c = rw c.in-17.is (does_compute _ c.call_operation-in-17.ensures)

pub returns-in-18 : goal.returns-in-18
unfolding rule_of first_rule
returns-in-18 g c = rw c.in-18.is (does_compute _ c.call_operation-in-18.ensures)

pub returns-in-19 : goal.returns-in-19
unfolding rule_of first_rule
returns-in-19 g c = rw c.in-19.is (does_compute _ c.call_operation-in-19.ensures)

pub returns-in-20 : goal.returns-in-20
unfolding rule_of first_rule
returns-in-20 g c = rw c.in-20.is (does_compute _ c.call_operation-in-20.ensures)

pub returns-in-21 : goal.returns-in-21
unfolding rule_of first_rule
returns-in-21 g c = rw c.in-21.is (does_compute _ c.call_operation-in-21.ensures)

pub returns-in-22 : goal.returns-in-22
unfolding rule_of first_rule
returns-in-22 g c = rw c.in-22.is (does_compute _ c.call_operation-in-22.ensures)

pub returns-in-23 : goal.returns-in-23
unfolding rule_of first_rule
returns-in-23 g c = rw c.in-23.is (does_compute _ c.call_operation-in-23.ensures)

pub returns-in-24 : goal.returns-in-24
unfolding rule_of first_rule
returns-in-24 g c = rw c.in-24.is (does_compute _ c.call_operation-in-24.ensures)

pub returns-in-25 : goal.returns-in-25
unfolding rule_of first_rule
returns-in-25 g c = rw c.in-25.is (does_compute _ c.as_character.ensures)

pub returns-in-26 : goal.returns-in-26
unfolding rule_of first_rule
returns-in-26 g c = rw c.in-26.is (c.print_to_base.ensures)

pub returns-in-27 : goal.returns-in-27
unfolding rule_of first_rule
returns-in-27 g c = rw c.in-27.is (does_compute _ c.as_integer.ensures)

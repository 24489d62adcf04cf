use Rattle.std.proofs.Common.{Some}
use Rattle.prim_rules.specs.Rules.{rule_of}
use Rattle.prim_rules.specs.FirstRules.{first_rule}
use Rattle.prim_numbers.specs.declared.operation.Division.TheVariants as division
use Rattle.prim_numbers.specs.declared.operation.Bitwise.TheVariants as bitwise
use Rattle.prim_numbers.specs.declared.operation.Comparison.TheVariants as comparison
use Rattle.prim_numbers.specs.declared.operation.Operation.TheVariants.{Add, Subtract, Multiply, Divide, Compare, CombineBits}
use Rattle.prim_numbers.proofs.AtOnce.{same_answers, row_answers}
use Rattle.prim_numbers.proofs.at_once.ready_answer.Goals as goal

pub returns-in-1 : goal.returns-in-1
unfolding rule_of first_rule
returns-in-1 c =
    rw c.in-1.is (same_answers c.args.first c.args.second c.ranges.first c.ranges.second c.same.result c.same.ensures)

pub returns-in-2 : goal.returns-in-2
unfolding rule_of first_rule
returns-in-2 c =
    rw c.in-2.is (same_answers c.args.first c.args.second c.ranges.first c.ranges.second
    c.same-in-2.result c.same-in-2.ensures)

pub returns-in-10 : goal.returns-in-10
unfolding rule_of first_rule
returns-in-10 c =
    rw c.in-10.is (row_answers c.args.first c.args.second c.ranges.first c.ranges.second Add c.sum.result
    c.sum.ensures)

pub returns-in-11 : goal.returns-in-11
unfolding rule_of first_rule
returns-in-11 c =
    rw c.in-11.is (row_answers c.args.first c.args.second c.ranges.first c.ranges.second Subtract c.difference.result
    c.difference.ensures)

pub returns-in-12 : goal.returns-in-12
unfolding rule_of first_rule
returns-in-12 c =
    rw c.in-12.is (row_answers c.args.first c.args.second c.ranges.first c.ranges.second Multiply c.product.result
    c.product.ensures)

pub returns-in-13 : goal.returns-in-13
unfolding rule_of first_rule
returns-in-13 c =
    rw c.in-13.is (row_answers c.args.first c.args.second c.ranges.first c.ranges.second
    (Divide division.FloorQuotient) c.divided.result c.divided.ensures)

pub returns-in-14 : goal.returns-in-14
unfolding rule_of first_rule
returns-in-14 c =
    rw c.in-14.is (row_answers c.args.first c.args.second c.ranges.first c.ranges.second
    (Divide division.FloorRemainder) c.divided-in-14.result c.divided-in-14.ensures)

pub returns-in-17 : goal.returns-in-17
unfolding rule_of first_rule
returns-in-17 c =
    rw c.in-17.is (row_answers c.args.first c.args.second c.ranges.first c.ranges.second
    (Compare comparison.Less) (Some c.compared.result) c.compared.ensures)

pub returns-in-18 : goal.returns-in-18
unfolding rule_of first_rule
returns-in-18 c =
    rw c.in-18.is (row_answers c.args.first c.args.second c.ranges.first c.ranges.second
    (Compare comparison.Greater) (Some c.compared-in-18.result) c.compared-in-18.ensures)

pub returns-in-19 : goal.returns-in-19
unfolding rule_of first_rule
returns-in-19 c =
    rw c.in-19.is (row_answers c.args.first c.args.second c.ranges.first c.ranges.second
    (Compare comparison.LessOrEqual) (Some c.compared-in-19.result) c.compared-in-19.ensures)

pub returns-in-20 : goal.returns-in-20
unfolding rule_of first_rule
returns-in-20 c =
    rw c.in-20.is (row_answers c.args.first c.args.second c.ranges.first c.ranges.second
    (Compare comparison.GreaterOrEqual) (Some c.compared-in-20.result) c.compared-in-20.ensures)

pub returns-in-21 : goal.returns-in-21
unfolding rule_of first_rule
returns-in-21 c =
    rw c.in-21.is (row_answers c.args.first c.args.second c.ranges.first c.ranges.second
    (CombineBits bitwise.And) (Some c.common_bits.result) c.common_bits.ensures)

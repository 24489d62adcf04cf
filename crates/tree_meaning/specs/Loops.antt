-- Loops. A loop ends at the latest when no unit is left: so it is told by recursion on how many
-- turns there can be, which is one more than the units that are left.
use Rattle.std.specs.Prelude.{ℕ, zero, suc, Bool, ℤ, pos, ◌+ℤ◌, int_le}
use Rattle.object_programs.specs.gem_object.declared.value.Value.{Value}
use Rattle.object_programs.specs.gem_object.declared.value.Value.TheVariants.{Nil, Int}
use Rattle.object_programs.specs.texts.declared.integers.TheConstants.{LARGEST_INTEGER}
use Rattle.object_programs.specs.Atom.{Tick}
use Rattle.object_programs.specs.Run.{give, fail, atom, seeing, and_then}
use Rattle.object_programs.specs.Programs.{choose}
use Rattle.object_programs.specs.declared.fault.Fault.TheVariants as fault
use Rattle.tree_meaning.specs.Operands.{ValueRun, truth_of, by_truth}
use Rattle.tree_meaning.specs.declared.operand.Pair.{Pair}
use Rattle.tree_meaning.specs.declared.operand.Pair.TheVariants.{Ints, Others}

-- The turns of a while loop: the condition; where it is this truth value, a unit, the body and the
-- turns that follow; where it is the other one, the answer is nil.
abbrev pub while_turns_up_to : ℕ → (when : Bool) → (condition body : ValueRun) → ValueRun
while_turns_up_to zero when condition body = fail fault.SendBudget
while_turns_up_to (suc turns) when condition body =
    and_then condition (λ test.
    by_truth (truth_of test) when
    (and_then (atom Tick) (λ ticked.
    and_then body (λ answer. while_turns_up_to turns when condition body)))
    (give Nil))

unfoldable pub while_turns : (when : Bool) → (condition body : ValueRun) → ValueRun
while_turns when condition body =
    seeing (λ budget local. while_turns_up_to (suc budget.units) when condition body)

-- a while loop: a unit for the message, and its turns
abbrev pub while_loop : (when : Bool) → (condition body : ValueRun) → ValueRun
while_loop when condition body =
    and_then (atom Tick) (λ ticked. while_turns when condition body)

-- The turns of a counting loop from a number to a limit: where the number isn't above the limit, a
-- unit, the body with the number, and the turns from the next one on, where there is a next
-- integer. The answer is that of the loop.
abbrev pub count_turns_up_to : ℕ → (number limit : ℤ) → (Value → ValueRun) → (answer : Value)
    → ValueRun
count_turns_up_to zero number limit body answer = fail fault.SendBudget
count_turns_up_to (suc turns) number limit body answer =
    choose (int_le number limit)
    (and_then (atom Tick) (λ ticked.
    and_then (body (Int number)) (λ ended.
    choose (int_le LARGEST_INTEGER number)
    (give answer)
    (count_turns_up_to turns (number +ℤ pos 1) limit body answer))))
    (give answer)

unfoldable pub count_turns : (number limit : ℤ) → (Value → ValueRun) → (answer : Value) → ValueRun
count_turns number limit body answer =
    seeing (λ budget local. count_turns_up_to (suc budget.units) number limit body answer)

-- the same between two values; E5 unless both are integers
abbrev pub count_between : Pair → (Value → ValueRun) → (answer : Value) → ValueRun
count_between (Ints number limit) body answer = count_turns number limit body answer
count_between Others body answer = fail fault.ArgumentKind

-- The turns of loops: no more of them can be had than there are units.
use Rattle.std.proofs.Common.{◌≡◌, ◌∙◌, refl, sym, ℕ, zero, suc, ◌<◌, Bool, true, false, ℤ, pos, ◌+ℤ◌, int_le, arith}
use Rattle.object_programs.specs.gem_object.declared.value.Value.{Value}
use Rattle.object_programs.specs.gem_object.declared.value.Value.TheVariants.{Nil, Int}
use Rattle.object_programs.specs.gem_world.World.{Setting}
use Rattle.object_programs.specs.texts.declared.integers.TheConstants.{LARGEST_INTEGER}
use Rattle.object_programs.specs.Atom.{Tick}
use Rattle.object_programs.specs.Run.{give, atom, and_then, Ending, gives, returns, fails, State, onward, perform}
use Rattle.object_programs.specs.Programs.{choose}
use Rattle.tree_meaning.specs.Place.{MadeBlock}
use Rattle.tree_meaning.specs.Operands.{ValueRun, truth_of, by_truth}
use Rattle.tree_meaning.specs.Loops.{while_turns_up_to, while_turns, count_turns_up_to, count_turns}
use Rattle.tree_meaning.specs.Reading.{Deed, deed, answers, then_do, either, with_units, spending, unit_then, by_condition}
use Rattle.tree_meaning.specs.declared.operand.Truth.{Truth}
use Rattle.tree_meaning.specs.declared.operand.Truth.TheVariants as truth
use Rattle.tree_meaning.proofs.Deeds.{units_fall, unit_first}

-- what follows an end may be said otherwise, where it follows with no more units
onward_falls : (end : Ending Value) (state : State MadeBlock) (first second : Value → Deed)
    → ((answer : Value) → first answer state ≡ second answer state)
    → onward end state first ≡ onward end state second
onward_falls (gives answer) state first second same = same answer
onward_falls (returns answer home) state first second same = refl
onward_falls (fails fault) state first second same = refl

-- a unit and then deeds that do the same with fewer units
unit_same : (first second : Deed) (state : State MadeBlock)
    → ((left : ℕ) → state.budget.units ≡ suc left → first (with_units left state) ≡ second (with_units left state))
    → (units : ℕ) → state.budget.units ≡ units → spending units first state ≡ spending units second state
unit_same first second state same zero is = refl
unit_same first second state same (suc left) is = same left is

condition_same : (test : Truth) (when : Bool) (first second other : Deed) (state : State MadeBlock)
    → first state ≡ second state
    → by_condition test when first other state ≡ by_condition test when second other state
condition_same truth.True true first second other state same = same
condition_same truth.True false first second other state same = refl
condition_same truth.False true first second other state same = refl
condition_same truth.False false first second other state same = same
condition_same truth.Neither when first second other state same = refl

module _ (setting : Setting) where
  choice_read : (test : Truth) (when : Bool) (first second : ValueRun) (state : State MadeBlock)
      → perform (by_truth test when first second) setting state
      ≡ by_condition test when (deed setting first) (deed setting second) state
  choice_read truth.True true first second state = refl
  choice_read truth.True false first second state = refl
  choice_read truth.False true first second state = refl
  choice_read truth.False false first second state = refl
  choice_read truth.Neither when first second state = refl

  module _ (when : Bool) (condition body : ValueRun) where
    -- one turn, and then the turns that follow
    abbrev turn : Deed → Deed
    turn next = then_do (deed setting condition) (λ test.
        by_condition (truth_of test) when
        (unit_then (then_do (deed setting body) (λ answer. next)))
        (answers Nil))

    turn_read : (turns : ℕ) (state : State MadeBlock)
        → perform (while_turns_up_to (suc turns) when condition body) setting state
        ≡ turn (deed setting (while_turns_up_to turns when condition body)) state
    turn_read turns state =
        let before = perform condition setting state in
        let rest = and_then body (λ answer. while_turns_up_to turns when condition body) in
        onward_falls before.end before.state
        (λ test later. perform (by_truth (truth_of test) when
        (and_then (atom Tick) (λ ticked. rest)) (give Nil)) setting later)
        (λ test later. by_condition (truth_of test) when (unit_then (deed setting rest)) (answers Nil)
        later)
        (λ test. choice_read (truth_of test) when (and_then (atom Tick) (λ ticked. rest)) (give Nil)
        before.state
        ∙ condition_same (truth_of test) when
        (deed setting (and_then (atom Tick) (λ ticked. rest)))
        (unit_then (deed setting rest)) (answers Nil) before.state
        (unit_first setting rest before.state))

    -- deeds that do the same with fewer units do the same after a turn
    turn_same : (first second : Deed) (state : State MadeBlock)
        → ((later : State MadeBlock) → later.budget.units < state.budget.units → first later ≡ second later)
        → turn first state ≡ turn second state
    turn_same first second state same =
        let before = perform condition setting state in
        let falls = units_fall setting condition state in
        let after = λ (left : ℕ). perform body setting (with_units left before.state) in
        let next = λ (deed_then : Deed). then_do (deed setting body) (λ answer. deed_then) in
        onward_falls before.end before.state
        (λ test later. by_condition (truth_of test) when (unit_then (next first)) (answers Nil) later)
        (λ test later. by_condition (truth_of test) when (unit_then (next second)) (answers Nil) later)
        (λ test. condition_same (truth_of test) when (unit_then (next first)) (unit_then (next second))
        (answers Nil) before.state
        (unit_same (next first) (next second) before.state
        (λ left is. onward_falls (after left).end (after left).state
        (λ answer. first) (λ answer. second)
        (λ answer. same (after left).state
        (omega (arith, is, falls, units_fall setting body (with_units left before.state)))))
        before.state.budget.units refl))

    enough_turns : (turns others : ℕ) (state : State MadeBlock) → state.budget.units < turns
        → state.budget.units < others
        → perform (while_turns_up_to turns when condition body) setting state
        ≡ perform (while_turns_up_to others when condition body) setting state
    enough_turns zero others state some more = absurd (omega (arith, some))
    enough_turns (suc turns) zero state some more = absurd (omega (arith, more))
    enough_turns (suc turns) (suc others) state some more =
        turn_read turns state
        ∙ turn_same (deed setting (while_turns_up_to turns when condition body))
        (deed setting (while_turns_up_to others when condition body)) state
        (λ later fewer. enough_turns turns others later (omega (arith, fewer, some))
        (omega (arith, fewer, more)))
        ∙ sym (turn_read others state)

    -- the turns of a while loop, each like the first
    pub while_read : (state : State MadeBlock)
        → perform (while_turns when condition body) setting state
        ≡ turn (deed setting (while_turns when condition body)) state
    unfolding while_turns
    while_read state =
        turn_read state.budget.units state
        ∙ turn_same (deed setting (while_turns_up_to state.budget.units when condition body))
        (deed setting (while_turns when condition body)) state
        (λ later fewer. enough_turns state.budget.units (suc later.budget.units) later fewer
        (omega arith))

  either_read : (test : Bool) (first second : ValueRun) (state : State MadeBlock)
      → perform (choose test first second) setting state
      ≡ either test (deed setting first) (deed setting second) state
  either_read true first second state = refl
  either_read false first second state = refl

  either_same : (test : Bool) (first second other another : Deed) (state : State MadeBlock)
      → first state ≡ second state → other state ≡ another state
      → either test first other state ≡ either test second another state
  either_same true first second other another state same also = same
  either_same false first second other another state same also = also

  module _ (limit : ℤ) (body : Value → ValueRun) (answer : Value) where
    abbrev counted : (number : ℤ) → Deed → Deed
    counted number next = either (int_le number limit)
        (unit_then (then_do (deed setting (body (Int number))) (λ ended.
        either (int_le LARGEST_INTEGER number) (answers answer) next)))
        (answers answer)

    counted_read : (turns : ℕ) (number : ℤ) (state : State MadeBlock)
        → perform (count_turns_up_to (suc turns) number limit body answer) setting state
        ≡ counted number (deed setting (count_turns_up_to turns (number +ℤ pos 1) limit body answer)) state
    counted_read turns number state =
        let next = count_turns_up_to turns (number +ℤ pos 1) limit body answer in
        let ends = choose (int_le LARGEST_INTEGER number) (give answer) next in
        let rest = and_then (body (Int number)) (λ ended. ends) in
        let after = λ (left : ℕ). perform (body (Int number)) setting (with_units left state) in
        either_read (int_le number limit) (and_then (atom Tick) (λ ticked. rest)) (give answer) state
        ∙ either_same (int_le number limit) (deed setting (and_then (atom Tick) (λ ticked. rest)))
        (unit_then (then_do (deed setting (body (Int number))) (λ ended.
        either (int_le LARGEST_INTEGER number) (answers answer) (deed setting next))))
        (answers answer) (answers answer) state
        (unit_first setting rest state
        ∙ unit_same (deed setting rest)
        (then_do (deed setting (body (Int number))) (λ ended.
        either (int_le LARGEST_INTEGER number) (answers answer) (deed setting next)))
        state
        (λ left is. onward_falls (after left).end (after left).state
        (λ ended. deed setting ends)
        (λ ended. either (int_le LARGEST_INTEGER number) (answers answer)
        (deed setting next))
        (λ ended. either_read (int_le LARGEST_INTEGER number) (give answer) next
        (after left).state))
        state.budget.units refl)
        refl

    counted_same : (number : ℤ) (first second : Deed) (state : State MadeBlock)
        → ((later : State MadeBlock) → later.budget.units < state.budget.units → first later ≡ second later)
        → counted number first state ≡ counted number second state
    counted_same number first second state same =
        let after = λ (left : ℕ). perform (body (Int number)) setting (with_units left state) in
        let rest = λ (next : Deed). then_do (deed setting (body (Int number))) (λ ended.
        either (int_le LARGEST_INTEGER number) (answers answer) next) in
        either_same (int_le number limit) (unit_then (rest first)) (unit_then (rest second))
        (answers answer) (answers answer) state
        (unit_same (rest first) (rest second) state
        (λ left is. onward_falls (after left).end (after left).state
        (λ ended. either (int_le LARGEST_INTEGER number) (answers answer) first)
        (λ ended. either (int_le LARGEST_INTEGER number) (answers answer) second)
        (λ ended. either_same (int_le LARGEST_INTEGER number) (answers answer) (answers answer)
        first second (after left).state refl
        (same (after left).state (omega (
          arith,
          is,
          units_fall setting (body (Int number)) (with_units left state),
        )))))
        state.budget.units refl)
        refl

    enough_counted : (turns others : ℕ) (number : ℤ) (state : State MadeBlock)
        → state.budget.units < turns → state.budget.units < others
        → perform (count_turns_up_to turns number limit body answer) setting state
        ≡ perform (count_turns_up_to others number limit body answer) setting state
    enough_counted zero others number state some more = absurd (omega (arith, some))
    enough_counted (suc turns) zero number state some more = absurd (omega (arith, more))
    enough_counted (suc turns) (suc others) number state some more =
        counted_read turns number state
        ∙ counted_same number
        (deed setting (count_turns_up_to turns (number +ℤ pos 1) limit body answer))
        (deed setting (count_turns_up_to others (number +ℤ pos 1) limit body answer)) state
        (λ later fewer. enough_counted turns others (number +ℤ pos 1) later
        (omega (arith, fewer, some)) (omega (arith, fewer, more)))
        ∙ sym (counted_read others number state)

    -- the turns of a counting loop, each like the first
    pub count_read : (number : ℤ) (state : State MadeBlock)
        → perform (count_turns number limit body answer) setting state
        ≡ counted number (deed setting (count_turns (number +ℤ pos 1) limit body answer)) state
    unfolding count_turns
    count_read number state =
        counted_read state.budget.units number state
        ∙ counted_same number
        (deed setting (count_turns_up_to state.budget.units (number +ℤ pos 1) limit body answer))
        (deed setting (count_turns (number +ℤ pos 1) limit body answer)) state
        (λ later fewer. enough_counted state.budget.units (suc later.budget.units)
        (number +ℤ pos 1) later fewer (omega arith))

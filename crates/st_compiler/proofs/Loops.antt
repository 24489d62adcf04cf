-- The code of loops.
use Rattle.std.proofs.Common.{◌≡◌, refl, sym, ap, subst, subst₂, true≢false, ℕ, zero, suc, ◌+◌, ◌-◌, ◌<◌, Bool, true, false, ℤ, pos, ◌+ℤ◌, int_le, List, [], ◌∷◌, ◌++◌, length, length-append, slice_get, Some, arith}
use Rattle.gem_object.specs.declared.value.Value.{Value}
use Rattle.gem_object.specs.declared.value.Value.TheVariants as value
use Rattle.tree_meaning.specs.gem_world.World.{Setting}
use Rattle.gem_object.specs.texts.declared.integers.TheConstants.{LARGEST_INTEGER}
use Rattle.tree_meaning.specs.object_programs.Atom.{Tick}
use Rattle.tree_meaning.specs.object_programs.Run.{give, atom, and_then, fails, State}
use Rattle.tree_meaning.specs.object_programs.Programs.{choose}
use Rattle.tree_meaning.specs.object_programs.declared.fault.Fault.TheVariants as fault
use Rattle.tree_meaning.specs.Place.{Frame, MadeBlock}
use Rattle.tree_meaning.specs.Operands.{ValueRun, truth_of, by_truth, int_pair}
use Rattle.tree_meaning.specs.Loops.{while_turns_up_to, while_turns, count_turns_up_to, count_turns, count_between}
use Rattle.tree_meaning.specs.Meaning.{Outside}
use Rattle.tree_meaning.specs.declared.operand.Pair.{Pair}
use Rattle.tree_meaning.specs.declared.operand.Pair.TheVariants.{Ints, Others}
use Rattle.st_compiler.specs.Instruction.{Instruction, PushNil, Pop, JumpBack, TakeUnit, LoopStart, LoopNext, LoopStep}
use Rattle.st_compiler.specs.Code.{Piece, Part, Gen, jump_unless, while_part, while_code, count_code}
use Rattle.st_compiler.specs.Machine.{over, either, on_ints}
use Rattle.st_compiler.proofs.Steps.{HasAt, first_has, then_has, with_units, Comes, Follows, comes_then, comes_follows, steps, jumps_back, stops, follows_then, follows_at, follows_within, tick_follows}
use Rattle.st_compiler.proofs.Right.{Right, comes_at, pop_comes, by_choice}

module _ (outside : Outside) (setting : Setting) (table : List Piece) (code : List Instruction) where
  module _ (when : Bool) (one two : Part) (place : ℕ) (stack : List Value) (frame : Frame)
      (condition body : ValueRun)
      (has : HasAt code place (while_part when one two).code) where
    abbrev test_place : ℕ
    test_place = place + length one.code

    abbrev body_place : ℕ
    body_place = suc (suc test_place)

    abbrev body_end : ℕ
    body_end = body_place + length two.code

    abbrev while_end : ℕ
    while_end = suc (suc (suc body_end))

    abbrev turn_end : List Instruction
    turn_end = Pop ∷ JumpBack (length one.code + length two.code + 3) ∷ PushNil ∷ []

    abbrev test_on : List Instruction
    test_on = jump_unless when (length two.code + 3) ∷ TakeUnit ∷ (two.code ++ turn_end)

    back_to_test : (later : State MadeBlock) (answer : Value)
        → Comes outside setting table code 1 body_end (answer ∷ stack) frame later place stack frame later
    back_to_test later answer =
        let at = then_has code place one.code test_on has in
        let after = then_has code body_place two.code turn_end at.1.1 in
        let back = suc body_end - (length one.code + length two.code + 3) in
        comes_then outside setting table code 0 1 body_end (answer ∷ stack) frame later (suc body_end)
        stack frame later place stack frame later
        (pop_comes outside setting table code body_end answer stack frame later after.0)
        (comes_at outside setting table code 1 (suc body_end) stack frame later back place stack frame
        later (omega arith)
        (jumps_back outside setting table code (suc body_end) stack frame later
        (JumpBack (length one.code + length two.code + 3)) after.1.0 back stack frame later
        (λ next back. refl) (omega arith)))

    ends_with_nil : (later : State MadeBlock)
        → Follows outside setting table code 0 (suc test_place + (length two.code + 3)) stack frame later
        while_end stack frame (give value.Nil)
    ends_with_nil later =
        let at = then_has code place one.code test_on has in
        let after = then_has code body_place two.code turn_end at.1.1 in
        let here = suc test_place + (length two.code + 3) in
        let same : suc (suc body_end) ≡ here = omega arith in
        record {
          does = comes_at outside setting table code 0 here stack frame later (suc here) while_end
              (value.Nil ∷ stack) frame later (omega arith)
              (steps outside setting table code here stack frame later PushNil
              (subst (λ place. slice_get code place ≡ Some PushNil) same after.1.1.0) (suc here)
              (value.Nil ∷ stack) frame later (λ next back. refl) (omega arith));
        }

    module _ (tests : (state : State MadeBlock)
        → Follows outside setting table code 0 place stack frame state test_place stack frame condition)
        (bodies : (state : State MadeBlock)
        → Follows outside setting table code 0 body_place stack frame state body_end stack frame body)
      where
        turns_follow : (turns : ℕ) (state : State MadeBlock) → state.budget.units < turns
            → Follows outside setting table code 0 place stack frame state while_end stack frame
            (while_turns_up_to turns when condition body)
        turns_follow zero state within = absurd (omega (arith, within))
        turns_follow (suc turns) state within =
            let at = then_has code place one.code test_on has in
            let loop = while_turns_up_to turns when condition body in
            let turn = and_then (atom Tick) (λ ticked. and_then body (λ answer. loop)) in
            follows_then outside setting table code 0 0 place stack frame state test_place stack frame
            while_end stack frame condition
            (λ test. by_truth (truth_of test) when turn (give value.Nil))
            (tests state)
            (λ test meanwhile falls. by_choice outside setting table code test_place
            (length two.code + 3) test stack frame meanwhile 0 while_end stack turn
            (give value.Nil) when at.0
            (tick_follows outside setting table code 0 (suc test_place) stack frame meanwhile
            while_end stack frame at.1.0 (and_then body (λ answer. loop))
            (λ left is. follows_then outside setting table code 0 1 body_place stack frame
            (with_units left meanwhile) body_end stack frame while_end stack frame body
            (λ answer. loop) (bodies (with_units left meanwhile))
            (λ answer later fall. comes_follows outside setting table code 1 0 body_end
            (answer ∷ stack) frame later place stack frame later while_end stack frame
            loop (back_to_test later answer)
            (turns_follow turns later (omega (arith, within, falls, is, fall)))
            loop refl)))
            (ends_with_nil meanwhile) (truth_of test) refl)

        pub while_follows : (state : State MadeBlock)
            → Follows outside setting table code 0 place stack frame state while_end stack frame
            (while_turns when condition body)
        unfolding while_turns
        while_follows state =
            record { does = (turns_follow (suc state.budget.units) state (omega arith)).does }

  pub while_right : (when : Bool) (one two : Gen) (stack : List Value) (frame : Frame)
      (condition body : ValueRun)
      → Right outside setting table code one stack stack frame condition
      → Right outside setting table code two stack stack frame body
      → Right outside setting table code (while_code when one two) stack stack frame
      (while_turns when condition body)
  while_right when one two stack frame condition body tests bodies = record {
    at = λ place number state has pieces.
        let first = one number in
        let second = two (number + length first.pieces) in
        let on = test_on when first second place stack frame condition body has in
        let at = then_has code place first.code on has in
        let end = turn_end when first second place stack frame condition body has in
        follows_at outside setting table code 0 place stack frame state
        (while_end when first second place stack frame condition body has)
        (place + length (first.code ++ on)) stack frame (while_turns when condition body)
        (omega (arith, length-append first.code on, length-append second.code end))
        (while_follows when first second place stack frame condition body has
        (λ later. tests.at place number later (first_has code place first.code on has)
        (first_has table number first.pieces second.pieces pieces))
        (λ later. bodies.at (suc (suc (place + length first.code)))
        (number + length first.pieces) later
        (first_has code (suc (suc (place + length first.code))) second.code end at.1.1)
        (then_has table number first.pieces second.pieces pieces))
        state);
  }

  -- counting
  module _ (one : Part) (place : ℕ) (answer : Value) (stack : List Value) (frame : Frame)
      (body : Value → ValueRun) (limit : ℤ)
      (at_next : slice_get code place ≡ Some (LoopNext (length one.code + 3)))
      (at_unit : slice_get code (suc place) ≡ Some TakeUnit) where
    abbrev counted_place : ℕ
    counted_place = suc (suc place)

    abbrev counted_end : ℕ
    counted_end = counted_place + length one.code

    abbrev count_end : ℕ
    count_end = suc (suc counted_end)

    module _ (at_pop : slice_get code counted_end ≡ Some Pop)
        (at_step : slice_get code (suc counted_end) ≡ Some (LoopStep (length one.code + 3)))
        (bodies : (number last now : Value) (state : State MadeBlock)
        → Follows outside setting table code 0 counted_place (number ∷ last ∷ now ∷ answer ∷ stack) frame
        state counted_end (last ∷ now ∷ answer ∷ stack) frame (body number)) where
      step_follows : (number : ℤ) (later : State MadeBlock) (loop : ValueRun)
          → Follows outside setting table code 0 place
          (value.Int limit ∷ value.Int (number +ℤ pos 1) ∷ answer ∷ stack) frame later count_end stack
          frame loop
          → (last : Bool) → int_le LARGEST_INTEGER number ≡ last
          → Follows outside setting table code 1 (suc counted_end)
          (value.Int limit ∷ value.Int number ∷ answer ∷ stack) frame later count_end stack frame
          (choose last (give answer) loop)
      step_follows number later loop goes true is =
          follows_within outside setting table code 0 1 (suc counted_end)
          (value.Int limit ∷ value.Int number ∷ answer ∷ stack) frame later count_end stack frame
          (omega arith) (give answer)
          (record {
            does = steps outside setting table code (suc counted_end)
                (value.Int limit ∷ value.Int number ∷ answer ∷ stack) frame later
                (LoopStep (length one.code + 3)) at_step count_end (answer ∷ stack) frame later
                (λ next back. ap (λ last. either last (next count_end (answer ∷ stack) frame later)
                (back (suc counted_end - (length one.code + 3))
                (value.Int limit ∷ value.Int (number +ℤ pos 1) ∷ answer ∷ stack) frame later))
                is)
                (omega arith);
          })
      step_follows number later loop goes false is =
          let behind = suc counted_end - (length one.code + 3) in
          comes_follows outside setting table code 1 0 (suc counted_end)
          (value.Int limit ∷ value.Int number ∷ answer ∷ stack) frame later place
          (value.Int limit ∷ value.Int (number +ℤ pos 1) ∷ answer ∷ stack) frame later count_end stack
          frame loop
          (comes_at outside setting table code 1 (suc counted_end)
          (value.Int limit ∷ value.Int number ∷ answer ∷ stack) frame later behind place
          (value.Int limit ∷ value.Int (number +ℤ pos 1) ∷ answer ∷ stack) frame later
          (omega arith)
          (jumps_back outside setting table code (suc counted_end)
          (value.Int limit ∷ value.Int number ∷ answer ∷ stack) frame later
          (LoopStep (length one.code + 3)) at_step behind
          (value.Int limit ∷ value.Int (number +ℤ pos 1) ∷ answer ∷ stack) frame later
          (λ next back. ap (λ last. either last (next count_end (answer ∷ stack) frame later)
          (back behind
          (value.Int limit ∷ value.Int (number +ℤ pos 1) ∷ answer ∷ stack) frame later))
          is)
          (omega arith)))
          goes loop refl

      turn_by : (number : ℤ) (state : State MadeBlock) (loop : ValueRun)
          → ((later : State MadeBlock) → later.budget.units < state.budget.units
          → Follows outside setting table code 0 place
          (value.Int limit ∷ value.Int (number +ℤ pos 1) ∷ answer ∷ stack) frame later count_end stack
          frame loop)
          → (within_limit : Bool) → int_le number limit ≡ within_limit
          → Follows outside setting table code 0 place
          (value.Int limit ∷ value.Int number ∷ answer ∷ stack) frame state count_end stack frame
          (choose within_limit
          (and_then (atom Tick) (λ ticked. and_then (body (value.Int number)) (λ ended.
          choose (int_le LARGEST_INTEGER number) (give answer) loop)))
          (give answer))
      turn_by number state loop goes true is =
          let pair = value.Int limit ∷ value.Int number ∷ answer ∷ stack in
          let rest = and_then (body (value.Int number)) (λ ended.
          choose (int_le LARGEST_INTEGER number) (give answer) loop) in
          let turn = and_then (atom Tick) (λ ticked. rest) in
          comes_follows outside setting table code 0 0 place pair frame state (suc place)
          (value.Int number ∷ pair) frame state count_end stack frame turn
          (steps outside setting table code place pair frame state (LoopNext (length one.code + 3))
          at_next (suc place) (value.Int number ∷ pair) frame state
          (λ next back. ap (λ within_limit. either within_limit
          (next (suc place) (value.Int number ∷ pair) frame state)
          (next (suc place + (length one.code + 3)) (answer ∷ stack) frame state)) is)
          (omega arith))
          (tick_follows outside setting table code 0 (suc place) (value.Int number ∷ pair) frame state
          count_end stack frame at_unit rest
          (λ left units. follows_then outside setting table code 0 1 counted_place
          (value.Int number ∷ pair) frame (with_units left state) counted_end pair frame
          count_end stack frame (body (value.Int number))
          (λ ended. choose (int_le LARGEST_INTEGER number) (give answer) loop)
          (bodies (value.Int number) (value.Int limit) (value.Int number)
          (with_units left state))
          (λ ended later falls. comes_follows outside setting table code 0 1 counted_end
          (ended ∷ pair) frame later (suc counted_end) pair frame later count_end stack
          frame (choose (int_le LARGEST_INTEGER number) (give answer) loop)
          (pop_comes outside setting table code counted_end ended pair frame later at_pop)
          (step_follows number later loop (goes later (omega (arith, falls, units)))
          (int_le LARGEST_INTEGER number) refl)
          (choose (int_le LARGEST_INTEGER number) (give answer) loop) refl)))
          turn refl
      turn_by number state loop goes false is =
          let pair = value.Int limit ∷ value.Int number ∷ answer ∷ stack in
          let past = suc place + (length one.code + 3) in
          record {
            does = comes_at outside setting table code 0 place pair frame state past count_end
                (answer ∷ stack) frame state (omega arith)
                (steps outside setting table code place pair frame state (LoopNext (length one.code + 3))
                at_next past (answer ∷ stack) frame state
                (λ next back. ap (λ within_limit. either within_limit
                (next (suc place) (value.Int number ∷ pair) frame state)
                (next past (answer ∷ stack) frame state)) is)
                (omega arith));
          }

      counts_follow : (turns : ℕ) (number : ℤ) (state : State MadeBlock) → state.budget.units < turns
          → Follows outside setting table code 0 place
          (value.Int limit ∷ value.Int number ∷ answer ∷ stack) frame state count_end stack frame
          (count_turns_up_to turns number limit body answer)
      counts_follow zero number state within = absurd (omega (arith, within))
      counts_follow (suc turns) number state within =
          turn_by number state (count_turns_up_to turns (number +ℤ pos 1) limit body answer)
          (λ later fewer. counts_follow turns (number +ℤ pos 1) later (omega (arith, fewer, within)))
          (int_le number limit) refl

      pub count_follows : (number : ℤ) (state : State MadeBlock)
          → Follows outside setting table code 0 place
          (value.Int limit ∷ value.Int number ∷ answer ∷ stack) frame state count_end stack frame
          (count_turns number limit body answer)
      unfolding count_turns
      count_follows number state =
          record { does = (counts_follow (suc state.budget.units) number state (omega arith)).does }

  first_of : Pair → ℤ
  first_of (Ints first limit) = first
  first_of Others = pos 0

  limit_of : Pair → ℤ
  limit_of (Ints first limit) = limit
  limit_of Others = pos 0

  are_ints : Pair → Bool
  are_ints (Ints first limit) = true
  are_ints Others = false

  -- two values that are the ends of a loop are integers
  ints_are : (counter last : Value) (number limit : ℤ) → int_pair counter last ≡ Ints number limit
      → (counter ≡ value.Int number) × (last ≡ value.Int limit)
  unfolding first_of limit_of are_ints
  ints_are (value.Int first) (value.Int second) number limit is =
      (ap value.Int (ap first_of is), ap value.Int (ap limit_of is))
  ints_are counter last number limit is = absurd (true≢false (sym (ap are_ints is)))

  started : (part : Part) (place number : ℕ) (counter last answer : Value) (stack : List Value)
      (frame : Frame) (body : Value → ValueRun) (state : State MadeBlock)
      → slice_get code place ≡ Some LoopStart
      → slice_get code (suc place) ≡ Some (LoopNext (length part.code + 3))
      → slice_get code (suc (suc place)) ≡ Some TakeUnit
      → slice_get code (suc (suc (suc place)) + length part.code) ≡ Some Pop
      → slice_get code (suc (suc (suc (suc place)) + length part.code))
      ≡ Some (LoopStep (length part.code + 3))
      → ((each limit now : Value) (later : State MadeBlock)
      → Follows outside setting table code 0 (suc (suc (suc place)))
      (each ∷ limit ∷ now ∷ answer ∷ stack) frame later (suc (suc (suc place)) + length part.code)
      (limit ∷ now ∷ answer ∷ stack) frame (body each))
      → (pair : Pair) → int_pair counter last ≡ pair
      → Follows outside setting table code 0 place (last ∷ counter ∷ answer ∷ stack) frame state
      (suc (suc (suc (suc (suc place)) + length part.code))) stack frame (count_between pair body answer)
  started part place number counter last answer stack frame body state at_start at_next at_unit at_pop
      at_step bodies (Ints first limit) is =
      let pair = last ∷ counter ∷ answer ∷ stack in
      let ints = ints_are counter last first limit is in
      let there = suc (suc (suc (suc (suc place)) + length part.code)) in
      let loop = count_turns first limit body answer in
      comes_follows outside setting table code 0 0 place pair frame state (suc place) pair frame state there
      stack frame loop
      (steps outside setting table code place pair frame state LoopStart at_start (suc place) pair frame
      state
      (λ next back. ap (λ both. on_ints both
      (over (record { end = fails fault.ArgumentKind; state = state }))
      (λ (lower upper : ℤ). next (suc place) pair frame state)) is)
      (omega arith))
      (subst₂ (λ upper lower. Follows outside setting table code 0 (suc place)
      (upper ∷ lower ∷ answer ∷ stack) frame state there stack frame loop)
      (sym ints.1) (sym ints.0)
      (count_follows part (suc place) answer stack frame body limit at_next at_unit at_pop at_step
      bodies first state))
      loop refl
  started part place number counter last answer stack frame body state at_start at_next at_unit at_pop
      at_step bodies Others is =
      let pair = last ∷ counter ∷ answer ∷ stack in
      record {
        does = stops outside setting table code place pair frame state LoopStart at_start
            (record { end = fails fault.ArgumentKind; state = state })
            (λ next back. ap (λ both. on_ints both
            (over (record { end = fails fault.ArgumentKind; state = state }))
            (λ (lower upper : ℤ). next (suc place) pair frame state)) is)
            (omega arith);
      }

  pub count_right : (one : Gen) (counter last answer : Value) (stack : List Value) (frame : Frame)
      (body : Value → ValueRun)
      → ((number limit now : Value) → Right outside setting table code one
      (number ∷ limit ∷ now ∷ answer ∷ stack) (limit ∷ now ∷ answer ∷ stack) frame (body number))
      → Right outside setting table code (count_code one) (last ∷ counter ∷ answer ∷ stack) stack frame
      (count_between (int_pair counter last) body answer)
  count_right one counter last answer stack frame body bodies = record {
    at = λ place number state has pieces.
        let part = one number in
        let rest = Pop ∷ LoopStep (length part.code + 3) ∷ [] in
        let here = suc (suc (suc place)) in
        let after = then_has code here part.code rest has.1.1.1 in
        let there = suc (suc (here + length part.code)) in
        follows_at outside setting table code 0 place (last ∷ counter ∷ answer ∷ stack) frame state there
        (place + suc (suc (suc (length (part.code ++ rest))))) stack frame
        (count_between (int_pair counter last) body answer)
        (omega (arith, length-append part.code rest))
        (started part place number counter last answer stack frame body state has.0 has.1.0 has.1.1.0
        after.0 after.1.0
        (λ each limit now later. (bodies each limit now).at here number later
        (first_has code here part.code rest has.1.1.1) pieces)
        (int_pair counter last) refl);
  }

-- How code goes on from place to place. What is allowed is counted in stretches between jumps back:
-- at most so many are needed as units are spent, and some more.
use Rattle.std.proofs.Common.{◌≡◌, ◌∙◌, refl, sym, ap, subst, ℕ, zero, suc, ◌+◌, ◌≤◌, List, [], ◌∷◌, ◌++◌, length, slice_get, Some, arith}
use Rattle.gem_object.specs.declared.value.Value.{Value}
use Rattle.tree_meaning.specs.gem_world.World.{Setting}
use Rattle.tree_meaning.specs.object_programs.Atom.{Tick, ticked}
use Rattle.tree_meaning.specs.object_programs.Run.{Run, atom, and_then, Ending, gives, returns, fails, State, Outcome, end_of, onward, perform}
use Rattle.tree_meaning.specs.object_programs.Laws.{Falls}
use Rattle.tree_meaning.specs.object_programs.declared.fault.Fault.TheVariants as fault
use Rattle.tree_meaning.proofs.object_programs_lemmas.Kept.{kept}
use Rattle.tree_meaning.proofs.object_programs_lemmas.Falling.{budgets_fall}
use Rattle.tree_meaning.specs.Place.{Frame, MadeBlock}
use Rattle.tree_meaning.specs.Operands.{ValueRun}
use Rattle.tree_meaning.specs.Meaning.{Outside}
use Rattle.st_compiler.specs.Instruction.{Instruction, TakeUnit}
use Rattle.st_compiler.specs.Code.{Piece}
use Rattle.st_compiler.specs.Machine.{CodeEnd, over, Next, after, does, act, straight, execute}

-- the units never grow
pub units_fall : {A : Type 0} (setting : Setting) (program : Run MadeBlock A) (state : State MadeBlock)
    → (perform program setting state).state.budget.units ≤ state.budget.units
units_fall setting program state = (kept setting Falls (budgets_fall setting) program state).units

-- so much of a list stands in another one from here on
abbrev pub HasAt : {A : Type 0} → List A → ℕ → List A → Type 0
HasAt whole place [] = Unit {0}
HasAt whole place (first ∷ rest) = (slice_get whole place ≡ Some first) × HasAt whole (suc place) rest

pub first_has : {A : Type 0} (whole : List A) (place : ℕ) (xs ys : List A) → HasAt whole place (xs ++ ys)
    → HasAt whole place xs
first_has whole place [] ys has = tt
first_has whole place (x ∷ xs) ys has = (has.0, first_has whole (suc place) xs ys has.1)

pub then_has : {A : Type 0} (whole : List A) (place : ℕ) (xs ys : List A) → HasAt whole place (xs ++ ys)
    → HasAt whole (place + length xs) ys
then_has whole place [] ys has =
    let same : place ≡ place + 0 = omega arith in
    subst (λ at. HasAt whole at ys) same has
then_has whole place (x ∷ xs) ys has =
    let same : suc place + length xs ≡ place + suc (length xs) = omega arith in
    subst (λ at. HasAt whole at ys) same (then_has whole (suc place) xs ys has.1)

-- one instruction more
abbrev pub one_more : List ℕ → List ℕ
one_more [] = []
one_more (count ∷ rest) = suc count ∷ rest

pub one_more_length : (allowed : List ℕ) → length (one_more allowed) ≡ length allowed
one_more_length [] = refl
one_more_length (count ∷ rest) = refl

abbrev pub with_units : ℕ → State MadeBlock → State MadeBlock
with_units left state = record state { budget = record state.budget { units = left } }

module _ (outside : Outside) (setting : Setting) (table : List Piece) (code : List Instruction) where
  abbrev pub go : List ℕ → Next
  go allowed = execute outside setting table code allowed

  -- from the one place code comes to the other one
  pub record Comes (extra place : ℕ) (pre : List Value) (frame : Frame) (state : State MadeBlock)
      (there : ℕ) (stack : List Value) (inner : Frame) (later : State MadeBlock) : Type 0 where
    pub by : (allowed : List ℕ) → (enough : List ℕ)
        × (length enough + later.budget.units ≤ length allowed + state.budget.units + extra)
        × (go enough place pre frame state ≡ go allowed there stack inner later)

  -- code ends so
  pub record Stops (extra place : ℕ) (pre : List Value) (frame : Frame) (state : State MadeBlock)
      (outcome : Outcome MadeBlock Value) : Type 0 where
    pub by : (enough : List ℕ)
        × (length enough + outcome.state.budget.units ≤ 1 + state.budget.units + extra)
        × (go enough place pre frame state ≡ over outcome)

  module _ (extra more : ℕ) (place : ℕ) (pre : List Value) (frame : Frame) (state : State MadeBlock)
      (between : ℕ) (middle : List Value) (within : Frame) (meanwhile : State MadeBlock) where
    pub comes_then : (there : ℕ) (stack : List Value) (inner : Frame) (later : State MadeBlock)
        → Comes extra place pre frame state between middle within meanwhile
        → Comes more between middle within meanwhile there stack inner later
        → Comes (extra + more) place pre frame state there stack inner later
    comes_then there stack inner later first second = record {
      by = λ allowed.
          let rest = second.by allowed in
          let whole = first.by rest.0 in
          (whole.0, omega (arith, rest.1, whole.1), whole.2 ∙ rest.2);
    }

    pub comes_stops : (outcome : Outcome MadeBlock Value)
        → Comes extra place pre frame state between middle within meanwhile
        → Stops more between middle within meanwhile outcome
        → Stops (extra + more) place pre frame state outcome
    comes_stops outcome first second =
        let whole = first.by second.by.0 in
        record { by = (whole.0, omega (arith, second.by.1, whole.1), whole.2 ∙ second.by.2) }

  module _ (place : ℕ) (pre : List Value) (frame : Frame) (state : State MadeBlock) (one : Instruction)
      (at : slice_get code place ≡ Some one) where
    pub goes_on : (there : ℕ) (stack : List Value) (inner : Frame) (later : State MadeBlock)
        → ((next back : Next) → act outside setting table (Some one) next back place pre frame state
        ≡ next there stack inner later)
        → (allowed : List ℕ)
        → go (one_more allowed) place pre frame state ≡ go allowed there stack inner later
    goes_on there stack inner later does [] = refl
    goes_on there stack inner later does (count ∷ rest) =
        ap (λ found. act outside setting table found (straight outside setting table code (go rest) count)
        (go rest) place pre frame state) at
        ∙ does (straight outside setting table code (go rest) count) (go rest)

    -- an instruction that goes on
    pub steps : (there : ℕ) (stack : List Value) (inner : Frame) (later : State MadeBlock)
        → ((next back : Next) → act outside setting table (Some one) next back place pre frame state
        ≡ next there stack inner later)
        → later.budget.units ≤ state.budget.units
        → Comes 0 place pre frame state there stack inner later
    steps there stack inner later does fall = record {
      by = λ allowed. (
        one_more allowed,
        omega (arith, one_more_length allowed, fall),
        goes_on there stack inner later does allowed,
      );
    }

    -- one that jumps back
    pub jumps_back : (there : ℕ) (stack : List Value) (inner : Frame) (later : State MadeBlock)
        → ((next back : Next) → act outside setting table (Some one) next back place pre frame state
        ≡ back there stack inner later)
        → later.budget.units ≤ state.budget.units
        → Comes 1 place pre frame state there stack inner later
    jumps_back there stack inner later does fall = record {
      by = λ allowed. (
        suc zero ∷ allowed,
        omega (arith, fall),
        ap (λ found. act outside setting table found
            (straight outside setting table code (go allowed) zero)
            (go allowed) place pre frame state) at
            ∙ does (straight outside setting table code (go allowed) zero) (go allowed),
      );
    }

    -- one that ends the code
    pub stops : (outcome : Outcome MadeBlock Value)
        → ((next back : Next) → act outside setting table (Some one) next back place pre frame state
        ≡ over outcome)
        → outcome.state.budget.units ≤ state.budget.units
        → Stops 0 place pre frame state outcome
    stops outcome does fall = record {
      by = (
        suc zero ∷ [],
        omega (arith, fall),
        ap (λ found. act outside setting table found
            (straight outside setting table code (go []) zero)
            (go []) place pre frame state) at
            ∙ does (straight outside setting table code (go []) zero) (go []),
      );
    }

  -- where code comes to when a program ends so from this state: to the answer on the stack, or to an end
  abbrev pub Reaches : (extra place : ℕ) (pre : List Value) (frame : Frame) (state : State MadeBlock)
      (there : ℕ) (stack : List Value) (inner : Frame) → Ending Value → State MadeBlock → Type 0
  Reaches extra place pre frame state there stack inner (gives answer) later =
      Comes extra place pre frame state there (answer ∷ stack) inner later
  Reaches extra place pre frame state there stack inner (returns answer home) later =
      Stops extra place pre frame state (record { end = returns answer home; state = later })
  Reaches extra place pre frame state there stack inner (fails fault) later =
      Stops extra place pre frame state (record { end = fails fault; state = later })

  -- code does what the program does from this state
  pub record Follows (extra place : ℕ) (pre : List Value) (frame : Frame) (state : State MadeBlock)
      (there : ℕ) (stack : List Value) (inner : Frame) (program : ValueRun) : Type 0 where
    pub does : Reaches extra place pre frame state there stack inner
        (perform program setting state).end (perform program setting state).state

  module _ (extra more : ℕ) (place : ℕ) (pre : List Value) (frame : Frame) (state : State MadeBlock)
      (between : ℕ) (middle : List Value) (within : Frame) (meanwhile : State MadeBlock)
      (there : ℕ) (stack : List Value) (inner : Frame) where
    pub comes_reaches : (end : Ending Value) (later : State MadeBlock)
        → Comes extra place pre frame state between middle within meanwhile
        → Reaches more between middle within meanwhile there stack inner end later
        → Reaches (extra + more) place pre frame state there stack inner end later
    comes_reaches (gives answer) later first second =
        comes_then extra more place pre frame state between middle within meanwhile there
        (answer ∷ stack) inner later first second
    comes_reaches (returns answer home) later first second =
        comes_stops extra more place pre frame state between middle within meanwhile
        (record { end = returns answer home; state = later }) first second
    comes_reaches (fails fault) later first second =
        comes_stops extra more place pre frame state between middle within meanwhile
        (record { end = fails fault; state = later }) first second

    -- first some instructions that change nothing but the stack, the frame and the variables, and then
    -- what the program does from there
    pub comes_follows : (program : ValueRun)
        → Comes extra place pre frame state between middle within meanwhile
        → Follows more between middle within meanwhile there stack inner program
        → (whole : ValueRun) → perform whole setting state ≡ perform program setting meanwhile
        → Follows (extra + more) place pre frame state there stack inner whole
    comes_follows program first second whole same = record {
      does = subst
          (λ outcome. Reaches (extra + more) place pre frame state there stack inner outcome.end
          outcome.state)
          (sym same)
          (comes_reaches (perform program setting meanwhile).end
          (perform program setting meanwhile).state first second.does);
    }

  module _ (extra more : ℕ) (place : ℕ) (pre : List Value) (frame : Frame) (state : State MadeBlock)
      (there : ℕ) (stack : List Value) (inner : Frame) where
    stops_longer : (outcome : Outcome MadeBlock Value) → Stops extra place pre frame state outcome
        → Stops (extra + more) place pre frame state outcome
    stops_longer outcome first =
        record { by = (first.by.0, omega (arith, first.by.1), first.by.2) }

  module _ (extra more : ℕ) (place : ℕ) (pre : List Value) (frame : Frame) (state : State MadeBlock)
      (between : ℕ) (middle : List Value) (within : Frame)
      (there : ℕ) (stack : List Value) (inner : Frame) where
    then_reaches : (second : Value → ValueRun)
        → ((answer : Value) (meanwhile : State MadeBlock)
        → meanwhile.budget.units ≤ state.budget.units
        → Follows more between (answer ∷ middle) within meanwhile there stack inner (second answer))
        → (end : Ending Value) (meanwhile : State MadeBlock)
        → meanwhile.budget.units ≤ state.budget.units
        → Reaches extra place pre frame state between middle within end meanwhile
        → Reaches (extra + more) place pre frame state there stack inner
        (onward end meanwhile (λ answer after. perform (second answer) setting after)).end
        (onward end meanwhile (λ answer after. perform (second answer) setting after)).state
    then_reaches second next (gives answer) meanwhile fall first =
        comes_reaches extra more place pre frame state between (answer ∷ middle) within meanwhile
        there stack inner (perform (second answer) setting meanwhile).end
        (perform (second answer) setting meanwhile).state first (next answer meanwhile fall).does
    then_reaches second next (returns answer home) meanwhile fall first =
        stops_longer extra more place pre frame state there stack inner
        (record { end = returns answer home; state = meanwhile }) first
    then_reaches second next (fails fault) meanwhile fall first =
        stops_longer extra more place pre frame state there stack inner
        (record { end = fails fault; state = meanwhile }) first

    -- one program after the other
    pub follows_then : (first : ValueRun) (second : Value → ValueRun)
        → Follows extra place pre frame state between middle within first
        → ((answer : Value) (meanwhile : State MadeBlock)
        → meanwhile.budget.units ≤ state.budget.units
        → Follows more between (answer ∷ middle) within meanwhile there stack inner (second answer))
        → Follows (extra + more) place pre frame state there stack inner (and_then first second)
    follows_then first second before next = record {
      does = then_reaches second next (perform first setting state).end
          (perform first setting state).state (units_fall setting first state) before.does;
    }

    on_reaches : ((answer : Value) (later : State MadeBlock)
        → Comes more between (answer ∷ middle) within later there (answer ∷ stack) inner later)
        → (end : Ending Value) (later : State MadeBlock)
        → Reaches extra place pre frame state between middle within end later
        → Reaches (extra + more) place pre frame state there stack inner end later
    on_reaches next (gives answer) later first =
        comes_then extra more place pre frame state between (answer ∷ middle) within later there
        (answer ∷ stack) inner later first (next answer later)
    on_reaches next (returns answer home) later first =
        stops_longer extra more place pre frame state there stack inner
        (record { end = returns answer home; state = later }) first
    on_reaches next (fails fault) later first =
        stops_longer extra more place pre frame state there stack inner
        (record { end = fails fault; state = later }) first

    -- a program, and then instructions that keep its answer
    pub follows_on : (program : ValueRun)
        → Follows extra place pre frame state between middle within program
        → ((answer : Value) (later : State MadeBlock)
        → Comes more between (answer ∷ middle) within later there (answer ∷ stack) inner later)
        → Follows (extra + more) place pre frame state there stack inner program
    follows_on program first next = record {
      does = on_reaches next (perform program setting state).end
          (perform program setting state).state first.does;
    }

  -- the same place, said otherwise
  pub follows_at : (extra place : ℕ) (pre : List Value) (frame : Frame) (state : State MadeBlock)
      (there other : ℕ) (stack : List Value) (inner : Frame) (program : ValueRun) → there ≡ other
      → Follows extra place pre frame state there stack inner program
      → Follows extra place pre frame state other stack inner program
  follows_at extra place pre frame state there other stack inner program same =
      subst (λ at. Follows extra place pre frame state at stack inner program) same

  -- an instruction that is a program
  module _ (place : ℕ) (pre stack : List Value) (frame : Frame) (state : State MadeBlock)
      (one : Instruction) (at : slice_get code place ≡ Some one) where
    performed : (end : Ending Value) (later : State MadeBlock)
        → later.budget.units ≤ state.budget.units
        → ((next back : Next) → act outside setting table (Some one) next back place pre frame state
        ≡ after end later (λ answer left. next (suc place) (answer ∷ stack) frame left))
        → Reaches 0 place pre frame state (suc place) stack frame end later
    performed (gives answer) later fall does =
        steps place pre frame state one at (suc place) (answer ∷ stack) frame later does fall
    performed (returns answer home) later fall does =
        stops place pre frame state one at (record { end = returns answer home; state = later }) does fall
    performed (fails fault) later fall does =
        stops place pre frame state one at (record { end = fails fault; state = later }) does fall

    pub performs : (program : ValueRun)
        → ((next back : Next) → act outside setting table (Some one) next back place pre frame state
        ≡ does program setting state
        (λ answer left. next (suc place) (answer ∷ stack) frame left))
        → Follows 0 place pre frame state (suc place) stack frame program
    performs program does = record {
      does = performed (perform program setting state).end (perform program setting state).state
          (units_fall setting program state) does;
    }

  -- code that needs as much, or less
  module _ (less extra : ℕ) (place : ℕ) (pre : List Value) (frame : Frame) (state : State MadeBlock)
      (there : ℕ) (stack : List Value) (inner : Frame) (within : less ≤ extra) where
    pub reaches_within : (end : Ending Value) (later : State MadeBlock)
        → Reaches less place pre frame state there stack inner end later
        → Reaches extra place pre frame state there stack inner end later
    reaches_within (gives answer) later first = record {
      by = λ allowed.
          let enough = first.by allowed in (enough.0, omega (arith, enough.1, within), enough.2);
    }
    reaches_within (returns answer home) later first =
        record { by = (first.by.0, omega (arith, first.by.1, within), first.by.2) }
    reaches_within (fails fault) later first =
        record { by = (first.by.0, omega (arith, first.by.1, within), first.by.2) }

    pub follows_within : (program : ValueRun)
        → Follows less place pre frame state there stack inner program
        → Follows extra place pre frame state there stack inner program
    follows_within program first = record {
      does = reaches_within (perform program setting state).end (perform program setting state).state
          first.does;
    }

  -- a unit
  module _ (extra place : ℕ) (pre : List Value) (frame : Frame) (state : State MadeBlock)
      (there : ℕ) (stack : List Value) (inner : Frame) (at : slice_get code place ≡ Some TakeUnit) where
    ticked_at : (units : ℕ) → (next : Next) → CodeEnd
    ticked_at units next = let one = ticked units state.world state.budget in
        after (end_of one.answer)
        (record { world = one.world; budget = one.budget; local = state.local })
        (λ answer later. next (suc place) pre frame later)

    ticks : (left : ℕ) → state.budget.units ≡ suc left → (end : Ending Value) (later : State MadeBlock)
        → Reaches (suc extra) (suc place) pre frame (with_units left state) there stack inner end later
        → Reaches extra place pre frame state there stack inner end later
    unfolding ticked_at
    ticks left is (gives answer) later next = record {
      by = λ allowed.
          let rest = next.by allowed in (
            one_more rest.0,
            omega (arith, one_more_length rest.0, rest.1, is),
            goes_on place pre frame state TakeUnit at (suc place) pre frame (with_units left state)
                (λ following back. ap (λ units. ticked_at units following) is) rest.0
                ∙ rest.2,
          );
    }
    ticks left is (returns answer home) later next = record {
      by = (
        one_more next.by.0,
        omega (arith, one_more_length next.by.0, next.by.1, is),
        goes_on place pre frame state TakeUnit at (suc place) pre frame (with_units left state)
            (λ following back. ap (λ units. ticked_at units following) is) next.by.0
            ∙ next.by.2,
      );
    }
    ticks left is (fails fault) later next = record {
      by = (
        one_more next.by.0,
        omega (arith, one_more_length next.by.0, next.by.1, is),
        goes_on place pre frame state TakeUnit at (suc place) pre frame (with_units left state)
            (λ following back. ap (λ units. ticked_at units following) is) next.by.0
            ∙ next.by.2,
      );
    }

    abbrev after_tick : (program : ValueRun) → (units : ℕ) → Outcome MadeBlock Value
    after_tick program units = let one = ticked units state.world state.budget in
        onward (end_of one.answer)
        (record { world = one.world; budget = one.budget; local = state.local })
        (λ answer later. perform program setting later)

    ticks_by : (program : ValueRun)
        → ((left : ℕ) → state.budget.units ≡ suc left
        → Follows (suc extra) (suc place) pre frame (with_units left state) there stack inner program)
        → (units : ℕ) → state.budget.units ≡ units
        → Reaches extra place pre frame state there stack inner (after_tick program units).end
        (after_tick program units).state
    unfolding ticked_at
    ticks_by program next zero is =
        reaches_within 0 extra place pre frame state there stack inner (omega arith)
        (fails fault.SendBudget) state
        (stops place pre frame state TakeUnit at
        (record { end = fails fault.SendBudget; state = state })
        (λ following back. ap (λ units. ticked_at units following) is) (omega arith))
    ticks_by program next (suc left) is =
        ticks left is (perform program setting (with_units left state)).end
        (perform program setting (with_units left state)).state (next left is).does

    -- a unit, where one is left, and then a program
    pub tick_follows : (program : ValueRun)
        → ((left : ℕ) → state.budget.units ≡ suc left
        → Follows (suc extra) (suc place) pre frame (with_units left state) there stack inner program)
        → Follows extra place pre frame state there stack inner (and_then (atom Tick) (λ done. program))
    tick_follows program next =
        record { does = ticks_by program next state.budget.units refl }

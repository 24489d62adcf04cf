-- The loops of the evaluator, by where they stand.
use Rattle.std.proofs.Common.{◌≡◌, refl, sym, subst, ap, ℕ, zero, suc, ◌<◌, ◌≤◌, Bool, true, false, not, ℤ, pos, ◌+ℤ◌, Ok, Err, arith}
use Rattle.std.specs.Prelude.{int_le}
use Rattle.gem_object.specs.declared.value.Value.{Value}
use Rattle.gem_object.specs.declared.value.Value.TheVariants.{Nil, Int}
use Rattle.gem_object.specs.texts.declared.integers.TheConstants.{LARGEST_INTEGER}
use Rattle.object_programs.specs.Atom.{Tick, ticked}
use Rattle.object_programs.specs.Budget.{Budget}
use Rattle.object_programs.specs.gem_world.World.{World}
use Rattle.object_programs.specs.Local.{Local}
use Rattle.object_programs.specs.Run.{give, fail, atom, and_then, Ending, gives, fails, Outcome, outcome_of}
use Rattle.object_programs.specs.Programs.{choose}
use Rattle.object_programs.specs.declared.fault.Fault.TheVariants as fault
use Rattle.running_objects.specs.Seen.{Seen, with_local}
use Rattle.running_objects.specs.Ran.{Ran, Leads}
use Rattle.running_objects.specs.declared.stop.Stop.{Stop}
use Rattle.running_objects.specs.declared.stop.Stop.TheVariants as stop
use Rattle.running_objects.proofs.Running.{keeps_same, ran_give, ran_fail, ran_then, ran_stop, leads_to, leads_then, leads_along}
use Rattle.tree_meaning.specs.Place.{MadeBlock}
use Rattle.tree_meaning.specs.Operands.{ValueRun, truth_of, by_truth}
use Rattle.tree_meaning.specs.Loops.{while_turns_up_to, while_turns, count_turns_up_to, count_turns}
use Rattle.tree_meaning.specs.declared.operand.Truth.{Truth}
use Rattle.tree_meaning.specs.declared.operand.Truth.TheVariants as truth
use Rattle.st_plain.specs.Choices.{test_of}

-- A unit that was taken is one less.
ticked_less : (units : ℕ) (world : World) (budget : Budget) (local later : Local MadeBlock) (after : Seen)
    → outcome_of (ticked units world budget) local ≡ record { end = gives tt; state = with_local after later }
    → suc after.budget.units ≡ units
ticked_less zero world budget local later after is =
    let end : ◌≡◌ {A = Ending (Unit {0})} (fails fault.SendBudget) (gives tt) = ap (λ (one : Outcome MadeBlock (Unit {0})). one.end) is in cc
ticked_less (suc units) world budget local later after is =
    ap suc (sym (ap (λ (one : Outcome MadeBlock (Unit {0})). one.state.budget.units) is))

pub unit_less : {before after : Seen} {local later : Local MadeBlock} → Ran (atom Tick) before local (Ok tt) after later
    → suc after.budget.units ≡ before.budget.units
unit_less {before} {after} {local} {later} ran =
    ticked_less before.budget.units before.world before.budget local later after ran.ends

-- What a test says of one of two programs.
tested : (value : Truth) (when go : Bool) (first second : ValueRun) {local later : Local MadeBlock} {before after : Seen}
    → Ok go ≡ test_of value when
    → Leads (by_truth value when first second) before local (by_truth value when first second) after later
    → Leads (by_truth value when first second) before local (choose go first second) after later
tested truth.True when go first second {local} {later} {before} {after} is leads =
    let same : go ≡ when = cc in
    let At : Bool → Type 0 = λ one. Leads (choose when first second) before local (choose one first second) after later in
    subst At (sym same) leads
tested truth.False true go first second {local} {later} {before} {after} is leads =
    let same : go ≡ false = cc in
    let At : Bool → Type 0 = λ one. Leads second before local (choose one first second) after later in
    subst At (sym same) leads
tested truth.False false go first second {local} {later} {before} {after} is leads =
    let same : go ≡ true = cc in
    let At : Bool → Type 0 = λ one. Leads first before local (choose one first second) after later in
    subst At (sym same) leads
tested truth.Neither when go first second is leads = cc

leads_same : (program : ValueRun) (seen : Seen) (local : Local MadeBlock) → Leads program seen local program seen local
leads_same program seen local = record { keeps = keeps_same seen; same = refl }

leads_by_test : (value : Truth) (when go : Bool) (first second : ValueRun) (seen : Seen) (local : Local MadeBlock)
    → Ok go ≡ test_of value when → Leads (by_truth value when first second) seen local (choose go first second) seen local
leads_by_test value when go first second seen local is =
    tested value when go first second is (leads_same (by_truth value when first second) seen local)

-- a condition that is no Boolean
untested : (value : Truth) (when : Bool) (first second : ValueRun) (ended : Stop) (seen : Seen) (local : Local MadeBlock)
    → Err ended ≡ test_of value when → Ran (by_truth value when first second) seen local (Err ended) seen local
untested truth.True when first second ended seen local is = cc
untested truth.False when first second ended seen local is = cc
untested truth.Neither when first second ended seen local is =
    let same : ended ≡ stop.Fails fault.NotBoolean = cc in
    let At : Stop → Type 0 = λ one. Ran (fail {A = Value} fault.NotBoolean) seen local (Err one) seen local in
    subst At (sym same) (ran_fail fault.NotBoolean seen local)

module _ (when : Bool) (condition body : ValueRun) (before : Seen) (local : Local MadeBlock) where
  -- one turn, and those that follow
  abbrev pub turn : ℕ → ValueRun
  turn left = and_then (atom Tick) (λ ticked. and_then body (λ answer. while_turns_up_to left when condition body))

  -- A while loop stands behind its condition: it goes on or not.
  pub record Turning (go : Bool) (after : Seen) (later : Local MadeBlock) : Type 0 where
    pub left : ℕ
    pub within : after.budget.units ≤ left
    pub leads : Leads (while_turns when condition body) before local (choose go (turn left) (give Nil)) after later

  -- it goes on where the test says so
  pub is_turning : (now : Bool) {after : Seen} {later : Local MadeBlock} → now ≡ true → Turning now after later → Turning true after later
  is_turning now {after} {later} is here = let At : Bool → Type 0 = λ one. Turning one after later in subst At is here

  unrolled : {rest : ValueRun} {after : Seen} {later : Local MadeBlock}
      → Leads (while_turns_up_to (suc before.budget.units) when condition body) before local rest after later
      → Leads (while_turns when condition body) before local rest after later
  unfolding while_turns
  unrolled leads = record { keeps = leads.keeps; same = leads.same }

  -- the condition, and then its test
  after_test : (left : ℕ) (answer : Value) (go : Bool) {start after : Seen} {middle later : Local MadeBlock}
      → Ran condition start middle (Ok answer) after later → Ok go ≡ test_of (truth_of answer) when
      → Leads (while_turns_up_to (suc left) when condition body) start middle (choose go (turn left) (give Nil)) after later
  after_test left answer go {start} {after} {middle} {later} ran is =
      leads_along (leads_then (λ test. by_truth (truth_of test) when (turn left) (give Nil)) ran)
      (leads_by_test (truth_of answer) when go (turn left) (give Nil) after later is)

  pub turning_starts : (answer : Value) (go : Bool) {after : Seen} {later : Local MadeBlock}
      → Ran condition before local (Ok answer) after later → Ok go ≡ test_of (truth_of answer) when
      → Turning go after later
  turning_starts answer go ran is = record {
    left = before.budget.units;
    within = ran.keeps.falls.units;
    leads = unrolled (after_test before.budget.units answer go ran is);
  }

  -- a turn: a unit, the body, and the condition again
  goes_on_at : (left : ℕ) (answer done : Value) (go : Bool) {start between ended after : Seen} {middle next later : Local MadeBlock}
      → start.budget.units ≤ left
      → Leads (while_turns when condition body) before local (turn left) start middle
      → Ran (atom Tick) start middle (Ok tt) between middle → Ran body between middle (Ok done) ended next
      → Ran condition ended next (Ok answer) after later → Ok go ≡ test_of (truth_of answer) when
      → Turning go after later
  goes_on_at zero answer done go within leads unit ran tests is =
      absurd (omega (arith, within, unit_less unit))
  goes_on_at (suc left) answer done go within leads unit ran tests is = record {
    left = left;
    within = omega (arith, within, unit_less unit, ran.keeps.falls.units, tests.keeps.falls.units);
    leads = leads_along leads
        (leads_along (leads_then (λ ticked. and_then body (λ answer. while_turns_up_to (suc left) when condition body)) unit)
        (leads_along (leads_then (λ answer. while_turns_up_to (suc left) when condition body) ran)
        (after_test left answer go tests is)));
  }

  pub turning_goes_on : (answer done : Value) (go : Bool) {start between ended after : Seen} {middle next later : Local MadeBlock}
      → Turning true start middle
      → Ran (atom Tick) start middle (Ok tt) between middle → Ran body between middle (Ok done) ended next
      → Ran condition ended next (Ok answer) after later → Ok go ≡ test_of (truth_of answer) when
      → Turning go after later
  turning_goes_on answer done go here unit ran tests is =
      goes_on_at here.left answer done go here.within here.leads unit ran tests is

  -- The ends of a while loop.
  pub turning_ends : {after : Seen} {later : Local MadeBlock} → Turning false after later
      → Ran (while_turns when condition body) before local (Ok Nil) after later
  turning_ends {after} {later} here = leads_to here.leads (ran_give Nil after later)

  pub condition_stops : (ended : Stop) {after : Seen} {later : Local MadeBlock} → Ran condition before local (Err ended) after later
      → Ran (while_turns when condition body) before local (Err ended) after later
  condition_stops ended ran =
      leads_to (unrolled (leads_same (while_turns_up_to (suc before.budget.units) when condition body) before local))
      (ran_stop (λ test. by_truth (truth_of test) when (turn before.budget.units) (give Nil)) ran)

  pub test_stops : (answer : Value) (ended : Stop) {after : Seen} {later : Local MadeBlock}
      → Ran condition before local (Ok answer) after later → Err ended ≡ test_of (truth_of answer) when
      → Ran (while_turns when condition body) before local (Err ended) after later
  test_stops answer ended {after} {later} ran is =
      leads_to (unrolled (leads_same (while_turns_up_to (suc before.budget.units) when condition body) before local))
      (ran_then (λ test. by_truth (truth_of test) when (turn before.budget.units) (give Nil)) ran
      (untested (truth_of answer) when (turn before.budget.units) (give Nil) ended after later is))

  pub unit_stops : (ended : Stop) {start after : Seen} {middle later : Local MadeBlock} → Turning true start middle
      → Ran (atom Tick) start middle (Err ended) after later
      → Ran (while_turns when condition body) before local (Err ended) after later
  unit_stops ended here unit = leads_to here.leads
      (ran_stop (λ ticked. and_then body (λ answer. while_turns_up_to here.left when condition body)) unit)

  pub body_stops : (ended : Stop) {start between after : Seen} {middle later : Local MadeBlock} → Turning true start middle
      → Ran (atom Tick) start middle (Ok tt) between middle → Ran body between middle (Err ended) after later
      → Ran (while_turns when condition body) before local (Err ended) after later
  body_stops ended here unit ran = leads_to here.leads
      (ran_then (λ ticked. and_then body (λ answer. while_turns_up_to here.left when condition body)) unit
      (ran_stop (λ answer. while_turns_up_to here.left when condition body) ran))

  -- the condition stops behind a turn, or it is no Boolean there
  next_stops_at : (left : ℕ) (done : Value) (ended : Stop) {start between between_both after : Seen} {middle next later : Local MadeBlock}
      → start.budget.units ≤ left
      → Leads (while_turns when condition body) before local (turn left) start middle
      → Ran (atom Tick) start middle (Ok tt) between middle → Ran body between middle (Ok done) between_both next
      → ((rest : Value → ValueRun) → Ran (and_then condition rest) between_both next (Err ended) after later)
      → Ran (while_turns when condition body) before local (Err ended) after later
  next_stops_at zero done ended within leads unit ran stops = absurd (omega (arith, within, unit_less unit))
  next_stops_at (suc left) done ended within leads unit ran stops = leads_to leads
      (ran_then (λ ticked. and_then body (λ answer. while_turns_up_to (suc left) when condition body)) unit
      (ran_then (λ answer. while_turns_up_to (suc left) when condition body) ran
      (stops (λ test. by_truth (truth_of test) when (turn left) (give Nil)))))

  pub next_condition_stops : (done : Value) (ended : Stop) {start between between_both after : Seen} {middle next later : Local MadeBlock}
      → Turning true start middle
      → Ran (atom Tick) start middle (Ok tt) between middle → Ran body between middle (Ok done) between_both next
      → Ran condition between_both next (Err ended) after later
      → Ran (while_turns when condition body) before local (Err ended) after later
  next_condition_stops done ended here unit ran stops =
      next_stops_at here.left done ended here.within here.leads unit ran (λ rest. ran_stop rest stops)

  next_test_at : (left : ℕ) (done answer : Value) (ended : Stop) {start between between_both after : Seen} {middle next later : Local MadeBlock}
      → start.budget.units ≤ left
      → Leads (while_turns when condition body) before local (turn left) start middle
      → Ran (atom Tick) start middle (Ok tt) between middle → Ran body between middle (Ok done) between_both next
      → Ran condition between_both next (Ok answer) after later → Err ended ≡ test_of (truth_of answer) when
      → Ran (while_turns when condition body) before local (Err ended) after later
  next_test_at zero done answer ended within leads unit ran tests is = absurd (omega (arith, within, unit_less unit))
  next_test_at (suc left) done answer ended {start} {between} {between_both} {after} {middle} {next} {later} within leads unit ran tests is =
      leads_to leads
      (ran_then (λ ticked. and_then body (λ answer. while_turns_up_to (suc left) when condition body)) unit
      (ran_then (λ answer. while_turns_up_to (suc left) when condition body) ran
      (ran_then (λ test. by_truth (truth_of test) when (turn left) (give Nil)) tests
      (untested (truth_of answer) when (turn left) (give Nil) ended after later is))))

  pub next_test_stops : (done answer : Value) (ended : Stop) {start between between_both after : Seen} {middle next later : Local MadeBlock}
      → Turning true start middle
      → Ran (atom Tick) start middle (Ok tt) between middle → Ran body between middle (Ok done) between_both next
      → Ran condition between_both next (Ok answer) after later → Err ended ≡ test_of (truth_of answer) when
      → Ran (while_turns when condition body) before local (Err ended) after later
  next_test_stops done answer ended here unit ran tests is =
      next_test_at here.left done answer ended here.within here.leads unit ran tests is

module _ (first limit : ℤ) (body : Value → ValueRun) (answer : Value) (before : Seen) (local : Local MadeBlock) where
  -- A counting loop stands before its test, at this number.
  pub record Counting (at : ℤ) (after : Seen) (later : Local MadeBlock) : Type 0 where
    pub left : ℕ
    pub within : after.budget.units ≤ left
    pub leads : Leads (count_turns first limit body answer) before local (count_turns_up_to (suc left) at limit body answer) after later

  pub counting_starts : Counting first before local
  unfolding count_turns
  counting_starts = record {
    left = before.budget.units;
    within = omega arith;
    leads = record { keeps = keeps_same before; same = refl };
  }

  -- what is left of a turn behind the body
  abbrev behind : ℕ → ℤ → ValueRun
  behind left at = choose (int_le LARGEST_INTEGER at) (give answer) (count_turns_up_to left (at +ℤ pos 1) limit body answer)

  abbrev a_turn : ℕ → ℤ → ValueRun
  a_turn left at = and_then (atom Tick) (λ ticked. and_then (body (Int at)) (λ done. behind left at))

  in_turn : (at : ℤ) {after : Seen} {later : Local MadeBlock} (here : Counting at after later) → int_le at limit ≡ true
      → Leads (count_turns first limit body answer) before local (a_turn here.left at) after later
  in_turn at {after} {later} here is =
      let At : Bool → Type 0 = λ one. Leads (count_turns first limit body answer) before local (choose one (a_turn here.left at) (give answer)) after later in
      subst At is here.leads

  goes_on_from : (left : ℕ) (at : ℤ) (done : Value) {start between after : Seen} {middle later : Local MadeBlock}
      → start.budget.units ≤ left
      → Leads (count_turns first limit body answer) before local (a_turn left at) start middle → int_le LARGEST_INTEGER at ≡ false
      → Ran (atom Tick) start middle (Ok tt) between middle → Ran (body (Int at)) between middle (Ok done) after later
      → Counting (at +ℤ pos 1) after later
  goes_on_from zero at done within leads is unit ran = absurd (omega (arith, within, unit_less unit))
  goes_on_from (suc left) at done {start} {between} {after} {middle} {later} within leads is unit ran =
      let At : Bool → Type 0 = λ one. Leads (count_turns first limit body answer) before local
      (choose one (give answer) (count_turns_up_to (suc left) (at +ℤ pos 1) limit body answer)) after later in
      record {
        left = left;
        within = omega (arith, within, unit_less unit, ran.keeps.falls.units);
        leads = subst At is (leads_along leads
            (leads_along (leads_then (λ ticked. and_then (body (Int at)) (λ done. behind (suc left) at)) unit)
            (leads_then (λ done. behind (suc left) at) ran)));
      }

  pub counting_goes_on : (at : ℤ) (done : Value) {start between after : Seen} {middle later : Local MadeBlock}
      → Counting at start middle → int_le at limit ≡ true → int_le LARGEST_INTEGER at ≡ false
      → Ran (atom Tick) start middle (Ok tt) between middle → Ran (body (Int at)) between middle (Ok done) after later
      → Counting (at +ℤ pos 1) after later
  counting_goes_on at done here is is_less unit ran =
      goes_on_from here.left at done here.within (in_turn at here is) is_less unit ran

  -- The ends of a counting loop.
  pub counting_ends : (at : ℤ) {after : Seen} {later : Local MadeBlock} → Counting at after later → int_le at limit ≡ false
      → Ran (count_turns first limit body answer) before local (Ok answer) after later
  counting_ends at {after} {later} here is =
      let At : Bool → Type 0 = λ one. Leads (count_turns first limit body answer) before local (choose one (a_turn here.left at) (give answer)) after later in
      leads_to (subst At is here.leads) (ran_give answer after later)

  pub last_number_ends : (at : ℤ) (done : Value) {start between after : Seen} {middle later : Local MadeBlock}
      → Counting at start middle → int_le at limit ≡ true → int_le LARGEST_INTEGER at ≡ true
      → Ran (atom Tick) start middle (Ok tt) between middle → Ran (body (Int at)) between middle (Ok done) after later
      → Ran (count_turns first limit body answer) before local (Ok answer) after later
  last_number_ends at done {start} {between} {after} {middle} {later} here is is_last unit ran =
      let At : Bool → Type 0 = λ one.
      Ran (choose one (give answer) (count_turns_up_to here.left (at +ℤ pos 1) limit body answer)) after later (Ok answer) after later in
      leads_to (in_turn at here is)
      (ran_then (λ ticked. and_then (body (Int at)) (λ done. behind here.left at)) unit
      (ran_then (λ done. behind here.left at) ran (subst At (sym is_last) (ran_give answer after later))))

  pub count_unit_stops : (at : ℤ) (ended : Stop) {start after : Seen} {middle later : Local MadeBlock}
      → Counting at start middle → int_le at limit ≡ true → Ran (atom Tick) start middle (Err ended) after later
      → Ran (count_turns first limit body answer) before local (Err ended) after later
  count_unit_stops at ended here is unit = leads_to (in_turn at here is)
      (ran_stop (λ ticked. and_then (body (Int at)) (λ done. behind here.left at)) unit)

  pub count_body_stops : (at : ℤ) (ended : Stop) {start between after : Seen} {middle later : Local MadeBlock}
      → Counting at start middle → int_le at limit ≡ true
      → Ran (atom Tick) start middle (Ok tt) between middle → Ran (body (Int at)) between middle (Err ended) after later
      → Ran (count_turns first limit body answer) before local (Err ended) after later
  count_body_stops at ended here is unit ran = leads_to (in_turn at here is)
      (ran_then (λ ticked. and_then (body (Int at)) (λ done. behind here.left at)) unit
      (ran_stop (λ done. behind here.left at) ran))

-- The measures of both loops fall with each turn.
pub turn_less : {start between ended after : Seen} {middle next later : Local MadeBlock} {one other : ValueRun} {done answer : Value}
    → Ran (atom Tick) start middle (Ok tt) between middle → Ran one between middle (Ok done) ended next
    → Ran other ended next (Ok answer) after later → after.budget.units < start.budget.units
turn_less unit ran tests = omega (arith, unit_less unit, ran.keeps.falls.units, tests.keeps.falls.units)

pub count_less : {start between after : Seen} {middle later : Local MadeBlock} {one : ValueRun} {done : Value}
    → Ran (atom Tick) start middle (Ok tt) between middle → Ran one between middle (Ok done) after later
    → after.budget.units < start.budget.units
count_less unit ran = omega (arith, unit_less unit, ran.keeps.falls.units)

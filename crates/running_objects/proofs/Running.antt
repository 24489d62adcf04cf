-- How what code did in turn makes what a program does.
use Rattle.std.proofs.Common.{◌≡◌, refl, sym, ap, ◌∙◌, subst, ℕ, Option, Some, Result, Ok, Err}
use Rattle.std.specs.Option.{unwrap_or}
use Rattle.gem_object.specs.declared.value.Value.{Value}
use Rattle.gem_object.specs.declared.body.Body.{Body}
use Rattle.object_programs.specs.gem_image.Image.{Contents}
use Rattle.object_programs.specs.gem_world.Access.{Access}
use Rattle.object_programs.specs.gem_world.World.{Setting}
use Rattle.object_programs.specs.Budget.{Budget}
use Rattle.object_programs.specs.Local.{Local}
use Rattle.object_programs.specs.Laws.{Falls, AreSound}
use Rattle.object_programs.specs.Atom.{Atom, Ask, Put, says, refuses, Answer, Done, done}
use Rattle.object_programs.specs.Run.{Run, give, fail, return_to, atom, seeing, become, and_then, ending, Ending, gives, returns, fails, State, Outcome, outcome_of, onward, perform}
use Rattle.object_programs.specs.declared.fault.Fault.{Fault}
use Rattle.object_programs.proofs.Kept.{kept}
use Rattle.object_programs.proofs.Falling.{budgets_fall}
use Rattle.object_programs.proofs.Objects.{soundness_stays}
use Rattle.running_objects.specs.Seen.{Seen, object_at, with_local, IsSoundState, Keeps}
use Rattle.running_objects.specs.Ran.{EndsSo, Ran, Leads}
use Rattle.running_objects.specs.Acted.{SaysSo, Acted, Reached, Edited}
use Rattle.running_objects.specs.declared.stop.Stop.{Stop}
use Rattle.running_objects.specs.declared.stop.Stop.TheVariants as stop

-- A state keeps itself, and what is kept twice is kept.
pub keeps_same : (seen : Seen) → Keeps seen seen
keeps_same seen = record {
  setting = refl;
  falls = (budgets_fall seen.setting).same seen.world seen.budget;
  sound = λ sound. sound;
}

pub keeps_along : {before between after : Seen} → Keeps before between → Keeps between after
    → Keeps before after
keeps_along {before} {between} {after} first second = record {
  setting = second.setting ∙ first.setting;
  falls = (budgets_fall before.setting).along before.world before.budget between.world between.budget
      after.world after.budget first.falls second.falls;
  sound = λ sound. second.sound (first.sound sound);
}

-- Where the setting is the same, what a program leaves is kept.
pub keeps_perform : {B A : Type 0} (program : Run B A) (before after : Seen) (local later : Local B) (end : Ending A)
    → after.setting ≡ before.setting
    → perform program before.setting (with_local before local) ≡ record { end = end; state = with_local after later }
    → Keeps before after
keeps_perform {B} {A} program before after local later end same ends =
    let Kept-falls : State B → Type 0 = λ left. Falls before.world before.budget left.world left.budget in
    let Kept-sound : State B → Type 0 = λ left. IsSoundState before → AreSound before.setting left.world in
    let left : (perform program before.setting (with_local before local)).state ≡ with_local after later =
    ap (λ (outcome : Outcome B A). outcome.state) ends in
    let sound : IsSoundState before → AreSound before.setting after.world =
    subst Kept-sound left (kept before.setting _ (soundness_stays before.setting) program (with_local before local)) in
    let At : Setting → Type 0 = λ setting. IsSoundState before → AreSound setting after.world in
    record {
      setting = same;
      falls = subst Kept-falls left (kept before.setting _ (budgets_fall before.setting) program (with_local before local));
      sound = subst At (sym same) sound;
    }

-- the same of an atom
pub keeps_done : {A : Type 0} (one : Atom A) (before after : Seen) (answer : Answer A)
    → after.setting ≡ before.setting
    → done one before.setting before.world before.budget
    ≡ record { answer = answer; world = after.world; budget = after.budget }
    → Keeps before after
keeps_done {A} one before after answer same did =
    let Kept-falls : Done A → Type 0 = λ left. Falls before.world before.budget left.world left.budget in
    let Kept-sound : Done A → Type 0 = λ left. IsSoundState before → AreSound before.setting left.world in
    let sound : IsSoundState before → AreSound before.setting after.world =
    subst Kept-sound did ((soundness_stays before.setting).step one before.world before.budget) in
    let At : Setting → Type 0 = λ setting. IsSoundState before → AreSound setting after.world in
    record {
      setting = same;
      falls = subst Kept-falls did ((budgets_fall before.setting).step one before.world before.budget);
      sound = subst At (sym same) sound;
    }

-- A call that ended by the atom's answer, or by its error, did what the atom does.
pub acted_says : {A : Type 0} (one : Atom A) (before after : Seen) (answer : A)
    → after.setting ≡ before.setting
    → done one before.setting before.world before.budget
    ≡ record { answer = says answer; world = after.world; budget = after.budget }
    → Acted one before (Ok answer) after
acted_says one before after answer same did =
    record { keeps = keeps_done one before after (says answer) same did; did = did }

pub acted_refuses : {A : Type 0} (one : Atom A) (before after : Seen) (fault : Fault)
    → after.setting ≡ before.setting
    → done one before.setting before.world before.budget
    ≡ record { answer = refuses fault; world = after.world; budget = after.budget }
    → Acted one before (Err (stop.Fails fault)) after
acted_refuses one before after fault same did =
    record { keeps = keeps_done one before after (refuses fault) same did; did = did }

-- where memory ran out
pub acted_nothing : {A : Type 0} (one : Atom A) (before after : Seen) → Keeps before after
    → Acted one before (Err stop.NoMemory) after
acted_nothing one before after keeps = record { keeps = keeps; did = tt }

module _ {B : Type 0} where
  -- Code that ended by the program's answer, error or return ran as the program does.
  pub ran_gives : {A : Type 0} (program : Run B A) (before after : Seen) (local later : Local B) (answer : A)
      → after.setting ≡ before.setting
      → perform program before.setting (with_local before local)
      ≡ record { end = gives answer; state = with_local after later }
      → Ran program before local (Ok answer) after later
  ran_gives program before after local later answer same ends = record {
    keeps = keeps_perform program before after local later (gives answer) same ends;
    ends = ends;
  }

  pub ran_fails : {A : Type 0} (program : Run B A) (before after : Seen) (local later : Local B) (fault : Fault)
      → after.setting ≡ before.setting
      → perform program before.setting (with_local before local)
      ≡ record { end = fails fault; state = with_local after later }
      → Ran program before local (Err (stop.Fails fault)) after later
  ran_fails program before after local later fault same ends = record {
    keeps = keeps_perform program before after local later (fails fault) same ends;
    ends = ends;
  }

  pub ran_returns : {A : Type 0} (program : Run B A) (before after : Seen) (local later : Local B)
      (value : Value) (home : ℕ) → after.setting ≡ before.setting
      → perform program before.setting (with_local before local)
      ≡ record { end = returns value home; state = with_local after later }
      → Ran program before local (Err (stop.Returns value home)) after later
  ran_returns program before after local later value home same ends = record {
    keeps = keeps_perform program before after local later (returns value home) same ends;
    ends = ends;
  }

  pub ran_nothing : {A : Type 0} (program : Run B A) {before after : Seen} (local later : Local B)
      → Keeps before after → Ran program before local (Err stop.NoMemory) after later
  ran_nothing program local later keeps = record { keeps = keeps; ends = tt }

  -- A call that did what an atom does ran as the program of the atom, whatever is local.
  acted_ends : {A : Type 0} (did : Done A) (result : Result A Stop) (after : Seen) (local : Local B)
      → SaysSo did result after → EndsSo (outcome_of did local) result (with_local after local)
  acted_ends did (Ok answer) after local is = ap (λ end. outcome_of end local) is
  acted_ends did (Err (stop.Fails fault)) after local is = ap (λ end. outcome_of end local) is
  acted_ends did (Err (stop.Returns value home)) after local is = absurd is
  acted_ends did (Err stop.NoMemory) after local is = tt

  pub acted_ran : {A : Type 0} {one : Atom A} {before after : Seen} {result : Result A Stop}
      → Acted one before result after → (local : Local B)
      → Ran (atom one) before local result after local
  acted_ran {A} {one} {before} {after} {result} acted local = record {
    keeps = acted.keeps;
    ends = acted_ends (done one before.setting before.world before.budget) result after local acted.did;
  }

  -- What runs of itself, and what only sees or changes what is local.
  pub ran_give : {A : Type 0} (answer : A) (seen : Seen) (local : Local B)
      → Ran (give answer) seen local (Ok answer) seen local
  ran_give answer seen local = record { keeps = keeps_same seen; ends = refl }

  pub ran_fail : {A : Type 0} (fault : Fault) (seen : Seen) (local : Local B)
      → Ran (fail {A = A} fault) seen local (Err (stop.Fails fault)) seen local
  ran_fail fault seen local = record { keeps = keeps_same seen; ends = refl }

  pub ran_return : {A : Type 0} (value : Value) (home : ℕ) (seen : Seen) (local : Local B)
      → Ran (return_to {A = A} value home) seen local (Err (stop.Returns value home)) seen local
  ran_return value home seen local = record { keeps = keeps_same seen; ends = refl }

  pub ran_become : (seen : Seen) (local later : Local B)
      → Ran (become later) seen local (Ok tt) seen later
  ran_become seen local later = record { keeps = keeps_same seen; ends = refl }

  pub ran_seeing : {A : Type 0} (see : Budget → Local B → Run B A) {before after : Seen} {local later : Local B}
      {result : Result A Stop} → Ran (see before.budget local) before local result after later
      → Ran (seeing see) before local result after later
  ran_seeing see ran = record { keeps = ran.keeps; ends = ran.ends }

  -- What the rest of a program comes to, whose beginning leads to it, the program comes to.
  pub leads_to : {A : Type 0} {program rest : Run B A} {before between after : Seen} {local middle later : Local B}
      {result : Result A Stop} → Leads program before local rest between middle
      → Ran rest between middle result after later → Ran program before local result after later
  leads_to {A} {program} {rest} {before} {between} {after} {local} {middle} {later} {result} leads ran =
      let At : Outcome B A → Type 0 = λ outcome. EndsSo outcome result (with_local after later) in
      record { keeps = keeps_along leads.keeps ran.keeps; ends = subst At (sym leads.same) ran.ends }

  pub leads_along : {A : Type 0} {program rest last : Run B A} {before between after : Seen} {local middle later : Local B}
      → Leads program before local rest between middle → Leads rest between middle last after later
      → Leads program before local last after later
  leads_along first second = record {
    keeps = keeps_along first.keeps second.keeps;
    same = first.same ∙ second.same;
  }

  pub leads_self : {A : Type 0} (program : Run B A) (seen : Seen) (local : Local B)
      → Leads program seen local program seen local
  leads_self program seen local = record { keeps = keeps_same seen; same = refl }

  -- After an answer of the first program the second one is left.
  pub leads_then : {A C : Type 0} {first : Run B C} (second : C → Run B A) {answer : C} {before after : Seen}
      {local later : Local B} → Ran first before local (Ok answer) after later
      → Leads (and_then first second) before local (second answer) after later
  leads_then {A} {C} {first} second {answer} {before} {after} {local} {later} ran =
      let next : Outcome B C → Outcome B A = λ outcome. onward outcome.end outcome.state
      (λ found left. perform (second found) before.setting left) in
      let At : Setting → Type 0 = λ setting. perform (and_then first second) before.setting (with_local before local)
      ≡ perform (second answer) setting (with_local after later) in
      record { keeps = ran.keeps; same = subst At (sym ran.keeps.setting) (ap next ran.ends) }

  pub ran_then : {A C : Type 0} {first : Run B C} (second : C → Run B A) {answer : C} {before between after : Seen}
      {local middle later : Local B} {result : Result A Stop} → Ran first before local (Ok answer) between middle
      → Ran (second answer) between middle result after later
      → Ran (and_then first second) before local result after later
  ran_then second ran rest = leads_to (leads_then second ran) rest

  -- Any other end of the first program is that of both.
  stopped : {A C : Type 0} (setting : Setting) (outcome : Outcome B C) (second : C → Run B A) (ended : Stop) (state : State B)
      → EndsSo outcome (Err ended) state
      → EndsSo (onward outcome.end outcome.state (λ found left. perform (second found) setting left)) (Err ended) state
  stopped setting outcome second (stop.Fails fault) state is =
      ap (λ end. onward end.end end.state (λ found left. perform (second found) setting left)) is
  stopped setting outcome second (stop.Returns value home) state is =
      ap (λ end. onward end.end end.state (λ found left. perform (second found) setting left)) is
  stopped setting outcome second stop.NoMemory state is = tt

  pub ran_stop : {A C : Type 0} {first : Run B C} (second : C → Run B A) {ended : Stop} {before after : Seen}
      {local later : Local B} → Ran first before local (Err ended) after later
      → Ran (and_then first second) before local (Err ended) after later
  ran_stop {A} {C} {first} second {ended} {before} {after} {local} {later} ran = record {
    keeps = ran.keeps;
    ends = stopped before.setting (perform first before.setting (with_local before local)) second ended
        (with_local after later) ran.ends;
  }

  -- However the first program ends, the second one is left, but where memory ran out.
  leads_by : {A C : Type 0} (first : Run B C) (second : Ending C → Run B A) (end : Ending C) (before after : Seen)
      (local later : Local B) → Keeps before after
      → perform first before.setting (with_local before local) ≡ record { end = end; state = with_local after later }
      → Leads (ending first second) before local (second end) after later
  leads_by {A} {C} first second end before after local later keeps ends =
      let next : Outcome B C → Outcome B A = λ outcome. perform (second outcome.end) before.setting outcome.state in
      let At : Setting → Type 0 = λ setting. perform (ending first second) before.setting (with_local before local)
      ≡ perform (second end) setting (with_local after later) in
      record { keeps = keeps; same = subst At (sym keeps.setting) (ap next ends) }

  pub leads_given : {A C : Type 0} {first : Run B C} (second : Ending C → Run B A) {answer : C} {before after : Seen}
      {local later : Local B} → Ran first before local (Ok answer) after later
      → Leads (ending first second) before local (second (gives answer)) after later
  leads_given {A} {C} {first} second {answer} {before} {after} {local} {later} ran =
      leads_by first second (gives answer) before after local later ran.keeps ran.ends

  pub leads_failed : {A C : Type 0} {first : Run B C} (second : Ending C → Run B A) {fault : Fault} {before after : Seen}
      {local later : Local B} → Ran first before local (Err (stop.Fails fault)) after later
      → Leads (ending first second) before local (second (fails fault)) after later
  leads_failed {A} {C} {first} second {fault} {before} {after} {local} {later} ran =
      leads_by first second (fails fault) before after local later ran.keeps ran.ends

  pub leads_returned : {A C : Type 0} {first : Run B C} (second : Ending C → Run B A) {value : Value} {home : ℕ}
      {before after : Seen} {local later : Local B} → Ran first before local (Err (stop.Returns value home)) after later
      → Leads (ending first second) before local (second (returns value home)) after later
  leads_returned {A} {C} {first} second {value} {home} {before} {after} {local} {later} ran =
      leads_by first second (returns value home) before after local later ran.keeps ran.ends

  pub ending_nothing : {A C : Type 0} {first : Run B C} (second : Ending C → Run B A) {before after : Seen}
      {local later : Local B} → Ran first before local (Err stop.NoMemory) after later
      → Ran (ending first second) before local (Err stop.NoMemory) after later
  ending_nothing second ran = record { keeps = ran.keeps; ends = tt }

-- the same object that is seen twice
pub seen_twice : {object held : Contents} {found : Option Contents} → found ≡ Some object → Some held ≡ found → object ≡ held
seen_twice {object} {held} {found} there shown = ap (λ (one : Option Contents). unwrap_or one held) (sym (shown ∙ there))

module _ {B A : Type 0} where
  -- After an access that was allowed the rest is left, with the object that was then asked for.
  pub reached_then : {access : Access} {name : ℕ} {before between after : Seen} {local later : Local B} {held : Contents}
      {result : Result A Stop} (rest : Contents → Run B A) → Reached access name before between
      → Some held ≡ object_at name between → Ran (rest held) between local result after later
      → Ran (and_then (atom (Ask access name)) rest) before local result after later
  reached_then {access} {name} {before} {between} {after} {local} {later} {held} {result} rest reached shown ran =
      let P : Contents → Type 0 = λ object. Ran (rest object) between local result after later in
      ran_then rest (acted_ran reached.acted local) (subst P (sym (seen_twice reached.there shown)) ran)

  -- After an access that stopped nothing is left.
  pub accessed_stop : {access : Access} {name : ℕ} {before after : Seen} {local : Local B} {ended : Stop}
      (rest : Contents → Run B A) → Acted (Ask access name) before (Err ended) after
      → Ran (and_then (atom (Ask access name)) rest) before local (Err ended) after local
  accessed_stop {access} {name} {before} {after} {local} {ended} rest acted = ran_stop rest (acted_ran acted local)

module _ {B : Type 0} where
  -- An edit in place ran as the put of the edited body.
  pub edited_ran : {name : ℕ} (edit : Body → Body) {before after : Seen} {object : Contents} {result : Result (Unit {0}) Stop}
      → Edited name edit before result after → object_at name before ≡ Some object → (local : Local B)
      → Ran (atom (Put name (edit object.body))) before local result after local
  edited_ran {name} edit {before} {after} {object} edited there local = acted_ran (edited object there) local

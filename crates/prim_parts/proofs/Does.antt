-- How what code did in turn makes what a program does, where nothing local is seen or changed.
use Rattle.std.proofs.Common.{◌≡◌, refl, sym, ap, ◌∙◌, subst, ℕ, Option, Some, None, [], option_map, Result, Ok, Err}
use Rattle.std.specs.Result.{IsErrAnd}
use Rattle.std.proofs.lemmas.Result.{err_from_is_err_and}
use Rattle.gem_sound.specs.gem_image.Image.{Contents}
use Rattle.object_programs.specs.gem_world.World.{Setting}
use Rattle.object_programs.specs.gem_world.Access.{Access}
use Rattle.tree_meaning.specs.Place.{MadeBlock}
use Rattle.object_programs.specs.Local.{Local}
use Rattle.object_programs.specs.Atom.{Atom, Ask, Who}
use Rattle.object_programs.specs.Fixed.{Fixed, fixed_of}
use Rattle.object_programs.specs.Run.{Run, give, fail, atom, and_then, Ending, gives, returns, fails, Outcome, onward, perform}
use Rattle.object_programs.specs.Programs.{need, known}
use Rattle.object_programs.specs.declared.fault.Fault.{Fault}
use Rattle.running_objects.specs.Seen.{Seen, object_at, with_local, Keeps}
use Rattle.running_objects.specs.Ran.{EndsSo, Ran}
use Rattle.running_objects.specs.Acted.{Acted, Reached, Known}
use Rattle.running_objects.specs.declared.stop.Stop.{Stop}
use Rattle.running_objects.specs.declared.stop.Stop.TheVariants as stop
use Rattle.running_objects.proofs.Running.{keeps_same, acted_says, acted_ran, ran_then, ran_stop, seen_twice}
use Rattle.prim_parts.specs.Does.{Does, Computes}

-- with what is local at hand, and back
pub does_ran : {A : Type 0} {program : Run MadeBlock A} {before after : Seen} {result : Result A Stop}
    → Does program before result after → (local : Local MadeBlock) → Ran program before local result after local
does_ran does local = record { keeps = does.keeps; ends = does.ends local }

ran_does : {A : Type 0} {program : Run MadeBlock A} {before after : Seen} {result : Result A Stop} → Keeps before after
    → ((local : Local MadeBlock) → Ran program before local result after local) → Does program before result after
ran_does keeps ran = record { keeps = keeps; ends = λ local. (ran local).ends }

pub does_give : {A : Type 0} (answer : A) (seen : Seen) → Does (give answer) seen (Ok answer) seen
does_give answer seen = record { keeps = keeps_same seen; ends = λ local. refl }

pub does_fail : {A : Type 0} (fault : Fault) (seen : Seen) → Does (fail {A = A} fault) seen (Err (stop.Fails fault)) seen
does_fail fault seen = record { keeps = keeps_same seen; ends = λ local. refl }

-- where memory ran out
pub does_nothing : {A : Type 0} (program : Run MadeBlock A) {before after : Seen} → Keeps before after
    → Does program before (Err stop.NoMemory) after
does_nothing program keeps = record { keeps = keeps; ends = λ local. tt }

-- a call of the objects
pub does_atom : {A : Type 0} {one : Atom A} {before after : Seen} {result : Result A Stop} → Acted one before result after
    → Does (atom one) before result after
does_atom acted = ran_does acted.keeps (λ local. acted_ran acted local)

-- one after the other
pub does_then : {A C : Type 0} {first : Run MadeBlock C} {second : C → Run MadeBlock A} {answer : C}
    {before between after : Seen} {result : Result A Stop} → Does first before (Ok answer) between
    → Does (second answer) between result after → Does (and_then first second) before result after
does_then {A} {C} {first} {second} {answer} {before} {between} {after} {result} one rest = record {
  keeps = (ran_then second (does_ran one nowhere) (does_ran rest nowhere)).keeps;
  ends = λ local. (ran_then second (does_ran one local) (does_ran rest local)).ends;
}
  where
    nowhere : Local MadeBlock
    nowhere = record { scopes = []; blocks = []; living = [] }

pub does_stop : {A C : Type 0} {first : Run MadeBlock C} {second : C → Run MadeBlock A} {ended : Stop}
    {before after : Seen} → Does first before (Err ended) after → Does (and_then first second) before (Err ended) after
does_stop {A} {C} {first} {second} {ended} {before} {after} one =
    ran_does one.keeps (λ local. ran_stop second (does_ran one local))

-- where a `?` hands an error on: give it the two fields of `from_residual`
pub does_exit : {A C : Type 0} {first : Run MadeBlock C} {second : C → Run MadeBlock A} {ended : Stop}
    {before after : Seen} (result : Result A Stop) → IsErrAnd result (λ given. given ≡ ended)
    → Does first before (Err ended) after → Does (and_then first second) before result after
does_exit {A} {C} {first} {second} {ended} {before} {after} result exit one =
    let given = err_from_is_err_and result exit in
    let At : Result A Stop → Type 0 = λ found. Does (and_then first second) before found after in
    subst At (sym (given.1 ∙ ap Err given.2)) (does_stop one)

-- after an access that was allowed, with the object that was then asked for
pub does_reached : {A : Type 0} {access : Access} {name : ℕ} {before between after : Seen} {held : Contents}
    {result : Result A Stop} {rest : Contents → Run MadeBlock A} → Reached access name before between
    → Some held ≡ object_at name between → Does (rest held) between result after
    → Does (and_then (atom (Ask access name)) rest) before result after
does_reached {A} {access} {name} {before} {between} {after} {held} {result} {rest} reached shown does =
    let At : Contents → Type 0 = λ object. Does (rest object) between result after in
    does_then (does_atom reached.acted) (subst At (sym (seen_twice reached.there shown)) does)

-- what needs no objects
pub computes_give : {A : Type 0} (answer : A) → Computes (give answer) (Ok answer)
computes_give answer = record { ends = λ setting state. refl }

pub computes_fail : {A : Type 0} (fault : Fault) → Computes (fail {A = A} fault) (Err (stop.Fails fault))
computes_fail fault = record { ends = λ setting state. refl }

pub does_compute : {A : Type 0} {program : Run MadeBlock A} {result : Result A Stop} (seen : Seen)
    → Computes program result → Does program seen result seen
does_compute seen computes =
    record { keeps = keeps_same seen; ends = λ local. computes.ends seen.setting (with_local seen local) }

pub computes_then : {A C : Type 0} {first : Run MadeBlock C} {second : C → Run MadeBlock A} {answer : C}
    {before after : Seen} {result : Result A Stop} → Computes first (Ok answer)
    → Does (second answer) before result after → Does (and_then first second) before result after
computes_then {A} {C} {first} {second} {answer} {before} {after} {result} one rest =
    does_then (does_compute before one) rest

pub computes_stop : {A C : Type 0} {first : Run MadeBlock C} {second : C → Run MadeBlock A} {ended : Stop} (seen : Seen)
    → Computes first (Err ended) → Does (and_then first second) seen (Err ended) seen
computes_stop seen one = does_stop (does_compute seen one)

-- The same, where programs are grouped otherwise.
grouped : {A C D : Type 0} (setting : Setting) (outcome : Outcome MadeBlock C) (second : C → Run MadeBlock D)
    (third : D → Run MadeBlock A)
    → onward outcome.end outcome.state (λ found left. perform (and_then (second found) third) setting left)
    ≡ (let middle = onward outcome.end outcome.state (λ found left. perform (second found) setting left) in
    onward middle.end middle.state (λ found left. perform (third found) setting left))
grouped {A} {C} {D} setting outcome second third = by outcome.end
  where
    by : (end : Ending C)
        → onward end outcome.state (λ found left. perform (and_then (second found) third) setting left)
        ≡ (let middle = onward end outcome.state (λ found left. perform (second found) setting left) in
        onward middle.end middle.state (λ found left. perform (third found) setting left))
    by (gives answer) = refl
    by (returns value home) = refl
    by (fails fault) = refl

pub does_assoc : {A C D : Type 0} {first : Run MadeBlock C} {second : C → Run MadeBlock D} {third : D → Run MadeBlock A}
    {before after : Seen} {result : Result A Stop}
    → Does (and_then first (λ found. and_then (second found) third)) before result after
    → Does (and_then (and_then first second) third) before result after
does_assoc {A} {C} {D} {first} {second} {third} {before} {after} {result} does = record {
  keeps = does.keeps;
  ends = λ local.
      let At : Outcome MadeBlock A → Type 0 = λ outcome. EndsSo outcome result (with_local after local) in
      subst At (grouped before.setting (perform first before.setting (with_local before local)) second third)
      (does.ends local);
}

pub does_assoc_back : {A C D : Type 0} {first : Run MadeBlock C} {second : C → Run MadeBlock D}
    {third : D → Run MadeBlock A} {before after : Seen} {result : Result A Stop}
    → Does (and_then (and_then first second) third) before result after
    → Does (and_then first (λ found. and_then (second found) third)) before result after
does_assoc_back {A} {C} {D} {first} {second} {third} {before} {after} {result} does = record {
  keeps = does.keeps;
  ends = λ local.
      let At : Outcome MadeBlock A → Type 0 = λ outcome. EndsSo outcome result (with_local after local) in
      subst At (sym (grouped before.setting (perform first before.setting (with_local before local)) second third))
      (does.ends local);
}

-- after the user was asked for
pub does_who : {A : Type 0} {rest : ℕ → Run MadeBlock A} {before after : Seen} {result : Result A Stop} (user : ℕ)
    → user ≡ before.setting.user → Does (rest user) before result after → Does (and_then (atom Who) rest) before result after
does_who {A} {rest} {before} {after} {result} user is does =
    let At : ℕ → Type 0 = λ name. Does (rest name) before result after in
    does_then (does_atom (acted_says Who before before before.setting.user refl refl)) (subst At is does)

-- after the fixed part of an object was asked for, with the object that was then asked for
pub known_then : {A : Type 0} {fault : Fault} {name : ℕ} {before between after : Seen} {held : Contents}
    {result : Result A Stop} {rest : Fixed → Run MadeBlock A} → Known name before (Ok tt) between
    → Some held ≡ object_at name between → Does (rest (fixed_of held)) between result after
    → Does (and_then (known fault name) rest) before result after
known_then {A} {fault} {name} {before} {between} {after} {held} {result} {rest} asked shown does =
    let At : Option Fixed → Type 0 = λ found. Does (need fault found) between (Ok (fixed_of held)) between in
    let found : Does (known fault name) before (Ok (fixed_of held)) between =
    does_then (does_atom asked) (subst At (ap (option_map fixed_of) shown) (does_give (fixed_of held) between)) in
    does_then found does

-- where there is no such object, and where the call stopped
pub known_none : {A : Type 0} {fault : Fault} {name : ℕ} {before after : Seen} {rest : Fixed → Run MadeBlock A}
    → Known name before (Ok tt) after → None ≡ object_at name after
    → Does (and_then (known fault name) rest) before (Err (stop.Fails fault)) after
known_none {A} {fault} {name} {before} {after} {rest} asked shown =
    let At : Option Fixed → Type 0 = λ found. Does (need fault found) after (Err (stop.Fails fault)) after in
    let found : Does (known fault name) before (Err (stop.Fails fault)) after =
    does_then (does_atom asked) (subst At (ap (option_map fixed_of) shown) (does_fail fault after)) in
    does_stop found

pub known_stop : {A : Type 0} {fault : Fault} {name : ℕ} {before after : Seen} {ended : Stop} {rest : Fixed → Run MadeBlock A}
    → Known name before (Err ended) after → Does (and_then (known fault name) rest) before (Err ended) after
known_stop {A} {fault} {name} {before} {after} {ended} {rest} asked =
    let found : Does (known fault name) before (Err ended) after = does_stop (does_atom asked) in
    does_stop found

-- How what code did with a receiver makes what a rule says.
use Rattle.std.specs.Result.{IsErrAnd}
use Rattle.std.proofs.lemmas.Bool.{false≢true}
use Rattle.std.proofs.lemmas.Result.{err_from_is_err_and}
use Rattle.std.proofs.Common.{◌≡◌, refl, sym, ap, ◌∙◌, subst, ℕ, true, false, Option, Some, None, is_some, option_and_then, Result, Ok, Err}
use Rattle.prim_parts.specs.tree_meaning.Place.{MadeBlock}
use Rattle.gem_object.specs.declared.value.Value.{Value}
use Rattle.gem_object.specs.declared.body.Body.{Body}
use Rattle.gem_sound.specs.gem_image.Image.{Contents}
use Rattle.object_programs.specs.gem_world.Access.{Access}
use Rattle.object_programs.specs.Atom.{Ask}
use Rattle.object_programs.specs.Run.{Run, atom, and_then}
use Rattle.object_programs.specs.Programs.{need}
use Rattle.object_programs.specs.declared.fault.Fault.TheVariants as fault
use Rattle.running_objects.specs.Seen.{Seen, object_at}
use Rattle.running_objects.specs.Acted.{Reached}
use Rattle.running_objects.specs.declared.stop.Stop.{Stop}
use Rattle.running_objects.specs.declared.stop.Stop.TheVariants as stop
use Rattle.running_objects.proofs.Running.{keeps_same}
use Rattle.prim_rules.specs.Parts.{reference_in}
use Rattle.prim_rules.specs.Receivers.{Receiver, received}
use Rattle.prim_parts.specs.Does.{Does, Computes}
use Rattle.prim_parts.proofs.Does.{does_then, does_stop, does_atom, does_give, does_fail, does_nothing, computes_then}
use Rattle.prim_shared.specs.Held.{held_of}
use Rattle.prim_parts.specs.Reached.{Reaches, Receives}

-- where memory ran out before anything was done, and with nothing to do
pub nothing_done : {A : Type 0} (program : Run MadeBlock A) (seen : Seen) → Does program seen (Err stop.NoMemory) seen
nothing_done program seen = does_nothing program (keeps_same seen)

-- where a `?` hands on how a program ended
pub handed : {A : Type 0} {program : Run MadeBlock A} {before after : Seen} {ended : Stop} (result : Result A Stop)
    → IsErrAnd result (λ given. given ≡ ended) → Does program before (Err ended) after → Does program before result after
handed {A} {program} {before} {after} {ended} result exit one =
    let given = err_from_is_err_and result exit in
    let At : Result A Stop → Type 0 = λ found. Does program before found after in
    subst At (sym (given.1 ∙ ap Err given.2)) one

pub handed_computed : {A : Type 0} {program : Run MadeBlock A} {ended : Stop} (result : Result A Stop)
    → IsErrAnd result (λ given. given ≡ ended) → Computes program (Err ended) → Computes program result
handed_computed {A} {program} {ended} result exit one =
    let given = err_from_is_err_and result exit in
    let At : Result A Stop → Type 0 = λ found. Computes program found in
    subst At (sym (given.1 ∙ ap Err given.2)) one

-- an access that was allowed, and what goes on from the object
does_accessed : {A : Type 0} {access : Access} {name : ℕ} {before between after : Seen} {result : Result A Stop}
    {rest : Contents → Run MadeBlock A} (reached : Reached access name before between)
    → Does (rest reached.object) between result after → Does (and_then (atom (Ask access name)) rest) before result after
does_accessed reached does = does_then (does_atom reached.acted) does

-- what the object of a name holds, which is there
pub held_there : {A : Type 0} (part : Body → Option A) (name : ℕ) (seen : Seen) (object : Contents)
    → object_at name seen ≡ Some object → held_of part (object_at name seen) ≡ part object.body
held_there part name seen object there = ap (held_of part) there

-- a receiver that was reached, whose body is of the kind
pub reaches : {A : Type 0} {part : Body → Option A} {access : Access} (value : Value) {name : ℕ} {before between : Seen}
    → Computes (need fault.ArgumentKind (reference_in value)) (Ok name) → Reached access name before between
    → is_some (held_of part (object_at name between)) ≡ true
    → Reaches part (received (λ other. atom (Ask access other)) part value) before name between
reaches {A} {part} {access} value {name} {before} {between} named reached is =
    by (part reached.object.body) refl (sym (ap is_some (held_there part name between reached.object reached.there)) ∙ is)
  where
    by : (found : Option A) → part reached.object.body ≡ found → is_some found ≡ true
        → Reaches part (received (λ other. atom (Ask access other)) part value) before name between
    by None holds some = absurd (false≢true some)
    by (Some held) holds some =
        let At : Option A → Type 0 = λ one. Does (need fault.ArgumentKind one) between (Ok held) between in
        record {
          object = reached.object;
          held = held;
          there = reached.there;
          holds = holds;
          does = computes_then named (does_accessed reached (does_then (subst At (sym holds) (does_give held between))
              (does_give (record { name = name; object = reached.object; held = held }) between)));
        }

-- and one whose body is of another kind
pub reaches_other : {A : Type 0} (part : Body → Option A) {access : Access} (value : Value) {name : ℕ} {before between : Seen}
    → Computes (need fault.ArgumentKind (reference_in value)) (Ok name) → Reached access name before between
    → is_some (held_of part (object_at name between)) ≡ false
    → Does (received (λ other. atom (Ask access other)) part value) before (Err (stop.Fails fault.ArgumentKind)) between
reaches_other {A} part {access} value {name} {before} {between} named reached is =
    by (part reached.object.body) refl (sym (ap is_some (held_there part name between reached.object reached.there)) ∙ is)
  where
    by : (found : Option A) → part reached.object.body ≡ found → is_some found ≡ false
        → Does (received (λ other. atom (Ask access other)) part value) before (Err (stop.Fails fault.ArgumentKind)) between
    by (Some held) holds some = absurd (false≢true (sym some))
    by None holds some =
        let At : Option A → Type 0 = λ one.
        Does (need fault.ArgumentKind one) between (Err (stop.Fails fault.ArgumentKind)) between in
        computes_then named (does_accessed reached (does_stop (subst At (sym holds) (does_fail fault.ArgumentKind between))))

-- what code finds of a receiver that is there: what it holds, and never nothing
pub finds : {A : Type 0} (part : Body → Option A) (name : ℕ) (seen : Seen) {object : Contents} {held found : A}
    → object_at name seen ≡ Some object → part object.body ≡ Some held → Some found ≡ held_of part (object_at name seen)
    → held ≡ found
finds {A} part name seen {object} {held} {found} there holds is =
    let same : Some found ≡ Some held = is ∙ held_there part name seen object there ∙ holds in
    cc

pub never_none : {A : Type 0} (part : Body → Option A) (name : ℕ) (seen : Seen) {object : Contents} {held : A}
    → object_at name seen ≡ Some object → part object.body ≡ Some held → None ≡ held_of part (object_at name seen) → ⊥
never_none {A} part name seen {object} {held} there holds is =
    let same : None ≡ Some held = is ∙ held_there part name seen object there ∙ holds in
    false≢true (ap is_some same)

-- the same program at another value that is the same
pub over : {X C : Type 0} {one other : X} {before after : Seen} {result : Result C Stop} (program : X → Run MadeBlock C)
    → one ≡ other → Does (program one) before result after → Does (program other) before result after
over {X} {C} {one} {other} {before} {after} {result} program same does =
    let At : X → Type 0 = λ value. Does (program value) before result after in
    subst At same does

pub computes_over : {X C : Type 0} {one other : X} {result : Result C Stop} (program : X → Run MadeBlock C)
    → one ≡ other → Computes (program one) result → Computes (program other) result
computes_over {X} {C} {one} {other} {result} program same computes =
    let At : X → Type 0 = λ value. Computes (program value) result in
    subst At same computes

-- where a `?` hands on that a receiver wasn't reached
pub handed_received : {A : Type 0} (part : Body → Option A) {program : Run MadeBlock (Receiver A)} {before after : Seen}
    {ended : Stop} (result : Result ℕ Stop) → IsErrAnd result (λ given. given ≡ ended)
    → Does program before (Err ended) after → Receives part program before result after
handed_received {A} part {program} {before} {after} {ended} result exit one =
    let given = err_from_is_err_and result exit in
    let At : Result ℕ Stop → Type 0 = λ found. Receives part program before found after in
    subst At (sym (given.1 ∙ ap Err given.2)) one

-- what code looked up in what a receiver holds
pub looked_up : {A C : Type 0} (part : Body → Option A) (look : A → Option C) (name : ℕ) (seen : Seen) {object : Contents}
    {held : A} {found : Option C} → object_at name seen ≡ Some object → part object.body ≡ Some held
    → found ≡ option_and_then look (held_of part (object_at name seen)) → found ≡ look held
looked_up {A} {C} part look name seen {object} {held} {found} there holds is =
    is ∙ ap (option_and_then look) (held_there part name seen object there ∙ holds)

-- an object that is seen twice holds the same
pub again : {A : Type 0} (part : Body → Option A) (name : ℕ) (seen : Seen) {object other : Contents} {held : A}
    → object_at name seen ≡ Some object → Some other ≡ object_at name seen → part object.body ≡ Some held
    → part other.body ≡ Some held
again {A} part name seen {object} {other} {held} there shown holds =
    let twice : Some other ≡ Some object = shown ∙ there in
    let same : object ≡ other = cc in
    let At : Contents → Type 0 = λ one. part one.body ≡ Some held in
    subst At same holds

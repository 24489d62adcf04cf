-- How rows of code make rows of programs, beside what is told of single steps below.
use Rattle.std.specs.Option.{unwrap_or}
use Rattle.std.proofs.lemmas.Bool.{false≢true}
use Rattle.std.proofs.Common.{[], ◌≡◌, sym, ap, ◌∙◌, subst, ℕ, Bool, true, false, Option, Some, None, Result, Ok, Err}
use Rattle.gem_object.specs.declared.value.Value.{Value}
use Rattle.gem_object.specs.declared.body.Body.{Body}
use Rattle.gem_sound.specs.gem_image.Image.{Contents}
use Rattle.object_programs.specs.gem_world.Access.{Access}
use Rattle.prim_parts.specs.tree_meaning.Place.{MadeBlock}
use Rattle.object_programs.specs.Local.{Local}
use Rattle.object_programs.specs.Atom.{Ask}
use Rattle.object_programs.specs.Run.{Run, give, atom, and_then, gives, Outcome, Ending}
use Rattle.object_programs.specs.Programs.{need}
use Rattle.object_programs.specs.declared.fault.Fault.{Fault}
use Rattle.object_programs.specs.declared.fault.Fault.TheVariants as fault
use Rattle.prim_rules.specs.Parts.{reference_in}
use Rattle.prim_rules.specs.Receivers.{Receiver, received}
use Rattle.running_objects.specs.Seen.{Seen}
use Rattle.running_objects.specs.Acted.{Reached}
use Rattle.running_objects.specs.declared.stop.Stop.{Stop}
use Rattle.running_objects.specs.declared.stop.Stop.TheVariants as stop
use Rattle.prim_parts.specs.Does.{Does, Computes}
use Rattle.prim_collections.specs.Looks.{Looks}
use Rattle.prim_parts.specs.Reached.{Reaches}
use Rattle.prim_parts.proofs.Does.{does_give, does_nothing, does_atom, does_then, does_stop, computes_then}

-- an access that was allowed, and what goes on from the object
pub does_accessed : {A : Type 0} {access : Access} {name : ℕ} {before between after : Seen} {result : Result A Stop}
    {rest : Contents → Run MadeBlock A} (reached : Reached access name before between)
    → Does (rest reached.object) between result after → Does (and_then (atom (Ask access name)) rest) before result after
does_accessed reached does = does_then (does_atom reached.acted) does

abbrev answer_of : {A : Type 0} → Option A → Ending A → Option A
answer_of other (gives answer) = Some answer
answer_of other _ = other

abbrev nowhere : Local MadeBlock
nowhere = record { scopes = []; blocks = []; living = [] }

-- what is there, where code that needs it went on
pub needed : {A : Type 0} (fault : Fault) (found : Option A) {before after : Seen} {answer : A}
    → Does (need fault found) before (Ok answer) after → found ≡ Some answer
needed {A} fault None does = ap (λ (outcome : Outcome MadeBlock A). answer_of None outcome.end) (does.ends nowhere)
needed {A} fault (Some held) does =
    ap (λ (outcome : Outcome MadeBlock A). answer_of None outcome.end) (does.ends nowhere)

-- a receiver that was reached, whose body holds what the rule is for
pub reaches : {A : Type 0} {part : Body → Option A} {access : Access}
    (value : Value) {name : ℕ} {before between : Seen} {held : A}
    → Computes (need fault.ArgumentKind (reference_in value)) (Ok name) → Reached access name before between
    → Looks (λ object. need fault.ArgumentKind (part object.body)) name between (Ok held)
    → Reaches part (received (λ other. atom (Ask access other)) part value) before name between
reaches {A} {part} {access} value {name} {before} {between} {held} named reached looks =
    let does = looks reached.object reached.there in
    record {
      object = reached.object;
      held = held;
      there = reached.there;
      holds = needed fault.ArgumentKind (part reached.object.body) does;
      does = computes_then named (does_accessed reached (does_then does
          (does_give (record { name = name; object = reached.object; held = held }) between)));
    }

-- and one that was reached, whose body holds something else
pub reaches_other : {A : Type 0} (part : Body → Option A) {access : Access} (value : Value) {name : ℕ} {before between : Seen}
    {ended : Stop} → Computes (need fault.ArgumentKind (reference_in value)) (Ok name) → Reached access name before between
    → Looks (λ object. need fault.ArgumentKind (part object.body)) name between (Err ended)
    → Does (received (λ other. atom (Ask access other)) part value) before (Err ended) between
reaches_other part value named reached looks =
    computes_then named (does_accessed reached (does_stop (looks reached.object reached.there)))

-- what a receiver holds is what code that looks at it sees
pub held_again : {A : Type 0} {part : Body → Option A} {program : Run MadeBlock (Receiver A)} {name : ℕ}
    {before after : Seen} {held : A} (reached : Reaches part program before name after)
    → Looks (λ object. need fault.ArgumentKind (part object.body)) name after (Ok held) → held ≡ reached.held
held_again {A} {part} {program} {name} {before} {after} {held} reached looks =
    let seen : part reached.object.body ≡ Some held =
    needed fault.ArgumentKind (part reached.object.body) (looks reached.object reached.there) in
    ap (λ (found : Option A). unwrap_or found held) (sym seen ∙ reached.holds)

-- and it sees nothing else: at most memory ran out
impossible : {A : Type 0} → Ending A → Bool
impossible (gives answer) = true
impossible _ = false

only_memory : {A C : Type 0} (answer : A) (program : Run MadeBlock C) (ended : Stop) {seen : Seen}
    → Does (give answer) seen (Err ended) seen → Does program seen (Err ended) seen
unfolding impossible
only_memory {A} {C} answer program (stop.Fails fault) {seen} does =
    absurd (false≢true (sym (ap (λ (outcome : Outcome MadeBlock A). impossible outcome.end) (does.ends nowhere))))
only_memory {A} {C} answer program (stop.Returns value home) {seen} does =
    absurd (false≢true (sym (ap (λ (outcome : Outcome MadeBlock A). impossible outcome.end) (does.ends nowhere))))
only_memory answer program stop.NoMemory does = does_nothing program does.keeps

pub never_other : {A C : Type 0} {part : Body → Option A} {reaching : Run MadeBlock (Receiver A)} {name : ℕ}
    {before after : Seen} {ended : Stop} (program : Run MadeBlock C) (reached : Reaches part reaching before name after)
    → Looks (λ object. need fault.ArgumentKind (part object.body)) name after (Err ended)
    → Does program after (Err ended) after
never_other {A} {C} {part} {reaching} {name} {before} {after} {ended} program reached looks =
    let At : Option A → Type 0 = λ found. Does (need fault.ArgumentKind found) after (Err ended) after in
    only_memory reached.held program ended
    (subst At reached.holds (looks reached.object reached.there))

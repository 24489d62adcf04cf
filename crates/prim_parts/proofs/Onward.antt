-- One program after another, and what a `?` hands on.
use Rattle.std.specs.Result.{IsErrAnd}
use Rattle.std.proofs.Common.{◌≡◌, sym, ap, subst, ℕ, Result, Ok, Err}
use Rattle.tree_meaning.specs.Place.{MadeBlock}
use Rattle.object_programs.specs.gem_world.World.{Setting}
use Rattle.object_programs.specs.gem_world.Access.{Access}
use Rattle.gem_sound.specs.gem_image.Image.{Contents}
use Rattle.object_programs.specs.Atom.{Ask}
use Rattle.object_programs.specs.Run.{Run, atom, and_then, State, Outcome, onward, perform}
use Rattle.running_objects.specs.Seen.{Seen}
use Rattle.running_objects.specs.Ran.{EndsSo}
use Rattle.running_objects.specs.Acted.{Acted}
use Rattle.running_objects.specs.declared.stop.Stop.{Stop}
use Rattle.running_objects.specs.declared.stop.Stop.TheVariants as stop
use Rattle.prim_parts.specs.Does.{Does, Computes}
use Rattle.prim_parts.proofs.Does.{does_stop, does_atom, computes_stop}

-- one computation after the other
pub computes_on : {A C : Type 0} {first : Run MadeBlock C} {second : C → Run MadeBlock A} {answer : C}
    {result : Result A Stop} → Computes first (Ok answer) → Computes (second answer) result
    → Computes (and_then first second) result
computes_on {A} {C} {first} {second} {answer} {result} one rest = record {
  ends = λ setting state.
      let next : Outcome MadeBlock C → Outcome MadeBlock A = λ outcome. onward outcome.end outcome.state
      (λ found left. perform (second found) setting left) in
      let At : Outcome MadeBlock A → Type 0 = λ outcome. EndsSo outcome result state in
      subst At (sym (ap next (one.ends setting state))) (rest.ends setting state);
}

stopped : {A C : Type 0} (setting : Setting) (outcome : Outcome MadeBlock C) (second : C → Run MadeBlock A) (ended : Stop)
    (state : State MadeBlock) → EndsSo outcome (Err ended) state
    → EndsSo (onward outcome.end outcome.state (λ found left. perform (second found) setting left)) (Err ended) state
stopped setting outcome second (stop.Fails fault) state is =
    ap (λ end. onward end.end end.state (λ found left. perform (second found) setting left)) is
stopped setting outcome second (stop.Returns value home) state is =
    ap (λ end. onward end.end end.state (λ found left. perform (second found) setting left)) is
stopped setting outcome second stop.NoMemory state is = tt

pub computes_off : {A C : Type 0} {first : Run MadeBlock C} {second : C → Run MadeBlock A} {ended : Stop}
    → Computes first (Err ended) → Computes (and_then first second) (Err ended)
computes_off {A} {C} {first} {second} {ended} one = record {
  ends = λ setting state. stopped setting (perform first setting state) second ended state (one.ends setting state);
}

-- what a `?` hands on
pub handed : {A : Type 0} (P : Result A Stop → Type 0) (result : Result A Stop) (ended : Stop)
    → IsErrAnd result (λ given. given ≡ ended) → P (Err ended) → P result
handed P (Ok answer) ended is one = absurd is
handed P (Err given) ended is one = let At : Stop → Type 0 = λ stop. P (Err stop) in subst At (sym is) one

pub does_stops : {A C : Type 0} {first : Run MadeBlock C} {second : C → Run MadeBlock A} {ended : Stop}
    {before after : Seen} {result : Result A Stop} → Does first before (Err ended) after
    → IsErrAnd result (λ given. given ≡ ended) → Does (and_then first second) before result after
does_stops {A} {C} {first} {second} {ended} {before} {after} {result} one is =
    handed (λ given. Does (and_then first second) before given after) result ended is (does_stop one)

pub computes_stops : {A C : Type 0} {first : Run MadeBlock C} {second : C → Run MadeBlock A} {ended : Stop}
    {seen : Seen} {result : Result A Stop} → Computes first (Err ended)
    → IsErrAnd result (λ given. given ≡ ended) → Does (and_then first second) seen result seen
computes_stops {A} {C} {first} {second} {ended} {seen} {result} one is =
    handed (λ given. Does (and_then first second) seen given seen) result ended is (computes_stop seen one)

pub access_stopped : {A : Type 0} {access : Access} {name : ℕ} {before after : Seen} {ended : Stop}
    {rest : Contents → Run MadeBlock A} {result : Result A Stop} → Acted (Ask access name) before (Err ended) after
    → IsErrAnd result (λ given. given ≡ ended) → Does (and_then (atom (Ask access name)) rest) before result after
access_stopped acted is = does_stops (does_atom acted) is

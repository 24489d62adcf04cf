-- How what calls did in turn makes what a rule says.
use Rattle.std.specs.Result.{IsErrAnd}
use Rattle.std.proofs.Common.{◌≡◌, subst, ℕ, Result, Ok, Err}
use Rattle.prim_parts.specs.tree_meaning.Place.{MadeBlock}
use Rattle.object_programs.specs.gem_world.Access.{Access}
use Rattle.gem_image.specs.Image.{Contents}
use Rattle.object_programs.specs.Atom.{Ask}
use Rattle.object_programs.specs.Run.{Run, give, atom, and_then}
use Rattle.running_objects.specs.Seen.{Seen}
use Rattle.running_objects.specs.Acted.{Acted}
use Rattle.running_objects.specs.declared.stop.Stop.{Stop}
use Rattle.running_objects.specs.declared.stop.Stop.TheVariants as stop
use Rattle.running_objects.proofs.Running.{keeps_same}
use Rattle.prim_parts.specs.Does.{Does, Computes}
use Rattle.prim_parts.proofs.Does.{does_then, does_stop, does_reached, does_atom, does_give, does_fail, does_nothing, computes_then, computes_stop, computes_give, computes_fail}
use Rattle.prim_parts.proofs.Onward.{access_stopped, computes_off, computes_on, computes_stops, does_stops, handed}

-- an access that stopped
pub access_stops : {A : Type 0} {access : Access} {name : ℕ} {before after : Seen} {ended : Stop}
    {rest : Contents → Run MadeBlock A} → Acted (Ask access name) before (Err ended) after
    → Does (and_then (atom (Ask access name)) rest) before (Err ended) after
access_stops acted = does_stop (does_atom acted)

pub computes_ends : {A C : Type 0} {first : Run MadeBlock C} {second : C → Run MadeBlock A} {ended : Stop}
    {result : Result A Stop} → Computes first (Err ended)
    → IsErrAnd result (λ given. given ≡ ended) → Computes (and_then first second) result
computes_ends {A} {C} {first} {second} {ended} {result} one is =
    handed (λ given. Computes (and_then first second) given) result ended is (computes_off one)

-- where memory ran out and nothing was done
pub does_no_memory : {A : Type 0} {program : Run MadeBlock A} {seen : Seen} {result : Result A Stop}
    → IsErrAnd result (λ given. given ≡ stop.NoMemory) → Does program seen result seen
does_no_memory {A} {program} {seen} {result} is =
    handed (λ given. Does program seen given seen) result stop.NoMemory is (does_nothing program (keeps_same seen))

pub computes_no_memory : {A : Type 0} {program : Run MadeBlock A} {result : Result A Stop}
    → IsErrAnd result (λ given. given ≡ stop.NoMemory) → Computes program result
computes_no_memory {A} {program} {result} is =
    handed (λ given. Computes program given) result stop.NoMemory is (record { ends = λ setting state. tt })

pub does_given : {A : Type 0} {answer given : A} {seen : Seen} → given ≡ answer
    → Does (give answer) seen (Ok given) seen
does_given {A} {answer} {given} {seen} is =
    let At : A → Type 0 = λ one. Does (give one) seen (Ok given) seen in
    subst At is (does_give given seen)

pub computes_given : {A : Type 0} {answer given : A} → given ≡ answer → Computes (give answer) (Ok given)
computes_given {A} {answer} {given} is =
    let At : A → Type 0 = λ one. Computes (give one) (Ok given) in
    subst At is (computes_give given)

pub ruleset steps = (
  computes_given,
  does_given,
  does_stop,
  does_then,
  computes_off,
  computes_on,
  computes_stop,
  computes_then,
  does_give,
  does_fail,
  computes_give,
  computes_fail,
  does_reached,
  access_stops,
  does_stops,
  computes_stops,
  computes_ends,
  access_stopped,
  does_no_memory,
  computes_no_memory,
  does_atom,
)

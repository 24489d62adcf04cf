-- How what calls did in turn makes what a program does.
use Rattle.std.specs.Result.{IsErrAnd}
use Rattle.std.proofs.Common.{◌≡◌, subst, ℕ, Result, Ok, Err}
use Rattle.gem_language.specs.tree_meaning.Place.{MadeBlock}
use Rattle.object_programs.specs.Fixed.{Fixed}
use Rattle.object_programs.specs.Run.{Run, give, and_then}
use Rattle.object_programs.specs.Programs.{known}
use Rattle.object_programs.specs.declared.fault.Fault.{Fault}
use Rattle.running_objects.specs.Seen.{Seen}
use Rattle.running_objects.specs.Acted.{Known}
use Rattle.running_objects.specs.declared.stop.Stop.{Stop}
use Rattle.running_objects.specs.declared.stop.Stop.TheVariants as stop
use Rattle.running_objects.proofs.Running.{keeps_same}
use Rattle.prim_parts.specs.Does.{Does}
use Rattle.prim_parts.proofs.Does.{does_then, does_stop, does_reached, does_atom, does_give, does_fail, does_compute, does_nothing, computes_then, computes_stop, computes_give, computes_fail, known_stop}
use Rattle.prim_parts.proofs.Onward.{access_stopped, computes_stops, does_stops, handed}

-- a fixed part that wasn't told
pub known_stops : {A : Type 0} {fault : Fault} {name : ℕ} {before after : Seen} {ended : Stop} {rest : Fixed → Run MadeBlock A}
    {result : Result A Stop} → Known name before (Err ended) after → IsErrAnd result (λ given. given ≡ ended)
    → Does (and_then (known fault name) rest) before result after
known_stops {A} {fault} {name} {before} {after} {ended} {rest} {result} asked is =
    handed (λ given. Does (and_then (known fault name) rest) before given after) result ended is (known_stop asked)

-- where memory ran out and nothing was done
pub does_no_memory : {A : Type 0} {program : Run MadeBlock A} {seen : Seen} {result : Result A Stop}
    → IsErrAnd result (λ given. given ≡ stop.NoMemory) → Does program seen result seen
does_no_memory {A} {program} {seen} {result} is =
    handed (λ given. Does program seen given seen) result stop.NoMemory is (does_nothing program (keeps_same seen))

pub does_given : {A : Type 0} {answer given : A} {seen : Seen} → given ≡ answer
    → Does (give answer) seen (Ok given) seen
does_given {A} {answer} {given} {seen} is =
    let At : A → Type 0 = λ one. Does (give one) seen (Ok given) seen in
    subst At is (does_give given seen)

pub ruleset steps = (
  does_given,
  does_stop,
  does_then,
  computes_stop,
  computes_then,
  does_give,
  does_fail,
  computes_give,
  computes_fail,
  does_reached,
  does_stops,
  computes_stops,
  access_stopped,
  does_no_memory,
  does_atom,
  does_compute,
)

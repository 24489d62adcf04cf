-- A message whose method stands at a place that is known.
use Rattle.std.proofs.Common.{◌≡◌, ◌∙◌, sym, subst, ℕ, ◌<◌, false, List, length, get_or, reverse, slice_get, Option, None, Some, Result, Ok, Err, IfSome}
use Rattle.std.proofs.lemmas.Option.{same_Some, slice_get-get_or}
use Rattle.gem_object.specs.texts.Bytes.{Bytes as Text}
use Rattle.gem_object.specs.declared.value.Value.{Value}
use Rattle.gem_object.specs.declared.value.Value.TheVariants as value
use Rattle.tree_meaning.specs.object_programs.Atom.{Tick}
use Rattle.tree_meaning.specs.object_programs.Budget.{Budget}
use Rattle.tree_meaning.specs.object_programs.Local.{Local}
use Rattle.tree_meaning.specs.Place.{Frame, MadeBlock}
use Rattle.tree_meaning.specs.Operands.{ValueRun}
use Rattle.gem_language.specs.declared.found.Found.{Found}
use Rattle.gem_language.specs.LookUp.{find_method}
use Rattle.gem_language.specs.Sends.{callee, call_found, send_by}
use Rattle.running_objects.specs.Acted.{Acted}
use Rattle.running_objects.specs.Seen.{Seen}
use Rattle.running_objects.specs.Ran.{Ran}
use Rattle.running_objects.specs.declared.stop.Stop.{Stop}
use Rattle.running_objects.proofs.Running.{ran_then, ran_stop}
use Rattle.prim_parts.proofs.Does.{does_atom, does_ran}
use Rattle.look_up_cache.specs.Memory.{with_budget}
use Rattle.look_up_cache.specs.Table.{held_at}
use Rattle.st_compiler.specs.Instruction.{Send}
use Rattle.st_machine.specs.Targets.{target_for, call_of, found_by, AnswersAt}
use Rattle.st_machine.specs.declared.target.Target.{Target}
use Rattle.st_machine.proofs.KnownAnswers.{unit_same, by_found}

module _ (depth : ℕ) (selector : Text) (frame : Frame) (receiver : Value) (arguments : List Value)
    {before after : Seen} (local : Local MadeBlock) where
  -- the unit, the look-up and the call are the message
  pub placed_ran : {later : Seen} {inner : Local MadeBlock} {result : Result Value Stop} (found : Option Found)
      (target : Target) → Acted Tick before (Ok tt) after → target ≡ target_for found
      → ((budget : Budget) → Ran (find_method false frame receiver selector) (with_budget budget before) local (Ok found)
      (with_budget budget before) local)
      → Ran (call_of (callee depth) selector target receiver (reverse arguments)) after local result later inner
      → Ran (send_by (callee depth) false selector frame receiver arguments) before local result later inner
  unfolding send_by
  placed_ran {later} {inner} {result} found target acted is finds called =
      let AtSeen : Seen → Type 0 = λ one. Ran (find_method false frame receiver selector) one local (Ok found) one local in
      let AtTarget : Target → Type 0 = λ one. Ran (call_of (callee depth) selector one receiver (reverse arguments))
      after local result later inner in
      let AtRun : ValueRun → Type 0 = λ program. Ran program after local result later inner in
      ran_then (λ ticked. found_by (callee depth) selector frame receiver arguments) (does_ran (does_atom acted) local)
      (ran_then (λ held. call_found (callee depth) selector held receiver (reverse arguments))
      (subst AtSeen (sym (unit_same acted)) (finds after.budget))
      (subst AtRun (by_found (callee depth) selector receiver (reverse arguments) found) (subst AtTarget is called)))

  -- no unit was left
  pub placed_stops : {ended : Stop} → Acted Tick before (Err ended) after
      → Ran (send_by (callee depth) false selector frame receiver arguments) before local (Err ended) after local
  unfolding send_by
  placed_stops acted =
      ran_stop (λ ticked. found_by (callee depth) selector frame receiver arguments) (does_ran (does_atom acted) local)

-- The place that is known is that of what answers the receiver, which stands below its arguments.
module _ (selector : Text) (frame : Frame) (own : List Value) (count : ℕ) (within : count < length own)
    (receiver : Value) (there : Some receiver ≡ slice_get own count) (seen : Seen) (local : Local MadeBlock)
    (founds : List (Option Found)) where
  pub answers_at : (known : Option ℕ)
      → IfSome known (λ at. (budget : Budget) → Ran (find_method false frame receiver selector)
      (with_budget budget seen) local (Ok (held_at founds at)) (with_budget budget seen) local)
      → AnswersAt (Send selector count) own frame seen local founds known
  answers_at None finds = tt
  answers_at (Some at) finds = λ budget.
      subst (λ (one : Value). Ran (find_method false frame one selector) (with_budget budget seen) local
      (Ok (held_at founds at)) (with_budget budget seen) local)
      (same_Some receiver (get_or own count value.Nil) (there ∙ slice_get-get_or own count value.Nil within))
      (finds budget)

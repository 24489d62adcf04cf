-- A look-up for a receiver that was read first.
use Rattle.std.proofs.Common.{subst, ℕ, false, Option, Result, Ok, Err}
use Rattle.gem_object.specs.texts.Bytes.{Bytes as Text}
use Rattle.gem_object.specs.declared.value.Value.{Value}
use Rattle.gem_object.specs.declared.value.Value.TheVariants as value
use Rattle.running_objects.specs.gem_world.Access.{a_read}
use Rattle.running_objects.specs.object_programs.Run.{Run, and_then, Outcome}
use Rattle.running_objects.specs.Seen.{Seen, with_local}
use Rattle.running_objects.specs.Ran.{EndsSo}
use Rattle.running_objects.specs.Acted.{Reached}
use Rattle.running_objects.specs.declared.stop.Stop.{Stop}
use Rattle.gem_language.specs.tree_meaning.Place.{Frame, MadeBlock}
use Rattle.gem_language.specs.LookUp.{Start, start_of_object, start_of_receiver, find_method}
use Rattle.gem_language.specs.declared.found.Found.{Found}
use Rattle.gem_language.proofs.Ends.{then_comes}
use Rattle.prim_parts.specs.Does.{Does}
use Rattle.prim_parts.proofs.Does.{does_give, does_atom, does_then, does_stop}
use Rattle.running_objects.specs.object_programs.Budget.{Budget}
use Rattle.look_up_cache.specs.Memory.{Met, BeginsFor, FindsFor, with_budget}
use Rattle.look_up_cache.proofs.AfterReads.{reached_begins}
use Rattle.look_up_cache.proofs.Gives.{begins_does}

-- What follows a program that gives this and leaves all as it is.
rest_does : {A C : Type 0} {first : Run MadeBlock C} {second : C → Run MadeBlock A} {answer : C} {seen after : Seen}
    {result : Result A Stop} → Does first seen (Ok answer) seen → Does (and_then first second) seen result after
    → Does (second answer) seen result after
rest_does {A} {C} {first} {second} {answer} {seen} {after} {result} one whole = record {
  keeps = whole.keeps;
  ends = λ local. subst (λ (outcome : Outcome MadeBlock A). EndsSo outcome result (with_local after local))
      (then_comes seen.setting first second (with_local seen local) answer (with_local seen local) (one.ends local))
      (whole.ends local);
}

module _ (frame : Frame) (selector : Text) where
  read_goes : (name : ℕ) {before between after : Seen} {result : Result (Option Found) Stop}
      → Reached a_read name before between
      → Does (find_method false frame (value.Ref name) selector) between result after
      → Does (find_method false frame (value.Ref name) selector) before result after
  unfolding find_method
  read_goes name {before} {between} {after} {result} reached does =
      let start : Start = start_of_object name reached.object.class reached.object.body in
      let begins = reached_begins name before between reached reached.object reached.there in
      let first : Does (start_of_receiver (value.Ref name)) before (Ok start) between =
      does_then (does_atom reached.acted) (does_give start between) in
      does_then first (rest_does (begins_does name start between begins) does)

  pub met_goes : (receiver : Value) {before between after : Seen} {result : Result (Option Found) Stop}
      → Met receiver before (Ok tt) between
      → Does (find_method false frame receiver selector) between result after
      → Does (find_method false frame receiver selector) before result after
  met_goes (value.Ref name) met does = read_goes name met does
  met_goes receiver {before} {between} {after} {result} met does =
      subst (λ (seen : Seen). Does (find_method false frame receiver selector) seen result after) met does

  pub met_stops : (receiver : Value) (ended : Stop) {before after : Seen} → Met receiver before (Err ended) after
      → Does (find_method false frame receiver selector) before (Err ended) after
  unfolding find_method
  met_stops (value.Ref name) ended met = does_stop (does_stop (does_atom met))
  met_stops receiver ended met = absurd met

-- What is known of a look-up is so whatever the budget is.
begins_with : (receiver : Value) (start : Start) (seen : Seen) (budget : Budget) → BeginsFor receiver start seen
    → BeginsFor receiver start (with_budget budget seen)
begins_with (value.Ref name) start seen budget begins = begins
begins_with other start seen budget begins = begins

pub known_with : (receiver : Value) (selector : Text) (found : Option Found) (seen : Seen) (budget : Budget)
    → FindsFor receiver selector found seen → FindsFor receiver selector found (with_budget budget seen)
known_with receiver selector found seen budget known = record {
  start = known.start;
  begins = begins_with receiver known.start seen budget known.begins;
  finds = known.finds;
}

-- A message that a primitive answers which takes the unit of the message and does what it does.
use Rattle.std.proofs.Common.{◌≡◌, ◌∙◌, refl, sym, ap, subst, ℕ, zero, suc, ◌<◌, false, List, reverse, length, take, drop, get_or, slice_get, Option, Some, Result, Ok, Err}
use Rattle.std.proofs.lemmas.Option.{same_Some, slice_get-get_or}
use Rattle.std.specs.declared.alloc.AllocError.{AllocError}
use Rattle.gem_object.specs.texts.Bytes.{Bytes as Text}
use Rattle.gem_object.specs.declared.value.Value.{Value}
use Rattle.gem_object.specs.declared.value.Value.TheVariants as value
use Rattle.tree_meaning.specs.gem_world.World.{Setting}
use Rattle.tree_meaning.specs.object_programs.Atom.{Tick, ticked}
use Rattle.tree_meaning.specs.object_programs.Budget.{Budget}
use Rattle.tree_meaning.specs.object_programs.Local.{Local}
use Rattle.tree_meaning.specs.object_programs.Run.{Run, atom, and_then, end_of, gives, State, Outcome, onward, perform}
use Rattle.tree_meaning.specs.Place.{Frame, MadeBlock}
use Rattle.tree_meaning.specs.Operands.{ValueRun}
use Rattle.tree_meaning.specs.declared.place.Mark.{Mark}
use Rattle.gem_language.specs.declared.found.Found.{Found}
use Rattle.gem_language.specs.LookUp.{find_method}
use Rattle.gem_language.specs.Sends.{Callee, callee, outside, primitive_value, call_found, send_by}
use Rattle.running_objects.specs.Seen.{Seen, with_local}
use Rattle.running_objects.specs.Ran.{Ran, EndsSo}
use Rattle.running_objects.specs.declared.stop.Stop.{Stop}
use Rattle.prim_parts.specs.Does.{Does}
use Rattle.prim_parts.proofs.Does.{does_give, does_ran, does_then, does_stop, does_assoc_back}
use Rattle.look_up_cache.specs.Memory.{with_budget}
use Rattle.st_compiler.specs.Code.{Piece}
use Rattle.st_compiler.specs.Instruction.{Send}
use Rattle.st_compiler.specs.Machine.{act}
use Rattle.st_machine.specs.AtOnce.{with_unit, giving}
use Rattle.st_machine.specs.Lacks.{stop_of}
use Rattle.st_machine.specs.declared.lack.Lack.{Lack}
use Rattle.st_machine.proofs.Lacking.{lack_turned}
use Rattle.st_machine.specs.Led.{TurnedBy, AnswerTurned}
use Rattle.st_machine.specs.Parts.{framed}
use Rattle.st_machine.specs.Targets.{target_for, call_of}
use Rattle.st_machine.specs.declared.flow.Turn.{Turn}
use Rattle.st_machine.specs.declared.flow.Turn.TheVariants as turn
use Rattle.st_machine.specs.declared.target.Target.{Target}
use Rattle.st_machine.specs.declared.target.Target.TheVariants.{Primitive}
use Rattle.st_machine.proofs.KnownAnswers.{by_found}
use Rattle.st_machine.proofs.Sent.{sent_answers, sent_stops}

-- After a unit, a program that answers and changes nothing may be left out.
module _ {A C : Type 0} (program : Run MadeBlock C) (rest : C → Run MadeBlock A) (answer : C) (setting : Setting)
    (state : State MadeBlock)
    (finds : (budget : Budget) → perform program setting (record state { budget = budget })
    ≡ record { end = gives answer; state = record state { budget = budget } }) where
  abbrev after_unit : ℕ → Run MadeBlock A → Outcome MadeBlock A
  after_unit units next =
      let did = ticked units state.world state.budget in
      onward (end_of did.answer) (record { world = did.world; budget = did.budget; local = state.local })
      (λ unit left. perform next setting left)

  unit_first : (units : ℕ) → after_unit units (and_then program rest) ≡ after_unit units (rest answer)
  unit_first zero = refl
  unit_first (suc units) =
      ap (λ (outcome : Outcome MadeBlock C). onward outcome.end outcome.state (λ found left. perform (rest found) setting left))
      (finds (record state.budget { units = units }))

  pub without_it : perform (and_then (atom Tick) (λ unit. and_then program rest)) setting state
      ≡ perform (and_then (atom Tick) (λ unit. rest answer)) setting state
  without_it = unit_first state.budget.units

-- how a run ends so
abbrev lacking : Result Value Lack → Result Value Stop
lacking (Ok answer) = Ok answer
lacking (Err lack) = Err (stop_of lack)

-- What the primitive gives is the answer of its call.
module _ (callee : Callee) (selector : Text) (found : Option Found) (number : ℕ) (is : target_for found ≡ Primitive number)
    (receiver : Value) (arguments : List Value) {before after : Seen} where
  at_call : {result : Result Value Stop}
      → Does (and_then (with_unit number receiver arguments) (λ answer. primitive_value callee answer)) before result after
      → Does (and_then (atom Tick) (λ unit. call_found callee selector found receiver arguments)) before result after
  at_call {result} does =
      let AtTarget : Target → Type 0 = λ target. Does (and_then (atom Tick) (λ unit. call_of callee selector target receiver
      arguments)) before result after in
      let AtRun : ValueRun → Type 0 = λ program. Does (and_then (atom Tick) (λ unit. program)) before result after in
      subst AtRun (by_found callee selector receiver arguments found) (subst AtTarget (sym is) (does_assoc_back does))

  pub unit_called : (ended : Result Value Lack) → Does (with_unit number receiver arguments) before (giving ended) after
      → Does (and_then (atom Tick) (λ unit. call_found callee selector found receiver arguments)) before (lacking ended) after
  unit_called (Ok answer) does = at_call (does_then does (does_give answer after))
  unit_called (Err lack) does = at_call (does_stop does)

-- The message, in which nothing but the primitive does anything.
module _ (depth : ℕ) (table : List Piece) (selector : Text) (count place : ℕ) (stack left : List Value) (scopes : List Mark)
    (frame : Frame) (before after : Seen) (local : Local MadeBlock) (within : count < length stack) (found : Option Found)
    (number : ℕ) (is : target_for found ≡ Primitive number)
    (finds : (budget : Budget) → Ran (find_method false (framed scopes frame) (get_or stack count value.Nil) selector)
    (with_budget budget before) local (Ok found) (with_budget budget before) local) where
  sent_so : (ended : Result Value Lack)
      → Does (with_unit number (get_or stack count value.Nil) (reverse (take count stack))) before (giving ended) after
      → Ran (send_by (callee depth) false selector (framed scopes frame) (get_or stack count value.Nil) (take count stack))
      before local (lacking ended) after local
  unfolding send_by
  sent_so ended does =
      let receiver = get_or stack count value.Nil in
      let rest = λ (held : Option Found). call_found (callee depth) selector held receiver (reverse (take count stack)) in
      let ran : Ran (and_then (atom Tick) (λ unit. rest found)) before local (lacking ended) after local =
      does_ran (unit_called (callee depth) selector found number is receiver (reverse (take count stack)) ended does) local in
      let At : Outcome MadeBlock Value → Type 0 = λ outcome. EndsSo outcome (lacking ended) (with_local after local) in
      record {
        keeps = ran.keeps;
        ends = subst At (sym (without_it (find_method false (framed scopes frame) receiver selector) rest found before.setting
            (with_local before local) (λ budget. (finds budget).ends))) ran.ends;
      }

  changed_led : (ended : Result Value Lack)
      → Does (with_unit number (get_or stack count value.Nil) (reverse (take count stack))) before (giving ended) after
      → (result : Result Turn AllocError) → AnswerTurned place ended (drop (suc count) stack) left result
      → TurnedBy (outside depth) table (Send selector count) place stack scopes frame before local result left scopes
      after local
  changed_led (Ok answer) does (Ok (turn.Goes there)) (is_there, stands) =
      sent_answers depth table selector count place stack scopes scopes frame before after local local false within
      answer left there is_there refl stands (sent_so (Ok answer) does)
  changed_led (Ok answer) does (Err none) turned = tt
  changed_led (Ok answer) does (Ok other) turned = absurd turned
  changed_led (Err lack) does result turned =
      lack_turned (λ next back. act (outside depth) before.setting table (Some (Send selector count)) next back place stack
      (framed scopes frame) (with_local before local)) lack result turned left (framed scopes frame)
      (with_local after local)
      (sent_stops depth table selector count place stack scopes scopes frame before after local local false within
      (stop_of lack) left (sent_so (Err lack) does))

  -- The receiver of the primitive stands below its arguments.
  pub changing_led : (receiver : Value) → Some receiver ≡ slice_get stack count → (arguments : List Value)
      → arguments ≡ reverse (take count stack) → (ended : Result Value Lack)
      → Does (with_unit number receiver arguments) before (giving ended) after → (result : Result Turn AllocError)
      → AnswerTurned place ended (drop (suc count) stack) left result
      → TurnedBy (outside depth) table (Send selector count) place stack scopes frame before local result left scopes
      after local
  changing_led receiver there arguments are ended does result turned =
      let AtReceiver : Value → Type 0 = λ at. Does (with_unit number at arguments) before (giving ended) after in
      let AtArguments : List Value → Type 0 = λ items. Does (with_unit number (get_or stack count value.Nil) items) before
      (giving ended) after in
      changed_led ended (subst AtArguments are (subst AtReceiver
      (same_Some receiver (get_or stack count value.Nil) (there ∙ slice_get-get_or stack count value.Nil within)) does))
      result turned

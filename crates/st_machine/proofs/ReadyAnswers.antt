-- What is put in place of a receiver and its arguments is what the message is answered.
use Rattle.std.proofs.Common.{◌≡◌, ◌∙◌, refl, sym, subst, ℕ, ℤ, suc, ◌<◌, false, List, ◌∷◌, reverse, length, take, drop, get_or, slice_get, Option, Some, Ok}
use Rattle.std.proofs.lemmas.Option.{same_Some, slice_get-get_or}
use Rattle.gem_object.specs.texts.Bytes.{Bytes as Text}
use Rattle.gem_object.specs.declared.value.Value.{Value}
use Rattle.gem_object.specs.declared.value.Value.TheVariants as value
use Rattle.gem_object.specs.declared.body.MethodCode.{MethodCode}
use Rattle.gem_object.specs.declared.body.MethodCode.TheVariants.{Primitive}
use Rattle.prim_parts.specs.prim_rules.declared.answer.PrimitiveAnswer.{PrimitiveAnswer}
use Rattle.prim_parts.specs.prim_rules.declared.answer.PrimitiveAnswer.TheVariants.{Gives}
use Rattle.tree_meaning.specs.object_programs.Budget.{Budget}
use Rattle.tree_meaning.specs.object_programs.Local.{Local}
use Rattle.tree_meaning.specs.Place.{Frame, MadeBlock}
use Rattle.gem_language.specs.prim_rules.Rules.{rule_of}
use Rattle.gem_language.specs.declared.found.Found.{Found}
use Rattle.gem_language.specs.LookUp.{find_method}
use Rattle.gem_language.specs.Sends.{Callee, callee, primitive_value, call_code, call_found}
use Rattle.running_objects.specs.Seen.{Seen}
use Rattle.running_objects.specs.Ran.{Ran}
use Rattle.running_objects.proofs.Running.{ran_then}
use Rattle.prim_parts.specs.Does.{Does}
use Rattle.prim_parts.proofs.Does.{does_give, does_ran}
use Rattle.look_up_cache.specs.Memory.{with_budget}
use Rattle.look_up_cache.specs.Operators.{operator_selector, operator_number, IntegersAnswer}
use Rattle.look_up_cache.specs.declared.operator.IntegerOperator.{IntegerOperator}
use Rattle.st_machine.specs.AtOnce.{IsReady}
use Rattle.st_machine.specs.Ready.{ReadyPut, PutBy, by_push, by_primitive}
use Rattle.st_machine.specs.Targets.{found_by, Answered}
use Rattle.st_machine.proofs.KnownAnswers.{known_answered}

-- A primitive that gives a value is what its call comes to.
ready_called : (callee : Callee) (selector : Text) (receiver : Value) (arguments : List Value) (held : Found) (number : ℕ)
    → held.code ≡ Primitive number → (answer : Value) (seen : Seen)
    → Does (rule_of number receiver arguments) seen (Ok (Gives answer)) seen → (local : Local MadeBlock)
    → Ran (call_found callee selector (Some held) receiver arguments) seen local (Ok answer) seen local
ready_called callee selector receiver arguments held number is answer seen does local =
    let AtCode : MethodCode → Type 0 = λ code. Ran (call_code callee selector held code receiver arguments)
    seen local (Ok answer) seen local in
    subst AtCode (sym is) (ran_then (λ (given : PrimitiveAnswer). primitive_value callee given)
    (does_ran does local) (does_ran (does_give answer seen) local))

-- the receiver of the primitive stands below its arguments, and the answer in their place
pub ready_put : (own : List Value) (count : ℕ) → count < length own → (receiver : Value)
    → Some receiver ≡ slice_get own count → (number : ℕ) (arguments : List Value) (seen : Seen) (answer : Value)
    (left : List Value) → IsReady number receiver arguments seen answer → arguments ≡ reverse (take count own)
    → left ≡ answer ∷ drop (suc count) own
    → ReadyPut number (get_or own count value.Nil) (reverse (take count own)) seen (drop (suc count) own) left
ready_put own count within receiver there number arguments seen answer left ready are stands =
    let receiver_is : receiver ≡ get_or own count value.Nil =
    same_Some receiver (get_or own count value.Nil) (there ∙ slice_get-get_or own count value.Nil within) in
    let AtReceiver : Value → Type 0 = λ at. IsReady number at arguments seen answer in
    let AtArguments : List Value → Type 0 = λ items. IsReady number (get_or own count value.Nil) items seen answer in
    record {
      answer = answer;
      ready = subst AtArguments are (subst AtReceiver receiver_is ready);
      stands = stands;
    }

-- The message is answered so.
module _ (depth : ℕ) (some : 0 < depth) (selector : Text) (frame : Frame) (own : List Value) (count : ℕ)
    (found : Option Found) (left : List Value) (seen : Seen) (budget : Budget) {local : Local MadeBlock}
    (finds : Ran (find_method false frame (get_or own count value.Nil) selector) (with_budget budget seen) local
    (Ok found) (with_budget budget seen) local) where
  pub put_answered : PutBy found (get_or own count value.Nil) (reverse (take count own)) seen (drop (suc count) own) left
      → Answered (found_by (callee depth) selector frame (get_or own count value.Nil) (take count own))
      (with_budget budget seen) local (drop (suc count) own) left
  put_answered (by_push held one is quick pushed) =
      known_answered depth some selector frame own count found held.holder held.class_side one quick left seen budget finds
      pushed
  put_answered (by_primitive held number is by_code put) =
      let here : Seen = with_budget budget seen in
      let AtFound : Option Found → Type 0 = λ at. Ran (call_found (callee depth) selector at (get_or own count value.Nil)
      (reverse (take count own))) here local (Ok put.answer) here local in
      record {
        answer = put.answer;
        ran = ran_then (λ (at : Option Found). call_found (callee depth) selector at (get_or own count value.Nil)
            (reverse (take count own))) finds
            (subst AtFound is (ready_called (callee depth) selector (get_or own count value.Nil) (reverse (take count own))
            held number by_code put.answer here (put.ready budget) local));
        stands = put.stands;
      }

-- An operator that integers answer by its primitive is answered so, where that is ready.
module _ (depth : ℕ) (some : 0 < depth) (selector : Text) (frame : Frame) (own : List Value) (count : ℕ)
    (operator : IntegerOperator) (named : operator_selector operator ≡ selector) (number : ℤ)
    (receiver_is : get_or own count value.Nil ≡ value.Int number) (seen : Seen)
    (known : IntegersAnswer operator seen) (budget : Budget) (local : Local MadeBlock) where
  pub operator_answered : (left : List Value) → ReadyPut (operator_number operator) (get_or own count value.Nil)
      (reverse (take count own)) seen (drop (suc count) own) left
      → Answered (found_by (callee depth) selector frame (get_or own count value.Nil) (take count own))
      (with_budget budget seen) local (drop (suc count) own) left
  operator_answered left put =
      let here : Seen = with_budget budget seen in
      let held = known number in
      let AtReceiver : Value → Type 0 = λ at. Ran (find_method false frame at selector) here local (Ok (Some held.0)) here local in
      let AtSelector : Text → Type 0 = λ at. Ran (find_method false frame (value.Int number) at) here local (Ok (Some held.0)) here local in
      put_answered depth some selector frame own count (Some held.0) left seen budget
      (subst AtReceiver (sym receiver_is) (subst AtSelector named (does_ran (held.2 frame budget) local)))
      (by_primitive held.0 (operator_number operator) refl held.1 put)

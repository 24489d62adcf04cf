-- Messages to sequences that are known from the receiver alone.
use Rattle.std.proofs.Common.{◌≡◌, ◌∙◌, refl, sym, ap, subst, ℕ, suc, ◌<◌, false, List, [], ◌∷◌, reverse, length, take, drop, get_or, slice_get, Some, Result, Ok, codes}
use Rattle.std.proofs.lemmas.Option.{same_Some, none-some, slice_get-get_or}
use Rattle.std.specs.declared.alloc.AllocError.{AllocError}
use Rattle.gem_object.specs.texts.Bytes.{Bytes as Text}
use Rattle.gem_object.specs.declared.value.Value.{Value}
use Rattle.gem_object.specs.declared.value.Value.TheVariants as value
use Rattle.tree_meaning.specs.object_programs.Budget.{Budget}
use Rattle.tree_meaning.specs.object_programs.Local.{Local}
use Rattle.tree_meaning.specs.Place.{Frame, MadeBlock}
use Rattle.tree_meaning.specs.declared.place.Mark.{Mark}
use Rattle.gem_language.specs.LookUp.{find_method}
use Rattle.gem_language.specs.Sends.{callee, outside}
use Rattle.running_objects.specs.Seen.{Seen}
use Rattle.running_objects.specs.Ran.{Ran}
use Rattle.prim_parts.specs.Does.{Does}
use Rattle.prim_parts.proofs.Does.{does_ran}
use Rattle.look_up_cache.specs.Answering.{AnswersBy}
use Rattle.look_up_cache.specs.Memory.{with_budget}
use Rattle.st_compiler.specs.Code.{Piece}
use Rattle.st_compiler.specs.Instruction.{Send}
use Rattle.st_machine.specs.AtOnce.{with_unit, giving}
use Rattle.st_machine.specs.Led.{TurnedBy, AnswerTurned}
use Rattle.st_machine.specs.Parts.{framed}
use Rattle.st_machine.specs.Ready.{ReadyPut, by_primitive}
use Rattle.st_machine.specs.Targets.{found_by, target_by, Answered}
use Rattle.st_machine.specs.declared.flow.Turn.{Turn}
use Rattle.st_machine.specs.declared.lack.Lack.{Lack}
use Rattle.st_machine.proofs.Changes.{changing_led}
use Rattle.st_machine.proofs.ReadyAnswers.{put_answered}

-- the arguments of a message stand above its receiver, the last one on top
pub one_argument : (own : List Value) (first : Value) → Some first ≡ slice_get own 0
    → first ∷ [] ≡ reverse (take 1 own)
one_argument [] first there = absurd (none-some first (sym there))
one_argument (top ∷ rest) first there = ap (λ (one : Value). one ∷ []) (same_Some first top there)

pub two_arguments : (own : List Value) (first second : Value) → Some second ≡ slice_get own 0
    → Some first ≡ slice_get own 1 → first ∷ second ∷ [] ≡ reverse (take 2 own)
two_arguments [] first second above there = absurd (none-some second (sym above))
two_arguments (top ∷ []) first second above there = absurd (none-some first (sym there))
two_arguments (top ∷ next ∷ rest) first second above there =
    ap (λ (one : Value). one ∷ second ∷ []) (same_Some first next there)
    ∙ ap (λ (one : Value). next ∷ one ∷ []) (same_Some second top above)

-- `at:` is answered by its primitive, which is ready.
module _ (depth : ℕ) (some : 0 < depth) (selector : Text) (frame : Frame) (own : List Value)
    (named : codes "at:" ≡ selector) (seen : Seen) (known : AnswersBy 34 (get_or own 1 value.Nil) (codes "at:") seen)
    (budget : Budget) (local : Local MadeBlock) (left : List Value)
    (put : ReadyPut 34 (get_or own 1 value.Nil) (reverse (take 1 own)) seen (drop 2 own) left) where
  pub element_answered : (count : ℕ) → count ≡ 1
      → Answered (found_by (callee depth) selector frame (get_or own count value.Nil) (take count own))
      (with_budget budget seen) local (drop (suc count) own) left
  element_answered count one =
      let here : Seen = with_budget budget seen in
      let AtCount : ℕ → Type 0 = λ n. Answered (found_by (callee depth) selector frame (get_or own n value.Nil) (take n own))
      here local (drop (suc n) own) left in
      let AtSelector : Text → Type 0 = λ at. Ran (find_method false frame (get_or own 1 value.Nil) at) here local
      (Ok (Some known.0)) here local in
      subst AtCount (sym one) (put_answered depth some selector frame own 1 (Some known.0) left seen budget
      (subst AtSelector named (does_ran (known.2 frame budget) local)) (by_primitive known.0 34 refl known.1 put))

-- `at:put:` does what its primitive does, after its unit.
module _ (depth : ℕ) (table : List Piece) (selector : Text) (named : selector ≡ codes "at:put:") (place : ℕ)
    (stack left : List Value) (scopes : List Mark) (frame : Frame) (before after : Seen) (local : Local MadeBlock)
    (within : 2 < length stack) (receiver first second : Value) (there : Some receiver ≡ slice_get stack 2)
    (next_there : Some first ≡ slice_get stack 1) (top_there : Some second ≡ slice_get stack 0)
    (known : AnswersBy 35 receiver (codes "at:put:") before) where
  pub element_put_led : (ended : Result Value Lack)
      → Does (with_unit 35 receiver (first ∷ second ∷ [])) before (giving ended) after → (result : Result Turn AllocError)
      → AnswerTurned place ended (drop 3 stack) left result
      → TurnedBy (outside depth) table (Send selector 2) place stack scopes frame before local result left scopes
      after local
  element_put_led ended does result turned =
      let receiver_is : receiver ≡ get_or stack 2 value.Nil =
      same_Some receiver (get_or stack 2 value.Nil) (there ∙ slice_get-get_or stack 2 value.Nil within) in
      let AtReceiver : Budget → Value → Type 0 = λ budget at. Ran (find_method false (framed scopes frame) at selector)
      (with_budget budget before) local (Ok (Some known.0)) (with_budget budget before) local in
      let AtSelector : Budget → Text → Type 0 = λ budget at. Ran (find_method false (framed scopes frame) receiver at)
      (with_budget budget before) local (Ok (Some known.0)) (with_budget budget before) local in
      changing_led depth table selector 2 place stack left scopes frame before after local within (Some known.0) 35
      (ap (target_by known.0) known.1)
      (λ budget. subst (AtReceiver budget) receiver_is (subst (AtSelector budget) (sym named)
      (does_ran (known.2 (framed scopes frame) budget) local)))
      receiver there (first ∷ second ∷ []) (two_arguments stack first second top_there next_there) ended does result turned

-- the uppermost value is kept
pub top_kept : (stack left : List Value) (top : Value) → left ≡ get_or stack 0 value.Nil ∷ drop 3 stack
    → Some top ≡ slice_get stack 0 → left ≡ top ∷ drop 3 stack
top_kept [] left top is there = absurd (none-some top (sym there))
top_kept (first ∷ rest) left top is there =
    is ∙ ap (λ (one : Value). one ∷ drop 2 rest) (sym (same_Some top first there))

-- Edits of slots, as edits of the elements that stand after the named ones.
use Rattle.std.proofs.Common.{◌≡◌, refl, sym, ap, ap₂, ◌∙◌, subst, ℕ, zero, suc, ◌+◌, ◌-◌, ◌≤◌, List, [], ◌∷◌, ◌++◌, Option, Some, None, Result, Ok, length, take, drop, slice_set, arith, append_assoc, length-drop}
use Rattle.std.specs.List.{slice_get}
use Rattle.std.specs.Option.{option_and_then}
use Rattle.std.proofs.Math.Seq.{take-length}
use Rattle.std.proofs.lemmas.List.{take-append-drop, take-set-le, drop-set-add, drop-drop, append-nil}
use Rattle.gem_object.specs.Edits.{slot_at, with_slot, with_slot_more, without_slot}
use Rattle.gem_object.specs.declared.value.Value.{Value}
use Rattle.gem_object.specs.declared.body.Body.{Body}
use Rattle.gem_object.specs.declared.body.Body.TheVariants.{Plain, Bytes, Dict, Class, Segment, User, Counter, Bag, RcDict, Queue}
use Rattle.gem_sound.specs.gem_image.Image.{Contents}
use Rattle.object_programs.specs.Run.{give, and_then}
use Rattle.object_programs.specs.Programs.{need, replace_body}
use Rattle.object_programs.specs.declared.fault.Fault.TheVariants as fault
use Rattle.prim_rules.specs.Parts.{slots_in, named_slots}
use Rattle.prim_rules.specs.Sequences.{put_elements, without_first, without_last}
use Rattle.running_objects.specs.Seen.{Seen}
use Rattle.running_objects.specs.declared.stop.Stop.{Stop}
use Rattle.prim_parts.specs.Does.{Does}
use Rattle.prim_parts.proofs.Does.{does_then, does_give}
use Rattle.prim_collections.specs.Slots.{IsLaidOut, slot_rule, slot_put, slot_added, slot_taken}
use Rattle.prim_collections.specs.declared.layout.Layout.{Layout}
use Rattle.prim_collections.proofs.Rows.{needed}

-- a body with slots is Plain
slots_are : (body : Body) (slots : List Value) → slots_in body ≡ Some slots → body ≡ Plain slots
slots_are (Plain values) slots is = cc
slots_are (Bytes bytes) slots is = cc
slots_are (Dict pairs) slots is = cc
slots_are (Class class) slots is = cc
slots_are (Segment rights) slots is = cc
slots_are (User user) slots is = cc
slots_are (Counter counter) slots is = cc
slots_are (Bag bag) slots is = cc
slots_are (RcDict pairs) slots is = cc
slots_are (Queue queue) slots is = cc

-- the layout of an object whose slots were seen, of which so many are named
pub laid_out : {object : Contents} {seen : Seen} {slots : List Value} (named count : ℕ)
    → Does (need fault.ArgumentKind (slots_in object.body)) seen (Ok slots) seen → count ≡ length slots
    → Does (named_slots object.class) seen (Ok named) seen → IsLaidOut object seen (record { named = named; slots = count })
laid_out {object} {seen} {slots} named count looks is counted = record {
  slots = slots;
  are = slots_are object.body slots (needed fault.ArgumentKind (slots_in object.body) looks);
  count = is;
  does = does_then looks (does_then counted
      (does_give (record { named = take named slots; elements = drop named slots }) seen));
}

-- lists: a value at a place, one more at the end, and what is left without the first and the last
put_is : (slots : List Value) (named place : ℕ) (value : Value)
    → slice_set slots (named + place) value ≡ take named slots ++ slice_set (drop named slots) place value
put_is slots named place value = sym (take-append-drop named (slice_set slots (named + place) value))
    ∙ ap₂ (λ front back. front ++ back) (take-set-le named slots (named + place) value (omega arith))
    (drop-set-add named slots place value)

take_all : (xs : List Value) (count : ℕ) → count ≡ length xs → take count xs ≡ xs
take_all xs count is = ap (λ (k : ℕ). take k xs) is ∙ take-length xs

drop_all : (xs : List Value) (count : ℕ) → length xs ≤ count → drop count xs ≡ []
drop_all [] zero past = refl
drop_all [] (suc count) past = refl
drop_all (x ∷ xs) zero past = absurd (omega arith)
drop_all (x ∷ xs) (suc count) past = drop_all xs count (omega arith)

take_none : (count : ℕ) → take {A = Value} count [] ≡ []
take_none zero = refl
take_none (suc count) = refl

last_is : (slots : List Value) (named count : ℕ) (value : Value) → count ≡ length slots
    → take count slots ++ value ∷ drop count slots ≡ take named slots ++ (drop named slots ++ value ∷ [])
last_is slots named count value is =
    ap₂ (λ front back. front ++ value ∷ back) (take_all slots count is) (drop_all slots count (omega arith))
    ∙ ap (λ front. front ++ value ∷ []) (sym (take-append-drop named slots))
    ∙ append_assoc (take named slots) (drop named slots) (value ∷ [])

got : (slots : List Value) (named place : ℕ) → slice_get slots (named + place) ≡ slice_get (drop named slots) place
got [] zero place = refl
got [] (suc named) place = refl
got (x ∷ xs) zero place =
    let same : 0 + place ≡ place = omega arith in
    ap (λ (at : ℕ). slice_get (x ∷ xs) at) same
got (x ∷ xs) (suc named) place =
    let same : suc named + place ≡ suc (named + place) = omega arith in
    ap (λ (at : ℕ). slice_get (x ∷ xs) at) same ∙ got xs named place

taken : (slots : List Value) (named more : ℕ) → take (named + more) slots ≡ take named slots ++ take more (drop named slots)
taken [] named more = take_none (named + more)
    ∙ sym (ap₂ (λ front back. front ++ take more back) (take_none named) (drop_all [] named (omega arith)) ∙ take_none more)
taken (x ∷ xs) zero more =
    let same : 0 + more ≡ more = omega arith in
    ap (λ (count : ℕ). take count (x ∷ xs)) same
taken (x ∷ xs) (suc named) more =
    let same : suc named + more ≡ suc (named + more) = omega arith in
    ap (λ (count : ℕ). take count (x ∷ xs)) same ∙ ap (λ rest. x ∷ rest) (taken xs named more)

module _ {object : Contents} {seen : Seen} {layout : Layout} (laid : IsLaidOut object seen layout) where
  -- how many elements there are
  pub size_is : layout.slots - layout.named ≡ length (drop layout.named laid.slots)
  size_is = ap (λ (count : ℕ). count - layout.named) laid.count ∙ sym (length-drop layout.named laid.slots)

  -- an element that was found by its slot
  pub element_found : (place : ℕ) {before after : Seen} {result : Result Value Stop}
      → Does (slot_rule (layout.named + place) object) before result after
      → Does (need fault.Index (slice_get (drop layout.named laid.slots) place)) before result after
  element_found place {before} {after} {result} does =
      let At : Option Value → Type 0 = λ found. Does (need fault.Index found) before result after in
      subst At (ap (slot_at (layout.named + place)) laid.are ∙ got laid.slots layout.named place) does

  -- a value that was put in an element's slot
  pub element_put : (name place : ℕ) (value : Value) {before after : Seen} {result : Result Value Stop}
      → Does (slot_put (layout.named + place) name value object) before result after
      → Does (put_elements 0 name object (take layout.named laid.slots)
      (slice_set (drop layout.named laid.slots) place value) value) before result after
  element_put name place value {before} {after} {result} does =
      let At : Body → Type 0 = λ body. Does (and_then (replace_body 0 name object body)
      (λ put. give value)) before result after in
      subst At (ap (with_slot (layout.named + place) value) laid.are ∙ ap Plain (put_is laid.slots layout.named place value)) does

  -- a value that was added behind the last element, and before the first one
  pub last_put : (name : ℕ) (value : Value) {before after : Seen} {result : Result Value Stop}
      → Does (slot_added layout.slots name value object) before result after
      → Does (put_elements 1 name object (take layout.named laid.slots)
      (drop layout.named laid.slots ++ value ∷ []) value) before result after
  last_put name value {before} {after} {result} does =
      let At : Body → Type 0 = λ body. Does (and_then (replace_body 1 name object body)
      (λ put. give value)) before result after in
      subst At (ap (with_slot_more layout.slots value) laid.are
      ∙ ap Plain (last_is laid.slots layout.named layout.slots value laid.count)) does

  pub first_put : (name : ℕ) (value : Value) {before after : Seen} {result : Result Value Stop}
      → Does (slot_added layout.named name value object) before result after
      → Does (put_elements 1 name object (take layout.named laid.slots)
      (value ∷ drop layout.named laid.slots) value) before result after
  first_put name value {before} {after} {result} does =
      let At : Body → Type 0 = λ body. Does (and_then (replace_body 1 name object body)
      (λ put. give value)) before result after in
      subst At (ap (with_slot_more layout.named value) laid.are) does

  -- elements that are taken away, by what was found at their slot and by the body without it
  took : (name : ℕ) (named : List Value) (found : Option Value) (rest : List Value) (body : Body)
      {before after : Seen} {result : Result Value Stop} → body ≡ Plain (named ++ rest)
      → Does (and_then (need fault.Index found) (λ value.
      and_then (replace_body 0 name object body) (λ put. give value))) before result after
      → Does (and_then {C = Value × List Value} (need fault.Index (option_and_then (λ value. Some (value, rest)) found))
      (λ removed.
      put_elements 0 name object named removed.1 removed.0)) before result after
  took name named None rest body is does = record { keeps = does.keeps; ends = does.ends }
  took name named (Some value) rest body {before} {after} {result} is does =
      let At : Body → Type 0 = λ body. Does (and_then (replace_body 0 name object body)
      (λ put. give value)) before result after in
      let peeled : Does (and_then (replace_body 0 name object body) (λ put. give value)) before result after =
      record { keeps = does.keeps; ends = does.ends } in
      let one = subst At is peeled in
      record { keeps = one.keeps; ends = one.ends }

  pub first_taken : (name : ℕ) {before after : Seen} {result : Result Value Stop}
      → Does (slot_taken layout.named name object) before result after
      → Does (and_then (need fault.Index (without_first (drop layout.named laid.slots))) (λ removed.
      put_elements 0 name object (take layout.named laid.slots) removed.1 removed.0)) before result after
  first_taken name {before} {after} {result} does =
      let elements : List Value = drop layout.named laid.slots in
      let At : Option Value → Type 0 = λ found. Does (and_then (need fault.Index found) (λ value.
      and_then (replace_body 0 name object (without_slot layout.named object.body)) (λ put. give value))) before result after in
      let found : slot_at layout.named object.body ≡ slice_get elements 0 = ap (slot_at layout.named) laid.are
      ∙ ap (λ (at : ℕ). slice_get laid.slots at) (omega arith) ∙ got laid.slots layout.named 0 in
      let left : without_slot layout.named object.body ≡ Plain (take layout.named laid.slots ++ drop 1 elements) =
      ap (without_slot layout.named) laid.are
      ∙ ap (λ rest. Plain (take layout.named laid.slots ++ rest)) (sym (drop-drop 1 layout.named laid.slots)) in
      let To : Option (Value × List Value) → Type 0 = λ removed. Does (and_then (need fault.Index removed) (λ removed.
      put_elements 0 name object (take layout.named laid.slots) removed.1 removed.0)) before result after in
      subst To (first_of elements)
      (took name (take layout.named laid.slots) (slice_get elements 0) (drop 1 elements) _ left (subst At found does))
    where
      first_of : (elements : List Value)
          → option_and_then (λ value. Some (value, drop 1 elements)) (slice_get elements 0) ≡ without_first elements
      first_of [] = refl
      first_of (first ∷ rest) = refl

  pub last_taken : (name : ℕ) {before after : Seen} {result : Result Value Stop}
      → Does (slot_taken (layout.named + (layout.slots - layout.named - 1)) name object) before result after
      → Does (and_then (need fault.Index (without_last (drop layout.named laid.slots))) (λ removed.
      put_elements 0 name object (take layout.named laid.slots) removed.1 removed.0)) before result after
  last_taken name {before} {after} {result} does =
      let elements : List Value = drop layout.named laid.slots in
      let last : ℕ = length elements - 1 in
      let At : ℕ → Type 0 = λ at. Does (slot_taken at name object) before result after in
      let there = subst At (ap (λ (count : ℕ). layout.named + (count - 1)) size_is) does in
      let found : slot_at (layout.named + last) object.body ≡ slice_get elements last =
      ap (slot_at (layout.named + last)) laid.are ∙ got laid.slots layout.named last in
      let none : drop (layout.named + last + 1) laid.slots ≡ [] =
      drop_all laid.slots (layout.named + last + 1) (omega (arith, length-drop layout.named laid.slots)) in
      let left : without_slot (layout.named + last) object.body ≡ Plain (take layout.named laid.slots ++ take last elements) =
      ap (without_slot (layout.named + last)) laid.are
      ∙ ap₂ (λ front back. Plain (front ++ back)) (taken laid.slots layout.named last) none
      ∙ ap Plain (append-nil (take layout.named laid.slots ++ take last elements)) in
      let By : Option Value → Type 0 = λ found. Does (and_then (need fault.Index found) (λ value.
      and_then (replace_body 0 name object (without_slot (layout.named + last) object.body)) (λ put. give value)))
      before result after in
      took name (take layout.named laid.slots) (slice_get elements last) (take last elements) _ left (subst By found there)

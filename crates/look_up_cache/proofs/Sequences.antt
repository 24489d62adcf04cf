-- How the rules of elements are done where all that they look at is known.
use Rattle.std.proofs.Common.{◌≡◌, ◌∙◌, refl, sym, ap, ap₂, subst, ℕ, zero, suc, ◌+◌, ◌-◌, ◌^◌, ℤ, pos, Bool, true, false, not, length, take, drop, slice_get, slice_set, List, [], ◌∷◌, ◌++◌, Option, Some, None, IfSome, is_some, option_and_then, Result, Ok, Err, length-drop, arith}
use Rattle.std.proofs.lemmas.List.{take-append-drop, take-set-le, drop-set-add}
use Rattle.std.proofs.lemmas.Option.{none-some}
use Rattle.gem_object.specs.Edits.{slot_at, with_slot}
use Rattle.gem_object.specs.declared.value.Value.{Value}
use Rattle.gem_object.specs.declared.value.Value.TheVariants.{Int}
use Rattle.gem_object.specs.declared.body.Body.{Body}
use Rattle.gem_object.specs.declared.body.Body.TheVariants.{Plain}
use Rattle.running_objects.specs.gem_image.Image.{Contents}
use Rattle.running_objects.specs.gem_world.World.{Setting, World}
use Rattle.running_objects.specs.gem_world.Access.{a_read}
use Rattle.running_objects.specs.object_programs.Atom.{Tick, Done, ticked}
use Rattle.running_objects.specs.object_programs.Budget.{Budget}
use Rattle.running_objects.specs.object_programs.Run.{Run, give, atom, and_then, Outcome}
use Rattle.running_objects.specs.object_programs.Programs.{need, check, replace_body}
use Rattle.running_objects.specs.object_programs.declared.fault.Fault.{Fault}
use Rattle.running_objects.specs.object_programs.declared.fault.Fault.TheVariants as fault
use Rattle.running_objects.specs.Acted.{Acted, Reached, with_answer}
use Rattle.running_objects.specs.Seen.{Seen, object_at, IsSoundState}
use Rattle.running_objects.specs.declared.stop.Stop.{Stop}
use Rattle.gem_language.specs.tree_meaning.Place.{MadeBlock}
use Rattle.gem_language.specs.prim_rules.Parts.{int_in, reference_in, is_block, is_empty, slots_in, one_of, two_of, named_slots, answers}
use Rattle.gem_language.specs.prim_rules.Indexes.{place_in}
use Rattle.gem_language.specs.prim_rules.Sequences.{sequence_in, row_33, row_34, row_35, put_elements, put_rule, at_put_rule}
use Rattle.gem_language.specs.prim_rules.FirstRules.{first_rule}
use Rattle.gem_language.specs.prim_rules.Rules.{rule_of}
use Rattle.gem_language.specs.prim_rules.declared.answer.PrimitiveAnswer.{PrimitiveAnswer}
use Rattle.gem_language.specs.prim_rules.declared.answer.PrimitiveAnswer.TheVariants.{Gives}
use Rattle.gem_language.proofs.Ends.{same_answer}
use Rattle.prim_parts.specs.Does.{Does, IsThere}
use Rattle.prim_parts.specs.Edits.{Replaces}
use Rattle.prim_parts.specs.Walks.{parts_seen, classes_up, count_names}
use Rattle.prim_parts.proofs.Does.{does_give, does_atom, does_then, does_stop, does_reached}
use Rattle.prim_parts.proofs.Walks.{does_named}
use Rattle.look_up_cache.specs.Memory.{with_budget}
use Rattle.look_up_cache.proofs.Told.{nowhere}
use Rattle.look_up_cache.specs.Elements.{AlwaysGives, ended_by, IsSequence, HasElement, SizeIs, ElementIs, HasWritten, IsPutOf, PutIsLeft, UnitAndPut, no_unit, one_unit}
use Rattle.look_up_cache.specs.declared.elements.Slot.{Slot}
use Rattle.look_up_cache.specs.declared.elements.Put.{Put}

-- How many slots a class names is told as its classes tell it, and of whatever budget.
pub named_is : (seen : Seen) → IsSoundState seen → (class result : ℕ) → IsThere class seen
    → Does (named_slots class) seen (Ok result) seen → result ≡ count_names (classes_up (parts_seen seen) (2 ^ 48) class)
named_is seen sound class result there does =
    let count : ℕ = count_names (classes_up (parts_seen seen) (2 ^ 48) class) in
    let real : Does (named_slots class) seen (Ok count) seen = does_named seen sound class count there refl in
    same_answer result count (ap (λ (o : Outcome MadeBlock ℕ). o.end) (sym (does.ends nowhere) ∙ real.ends nowhere))

pub always_named : (seen : Seen) → IsSoundState seen → (class result : ℕ) → IsThere class seen
    → Does (named_slots class) seen (Ok result) seen → AlwaysGives (named_slots class) result seen
always_named seen sound class result there does budget = does_named (with_budget budget seen) sound class result there
    (named_is seen sound class result there does)

-- what is there, and what holds
pub needs_does : {A : Type 0} (fault : Fault) (found : Option A) (answer : A) (seen : Seen) → found ≡ Some answer
    → Does (need fault found) seen (Ok answer) seen
needs_does {A} fault found answer seen is =
    subst (λ (f : Option A). Does (need fault f) seen (Ok answer) seen) (sym is) (does_give answer seen)

pub checks_does : (fault : Fault) (holds : Bool) (seen : Seen) → holds ≡ true → Does (check fault holds) seen (Ok tt) seen
checks_does fault holds seen is =
    subst (λ (b : Bool). Does (check fault b) seen (Ok tt) seen) (sym is) (does_give tt seen)

-- ---- slots and elements

got : (slots : List Value) (named place : ℕ) → slice_get slots (named + place) ≡ slice_get (drop named slots) place
got [] zero place = refl
got [] (suc named) place = refl
got (x ∷ xs) zero place =
    let same : 0 + place ≡ place = omega arith in
    ap (λ (at : ℕ). slice_get (x ∷ xs) at) same
got (x ∷ xs) (suc named) place =
    let same : suc named + place ≡ suc (named + place) = omega arith in
    ap (λ (at : ℕ). slice_get (x ∷ xs) at) same ∙ got xs named place

put_is : (slots : List Value) (named place : ℕ) (value : Value)
    → slice_set slots (named + place) value ≡ take named slots ++ slice_set (drop named slots) place value
put_is slots named place value = sym (take-append-drop named (slice_set slots (named + place) value))
    ∙ ap₂ (λ front back. front ++ back) (take-set-le named slots (named + place) value (omega arith))
    (drop-set-add named slots place value)

sequence_does : (object : Contents) (slots : List Value) (named : ℕ) (seen : Seen) → IsSequence object slots named seen
    → AlwaysGives (sequence_in object) (record { named = take named slots; elements = drop named slots }) seen
sequence_does object slots named seen sequence budget =
    let now : Seen = with_budget budget seen in
    let At : Body → Type 0 = λ body. Does (need fault.ArgumentKind (slots_in body)) now (Ok slots) now in
    let held : Does (need fault.ArgumentKind (slots_in object.body)) now (Ok slots) now =
    subst At (sym sequence.are) (does_give slots now) in
    does_then held (does_then (sequence.counts budget)
    (does_give (record { named = take named slots; elements = drop named slots }) now))

-- the slot of an element whose place was told
pub element_told : (object : Contents) (index : Value) (seen : Seen) (slots : List Value) (named size place at : ℕ)
    → IsSequence object slots named seen → size ≡ length slots - named
    → option_and_then (place_in size) (int_in index) ≡ Some place → at ≡ named + place → HasElement object index at seen
element_told object index seen slots named size place at sequence is placed stands = by (int_in index) refl placed
  where
    by : (found : Option ℤ) → int_in index ≡ found → option_and_then (place_in size) found ≡ Some place
        → HasElement object index at seen
    by None indexes placed = absurd (none-some place placed)
    by (Some number) indexes placed = record {
      slots = slots;
      named = named;
      number = number;
      place = place;
      sequence = sequence;
      indexes = indexes;
      placed = ap (λ (n : ℕ). place_in n number) (length-drop named slots ∙ sym is) ∙ placed;
      stands = stands;
    }

-- ---- reads

module _ (name : ℕ) (receiver : Value) (arguments : List Value) (object : Contents) (value : Value) (seen : Seen)
    (refers : reference_in receiver ≡ Some name)
    (reached : (budget : Budget) → Reached a_read name (with_budget budget seen) (with_budget budget seen))
    (there : Some object ≡ object_at name seen) where
  size_known : SizeIs object arguments value seen → AlwaysGives (row_33 receiver arguments) (Gives value) seen
  size_known size budget =
      let now : Seen = with_budget budget seen in
      let elements : List Value = drop size.named size.slots in
      let counted : value ≡ Int (pos (length elements)) =
      size.counted ∙ ap (λ (n : ℕ). Int (pos n)) (sym (length-drop size.named size.slots)) in
      let last : Does (give (Int (pos (length elements)))) now (Ok value) now =
      subst (λ (v : Value). Does (give v) now (Ok value) now) counted (does_give value now) in
      does_then (needs_does fault.ArgumentKind (reference_in receiver) name now refers)
      (does_then (checks_does fault.ArgumentKind (is_empty arguments) now size.alone)
      (does_then (does_then (does_reached (reached budget) there
      (sequence_does object size.slots size.named seen size.sequence budget)) last)
      (does_give (Gives value) now)))

  element_known : ElementIs object arguments value seen → AlwaysGives (row_34 receiver arguments) (Gives value) seen
  element_known is budget =
      let now : Seen = with_budget budget seen in
      let element : HasElement object is.index is.at seen = is.element in
      let elements : List Value = drop element.named element.slots in
      let held : slice_get elements element.place ≡ Some value =
      sym (ap (slot_at is.at) element.sequence.are
      ∙ (ap (λ (at : ℕ). slice_get element.slots at) element.stands ∙ got element.slots element.named element.place)) ∙ is.held in
      does_then (needs_does fault.ArgumentKind (reference_in receiver) name now refers)
      (does_then (needs_does fault.ArgumentKind (one_of arguments) is.index now is.one)
      (does_then (does_then (does_reached (reached budget) there
      (sequence_does object element.slots element.named seen element.sequence budget))
      (does_then (needs_does fault.ArgumentKind (int_in is.index) element.number now element.indexes)
      (does_then (needs_does fault.Index (place_in (length elements) element.number) element.place now element.placed)
      (needs_does fault.Index (slice_get elements element.place) value now held))))
      (does_give (Gives value) now)))

  size_answered : SizeIs object arguments value seen → AlwaysGives (rule_of 33 receiver arguments) (Gives value) seen
  unfolding rule_of first_rule
  size_answered size = size_known size

  element_answered : ElementIs object arguments value seen → AlwaysGives (rule_of 34 receiver arguments) (Gives value) seen
  unfolding rule_of first_rule
  element_answered element = element_known element

  -- by the number of the primitive
  pub size_given : (number : ℕ) → number ≡ 33 → SizeIs object arguments value seen
      → AlwaysGives (rule_of number receiver arguments) (Gives value) seen
  size_given number is size = subst (λ (n : ℕ). AlwaysGives (rule_of n receiver arguments) (Gives value) seen) (sym is)
      (size_answered size)

  pub element_given : (number : ℕ) → number ≡ 34 → ElementIs object arguments value seen
      → AlwaysGives (rule_of number receiver arguments) (Gives value) seen
  element_given number is element = subst (λ (n : ℕ). AlwaysGives (rule_of n receiver arguments) (Gives value) seen) (sym is)
      (element_answered element)

-- ---- writes

answers_end : {before after : Seen} (program : Run MadeBlock Value) (result : Result Value Stop)
    → Does program before result after → Does (answers program) before (ended_by result) after
answers_end {before} {after} program (Ok value) does = does_then does (does_give (Gives value) after)
answers_end program (Err ended) does = does_stop does

pub value_ends : {before after : Seen} (program : Run MadeBlock (Unit {0})) (value : Value) (result : Result (Unit {0}) Stop)
    → Does program before result after → Does (and_then program (λ put. give value)) before (with_answer value result) after
value_ends {before} {after} program value (Ok nothing) does = does_then does (does_give value after)
value_ends program value (Err ended) does = does_stop does

stores : (value : Value) → is_block value ≡ false → not (is_block value) ≡ true
stores value is = ap not is

module _ (receiver index value : Value) (arguments : List Value) (slot : Slot) (seen : Seen)
    (both : two_of arguments ≡ Some (index, value)) (has : HasWritten receiver index slot seen)
    (storable : is_block value ≡ false) where
  element : HasElement has.object index slot.at seen
  element = has.element

  put_does : (budget : Budget) (ended : Result (Unit {0}) Stop) (later : Seen)
      → Replaces (λ body. 0) slot.name (with_slot slot.at value) (with_budget budget seen) ended later
      → Does (row_35 receiver arguments) (with_budget budget seen) (ended_by (with_answer value ended)) later
  put_does budget ended later replaced =
      let now : Seen = with_budget budget seen in
      let name : ℕ = slot.name in
      let object : Contents = has.object in
      let slots : List Value = element.slots in
      let front : List Value = take element.named slots in
      let elements : List Value = drop element.named slots in
      let body : with_slot slot.at value object.body ≡ Plain (front ++ slice_set elements element.place value) =
      ap (with_slot slot.at value) element.sequence.are
      ∙ (ap (λ (at : ℕ). Plain (slice_set slots at value)) element.stands
      ∙ ap Plain (put_is slots element.named element.place value)) in
      let At : Body → Type 0 = λ body. Does (replace_body 0 name object body) now ended later in
      let put : Does (put_elements 0 name object front (slice_set elements element.place value) value) now
      (with_answer value ended) later =
      value_ends (replace_body 0 name object (Plain (front ++ slice_set elements element.place value))) value ended
      (subst At body (replaced object (sym has.there))) in
      let ruled : Does (put_rule name index value object (record { named = front; elements = elements })) now
      (with_answer value ended) later =
      does_then (needs_does fault.ArgumentKind (int_in index) element.number now element.indexes)
      (does_then (checks_does fault.BlockStored (not (is_block value)) now (stores value storable))
      (does_then (needs_does fault.Index (place_in (length elements) element.number) element.place now element.placed) put)) in
      let whole : Does (at_put_rule name index value) now (with_answer value ended) later =
      does_reached (has.written budget) has.there
      (does_then (sequence_does object slots element.named seen element.sequence budget) ruled) in
      does_then (needs_does fault.ArgumentKind (reference_in receiver) name now has.refers)
      (does_then (needs_does fault.ArgumentKind (two_of arguments) (index, value) now both)
      (answers_end (at_put_rule name index value) (with_answer value ended) whole))

  row_put : (put : Put) → IsPutOf slot value put → PutIsLeft (row_35 receiver arguments) put seen
  row_put put is budget ended later replaced =
      let Of : Slot → Type 0 = λ s. Replaces (λ body. 0) s.name (with_slot s.at value) (with_budget budget seen) ended later in
      let By : Value → Type 0 = λ v. Replaces (λ body. 0) put.slot.name (with_slot put.slot.at v) (with_budget budget seen)
      ended later in
      let With : Value → Type 0 = λ v. Does (row_35 receiver arguments) (with_budget budget seen)
      (ended_by (with_answer v ended)) later in
      subst With (sym is.value_is) (put_does budget ended later (subst Of is.slot_is (subst By is.value_is replaced)))

  element_put : (put : Put) → IsPutOf slot value put → PutIsLeft (rule_of 35 receiver arguments) put seen
  unfolding rule_of first_rule
  element_put put is = row_put put is

pub put_left : (number : ℕ) (receiver : Value) (arguments : List Value) (both : Value × Value) (slot : Slot) (seen : Seen)
    (put : Put) → number ≡ 35 → two_of arguments ≡ Some both → HasWritten receiver both.0 slot seen
    → IsPutOf slot both.1 put → PutIsLeft (rule_of number receiver arguments) put seen
put_left number receiver arguments both slot seen put is given has of =
    subst (λ (n : ℕ). PutIsLeft (rule_of n receiver arguments) put seen) (sym is)
    (element_put receiver both.0 both.1 arguments slot seen given has of.storable put of)

-- the object into whose slot it comes is there
pub put_there : (receiver index value : Value) (slot : Slot) (seen : Seen) (put : Put)
    → HasWritten receiver index slot seen → IsPutOf slot value put → IsThere put.slot.name seen
put_there receiver index value slot seen put has is =
    subst (λ (s : Slot). IsThere s.name seen) (sym is.slot_is) (ap is_some (sym has.there))

-- what holds of what is there
pub in_some : {A : Type 0} (P Q : A → Type 0) → ((answer : A) → P answer → Q answer) → (found : Option A) → IfSome found P
    → IfSome found Q
in_some P Q keeps None is = tt
in_some P Q keeps (Some answer) is = keeps answer is

-- ---- units

ticked_leaves : (units : ℕ) (world : World) (budget : Budget) → (ticked units world budget).world ≡ world
ticked_leaves zero world budget = refl
ticked_leaves (suc units) world budget = refl

-- a unit leaves all but the budget
pub unit_leaves : (before between : Seen) → Acted Tick before (Ok tt) between → with_budget between.budget before ≡ between
unit_leaves before between acted =
    ap₂ (λ (setting : Setting) (world : World). record { setting = setting; world = world; budget = between.budget })
    (sym acted.keeps.setting)
    (sym (ticked_leaves before.budget.units before.world before.budget)
    ∙ ap (λ (did : Done (Unit {0})). did.world) acted.did)

-- what is there still is after a unit
pub there_still : (name : ℕ) (before between : Seen) → Acted Tick before (Ok tt) between → IsThere name before
    → IsThere name between
there_still name before between acted =
    subst (λ (seen : Seen). IsThere name seen) (unit_leaves before between acted)

-- a unit, and then what is left
unit_then : (program : Run MadeBlock PrimitiveAnswer) (put : Put) (before between after : Seen)
    (ended : Result (Unit {0}) Stop) → Acted Tick before (Ok tt) between
    → Replaces (λ body. 0) put.slot.name (with_slot put.slot.at put.value) between ended after
    → PutIsLeft program put before
    → Does (and_then (atom Tick) (λ unit. program)) before (ended_by (with_answer put.value ended)) after
unit_then program put before between after ended unit replaced left =
    let same : with_budget between.budget before ≡ between = unit_leaves before between unit in
    does_then (does_atom unit) (subst (λ (seen : Seen). Does program seen (ended_by (with_answer put.value ended)) after) same
    (left between.budget ended after (subst (λ (seen : Seen). Replaces (λ body. 0) put.slot.name
    (with_slot put.slot.at put.value) seen ended after) (sym same) replaced)))

pub unit_and_put_does : (program : Run MadeBlock PrimitiveAnswer) (put : Put) (before after : Seen)
    (result : Result (Unit {0}) Stop) → UnitAndPut put before result after → PutIsLeft program put before
    → Does (and_then (atom Tick) (λ unit. program)) before (ended_by (with_answer put.value result)) after
unit_and_put_does program put before after result (no_unit ended refused is) left =
    subst (λ (r : Result (Unit {0}) Stop). Does (and_then (atom Tick) (λ unit. program)) before
    (ended_by (with_answer put.value r)) after) is
    (does_stop (does_atom refused))
unit_and_put_does program put before after result (one_unit between ended taken replaced is) left =
    subst (λ (r : Result (Unit {0}) Stop). Does (and_then (atom Tick) (λ unit. program)) before
    (ended_by (with_answer put.value r)) after) is
    (unit_then program put before between after ended taken replaced left)

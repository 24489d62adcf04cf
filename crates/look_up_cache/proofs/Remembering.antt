-- What is remembered with an object of the messages of elements.
use Rattle.std.proofs.Common.{◌≡◌, ◌∙◌, sym, ap, subst, ℕ, true, List, [], ◌∷◌, Some, codes}
use Rattle.std.proofs.lemmas.Option.{none-some, same_Some}
use Rattle.gem_object.specs.texts.Bytes.{Bytes as Text}
use Rattle.gem_object.specs.declared.value.Value.{Value}
use Rattle.gem_object.specs.declared.value.Value.TheVariants as value
use Rattle.running_objects.specs.gem_image.Image.{Contents}
use Rattle.running_objects.specs.gem_world.Access.{a_read}
use Rattle.running_objects.specs.Acted.{Reached}
use Rattle.running_objects.specs.Seen.{Seen}
use Rattle.gem_language.specs.LookUp.{Start}
use Rattle.gem_language.specs.prim_rules.Parts.{reference_in, one_of}
use Rattle.look_up_cache.specs.Calm.{Begins}
use Rattle.look_up_cache.specs.Answering.{FindsPrimitive, AnswersBy}
use Rattle.look_up_cache.specs.ElementMessages.{element_selector, element_number}
use Rattle.look_up_cache.specs.Elements.{ElementIs, HasSlot, HasWritten}
use Rattle.look_up_cache.specs.Memory.{start_at, IsMet, BeginsFor, flagged, with_budget}
use Rattle.look_up_cache.specs.declared.element_message.ElementMessage.{ElementMessage}
use Rattle.look_up_cache.specs.declared.element_message.ElementMessage.TheVariants as message
use Rattle.look_up_cache.specs.declared.elements.Slot.{Slot}
use Rattle.look_up_cache.specs.declared.memory.Receiver.{Receiver}
use Rattle.look_up_cache.proofs.Again.{where_true}
use Rattle.look_up_cache.proofs.AfterReads.{begun_reached}
use Rattle.look_up_cache.proofs.AfterWrites.{written_reached}
use Rattle.look_up_cache.proofs.Answering.{primitive_answers}

-- what is known of a receiver with what a look-up told of it
pub flagged_met : (message : ElementMessage) (receiver : Receiver) (seen : Seen) → IsMet seen receiver
    → FindsPrimitive (start_at receiver.start) (element_selector message) (element_number message)
    seen.setting seen.world → IsMet seen (flagged message receiver)
flagged_met message.At receiver seen met finds =
    record { begins = met.begins; writable = met.writable; reads = finds; puts = met.puts }
flagged_met message.AtPut receiver seen met finds =
    record { begins = met.begins; writable = met.writable; reads = met.reads; puts = finds }

-- a reference to an object begins where that does
begun_for : (receiver : Value) (name : ℕ) (start : Start) (seen : Seen) → reference_in receiver ≡ Some name
    → Begins name start seen.setting seen.world → BeginsFor receiver start seen
begun_for (value.Ref other) name start seen is begins =
    subst (λ (n : ℕ). Begins n start seen.setting seen.world) (sym (same_Some other name is)) begins
begun_for receiver name start seen is begins = absurd (none-some name is)

module _ (value : Value) (name : ℕ) (receiver : Receiver) (seen : Seen) (refers : reference_in value ≡ Some name)
    (same : receiver.name ≡ name) (met : IsMet seen receiver) where
  begins : Begins name (start_at receiver.start) seen.setting seen.world
  begins = subst (λ (n : ℕ). Begins n (start_at receiver.start) seen.setting seen.world) same met.begins

  answers_by : (selector : Text) (number : ℕ)
      → FindsPrimitive (start_at receiver.start) selector number seen.setting seen.world
      → AnswersBy number value selector seen
  answers_by selector number finds = primitive_answers (start_at receiver.start) selector number seen value
      (begun_for value name (start_at receiver.start) seen refers begins) finds

  pub reads_answer : receiver.reads_elements ≡ true → AnswersBy 34 value (codes "at:") seen
  reads_answer reads = answers_by (codes "at:") 34 (where_true receiver.reads_elements
      (FindsPrimitive (start_at receiver.start) (codes "at:") 34 seen.setting seen.world) reads met.reads)

  pub puts_answer : receiver.puts_elements ≡ true → AnswersBy 35 value (codes "at:put:") seen
  puts_answer puts = answers_by (codes "at:put:") 35 (where_true receiver.puts_elements
      (FindsPrimitive (start_at receiver.start) (codes "at:put:") 35 seen.setting seen.world) puts met.puts)

  -- it is read without a change
  pub met_reached : Reached a_read name seen seen
  met_reached = begun_reached name (start_at receiver.start) seen begins

  -- and written, where that is told
  pub met_written : (index : Value) (slot : Slot) → receiver.written ≡ true → HasSlot name index slot seen
      → HasWritten value index slot seen
  met_written index slot written has = record {
    object = has.object;
    refers = refers ∙ sym (ap Some has.named);
    there = has.there;
    written = λ budget. written_reached slot.name receiver (with_budget budget seen) (same ∙ sym has.named) met written;
    element = has.element;
  }

-- by the arguments of a message
pub element_alone : (object : Contents) (arguments : List Value) (index value : Value) (seen : Seen)
    → one_of arguments ≡ Some index → ElementIs object (index ∷ []) value seen → ElementIs object arguments value seen
element_alone object arguments index value seen given is = record {
  index = is.index;
  at = is.at;
  one = given ∙ is.one;
  element = is.element;
  held = is.held;
}

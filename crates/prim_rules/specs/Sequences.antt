-- The rules of the primitives 33 to 41, for Arrays and OrderedCollections.
use Rattle.std.specs.Prelude.{ℕ, ◌-◌, pos, not, length, take, drop, replicate, slice_get, slice_set, List, [], ◌∷◌, ◌++◌, Option, None, Some, option_and_then}
use Rattle.gem_object.specs.declared.kind.Kind.TheVariants.{Indexed}
use Rattle.gem_object.specs.declared.value.Value.{Value}
use Rattle.gem_object.specs.declared.value.Value.TheVariants.{Nil, Int}
use Rattle.gem_object.specs.declared.body.Body.TheVariants.{Plain}
use Rattle.object_programs.specs.gem_image.Image.{Contents}
use Rattle.object_programs.specs.Fixed.{same_kind}
use Rattle.object_programs.specs.Run.{Run, give, and_then}
use Rattle.object_programs.specs.Programs.{need, check, read, write, known, replace_body}
use Rattle.object_programs.specs.declared.fault.Fault.TheVariants as fault
use Rattle.prim_rules.specs.declared.answer.PrimitiveAnswer.{PrimitiveAnswer}
use Rattle.prim_rules.specs.Indexes.{place_in, part_of}
use Rattle.prim_rules.specs.Parts.{int_in, reference_in, is_block, slots_in, one_of, two_of, no_arguments, named_slots, new_object, answers}

-- What an Array or an OrderedCollection holds: its named slots, and its elements after them.
pub record Sequence : Type 0 where
  pub named : List Value
  pub elements : List Value

-- the slots that hold them
abbrev pub slots_with : (named elements : List Value) → List Value
slots_with named elements = named ++ elements

-- the slots of a new sequence: so many named ones, each nil, and the elements
abbrev pub new_slots : (named : ℕ) → (elements : List Value) → List Value
new_slots named elements = slots_with (replicate named Nil) elements

-- the first and the last element, with the elements that are left without it
abbrev pub without_first : List Value → Option (Value × List Value)
without_first [] = None
without_first (first ∷ rest) = Some (first, rest)

abbrev pub last_at : List Value → ℕ
last_at elements = length elements - 1

abbrev pub without_last : List Value → Option (Value × List Value)
without_last elements = option_and_then (λ last. Some (last, take (last_at elements) elements))
    (slice_get elements (last_at elements))

module _ {B : Type 0} where
  -- what a sequence holds; how many slots are named is known without a touch
  abbrev pub sequence_in : Contents → Run B Sequence
  sequence_in object =
      and_then (need fault.ArgumentKind (slots_in object.body)) (λ slots.
      and_then (named_slots object.class) (λ named.
      give (record { named = take named slots; elements = drop named slots })))

  -- what a sequence holds that is read
  abbrev pub read_sequence : (name : ℕ) → Run B Sequence
  read_sequence name = and_then (read name) sequence_in

  -- a rule for the object and what it holds, which is written
  abbrev pub written_sequence : (name : ℕ) → (Contents → Sequence → Run B Value) → Run B Value
  written_sequence name rule =
      and_then (write name) (λ object.
      and_then (sequence_in object) (rule object))

  -- elements are put in place of those of a sequence that was written; an answer
  abbrev pub put_elements : (growth name : ℕ) → Contents → (named elements : List Value)
      → (answer : Value) → Run B Value
  put_elements growth name object named elements answer =
      and_then (replace_body growth name object (Plain (slots_with named elements))) (λ put.
      give answer)

  -- a new object of this class with these elements, whose named slots are nil
  abbrev pub new_sequence : (class : ℕ) → (elements : List Value) → Run B Value
  new_sequence class elements =
      and_then (named_slots class) (λ named.
      new_object class (Plain (new_slots named elements)))

  -- a rule for a sequence without an argument, with one, and with two
  abbrev pub sequence_row : (ℕ → Run B Value) → Value → List Value → Run B PrimitiveAnswer
  sequence_row rule receiver arguments =
      and_then (need fault.ArgumentKind (reference_in receiver)) (λ name.
      and_then (no_arguments arguments) (λ none.
      answers (rule name)))

  abbrev pub sequence_row_with : (ℕ → Value → Run B Value) → Value → List Value
      → Run B PrimitiveAnswer
  sequence_row_with rule receiver arguments =
      and_then (need fault.ArgumentKind (reference_in receiver)) (λ name.
      and_then (need fault.ArgumentKind (one_of arguments)) (λ argument.
      answers (rule name argument)))

  abbrev pub sequence_row_with_two : (ℕ → Value → Value → Run B Value) → Value → List Value
      → Run B PrimitiveAnswer
  sequence_row_with_two rule receiver arguments =
      and_then (need fault.ArgumentKind (reference_in receiver)) (λ name.
      and_then (need fault.ArgumentKind (two_of arguments)) (λ both.
      answers (rule name both.0 both.1)))

  -- `size`
  abbrev pub size_rule : (name : ℕ) → Run B Value
  size_rule name =
      and_then (read_sequence name) (λ sequence.
      give (Int (pos (length sequence.elements))))

  abbrev pub row_33 : Value → List Value → Run B PrimitiveAnswer
  row_33 = sequence_row size_rule

  -- `at:`
  abbrev pub element_rule : (index : Value) → Sequence → Run B Value
  element_rule index sequence =
      and_then (need fault.ArgumentKind (int_in index)) (λ number.
      and_then (need fault.Index (place_in (length sequence.elements) number)) (λ place.
      need fault.Index (slice_get sequence.elements place)))

  abbrev pub at_rule : (name : ℕ) → (index : Value) → Run B Value
  at_rule name index = and_then (read_sequence name) (element_rule index)

  abbrev pub row_34 : Value → List Value → Run B PrimitiveAnswer
  row_34 = sequence_row_with at_rule

  -- `at:put:` answers the value
  abbrev pub put_rule : (name : ℕ) → (index value : Value) → Contents → Sequence → Run B Value
  put_rule name index value object sequence =
      and_then (need fault.ArgumentKind (int_in index)) (λ number.
      and_then (check fault.BlockStored (not (is_block value))) (λ stored.
      and_then (need fault.Index (place_in (length sequence.elements) number)) (λ place.
      let elements = slice_set sequence.elements place value in
      put_elements 0 name object sequence.named elements value)))

  abbrev pub at_put_rule : (name : ℕ) → (index value : Value) → Run B Value
  at_put_rule name index value = written_sequence name (put_rule name index value)

  abbrev pub row_35 : Value → List Value → Run B PrimitiveAnswer
  row_35 = sequence_row_with_two at_put_rule

  -- `add:` puts a value behind the others, `addFirst:` before them; both answer it
  abbrev pub with_value_rule : (List Value → Value → List Value) → (name : ℕ) → Value
      → Contents → Sequence → Run B Value
  with_value_rule with_value name value object sequence =
      and_then (check fault.BlockStored (not (is_block value))) (λ stored.
      put_elements 1 name object sequence.named (with_value sequence.elements value) value)

  abbrev pub add_rule : (List Value → Value → List Value) → (name : ℕ) → Value → Run B Value
  add_rule with_value name value = written_sequence name (with_value_rule with_value name value)

  abbrev pub row_36 : Value → List Value → Run B PrimitiveAnswer
  row_36 = sequence_row_with (add_rule (λ elements value. elements ++ value ∷ []))

  abbrev pub row_37 : Value → List Value → Run B PrimitiveAnswer
  row_37 = sequence_row_with (add_rule (λ elements value. value ∷ elements))

  -- `removeFirst` and `removeLast` answer the element that they take away; E4 where there is none
  abbrev pub without_rule : (List Value → Option (Value × List Value)) → (name : ℕ)
      → Contents → Sequence → Run B Value
  without_rule without name object sequence =
      and_then (need fault.Index (without sequence.elements)) (λ removed.
      put_elements 0 name object sequence.named removed.1 removed.0)

  abbrev pub remove_rule : (List Value → Option (Value × List Value)) → (name : ℕ) → Run B Value
  remove_rule without name = written_sequence name (without_rule without name)

  abbrev pub row_38 : Value → List Value → Run B PrimitiveAnswer
  row_38 = sequence_row (remove_rule without_first)

  abbrev pub row_39 : Value → List Value → Run B PrimitiveAnswer
  row_39 = sequence_row (remove_rule without_last)

  -- `copyFrom:to:`: a new object of the receiver's class
  abbrev pub part_rule : (class : ℕ) → (from to : Value) → Sequence → Run B Value
  part_rule class from to sequence =
      and_then (need fault.ArgumentKind (int_in from)) (λ first.
      and_then (need fault.ArgumentKind (int_in to)) (λ last.
      and_then (need fault.Index (part_of sequence.elements first last)) (λ part.
      new_sequence class part)))

  abbrev pub copy_part_rule : (name : ℕ) → (from to : Value) → Run B Value
  copy_part_rule name from to =
      and_then (read name) (λ object.
      and_then (sequence_in object) (part_rule object.class from to))

  abbrev pub row_40 : Value → List Value → Run B PrimitiveAnswer
  row_40 = sequence_row_with_two copy_part_rule

  -- E5, unless the argument is an instance of a class of kind Indexed; its name, without a touch
  abbrev pub sequence_argument : Value → Run B ℕ
  sequence_argument argument =
      and_then (need fault.ArgumentKind (reference_in argument)) (λ name.
      and_then (known fault.ArgumentKind name) (λ fixed.
      and_then (known fault.ArgumentKind fixed.class) (λ class.
      and_then (need fault.ArgumentKind class.as_class) (λ part.
      and_then (check fault.ArgumentKind (same_kind part.kind Indexed)) (λ indexed.
      give name)))))

  -- `,`: a new object of the receiver's class with the elements of both
  abbrev pub join_rule : (name : ℕ) → Value → Run B Value
  join_rule name argument =
      and_then (read name) (λ object.
      and_then (sequence_in object) (λ sequence.
      and_then (sequence_argument argument) (λ other_name.
      and_then (read_sequence other_name) (λ other.
      new_sequence object.class (sequence.elements ++ other.elements)))))

  abbrev pub row_41 : Value → List Value → Run B PrimitiveAnswer
  row_41 = sequence_row_with join_rule

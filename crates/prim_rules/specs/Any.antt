-- The rules of the primitives 1 to 9, which any receiver understands.
use Rattle.std.specs.Prelude.{ℕ, zero, suc, Bool, true, false, not, ◌||◌, nat_eq, List, Option, None, Some, is_some, option_and_then}
use Rattle.gem_object.specs.texts.Bytes.{Bytes as Text}
use Rattle.gem_object.specs.seg_rights.Right.{allows_write}
use Rattle.gem_object.specs.seg_rights.declared.rights.Rights.{Rights}
use Rattle.gem_object.specs.Kinds.{is_shared}
use Rattle.gem_object.specs.Order.{same_value}
use Rattle.gem_object.specs.declared.value.Value.{Value}
use Rattle.gem_object.specs.declared.value.Value.TheVariants.{Nil, Ref, Block}
use Rattle.gem_object.specs.declared.body.Body.{Body}
use Rattle.gem_object.specs.declared.body.Body.TheVariants.{Plain, Bytes, Dict, Segment, User}
use Rattle.object_programs.specs.gem_image.Image.{Contents}
use Rattle.object_programs.specs.gem_image.Rights.{groups_of, right_by}
use Rattle.object_programs.specs.Guard.{chain_limit}
use Rattle.object_programs.specs.Atom.{Own, Made, Who, Move}
use Rattle.object_programs.specs.Run.{Run, give, fail, atom, and_then}
use Rattle.object_programs.specs.Programs.{need, check, read, write, known}
use Rattle.object_programs.specs.declared.fault.Fault.TheVariants as fault
use Rattle.prim_rules.specs.declared.answer.PrimitiveAnswer.{PrimitiveAnswer}
use Rattle.prim_rules.specs.Parts.{is_block, truth, reference_in, class_in, segment_in, one_of, no_arguments, class_of_value, check_kind, default_segment, new_object, new_object_in, answers}
use Rattle.prim_rules.specs.Texts.{text_of_argument}
use Rattle.prim_rules.specs.Printing.{is_short, whole_text}
use Rattle.object_programs.specs.gem_sound.declared.names.TheConstants.{SEGMENT_CLASS, STRING_CLASS}

-- whether objects of this body can be copied
abbrev pub is_copied : Body → Bool
is_copied (Plain _) = true
is_copied (Bytes _) = true
is_copied (Dict _) = true
is_copied _ = false

-- whether an object of this body may be put into another segment: a segment and a user never, and a
-- reduced-conflict object only where it was made in the transaction
abbrev pub is_moved : Body → (made : Bool) → Bool
is_moved (Segment _) made = false
is_moved (User _) made = false
is_moved body made = made || not (is_shared body)

-- whether a segment of these rights gives the user with this profile Write on the objects in it
abbrev pub gives_write : Rights Text → (user : ℕ) → (profile : Option Contents) → Bool
gives_write rights user profile = allows_write
    (right_by (Some rights) user (option_and_then (λ object. groups_of object.body) profile))

module _ {B : Type 0} where
  -- `==` and `=`: whether both are the same value or the same object; E5 for a block on either side
  abbrev pub same_rule : Value → Value → Run B Value
  same_rule value other =
      and_then (check fault.ArgumentKind (not (is_block value || is_block other))) (λ no_block.
      give (truth (same_value value other)))

  abbrev pub same_row : Value → List Value → Run B PrimitiveAnswer
  same_row receiver arguments =
      and_then (need fault.ArgumentKind (one_of arguments)) (λ argument.
      answers (same_rule receiver argument))

  abbrev pub row_1 : Value → List Value → Run B PrimitiveAnswer
  row_1 = same_row

  abbrev pub row_2 : Value → List Value → Run B PrimitiveAnswer
  row_2 = same_row

  -- `class`, by the fixed part
  abbrev pub class_rule : Value → Run B Value
  class_rule value = and_then (class_of_value value) (λ class. give (Ref class))

  abbrev pub row_3 : Value → List Value → Run B PrimitiveAnswer
  row_3 receiver arguments =
      and_then (no_arguments arguments) (λ none.
      answers (class_rule receiver))

  -- `printString`: a new String of the print text. The text's accesses and the profile come before
  -- E17 of the text.
  abbrev pub print_string_rule : Value → Run B Value
  print_string_rule value =
      and_then (whole_text value) (λ text.
      and_then default_segment (λ segment.
      and_then (check fault.ObjectTooLarge (is_short text)) (λ short.
      new_object_in segment STRING_CLASS (Bytes text))))

  abbrev pub row_4 : Value → List Value → Run B PrimitiveAnswer
  row_4 receiver arguments =
      and_then (no_arguments arguments) (λ none.
      answers (print_string_rule receiver))

  -- `error:` ends in E20 with the text of the argument
  abbrev pub row_5 : Value → List Value → Run B PrimitiveAnswer
  row_5 receiver arguments =
      and_then (need fault.ArgumentKind (one_of arguments)) (λ argument.
      and_then (text_of_argument argument) (λ text.
      fail (fault.Raised text)))

  -- E5, unless the argument is a class; its name, without a touch
  abbrev pub class_argument : Value → Run B ℕ
  class_argument argument =
      and_then (need fault.ArgumentKind (reference_in argument)) (λ name.
      and_then (known fault.ArgumentKind name) (λ fixed.
      and_then (check fault.ArgumentKind (is_some fixed.as_class)) (λ is_class.
      give name)))

  -- Whether this class is among a class and those above it, of which at most so many are gone
  -- through. Each of them is read, up to the last; `found` says whether it was among those before.
  abbrev pub superclass_reads : (found : Bool) → Option ℕ → (ℕ → Run B Bool) → Run B Bool
  superclass_reads found None on = give found
  superclass_reads found (Some superclass) on = on superclass

  abbrev pub reads_up : ℕ → (ancestor : ℕ) → (found : Bool) → (class : ℕ) → Run B Bool
  reads_up zero ancestor found class = give found
  reads_up (suc more) ancestor found class =
      and_then (read class) (λ object.
      and_then (need fault.ArgumentKind (class_in object.body)) (λ part.
      superclass_reads (found || nat_eq class ancestor) part.superclass
      (reads_up more ancestor (found || nat_eq class ancestor))))

  -- `isKindOf:`
  abbrev pub is_kind_of_rule : Value → Value → Run B Value
  is_kind_of_rule value argument =
      and_then (class_argument argument) (λ ancestor.
      and_then (class_of_value value) (λ class.
      and_then (reads_up chain_limit ancestor false class) (λ found.
      give (truth found))))

  abbrev pub row_6 : Value → List Value → Run B PrimitiveAnswer
  row_6 receiver arguments =
      and_then (need fault.ArgumentKind (one_of arguments)) (λ argument.
      answers (is_kind_of_rule receiver argument))

  -- `copy`: a new object of the same class and body, in the user's default segment; a value answers
  -- itself, and a block is E5
  abbrev pub copy_rule : Value → Run B Value
  copy_rule (Ref name) =
      and_then (read name) (λ object.
      and_then (check fault.ArgumentKind (is_copied object.body)) (λ copied.
      new_object object.class object.body))
  copy_rule (Block _) = fail fault.ArgumentKind
  copy_rule value = give value

  abbrev pub row_7 : Value → List Value → Run B PrimitiveAnswer
  row_7 receiver arguments =
      and_then (no_arguments arguments) (λ none.
      answers (copy_rule receiver))

  -- `segment`: the segment in which an object lies; nil for values
  abbrev pub segment_rule : Value → Run B Value
  segment_rule (Ref name) = and_then (read name) (λ object. give (Ref object.segment))
  segment_rule value = give Nil

  abbrev pub row_8 : Value → List Value → Run B PrimitiveAnswer
  row_8 receiver arguments =
      and_then (no_arguments arguments) (λ none.
      answers (segment_rule receiver))

  -- E5, unless the argument is a Segment; its name, without a touch
  abbrev pub segment_argument : Value → Run B ℕ
  segment_argument argument =
      and_then (need fault.ArgumentKind (reference_in argument)) (λ name.
      and_then (check_kind argument SEGMENT_CLASS) (λ is_segment.
      give name))

  -- the segment is read, and E11 unless it gives the user Write on the objects in it
  abbrev pub check_segment : (name : ℕ) → Run B (Unit {0})
  check_segment name =
      and_then (read name) (λ object.
      and_then (need fault.ArgumentKind (segment_in object.body)) (λ rights.
      and_then (atom Who) (λ user.
      and_then (atom Own) (λ profile.
      check (fault.NoWriteRight name) (gives_write rights user profile)))))

  -- an object is put into another segment: E19 where it may not be
  abbrev pub move_object : (name : ℕ) → Contents → (segment : ℕ) → Run B (Unit {0})
  move_object name object segment =
      and_then (atom (Made name)) (λ made.
      and_then (check fault.SegmentChange (is_moved object.body made)) (λ moved.
      atom (Move name segment)))

  -- `assignToSegment:` answers the receiver. Values lie in no segment: they check the argument
  -- alone.
  abbrev pub assign_object : (name : ℕ) → Value → Run B (Unit {0})
  assign_object name argument =
      and_then (write name) (λ object.
      and_then (segment_argument argument) (λ segment.
      and_then (check_segment segment) (λ writable.
      move_object name object segment)))

  abbrev pub assign_value : Value → Run B (Unit {0})
  assign_value argument = and_then (segment_argument argument) check_segment

  abbrev pub assign_rule : Value → Value → Run B (Unit {0})
  assign_rule (Ref name) argument = assign_object name argument
  assign_rule value argument = assign_value argument

  abbrev pub row_9 : Value → List Value → Run B PrimitiveAnswer
  row_9 receiver arguments =
      and_then (need fault.ArgumentKind (one_of arguments)) (λ argument.
      answers (and_then (assign_rule receiver argument) (λ assigned. give receiver)))

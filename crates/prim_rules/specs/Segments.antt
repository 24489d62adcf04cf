-- The rules of Segment: its owner, and the rights that it gives on the objects in it.
use Rattle.std.specs.Prelude.{cond, bytes_eq, codes, List, Option, None, Some, option_and_then}
use Rattle.gem_object.specs.texts.Bytes.{Bytes as Text}
use Rattle.gem_object.specs.seg_rights.declared.right.Right.{Right}
use Rattle.gem_object.specs.seg_rights.declared.right.Right.TheVariants.{None as NoRight, Read, Write}
use Rattle.gem_object.specs.seg_rights.declared.rights.Rights.{Rights}
use Rattle.gem_object.specs.declared.value.Value.{Value}
use Rattle.gem_object.specs.declared.value.Value.TheVariants.{Sym, Ref}
use Rattle.gem_object.specs.declared.body.Body.TheVariants as body
use Rattle.object_programs.specs.Run.{Run, and_then}
use Rattle.object_programs.specs.Programs.{need, check}
use Rattle.object_programs.specs.declared.fault.Fault.TheVariants as fault
use Rattle.prim_rules.specs.Parts.{symbol_in, segment_in, two_of}
use Rattle.prim_rules.specs.Receivers.{items_added, Receiver, write_receiver, argument_as, replaced_by, tells}
use Rattle.prim_rules.specs.Groups.{are_few_groups, with_right}
use Rattle.prim_rules.specs.declared.answer.PrimitiveAnswer.{PrimitiveAnswer}

-- the word for a right
abbrev pub right_word : Right → Text
right_word NoRight = codes "none"
right_word Read = codes "read"
right_word Write = codes "write"

abbrev pub right_symbol : Right → Value
right_symbol right = Sym (right_word right)

-- the right for which a word stands
abbrev pub right_of_word : Text → Option Right
right_of_word word =
    cond (bytes_eq word (right_word NoRight)) (Some NoRight)
    (cond (bytes_eq word (right_word Read)) (Some Read)
    (cond (bytes_eq word (right_word Write)) (Some Write) None))

-- the right that a value is: a symbol with its word
abbrev pub right_in : Value → Option Right
right_in value = option_and_then right_of_word (symbol_in value)

-- the rights with another one of the owner, of the world, or of a group
abbrev pub with_owner_right : Right → Rights Text → Rights Text
with_owner_right right rights = record rights { owner_right = right }

abbrev pub with_world_right : Right → Rights Text → Rights Text
with_world_right right rights = record rights { world_right = right }

abbrev pub with_group_right : Text → Right → Rights Text → Rights Text
with_group_right group right rights =
    record rights { groups = with_right group right rights.groups }

module _ {B : Type 0} where
  -- 68 `owner`
  abbrev pub row_68 : Value → List Value → Run B PrimitiveAnswer
  row_68 receiver arguments = tells segment_in (λ rights. Ref rights.owner) receiver arguments

  -- a rule with one right as its argument, by which it changes the receiver's rights in this way
  abbrev pub sets_right : (Right → Rights Text → Rights Text) → Value → List Value
      → Run B PrimitiveAnswer
  sets_right with_the receiver arguments =
      and_then (write_receiver segment_in receiver) (λ segment.
      and_then (argument_as right_in arguments) (λ right.
      replaced_by segment (body.Segment (with_the right segment.held)) 0 receiver))

  -- 69 `ownerAuthorization:` and 70 `worldAuthorization:`
  abbrev pub row_69 : Value → List Value → Run B PrimitiveAnswer
  row_69 receiver arguments = sets_right with_owner_right receiver arguments

  abbrev pub row_70 : Value → List Value → Run B PrimitiveAnswer
  row_70 receiver arguments = sets_right with_world_right receiver arguments

  -- the segment gets these rights: E17 where they have too many groups; a new group takes one slot
  abbrev pub regrouped : Receiver (Rights Text) → Rights Text → Value → Run B PrimitiveAnswer
  regrouped segment rights receiver =
      and_then (check fault.ObjectTooLarge (are_few_groups rights.groups)) (λ few.
      replaced_by segment (body.Segment rights)
      (items_added rights.groups segment.held.groups) receiver)

  -- 71 `group:authorization:`
  abbrev pub row_71 : Value → List Value → Run B PrimitiveAnswer
  row_71 receiver arguments =
      and_then (write_receiver segment_in receiver) (λ segment.
      and_then (need fault.ArgumentKind (two_of arguments)) (λ pair.
      and_then (need fault.ArgumentKind (symbol_in pair.0)) (λ group.
      and_then (need fault.ArgumentKind (right_in pair.1)) (λ right.
      regrouped segment (with_group_right group right segment.held) receiver))))

  -- 72 `ownerAuthorization` and 73 `worldAuthorization`
  abbrev pub row_72 : Value → List Value → Run B PrimitiveAnswer
  row_72 receiver arguments =
      tells segment_in (λ rights. right_symbol rights.owner_right) receiver arguments

  abbrev pub row_73 : Value → List Value → Run B PrimitiveAnswer
  row_73 receiver arguments =
      tells segment_in (λ rights. right_symbol rights.world_right) receiver arguments

-- The rules of UserProfile and of System: users, their groups, and new users.
use Rattle.std.specs.Prelude.{ℕ, ◌+◌, codes, not, is_some, bytes_eq, cond, List, [], ◌∷◌, map, Option, None, Some, option_and_then}
use Rattle.std.specs.List.{list_any}
use Rattle.gem_object.specs.texts.Bytes.{Bytes as Text}
use Rattle.gem_object.specs.texts.Names.{is_user_name}
use Rattle.gem_object.specs.seg_rights.declared.right.Right.TheVariants.{Read, Write}
use Rattle.gem_object.specs.Edits.{value_at}
use Rattle.gem_object.specs.declared.value.Value.{Value}
use Rattle.gem_object.specs.declared.value.Value.TheVariants.{Sym, Ref}
use Rattle.gem_object.specs.declared.body.UserBody.{UserBody}
use Rattle.gem_object.specs.declared.body.Body.TheVariants as body
use Rattle.object_programs.specs.gem_image.Image.{Contents}
use Rattle.object_programs.specs.Atom.{Who}
use Rattle.object_programs.specs.Run.{Run, atom, and_then}
use Rattle.object_programs.specs.Programs.{need, check}
use Rattle.object_programs.specs.declared.fault.Fault.TheVariants as fault
use Rattle.prim_rules.specs.Parts.{symbol_in, reference_in, pairs_in, user_in, no_arguments, answers}
use Rattle.prim_rules.specs.Receivers.{items_added, Receiver, write_receiver, argument_as, answer, replaced_by, tells, lists}
use Rattle.prim_rules.specs.Groups.{are_few_groups, with_group, without_group}
use Rattle.prim_rules.specs.Making.{Entered, make_and_enter}
use Rattle.prim_rules.specs.declared.answer.PrimitiveAnswer.{PrimitiveAnswer}
use Rattle.object_programs.specs.gem_sound.declared.names.TheConstants.{ALL_USERS, DATA_CURATOR_SEGMENT, SEGMENT_CLASS, SYMBOL_DICTIONARY_CLASS, USER_PROFILE_CLASS}

-- the user in these groups
abbrev pub in_groups : List Text → UserBody → UserBody
in_groups groups user = record user { groups = groups }

-- The name of a new user that a value gives: a symbol that is a user name.
abbrev pub new_name_in : Text → Option Text
new_name_in name = cond (is_user_name name) (Some name) None

abbrev pub user_name_in : Value → Option Text
user_name_in value = option_and_then new_name_in (symbol_in value)

-- The three objects of a new user: its segment, its globals and its profile, at consecutive names.
-- The user owns the segment and may write there; all may read. Segment and globals lie in the
-- segment itself, which is the user's default segment, and the globals know themselves.
abbrev pub user_segment : (segment profile : ℕ) → Contents
user_segment segment profile = record {
  class = SEGMENT_CLASS;
  segment = segment;
  body = body.Segment (record {
    owner = profile;
    owner_right = Write;
    groups = [];
    world_right = Read;
  });
}

abbrev pub user_globals : (segment globals : ℕ) → Contents
user_globals segment globals = record {
  class = SYMBOL_DICTIONARY_CLASS;
  segment = segment;
  body = body.Dict ((Sym (codes "UserGlobals"), Ref globals) ∷ []);
}

abbrev pub user_profile : Text → (segment globals : ℕ) → Contents
user_profile name segment globals = record {
  class = USER_PROFILE_CLASS;
  segment = DATA_CURATOR_SEGMENT;
  body = body.User (record {
    name = name;
    groups = [];
    default_segment = segment;
    globals = globals;
  });
}

abbrev pub user_objects : Text → (first : ℕ) → List Contents
user_objects name first = user_segment first (first + 2)
    ∷ user_globals first (first + 1)
    ∷ user_profile name first (first + 1)
    ∷ []

-- they are made, and the profile goes into the dictionary of all users under the user's name
abbrev pub user_entry : Text → Entered
user_entry name = record {
  objects_at = user_objects name;
  chosen = λ first. first + 2;
  key = Sym name;
}

module _ {B : Type 0} where
  -- 74 `userId` and 75 `groups`
  abbrev pub row_74 : Value → List Value → Run B PrimitiveAnswer
  row_74 receiver arguments = tells user_in (λ user. Sym user.name) receiver arguments

  abbrev pub row_75 : Value → List Value → Run B PrimitiveAnswer
  row_75 receiver arguments = lists user_in (λ user. map Sym user.groups) receiver arguments

  -- the user gets these groups: E17 where they are too many; a new one takes one slot
  abbrev pub placed_in : Receiver UserBody → List Text → Value → Run B PrimitiveAnswer
  placed_in user groups receiver =
      and_then (check fault.ObjectTooLarge (are_few_groups groups)) (λ few.
      replaced_by user (body.User (in_groups groups user.held))
      (items_added groups user.held.groups) receiver)

  -- 76 `addGroup:`
  abbrev pub row_76 : Value → List Value → Run B PrimitiveAnswer
  row_76 receiver arguments =
      and_then (write_receiver user_in receiver) (λ user.
      and_then (argument_as symbol_in arguments) (λ group.
      placed_in user (with_group group user.held.groups) receiver))

  -- 77 `removeGroup:`: E18 where the user isn't in it
  abbrev pub row_77 : Value → List Value → Run B PrimitiveAnswer
  row_77 receiver arguments =
      and_then (write_receiver user_in receiver) (λ user.
      and_then (argument_as symbol_in arguments) (λ group.
      and_then (check fault.KeyAbsent (list_any (bytes_eq group) user.held.groups)) (λ there.
      placed_in user (without_group group user.held.groups) receiver)))

  -- 78 `defaultSegment`
  abbrev pub row_78 : Value → List Value → Run B PrimitiveAnswer
  row_78 receiver arguments = tells user_in (λ user. Ref user.default_segment) receiver arguments

  -- 79 `newUser:`: E5, after the write of the dictionary of all users, where this has the name
  abbrev pub row_79 : Value → List Value → Run B PrimitiveAnswer
  row_79 receiver arguments =
      and_then (need fault.ArgumentKind (reference_in receiver)) (λ class.
      and_then (argument_as user_name_in arguments) (λ name.
      and_then (write_receiver pairs_in (Ref ALL_USERS)) (λ users.
      and_then (check fault.ArgumentKind (not (is_some (value_at (Sym name) users.object.body))))
      (λ absent.
      answers (make_and_enter (user_entry name) users)))))

  -- 80 `myUserProfile`
  abbrev pub row_80 : Value → List Value → Run B PrimitiveAnswer
  row_80 receiver arguments =
      and_then (need fault.ArgumentKind (reference_in receiver)) (λ class.
      and_then (no_arguments arguments) (λ none.
      and_then (atom Who) (λ user.
      answer (Ref user))))

-- New objects that are put into a dictionary.
use Rattle.std.specs.Prelude.{ℕ, List, length}
use Rattle.std.specs.List.{list_all}
use Rattle.gem_object.specs.Edits.{with_value_at}
use Rattle.gem_object.specs.declared.value.Value.{Value}
use Rattle.gem_object.specs.declared.value.Value.TheVariants.{Ref}
use Rattle.gem_object.specs.declared.body.Body.{Body}
use Rattle.object_programs.specs.gem_image.Image.{Contents}
use Rattle.object_programs.specs.gem_world.Changes.{with_body}
use Rattle.object_programs.specs.Budget.{is_within_limits}
use Rattle.object_programs.specs.Atom.{Names, Room, Put}
use Rattle.object_programs.specs.Run.{Run, give, atom, and_then}
use Rattle.object_programs.specs.Programs.{check, make_objects}
use Rattle.object_programs.specs.declared.fault.Fault.TheVariants as fault
use Rattle.prim_rules.specs.Receivers.{Receiver}
use Rattle.prim_rules.specs.Dictionaries.{pair_growth}

-- Objects that are to be made at consecutive names, as they are where the first of them has a given
-- name; which of the names goes into the dictionary; and the key under which it does.
pub record Entered : Type 0 where
  pub objects_at : ℕ → List Contents
  pub chosen : ℕ → ℕ
  pub key : Value

-- The sizes of the objects and of the dictionary don't depend on the names: so this name serves to
-- see them before a name is drawn.
abbrev pub any_name : ℕ
any_name = 0

abbrev pub sized_objects : Entered → List Contents
sized_objects entered = entered.objects_at any_name

-- the dictionary with the new object that the first of these names chooses
abbrev pub with_entry : Entered → (first : ℕ) → Body → Body
with_entry entered first dictionary =
    with_value_at entered.key (Ref (entered.chosen first)) dictionary

abbrev pub sized_dictionary : {A : Type 0} → Entered → Receiver A → Contents
sized_dictionary entered dictionary =
    with_body (with_entry entered any_name dictionary.object.body) dictionary.object

module _ {B : Type 0} where
  -- The objects are made, and one of them is put into a dictionary that was written; a reference to
  -- it. The errors come before anything is made: E17 where an object or then the dictionary would
  -- be too large, E16 unless there is a name for each, E15 unless there is the space for all of it.
  unfoldable pub make_and_enter : {A : Type 0} → Entered → Receiver A → Run B Value
  make_and_enter entered dictionary =
      let body = dictionary.object.body in
      and_then (check fault.ObjectTooLarge (list_all is_within_limits (sized_objects entered)))
      (λ objects_small.
      and_then (check fault.ObjectTooLarge (is_within_limits (sized_dictionary entered dictionary)))
      (λ dictionary_small.
      and_then (atom (Names (length (sized_objects entered)))) (λ named.
      and_then (atom (Room (pair_growth entered.key body))) (λ room.
      and_then (make_objects entered.objects_at) (λ first.
      and_then (atom (Put dictionary.name (with_entry entered first body))) (λ entry.
      give (Ref (entered.chosen first))))))))

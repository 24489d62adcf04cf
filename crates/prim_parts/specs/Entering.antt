-- New objects that are put into a dictionary: what code has of them before they are made.
use Rattle.std.specs.Prelude.{◌≡◌, ◌+◌, ◌≤◌, ℕ, length, map, List, Some, Result}
use Rattle.std.specs.List.{list_all}
use Rattle.gem_object.specs.declared.value.Value.{Value}
use Rattle.gem_object.specs.declared.object.Object.{Object}
use Rattle.gem_sound.specs.gem_image.Image.{Contents, contents_of}
use Rattle.object_programs.specs.gem_world.World.{next_name}
use Rattle.object_programs.specs.Budget.{is_within_limits}
use Rattle.object_programs.specs.declared.limits.TheConstants.{COUNTER_LIMIT}
use Rattle.prim_rules.specs.Receivers.{Receiver}
use Rattle.prim_rules.specs.Making.{Entered, sized_objects, make_and_enter}
use Rattle.running_objects.specs.Seen.{Seen, object_at}
use Rattle.running_objects.specs.declared.stop.Stop.{Stop}
use Rattle.prim_parts.specs.Does.{Does}
use Rattle.gem_object.specs.Edits.{with_value_at}
use Rattle.gem_object.specs.declared.value.Value.TheVariants.{Ref}
use Rattle.object_programs.specs.gem_world.Changes.{with_body}
use Rattle.tree_meaning.specs.Place.{MadeBlock}
use Rattle.object_programs.specs.Atom.{Make, Put}
use Rattle.object_programs.specs.Run.{Run, give, atom, and_then}
use Rattle.object_programs.specs.Programs.{check}
use Rattle.object_programs.specs.declared.fault.Fault.TheVariants as fault
use Rattle.prim_rules.specs.Dictionaries.{pair_growth}

-- so many names are left to be drawn
abbrev pub HasNames : (count : ℕ) → Seen → Type 0
HasNames count seen = seen.world.next + count ≤ COUNTER_LIMIT

-- These objects are those that are to be made, where the first of them gets the name that is drawn
-- next; this name goes into the dictionary, under this key. Where too few names are left only the
-- number of objects and their sizes count, which don't depend on names.
pub record AreEntered (entered : Entered) (objects : List Object) (chosen : ℕ) (key : Value)
    (seen : Seen) : Type 0 where
  pub objects_are : HasNames (length objects) seen
      → entered.objects_at (next_name seen.setting seen.world) ≡ map contents_of objects
  pub chosen_is : HasNames (length objects) seen
      → entered.chosen (next_name seen.setting seen.world) ≡ chosen
  pub key_is : entered.key ≡ key
  pub count : length (sized_objects entered) ≡ length objects
  pub sizes : list_all is_within_limits (sized_objects entered)
      ≡ list_all is_within_limits (map contents_of objects)

-- a call made objects, and put one of them into the dictionary of this name
abbrev pub MadeAndEntered : List Object → (chosen : ℕ) → (key : Value) → (dictionary : ℕ) → Seen
    → Result Value Stop → Seen → Type 0
MadeAndEntered objects chosen key dictionary before result after = (entered : Entered)
    → (receiver : Receiver (List (Value × Value)))
    → AreEntered entered objects chosen key before → receiver.name ≡ dictionary
    → object_at dictionary before ≡ Some receiver.object
    → Does (make_and_enter entered receiver) before result after

-- the space that the pair takes, where the dictionary with it is within the limits; else E17
abbrev pub entry_room : (key : Value) (chosen : ℕ) → Contents → Run MadeBlock ℕ
entry_room key chosen object =
    and_then (check fault.ObjectTooLarge
    (is_within_limits (with_body (with_value_at key (Ref chosen) object.body) object))) (λ small.
    give (pair_growth key object.body))

-- an object that was made is put into a dictionary
abbrev pub put_entry : (dictionary : ℕ) (key : Value) → Contents → (chosen : ℕ)
    → Run MadeBlock Value
put_entry dictionary key object chosen =
    and_then (atom (Put dictionary (with_value_at key (Ref chosen) object.body))) (λ entry.
    give (Ref chosen))

-- a call made objects at the names that are drawn next, and put one into the dictionary
abbrev pub Enters : List Object → (chosen : ℕ) → (key : Value) → (dictionary : ℕ) → Seen
    → Result Value Stop → Seen → Type 0
Enters objects chosen key dictionary before result after = (objects_at : ℕ → List Contents)
    → (chosen_of : ℕ → ℕ) → (object : Contents)
    → objects_at (next_name before.setting before.world) ≡ map contents_of objects
    → chosen_of (next_name before.setting before.world) ≡ chosen
    → object_at dictionary before ≡ Some object
    → Does (and_then (atom (Make objects_at)) (λ first.
    put_entry dictionary key object (chosen_of first)))
    before result after

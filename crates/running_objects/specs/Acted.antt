-- That a call did what an atom does. An atom leaves what is local, so nothing is said of it.
use Rattle.std.specs.Prelude.{◌≡◌, ◌-◌, ◌^◌, ℕ, min, true, map, List, Some, Result, Ok, Err}
use Rattle.gem_object.specs.Sizes.{fields_size}
use Rattle.gem_object.specs.declared.body.Body.{Body}
use Rattle.gem_object.specs.declared.object.Object.{Object}
use Rattle.object_programs.specs.gem_image.Image.{Contents, contents_of}
use Rattle.object_programs.specs.gem_world.World.{next_name}
use Rattle.object_programs.specs.gem_world.Access.{Access}
use Rattle.object_programs.specs.Fixed.{fixed_by}
use Rattle.object_programs.specs.Budget.{is_small}
use Rattle.object_programs.specs.Atom.{Atom, Ask, Own, Kind, Put, Make, says, refuses, Done, done}
use Rattle.running_objects.specs.Seen.{Seen, object_at, Keeps}
use Rattle.running_objects.specs.declared.stop.Stop.{Stop}
use Rattle.running_objects.specs.declared.stop.Stop.TheVariants as stop

module _ {A : Type 0} where
  -- An atom ended with this result, and left what is seen after. Where memory ran out nothing is
  -- said; an atom never returns to an activation.
  abbrev pub SaysSo : Done A → Result A Stop → Seen → Type 0
  SaysSo did (Ok answer) after =
      did ≡ record { answer = says answer; world = after.world; budget = after.budget }
  SaysSo did (Err (stop.Fails fault)) after =
      did ≡ record { answer = refuses fault; world = after.world; budget = after.budget }
  SaysSo did (Err (stop.Returns value home)) after = ⊥
  SaysSo did (Err stop.NoMemory) after = Unit {0}

  -- A call did what the atom does, with this result. Where memory ran out only `keeps` is known.
  pub record Acted (one : Atom A) (before : Seen) (result : Result A Stop) (after : Seen)
      : Type 0 where
    pub keeps : Keeps before after
    pub did : SaysSo (done one before.setting before.world before.budget) result after

  -- the result of a call that tells only whether it ended well, with what it then answers
  abbrev pub with_answer : A → Result (Unit {0}) Stop → Result A Stop
  with_answer answer (Ok nothing) = Ok answer
  with_answer answer (Err ended) = Err ended

-- An access was allowed: the object is there, and it is what the access answers. No object is seen
-- otherwise than before.
pub record Reached (access : Access) (name : ℕ) (before after : Seen) : Type 0 where
  pub object : Contents
  pub there : object_at name after ≡ Some object
  pub acted : Acted (Ask access name) before (Ok object) after
  pub same : (other : ℕ) → object_at other after ≡ object_at other before

-- A call made an access. The object is asked for afterwards.
abbrev pub Accessed : Access → ℕ → Seen → Result (Unit {0}) Stop → Seen → Type 0
Accessed access name before (Ok nothing) after = Reached access name before after
Accessed access name before (Err ended) after = Acted (Ask access name) before (Err ended) after

-- A call looked at the user's own profile, which is asked for afterwards.
abbrev pub Owned : Seen → Result (Unit {0}) Stop → Seen → Type 0
Owned before result after =
    Acted Own before (with_answer (object_at after.setting.user after) result) after

-- A call asked for the fixed part of the object of this name, which is seen in the object
-- afterwards.
abbrev pub Known : ℕ → Seen → Result (Unit {0}) Stop → Seen → Type 0
Known name before result after =
    Acted (Kind name) before (with_answer (fixed_by after.setting after.world name) result) after

-- A call edited the body of the object of this name, as if the edited body had been put.
abbrev pub Edited : ℕ → (Body → Body) → Seen → Result (Unit {0}) Stop → Seen → Type 0
Edited name edit before result after = (object : Contents)
    → object_at name before ≡ Some object
    → Acted (Put name (edit object.body)) before result after

-- A call put the edited body at the object of this name, which is there, and is within the limits of
-- objects with that body.
pub record EditedWithin (name : ℕ) (edit : Body → Body) (before after : Seen) : Type 0 where
  pub object : Contents
  pub there : object_at name before ≡ Some object
  pub small : is_small (edit object.body) ≡ true
  pub acted : Acted (Put name (edit object.body)) before (Ok tt) after

-- A call made these objects, whatever function of the first one's name gives them at the name that
-- is drawn next.
abbrev pub Made : List Object → Seen → Result ℕ Stop → Seen → Type 0
Made objects before result after = (objects_at : ℕ → List Contents)
    → objects_at (next_name before.setting before.world) ≡ map contents_of objects
    → Acted (Make objects_at) before result after

-- the bytes of the fields of an object's body, where the number stays at 2^64 - 1 once it is there
abbrev pub stored_bytes : Contents → ℕ
stored_bytes object = min (fields_size object.body) (2 ^ 64 - 1)

-- Programs for accesses, for changes with what they cost, and for what comes beside them.
use Rattle.std.specs.Prelude.{ℕ, zero, suc, Bool, true, false, ◌&&◌, List, [], ◌∷◌, Option, None, Some}
use Rattle.gem_object.specs.declared.body.Body.{Body}
use Rattle.gem_world.specs.gem_update.Update.{updated}
use Rattle.gem_world.specs.gem_update.declared.update.Update.{Update}
use Rattle.gem_world.specs.gem_image.Image.{Contents}
use Rattle.gem_world.specs.Access.{a_read, a_write}
use Rattle.gem_world.specs.Changes.{with_body}
use Rattle.object_programs.specs.Budget.{is_within_limits}
use Rattle.object_programs.specs.Fixed.{Fixed, ClassPart}
use Rattle.object_programs.specs.Guard.{chain_limit}
use Rattle.object_programs.specs.Atom.{Ask, Kind, Put, Note, Make, Room}
use Rattle.object_programs.specs.Run.{Run, give, fail, atom, and_then}
use Rattle.object_programs.specs.declared.fault.Fault.{Fault}
use Rattle.object_programs.specs.declared.fault.Fault.TheVariants as fault

-- what of a class is fixed, where the object is there and is one
abbrev pub part_of : Option Fixed → Option ClassPart
part_of None = None
part_of (Some fixed) = fixed.as_class

module _ {B : Type 0} where
  -- one of two programs
  abbrev pub choose : {A : Type 0} → Bool → Run B A → Run B A → Run B A
  choose true first second = first
  choose false first second = second

  -- what is there, or the error
  abbrev pub need : {A : Type 0} → Fault → Option A → Run B A
  need fault None = fail fault
  need fault (Some answer) = give answer

  -- the error, unless this holds
  abbrev pub check : Fault → Bool → Run B (Unit {0})
  check fault true = give tt
  check fault false = fail fault

  -- A read, and a write: what the object of this name holds, or E10, E11. An ordinary object that
  -- is written is among the written ones from then on, as it is. Reduced-conflict objects are read
  -- and written by the same programs; nothing but their updates is noted.
  abbrev pub read : ℕ → Run B Contents
  read name = atom (Ask a_read name)

  abbrev pub write : ℕ → Run B Contents
  write name = atom (Ask a_write name)

  -- the fixed part of the object of this name, without a touch, or the error
  abbrev pub known : Fault → ℕ → Run B Fixed
  known fault name = and_then (atom (Kind name)) (need fault)

  -- The classes from this one up to the last superclass, each by its name and its fixed part,
  -- without a touch. What isn't a class ends them, and no more are gone through than there are
  -- names.
  abbrev pub rest_above : Option ℕ → (ℕ → Run B (List (ℕ × ClassPart)))
      → Run B (List (ℕ × ClassPart))
  rest_above None above = give []
  rest_above (Some superclass) above = above superclass

  abbrev pub line_of : ℕ → Option ClassPart → (ℕ → Run B (List (ℕ × ClassPart)))
      → Run B (List (ℕ × ClassPart))
  line_of name None above = give []
  line_of name (Some part) above =
      and_then (rest_above part.superclass above) (λ rest. give ((name, part) ∷ rest))

  abbrev pub classes_within : ℕ → ℕ → Run B (List (ℕ × ClassPart))
  classes_within zero name = give []
  classes_within (suc more) name =
      and_then (atom (Kind name)) (λ found. line_of name (part_of found) (classes_within more))

  unfoldable pub classes_above : ℕ → Run B (List (ℕ × ClassPart))
  classes_above name = classes_within chain_limit name

  -- a new object, which may tell its own name; the name
  abbrev pub make_object : (ℕ → Contents) → Run B ℕ
  make_object object_at = atom (Make (λ name. object_at name ∷ []))

  -- new objects, which may tell one another's names: the first gets this name, and each of the
  -- others the one after that of the object before it
  abbrev pub make_objects : (ℕ → List Contents) → Run B ℕ
  make_objects objects_at = atom (Make objects_at)

  -- A body is put in place of that of an object that was written: the error where the object would
  -- be too large (E17), or where there isn't the space by which it grows (E15).
  unfoldable pub replace_body : (growth : ℕ) → ℕ → Contents → Body → Run B (Unit {0})
  replace_body growth name object body =
      and_then (check fault.ObjectTooLarge (is_within_limits (with_body body object))) (λ small.
      and_then (atom (Room growth)) (λ room.
      atom (Put name body)))

  -- An update of a reduced-conflict object that was written: the error where the update is
  -- refused, where the object is above the limits before it or after it (E17), or where there
  -- isn't the space by which it grows (E15).
  unfoldable pub update : Fault → (growth : ℕ) → ℕ → Contents → Update → Run B (Unit {0})
  update refusal growth name object change =
      and_then (need refusal (updated change object.body)) (λ body.
      and_then (check fault.ObjectTooLarge
      (is_within_limits object && is_within_limits (with_body body object))) (λ small.
      and_then (atom (Room growth)) (λ room.
      atom (Note name change))))

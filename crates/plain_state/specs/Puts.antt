-- What becomes of a state where a body is put or objects are made.
use Rattle.std.specs.Prelude.{ℕ, ◌+◌, ◌-◌, List, [], ◌∷◌, length, fold, map, Result, Ok, Err}
use Rattle.std.specs.Ordering.{nat_cmp}
use Rattle.std.specs.FinMap.{FinMap, insert}
use Rattle.gem_object.specs.declared.object.Object.{Object}
use Rattle.gem_image.specs.Image.{Contents, contents_of}
use Rattle.gem_world.specs.World.{with_name, next_name}
use Rattle.object_programs.specs.Fixed.{fixed_by}
use Rattle.object_programs.specs.Atom.{MakeCheck, too_large, no_name, no_space, no_fault, objects_cost, touch_missing, asked_by_all}
use Rattle.object_programs.specs.declared.fault.Fault.{Fault}
use Rattle.object_programs.specs.declared.fault.Fault.TheVariants as fault
use Rattle.running_objects.specs.Seen.{Seen}
use Rattle.object_guard.specs.Parts.{with_objects}
use Rattle.plain_state.specs.Parts.{in_world}

-- after each of these names was touched, at which no object is
abbrev pub missed_all : List ℕ → Seen → Seen
missed_all names seen =
    in_world (λ world. record world { touched = fold with_name world.touched names }) seen

-- after the names were touched that new objects lack, where the first of them has this name
abbrev pub lacked : ℕ → List Object → Seen → Seen
lacked first objects seen =
    let parts = with_objects first objects (fixed_by seen.setting seen.world) in
    in_world (touch_missing parts (asked_by_all parts (map contents_of objects))) seen

-- what the checks before a make come to
abbrev pub check_result : MakeCheck → Result (Unit {0}) Fault
check_result too_large = Err fault.ObjectTooLarge
check_result no_name = Err fault.NamesUsedUp
check_result no_space = Err fault.Space
check_result no_fault = Ok tt

-- with these objects at this name and at those after it
abbrev pub with_all : ℕ → List Object → FinMap nat_cmp Contents → FinMap nat_cmp Contents
with_all first [] changes = changes
with_all first (object ∷ rest) changes =
    with_all (first + 1) rest (insert changes first (contents_of object))

-- after these objects were made, and their space was taken
abbrev pub made : List Object → Seen → Seen
made objects seen = record seen {
  world = record seen.world {
    next = seen.world.next + length objects;
    changes = with_all (next_name seen.setting seen.world) objects seen.world.changes;
  };
  budget = record seen.budget {
    slots = seen.budget.slots - objects_cost (map contents_of objects);
  };
}

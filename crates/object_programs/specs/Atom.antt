-- The atoms of programs: all that a program can do to objects and to its budget.
use Rattle.std.specs.Prelude.{ℕ, zero, suc, ◌-◌, ◌+◌, Bool, true, false, ◌&&◌, cond, nat_le, length, List, [], ◌∷◌, ◌++◌, Option, None, Some, is_some, fold, sum_by}
use Rattle.std.specs.List.{list_all, flat_map}
use Rattle.std.specs.FinMap.{get}
use Rattle.gem_object.specs.texts.Bytes.{Bytes as Text}
use Rattle.gem_object.specs.declared.body.Body.{Body}
use Rattle.gem_world.specs.gem_update.Update.{updated}
use Rattle.gem_world.specs.gem_update.declared.update.Update.{Update}
use Rattle.gem_world.specs.gem_image.Image.{Contents}
use Rattle.gem_world.specs.World.{Setting, World, name_of, shown, is_made, touch, with_name}
use Rattle.gem_world.specs.Changes.{with_body, in_segment, put, make, note}
use Rattle.gem_world.specs.Access.{Access, a_read, a_write, is_allowed, with_touches, accessed}
use Rattle.object_programs.specs.Budget.{Budget, bytes_cost, object_cost, is_within_limits, may_write}
use Rattle.object_programs.specs.Fixed.{Fixed, fixed_by}
use Rattle.object_programs.specs.Guard.{Parts, asked_names, parts_with, parts_with_new, may_change, may_replace, may_make}
use Rattle.object_programs.specs.declared.limits.TheConstants.{COUNTER_LIMIT}
use Rattle.object_programs.specs.declared.fault.Fault.{Fault}
use Rattle.object_programs.specs.declared.fault.Fault.TheVariants as fault

-- An atom, by the type of its answer.
pub data Atom : Type 0 → Type 1 where
  -- an access: what the object of this name holds, where the user may read or write it
  Ask : Access → ℕ → Atom Contents
  -- what the user's profile holds: it is touched, and no right is asked
  Own : Atom (Option Contents)
  -- the fixed part of the object of this name, without a touch; a name without an object is touched
  Kind : ℕ → Atom (Option Fixed)
  -- whether the object of this name was made in the transaction
  Made : ℕ → Atom Bool
  -- the name of the user
  Who : Atom ℕ
  -- an object that was made, or a written one, has this body from now on
  Put : ℕ → Body → Atom (Unit {0})
  -- it lies in this segment from now on
  Move : ℕ → ℕ → Atom (Unit {0})
  -- a reduced-conflict object that the user may write is updated, and the update is noted
  Note : ℕ → Update → Atom (Unit {0})
  -- so many names can still be drawn
  Names : ℕ → Atom (Unit {0})
  -- new objects, by the name that the first of them gets; the next ones get the names after it
  Make : (ℕ → List Contents) → Atom ℕ
  -- a unit is spent
  Tick : Atom (Unit {0})
  -- so much space is spent
  Room : ℕ → Atom (Unit {0})
  -- a text is written on the transcript
  Show : Text → Atom (Unit {0})

-- What an atom says: an answer, or the error by which the program ends.
pub data Answer (A : Type 0) : Type 0 where
  says : A → Answer A
  refuses : Fault → Answer A

-- What an atom says and leaves.
pub record Done (A : Type 0) : Type 0 where
  pub answer : Answer A
  pub world : World
  pub budget : Budget

-- the names with this one, where nothing is there
abbrev pub with_missing : Parts → List ℕ → ℕ → List ℕ
with_missing parts names name = cond (is_some (parts name)) names (with_name names name)

-- each of the names is touched where nothing is there
unfoldable pub touch_missing : Parts → List ℕ → World → World
touch_missing parts names world = record world {
  touched = fold (with_missing parts) world.touched names;
}

-- the update is noted, if there is one
abbrev pub noted : ℕ → Option Update → Setting → World → World
noted name None setting world = world
noted name (Some update) setting world = note name update setting world

-- the error of an access
abbrev pub access_fault : Access → ℕ → Fault
access_fault a_read name = fault.NoReadRight name
access_fault a_write name = fault.NoWriteRight name

-- what an access says: the object, where there is one and the right is enough
abbrev pub access_answer : (allowed : Bool) → Access → ℕ → Option Contents → Answer Contents
access_answer true access name (Some object) = says object
access_answer true access name None = refuses (access_fault access name)
access_answer false access name found = refuses (access_fault access name)

-- The new object stands at the name from now on, where it may. Where it may not nothing changes,
-- and the names that it lacks are touched.
abbrev pub replaced_where : Bool → ℕ → Option Update → Contents → Setting → World → World
replaced_where true name update new setting world =
    put name new (noted name update setting world)
replaced_where false name update new setting world =
    let parts = parts_with name new setting world in
    touch_missing parts (asked_names parts new) world

-- The object of this name is edited, if the transaction made it or wrote it before: what it wrote
-- stands among its changes. A reduced-conflict object that it didn't make isn't.
abbrev pub edited_at : ℕ → (Contents → Contents) → Option Contents → Setting → World → World
edited_at name edit None setting world = world
edited_at name edit (Some old) setting world = replaced_where
    (may_change name old setting world && may_replace name old (edit old) setting world)
    name None (edit old) setting world

unfoldable pub edited : ℕ → (Contents → Contents) → Setting → World → World
edited name edit setting world = edited_at name edit (get world.changes name) setting world

-- The object with an update, and without one that its body doesn't take: then nothing changes.
abbrev pub updated_by : ℕ → Update → Contents → Option Body → Setting → World → World
updated_by name update old None setting world = world
updated_by name update old (Some body) setting world = replaced_where
    (may_replace name old (with_body body old) setting world)
    name (Some update) (with_body body old) setting world

abbrev pub updated_at : ℕ → Update → Option Contents → Setting → World → World
updated_at name update None setting world = world
updated_at name update (Some old) setting world =
    updated_by name update old (updated update old.body) setting world

-- The object of this name is updated, where the user may write it; the touches are those of a
-- write.
abbrev pub updated_where : (allowed : Bool) → ℕ → Update → Setting → World → World
updated_where true name update setting world =
    updated_at name update (shown name setting world) setting world
updated_where false name update setting world = world

unfoldable pub after_update : ℕ → Update → Setting → World → World
after_update name update setting world = updated_where (is_allowed a_write name setting world)
    name update setting (with_touches name setting world)

-- What is found before objects are made.
pub data MakeCheck : Type 0 where
  too_large : MakeCheck
  no_name : MakeCheck
  no_space : MakeCheck
  no_fault : MakeCheck

-- what objects take that are made
abbrev pub objects_cost : List Contents → ℕ
objects_cost objects = sum_by (λ object. object_cost object.body) objects

-- the checks in their order: E17, E16, E15
abbrev pub space_check : List Contents → Budget → MakeCheck
space_check objects budget = cond (nat_le (objects_cost objects) budget.slots) no_fault no_space

abbrev pub name_check : List Contents → World → Budget → MakeCheck
name_check objects world budget = cond (nat_le (world.next + length objects) COUNTER_LIMIT)
    (space_check objects budget) no_name

abbrev pub make_check : List Contents → World → Budget → MakeCheck
make_check objects world budget =
    cond (list_all is_within_limits objects) (name_check objects world budget) too_large

-- after the objects are made, one after the other
abbrev pub with_new : List Contents → Setting → World → World
with_new [] setting world = world
with_new (object ∷ rest) setting world = with_new rest setting (make object setting world)

-- the names that objects ask for which would be made together
abbrev pub asked_by_all : Parts → List Contents → List ℕ
asked_by_all parts objects = flat_map (asked_names parts) objects

-- Objects that fit are made, and take their space. Others are refused by E17, and the names that
-- they lack are touched.
abbrev pub made_where : Bool → List Contents → Setting → World → Budget → Done ℕ
made_where true objects setting world budget = record {
  answer = says (name_of setting world.next);
  world = with_new objects setting world;
  budget = record budget { slots = budget.slots - objects_cost objects };
}
made_where false objects setting world budget =
    let parts = parts_with_new objects setting world in
    record {
      answer = refuses fault.ObjectTooLarge;
      world = touch_missing parts (asked_by_all parts objects) world;
      budget = budget;
    }

-- a refusal leaves all as it is
abbrev pub refused : {A : Type 0} → Fault → World → Budget → Done A
refused fault world budget = record { answer = refuses fault; world = world; budget = budget }

abbrev pub made_by : MakeCheck → List Contents → Setting → World → Budget → Done ℕ
made_by too_large objects setting world budget = refused fault.ObjectTooLarge world budget
made_by no_name objects setting world budget = refused fault.NamesUsedUp world budget
made_by no_space objects setting world budget = refused fault.Space world budget
made_by no_fault objects setting world budget =
    made_where (may_make objects setting world) objects setting world budget

-- so many names are left, or not: E16
abbrev pub named_where : Bool → World → Budget → Done (Unit {0})
named_where true world budget = record { answer = says tt; world = world; budget = budget }
named_where false world budget = refused fault.NamesUsedUp world budget

-- a unit is spent, or none is left: E13
abbrev pub ticked : ℕ → World → Budget → Done (Unit {0})
ticked zero world budget = refused fault.SendBudget world budget
ticked (suc units) world budget =
    record { answer = says tt; world = world; budget = record budget { units = units } }

-- space is spent, or too little is left: E15
abbrev pub spent_where : Bool → ℕ → World → Budget → Done (Unit {0})
spent_where true slots world budget = record {
  answer = says tt;
  world = world;
  budget = record budget { slots = budget.slots - slots };
}
spent_where false slots world budget = refused fault.Space world budget

-- a text comes on the transcript, where there is space for it
abbrev pub shown_where : (fits has_space : Bool) → Text → World → Budget → Done (Unit {0})
shown_where false has_space text world budget = refused fault.ObjectTooLarge world budget
shown_where true false text world budget = refused fault.Space world budget
shown_where true true text world budget = record {
  answer = says tt;
  world = world;
  budget = record {
    units = budget.units;
    slots = budget.slots - bytes_cost (length text);
    text = budget.text ++ text;
  };
}

-- what an atom says and leaves
abbrev pub done : {A : Type 0} → Atom A → Setting → World → Budget → Done A
done (Ask access name) setting world budget = record {
  answer = access_answer (is_allowed access name setting world) access name
      (shown name setting world);
  world = accessed access name setting world;
  budget = budget;
}
done Own setting world budget = record {
  answer = says (shown setting.user setting world);
  world = touch setting.user setting world;
  budget = budget;
}
done (Kind name) setting world budget = record {
  answer = says (fixed_by setting world name);
  world = touch_missing (fixed_by setting world) (name ∷ []) world;
  budget = budget;
}
done (Made name) setting world budget =
    record { answer = says (is_made name setting world); world = world; budget = budget }
done Who setting world budget =
    record { answer = says setting.user; world = world; budget = budget }
done (Put name body) setting world budget = record {
  answer = says tt;
  world = edited name (with_body body) setting world;
  budget = budget;
}
done (Move name segment) setting world budget = record {
  answer = says tt;
  world = edited name (in_segment segment) setting world;
  budget = budget;
}
done (Note name update) setting world budget = record {
  answer = says tt;
  world = after_update name update setting world;
  budget = budget;
}
done (Names count) setting world budget =
    named_where (nat_le (world.next + count) COUNTER_LIMIT) world budget
done (Make objects_at) setting world budget =
    let objects = objects_at (name_of setting world.next) in
    made_by (make_check objects world budget) objects setting world budget
done Tick setting world budget = ticked budget.units world budget
done (Room slots) setting world budget =
    spent_where (nat_le slots budget.slots) slots world budget
done (Show text) setting world budget = shown_where (may_write text budget)
    (nat_le (bytes_cost (length text)) budget.slots) text world budget

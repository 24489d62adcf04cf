-- What performing a program does, where objects are seen through functions and changes stand in a list. Unlike a finite
-- map these compute. Each word is that of `object_programs` or `gem_world` with the same name, but for `plain_`.
use Rattle.std.proofs.Common.{ℕ, zero, suc, ◌-◌, ◌+◌, Bool, true, false, ◌&&◌, ◌||◌, not, cond, length, List, [], ◌∷◌, ◌++◌, Option, None, Some, option_map}
use Rattle.std.specs.Prelude.{nat_le, nat_lt, is_some, fold}
use Rattle.std.specs.List.{list_all}
use Rattle.std.specs.Option.{option_or}
use Rattle.std.specs.Ordering.{nat_cmp, eq_by_cmp}
use Rattle.gem_meaning.specs.texts.Bytes.{Bytes as Text}
use Rattle.gem_meaning.specs.gem_value.Oid.{oid_number}
use Rattle.gem_meaning.specs.gem_object.Kinds.{is_shared}
use Rattle.gem_meaning.specs.seg_rights.declared.right.Right.{Right}
use Rattle.gem_meaning.specs.gem_object.declared.body.Body.{Body}
use Rattle.gem_meaning.specs.gem_image.Image.{Contents, Objects}
use Rattle.gem_meaning.specs.gem_image.Rights.{right_on}
use Rattle.gem_meaning.specs.gem_update.Update.{updated}
use Rattle.gem_meaning.specs.gem_update.declared.update.Update.{Update}
use Rattle.gem_meaning.specs.gem_world.World.{as_of, are_shared, with_name}
use Rattle.gem_meaning.specs.gem_world.Access.{Access, a_read, a_write, allows}
use Rattle.gem_meaning.specs.gem_world.Changes.{with_body, in_segment}
use Rattle.gem_meaning.specs.object_programs.Budget.{Budget, bytes_cost, is_within_limits, may_write}
use Rattle.gem_meaning.specs.object_programs.Fixed.{Fixed, fixed_of, same_fixed}
use Rattle.gem_meaning.specs.object_programs.Guard.{Parts, asked_names, with_part, with_parts, all_fit, fits}
use Rattle.gem_meaning.specs.object_programs.Local.{Local}
use Rattle.gem_meaning.specs.object_programs.Atom.{Atom, Ask, Own, Kind, Made, Who, Put, Move, Note, Names, Make, Tick, Room, Show, Answer, says, refuses, with_missing, access_answer, MakeCheck, too_large, no_name, no_space, no_fault, objects_cost, space_check, asked_by_all}
use Rattle.gem_meaning.specs.object_programs.Run.{Run, give, fail, return_to, atom, seeing, become, and_then, ending, Ending, gives, returns, fails, end_of}
use Rattle.gem_meaning.specs.object_programs.declared.limits.TheConstants.{COUNTER_LIMIT}
use Rattle.gem_meaning.specs.object_programs.declared.fault.Fault.{Fault}
use Rattle.gem_meaning.specs.object_programs.declared.fault.Fault.TheVariants as fault

pub record PlainSetting : Type 0 where
  pub place : Objects
  pub view : Objects
  pub user : ℕ
  pub serial : ℕ
  pub first : ℕ

-- The changes stand twice: what is at each name, and each that was made, the last one first. Which names were drawn
-- stands here as a test.
pub record PlainWorld : Type 0 where
  pub next : ℕ
  pub drawn : ℕ → Bool
  pub look : Objects
  pub log : List (ℕ × Contents)
  pub updates : List (ℕ × Update)
  pub touched : List ℕ

abbrev pub plain_name_of : PlainSetting → ℕ → ℕ
plain_name_of setting counter = oid_number setting.serial counter

abbrev pub plain_before : ℕ → PlainSetting → Option Contents
plain_before name setting = as_of (setting.place name) (setting.view name)

abbrev pub plain_shown : ℕ → PlainSetting → PlainWorld → Option Contents
plain_shown name setting world = option_or (world.look name) (plain_before name setting)

-- which names are drawn where this counter comes next
abbrev pub plain_drawn : PlainSetting → (next : ℕ) → ℕ → Bool
plain_drawn setting next name =
    nat_le (plain_name_of setting setting.first) name && nat_lt name (plain_name_of setting next)

abbrev pub plain_is_made : ℕ → PlainSetting → PlainWorld → Bool
plain_is_made name setting world = world.drawn name && is_some (world.look name)

abbrev pub plain_is_private : ℕ → PlainSetting → PlainWorld → Bool
plain_is_private name setting world =
    cond (plain_is_made name setting world) true (are_shared (setting.place name) (setting.view name))

abbrev pub plain_touch : ℕ → PlainSetting → PlainWorld → PlainWorld
plain_touch name setting world = record world {
  touched = cond (plain_is_private name setting world) world.touched (with_name world.touched name);
}

abbrev pub plain_put : ℕ → Contents → PlainWorld → PlainWorld
plain_put name object world = record world {
  look = λ other. cond (eq_by_cmp nat_cmp other name) (Some object) (world.look other);
  log = (name, object) ∷ world.log;
}

abbrev pub plain_make : Contents → PlainSetting → PlainWorld → PlainWorld
plain_make object setting world = record world {
  next = world.next + 1;
  drawn = plain_drawn setting (world.next + 1);
  look = λ other. cond (eq_by_cmp nat_cmp other (plain_name_of setting world.next)) (Some object) (world.look other);
  log = (plain_name_of setting world.next, object) ∷ world.log;
}

abbrev pub plain_note : ℕ → Update → PlainSetting → PlainWorld → PlainWorld
plain_note name update setting world = record world {
  updates = cond (plain_is_made name setting world) world.updates (world.updates ++ (name, update) ∷ []);
}

abbrev pub plain_right_at : ℕ → PlainSetting → PlainWorld → Right
plain_right_at name setting world = right_on (λ other. plain_shown other setting world) setting.user name

abbrev pub plain_is_allowed : Access → ℕ → PlainSetting → PlainWorld → Bool
plain_is_allowed access name setting world = allows access (plain_right_at name setting world)

abbrev pub plain_touches_of : ℕ → Option Contents → PlainSetting → PlainWorld → PlainWorld
plain_touches_of name None setting world = plain_touch name setting world
plain_touches_of name (Some object) setting world =
    plain_touch setting.user setting (plain_touch object.segment setting (plain_touch name setting world))

abbrev pub plain_with_touches : ℕ → PlainSetting → PlainWorld → PlainWorld
plain_with_touches name setting world = plain_touches_of name (plain_shown name setting world) setting world

abbrev pub plain_after_allowed : Access → ℕ → Option Contents → PlainWorld → PlainWorld
plain_after_allowed a_read name there world = world
plain_after_allowed a_write name None world = world
plain_after_allowed a_write name (Some object) world =
    cond (is_shared object.body) world (plain_put name object world)

abbrev pub plain_accessed : Access → ℕ → PlainSetting → PlainWorld → PlainWorld
plain_accessed access name setting world = cond (plain_is_allowed access name setting world)
    (plain_after_allowed access name (plain_shown name setting world) (plain_with_touches name setting world))
    (plain_with_touches name setting world)

abbrev pub plain_fixed_by : PlainSetting → PlainWorld → ℕ → Option Fixed
plain_fixed_by setting world name = option_map fixed_of (plain_shown name setting world)

abbrev pub plain_touch_missing : Parts → List ℕ → PlainWorld → PlainWorld
plain_touch_missing parts names world = record world {
  touched = fold (with_missing parts) world.touched names;
}

abbrev pub plain_noted : ℕ → Option Update → PlainSetting → PlainWorld → PlainWorld
plain_noted name None setting world = world
plain_noted name (Some update) setting world = plain_note name update setting world

abbrev pub plain_parts_with : ℕ → Contents → PlainSetting → PlainWorld → Parts
plain_parts_with name object setting world = with_part name (fixed_of object) (plain_fixed_by setting world)

abbrev pub plain_may_change : ℕ → (old : Contents) → PlainSetting → PlainWorld → Bool
plain_may_change name old setting world = plain_is_made name setting world || not (is_shared old.body)

abbrev pub plain_may_replace : ℕ → (old new : Contents) → PlainSetting → PlainWorld → Bool
plain_may_replace name old new setting world = same_fixed (fixed_of old) (fixed_of new)
    && fits (plain_parts_with name new setting world) name new

abbrev pub plain_replaced_where : Bool → ℕ → Option Update → Contents → PlainSetting → PlainWorld → PlainWorld
plain_replaced_where true name update new setting world =
    plain_put name new (plain_noted name update setting world)
plain_replaced_where false name update new setting world =
    let parts = plain_parts_with name new setting world in
    plain_touch_missing parts (asked_names parts new) world

abbrev pub plain_edited_at : ℕ → (Contents → Contents) → Option Contents → PlainSetting → PlainWorld → PlainWorld
plain_edited_at name edit None setting world = world
plain_edited_at name edit (Some old) setting world = plain_replaced_where
    (plain_may_change name old setting world && plain_may_replace name old (edit old) setting world)
    name None (edit old) setting world

abbrev pub plain_edited : ℕ → (Contents → Contents) → PlainSetting → PlainWorld → PlainWorld
plain_edited name edit setting world = plain_edited_at name edit (world.look name) setting world

abbrev pub plain_updated_by : ℕ → Update → Contents → Option Body → PlainSetting → PlainWorld → PlainWorld
plain_updated_by name update old None setting world = world
plain_updated_by name update old (Some body) setting world = plain_replaced_where
    (plain_may_replace name old (with_body body old) setting world)
    name (Some update) (with_body body old) setting world

abbrev pub plain_updated_at : ℕ → Update → Option Contents → PlainSetting → PlainWorld → PlainWorld
plain_updated_at name update None setting world = world
plain_updated_at name update (Some old) setting world =
    plain_updated_by name update old (updated update old.body) setting world

abbrev pub plain_updated_where : (allowed : Bool) → ℕ → Update → PlainSetting → PlainWorld → PlainWorld
plain_updated_where true name update setting world =
    plain_updated_at name update (plain_shown name setting world) setting world
plain_updated_where false name update setting world = world

abbrev pub plain_after_update : ℕ → Update → PlainSetting → PlainWorld → PlainWorld
plain_after_update name update setting world =
    plain_updated_where (plain_is_allowed a_write name setting world)
    name update setting (plain_with_touches name setting world)

abbrev pub plain_name_check : List Contents → PlainWorld → Budget → MakeCheck
plain_name_check objects world budget = cond (nat_le (world.next + length objects) COUNTER_LIMIT)
    (space_check objects budget) no_name

abbrev pub plain_make_check : List Contents → PlainWorld → Budget → MakeCheck
plain_make_check objects world budget =
    cond (list_all is_within_limits objects) (plain_name_check objects world budget) too_large

abbrev pub plain_with_new : List Contents → PlainSetting → PlainWorld → PlainWorld
plain_with_new [] setting world = world
plain_with_new (object ∷ rest) setting world = plain_with_new rest setting (plain_make object setting world)

abbrev pub plain_parts_with_new : List Contents → PlainSetting → PlainWorld → Parts
plain_parts_with_new objects setting world =
    with_parts (plain_name_of setting world.next) objects (plain_fixed_by setting world)

abbrev pub plain_may_make : List Contents → PlainSetting → PlainWorld → Bool
plain_may_make objects setting world = all_fit (plain_parts_with_new objects setting world)
    (plain_name_of setting world.next) objects

pub record PlainDone (A : Type 0) : Type 0 where
  pub answer : Answer A
  pub world : PlainWorld
  pub budget : Budget

abbrev pub plain_made_where : Bool → List Contents → PlainSetting → PlainWorld → Budget → PlainDone ℕ
plain_made_where true objects setting world budget = record {
  answer = says (plain_name_of setting world.next);
  world = plain_with_new objects setting world;
  budget = record budget { slots = budget.slots - objects_cost objects };
}
plain_made_where false objects setting world budget =
    let parts = plain_parts_with_new objects setting world in
    record {
      answer = refuses fault.ObjectTooLarge;
      world = plain_touch_missing parts (asked_by_all parts objects) world;
      budget = budget;
    }

abbrev pub plain_refused : {A : Type 0} → Fault → PlainWorld → Budget → PlainDone A
plain_refused fault world budget = record { answer = refuses fault; world = world; budget = budget }

abbrev pub plain_made_by : MakeCheck → List Contents → PlainSetting → PlainWorld → Budget → PlainDone ℕ
plain_made_by too_large objects setting world budget = plain_refused fault.ObjectTooLarge world budget
plain_made_by no_name objects setting world budget = plain_refused fault.NamesUsedUp world budget
plain_made_by no_space objects setting world budget = plain_refused fault.Space world budget
plain_made_by no_fault objects setting world budget =
    plain_made_where (plain_may_make objects setting world) objects setting world budget

abbrev pub plain_named_where : Bool → PlainWorld → Budget → PlainDone (Unit {0})
plain_named_where true world budget = record { answer = says tt; world = world; budget = budget }
plain_named_where false world budget = plain_refused fault.NamesUsedUp world budget

abbrev pub plain_ticked : ℕ → PlainWorld → Budget → PlainDone (Unit {0})
plain_ticked zero world budget = plain_refused fault.SendBudget world budget
plain_ticked (suc units) world budget =
    record { answer = says tt; world = world; budget = record budget { units = units } }

abbrev pub plain_spent_where : Bool → ℕ → PlainWorld → Budget → PlainDone (Unit {0})
plain_spent_where true slots world budget = record {
  answer = says tt;
  world = world;
  budget = record budget { slots = budget.slots - slots };
}
plain_spent_where false slots world budget = plain_refused fault.Space world budget

abbrev pub plain_shown_where : (fits has_space : Bool) → Text → PlainWorld → Budget → PlainDone (Unit {0})
plain_shown_where false has_space text world budget = plain_refused fault.ObjectTooLarge world budget
plain_shown_where true false text world budget = plain_refused fault.Space world budget
plain_shown_where true true text world budget = record {
  answer = says tt;
  world = world;
  budget = record {
    units = budget.units;
    slots = budget.slots - bytes_cost (length text);
    text = budget.text ++ text;
  };
}

-- what an atom says and leaves
abbrev pub plain_done : {A : Type 0} → Atom A → PlainSetting → PlainWorld → Budget → PlainDone A
plain_done (Ask access name) setting world budget = record {
  answer = access_answer (plain_is_allowed access name setting world) access name
      (plain_shown name setting world);
  world = plain_accessed access name setting world;
  budget = budget;
}
plain_done Own setting world budget = record {
  answer = says (plain_shown setting.user setting world);
  world = plain_touch setting.user setting world;
  budget = budget;
}
plain_done (Kind name) setting world budget = record {
  answer = says (plain_fixed_by setting world name);
  world = plain_touch_missing (plain_fixed_by setting world) (name ∷ []) world;
  budget = budget;
}
plain_done (Made name) setting world budget =
    record { answer = says (plain_is_made name setting world); world = world; budget = budget }
plain_done Who setting world budget =
    record { answer = says setting.user; world = world; budget = budget }
plain_done (Put name body) setting world budget = record {
  answer = says tt;
  world = plain_edited name (with_body body) setting world;
  budget = budget;
}
plain_done (Move name segment) setting world budget = record {
  answer = says tt;
  world = plain_edited name (in_segment segment) setting world;
  budget = budget;
}
plain_done (Note name update) setting world budget = record {
  answer = says tt;
  world = plain_after_update name update setting world;
  budget = budget;
}
plain_done (Names count) setting world budget =
    plain_named_where (nat_le (world.next + count) COUNTER_LIMIT) world budget
plain_done (Make objects_at) setting world budget =
    let objects = objects_at (plain_name_of setting world.next) in
    plain_made_by (plain_make_check objects world budget) objects setting world budget
plain_done Tick setting world budget = plain_ticked budget.units world budget
plain_done (Room slots) setting world budget =
    plain_spent_where (nat_le slots budget.slots) slots world budget
plain_done (Show text) setting world budget = plain_shown_where (may_write text budget)
    (nat_le (bytes_cost (length text)) budget.slots) text world budget

pub record PlainState (B : Type 0) : Type 0 where
  pub world : PlainWorld
  pub budget : Budget
  pub local : Local B

pub record PlainOutcome (B A : Type 0) : Type 0 where
  pub end : Ending A
  pub state : PlainState B

module _ {B : Type 0} where
  abbrev pub plain_outcome_of : {A : Type 0} → PlainDone A → Local B → PlainOutcome B A
  plain_outcome_of after local = record {
    end = end_of after.answer;
    state = record { world = after.world; budget = after.budget; local = local };
  }

  abbrev pub plain_onward : {A C : Type 0} → Ending C → PlainState B → (C → PlainState B → PlainOutcome B A)
      → PlainOutcome B A
  plain_onward (gives answer) state second = second answer state
  plain_onward (returns value home) state second = record { end = returns value home; state = state }
  plain_onward (fails fault) state second = record { end = fails fault; state = state }

  -- what performing a program does
  abbrev pub plain_perform : {A : Type 0} → Run B A → PlainSetting → PlainState B → PlainOutcome B A
  plain_perform (give answer) setting state = record { end = gives answer; state = state }
  plain_perform (fail fault) setting state = record { end = fails fault; state = state }
  plain_perform (return_to value home) setting state = record { end = returns value home; state = state }
  plain_perform (atom one) setting state =
      plain_outcome_of (plain_done one setting state.world state.budget) state.local
  plain_perform (seeing see) setting state = plain_perform (see state.budget state.local) setting state
  plain_perform (become local) setting state = record { end = gives tt; state = record state { local = local } }
  plain_perform (and_then first second) setting state =
      let before = plain_perform first setting state in
      plain_onward before.end before.state (λ answer after. plain_perform (second answer) setting after)
  plain_perform (ending first second) setting state =
      let before = plain_perform first setting state in
      plain_perform (second before.end) setting before.state

-- What every atom keeps every program keeps.
use Rattle.std.proofs.Common.{◌≡◌, refl, ℕ, zero, suc, ◌+◌, Bool, true, false, ◌&&◌, Option, Some, None, List, [], ◌∷◌, length, cond, nat_le, ◌<◌, ◌≤◌, arith}
use Rattle.std.specs.FinMap.{get}
use Rattle.std.specs.List.{list_all}
use Rattle.std.proofs.lemmas.Bool.{leb-true}
use Rattle.gem_object.specs.texts.Bytes.{Bytes as Text}
use Rattle.gem_object.specs.Kinds.{is_shared}
use Rattle.gem_object.specs.declared.body.Body.{Body}
use Rattle.gem_world.specs.gem_update.Update.{updated}
use Rattle.gem_world.specs.gem_update.declared.update.Update.{Update}
use Rattle.gem_world.specs.gem_image.Image.{Contents}
use Rattle.gem_world.specs.World.{Setting, World, name_of, shown, touch}
use Rattle.gem_world.specs.Changes.{with_body, in_segment, put, make, note}
use Rattle.gem_world.specs.Access.{Access, a_read, a_write, is_allowed, touches_of, with_touches, after_allowed, accessed}
use Rattle.object_programs.specs.declared.limits.TheConstants.{COUNTER_LIMIT}
use Rattle.object_programs.specs.Budget.{Budget, is_within_limits}
use Rattle.object_programs.specs.Guard.{Parts, may_change, may_replace, may_make}
use Rattle.object_programs.specs.Atom.{Atom, Ask, Own, Kind, Made, Who, Put, Move, Note, Names, Make, Tick, Room, Show, done, MakeCheck, too_large, no_name, no_space, no_fault, make_check, objects_cost, with_new, made_where, made_by, named_where, ticked, spent_where, shown_where, touch_missing, replaced_where, edited_at, edited, updated_by, updated_at, updated_where, after_update}
use Rattle.object_programs.specs.Run.{Run, give, fail, return_to, atom, seeing, become, and_then, ending, Ending, gives, returns, fails, State, Outcome, onward, perform}
use Rattle.object_programs.proofs.Worlds.{make_next, shown_asked}

-- a relation between what was and what is later, which each atom keeps
pub record Kept (setting : Setting) (R : World → Budget → World → Budget → Type 0) : Type 1 where
  pub same : (world : World) (budget : Budget) → R world budget world budget
  pub along : (world : World) (budget : Budget) (between : World) (over : Budget) (later : World) (left : Budget)
      → R world budget between over → R between over later left → R world budget later left
  pub step : {A : Type 0} (one : Atom A) (world : World) (budget : Budget)
      → R world budget (done one setting world budget).world (done one setting world budget).budget

module _ {B : Type 0} (setting : Setting) (R : World → Budget → World → Budget → Type 0) (law : Kept setting R) where
  pub kept_onward : {A C : Type 0} (world : World) (budget : Budget) (end : Ending C) (state : State B)
      (second : C → State B → Outcome B A) → R world budget state.world state.budget
      → ((answer : C) (after : State B) → R after.world after.budget (second answer after).state.world
      (second answer after).state.budget)
      → R world budget (onward end state second).state.world (onward end state second).state.budget
  kept_onward world budget (gives answer) state second here next =
      let after = second answer state in
      law.along world budget state.world state.budget after.state.world after.state.budget here (next answer state)
  kept_onward world budget (returns value home) state second here next = here
  kept_onward world budget (fails fault) state second here next = here

  pub kept : {A : Type 0} (program : Run B A) (state : State B)
      → R state.world state.budget (perform program setting state).state.world
      (perform program setting state).state.budget
  kept (give answer) state = law.same state.world state.budget
  kept (fail fault) state = law.same state.world state.budget
  kept (return_to value home) state = law.same state.world state.budget
  kept (atom one) state = law.step one state.world state.budget
  kept (seeing see) state = kept (see state.budget state.local) state
  kept (become local) state = law.same state.world state.budget
  kept (and_then first second) state =
      let before = perform first setting state in
      kept_onward state.world state.budget before.end before.state
      (λ answer after. perform (second answer) setting after) (kept first state)
      (λ answer after. kept (second answer) after)
  kept (ending first second) state =
      let before = perform first setting state in
      let after = perform (second before.end) setting before.state in
      law.along state.world state.budget before.state.world before.state.budget
      after.state.world after.state.budget (kept first state) (kept (second before.end) before.state)

by_three : (large name space : Bool)
    → cond large (cond name (cond space no_fault no_space) no_name) too_large ≡ no_fault
    → (name ≡ true) × (space ≡ true)
by_three true true true found = (refl, refl)
by_three true true false found = cc
by_three true false space found = cc
by_three false name space found = cc

pub no_fault_found : (objects : List Contents) (world : World) (budget : Budget)
    → make_check objects world budget ≡ no_fault
    → (world.next + length objects ≤ COUNTER_LIMIT) × (objects_cost objects ≤ budget.slots)
no_fault_found objects world budget found =
    let tests = by_three (list_all is_within_limits objects) (nat_le (world.next + length objects) COUNTER_LIMIT)
    (nat_le (objects_cost objects) budget.slots) found in (
      leb-true (world.next + length objects) COUNTER_LIMIT tests.0,
      leb-true (objects_cost objects) budget.slots tests.1,
    )

-- the same of worlds alone: by what becomes of a world
pub record KeptWorlds (setting : Setting) (R : World → World → Type 0) : Type 1 where
  pub same : (world : World) → R world world
  pub along : (world between later : World) → R world between → R between later → R world later
  pub touches : (name : ℕ) (world : World) → R world (touch name setting world)
  pub misses : (parts : Parts) (names : List ℕ) (world : World) → R world (touch_missing parts names world)
  -- an ordinary object is written as it is
  pub holds : (name : ℕ) (object : Contents) (world : World) → shown name setting world ≡ Some object
      → is_shared object.body ≡ false → R world (put name object world)
  -- an object among the changes is edited
  pub edits : (name : ℕ) (old new : Contents) (world : World) → get world.changes name ≡ Some old
      → may_change name old setting world ≡ true → may_replace name old new setting world ≡ true
      → R world (put name new world)
  -- an object is updated
  pub updates : (name : ℕ) (update : Update) (old : Contents) (body : Body) (world : World)
      → shown name setting world ≡ Some old → updated update old.body ≡ Some body
      → may_replace name old (with_body body old) setting world ≡ true
      → R world (put name (with_body body old) (note name update setting world))
  pub makes : (objects : List Contents) (world : World) → world.next + length objects ≤ COUNTER_LIMIT
      → may_make objects setting world ≡ true → R world (with_new objects setting world)

-- what one object that is made keeps several keep
pub each_new : (setting : Setting) (R : World → World → Type 0) → ((world : World) → R world world)
    → ((world between later : World) → R world between → R between later → R world later)
    → ((object : Contents) (world : World) → world.next < COUNTER_LIMIT → R world (make object setting world))
    → (objects : List Contents) (world : World) → world.next + length objects ≤ COUNTER_LIMIT
    → R world (with_new objects setting world)
each_new setting R same along one [] world below = same world
each_new setting R same along one (object ∷ rest) world below =
    let made = make object setting world in
    let is : made.next ≡ world.next + 1 = make_next object setting world in
    along world made (with_new rest setting made) (one object world (omega (arith, below)))
    (each_new setting R same along one rest made (omega (arith, below, is)))

module _ (setting : Setting) (R : World → World → Type 0) (law : KeptWorlds setting R) where
  touches_kept : (name : ℕ) (found : Option Contents) (world : World)
      → R world (touches_of name found setting world)
  touches_kept name None world = law.touches name world
  touches_kept name (Some object) world =
      let once = touch name setting world in
      let twice = touch object.segment setting once in
      law.along world twice (touch setting.user setting twice)
      (law.along world once twice (law.touches name world) (law.touches object.segment once))
      (law.touches setting.user twice)

  pub asked_kept : (name : ℕ) (world : World) → R world (with_touches name setting world)
  unfolding with_touches
  asked_kept name world = touches_kept name (shown name setting world) world

  held_by : (shared : Bool) (name : ℕ) (object : Contents) (world : World) → shown name setting world ≡ Some object
      → is_shared object.body ≡ shared → R world (cond shared world (put name object world))
  held_by true name object world there is = law.same world
  held_by false name object world there is = law.holds name object world there is

  allowed_kept : (access : Access) (name : ℕ) (found : Option Contents) (world : World)
      → shown name setting world ≡ found → R world (after_allowed access name found world)
  allowed_kept a_read name found world there = law.same world
  allowed_kept a_write name None world there = law.same world
  allowed_kept a_write name (Some object) world there = held_by (is_shared object.body) name object world there refl

  accessed_by : (allowed : Bool) (access : Access) (name : ℕ) (world : World)
      → R world (cond allowed (after_allowed access name (shown name setting world) (with_touches name setting world))
      (with_touches name setting world))
  accessed_by false access name world = asked_kept name world
  accessed_by true access name world =
      let now = with_touches name setting world in
      law.along world now (after_allowed access name (shown name setting world) now) (asked_kept name world)
      (allowed_kept access name (shown name setting world) now (shown_asked setting setting name name world))

  accessed_kept : (access : Access) (name : ℕ) (world : World) → R world (accessed access name setting world)
  unfolding accessed
  accessed_kept access name world = accessed_by (is_allowed access name setting world) access name world

  where_edited : (own may : Bool) (name : ℕ) (old new : Contents) (world : World)
      → get world.changes name ≡ Some old → may_change name old setting world ≡ own
      → may_replace name old new setting world ≡ may
      → R world (replaced_where (own && may) name None new setting world)
  where_edited true true name old new world there own may = law.edits name old new world there own may
  where_edited true false name old new world there own may = law.misses _ _ world
  where_edited false may name old new world there own is = law.misses _ _ world

  pub edited_kept_at : (name : ℕ) (edit : Contents → Contents) (found : Option Contents) (world : World)
      → get world.changes name ≡ found → R world (edited_at name edit found setting world)
  edited_kept_at name edit None world there = law.same world
  edited_kept_at name edit (Some old) world there = where_edited (may_change name old setting world)
      (may_replace name old (edit old) setting world) name old (edit old) world there refl refl

  edited_kept : (name : ℕ) (edit : Contents → Contents) (world : World) → R world (edited name edit setting world)
  unfolding edited
  edited_kept name edit world = edited_kept_at name edit (get world.changes name) world refl

  where_updated : (may : Bool) (name : ℕ) (update : Update) (old : Contents) (body : Body) (world : World)
      → shown name setting world ≡ Some old → updated update old.body ≡ Some body
      → may_replace name old (with_body body old) setting world ≡ may
      → R world (replaced_where may name (Some update) (with_body body old) setting world)
  where_updated true name update old body world there is may = law.updates name update old body world there is may
  where_updated false name update old body world there is may = law.misses _ _ world

  updated_kept_by : (name : ℕ) (update : Update) (old : Contents) (found : Option Body) (world : World)
      → shown name setting world ≡ Some old → updated update old.body ≡ found
      → R world (updated_by name update old found setting world)
  updated_kept_by name update old None world there is = law.same world
  updated_kept_by name update old (Some body) world there is = where_updated
      (may_replace name old (with_body body old) setting world) name update old body world there is refl

  pub updated_kept_at : (name : ℕ) (update : Update) (found : Option Contents) (world : World)
      → shown name setting world ≡ found → R world (updated_at name update found setting world)
  updated_kept_at name update None world there = law.same world
  updated_kept_at name update (Some old) world there =
      updated_kept_by name update old (updated update old.body) world there refl

  pub updated_kept_where : (allowed : Bool) (name : ℕ) (update : Update) (world : World)
      → R world (updated_where allowed name update setting world)
  updated_kept_where true name update world = updated_kept_at name update (shown name setting world) world refl
  updated_kept_where false name update world = law.same world

  update_kept : (name : ℕ) (update : Update) (world : World) → R world (after_update name update setting world)
  unfolding after_update
  update_kept name update world =
      let now = with_touches name setting world in
      let allowed = is_allowed a_write name setting world in
      law.along world now (updated_where allowed name update setting now) (asked_kept name world)
      (updated_kept_where allowed name update now)

  fit_kept : (fits : Bool) (objects : List Contents) (world : World) (budget : Budget)
      → world.next + length objects ≤ COUNTER_LIMIT → may_make objects setting world ≡ fits
      → R world (made_where fits objects setting world budget).world
  fit_kept true objects world budget below is = law.makes objects world below is
  fit_kept false objects world budget below is = law.misses _ _ world

  make_kept : (found : MakeCheck) (objects : List Contents) (world : World) (budget : Budget)
      → make_check objects world budget ≡ found → R world (made_by found objects setting world budget).world
  make_kept too_large objects world budget is = law.same world
  make_kept no_name objects world budget is = law.same world
  make_kept no_space objects world budget is = law.same world
  make_kept no_fault objects world budget is =
      fit_kept (may_make objects setting world) objects world budget (no_fault_found objects world budget is).0 refl

  named_kept : (enough : Bool) (world : World) (budget : Budget) → R world (named_where enough world budget).world
  named_kept true world budget = law.same world
  named_kept false world budget = law.same world

  tick_kept : (units : ℕ) (world : World) (budget : Budget) → R world (ticked units world budget).world
  tick_kept zero world budget = law.same world
  tick_kept (suc units) world budget = law.same world

  room_kept : (enough : Bool) (slots : ℕ) (world : World) (budget : Budget)
      → R world (spent_where enough slots world budget).world
  room_kept true slots world budget = law.same world
  room_kept false slots world budget = law.same world

  show_kept : (fits enough : Bool) (text : Text) (world : World) (budget : Budget)
      → R world (shown_where fits enough text world budget).world
  show_kept false enough text world budget = law.same world
  show_kept true false text world budget = law.same world
  show_kept true true text world budget = law.same world

  step_kept : {A : Type 0} (one : Atom A) (world : World) (budget : Budget)
      → R world (done one setting world budget).world
  step_kept (Ask access name) world budget = accessed_kept access name world
  step_kept Own world budget = law.touches setting.user world
  step_kept (Kind name) world budget = law.misses _ _ world
  step_kept (Made name) world budget = law.same world
  step_kept Who world budget = law.same world
  step_kept (Put name body) world budget = edited_kept name (with_body body) world
  step_kept (Move name segment) world budget = edited_kept name (in_segment segment) world
  step_kept (Note name update) world budget = update_kept name update world
  step_kept (Names count) world budget = named_kept _ world budget
  step_kept (Make objects_at) world budget =
      let objects = objects_at (name_of setting world.next) in
      make_kept (make_check objects world budget) objects world budget refl
  step_kept Tick world budget = tick_kept budget.units world budget
  step_kept (Room slots) world budget = room_kept _ slots world budget
  step_kept (Show text) world budget = show_kept _ _ text world budget

  -- what every change of a world keeps every atom keeps
  pub of_worlds : Kept setting (λ world budget later left. R world later)
  of_worlds = record {
    same = λ world budget. law.same world;
    along = λ world budget between over later left here next. law.along world between later here next;
    step = λ {A} one world budget. step_kept one world budget;
  }

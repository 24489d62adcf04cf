-- What is touched stays touched; what is left never grows, and names are drawn in turn.
use Rattle.std.proofs.Common.{◌≡◌, ◌∙◌, refl, ℕ, zero, suc, ◌+◌, ◌-◌, ◌≤◌, Bool, true, false, ◌&&◌, Option, Some, None, List, [], ◌∷◌, ◌++◌, length, cond, nat_eq, fold, is_some, arith}
use Rattle.std.specs.FinMap.{get}
use Rattle.std.proofs.lemmas.Bool.{cond_both, or_left}
use Rattle.std.proofs.lemmas.List.Folds.{list_any-append}
use Rattle.std.proofs.lemmas.List.Sums.{sum_by-cons}
use Rattle.gem_object.specs.texts.Bytes.{Bytes as Text}
use Rattle.gem_object.specs.Kinds.{is_shared}
use Rattle.gem_object.specs.declared.body.Body.{Body}
use Rattle.gem_object.specs.declared.body.Body.TheVariants.{Plain, Bytes, Dict, Class, Segment, User, Counter, Bag, RcDict, Queue}
use Rattle.gem_world.specs.gem_update.Update.{updated}
use Rattle.gem_world.specs.gem_update.declared.update.Update.{Update}
use Rattle.gem_world.specs.gem_image.Image.{Contents}
use Rattle.gem_world.specs.World.{Setting, World, name_of, is_among, with_name, is_private, shown, touch}
use Rattle.gem_world.specs.Changes.{with_body, in_segment, put, make, note}
use Rattle.gem_world.specs.Access.{Access, a_read, a_write, IsTouched, is_allowed, touches_of, with_touches, after_allowed, accessed}
use Rattle.object_programs.specs.Budget.{Budget, object_cost}
use Rattle.object_programs.specs.Guard.{Parts, may_change, may_replace, may_make}
use Rattle.object_programs.specs.Atom.{Atom, Ask, Own, Kind, Made, Who, Put, Move, Note, Names, Make, Tick, Room, Show, done, MakeCheck, too_large, no_name, no_space, no_fault, make_check, objects_cost, with_new, made_where, made_by, named_where, ticked, spent_where, shown_where, with_missing, touch_missing, noted, replaced_where, edited_at, edited, updated_by, updated_at, updated_where, after_update}
use Rattle.object_programs.specs.Laws.{Falls}
use Rattle.object_programs.proofs.Kept.{Kept, KeptWorlds, of_worlds, each_new, no_fault_found}
use Rattle.object_programs.proofs.Worlds.{touch_next, misses_next, put_next, note_next, make_next}

-- touches
abbrev pub GrowTouches : World → World → Type 0
GrowTouches world later = (name : ℕ) → IsTouched name world → IsTouched name later

pub still_there : (names : List ℕ) (other name : ℕ) → is_among name names ≡ true
    → is_among name (with_name names other) ≡ true
still_there names other name here = cond_both (is_among other names) names (names ++ other ∷ [])
    (λ some. is_among name some ≡ true) (λ _. here)
    (λ _. rw (list_any-append (nat_eq name) names (other ∷ [])) (or_left _ _ here))

still_missing : (parts : Parts) (names : List ℕ) (other name : ℕ) → is_among name names ≡ true
    → is_among name (with_missing parts names other) ≡ true
still_missing parts names other name here = cond_both (is_some (parts other)) names (with_name names other)
    (λ some. is_among name some ≡ true) (λ _. here) (λ _. still_there names other name here)

pub still_folded : (parts : Parts) (others names : List ℕ) (name : ℕ) → is_among name names ≡ true
    → is_among name (fold (with_missing parts) names others) ≡ true
still_folded parts [] names name here = here
still_folded parts (other ∷ others) names name here =
    still_folded parts others (with_missing parts names other) name (still_missing parts names other name here)

module _ (setting : Setting) where
  pub touch_grows : (name : ℕ) (world : World) → GrowTouches world (touch name setting world)
  unfolding touch
  touch_grows name world other here = cond_both (is_private name setting world) world.touched
      (with_name world.touched name) (λ some. is_among other some ≡ true) (λ _. here)
      (λ _. still_there world.touched name other here)

  misses_grow : (parts : Parts) (names : List ℕ) (world : World)
      → GrowTouches world (touch_missing parts names world)
  unfolding touch_missing
  misses_grow parts names world other here = still_folded parts names world.touched other here

  pub put_grows : (name : ℕ) (object : Contents) (world : World) → GrowTouches world (put name object world)
  unfolding put
  put_grows name object world other here = here

  noted_grow : (name : ℕ) (update : Update) (new : Contents) (world : World)
      → GrowTouches world (put name new (note name update setting world))
  unfolding put note
  noted_grow name update new world other here = here

  make_grows : (object : Contents) (world : World) → GrowTouches world (make object setting world)
  unfolding make
  make_grows object world other here = here

  pub touches_by_worlds : KeptWorlds setting GrowTouches
  touches_by_worlds = record {
    same = λ world name here. here;
    along = λ world between later first second name here. second name (first name here);
    touches = touch_grows;
    misses = misses_grow;
    holds = λ name object world _ _. put_grows name object world;
    edits = λ name old new world _ _ _. put_grows name new world;
    updates = λ name update old body world _ _ _. noted_grow name update (with_body body old) world;
    makes = λ objects world below _. each_new setting GrowTouches (λ world name here. here)
        (λ world between later first second name here. second name (first name here))
        (λ object world _. make_grows object world) objects world below;
  }

  -- what was touched stays touched
  pub touches_stay : Kept setting (λ world budget later left. GrowTouches world later)
  touches_stay = of_worlds setting GrowTouches touches_by_worlds

falls_same : (world later : World) (budget : Budget) → later.next ≡ world.next → Falls world budget later budget
falls_same world later budget is = record {
  units = omega arith;
  slots = omega arith;
  next = omega (arith, is);
  drawn = omega (arith, is);
}

falls_along : (world : World) (budget : Budget) (between : World) (over : Budget) (later : World) (left : Budget)
    → Falls world budget between over → Falls between over later left → Falls world budget later left
falls_along world budget between over later left first second = record {
  units = omega (arith, first.units, second.units);
  slots = omega (arith, first.slots, second.slots);
  next = omega (arith, first.next, second.next);
  drawn = omega (arith, first.drawn, second.drawn);
}

costs_some : (body : Body) → 1 ≤ object_cost body
costs_some (Plain values) = omega arith
costs_some (Bytes bytes) = omega arith
costs_some (Dict pairs) = omega arith
costs_some (Class class) = omega arith
costs_some (Segment rights) = omega arith
costs_some (User user) = omega arith
costs_some (Counter counter) = omega arith
costs_some (Bag pairs) = omega arith
costs_some (RcDict pairs) = omega arith
costs_some (Queue queue) = omega arith

module _ (setting : Setting) where
  noted_next : (name : ℕ) (update : Option Update) (world : World)
      → (noted name update setting world).next ≡ world.next
  noted_next name None world = refl
  noted_next name (Some update) world = note_next name update setting world

  replaced_next : (fits : Bool) (name : ℕ) (update : Option Update) (new : Contents) (world : World)
      → (replaced_where fits name update new setting world).next ≡ world.next
  replaced_next true name update new world =
      put_next name new (noted name update setting world) ∙ noted_next name update world
  replaced_next false name update new world = misses_next _ _ world

  edited_next_at : (name : ℕ) (edit : Contents → Contents) (found : Option Contents) (world : World)
      → (edited_at name edit found setting world).next ≡ world.next
  edited_next_at name edit None world = refl
  edited_next_at name edit (Some old) world = replaced_next
      (may_change name old setting world && may_replace name old (edit old) setting world) name None (edit old) world

  edited_next : (name : ℕ) (edit : Contents → Contents) (world : World)
      → (edited name edit setting world).next ≡ world.next
  unfolding edited
  edited_next name edit world = edited_next_at name edit (get world.changes name) world

  among_next : (name : ℕ) (found : Option Contents) (world : World)
      → (touches_of name found setting world).next ≡ world.next
  unfolding touch
  among_next name None world = refl
  among_next name (Some object) world = refl

  asked_next : (name : ℕ) (world : World) → (with_touches name setting world).next ≡ world.next
  unfolding with_touches
  asked_next name world = among_next name (shown name setting world) world

  updated_next_by : (name : ℕ) (update : Update) (old : Contents) (found : Option Body) (world : World)
      → (updated_by name update old found setting world).next ≡ world.next
  updated_next_by name update old None world = refl
  updated_next_by name update old (Some body) world = replaced_next
      (may_replace name old (with_body body old) setting world) name (Some update) (with_body body old) world

  updated_next_at : (name : ℕ) (update : Update) (found : Option Contents) (world : World)
      → (updated_at name update found setting world).next ≡ world.next
  updated_next_at name update None world = refl
  updated_next_at name update (Some old) world = updated_next_by name update old (updated update old.body) world

  updated_next : (allowed : Bool) (name : ℕ) (update : Update) (world : World)
      → (updated_where allowed name update setting world).next ≡ world.next
  updated_next true name update world = updated_next_at name update (shown name setting world) world
  updated_next false name update world = refl

  update_next : (name : ℕ) (update : Update) (world : World)
      → (after_update name update setting world).next ≡ world.next
  unfolding after_update
  update_next name update world =
      updated_next (is_allowed a_write name setting world) name update (with_touches name setting world)
      ∙ asked_next name world

  held_by_next : (shared : Bool) (name : ℕ) (object : Contents) (world : World)
      → (cond shared world (put name object world)).next ≡ world.next
  held_by_next true name object world = refl
  held_by_next false name object world = put_next name object world

  allowed_next : (access : Access) (name : ℕ) (found : Option Contents) (world : World)
      → (after_allowed access name found world).next ≡ world.next
  allowed_next a_read name found world = refl
  allowed_next a_write name None world = refl
  allowed_next a_write name (Some object) world = held_by_next (is_shared object.body) name object world

  accessed_by_next : (allowed : Bool) (access : Access) (name : ℕ) (world : World)
      → (cond allowed (after_allowed access name (shown name setting world) (with_touches name setting world))
      (with_touches name setting world)).next ≡ world.next
  accessed_by_next false access name world = asked_next name world
  accessed_by_next true access name world =
      allowed_next access name (shown name setting world) (with_touches name setting world) ∙ asked_next name world

  accessed_next : (access : Access) (name : ℕ) (world : World)
      → (accessed access name setting world).next ≡ world.next
  unfolding accessed
  accessed_next access name world = accessed_by_next (is_allowed access name setting world) access name world

  pub new_next : (objects : List Contents) (world : World)
      → (with_new objects setting world).next ≡ world.next + length objects
  new_next [] world = omega arith
  new_next (object ∷ rest) world =
      let first = make_next object setting world in
      let more = new_next rest (make object setting world) in
      omega (arith, first, more)

  cost_each : (objects : List Contents) → length objects ≤ objects_cost objects
  cost_each [] = omega arith
  cost_each (object ∷ rest) =
      let all = sum_by-cons (λ (some : Contents). object_cost some.body) object rest in
      let first = costs_some object.body in
      let more = cost_each rest in
      omega (arith, all, first, more)

  make_falls : (objects : List Contents) (world : World) (budget : Budget) → objects_cost objects ≤ budget.slots
      → Falls world budget (with_new objects setting world)
      (record budget { slots = budget.slots - objects_cost objects })
  make_falls objects world budget enough =
      let some = cost_each objects in
      let next = new_next objects world in
      record {
        units = omega arith;
        slots = omega (arith, enough);
        next = omega (arith, next);
        drawn = omega (arith, some, enough, next);
      }

  fit_falls : (fits : Bool) (objects : List Contents) (world : World) (budget : Budget)
      → objects_cost objects ≤ budget.slots
      → Falls world budget (made_where fits objects setting world budget).world
      (made_where fits objects setting world budget).budget
  fit_falls true objects world budget enough = make_falls objects world budget enough
  fit_falls false objects world budget enough = falls_same world _ budget (misses_next _ _ world)

  made_falls : (found : MakeCheck) (objects : List Contents) (world : World) (budget : Budget)
      → make_check objects world budget ≡ found
      → Falls world budget (made_by found objects setting world budget).world
      (made_by found objects setting world budget).budget
  made_falls too_large objects world budget is = falls_same world world budget refl
  made_falls no_name objects world budget is = falls_same world world budget refl
  made_falls no_space objects world budget is = falls_same world world budget refl
  made_falls no_fault objects world budget is = fit_falls (may_make objects setting world) objects world budget
      (no_fault_found objects world budget is).1

  named_falls : (enough : Bool) (world : World) (budget : Budget)
      → Falls world budget (named_where enough world budget).world (named_where enough world budget).budget
  named_falls true world budget = falls_same world world budget refl
  named_falls false world budget = falls_same world world budget refl

  tick_falls : (units : ℕ) (world : World) (budget : Budget) → budget.units ≡ units
      → Falls world budget (ticked units world budget).world (ticked units world budget).budget
  tick_falls zero world budget is = falls_same world world budget refl
  tick_falls (suc units) world budget is = record {
    units = omega (arith, is);
    slots = omega arith;
    next = omega arith;
    drawn = omega arith;
  }

  room_falls : (enough : Bool) (slots : ℕ) (world : World) (budget : Budget)
      → Falls world budget (spent_where enough slots world budget).world
      (spent_where enough slots world budget).budget
  room_falls true slots world budget = record {
    units = omega arith;
    slots = omega arith;
    next = omega arith;
    drawn = omega arith;
  }
  room_falls false slots world budget = falls_same world world budget refl

  show_falls : (fits enough : Bool) (text : Text) (world : World) (budget : Budget)
      → Falls world budget (shown_where fits enough text world budget).world
      (shown_where fits enough text world budget).budget
  show_falls false enough text world budget = falls_same world world budget refl
  show_falls true false text world budget = falls_same world world budget refl
  show_falls true true text world budget = record {
    units = omega arith;
    slots = omega arith;
    next = omega arith;
    drawn = omega arith;
  }

  step_falls : {A : Type 0} (one : Atom A) (world : World) (budget : Budget)
      → Falls world budget (done one setting world budget).world (done one setting world budget).budget
  step_falls (Ask access name) world budget = falls_same world _ budget (accessed_next access name world)
  step_falls Own world budget = falls_same world _ budget (touch_next setting.user setting world)
  step_falls (Kind name) world budget = falls_same world _ budget (misses_next _ _ world)
  step_falls (Made name) world budget = falls_same world world budget refl
  step_falls Who world budget = falls_same world world budget refl
  step_falls (Put name body) world budget = falls_same world _ budget (edited_next name (with_body body) world)
  step_falls (Move name segment) world budget =
      falls_same world _ budget (edited_next name (in_segment segment) world)
  step_falls (Note name update) world budget = falls_same world _ budget (update_next name update world)
  step_falls (Names count) world budget = named_falls _ world budget
  step_falls (Make objects_at) world budget =
      let objects = objects_at (name_of setting world.next) in
      made_falls (make_check objects world budget) objects world budget refl
  step_falls Tick world budget = tick_falls budget.units world budget refl
  step_falls (Room slots) world budget = room_falls _ slots world budget
  step_falls (Show text) world budget = show_falls _ _ text world budget

  -- what is left never grows, and names are drawn in turn
  pub budgets_fall : Kept setting Falls
  budgets_fall = record {
    same = λ world budget. falls_same world world budget refl;
    along = falls_along;
    step = λ {A} one world budget. step_falls one world budget;
  }

-- What comes among the changes was made here, or the user had the right to write it.
use Rattle.std.proofs.Common.{◌≡◌, ◌≢◌, ◌⊎◌, ◌∙◌, refl, sym, ap, subst, ℕ, zero, suc, ◌≤◌, ◌<◌, Bool, true, false, ◌&&◌, nat_le, nat_lt, cond, Option, Some, None, List, [], ◌∷◌, ◌++◌, is_some, inl, inr, arith}
use Rattle.std.proofs.Math.Path.{fun_ext}
use Rattle.std.specs.FinMap.{get, insert}
use Rattle.std.proofs.lemmas.Bool.{false≢true, and_parts, cases_eq, ltb-true}
use Rattle.gem_world.proofs.radix_pages_lemmas.Tables.{get-insert_same, get-insert_other}
use Rattle.gem_object.specs.texts.Bytes.{Bytes as Text}
use Rattle.gem_object.specs.Kinds.{is_shared}
use Rattle.gem_object.specs.declared.body.Body.{Body}
use Rattle.gem_world.specs.gem_update.Update.{updated}
use Rattle.gem_world.specs.gem_update.declared.update.Update.{Update}
use Rattle.gem_world.specs.gem_image.Image.{Contents}
use Rattle.gem_world.specs.gem_image.Rights.{right_on}
use Rattle.gem_world.specs.World.{Setting, World, name_of, shown, is_drawn, is_made, touch}
use Rattle.gem_world.specs.Changes.{with_body, in_segment, put, make, note}
use Rattle.gem_world.specs.Access.{Access, a_read, a_write, allows, is_allowed, touches_of, with_touches, after_allowed, accessed}
use Rattle.object_programs.specs.Budget.{Budget, is_within_limits}
use Rattle.object_programs.specs.Guard.{Parts, may_change, may_replace, may_make}
use Rattle.object_programs.specs.Atom.{Atom, Ask, Own, Kind, Made, Who, Put, Move, Note, Names, Make, Tick, Room, Show, done, MakeCheck, too_large, no_name, no_space, no_fault, make_check, with_new, made_where, made_by, named_where, ticked, spent_where, shown_where, touch_missing, replaced_where, edited_at, edited, updated_by, updated_at, updated_where, after_update}
use Rattle.object_programs.specs.Run.{Run, give, atom, and_then, Ending, gives, returns, fails, State, onward, perform}
use Rattle.object_programs.specs.Programs.{need, check, replace_body, update}
use Rattle.object_programs.specs.Steps.{Step, reading, writing, looking, knowing, asking, calling, putting, moving, updating, placing, shifting, noting, naming, making, spending, taking, showing, only, step_program, steps_program}
use Rattle.object_programs.specs.declared.fault.Fault.{Fault}
use Rattle.object_programs.specs.declared.fault.Fault.TheVariants as fault
use Rattle.object_programs.specs.Laws.{Falls}
use Rattle.object_programs.proofs.Kept.{Kept, of_worlds, kept}
use Rattle.object_programs.proofs.Falling as falling
use Rattle.object_programs.proofs.Told.{make_elsewhere, now_made, unmade_then}
use Rattle.object_programs.proofs.Worlds.{make_next, put_here, put_elsewhere, shown_asked}

module _ (setting : Setting) (name : ℕ) where
  -- ---- what was made stays made

  abbrev StaysMade : World → World → Type 0
  StaysMade world later = is_made name setting world ≡ true → is_made name setting later ≡ true

  touch_made : (other : ℕ) (world : World) → StaysMade world (touch other setting world)
  unfolding touch is_made
  touch_made other world made = made

  misses_made : (parts : Parts) (names : List ℕ) (world : World) → StaysMade world (touch_missing parts names world)
  unfolding touch_missing is_made
  misses_made parts names world made = made

  put_made : (at : ℕ) (new : Contents) (world : World) → StaysMade world (put at new world)
  unfolding put is_made
  put_made at new world made =
      let parts = and_parts (is_drawn name setting world) (is_some (get world.changes name)) made in
      ap (λ b. b && is_some (get (insert world.changes at new) name)) parts.0
      ∙ elim (cases_eq name at) [
        | inl same ↦ ap is_some (get-insert_same world.changes at new name same)
        | inr apart ↦ ap is_some (get-insert_other world.changes at new name apart) ∙ parts.1
      ]

  note_made : (at : ℕ) (update : Update) (world : World) → StaysMade world (note at update setting world)
  unfolding note is_made
  note_made at update world made = made

  drawn_below : (world : World) → is_made name setting world ≡ true → name < name_of setting world.next
  unfolding is_made
  drawn_below world made =
      let parts = and_parts (is_drawn name setting world) (is_some (get world.changes name)) made in
      ltb-true name (name_of setting world.next)
      (and_parts (nat_le (name_of setting setting.first) name) (nat_lt name (name_of setting world.next)) parts.0).1

  make_made : (object : Contents) (world : World) → StaysMade world (make object setting world)
  make_made object world made = by (is_made name setting (make object setting world)) refl
    where
      by : (then : Bool) → is_made name setting (make object setting world) ≡ then
          → is_made name setting (make object setting world) ≡ true
      by true is = is
      by false is = elim (cases_eq name (name_of setting world.next)) [
        | inl same ↦ absurd (omega (arith, same, drawn_below world made))
        | inr apart ↦ absurd (false≢true (sym (unmade_then setting name object world apart is) ∙ made))
      ]

  new_made_still : (objects : List Contents) (world : World) → StaysMade world (with_new objects setting world)
  new_made_still [] world made = made
  new_made_still (object ∷ rest) world made =
      new_made_still rest (make object setting world) (make_made object world made)

  made_stays : Kept setting (λ world budget later left. StaysMade world later)
  made_stays = of_worlds setting StaysMade record {
    same = λ world made. made;
    along = λ world between later first second made. second (first made);
    touches = touch_made;
    misses = misses_made;
    holds = λ at object world _ _. put_made at object world;
    edits = λ at old new world _ _ _. put_made at new world;
    updates = λ at update old body world _ _ _ made.
        put_made at (with_body body old) (note at update setting world) (note_made at update world made);
    makes = λ objects world _ _. new_made_still objects world;
  }

  -- ---- what atoms add

  -- the name comes among the changes only where it was made, or the user might write it before
  abbrev Adds : World → World → Type 0
  Adds world later = setting.first ≤ world.next → get world.changes name ≡ None
      → is_some (get later.changes name) ≡ true
      → (is_made name setting later ≡ true) ⊎ (is_allowed a_write name setting world ≡ true)

  same_adds : (world later : World) → is_some (get later.changes name) ≡ is_some (get world.changes name)
      → Adds world later
  same_adds world later same begun none some = absurd (false≢true (sym (ap is_some none) ∙ (sym same ∙ some)))

  touch_keys : (other : ℕ) (world : World) → get (touch other setting world).changes name ≡ get world.changes name
  unfolding touch
  touch_keys other world = refl

  misses_keys : (parts : Parts) (names : List ℕ) (world : World)
      → get (touch_missing parts names world).changes name ≡ get world.changes name
  unfolding touch_missing
  misses_keys parts names world = refl

  note_keys : (at : ℕ) (update : Update) (world : World)
      → get (note at update setting world).changes name ≡ get world.changes name
  unfolding note
  note_keys at update world = refl

  put_keys : (at : ℕ) (new : Contents) (world : World) → name ≢ at
      → get (put at new world).changes name ≡ get world.changes name
  unfolding put
  put_keys at new world apart = get-insert_other world.changes at new name apart

  put_known : (at : ℕ) (old new : Contents) (world : World) → get world.changes at ≡ Some old
      → is_some (get (put at new world).changes name) ≡ is_some (get world.changes name)
  unfolding put
  put_known at old new world there = elim (cases_eq name at) [
    | inl same ↦ ap is_some (get-insert_same world.changes at new name same)
        ∙ sym (ap is_some (ap (get world.changes) same ∙ there))
    | inr apart ↦ ap is_some (get-insert_other world.changes at new name apart)
  ]

  among_keys : (at : ℕ) (found : Option Contents) (world : World)
      → get (touches_of at found setting world).changes name ≡ get world.changes name
  unfolding touch
  among_keys at None world = refl
  among_keys at (Some object) world = refl

  asked_keys : (at : ℕ) (world : World) → get (with_touches at setting world).changes name ≡ get world.changes name
  unfolding with_touches
  asked_keys at world = among_keys at (shown at setting world) world

  held_adds : (shared : Bool) (at : ℕ) (object : Contents) (world : World) → is_allowed a_write at setting world ≡ true
      → Adds world (cond shared (with_touches at setting world) (put at object (with_touches at setting world)))
  held_adds true at object world allowed begun none some =
      same_adds world (with_touches at setting world) (ap is_some (asked_keys at world)) begun none some
  held_adds false at object world allowed begun none some = elim (cases_eq name at) [
    | inl same ↦ inr (ap (λ asked. is_allowed a_write asked setting world) same ∙ allowed)
    | inr apart ↦ same_adds world (put at object (with_touches at setting world))
        (ap is_some (put_keys at object (with_touches at setting world) apart ∙ asked_keys at world)) begun none some
  ]

  allowed_adds : (access : Access) (at : ℕ) (found : Option Contents) (world : World)
      → is_allowed access at setting world ≡ true
      → Adds world (after_allowed access at found (with_touches at setting world))
  allowed_adds a_read at found world allowed =
      same_adds world (with_touches at setting world) (ap is_some (asked_keys at world))
  allowed_adds a_write at None world allowed =
      same_adds world (with_touches at setting world) (ap is_some (asked_keys at world))
  allowed_adds a_write at (Some object) world allowed = held_adds (is_shared object.body) at object world allowed

  access_adds_by : (allowed : Bool) (access : Access) (at : ℕ) (world : World)
      → is_allowed access at setting world ≡ allowed
      → Adds world (cond allowed (after_allowed access at (shown at setting world) (with_touches at setting world))
      (with_touches at setting world))
  access_adds_by true access at world is = allowed_adds access at (shown at setting world) world is
  access_adds_by false access at world is =
      same_adds world (with_touches at setting world) (ap is_some (asked_keys at world))

  access_adds : (access : Access) (at : ℕ) (world : World) → Adds world (accessed access at setting world)
  unfolding accessed
  access_adds access at world = access_adds_by (is_allowed access at setting world) access at world refl

  replaced_keys : (may : Bool) (at : ℕ) (old new : Contents) (world : World) → get world.changes at ≡ Some old
      → is_some (get (replaced_where may at None new setting world).changes name) ≡ is_some (get world.changes name)
  replaced_keys true at old new world there = put_known at old new world there
  replaced_keys false at old new world there = ap is_some (misses_keys _ _ world)

  edited_keys_at : (at : ℕ) (edit : Contents → Contents) (found : Option Contents) (world : World)
      → get world.changes at ≡ found
      → is_some (get (edited_at at edit found setting world).changes name) ≡ is_some (get world.changes name)
  edited_keys_at at edit None world there = refl
  edited_keys_at at edit (Some old) world there = replaced_keys
      (may_change at old setting world && may_replace at old (edit old) setting world) at old (edit old) world there

  edit_adds : (at : ℕ) (edit : Contents → Contents) (world : World) → Adds world (edited at edit setting world)
  unfolding edited
  edit_adds at edit world = same_adds world (edited_at at edit (get world.changes at) setting world)
      (edited_keys_at at edit (get world.changes at) world refl)

  replaced_apart : (may : Bool) (at : ℕ) (update : Update) (new : Contents) (world : World) → name ≢ at
      → get (replaced_where may at (Some update) new setting world).changes name ≡ get world.changes name
  replaced_apart true at update new world apart =
      put_keys at new (note at update setting world) apart ∙ note_keys at update world
  replaced_apart false at update new world apart = misses_keys _ _ world

  updated_apart_by : (at : ℕ) (update : Update) (old : Contents) (found : Option Body) (world : World) → name ≢ at
      → get (updated_by at update old found setting world).changes name ≡ get world.changes name
  updated_apart_by at update old None world apart = refl
  updated_apart_by at update old (Some body) world apart = replaced_apart
      (may_replace at old (with_body body old) setting world) at update (with_body body old) world apart

  updated_apart : (at : ℕ) (update : Update) (found : Option Contents) (world : World) → name ≢ at
      → get (updated_at at update found setting world).changes name ≡ get world.changes name
  updated_apart at update None world apart = refl
  updated_apart at update (Some old) world apart =
      updated_apart_by at update old (updated update old.body) world apart

  update_adds_by : (allowed : Bool) (at : ℕ) (update : Update) (world : World)
      → is_allowed a_write at setting world ≡ allowed
      → Adds world (updated_where allowed at update setting (with_touches at setting world))
  update_adds_by false at change world is begun none some =
      same_adds world (with_touches at setting world) (ap is_some (asked_keys at world)) begun none some
  update_adds_by true at change world is begun none some =
      let now = with_touches at setting world in
      elim (cases_eq name at) [
        | inl same ↦ inr (ap (λ asked. is_allowed a_write asked setting world) same ∙ is)
        | inr apart ↦ same_adds world (updated_where true at change setting now)
            (ap is_some (updated_apart at change (shown at setting now) now apart ∙ asked_keys at world))
            begun none some
      ]

  update_adds : (at : ℕ) (update : Update) (world : World) → Adds world (after_update at update setting world)
  unfolding after_update
  update_adds at update world = update_adds_by (is_allowed a_write at setting world) at update world refl

  -- what comes by a make was made
  new_made : (objects : List Contents) (world : World) → setting.first ≤ world.next → get world.changes name ≡ None
      → is_some (get (with_new objects setting world).changes name) ≡ true
      → is_made name setting (with_new objects setting world) ≡ true
  new_made [] world begun none some = absurd (false≢true (sym (ap is_some none) ∙ some))
  new_made (object ∷ rest) world begun none some =
      let made = make object setting world in
      elim (cases_eq name (name_of setting world.next)) [
        | inl same ↦ new_made_still rest made
            (ap (λ asked. is_made asked setting made) same ∙ now_made setting object world begun)
        | inr apart ↦ new_made rest made (omega (arith, begun, make_next object setting world))
            (make_elsewhere setting name object world apart ∙ none) some
      ]

  fit_adds : (fits : Bool) (objects : List Contents) (world : World) (budget : Budget)
      → Adds world (made_where fits objects setting world budget).world
  fit_adds true objects world budget begun none some = inl (new_made objects world begun none some)
  fit_adds false objects world budget begun none some = same_adds world
      (made_where false objects setting world budget).world (ap is_some (misses_keys _ _ world)) begun none some

  make_adds : (found : MakeCheck) (objects : List Contents) (world : World) (budget : Budget)
      → Adds world (made_by found objects setting world budget).world
  make_adds too_large objects world budget = same_adds world world refl
  make_adds no_name objects world budget = same_adds world world refl
  make_adds no_space objects world budget = same_adds world world refl
  make_adds no_fault objects world budget = fit_adds (may_make objects setting world) objects world budget

  named_quiet : (enough : Bool) (world : World) (budget : Budget) → (named_where enough world budget).world ≡ world
  named_quiet true world budget = refl
  named_quiet false world budget = refl

  tick_quiet : (units : ℕ) (world : World) (budget : Budget) → (ticked units world budget).world ≡ world
  tick_quiet zero world budget = refl
  tick_quiet (suc units) world budget = refl

  room_quiet : (enough : Bool) (slots : ℕ) (world : World) (budget : Budget)
      → (spent_where enough slots world budget).world ≡ world
  room_quiet true slots world budget = refl
  room_quiet false slots world budget = refl

  show_quiet : (fits enough : Bool) (text : Text) (world : World) (budget : Budget)
      → (shown_where fits enough text world budget).world ≡ world
  show_quiet false enough text world budget = refl
  show_quiet true false text world budget = refl
  show_quiet true true text world budget = refl

  quiet_adds : (world later : World) → later ≡ world → Adds world later
  quiet_adds world later is = same_adds world later (ap (λ (some : World). is_some (get some.changes name)) is)

  atom_adds : {A : Type 0} (one : Atom A) (world : World) (budget : Budget)
      → Adds world (done one setting world budget).world
  atom_adds (Ask access at) world budget = access_adds access at world
  atom_adds Own world budget =
      same_adds world (touch setting.user setting world) (ap is_some (touch_keys setting.user world))
  atom_adds (Kind at) world budget =
      same_adds world (done (Kind at) setting world budget).world (ap is_some (misses_keys _ _ world))
  atom_adds (Made at) world budget = same_adds world world refl
  atom_adds Who world budget = same_adds world world refl
  atom_adds (Put at body) world budget = edit_adds at (with_body body) world
  atom_adds (Move at segment) world budget = edit_adds at (in_segment segment) world
  atom_adds (Note at update) world budget = update_adds at update world
  atom_adds (Names count) world budget = quiet_adds world _ (named_quiet _ world budget)
  atom_adds (Make objects_at) world budget =
      let objects = objects_at (name_of setting world.next) in
      make_adds (make_check objects world budget) objects world budget
  atom_adds Tick world budget = quiet_adds world _ (tick_quiet budget.units world budget)
  atom_adds (Room slots) world budget = quiet_adds world _ (room_quiet _ slots world budget)
  atom_adds (Show text) world budget = quiet_adds world _ (show_quiet _ _ text world budget)

  -- ---- what is seen stays through accesses

  put_same : (at asked : ℕ) (object : Contents) (world : World) → shown at setting world ≡ Some object
      → shown asked setting (put at object world) ≡ shown asked setting world
  put_same at asked object world there = elim (cases_eq asked at) [
    | inl same ↦ ap (λ some. shown some setting (put at object world)) same
        ∙ (put_here setting at object world ∙ (sym there ∙ sym (ap (λ some. shown some setting world) same)))
    | inr apart ↦ put_elsewhere setting asked at object world apart
  ]

  held_same : (shared : Bool) (at asked : ℕ) (object : Contents) (world : World) → shown at setting world ≡ Some object
      → shown asked setting (cond shared world (put at object world)) ≡ shown asked setting world
  held_same true at asked object world there = refl
  held_same false at asked object world there = put_same at asked object world there

  allowed_same : (access : Access) (at asked : ℕ) (found : Option Contents) (world : World)
      → shown at setting world ≡ found
      → shown asked setting (after_allowed access at found world) ≡ shown asked setting world
  allowed_same a_read at asked found world there = refl
  allowed_same a_write at asked None world there = refl
  allowed_same a_write at asked (Some object) world there =
      held_same (is_shared object.body) at asked object world there

  access_same_by : (allowed : Bool) (access : Access) (at asked : ℕ) (world : World)
      → shown asked setting (cond allowed
      (after_allowed access at (shown at setting world) (with_touches at setting world)) (with_touches at setting world))
      ≡ shown asked setting world
  access_same_by true access at asked world =
      allowed_same access at asked (shown at setting world) (with_touches at setting world)
      (shown_asked setting setting at at world) ∙ shown_asked setting setting at asked world
  access_same_by false access at asked world = shown_asked setting setting at asked world

  access_same : (access : Access) (at asked : ℕ) (world : World)
      → shown asked setting (accessed access at setting world) ≡ shown asked setting world
  unfolding accessed
  access_same access at asked world = access_same_by (is_allowed access at setting world) access at asked world

  misses_same : (parts : Parts) (names : List ℕ) (asked : ℕ) (world : World)
      → shown asked setting (touch_missing parts names world) ≡ shown asked setting world
  unfolding touch_missing
  misses_same parts names asked world = refl

  -- so rights stay
  rights_same : (world later : World) → ((asked : ℕ) → shown asked setting later ≡ shown asked setting world)
      → is_allowed a_write name setting later ≡ is_allowed a_write name setting world
  unfolding is_allowed
  rights_same world later same =
      ap (λ objects. allows a_write (right_on objects setting.user name)) (fun_ext same)

  -- ---- programs

  module _ {B : Type 0} where
    abbrev AddsBy : {A : Type 0} → Run B A → Type 0
    AddsBy program = (state : State B) → Adds state.world (perform program setting state).state.world

    abbrev SeesSame : {A : Type 0} → Run B A → Type 0
    SeesSame program = (state : State B) (asked : ℕ)
        → shown asked setting (perform program setting state).state.world ≡ shown asked setting state.world

    onward_adds : {A C : Type 0} (end : Ending C) (before : State B) (world : World) (second : C → Run B A)
        → setting.first ≤ before.world.next → Adds world before.world
        → ((asked : ℕ) → shown asked setting before.world ≡ shown asked setting world)
        → ((answer : C) → AddsBy (second answer))
        → Adds world (onward end before (λ answer after. perform (second answer) setting after)).state.world
    onward_adds (gives answer) before world second begun_then adds same next begun none some =
        by (get before.world.changes name) refl
      where
        after : World
        after = (perform (second answer) setting before).state.world

        by : (found : Option Contents) → get before.world.changes name ≡ found
            → (is_made name setting after ≡ true) ⊎ (is_allowed a_write name setting world ≡ true)
        by None at = elim (next answer before begun_then at some) [
          | inl made ↦ inl made
          | inr allowed ↦ inr (sym (rights_same world before.world same) ∙ allowed)
        ]
        by (Some object) at = elim (adds begun none (ap is_some at)) [
          | inl made ↦ inl (kept setting (λ w b later left. StaysMade w later) made_stays (second answer) before made)
          | inr allowed ↦ inr allowed
        ]
    onward_adds (returns value home) before world second begun_then adds same next begun none some =
        adds begun none some
    onward_adds (fails refusal) before world second begun_then adds same next begun none some =
        adds begun none some

    then_adds : {A C : Type 0} (first : Run B C) (second : C → Run B A) → AddsBy first → SeesSame first
        → ((answer : C) → AddsBy (second answer)) → AddsBy (and_then first second)
    then_adds first second adds same next state begun none some =
        let before = perform first setting state in
        let falls = kept setting Falls (falling.budgets_fall setting) first state in
        onward_adds before.end before.state state.world second (omega (arith, begun, falls.next)) (adds state)
        (same state) next begun none some

    only_world : {A : Type 0} (end : Ending A) (before : State B)
        → (onward {A = Unit {0}} end before (λ answer after. perform (give tt) setting after)).state.world
        ≡ before.world
    only_world (gives answer) before = refl
    only_world (returns value home) before = refl
    only_world (fails refusal) before = refl

    only_adds : {A : Type 0} (program : Run B A) → AddsBy program → AddsBy (only program)
    only_adds program adds state =
        let before = perform program setting state in
        subst (Adds state.world) (sym (only_world before.end before.state)) (adds state)

    atom_adds_by : {A : Type 0} (one : Atom A) → AddsBy (atom one)
    atom_adds_by one state = atom_adds one state.world state.budget

    check_adds : (refusal : Fault) (holds : Bool) → AddsBy (check refusal holds)
    check_adds refusal true state = same_adds state.world state.world refl
    check_adds refusal false state = same_adds state.world state.world refl

    check_same : (refusal : Fault) (holds : Bool) → SeesSame (check refusal holds)
    check_same refusal true state asked = refl
    check_same refusal false state asked = refl

    need_adds : {A : Type 0} (refusal : Fault) (found : Option A) → AddsBy (need refusal found)
    need_adds refusal None state = same_adds state.world state.world refl
    need_adds refusal (Some answer) state = same_adds state.world state.world refl

    need_same : {A : Type 0} (refusal : Fault) (found : Option A) → SeesSame (need refusal found)
    need_same refusal None state asked = refl
    need_same refusal (Some answer) state asked = refl

    room_same : (slots : ℕ) → SeesSame (atom (Room slots))
    room_same slots state asked =
        ap (λ (some : World). shown asked setting some) (room_quiet _ slots state.world state.budget)

    write_same : (at : ℕ) → SeesSame (atom (Ask a_write at))
    write_same at state asked = access_same a_write at asked state.world

    -- space is spent, or it is asked whether something is within the limits, and then the last program runs
    spent_adds : (growth : ℕ) (last : Run B (Unit {0})) → AddsBy last
        → AddsBy (and_then (atom (Room growth)) (λ room. last))
    spent_adds growth last adds = then_adds (atom (Room growth)) (λ room. last) (atom_adds_by (Room growth))
        (room_same growth) (λ _. adds)

    checked_adds : (refusal : Fault) (holds : Bool) (last : Run B (Unit {0})) → AddsBy last
        → AddsBy (and_then (check refusal holds) (λ small. last))
    checked_adds refusal holds last adds = then_adds (check refusal holds) (λ small. last)
        (check_adds refusal holds) (check_same refusal holds) (λ _. adds)

    replace_adds : (growth at : ℕ) (object : Contents) (body : Body) → AddsBy (replace_body growth at object body)
    unfolding replace_body
    replace_adds growth at object body =
        checked_adds fault.ObjectTooLarge (is_within_limits (with_body body object))
        (and_then (atom (Room growth)) (λ room. atom (Put at body)))
        (spent_adds growth (atom (Put at body)) (atom_adds_by (Put at body)))

    change_adds : (refusal : Fault) (growth at : ℕ) (object : Contents) (change : Update)
        → AddsBy (update refusal growth at object change)
    unfolding update
    change_adds refusal growth at object change =
        then_adds (need refusal (updated change object.body))
        (λ body. and_then
        (check fault.ObjectTooLarge (is_within_limits object && is_within_limits (with_body body object)))
        (λ small. and_then (atom (Room growth)) (λ room. atom (Note at change))))
        (need_adds refusal (updated change object.body)) (need_same refusal (updated change object.body))
        (λ body. checked_adds fault.ObjectTooLarge
        (is_within_limits object && is_within_limits (with_body body object))
        (and_then (atom (Room growth)) (λ room. atom (Note at change)))
        (spent_adds growth (atom (Note at change)) (atom_adds_by (Note at change))))

    step_adds : (step : Step) → AddsBy (step_program step)
    step_adds (reading at) = only_adds (atom (Ask a_read at)) (atom_adds_by (Ask a_read at))
    step_adds (writing at) = only_adds (atom (Ask a_write at)) (atom_adds_by (Ask a_write at))
    step_adds looking = only_adds (atom Own) (atom_adds_by Own)
    step_adds (knowing at) = only_adds (and_then (atom (Kind at)) (need fault.ArgumentKind))
        (then_adds (atom (Kind at)) (need fault.ArgumentKind) (atom_adds_by (Kind at))
        (λ state asked. misses_same _ _ asked state.world) (need_adds fault.ArgumentKind))
    step_adds (asking at) = only_adds (atom (Made at)) (atom_adds_by (Made at))
    step_adds calling = only_adds (atom Who) (atom_adds_by Who)
    step_adds (putting growth at body) = then_adds (atom (Ask a_write at))
        (λ object. replace_body growth at object body) (atom_adds_by (Ask a_write at)) (write_same at)
        (λ object. replace_adds growth at object body)
    step_adds (moving at segment) = then_adds (atom (Ask a_write at)) (λ object. atom (Move at segment))
        (atom_adds_by (Ask a_write at)) (write_same at) (λ object. atom_adds_by (Move at segment))
    step_adds (updating growth at change) = then_adds (atom (Ask a_write at))
        (λ object. update fault.KeyAbsent growth at object change) (atom_adds_by (Ask a_write at)) (write_same at)
        (λ object. change_adds fault.KeyAbsent growth at object change)
    step_adds (placing at body) = atom_adds_by (Put at body)
    step_adds (shifting at segment) = atom_adds_by (Move at segment)
    step_adds (noting at change) = atom_adds_by (Note at change)
    step_adds (naming count) = atom_adds_by (Names count)
    step_adds (making objects_at) = only_adds (atom (Make objects_at)) (atom_adds_by (Make objects_at))
    step_adds spending = atom_adds_by Tick
    step_adds (taking slots) = atom_adds_by (Room slots)
    step_adds (showing text) = atom_adds_by (Show text)

    -- ---- lists of commands

    abbrev pub Had : List Step → State B → Type 0
    Had steps state = (before : List Step) × (step : Step) × (rest : List Step) × (steps ≡ before ++ step ∷ rest)
        × (is_allowed a_write name setting (perform (steps_program before) setting state).state.world ≡ true)

    abbrev run_on : Ending (Unit {0}) → State B → List Step → World
    run_on end before rest =
        (onward end before (λ answer after. perform (steps_program rest) setting after)).state.world

    at_first : (step : Step) (rest : List Step) (state : State B) (later : World)
        → (is_made name setting (perform (step_program step) setting state).state.world ≡ true
        → is_made name setting later ≡ true)
        → (is_made name setting (perform (step_program step) setting state).state.world ≡ true)
        ⊎ (is_allowed a_write name setting state.world ≡ true)
        → (is_made name setting later ≡ true) ⊎ Had (step ∷ rest) state
    at_first step rest state later stays (inl made) = inl (stays made)
    at_first step rest state later stays (inr allowed) = inr ([], step, rest, refl, allowed)

    later_had : (step : Step) (rest : List Step) (state : State B) (answer : Unit {0}) (later : World)
        → (perform (step_program step) setting state).end ≡ gives answer
        → (is_made name setting later ≡ true) ⊎ Had rest (perform (step_program step) setting state).state
        → (is_made name setting later ≡ true) ⊎ Had (step ∷ rest) state
    later_had step rest state answer later is (inl made) = inl made
    later_had step rest state answer later is (inr had) =
        let first = (perform (step_program step) setting state).state in
        inr (
          step ∷ had.0,
          had.1,
          had.2,
          ap (λ more. step ∷ more) had.3,
          ap (λ end. is_allowed a_write name setting (run_on end first had.0)) is ∙ had.4,
        )

    steps_onward : (step : Step) (rest : List Step) (state : State B) (end : Ending (Unit {0}))
        → (perform (step_program step) setting state).end ≡ end
        → setting.first ≤ state.world.next → get state.world.changes name ≡ None
        → is_some (get (run_on end (perform (step_program step) setting state).state rest).changes name) ≡ true
        → ((first : State B) → setting.first ≤ first.world.next → get first.world.changes name ≡ None
        → is_some (get (perform (steps_program rest) setting first).state.world.changes name) ≡ true
        → (is_made name setting (perform (steps_program rest) setting first).state.world ≡ true) ⊎ Had rest first)
        → (is_made name setting (run_on end (perform (step_program step) setting state).state rest) ≡ true)
        ⊎ Had (step ∷ rest) state
    steps_onward step rest state (gives answer) is begun none some more =
        by (get first.world.changes name) refl
      where
        first : State B
        first = (perform (step_program step) setting state).state

        falls : Falls state.world state.budget first.world first.budget
        falls = kept setting Falls (falling.budgets_fall setting) (step_program step) state

        later : World
        later = (perform (steps_program rest) setting first).state.world

        by : (found : Option Contents) → get first.world.changes name ≡ found
            → (is_made name setting later ≡ true) ⊎ Had (step ∷ rest) state
        by None at = later_had step rest state answer later is
            (more first (omega (arith, begun, falls.next)) at some)
        by (Some object) at = at_first step rest state later
            (kept setting (λ w b after left. StaysMade w after) made_stays (steps_program rest) first)
            (step_adds step state begun none (ap is_some at))
    steps_onward step rest state (returns value home) is begun none some more =
        at_first step rest state (perform (step_program step) setting state).state.world (λ made. made)
        (step_adds step state begun none some)
    steps_onward step rest state (fails refusal) is begun none some more =
        at_first step rest state (perform (step_program step) setting state).state.world (λ made. made)
        (step_adds step state begun none some)

    pub steps_add : (steps : List Step) (state : State B) → setting.first ≤ state.world.next
        → get state.world.changes name ≡ None
        → is_some (get (perform (steps_program steps) setting state).state.world.changes name) ≡ true
        → (is_made name setting (perform (steps_program steps) setting state).state.world ≡ true) ⊎ Had steps state
    steps_add [] state begun none some = absurd (false≢true (sym (ap is_some none) ∙ some))
    steps_add (step ∷ rest) state begun none some =
        steps_onward step rest state (perform (step_program step) setting state).end refl begun none some
        (steps_add rest)

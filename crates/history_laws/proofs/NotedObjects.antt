-- What a run notes an update of is noted by a write that is allowed.
use Rattle.std.proofs.Common.{◌≡◌, ◌≢◌, ℕ, ◌≤◌, Bool, true, false, ◌&&◌, ◌||◌, cond, nat_eq, ◌⊎◌, inl, inr, List, [], ◌∷◌, ◌++◌, map, Option, Some, None, refl, sym, ap, ◌∙◌}
use Rattle.std.specs.FinMap.{get}
use Rattle.std.proofs.lemmas.Bool.{false≢true, cases_eq, cases_Bool, ne_eqb}
use Rattle.std.proofs.lemmas.List.{map-append}
use Rattle.std.proofs.lemmas.List.Folds.{list_any-append}
use Rattle.gem_meaning.specs.gem_object.Kinds.{is_shared}
use Rattle.gem_meaning.specs.gem_object.declared.body.Body.{Body}
use Rattle.gem_meaning.specs.gem_update.Update.{updated}
use Rattle.gem_meaning.specs.gem_update.declared.update.Update.{Update}
use Rattle.gem_meaning.specs.gem_image.Image.{Contents}
use Rattle.gem_meaning.specs.gem_world.World.{Setting, World, name_of, is_made, is_among, shown, touch}
use Rattle.gem_meaning.specs.gem_world.Changes.{with_body, in_segment, put, make, note}
use Rattle.gem_meaning.specs.gem_world.Access.{Access, a_read, a_write, is_allowed, touches_of, with_touches, after_allowed, accessed}
use Rattle.gem_meaning.specs.object_programs.Budget.{Budget}
use Rattle.gem_meaning.specs.object_programs.Guard.{Parts, may_change, may_replace, may_make}
use Rattle.gem_meaning.specs.object_programs.Atom.{Atom, Ask, Own, Kind, Made, Who, Put, Move, Note, Names, Make, Tick, Room, Show, done, MakeCheck, too_large, no_name, no_space, no_fault, make_check, with_new, made_where, made_by, touch_missing, replaced_where, edited_at, edited, updated_by, updated_at, updated_where, after_update}
use Rattle.history_laws.specs.Accesses.{asked_by, IsNoted}
use Rattle.history_laws.proofs.Gains.{IsWrite, Gains}
use Rattle.history_laws.proofs.ChangedObjects.{named_quiet, tick_quiet, room_quiet, show_quiet}

abbrev noted_names : World → List ℕ
noted_names world = map (λ entry. entry.0) world.updates

module _ (name : ℕ) (setting : Setting) where
  abbrev NotesSame : World → World → Type 0
  NotesSame world later = later.updates ≡ world.updates

  notes_by : (world later : World) → NotesSame world later → IsNoted name later → IsNoted name world
  notes_by world later same noted =
      sym (ap (λ us. is_among name (map (λ entry. entry.0) us)) same) ∙ noted

  touch_notes : (at : ℕ) (world : World) → NotesSame world (touch at setting world)
  unfolding touch
  touch_notes at world = refl

  touches_notes : (at : ℕ) (found : Option Contents) (world : World)
      → NotesSame world (touches_of at found setting world)
  unfolding touch
  touches_notes at None world = refl
  touches_notes at (Some object) world = refl

  asked_notes : (at : ℕ) (world : World) → NotesSame world (with_touches at setting world)
  unfolding with_touches
  asked_notes at world = touches_notes at (shown at setting world) world

  misses_notes : (parts : Parts) (names : List ℕ) (world : World)
      → NotesSame world (touch_missing parts names world)
  unfolding touch_missing
  misses_notes parts names world = refl

  put_notes : (at : ℕ) (new : Contents) (world : World) → NotesSame world (put at new world)
  unfolding put
  put_notes at new world = refl

  held_notes : (shared : Bool) (at : ℕ) (object : Contents) (world : World)
      → NotesSame world (cond shared world (put at object world))
  held_notes true at object world = refl
  held_notes false at object world = put_notes at object world

  allowed_notes : (access : Access) (at : ℕ) (found : Option Contents) (world : World)
      → NotesSame world (after_allowed access at found world)
  allowed_notes a_read at found world = refl
  allowed_notes a_write at None world = refl
  allowed_notes a_write at (Some object) world = held_notes (is_shared object.body) at object world

  access_notes_by : (allowed : Bool) (access : Access) (at : ℕ) (world : World)
      → NotesSame world (cond allowed
      (after_allowed access at (shown at setting world) (with_touches at setting world))
      (with_touches at setting world))
  access_notes_by true access at world =
      allowed_notes access at (shown at setting world) (with_touches at setting world)
      ∙ asked_notes at world
  access_notes_by false access at world = asked_notes at world

  access_notes : (access : Access) (at : ℕ) (world : World)
      → NotesSame world (accessed access at setting world)
  unfolding accessed
  access_notes access at world = access_notes_by (is_allowed access at setting world) access at world

  replaced_notes : (may : Bool) (at : ℕ) (new : Contents) (world : World)
      → NotesSame world (replaced_where may at None new setting world)
  replaced_notes true at new world = put_notes at new world
  replaced_notes false at new world = misses_notes _ _ world

  edited_notes_at : (at : ℕ) (edit : Contents → Contents) (found : Option Contents) (world : World)
      → NotesSame world (edited_at at edit found setting world)
  edited_notes_at at edit None world = refl
  edited_notes_at at edit (Some old) world = replaced_notes
      (may_change at old setting world && may_replace at old (edit old) setting world) at (edit old) world

  edited_notes : (at : ℕ) (edit : Contents → Contents) (world : World)
      → NotesSame world (edited at edit setting world)
  unfolding edited
  edited_notes at edit world = edited_notes_at at edit (get world.changes at) world

  make_notes : (object : Contents) (world : World) → NotesSame world (make object setting world)
  unfolding make
  make_notes object world = refl

  new_notes : (objects : List Contents) (world : World) → NotesSame world (with_new objects setting world)
  new_notes [] world = refl
  new_notes (object ∷ rest) world =
      new_notes rest (make object setting world) ∙ make_notes object world

  made_notes : (fits : Bool) (objects : List Contents) (world : World) (budget : Budget)
      → NotesSame world (made_where fits objects setting world budget).world
  made_notes true objects world budget = new_notes objects world
  made_notes false objects world budget = misses_notes _ _ world

  make_notes_by : (found : MakeCheck) (objects : List Contents) (world : World) (budget : Budget)
      → NotesSame world (made_by found objects setting world budget).world
  make_notes_by too_large objects world budget = refl
  make_notes_by no_name objects world budget = refl
  make_notes_by no_space objects world budget = refl
  make_notes_by no_fault objects world budget =
      made_notes (may_make objects setting world) objects world budget

  -- a note of another name
  noted_apart : (made : Bool) (at : ℕ) (update : Update) (us : List (ℕ × Update)) → name ≢ at
      → is_among name (map (λ entry. entry.0) (cond made us (us ++ (at, update) ∷ [])))
      ≡ is_among name (map (λ entry. entry.0) us)
  noted_apart true at update us apart = refl
  noted_apart false at update us apart =
      ap (is_among name) (map-append (λ (entry : ℕ × Update). entry.0) us ((at, update) ∷ []))
      ∙ (list_any-append (nat_eq name) (map (λ entry. entry.0) us) (at ∷ [])
      ∙ not_last (is_among name (map (λ entry. entry.0) us)) (nat_eq name at) (ne_eqb name at apart))
    where
      not_last : (first last : Bool) → last ≡ false → (first || (last || false)) ≡ first
      not_last true last is = refl
      not_last false last is = ap (λ b. b || false) is

  note_apart : (at : ℕ) (update : Update) (world : World) → name ≢ at
      → is_among name (noted_names (note at update setting world)) ≡ is_among name (noted_names world)
  unfolding note
  note_apart at update world apart =
      noted_apart (is_made at setting world) at update world.updates apart

  replaced_apart : (may : Bool) (at : ℕ) (update : Update) (new : Contents) (world : World) → name ≢ at
      → is_among name (noted_names (replaced_where may at (Some update) new setting world))
      ≡ is_among name (noted_names world)
  replaced_apart true at update new world apart =
      ap (λ us. is_among name (map (λ entry. entry.0) us)) (put_notes at new (note at update setting world))
      ∙ note_apart at update world apart
  replaced_apart false at update new world apart =
      ap (λ us. is_among name (map (λ entry. entry.0) us)) (misses_notes _ _ world)

  updated_apart_by : (at : ℕ) (update : Update) (old : Contents) (found : Option Body) (world : World)
      → name ≢ at
      → is_among name (noted_names (updated_by at update old found setting world))
      ≡ is_among name (noted_names world)
  updated_apart_by at update old None world apart = refl
  updated_apart_by at update old (Some body) world apart = replaced_apart
      (may_replace at old (with_body body old) setting world) at update (with_body body old) world apart

  updated_apart : (at : ℕ) (update : Update) (found : Option Contents) (world : World) → name ≢ at
      → is_among name (noted_names (updated_at at update found setting world))
      ≡ is_among name (noted_names world)
  updated_apart at update None world apart = refl
  updated_apart at update (Some old) world apart =
      updated_apart_by at update old (updated update old.body) world apart

  update_gains : (allowed : Bool) (at : ℕ) (update : Update) (world : World)
      → is_allowed a_write at setting world ≡ allowed
      → IsNoted name (updated_where allowed at update setting (with_touches at setting world))
      → IsNoted name world ⊎ IsWrite name setting (Some (a_write, at)) world
  update_gains false at update world is noted =
      inl (notes_by world (with_touches at setting world) (asked_notes at world) noted)
  update_gains true at update world is noted =
      let now = with_touches at setting world in
      elim (cases_eq name at) [
        | inl same ↦ inr (
          ap (λ asked. Some (a_write, asked)) (sym same),
          ap (λ asked. is_allowed a_write asked setting world) same ∙ is,
        )
        | inr apart ↦ inl (notes_by world now (asked_notes at world)
            (sym (updated_apart at update (shown at setting now) now apart) ∙ noted))
      ]

  note_gains : (at : ℕ) (update : Update) (world : World)
      → IsNoted name (after_update at update setting world)
      → IsNoted name world ⊎ IsWrite name setting (Some (a_write, at)) world
  unfolding after_update
  note_gains at update world noted =
      update_gains (is_allowed a_write at setting world) at update world refl noted

  same_world : (world later : World) → later ≡ world → NotesSame world later
  same_world world later is = ap (λ (w : World). w.updates) is

  -- an atom that notes nothing
  unnoted : {A : Type 0} (one : Atom A) (world : World) (budget : Budget)
      → NotesSame world (done one setting world budget).world
      → IsNoted name (done one setting world budget).world
      → IsNoted name world ⊎ IsWrite name setting (asked_by one) world
  unnoted one world budget same noted =
      inl (notes_by world (done one setting world budget).world same noted)

  noted_step : {A : Type 0} (one : Atom A) (world : World) (budget : Budget)
      → setting.first ≤ world.next → IsNoted name (done one setting world budget).world
      → IsNoted name world ⊎ IsWrite name setting (asked_by one) world
  noted_step (Ask access at) world budget begun noted =
      unnoted (Ask access at) world budget (access_notes access at world) noted
  noted_step Own world budget begun noted =
      unnoted Own world budget (touch_notes setting.user world) noted
  noted_step (Kind at) world budget begun noted =
      unnoted (Kind at) world budget (misses_notes _ _ world) noted
  noted_step (Made at) world budget begun noted = inl noted
  noted_step Who world budget begun noted = inl noted
  noted_step (Put at body) world budget begun noted =
      unnoted (Put at body) world budget (edited_notes at (with_body body) world) noted
  noted_step (Move at segment) world budget begun noted =
      unnoted (Move at segment) world budget (edited_notes at (in_segment segment) world) noted
  noted_step (Note at update) world budget begun noted = note_gains at update world noted
  noted_step (Names count) world budget begun noted = unnoted (Names count) world budget
      (same_world world _ (named_quiet name setting _ world budget)) noted
  noted_step (Make objects_at) world budget begun noted =
      let objects = objects_at (name_of setting world.next) in
      unnoted (Make objects_at) world budget
      (make_notes_by (make_check objects world budget) objects world budget) noted
  noted_step Tick world budget begun noted = unnoted Tick world budget
      (same_world world _ (tick_quiet name setting budget.units world budget)) noted
  noted_step (Room slots) world budget begun noted = unnoted (Room slots) world budget
      (same_world world _ (room_quiet name setting _ slots world budget)) noted
  noted_step (Show text) world budget begun noted = unnoted (Show text) world budget
      (same_world world _ (show_quiet name setting _ _ text world budget)) noted

  pub noted_gains : Gains name setting (IsNoted name)
  noted_gains = record {
    step = λ {A} one world budget begun noted. noted_step one world budget begun noted;
    told = λ world. elim (cases_Bool (is_among name (noted_names world))) [
      | inl noted ↦ inl noted
      | inr none ↦ inr (λ noted. false≢true (sym none ∙ noted))
    ];
  }

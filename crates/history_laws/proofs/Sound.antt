-- Every image of a history is sound, what it has stays, and the further names of a session are free.
use Rattle.std.proofs.Common.{◌≡◌, ℕ, ◌+◌, ◌^◌, ◌≤◌, ◌<◌, ◌⊎◌, inl, inr, ⊎_elim, true, Option, None, is_some, option_map, refl, sym, ap, subst, ◌∙◌, arith}
use Rattle.std.specs.FinMap.{get}
use Rattle.std.proofs.lemmas.Bool.{false≢true}
use Rattle.gem_meaning.specs.gem_value.Oid.{oid_number}
use Rattle.gem_meaning.specs.gem_object.declared.object.Object.{Object}
use Rattle.gem_meaning.specs.gem_image.Image.{Image, IsImage, contents_of, objects_in, with_objects}
use Rattle.gem_meaning.specs.gem_record.declared.record.Entry.{Entry}
use Rattle.gem_meaning.specs.gem_record.declared.mode.Mode.{Mode}
use Rattle.gem_meaning.specs.gem_record.declared.mode.Mode.TheVariants.{Full, NoRw}
use Rattle.gem_meaning.specs.gem_world.World.{Setting, untouched}
use Rattle.gem_meaning.specs.gem_sound.Sound.{IsSoundImage, IsSoundFor}
use Rattle.gem_meaning.specs.object_programs.Laws.{begun_at, Stays, AreSound, IsInReach}
use Rattle.gem_meaning.proofs.object_programs_lemmas.Objects.{StaysSound, soundness_stays}
use Rattle.gem_meaning.proofs.object_programs_lemmas.Admits.{admits_image}
use Rattle.gem_meaning.proofs.gem_language_lemmas.Lists.{listed, next_grows}
use Rattle.gem_meaning.proofs.commit_check_lemmas.Members.{IsOneOf}
use Rattle.gem_meaning.specs.Commands.{object_commands}
use Rattle.gem_meaning.specs.Opened.{Opened, session_serial, entry_commands}
use Rattle.gem_meaning.specs.Effect.{MergesFit}
use Rattle.gem_meaning.specs.Events.{Standing, image_at, next_counter, NamesAreFree, ordinary_in, ordinary_at, run_at_place, run_on_view, record_at_place, effect_of}
use Rattle.gem_meaning.specs.Serial.{IsTransaction, MayBeginAt, CanServe}
use Rattle.commit_soundness.specs.Placing.{Placing, run_setting, record_placed, CanRun}
use Rattle.commit_soundness.proofs.Runs.{left_sound, reached}
use Rattle.history_laws.proofs.Views.{IsGrown, image_now}
use Rattle.history_laws.proofs.Effects.{IsChangedBy}
use Rattle.history_laws.proofs.Unchanged.{IsPlacedAt, after_placed}
use Rattle.history_laws.proofs.Stays.{stays_itself, absent_before, user_stays}
use Rattle.history_laws.proofs.Drawn.{drawn_counter, made_in_record, changed_there}
use Rattle.history_laws.proofs.Commits.{CommitsKeep}

-- an image that was
pub record IsSoundAt (s : Standing) (number : ℕ) : Type 0 where
  pub image : IsImage (image_at s number)
  pub sound : IsSoundImage (image_at s number)
  pub stays : Stays (image_at s number) s.image

-- What holds of what stands.
pub record AllSound (o : Opened) (s : Standing) : Type 0 where
  pub images : (number : ℕ) → o.number ≤ number → number ≤ s.number → IsSoundAt s number
  pub free : (session : ℕ) → 1 ≤ session → NamesAreFree o s session
  pub some_name : (session : ℕ) → 1 ≤ next_counter s session

-- what holds of the place and of the view holds of where ordinary objects are read
ordinary_by : (P : Image → Type 0) (mode : Mode) (place view : Image) → P place → P view
    → P (ordinary_in mode place view)
ordinary_by P Full place view of_place of_view = of_place
ordinary_by P NoRw place view of_place of_view = of_view

-- ---- where a transaction begins

none_shown : (found : Option Object) → found ≡ None → option_map contents_of found ≡ None
none_shown found none = ap (option_map contents_of) none

module _ (o : Opened) (s : Standing) (e : Entry) (serves : CanServe o) (grown : IsGrown o s)
    (all : AllSound o s) (of_script : IsTransaction o.script e) (begins : MayBeginAt o s e) where
  abbrev view : Image
  view = image_at s e.view

  abbrev serial : ℕ
  serial = session_serial o e.session

  here : IsSoundAt s s.number
  here = all.images s.number (omega (arith, grown)) (omega arith)

  pub place_is_image : IsImage s.image
  place_is_image = subst IsImage (image_now s s.number refl) here.image

  pub place_is_sound : IsSoundImage s.image
  place_is_sound = subst IsSoundImage (image_now s s.number refl) here.sound

  pub at_view : IsSoundAt s e.view
  at_view = all.images e.view begins.from begins.to

  serial_bound : serial < 2 ^ 24
  serial_bound =
      let one = of_script.session.0 in
      let last = of_script.session.1 in
      let room = serves.serials in
      omega (arith, one, last, room)

  some_name : 0 < e.first_name
  some_name =
      let least = all.some_name e.session in
      let names = begins.names in
      omega (arith, least, names)

  free_here : (counter : ℕ) → e.first_name ≤ counter → counter < 2 ^ 24
      → objects_in s.image (oid_number serial counter) ≡ None
  free_here counter from below =
      let names = begins.names in
      none_shown (get s.image (oid_number serial counter))
      (all.free e.session of_script.session.0 counter (omega (arith, names, from)) below)

  pub sound_for_place : IsSoundFor (objects_in s.image) e.user serial e.first_name
  sound_for_place = record {
    sound = place_is_sound;
    user_there = user_stays view s.image e.user at_view.stays begins.user;
    serial_bound = serial_bound;
    some_name = some_name;
    next_bound = begins.names_end;
    free = free_here;
  }

  pub free_at_view : (counter : ℕ) → e.first_name ≤ counter → counter < 2 ^ 24
      → objects_in view (oid_number serial counter) ≡ None
  free_at_view counter from below = absent_before view s.image (oid_number serial counter)
      at_view.stays (free_here counter from below)

  pub sound_for_view : IsSoundFor (objects_in view) e.user serial e.first_name
  sound_for_view = record {
    sound = at_view.sound;
    user_there = begins.user;
    serial_bound = serial_bound;
    some_name = some_name;
    next_bound = begins.names_end;
    free = free_at_view;
  }

  -- what the transaction sees where all stands as at its view is sound
  pub sound_on_view : AreSound (begun_at view view e.user serial e.first_name) (run_on_view o s e).world
  unfolding run_on_view
  sound_on_view = listed (begun_at view view e.user serial e.first_name)
      (StaysSound (begun_at view view e.user serial e.first_name))
      (soundness_stays (begun_at view view e.user serial e.first_name))
      (object_commands (entry_commands o.script e)) (untouched e.first_name)
      (admits_image view e.user serial e.first_name at_view.image sound_for_view)

  -- ---- the run, and what it left over the place

  abbrev setting : Setting
  setting = begun_at s.image view e.user serial e.first_name

  abbrev placing : Placing
  placing = record {
    place = s.image;
    ordinary = ordinary_at s e;
    view = view;
    user = e.user;
    serial = serial;
    first = e.first_name;
    commands = object_commands (entry_commands o.script e);
    entry = e;
    number = s.number + 1;
  }

  can_run : CanRun placing
  can_run = record {
    place = place_is_image;
    ordinary = ordinary_by IsImage e.mode s.image view place_is_image at_view.image;
    view = at_view.image;
    below = ordinary_by (λ image. Stays view image) e.mode s.image view at_view.stays (stays_itself view);
    above = ordinary_by (λ image. Stays image s.image) e.mode s.image view (stays_itself s.image) at_view.stays;
    sound = sound_for_place;
    sound_ordinary = ordinary_by (λ image. IsSoundFor (objects_in image) e.user serial e.first_name) e.mode
        s.image view sound_for_place sound_for_view;
    sound_view = sound_for_view;
  }

  -- what the transaction left is sound, as it is seen at its place
  pub sound_after : AreSound setting (run_at_place o s e).world
  unfolding run_at_place
  sound_after = left_sound placing can_run

  pub reach_after : IsInReach setting (run_at_place o s e).world
  unfolding run_at_place
  reach_after = reached placing can_run

  pub names_grow : e.first_name ≤ (run_at_place o s e).world.next
  unfolding run_at_place
  names_grow = next_grows (object_commands (entry_commands o.script e)) (run_setting placing)
      (untouched e.first_name)

  -- ---- what the commit changes

  fit_there : MergesFit s.image (record_at_place o s e) → MergesFit s.image (record_placed placing)
  unfolding record_at_place run_at_place
  fit_there merges = merges

  pub next_is_image : CommitsKeep → MergesFit s.image (record_at_place o s e)
      → IsImage (with_objects s.image (effect_of o s e))
  unfolding effect_of record_at_place run_at_place
  next_is_image law merges = law.image placing can_run (fit_there merges)

  pub next_is_sound : CommitsKeep → MergesFit s.image (record_at_place o s e)
      → IsSoundImage (with_objects s.image (effect_of o s e))
  unfolding effect_of record_at_place run_at_place
  next_is_sound law merges = law.sound placing can_run (fit_there merges)

  pub next_keeps : CommitsKeep → Stays s.image (with_objects s.image (effect_of o s e))
  unfolding effect_of record_at_place run_at_place
  next_keeps law = law.stays placing can_run

  changed_at : (name : ℕ) → IsChangedBy s.image (record_at_place o s e) name
      → (is_some (get s.image name) ≡ true)
      ⊎ ((counter : ℕ) × (name ≡ oid_number serial counter) × (e.first_name ≤ counter)
      × (counter < (run_at_place o s e).world.next))
  unfolding record_at_place
  changed_at name changed = ⊎_elim inl
      (λ drawn. inr (drawn_counter name setting (run_at_place o s e).world drawn))
      (changed_there setting (run_at_place o s e).world reach_after e name changed)

  -- what the transaction makes has a name that the image lacks
  pub made_is_new : (name : ℕ) (object : Object)
      → IsOneOf (name, object) (record_at_place o s e).made → get s.image name ≡ None
  unfolding record_at_place
  made_is_new name object made =
      let drawn = drawn_counter name setting (run_at_place o s e).world
      (made_in_record setting (run_at_place o s e).world reach_after e name object made) in
      let names = begins.names in
      let from = drawn.2 in
      let below = drawn.3 in
      let bound = sound_after.next_bound in
      subst (λ at. get s.image at ≡ None) (sym drawn.1)
      (all.free e.session of_script.session.0 drawn.0 (omega (arith, names, from))
      (omega (arith, below, bound)))

  -- a name that the image lacks and the commit doesn't draw it still lacks
  pub still_free : (name : ℕ) → get s.image name ≡ None
      → ((counter : ℕ) → name ≡ oid_number serial counter → e.first_name ≤ counter
      → counter < (run_at_place o s e).world.next → counter < 2 ^ 24 → ⊥)
      → get (with_objects s.image (effect_of o s e)) name ≡ None
  still_free name none apart = by (after_placed o s e name)
    where
      by : IsPlacedAt o s e name → get (with_objects s.image (effect_of o s e)) name ≡ None
      by (inl same) = same ∙ none
      by (inr found) = ⊎_elim
          (λ there. absurd (false≢true (sym (ap is_some none) ∙ there)))
          (λ drawn. let bound = sound_after.next_bound in
          let below = drawn.3 in
          absurd (apart drawn.0 drawn.1 drawn.2 below (omega (arith, bound, below))))
          (changed_at name found.3)

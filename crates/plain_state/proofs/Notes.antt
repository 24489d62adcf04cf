-- What an update of a reduced-conflict object leaves of a state.
use Rattle.std.proofs.Common.{◌≡◌, ◌∙◌, refl, sym, ap, ap₂, ℕ, Bool, true, false, cond, Option, Some, None, ◌++◌, ◌∷◌, [], is_some, Ok, Err}
use Rattle.std.proofs.lemmas.Bool.{false≢true, true≢false}
use Rattle.std.specs.Option.{option_or, unwrap_or}
use Rattle.std.specs.Ordering.{nat_cmp}
use Rattle.std.specs.FinMap.{FinMap, get, insert}
use Rattle.gem_object.specs.declared.body.Body.{Body}
use Rattle.gem_update.specs.Update.{fits_update, updated}
use Rattle.gem_update.specs.declared.update.Update.{Update}
use Rattle.gem_update.specs.declared.update.Update.TheVariants as change
use Rattle.gem_object.specs.rc_counter_bag.declared.update.BagUpdate.TheVariants as bag
use Rattle.gem_object.specs.rc_dict.declared.update.DictUpdate.TheVariants as dict
use Rattle.gem_object.specs.rc_queue.declared.update.QueueUpdate.TheVariants as queue
use Rattle.gem_image.specs.Image.{Contents}
use Rattle.gem_world.specs.World.{World, before_changes, is_made}
use Rattle.gem_world.specs.Changes.{with_body, put, note}
use Rattle.object_programs.specs.Budget.{Budget}
use Rattle.object_programs.specs.Fixed.{fixed_by}
use Rattle.object_programs.specs.Guard.{holds_of}
use Rattle.object_programs.specs.Atom.{Note, replaced_where, updated_by, updated_at, updated_where, after_update}
use Rattle.gem_world.specs.World.{Setting}
use Rattle.gem_world.specs.Access.{a_write, is_allowed, with_touches}
use Rattle.object_programs.specs.Laws.{answered}
use Rattle.object_programs.proofs.Exact.{update_forbidden}
use Rattle.running_objects.specs.Acted.{Acted}
use Rattle.running_objects.specs.declared.stop.Stop.TheVariants as stop
use Rattle.running_objects.proofs.Running.{acted_says, acted_nothing}
use Rattle.running_objects.specs.Seen.{Seen, object_at, IsSoundState}
use Rattle.running_objects.proofs.Puts.{insert_same}
use Rattle.plain_state.specs.Overlay.{changed_at, changed}
use Rattle.plain_state.specs.Parts.{in_world, missed_value, asked, SameObjects}
use Rattle.plain_state.specs.Updates.{may_update, missed_update, takes, with_update, applied_by, applied_at, applied, with_note, applied_noted, after_allowed_update}
use Rattle.plain_state.proofs.Touched.{keeps_touched, asked_same, same_by, same_along}
use Rattle.plain_state.proofs.Slots.{missed_setting, missed_budget}
use Rattle.plain_state.proofs.Shared.{SpellingStays, update_fits, update_lacks, taken_by}

-- ---- the object with the update

-- the state with these objects changed
abbrev with_changes : FinMap nat_cmp Contents → Seen → Seen
with_changes changes seen = record seen { world = record seen.world { changes = changes } }

module _ (x : Seen) (name : ℕ) (update : Update) where
  written_as : (old : Contents) (found : Option Body) → get x.world.changes name ≡ Some old → updated update old.body ≡ found
      → with_changes (insert x.world.changes name (with_update update old)) x ≡ applied_by name old found x
  unfolding put
  written_as old None written is = ap (λ (body : Body). with_changes (insert x.world.changes name (with_body body old)) x)
      (unwrapped (updated update old.body) is)
      ∙ ap (λ (changes : FinMap nat_cmp Contents). with_changes changes x) (insert_same x.world.changes name old written)
    where
      unwrapped : (found : Option Body) → found ≡ None → unwrap_or found old.body ≡ old.body
      unwrapped found none = ap (λ (found : Option Body). unwrap_or found old.body) none
  written_as old (Some body) written is = ap (λ (found : Option Body). with_changes (insert x.world.changes name (with_body (unwrap_or found old.body) old)) x) is

  seen_written : (old : Contents) → get x.world.changes name ≡ Some old → object_at name x ≡ Some old
  seen_written old written = ap (λ (found : Option Contents). option_or found (before_changes name x.setting)) written

  seen_before : (object : Contents) (found : Option Contents) → get x.world.changes name ≡ found → is_some found ≡ false
      → before_changes name x.setting ≡ Some object → object_at name x ≡ Some object
  seen_before object (Some other) there none before = absurd (true≢false none)
  seen_before object None there none before =
      ap (λ (found : Option Contents). option_or found (before_changes name x.setting)) there ∙ before

  applied_there : (old : Contents) → object_at name x ≡ Some old → applied name update x ≡ applied_by name old (updated update old.body) x
  applied_there old there = ap (λ found. applied_at name update found x) there

  in_place_by : (found : Option Contents) → get x.world.changes name ≡ found → is_some found ≡ true
      → with_changes (changed_at name (with_update update) found x.world.changes) x ≡ applied name update x
  in_place_by None there some = absurd (false≢true some)
  in_place_by (Some old) there some = written_as old (updated update old.body) there refl
      ∙ sym (applied_there old (seen_written old there))

  -- in place, where it stands among the changes
  pub applied_written : (number : ℕ) (changes : FinMap nat_cmp Contents) → changes ≡ changed number (with_update update) x.world.changes
      → number ≡ name → is_some (get x.world.changes name) ≡ true → with_changes changes x ≡ applied name update x
  applied_written number changes is at some =
      ap (λ (changes : FinMap nat_cmp Contents). with_changes changes x)
      (is ∙ ap (λ (n : ℕ). changed n (with_update update) x.world.changes) at)
      ∙ in_place_by (get x.world.changes name) refl some

  not_taken_by : (old : Contents) (found : Option Body) → updated update old.body ≡ found → is_some found ≡ false
      → x ≡ applied_by name old (updated update old.body) x
  not_taken_by old (Some body) is none = absurd (true≢false none)
  not_taken_by old None is none = sym (ap (λ found. applied_by name old found x) is)

  -- and where it doesn't
  pub applied_not : (object copy : Contents) → copy ≡ object → is_some (get x.world.changes name) ≡ false
      → before_changes name x.setting ≡ Some object → takes update copy ≡ false → x ≡ applied name update x
  applied_not object copy same none before refused =
      not_taken_by object (updated update object.body) refl (sym (ap (takes update) same) ∙ refused)
      ∙ sym (applied_there object (seen_before object (get x.world.changes name) refl none before))

  pub taken_before : (object copy : Contents) → copy ≡ object → is_some (get x.world.changes name) ≡ false
      → before_changes name x.setting ≡ Some object → takes update copy ≡ true → true ≡ holds_of (takes update) (object_at name x)
  taken_before object copy same none before taken =
      sym (ap (holds_of (takes update)) (seen_before object (get x.world.changes name) refl none before)
      ∙ sym (ap (takes update) same) ∙ taken)

  new_by : (old : Contents) (found : Option Body) → updated update old.body ≡ found → is_some found ≡ true
      → with_changes (insert x.world.changes name (with_update update old)) x ≡ applied_by name old found x
  unfolding put
  new_by old None is some = absurd (false≢true some)
  new_by old (Some body) is some = ap (λ (found : Option Body). with_changes (insert x.world.changes name (with_body (unwrap_or found old.body) old)) x) is

  pub applied_new : (number : ℕ) (object copy after : Contents) (changes : FinMap nat_cmp Contents)
      → changes ≡ insert x.world.changes number after → number ≡ name → after ≡ with_update update copy → copy ≡ object
      → is_some (get x.world.changes name) ≡ false → before_changes name x.setting ≡ Some object → takes update copy ≡ true
      → with_changes changes x ≡ applied name update x
  applied_new number object copy after changes is at with same none before taken =
      ap (λ (changes : FinMap nat_cmp Contents). with_changes changes x)
      (is ∙ ap (λ (n : ℕ). insert x.world.changes n after) at
      ∙ ap (insert x.world.changes name) (with ∙ ap (with_update update) same))
      ∙ new_by object (updated update object.body) refl (sym (ap (takes update) same) ∙ taken)
      ∙ sym (applied_there object (seen_before object (get x.world.changes name) refl none before))

-- ---- against the definition

missed_update_setting : (update : Update) (x : Seen) → (missed_update update x).setting ≡ x.setting
missed_update_setting (change.Counter by) x = refl
missed_update_setting (change.Bag (bag.Add item)) x = missed_setting x item
missed_update_setting (change.Bag (bag.Remove item)) x = refl
missed_update_setting (change.RcDict (dict.Put key value)) x = missed_setting (missed_value key x) value ∙ missed_setting x key
missed_update_setting (change.RcDict (dict.Remove key)) x = refl
missed_update_setting (change.Queue (queue.Add item)) x = missed_setting x item
missed_update_setting (change.Queue (queue.Remove item)) x = refl

missed_update_budget : (update : Update) (x : Seen) → (missed_update update x).budget ≡ x.budget
missed_update_budget (change.Counter by) x = refl
missed_update_budget (change.Bag (bag.Add item)) x = missed_budget x item
missed_update_budget (change.Bag (bag.Remove item)) x = refl
missed_update_budget (change.RcDict (dict.Put key value)) x = missed_budget (missed_value key x) value ∙ missed_budget x key
missed_update_budget (change.RcDict (dict.Remove key)) x = refl
missed_update_budget (change.Queue (queue.Add item)) x = missed_budget x item
missed_update_budget (change.Queue (queue.Remove item)) x = refl

as_world : (x y : Seen) (world : World) → y.setting ≡ x.setting → y.budget ≡ x.budget → y.world ≡ world → y ≡ record x { world = world }
as_world x y world setting budget is =
    ap₂ (λ (s : Setting) (b : Budget). record { setting = s; world = y.world; budget = b }) setting budget
    ∙ ap (λ (w : World). record x { world = w }) is

module _ (x : Seen) (name : ℕ) (update : Update) (sound : IsSoundState x) (stays : SpellingStays) where
  allowed_there : (old : Contents) → object_at name x ≡ Some old
      → after_allowed_update name update x ≡ in_world (updated_by name update old (updated update old.body) x.setting) x
  allowed_there old there = ap (λ found. in_world (updated_at name update found x.setting) x) there

  misses_by : (found : Option Contents) → object_at name x ≡ found
      → holds_of (λ object. fits_update update object.body) found ≡ true
      → holds_of (λ object. may_update (fixed_by x.setting x.world) update object.body) found ≡ false
      → missed_update update x ≡ after_allowed_update name update x
  misses_by None there fits may = absurd (false≢true fits)
  misses_by (Some old) there fits may =
      let after = taken_by (fixed_by x.setting x.world) update old.body fits may in
      as_world x (missed_update update x) _ (missed_update_setting update x) (missed_update_budget update x)
      (sym (update_lacks x name old sound there update after.0 after.1 may))
      ∙ sym (allowed_there old there
      ∙ ap (λ found. in_world (updated_by name update old found x.setting) x) after.1
      ∙ ap (λ may. in_world (replaced_where may name (Some update) (with_body after.0 old) x.setting) x)
      (update_fits stays x.setting x.world name old sound there update after.0 after.1 ∙ may))

  -- an update that may not stand leaves what it lacks
  pub update_misses : holds_of (λ object. fits_update update object.body) (object_at name x) ≡ true
      → holds_of (λ object. may_update (fixed_by x.setting x.world) update object.body) (object_at name x) ≡ false
      → missed_update update x ≡ after_allowed_update name update x
  update_misses fits may = misses_by (object_at name x) refl fits may

  allowed_by : (old : Contents) (found : Option Body) → object_at name x ≡ Some old → updated update old.body ≡ found
      → may_update (fixed_by x.setting x.world) update old.body ≡ true → (made : Bool) → is_made name x.setting x.world ≡ made
      → cond (is_some found) (applied_by name old found (cond made x (with_note name update x))) x
      ≡ in_world (updated_by name update old found x.setting) x
  unfolding note put
  allowed_by old None there is may made made_is = refl
  allowed_by old (Some after) there is may true made_is =
      sym (ap (λ may. in_world (replaced_where may name (Some update) (with_body after old) x.setting) x)
      (update_fits stays x.setting x.world name old sound there update after is ∙ may)
      ∙ ap (λ made. in_world (λ world. record x.world {
        changes = insert x.world.changes name (with_body after old);
        updates = cond made x.world.updates (x.world.updates ++ (name, update) ∷ []);
      }) x) made_is)
  allowed_by old (Some after) there is may false made_is =
      sym (ap (λ may. in_world (replaced_where may name (Some update) (with_body after old) x.setting) x)
      (update_fits stays x.setting x.world name old sound there update after is ∙ may)
      ∙ ap (λ made. in_world (λ world. record x.world {
        changes = insert x.world.changes name (with_body after old);
        updates = cond made x.world.updates (x.world.updates ++ (name, update) ∷ []);
      }) x) made_is)

  drop_test : (old : Contents) (found : Option Body) → cond (is_some found) (applied_by name old found x) x ≡ applied_by name old found x
  drop_test old None = refl
  drop_test old (Some body) = refl

  made_by : (found : Option Contents) → object_at name x ≡ found
      → holds_of (λ object. may_update (fixed_by x.setting x.world) update object.body) found ≡ true
      → is_made name x.setting x.world ≡ true → applied name update x ≡ after_allowed_update name update x
  made_by None there may made = absurd (false≢true may)
  made_by (Some old) there may made =
      ap (λ found. applied_at name update found x) there
      ∙ sym (drop_test old (updated update old.body))
      ∙ allowed_by old (updated update old.body) there refl may true made
      ∙ sym (allowed_there old there)

  -- one of an object that was made here
  pub made_applied : holds_of (λ object. may_update (fixed_by x.setting x.world) update object.body) (object_at name x) ≡ true
      → is_made name x.setting x.world ≡ true → applied name update x ≡ after_allowed_update name update x
  made_applied may made = made_by (object_at name x) refl may made

  noted_by : (found : Option Contents) → object_at name x ≡ found
      → holds_of (λ object. may_update (fixed_by x.setting x.world) update object.body) found ≡ true
      → is_made name x.setting x.world ≡ false → applied_noted name update x ≡ after_allowed_update name update x
  noted_by None there may made = absurd (false≢true may)
  noted_by (Some old) there may made =
      ap (λ found. cond (holds_of (takes update) found) (applied_at name update found (with_note name update x)) x) there
      ∙ allowed_by old (updated update old.body) there refl may false made
      ∙ sym (allowed_there old there)

  -- and one of any other
  pub noted_applied : holds_of (λ object. may_update (fixed_by x.setting x.world) update object.body) (object_at name x) ≡ true
      → is_made name x.setting x.world ≡ false → applied_noted name update x ≡ after_allowed_update name update x
  noted_applied may made = noted_by (object_at name x) refl may made

-- ---- the whole call

module _ (x : Seen) (name : ℕ) (update : Update) where
  -- where the user may not write the object, and where the user may
  pub note_no : is_allowed a_write name x.setting x.world ≡ false → Acted (Note name update) x (Ok tt) (asked name x)
  note_no refused = acted_says (Note name update) x (asked name x) tt refl
      (ap (λ (world : World). answered tt world x.budget) (update_forbidden name update x.setting x.world refused))

  pub note_yes : is_allowed a_write name x.setting x.world ≡ true
      → Acted (Note name update) x (Ok tt) (after_allowed_update name update (asked name x))
  unfolding after_update
  note_yes allowed = acted_says (Note name update) x (after_allowed_update name update (asked name x)) tt refl
      (ap (λ (may : Bool). answered tt (updated_where may name update x.setting (with_touches name x.setting x.world)) x.budget) allowed)

  -- where memory ran out
  pub note_kept : (y : Seen) → SameObjects x y → Acted (Note name update) x (Err stop.NoMemory) y
  note_kept y same = acted_nothing (Note name update) x y (keeps_touched x y same)

  -- after the touches the objects are sound
  pub asked_sound : (y : Seen) → IsSoundState x → y ≡ asked name x → IsSoundState y
  asked_sound y sound is = (keeps_touched x y (same_by (asked_same x name) is)).sound sound

  pub asked_then : (y z : Seen) → y ≡ asked name x → SameObjects y z → SameObjects x z
  asked_then y z is same = same_along (same_by (asked_same x name) is) same

-- What comes among the changes of a run, and isn't made in it, comes there by a write that is allowed.
use Rattle.std.proofs.Common.{◌≡◌, ◌≢◌, ℕ, zero, suc, ◌≤◌, ◌+◌, Bool, true, false, cond, ◌&&◌, nat_le, nat_lt, ◌⊎◌, inl, inr, List, [], ◌∷◌, Option, Some, None, is_some, refl, sym, ap, ◌∙◌, arith}
use Rattle.std.specs.FinMap.{get}
use Rattle.std.proofs.lemmas.Bool.{false≢true, and_parts, and_from, cases_eq, cases_Bool, lt-ltb, ltb-true}
use Rattle.gem_meaning.proofs.radix_pages_lemmas.Tables.{get-insert_same, get-insert_other}
use Rattle.gem_meaning.specs.texts.Bytes.{Bytes as Text}
use Rattle.gem_meaning.specs.gem_object.Kinds.{is_shared}
use Rattle.gem_meaning.specs.gem_object.declared.body.Body.{Body}
use Rattle.gem_meaning.specs.gem_update.Update.{updated}
use Rattle.gem_meaning.specs.gem_update.declared.update.Update.{Update}
use Rattle.gem_meaning.specs.gem_image.Image.{Contents}
use Rattle.gem_meaning.specs.gem_world.World.{Setting, World, name_of, is_drawn, is_made, shown, touch}
use Rattle.gem_meaning.specs.gem_world.Changes.{with_body, in_segment, put, make, note}
use Rattle.gem_meaning.specs.gem_world.Access.{a_read, a_write, is_allowed, touches_of, with_touches, after_allowed, accessed}
use Rattle.gem_meaning.specs.object_programs.Budget.{Budget}
use Rattle.gem_meaning.specs.object_programs.Guard.{Parts, may_change, may_replace, may_make}
use Rattle.gem_meaning.specs.object_programs.Atom.{Atom, Ask, Own, Kind, Made, Who, Put, Move, Note, Names, Make, Tick, Room, Show, done, MakeCheck, too_large, no_name, no_space, no_fault, make_check, with_new, made_where, made_by, named_where, ticked, spent_where, shown_where, touch_missing, replaced_where, edited_at, edited, updated_by, updated_at, updated_where, after_update}
use Rattle.gem_meaning.specs.object_programs.Run.{atom}
use Rattle.gem_meaning.specs.object_programs.Local.{nothing}
use Rattle.gem_meaning.specs.object_programs.Laws.{Falls}
use Rattle.gem_meaning.proofs.object_programs_lemmas.Kept.{kept}
use Rattle.gem_meaning.proofs.object_programs_lemmas.Falling as falling
use Rattle.gem_meaning.proofs.object_programs_lemmas.Told.{make_elsewhere, now_made}
use Rattle.gem_meaning.proofs.object_programs_lemmas.Worlds.{make_next, misses_next}
use Rattle.history_laws.specs.Accesses.{asked_by, IsChanged}
use Rattle.history_laws.proofs.Gains.{IsWrite, Gains}

module _ (name : ℕ) (setting : Setting) where
  -- what was made stays so, as names are drawn one after the other
  unmade_before : (world later : World) → world.next ≤ later.next
      → is_some (get world.changes name) ≡ true → IsChanged name setting later
      → IsChanged name setting world
  unfolding is_made
  unmade_before world later grows some changed =
      record { there = some; old = by (is_made name setting world) refl }
    where
      by : (made : Bool) → is_made name setting world ≡ made → made ≡ false
      by false made = refl
      by true made =
          let drawn = and_parts (nat_le (name_of setting setting.first) name)
          (nat_lt name (name_of setting world.next))
          (and_parts (is_drawn name setting world) (is_some (get world.changes name)) made).0 in
          let below = ltb-true name (name_of setting world.next) drawn.1 in
          let still : nat_lt name (name_of setting later.next) ≡ true
          = lt-ltb name (name_of setting later.next) (omega (arith, below, grows)) in
          absurd (false≢true (sym changed.old ∙ and_from _ _ (and_from _ _ drawn.0 still) changed.there))

  falls_of : {A : Type 0} (one : Atom A) (world : World) (budget : Budget)
      → world.next ≤ (done one setting world budget).world.next
  falls_of one world budget = (kept setting Falls (falling.budgets_fall setting) (atom one)
      (record { world = world; budget = budget; local = nothing (Unit {0}) })).next

  -- ---- what stands among the changes after each atom

  abbrev SameAt : World → World → Type 0
  SameAt world later = get later.changes name ≡ get world.changes name

  touch_keys : (other : ℕ) (world : World) → SameAt world (touch other setting world)
  unfolding touch
  touch_keys other world = refl

  misses_keys : (parts : Parts) (names : List ℕ) (world : World)
      → SameAt world (touch_missing parts names world)
  unfolding touch_missing
  misses_keys parts names world = refl

  note_keys : (at : ℕ) (update : Update) (world : World) → SameAt world (note at update setting world)
  unfolding note
  note_keys at update world = refl

  put_keys : (at : ℕ) (new : Contents) (world : World) → name ≢ at → SameAt world (put at new world)
  unfolding put
  put_keys at new world apart = get-insert_other world.changes at new name apart

  put_known : (at : ℕ) (old new : Contents) (world : World) → get world.changes at ≡ Some old
      → is_some (get (put at new world).changes name) ≡ is_some (get world.changes name)
  unfolding put
  put_known at old new world there = elim (cases_eq name at) [
    | inl same ↦ ap is_some (get-insert_same world.changes at new name same)
        ∙ sym (ap is_some (ap (get world.changes) same ∙ there))
    | inr apart ↦ ap is_some (get-insert_other world.changes at new name apart)
  ]

  among_keys : (at : ℕ) (found : Option Contents) (world : World)
      → SameAt world (touches_of at found setting world)
  unfolding touch
  among_keys at None world = refl
  among_keys at (Some object) world = refl

  asked_keys : (at : ℕ) (world : World) → SameAt world (with_touches at setting world)
  unfolding with_touches
  asked_keys at world = among_keys at (shown at setting world) world

  held_keys : (shared : Bool) (at : ℕ) (object : Contents) (world : World) → name ≢ at
      → SameAt world (cond shared world (put at object world))
  held_keys true at object world apart = refl
  held_keys false at object world apart = put_keys at object world apart

  allowed_keys : (at : ℕ) (found : Option Contents) (world : World) → name ≢ at
      → SameAt world (after_allowed a_write at found world)
  allowed_keys at None world apart = refl
  allowed_keys at (Some object) world apart = held_keys (is_shared object.body) at object world apart

  read_keys_by : (allowed : Bool) (at : ℕ) (world : World)
      → SameAt world (cond allowed (with_touches at setting world) (with_touches at setting world))
  read_keys_by true at world = asked_keys at world
  read_keys_by false at world = asked_keys at world

  read_keys : (at : ℕ) (world : World) → SameAt world (accessed a_read at setting world)
  unfolding accessed
  read_keys at world = read_keys_by (is_allowed a_read at setting world) at world

  write_keys_by : (allowed : Bool) (at : ℕ) (world : World) → (name ≢ at) ⊎ (allowed ≡ false)
      → SameAt world (cond allowed
      (after_allowed a_write at (shown at setting world) (with_touches at setting world))
      (with_touches at setting world))
  write_keys_by false at world given = asked_keys at world
  write_keys_by true at world (inl apart) =
      allowed_keys at (shown at setting world) (with_touches at setting world) apart ∙ asked_keys at world
  write_keys_by true at world (inr refused) = absurd (false≢true (sym refused))

  write_keys : (at : ℕ) (world : World)
      → (name ≢ at) ⊎ (is_allowed a_write at setting world ≡ false)
      → SameAt world (accessed a_write at setting world)
  unfolding accessed
  write_keys at world given = write_keys_by (is_allowed a_write at setting world) at world given

  replaced_keys : (may : Bool) (at : ℕ) (old new : Contents) (world : World)
      → get world.changes at ≡ Some old
      → is_some (get (replaced_where may at None new setting world).changes name)
      ≡ is_some (get world.changes name)
  replaced_keys true at old new world there = put_known at old new world there
  replaced_keys false at old new world there = ap is_some (misses_keys _ _ world)

  edited_keys_at : (at : ℕ) (edit : Contents → Contents) (found : Option Contents) (world : World)
      → get world.changes at ≡ found
      → is_some (get (edited_at at edit found setting world).changes name)
      ≡ is_some (get world.changes name)
  edited_keys_at at edit None world there = refl
  edited_keys_at at edit (Some old) world there = replaced_keys
      (may_change at old setting world && may_replace at old (edit old) setting world) at old (edit old)
      world there

  edited_keys : (at : ℕ) (edit : Contents → Contents) (world : World)
      → is_some (get (edited at edit setting world).changes name) ≡ is_some (get world.changes name)
  unfolding edited
  edited_keys at edit world = edited_keys_at at edit (get world.changes at) world refl

  replaced_apart : (may : Bool) (at : ℕ) (update : Update) (new : Contents) (world : World) → name ≢ at
      → SameAt world (replaced_where may at (Some update) new setting world)
  replaced_apart true at update new world apart =
      put_keys at new (note at update setting world) apart ∙ note_keys at update world
  replaced_apart false at update new world apart = misses_keys _ _ world

  updated_apart_by : (at : ℕ) (update : Update) (old : Contents) (found : Option Body) (world : World)
      → name ≢ at → SameAt world (updated_by at update old found setting world)
  updated_apart_by at update old None world apart = refl
  updated_apart_by at update old (Some body) world apart = replaced_apart
      (may_replace at old (with_body body old) setting world) at update (with_body body old) world apart

  updated_apart : (at : ℕ) (update : Update) (found : Option Contents) (world : World) → name ≢ at
      → SameAt world (updated_at at update found setting world)
  updated_apart at update None world apart = refl
  updated_apart at update (Some old) world apart =
      updated_apart_by at update old (updated update old.body) world apart

  update_keys_by : (allowed : Bool) (at : ℕ) (update : Update) (world : World)
      → (name ≢ at) ⊎ (allowed ≡ false)
      → SameAt world (updated_where allowed at update setting (with_touches at setting world))
  update_keys_by false at update world given = asked_keys at world
  update_keys_by true at update world (inl apart) =
      let now = with_touches at setting world in
      updated_apart at update (shown at setting now) now apart ∙ asked_keys at world
  update_keys_by true at update world (inr refused) = absurd (false≢true (sym refused))

  update_keys : (at : ℕ) (update : Update) (world : World)
      → (name ≢ at) ⊎ (is_allowed a_write at setting world ≡ false)
      → SameAt world (after_update at update setting world)
  unfolding after_update
  update_keys at update world given =
      update_keys_by (is_allowed a_write at setting world) at update world given

  -- what is made in the transaction isn't among these
  new_kept : (objects : List Contents) (world : World) → setting.first ≤ world.next
      → IsChanged name setting (with_new objects setting world) → IsChanged name setting world
  new_kept [] world begun changed = changed
  new_kept (object ∷ rest) world begun changed =
      let made = make object setting world in
      let next : made.next ≡ world.next + 1 = make_next object setting world in
      let then = new_kept rest made (omega (arith, begun, next)) changed in
      elim (cases_eq name (name_of setting world.next)) [
        | inl same ↦ absurd (false≢true (sym then.old
            ∙ (ap (λ asked. is_made asked setting made) same ∙ now_made setting object world begun)))
        | inr apart ↦ unmade_before world made (omega (arith, next))
            (sym (ap is_some (make_elsewhere setting name object world apart)) ∙ then.there) then
      ]

  fit_kept : (fits : Bool) (objects : List Contents) (world : World) (budget : Budget)
      → setting.first ≤ world.next
      → IsChanged name setting (made_where fits objects setting world budget).world
      → IsChanged name setting world
  fit_kept true objects world budget begun changed = new_kept objects world begun changed
  fit_kept false objects world budget begun changed =
      let later = (made_where false objects setting world budget).world in
      let next : later.next ≡ world.next = misses_next _ _ world in
      unmade_before world later (omega (arith, next))
      (sym (ap is_some (misses_keys _ _ world)) ∙ changed.there) changed

  make_kept : (found : MakeCheck) (objects : List Contents) (world : World) (budget : Budget)
      → setting.first ≤ world.next
      → IsChanged name setting (made_by found objects setting world budget).world
      → IsChanged name setting world
  make_kept too_large objects world budget begun changed = changed
  make_kept no_name objects world budget begun changed = changed
  make_kept no_space objects world budget begun changed = changed
  make_kept no_fault objects world budget begun changed =
      fit_kept (may_make objects setting world) objects world budget begun changed

  pub named_quiet : (enough : Bool) (world : World) (budget : Budget)
      → (named_where enough world budget).world ≡ world
  named_quiet true world budget = refl
  named_quiet false world budget = refl

  pub tick_quiet : (units : ℕ) (world : World) (budget : Budget) → (ticked units world budget).world ≡ world
  tick_quiet zero world budget = refl
  tick_quiet (suc units) world budget = refl

  pub room_quiet : (enough : Bool) (slots : ℕ) (world : World) (budget : Budget)
      → (spent_where enough slots world budget).world ≡ world
  room_quiet true slots world budget = refl
  room_quiet false slots world budget = refl

  pub show_quiet : (fits enough : Bool) (text : Text) (world : World) (budget : Budget)
      → (shown_where fits enough text world budget).world ≡ world
  show_quiet false enough text world budget = refl
  show_quiet true false text world budget = refl
  show_quiet true true text world budget = refl

  -- ---- each atom

  -- what it leaves, and how it is called by `Gains`
  abbrev Gained : {A : Type 0} → Atom A → World → Budget → Type 0
  Gained one world budget = IsChanged name setting (done one setting world budget).world
      → IsChanged name setting world ⊎ IsWrite name setting (asked_by one) world

  -- an atom that adds nothing
  unmoved : {A : Type 0} (one : Atom A) (world : World) (budget : Budget)
      → is_some (get (done one setting world budget).world.changes name)
      ≡ is_some (get world.changes name) → Gained one world budget
  unmoved one world budget same changed = inl (unmade_before world (done one setting world budget).world
      (falls_of one world budget) (sym same ∙ changed.there) changed)

  -- a write
  written : {A : Type 0} (one : Atom A) (at : ℕ) (world : World) (budget : Budget)
      → asked_by one ≡ Some (a_write, at)
      → ((name ≢ at) ⊎ (is_allowed a_write at setting world ≡ false)
      → SameAt world (done one setting world budget).world)
      → Gained one world budget
  written one at world budget asked same changed = elim (cases_eq name at) [
    | inl here ↦ elim (cases_Bool (is_allowed a_write at setting world)) [
      | inl allowed ↦ inr (
        asked ∙ ap (λ other. Some (a_write, other)) (sym here),
        ap (λ other. is_allowed a_write other setting world) here ∙ allowed,
      )
      | inr refused ↦ unmoved one world budget (ap is_some (same (inr refused))) changed
    ]
    | inr apart ↦ unmoved one world budget (ap is_some (same (inl apart))) changed
  ]

  same_keys : (world later : World) → later ≡ world
      → is_some (get later.changes name) ≡ is_some (get world.changes name)
  same_keys world later is = ap (λ (w : World). is_some (get w.changes name)) is

  changed_step : {A : Type 0} (one : Atom A) (world : World) (budget : Budget)
      → setting.first ≤ world.next → Gained one world budget
  changed_step (Ask a_read at) world budget begun changed =
      unmoved (Ask a_read at) world budget (ap is_some (read_keys at world)) changed
  changed_step (Ask a_write at) world budget begun changed =
      written (Ask a_write at) at world budget refl (write_keys at world) changed
  changed_step Own world budget begun changed =
      unmoved Own world budget (ap is_some (touch_keys setting.user world)) changed
  changed_step (Kind at) world budget begun changed =
      unmoved (Kind at) world budget (ap is_some (misses_keys _ _ world)) changed
  changed_step (Made at) world budget begun changed = inl changed
  changed_step Who world budget begun changed = inl changed
  changed_step (Put at body) world budget begun changed =
      unmoved (Put at body) world budget (edited_keys at (with_body body) world) changed
  changed_step (Move at segment) world budget begun changed =
      unmoved (Move at segment) world budget (edited_keys at (in_segment segment) world) changed
  changed_step (Note at update) world budget begun changed =
      written (Note at update) at world budget refl (update_keys at update world) changed
  changed_step (Names count) world budget begun changed = unmoved (Names count) world budget
      (same_keys world _ (named_quiet _ world budget)) changed
  changed_step (Make objects_at) world budget begun changed =
      let objects = objects_at (name_of setting world.next) in
      inl (make_kept (make_check objects world budget) objects world budget begun changed)
  changed_step Tick world budget begun changed =
      unmoved Tick world budget (same_keys world _ (tick_quiet budget.units world budget)) changed
  changed_step (Room slots) world budget begun changed = unmoved (Room slots) world budget
      (same_keys world _ (room_quiet _ slots world budget)) changed
  changed_step (Show text) world budget begun changed = unmoved (Show text) world budget
      (same_keys world _ (show_quiet _ _ text world budget)) changed

  -- whether it is so can be told
  changed_told : (world : World) → IsChanged name setting world ⊎ (IsChanged name setting world → ⊥)
  changed_told world = elim (cases_Bool (is_some (get world.changes name))) [
    | inl there ↦ elim (cases_Bool (is_made name setting world)) [
      | inl made ↦ inr (λ changed. false≢true (sym changed.old ∙ made))
      | inr old ↦ inl (record { there = there; old = old })
    ]
    | inr none ↦ inr (λ changed. false≢true (sym none ∙ changed.there))
  ]

  pub changed_gains : Gains name setting (IsChanged name setting)
  changed_gains = record {
    step = λ {A} one world budget begun changed. changed_step one world budget begun changed;
    told = changed_told;
  }

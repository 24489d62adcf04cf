-- Whatever commands are performed on sound objects, each noted update refers to objects that are
-- seen, and can be stored.
use Rattle.std.proofs.Common.{◌≡◌, ◌∙◌, ◌⊎◌, inl, inr, refl, sym, ap, subst, ℕ, zero, suc, ◌+◌, Bool, true, false, ◌&&◌, cond, nat_le, Option, Some, None, List, [], ◌∷◌, ◌++◌, length}
use Rattle.std.specs.List.{AllByRecursion}
use Rattle.std.specs.FinMap.{get}
use Rattle.std.proofs.lemmas.Bool.{cond_both}
use Rattle.commit_check.specs.texts.Bytes.{Bytes as Text}
use Rattle.commit_check.specs.gem_object.Kinds.{is_shared}
use Rattle.commit_check.specs.gem_object.declared.body.Body.{Body}
use Rattle.gem_update.specs.References.{names_in_update}
use Rattle.gem_update.specs.Spelling.{IsStorableUpdate}
use Rattle.gem_update.specs.Update.{updated}
use Rattle.gem_update.specs.declared.update.Update.{Update}
use Rattle.commit_check.specs.gem_image.Image.{Contents}
use Rattle.gem_meaning.specs.gem_sound.Sound.{names_in}
use Rattle.commit_check.specs.gem_world.World.{Setting, World, name_of, shown, is_made, touch}
use Rattle.commit_check.specs.gem_world.Changes.{with_body, in_segment, put, make, note}
use Rattle.commit_check.specs.gem_world.Access.{Access, a_read, a_write, is_allowed, touches_of, with_touches, after_allowed, accessed}
use Rattle.gem_meaning.specs.object_programs.Budget.{Budget, bytes_cost, may_write}
use Rattle.gem_meaning.specs.object_programs.declared.limits.TheConstants.{COUNTER_LIMIT}
use Rattle.gem_meaning.specs.object_programs.Fixed.{fixed_by}
use Rattle.gem_meaning.specs.object_programs.Guard.{Parts, may_change, may_replace, may_make}
use Rattle.gem_meaning.specs.object_programs.Atom.{Atom, Ask, Own, Kind, Made, Who, Put, Move, Note, Names, Make, Tick, Room, Show, done, MakeCheck, too_large, no_name, no_space, no_fault, make_check, with_new, made_where, made_by, named_where, ticked, spent_where, shown_where, touch_missing, replaced_where, edited_at, edited, updated_by, updated_at, updated_where, after_update}
use Rattle.gem_meaning.specs.object_programs.Laws.{KeepsParts, AreSound}
use Rattle.gem_meaning.proofs.object_programs_lemmas.Kept.{Kept}
use Rattle.gem_meaning.proofs.object_programs_lemmas.Objects.{parts_stay, soundness_stays}
use Rattle.gem_meaning.proofs.object_programs_lemmas.Worlds.{put_here, shown_asked}
use Rattle.gem_meaning.specs.gem_language.Commands.{Command}
use Rattle.gem_meaning.specs.gem_language.Transaction.{transaction}
use Rattle.gem_meaning.proofs.gem_language_lemmas.Lists.{listed}
use Rattle.commit_soundness.proofs.Lists.{all_weaker, all_both}
use Rattle.commit_soundness.proofs.References.{update_refers, storable_update}
use Rattle.commit_soundness.proofs.Seen.{IsSeen, seen_more, refers_to_seen, is_spelled}

module _ (setting : Setting) where
  abbrev pub IsBrought : World → ℕ × Update → Type 0
  IsBrought world noted =
      AllByRecursion (IsSeen setting world) (names_in_update noted.1) × IsStorableUpdate noted.1

  -- each noted update refers to what is seen, and can be stored
  abbrev pub Brings : World → Type 0
  Brings world = AllByRecursion (IsBrought world) world.updates

  -- An update more was noted, of an object that has taken it.
  record NotesOne (world later : World) : Type 0 where
    name : ℕ
    update : Update
    old : Contents
    body : Body
    before : shown name setting world ≡ Some old
    takes : updated update old.body ≡ Some body
    after : shown name setting later ≡ Some (with_body body old)
    noted : later.updates ≡ world.updates ++ (name, update) ∷ []

  abbrev Notes : World → World → Type 0
  Notes world later = (later.updates ≡ world.updates) ⊎ NotesOne world later

  -- ---- what is noted in sound worlds

  module _ (world later : World) (sound : AreSound setting world) (after : AreSound setting later)
      (keeps : KeepsParts (fixed_by setting world) (fixed_by setting later)) where
    brought_still : (noted : ℕ × Update) → IsBrought world noted → IsBrought later noted
    brought_still noted brought = (
      all_weaker (IsSeen setting world) (IsSeen setting later) (seen_more setting world later keeps)
          (names_in_update noted.1) brought.0,
      brought.1,
    )

    module _ (one : NotesOne world later) where
      old_refers : AllByRecursion (IsSeen setting later) (names_in one.old)
      old_refers = all_weaker (IsSeen setting world) (IsSeen setting later) (seen_more setting world later keeps)
          (names_in one.old) (refers_to_seen setting world sound one.name one.old one.before)

      new_refers : AllByRecursion (IsSeen setting later) (names_in (with_body one.body one.old))
      new_refers = refers_to_seen setting later after one.name (with_body one.body one.old) one.after

      one_brought : IsBrought later (one.name, one.update)
      one_brought = (
        update_refers (IsSeen setting later) one.update one.old.body one.body one.takes
            old_refers.1.1 new_refers.1.1,
        storable_update one.update one.old.body one.body one.takes
            (is_spelled setting world sound one.name one.old one.before)
            (is_spelled setting later after one.name (with_body one.body one.old) one.after),
      )

    brings_later : Notes world later → Brings world → Brings later
    brings_later (inl same) brings = subst (AllByRecursion (IsBrought later)) (sym same)
        (all_weaker (IsBrought world) (IsBrought later) brought_still world.updates brings)
    brings_later (inr one) brings = subst (AllByRecursion (IsBrought later)) (sym one.noted)
        (all_both (IsBrought later) world.updates ((one.name, one.update) ∷ [])
        (all_weaker (IsBrought world) (IsBrought later) brought_still world.updates brings)
        (one_brought one, tt))

  -- ---- what each atom notes

  touched_updates : (name : ℕ) (found : Option Contents) (world : World)
      → (touches_of name found setting world).updates ≡ world.updates
  unfolding touch
  touched_updates name None world = refl
  touched_updates name (Some object) world = refl

  own_updates : (name : ℕ) (world : World) → (touch name setting world).updates ≡ world.updates
  unfolding touch
  own_updates name world = refl

  asked_updates : (name : ℕ) (world : World) → (with_touches name setting world).updates ≡ world.updates
  unfolding with_touches
  asked_updates name world = touched_updates name (shown name setting world) world

  misses_updates : (parts : Parts) (names : List ℕ) (world : World)
      → (touch_missing parts names world).updates ≡ world.updates
  unfolding touch_missing
  misses_updates parts names world = refl

  put_updates : (name : ℕ) (object : Contents) (world : World) → (put name object world).updates ≡ world.updates
  unfolding put
  put_updates name object world = refl

  allowed_updates : (access : Access) (name : ℕ) (found : Option Contents) (world : World)
      → (after_allowed access name found world).updates ≡ world.updates
  allowed_updates a_read name found world = refl
  allowed_updates a_write name None world = refl
  allowed_updates a_write name (Some object) world =
      cond_both (is_shared object.body) world (put name object world)
      (λ (after : World). after.updates ≡ world.updates) (λ _. refl) (λ _. put_updates name object world)

  accessed_updates : (access : Access) (name : ℕ) (world : World)
      → (accessed access name setting world).updates ≡ world.updates
  unfolding accessed
  accessed_updates access name world =
      let now = with_touches name setting world in
      cond_both (is_allowed access name setting world)
      (after_allowed access name (shown name setting world) now) now
      (λ (after : World). after.updates ≡ world.updates)
      (λ _. allowed_updates access name (shown name setting world) now ∙ asked_updates name world)
      (λ _. asked_updates name world)

  replaced_updates : (may : Bool) (name : ℕ) (new : Contents) (world : World)
      → (replaced_where may name None new setting world).updates ≡ world.updates
  replaced_updates true name new world = put_updates name new world
  replaced_updates false name new world = misses_updates _ _ world

  edited_updates_at : (name : ℕ) (edit : Contents → Contents) (found : Option Contents) (world : World)
      → (edited_at name edit found setting world).updates ≡ world.updates
  edited_updates_at name edit None world = refl
  edited_updates_at name edit (Some old) world = replaced_updates
      (may_change name old setting world && may_replace name old (edit old) setting world) name (edit old) world

  edited_updates : (name : ℕ) (edit : Contents → Contents) (world : World)
      → (edited name edit setting world).updates ≡ world.updates
  unfolding edited
  edited_updates name edit world = edited_updates_at name edit (get world.changes name) world

  make_updates : (object : Contents) (world : World) → (make object setting world).updates ≡ world.updates
  unfolding make
  make_updates object world = refl

  new_updates : (objects : List Contents) (world : World)
      → (with_new objects setting world).updates ≡ world.updates
  new_updates [] world = refl
  new_updates (object ∷ rest) world =
      new_updates rest (make object setting world) ∙ make_updates object world

  fitting_updates : (fits : Bool) (objects : List Contents) (world : World) (budget : Budget)
      → (made_where fits objects setting world budget).world.updates ≡ world.updates
  fitting_updates true objects world budget = new_updates objects world
  fitting_updates false objects world budget = misses_updates _ _ world

  made_updates : (found : MakeCheck) (objects : List Contents) (world : World) (budget : Budget)
      → (made_by found objects setting world budget).world.updates ≡ world.updates
  made_updates too_large objects world budget = refl
  made_updates no_name objects world budget = refl
  made_updates no_space objects world budget = refl
  made_updates no_fault objects world budget =
      fitting_updates (may_make objects setting world) objects world budget

  named_updates : (enough : Bool) (world : World) (budget : Budget)
      → (named_where enough world budget).world.updates ≡ world.updates
  named_updates true world budget = refl
  named_updates false world budget = refl

  tick_updates : (units : ℕ) (world : World) (budget : Budget)
      → (ticked units world budget).world.updates ≡ world.updates
  tick_updates zero world budget = refl
  tick_updates (suc units) world budget = refl

  room_updates : (enough : Bool) (slots : ℕ) (world : World) (budget : Budget)
      → (spent_where enough slots world budget).world.updates ≡ world.updates
  room_updates true slots world budget = refl
  room_updates false slots world budget = refl

  show_updates : (fits enough : Bool) (text : Text) (world : World) (budget : Budget)
      → (shown_where fits enough text world budget).world.updates ≡ world.updates
  show_updates false enough text world budget = refl
  show_updates true false text world budget = refl
  show_updates true true text world budget = refl

  note_updates : (name : ℕ) (update : Update) (new : Contents) (now : World)
      → (put name new (note name update setting now)).updates
      ≡ cond (is_made name setting now) now.updates (now.updates ++ (name, update) ∷ [])
  unfolding put note
  note_updates name update new now = refl

  -- the update, unless the object was made here
  note_notes : (name : ℕ) (update : Update) (old : Contents) (body : Body) (world now : World)
      → shown name setting world ≡ Some old → updated update old.body ≡ Some body
      → now.updates ≡ world.updates
      → Notes world (put name (with_body body old) (note name update setting now))
  note_notes name update old body world now before takes same = by (is_made name setting now) refl
    where
      later : World
      later = put name (with_body body old) (note name update setting now)

      noted : later.updates
          ≡ cond (is_made name setting now) now.updates (now.updates ++ (name, update) ∷ [])
      noted = note_updates name update (with_body body old) now

      by : (made : Bool) → is_made name setting now ≡ made → Notes world later
      by true is = inl (noted
          ∙ (ap (λ b. cond b now.updates (now.updates ++ (name, update) ∷ [])) is ∙ same))
      by false is = inr record {
        name = name;
        update = update;
        old = old;
        body = body;
        before = before;
        takes = takes;
        after = put_here setting name (with_body body old) (note name update setting now);
        noted = noted ∙ (ap (λ b. cond b now.updates (now.updates ++ (name, update) ∷ [])) is
            ∙ ap (λ (some : List (ℕ × Update)). some ++ (name, update) ∷ []) same);
      }

  module _ (name : ℕ) (update : Update) (world now : World) (same : now.updates ≡ world.updates) where
    where_notes : (may : Bool) (old : Contents) (body : Body)
        → shown name setting world ≡ Some old → updated update old.body ≡ Some body
        → Notes world (replaced_where may name (Some update) (with_body body old) setting now)
    where_notes true old body before takes = note_notes name update old body world now before takes same
    where_notes false old body before takes = inl (misses_updates _ _ now ∙ same)

    by_notes : (old : Contents) (found : Option Body) → shown name setting world ≡ Some old
        → updated update old.body ≡ found → Notes world (updated_by name update old found setting now)
    by_notes old None before takes = inl same
    by_notes old (Some body) before takes =
        where_notes (may_replace name old (with_body body old) setting now) old body before takes

    at_notes : (found : Option Contents) → shown name setting world ≡ found
        → Notes world (updated_at name update found setting now)
    at_notes None before = inl same
    at_notes (Some old) before = by_notes old (updated update old.body) before refl

    allowed_notes : (allowed : Bool) → shown name setting now ≡ shown name setting world
        → Notes world (updated_where allowed name update setting now)
    allowed_notes true seen = at_notes (shown name setting now) (sym seen)
    allowed_notes false seen = inl same

  update_notes : (name : ℕ) (update : Update) (world : World) → Notes world (after_update name update setting world)
  unfolding after_update
  update_notes name update world = allowed_notes name update world (with_touches name setting world)
      (asked_updates name world) (is_allowed a_write name setting world) (shown_asked setting setting name name world)

  atom_notes : {A : Type 0} (one : Atom A) (world : World) (budget : Budget)
      → Notes world (done one setting world budget).world
  atom_notes (Ask access name) world budget = inl (accessed_updates access name world)
  atom_notes Own world budget = inl (own_updates setting.user world)
  atom_notes (Kind name) world budget = inl (misses_updates _ _ world)
  atom_notes (Made name) world budget = inl refl
  atom_notes Who world budget = inl refl
  atom_notes (Put name body) world budget = inl (edited_updates name (with_body body) world)
  atom_notes (Move name segment) world budget = inl (edited_updates name (in_segment segment) world)
  atom_notes (Note name update) world budget = update_notes name update world
  atom_notes (Names count) world budget =
      inl (named_updates (nat_le (world.next + count) COUNTER_LIMIT) world budget)
  atom_notes (Make objects_at) world budget =
      let objects = objects_at (name_of setting world.next) in
      inl (made_updates (make_check objects world budget) objects world budget)
  atom_notes Tick world budget = inl (tick_updates budget.units world budget)
  atom_notes (Room slots) world budget = inl (room_updates (nat_le slots budget.slots) slots world budget)
  atom_notes (Show text) world budget = inl (show_updates (may_write text budget)
      (nat_le (bytes_cost (length text)) budget.slots) text world budget)

  -- ---- programs and commands

  abbrev StaysBrought : World → World → Type 0
  StaysBrought world later = AreSound setting world → AreSound setting later × (Brings world → Brings later)

  brought_stays : Kept setting (λ world budget later left. StaysBrought world later)
  brought_stays = record {
    same = λ world budget sound. (sound, λ brings. brings);
    along = λ world budget between over later left first second sound.
        let here = first sound in
        let next = second here.0 in
        (next.0, λ brings. next.1 (here.1 brings));
    step = λ {A} one world budget sound.
        let later = (done one setting world budget).world in
        let after : AreSound setting later = (soundness_stays setting).step one world budget sound in
        let parts = ((parts_stay setting).step one world budget sound.free).1 in
        (after, brings_later world later sound after parts (atom_notes one world budget));
  }

  pub brought : (commands : List Command) (world : World) → AreSound setting world → Brings world
      → Brings (transaction commands setting world).world
  brought commands world sound brings =
      (listed setting StaysBrought brought_stays commands world sound).1 brings

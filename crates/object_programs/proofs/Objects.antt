-- Fixed parts stay, names stay free until they are drawn, and objects stay sound.
use Rattle.std.proofs.Common.{◌≡◌, ◌≢◌, ◌∙◌, ◌⊎◌, inl, inr, refl, sym, ap, subst, ℕ, ◌+◌, ◌^◌, ◌≤◌, ◌<◌, Bool, true, false, cond, nat_eq, Option, Some, None, List, [], ◌∷◌, length, option_map, is_some, arith}
use Rattle.std.proofs.Math.Path.{fun_ext}
use Rattle.std.specs.FinMap.{get}
use Rattle.std.proofs.lemmas.Bool.{false≢true, and_parts, eqb-true, ne_eqb}
use Rattle.std.proofs.lemmas.Option.{same_Some}
use Rattle.gem_object.specs.declared.body.Body.{Body}
use Rattle.gem_world.specs.gem_update.declared.update.Update.{Update}
use Rattle.gem_world.specs.gem_image.Image.{Contents, Objects}
use Rattle.gem_world.specs.World.{Setting, World, name_of, shown, touch}
use Rattle.gem_world.specs.Changes.{with_body, put, make, note}
use Rattle.object_programs.specs.declared.limits.TheConstants.{COUNTER_LIMIT}
use Rattle.object_programs.specs.Fixed.{Fixed, fixed_of, fixed_by}
use Rattle.object_programs.specs.Guard.{Parts, is_user, fits, parts_with, may_replace, with_parts, all_fit, parts_with_new, may_make}
use Rattle.object_programs.specs.Atom.{touch_missing, with_new}
use Rattle.object_programs.specs.Laws.{KeepsParts, AreFree, AreSound}
use Rattle.object_programs.proofs.Kept.{Kept, of_worlds, each_new}
use Rattle.object_programs.proofs.Worlds.{put_next, note_next, changed_shown, put_shown, make_shown, put_noted_shown}
use Rattle.object_programs.proofs.Falling.{new_next}
use Rattle.object_programs.proofs.Guards.{fits_more, known_more}
use Rattle.object_programs.proofs.Sames.{fixed_is}

some_more : (here later : Option Fixed) → ((fixed : Fixed) → here ≡ Some fixed → later ≡ Some fixed)
    → is_some here ≡ true → is_some later ≡ true
some_more None later keeps some = absurd (false≢true some)
some_more (Some fixed) later keeps some = ap is_some (keeps fixed refl)

module _ (setting : Setting) where
  put_noted_next : (name : ℕ) (update : Update) (new : Contents) (world : World)
      → (put name new (note name update setting world)).next ≡ world.next
  put_noted_next name update new world =
      put_next name new (note name update setting world) ∙ note_next name update setting world

  replaced_fixed : (name : ℕ) (old new : Contents) (world : World) → may_replace name old new setting world ≡ true
      → fixed_of old ≡ fixed_of new
  unfolding may_replace
  replaced_fixed name old new world may = fixed_is (fixed_of old) (fixed_of new) (and_parts _ _ may).0

  replaced_fits : (name : ℕ) (old new : Contents) (world : World) → may_replace name old new setting world ≡ true
      → fits (parts_with name new setting world) name new ≡ true
  unfolding may_replace
  replaced_fits name old new world may = (and_parts _ _ may).1

  -- One object stands at a name from now on, and no other changes.
  module _ (world later : World) (name : ℕ) (new : Contents)
      (is : (asked : ℕ) → shown asked setting later
      ≡ cond (nat_eq asked name) (Some new) (shown asked setting world)) where
    at_name : (asked : ℕ) → nat_eq asked name ≡ true → shown asked setting later ≡ Some new
    at_name asked same = is asked ∙ ap (λ b. cond b (Some new) (shown asked setting world)) same

    elsewhere : (asked : ℕ) → nat_eq asked name ≡ false → shown asked setting later ≡ shown asked setting world
    elsewhere asked apart = is asked ∙ ap (λ b. cond b (Some new) (shown asked setting world)) apart

    part_kept : ((fixed : Fixed) → fixed_by setting world name ≡ Some fixed → fixed_of new ≡ fixed)
        → KeepsParts (fixed_by setting world) (fixed_by setting later)
    part_kept old asked fixed here = by (nat_eq asked name) refl
      where
        by : (same : Bool) → nat_eq asked name ≡ same → fixed_by setting later asked ≡ Some fixed
        by true same =
            let there = subst (λ some. fixed_by setting world some ≡ Some fixed) (eqb-true asked name same) here in
            ap (option_map fixed_of) (at_name asked same) ∙ ap Some (old fixed there)
        by false apart = ap (option_map fixed_of) (elsewhere asked apart) ∙ here

    new_parts : KeepsParts (parts_with name new setting world) (fixed_by setting later)
    new_parts asked fixed here = by (nat_eq asked name) refl
      where
        by : (same : Bool) → nat_eq asked name ≡ same → fixed_by setting later asked ≡ Some fixed
        by true same = ap (option_map fixed_of) (at_name asked same)
            ∙ (sym (ap (λ b. cond b (Some (fixed_of new)) (fixed_by setting world asked)) same) ∙ here)
        by false apart = ap (option_map fixed_of) (elsewhere asked apart)
            ∙ (sym (ap (λ b. cond b (Some (fixed_of new)) (fixed_by setting world asked)) apart) ∙ here)

    one_more : AreSound setting world → fits (parts_with name new setting world) name new ≡ true
        → KeepsParts (fixed_by setting world) (fixed_by setting later) → AreFree setting later
        → later.next ≡ world.next → is_some (shown name setting world) ≡ true → AreSound setting later
    one_more sound fitting keeps free next there = record {
      serial_bound = sound.serial_bound;
      some_name = omega (arith, next, sound.some_name);
      next_bound = omega (arith, next, sound.next_bound);
      free = free;
      named = λ asked some. named_by asked some (nat_eq asked name) refl;
      each = λ asked object here. each_by asked object here (nat_eq asked name) refl;
      kernel = λ asked needed. some_more (fixed_by setting world asked) (fixed_by setting later asked)
          (keeps asked) (sound.kernel asked needed);
      user = known_more (fixed_by setting world) (fixed_by setting later) keeps (λ fixed. is_user fixed.kind)
          setting.user sound.user;
    }
      where
        named_by : (asked : ℕ) → is_some (shown asked setting later) ≡ true → (same : Bool)
            → nat_eq asked name ≡ same → asked < 2 ^ 48
        named_by asked some true same = subst (λ at. at < 2 ^ 48) (sym (eqb-true asked name same))
            (sound.named name there)
        named_by asked some false apart = sound.named asked (sym (ap is_some (elsewhere asked apart)) ∙ some)

        each_by : (asked : ℕ) (object : Contents) → shown asked setting later ≡ Some object → (same : Bool)
            → nat_eq asked name ≡ same → fits (fixed_by setting later) asked object ≡ true
        each_by asked object here true same =
            let new_is = same_Some new object (sym (at_name asked same) ∙ here) in
            subst (λ some. fits (fixed_by setting later) some object ≡ true) (sym (eqb-true asked name same))
            (subst (λ some. fits (fixed_by setting later) name some ≡ true) new_is
            (fits_more (parts_with name new setting world) (fixed_by setting later) new_parts name new fitting))
        each_by asked object here false apart = fits_more (fixed_by setting world) (fixed_by setting later) keeps
            asked object (sound.each asked object (sym (elsewhere asked apart) ∙ here))

  -- an object that is seen has the fixed part of the one that takes its place
  seen_part : (name : ℕ) (old new : Contents) (world : World) → shown name setting world ≡ Some old
      → fixed_of old ≡ fixed_of new → (fixed : Fixed) → fixed_by setting world name ≡ Some fixed
      → fixed_of new ≡ fixed
  seen_part name old new world there same fixed here =
      let old_is : Some (fixed_of old) ≡ Some fixed = sym (ap (option_map fixed_of) there) ∙ here in
      sym same ∙ cc

  -- a name that is seen isn't free, so what stands there may be replaced
  seen_free : (world later : World) (name : ℕ) (old new : Contents)
      → ((asked : ℕ) → shown asked setting later ≡ cond (nat_eq asked name) (Some new) (shown asked setting world))
      → later.next ≡ world.next → shown name setting world ≡ Some old → AreFree setting world
      → AreFree setting later
  seen_free world later name old new is next there free counter from below =
      let none = free counter (omega (arith, next, from)) below in
      by none (nat_eq (name_of setting counter) name) refl
    where
      by : shown (name_of setting counter) setting world ≡ None → (same : Bool)
          → nat_eq (name_of setting counter) name ≡ same → shown (name_of setting counter) setting later ≡ None
      by none true same =
          let missing = subst (λ some. shown some setting world ≡ None)
          (eqb-true (name_of setting counter) name same) none in
          absurd (false≢true (ap is_some (sym missing ∙ there)))
      by none false apart = elsewhere world later name new is (name_of setting counter) apart ∙ none

  next_free : (object : Contents) (world : World) → AreFree setting world
      → AreFree setting (make object setting world)
  unfolding make
  next_free object world free counter from below =
      let none = free counter (omega (arith, from)) below in
      let apart : name_of setting counter ≢ name_of setting world.next = λ same. omega (arith, same, from) in
      elsewhere world (make object setting world) (name_of setting world.next) object (make_shown setting object world)
      (name_of setting counter) (ne_eqb (name_of setting counter) (name_of setting world.next) apart) ∙ none

  free_part : (object : Contents) (world : World) → world.next < COUNTER_LIMIT → AreFree setting world
      → (fixed : Fixed) → fixed_by setting world (name_of setting world.next) ≡ Some fixed → fixed_of object ≡ fixed
  free_part object world below free fixed here =
      let none = free world.next (omega arith) below in
      absurd (false≢true (ap is_some (sym (ap (option_map fixed_of) none) ∙ here)))

  -- Fixed parts.
  abbrev pub StaysFixed : World → World → Type 0
  StaysFixed world later = AreFree setting world
      → AreFree setting later × KeepsParts (fixed_by setting world) (fixed_by setting later)

  touch_fixed : (name : ℕ) (world : World) → StaysFixed world (touch name setting world)
  unfolding touch
  touch_fixed name world free = (free, λ asked fixed here. here)

  misses_fixed : (parts : Parts) (names : List ℕ) (world : World) → StaysFixed world (touch_missing parts names world)
  unfolding touch_missing
  misses_fixed parts names world free = (free, λ asked fixed here. here)

  replaced_stays : (name : ℕ) (old new : Contents) (world later : World)
      → ((asked : ℕ) → shown asked setting later ≡ cond (nat_eq asked name) (Some new) (shown asked setting world))
      → later.next ≡ world.next → shown name setting world ≡ Some old → fixed_of old ≡ fixed_of new
      → StaysFixed world later
  replaced_stays name old new world later is next there same free = (
    seen_free world later name old new is next there free,
    part_kept world later name new is (seen_part name old new world there same),
  )

  make_fixed : (object : Contents) (world : World) → world.next < COUNTER_LIMIT
      → StaysFixed world (make object setting world)
  make_fixed object world below free = (
    next_free object world free,
    part_kept world (make object setting world) (name_of setting world.next) object (make_shown setting object world)
        (free_part object world below free),
  )

  fixed_same : (world : World) → StaysFixed world world
  fixed_same world free = (free, λ asked fixed here. here)

  fixed_along : (world between later : World) → StaysFixed world between → StaysFixed between later
      → StaysFixed world later
  fixed_along world between later first second free =
      let here = first free in
      let next = second here.0 in
      (next.0, λ asked fixed at. next.1 asked fixed (here.1 asked fixed at))

  new_fixed : (objects : List Contents) (world : World) → world.next + length objects ≤ COUNTER_LIMIT
      → StaysFixed world (with_new objects setting world)
  new_fixed = each_new setting StaysFixed fixed_same fixed_along make_fixed

  pub parts_stay : Kept setting (λ world budget later left. StaysFixed world later)
  parts_stay = of_worlds setting StaysFixed record {
    same = fixed_same;
    along = fixed_along;
    touches = touch_fixed;
    misses = misses_fixed;
    holds = λ name object world there _. replaced_stays name object object world (put name object world)
        (put_shown setting name object world) (put_next name object world) there refl;
    edits = λ name old new world there _ may. replaced_stays name old new world (put name new world)
        (put_shown setting name new world) (put_next name new world) (changed_shown setting name old world there)
        (replaced_fixed name old new world may);
    updates = λ name update old body world there _ may. replaced_stays name old (with_body body old) world
        (put name (with_body body old) (note name update setting world))
        (put_noted_shown setting name update (with_body body old) world)
        (put_noted_next name update (with_body body old) world) there
        (replaced_fixed name old (with_body body old) world may);
    makes = λ objects world below _. new_fixed objects world below;
  }

  -- Soundness.
  abbrev pub StaysSound : World → World → Type 0
  StaysSound world later = AreSound setting world → AreSound setting later

  touch_sound : (name : ℕ) (world : World) → StaysSound world (touch name setting world)
  unfolding touch
  touch_sound name world sound = record {
    serial_bound = sound.serial_bound;
    some_name = sound.some_name;
    next_bound = sound.next_bound;
    free = sound.free;
    named = sound.named;
    each = sound.each;
    kernel = sound.kernel;
    user = sound.user;
  }

  misses_sound : (parts : Parts) (names : List ℕ) (world : World) → StaysSound world (touch_missing parts names world)
  unfolding touch_missing
  misses_sound parts names world sound = record {
    serial_bound = sound.serial_bound;
    some_name = sound.some_name;
    next_bound = sound.next_bound;
    free = sound.free;
    named = sound.named;
    each = sound.each;
    kernel = sound.kernel;
    user = sound.user;
  }

  own_parts : (name : ℕ) (object : Contents) (world : World) → shown name setting world ≡ Some object
      → KeepsParts (fixed_by setting world) (parts_with name object setting world)
  own_parts name object world there asked fixed here = by (nat_eq asked name) refl
    where
      by : (same : Bool) → nat_eq asked name ≡ same
          → cond same (Some (fixed_of object)) (fixed_by setting world asked) ≡ Some fixed
      by true same = sym (ap (option_map fixed_of) there)
          ∙ subst (λ some. fixed_by setting world some ≡ Some fixed) (eqb-true asked name same) here
      by false apart = here

  replaced_sound : (name : ℕ) (old new : Contents) (world later : World)
      → ((asked : ℕ) → shown asked setting later ≡ cond (nat_eq asked name) (Some new) (shown asked setting world))
      → later.next ≡ world.next → shown name setting world ≡ Some old → fixed_of old ≡ fixed_of new
      → fits (parts_with name new setting world) name new ≡ true → StaysSound world later
  replaced_sound name old new world later is next there same fitting sound =
      let stays = replaced_stays name old new world later is next there same sound.free in
      one_more world later name new is sound fitting stays.1 stays.0 next (ap is_some there)

  hold_sound : (name : ℕ) (object : Contents) (world : World) → shown name setting world ≡ Some object
      → StaysSound world (put name object world)
  hold_sound name object world there sound = replaced_sound name object object world (put name object world)
      (put_shown setting name object world) (put_next name object world) there refl
      (fits_more (fixed_by setting world) (parts_with name object setting world)
      (own_parts name object world there) name object (sound.each name object there)) sound

  edit_sound : (name : ℕ) (old new : Contents) (world : World) → get world.changes name ≡ Some old
      → may_replace name old new setting world ≡ true → StaysSound world (put name new world)
  edit_sound name old new world there may = replaced_sound name old new world (put name new world)
      (put_shown setting name new world) (put_next name new world) (changed_shown setting name old world there)
      (replaced_fixed name old new world may) (replaced_fits name old new world may)

  update_sound : (name : ℕ) (update : Update) (old : Contents) (body : Body) (world : World)
      → shown name setting world ≡ Some old → may_replace name old (with_body body old) setting world ≡ true
      → StaysSound world (put name (with_body body old) (note name update setting world))
  update_sound name update old body world there may =
      let new = with_body body old in
      replaced_sound name old new world (put name new (note name update setting world))
      (put_noted_shown setting name update new world) (put_noted_next name update new world) there
      (replaced_fixed name old new world may) (replaced_fits name old new world may)

  -- What is seen after objects are made: the first of them has this name.
  abbrev seen_new : ℕ → List Contents → Objects → Objects
  seen_new name [] seen asked = seen asked
  seen_new name (object ∷ rest) seen asked = cond (nat_eq asked name) (Some object) (seen_new (name + 1) rest seen asked)

  seen_apart : (from name : ℕ) (rest : List Contents) (object : Contents) (seen : Objects) (asked : ℕ) → name < from
      → seen_new from rest (λ other. cond (nat_eq other name) (Some object) (seen other)) asked
      ≡ cond (nat_eq asked name) (Some object) (seen_new from rest seen asked)
  seen_apart from name [] object seen asked below = refl
  seen_apart from name (first ∷ rest) object seen asked below =
      ap (cond (nat_eq asked from) (Some first)) (seen_apart (from + 1) name rest object seen asked (omega (arith, below)))
      ∙ by (nat_eq asked from) (nat_eq asked name) refl refl
    where
      by : (one two : Bool) → nat_eq asked from ≡ one → nat_eq asked name ≡ two
          → cond one (Some first) (cond two (Some object) (seen_new (from + 1) rest seen asked))
          ≡ cond two (Some object) (cond one (Some first) (seen_new (from + 1) rest seen asked))
      by true true is also = absurd (omega (arith, below, eqb-true asked from is, eqb-true asked name also))
      by true false is also = refl
      by false two is also = refl

  next_after : (object : Contents) (world : World)
      → name_of setting (make object setting world).next ≡ name_of setting world.next + 1
  unfolding make
  next_after object world = omega arith

  new_shown : (objects : List Contents) (world : World) (asked : ℕ)
      → shown asked setting (with_new objects setting world)
      ≡ seen_new (name_of setting world.next) objects (λ other. shown other setting world) asked
  new_shown [] world asked = refl
  new_shown (object ∷ rest) world asked =
      let name = name_of setting world.next in
      let made = make object setting world in
      let next : name_of setting made.next ≡ name + 1 = next_after object world in
      new_shown rest made asked
      ∙ (ap (λ from. seen_new from rest (λ other. shown other setting made) asked) next
      ∙ (ap (λ (seen : Objects). seen_new (name + 1) rest seen asked) (fun_ext (make_shown setting object world))
      ∙ seen_apart (name + 1) name rest object (λ other. shown other setting world) asked (omega arith)))

  seen_parts : (name : ℕ) (objects : List Contents) (seen : Objects) (asked : ℕ)
      → option_map fixed_of (seen_new name objects seen asked)
      ≡ with_parts name objects (λ other. option_map fixed_of (seen other)) asked
  seen_parts name [] seen asked = refl
  seen_parts name (object ∷ rest) seen asked =
      by (nat_eq asked name) (seen_new (name + 1) rest seen asked) _ (seen_parts (name + 1) rest seen asked)
    where
      by : (own : Bool) (found : Option Contents) (part : Option Fixed) → option_map fixed_of found ≡ part
          → option_map fixed_of (cond own (Some object) found) ≡ cond own (Some (fixed_of object)) part
      by true found part is = refl
      by false found part is = is

  new_parts_are : (objects : List Contents) (world : World) (asked : ℕ)
      → fixed_by setting (with_new objects setting world) asked ≡ parts_with_new objects setting world asked
  new_parts_are objects world asked = ap (option_map fixed_of) (new_shown objects world asked)
      ∙ seen_parts (name_of setting world.next) objects (λ other. shown other setting world) asked

  -- What is seen then was seen before, or is one of the new objects, which fits.
  abbrev IsNew : Parts → ℕ → ℕ → ℕ → Contents → Type 0
  IsNew parts from upto asked object = (asked < upto) × (fits parts asked object ≡ true)

  old_or_new : (parts : Parts) (name : ℕ) (objects : List Contents) (seen : Objects) (asked : ℕ) (object : Contents)
      → all_fit parts name objects ≡ true → seen_new name objects seen asked ≡ Some object
      → (seen asked ≡ Some object) ⊎ IsNew parts name (name + length objects) asked object
  old_or_new parts name [] seen asked object fitting here = inl here
  old_or_new parts name (first ∷ rest) seen asked object fitting here =
      let tests = and_parts (fits parts name first) (all_fit parts (name + 1) rest) fitting in
      by (nat_eq asked name) refl here tests.0
      (λ later. more (old_or_new parts (name + 1) rest seen asked object tests.1 later))
    where
      more : (seen asked ≡ Some object) ⊎ IsNew parts (name + 1) (name + 1 + length rest) asked object
          → (seen asked ≡ Some object) ⊎ IsNew parts name (name + length (first ∷ rest)) asked object
      more (inl old) = inl old
      more (inr new) = inr (omega (arith, new.0), new.1)

      by : (own : Bool) → nat_eq asked name ≡ own
          → cond own (Some first) (seen_new (name + 1) rest seen asked) ≡ Some object → fits parts name first ≡ true
          → (seen_new (name + 1) rest seen asked ≡ Some object
          → (seen asked ≡ Some object) ⊎ IsNew parts name (name + length (first ∷ rest)) asked object)
          → (seen asked ≡ Some object) ⊎ IsNew parts name (name + length (first ∷ rest)) asked object
      by true own given fit next =
          let at = eqb-true asked name own in
          inr (
            omega (arith, at),
            subst (λ some. fits parts some object ≡ true) (sym at)
                (subst (λ some. fits parts name some ≡ true) (same_Some first object given) fit),
          )
      by false own given fit next = next given

  may_fit : (objects : List Contents) (world : World) → may_make objects setting world ≡ true
      → all_fit (parts_with_new objects setting world) (name_of setting world.next) objects ≡ true
  unfolding may_make
  may_fit objects world may = may

  new_sound : (objects : List Contents) (world : World) → world.next + length objects ≤ COUNTER_LIMIT
      → may_make objects setting world ≡ true → StaysSound world (with_new objects setting world)
  new_sound objects world below may sound = record {
    serial_bound = sound.serial_bound;
    some_name = omega (arith, next, sound.some_name);
    next_bound = omega (arith, next, below);
    free = stays.0;
    named = named_by;
    each = each_by;
    kernel = λ asked needed. some_more (fixed_by setting world asked) (fixed_by setting later asked)
        (stays.1 asked) (sound.kernel asked needed);
    user = known_more (fixed_by setting world) (fixed_by setting later) stays.1 (λ fixed. is_user fixed.kind)
        setting.user sound.user;
  }
    where
      later : World
      later = with_new objects setting world

      next : later.next ≡ world.next + length objects
      next = new_next setting objects world

      stays : AreFree setting later × KeepsParts (fixed_by setting world) (fixed_by setting later)
      stays = new_fixed objects world below sound.free

      which : (asked : ℕ) (object : Contents) → shown asked setting later ≡ Some object
          → (shown asked setting world ≡ Some object) ⊎ IsNew (parts_with_new objects setting world)
          (name_of setting world.next) (name_of setting world.next + length objects) asked object
      which asked object here = old_or_new (parts_with_new objects setting world) (name_of setting world.next) objects
          (λ other. shown other setting world) asked object (may_fit objects world may)
          (sym (new_shown objects world asked) ∙ here)

      named_one : (asked : ℕ) (found : Option Contents) → shown asked setting later ≡ found → is_some found ≡ true
          → asked < 2 ^ 48
      named_one asked None here some = absurd (false≢true some)
      named_one asked (Some object) here some = elim (which asked object here) [
        | inl old ↦ sound.named asked (ap is_some old)
        | inr new ↦ omega (arith, new.0, below, sound.serial_bound)
      ]

      named_by : (asked : ℕ) → is_some (shown asked setting later) ≡ true → asked < 2 ^ 48
      named_by asked some = named_one asked (shown asked setting later) refl some

      each_by : (asked : ℕ) (object : Contents) → shown asked setting later ≡ Some object
          → fits (fixed_by setting later) asked object ≡ true
      each_by asked object here = elim (which asked object here) [
        | inl old ↦ fits_more (fixed_by setting world) (fixed_by setting later) stays.1 asked object
            (sound.each asked object old)
        | inr new ↦ fits_more (parts_with_new objects setting world) (fixed_by setting later)
            (λ some fixed is. new_parts_are objects world some ∙ is) asked object new.1
      ]

  pub soundness_stays : Kept setting (λ world budget later left. StaysSound world later)
  soundness_stays = of_worlds setting StaysSound record {
    same = λ world sound. sound;
    along = λ world between later first second sound. second (first sound);
    touches = touch_sound;
    misses = misses_sound;
    holds = λ name object world there _. hold_sound name object world there;
    edits = λ name old new world there _ may. edit_sound name old new world there may;
    updates = λ name update old body world there _ may. update_sound name update old body world there may;
    makes = new_sound;
  }

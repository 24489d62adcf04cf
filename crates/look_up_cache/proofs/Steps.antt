-- How a world changes without a change that look-ups depend on.
use Rattle.std.proofs.Common.{◌≡◌, ◌∙◌, refl, sym, ap, subst, ℕ, ◌≤◌, Bool, true, false, ◌||◌, cond, nat_eq, Option, Some, None, List, is_some, option_map, arith}
use Rattle.std.specs.FinMap.{get, insert}
use Rattle.std.proofs.lemmas.Bool.{false≢true, eqb-true, eqb-false}
use Rattle.running_objects.proofs.radix_pages_lemmas.Tables.{get-insert_same, get-insert_other}
use Rattle.gem_update.specs.declared.update.Update.{Update}
use Rattle.running_objects.specs.gem_image.Image.{Contents}
use Rattle.running_objects.specs.gem_world.World.{Setting, World, name_of, shown, is_made, is_private, is_among, with_name, touch}
use Rattle.running_objects.specs.gem_world.Changes.{put, make, note}
use Rattle.running_objects.specs.gem_world.Access.{a_read, is_allowed, touches_of, with_touches}
use Rattle.running_objects.specs.object_programs.Guard.{Parts}
use Rattle.running_objects.specs.object_programs.Atom.{touch_missing}
use Rattle.running_objects.proofs.object_programs_lemmas.Worlds.{put_shown, make_shown}
use Rattle.running_objects.proofs.object_programs_lemmas.Falling.{touch_grows, still_folded}
use Rattle.running_objects.proofs.object_programs_lemmas.Frame.{now_there}
use Rattle.look_up_cache.specs.Lasting.{Lasting, lasting_of, is_settled, Still}
use Rattle.look_up_cache.specs.Calm.{Calm}
use Rattle.look_up_cache.proofs.Calms.{Taken, taken}
use Rattle.look_up_cache.proofs.Stays.{settled_stays, allowed_stays}

module _ (setting : Setting) where
  pub still_same : (world : World) → Still setting world world
  still_same world = record {
    objects = λ name object there. ap (option_map lasting_of) there;
    next = omega arith;
    changed = λ name some. some;
    touched = λ name among. among;
  }

  pub still_along : (world between later : World) → Still setting world between → Still setting between later
      → Still setting world later
  still_along world between later first second = record {
    objects = λ name object there.
        let now : Taken (shown name setting between) (lasting_of object) =
        taken (shown name setting between) (lasting_of object) (first.objects name object there) in
        second.objects name now.object now.there ∙ ap (λ (part : Lasting). Some part) now.is;
    next = omega (arith, first.next, second.next);
    changed = λ name some. second.changed name (first.changed name some);
    touched = λ name among. second.touched name (first.touched name among);
  }

  touch_objects : (name : ℕ) (world : World) (asked : ℕ) (object : Contents) → shown asked setting world ≡ Some object
      → option_map lasting_of (shown asked setting (touch name setting world)) ≡ Some (lasting_of object)
  unfolding touch
  touch_objects name world asked object there = ap (option_map lasting_of) there

  touch_nexts : (name : ℕ) (world : World) → world.next ≤ (touch name setting world).next
  unfolding touch
  touch_nexts name world = omega arith

  touch_changed : (name : ℕ) (world : World) (asked : ℕ) → is_some (get world.changes asked) ≡ true
      → is_some (get (touch name setting world).changes asked) ≡ true
  unfolding touch
  touch_changed name world asked some = some

  pub touch_still : (name : ℕ) (world : World) → Still setting world (touch name setting world)
  touch_still name world = record {
    objects = touch_objects name world;
    next = touch_nexts name world;
    changed = touch_changed name world;
    touched = λ asked among. touch_grows setting name world asked among;
  }

  pub misses_still : (parts : Parts) (names : List ℕ) (world : World) → Still setting world (touch_missing parts names world)
  unfolding touch_missing
  misses_still parts names world = record {
    objects = λ asked object there. ap (option_map lasting_of) there;
    next = omega arith;
    changed = λ asked some. some;
    touched = λ asked among. still_folded parts names world.touched asked among;
  }

  pub note_still : (name : ℕ) (update : Update) (world : World) → Still setting world (note name update setting world)
  unfolding note
  note_still name update world = record {
    objects = λ asked object there. ap (option_map lasting_of) there;
    next = omega arith;
    changed = λ asked some. some;
    touched = λ asked among. among;
  }

  some_more : (asked name : ℕ) (new : Contents) (world : World) → is_some (get world.changes asked) ≡ true
      → is_some (get (insert world.changes name new) asked) ≡ true
  some_more asked name new world some = by (nat_eq asked name) refl
    where
      by : (same : Bool) → nat_eq asked name ≡ same → is_some (get (insert world.changes name new) asked) ≡ true
      by true is = ap is_some (get-insert_same world.changes name new asked (eqb-true asked name is))
      by false is = ap is_some (get-insert_other world.changes name new asked (eqb-false asked name is)) ∙ some

  -- one object stands at a name from now on, of which the same lasts, or where there was none
  placed : (name : ℕ) (new : Contents) (world later : World)
      → ((asked : ℕ) → shown asked setting later ≡ cond (nat_eq asked name) (Some new) (shown asked setting world))
      → ((old : Contents) → shown name setting world ≡ Some old → lasting_of new ≡ lasting_of old)
      → (asked : ℕ) (object : Contents) → shown asked setting world ≡ Some object
      → option_map lasting_of (shown asked setting later) ≡ Some (lasting_of object)
  placed name new world later is same asked object there = by (nat_eq asked name) refl
    where
      by : (here : Bool) → nat_eq asked name ≡ here
          → option_map lasting_of (shown asked setting later) ≡ Some (lasting_of object)
      by true here = ap (option_map lasting_of)
          (is asked ∙ ap (λ b. cond b (Some new) (shown asked setting world)) here)
          ∙ ap (λ (part : Lasting). Some part)
          (same object (subst (λ at. shown at setting world ≡ Some object) (eqb-true asked name here) there))
      by false here = ap (option_map lasting_of)
          (is asked ∙ (ap (λ b. cond b (Some new) (shown asked setting world)) here ∙ there))

  put_nexts : (name : ℕ) (new : Contents) (world : World) → world.next ≤ (put name new world).next
  unfolding put
  put_nexts name new world = omega arith

  put_changed : (name : ℕ) (new : Contents) (world : World) (asked : ℕ) → is_some (get world.changes asked) ≡ true
      → is_some (get (put name new world).changes asked) ≡ true
  unfolding put
  put_changed name new world asked some = some_more asked name new world some

  put_touched : (name : ℕ) (new : Contents) (world : World) (asked : ℕ) → is_among asked world.touched ≡ true
      → is_among asked (put name new world).touched ≡ true
  unfolding put
  put_touched name new world asked among = among

  pub put_still : (name : ℕ) (new : Contents) (world : World)
      → ((old : Contents) → shown name setting world ≡ Some old → lasting_of new ≡ lasting_of old)
      → Still setting world (put name new world)
  put_still name new world same = record {
    objects = placed name new world (put name new world) (put_shown setting name new world) same;
    next = put_nexts name new world;
    changed = put_changed name new world;
    touched = put_touched name new world;
  }

  make_nexts : (object : Contents) (world : World) → world.next ≤ (make object setting world).next
  unfolding make
  make_nexts object world = omega arith

  make_changed : (object : Contents) (world : World) (asked : ℕ) → is_some (get world.changes asked) ≡ true
      → is_some (get (make object setting world).changes asked) ≡ true
  unfolding make
  make_changed object world asked some = some_more asked (name_of setting world.next) object world some

  make_touched : (object : Contents) (world : World) (asked : ℕ) → is_among asked world.touched ≡ true
      → is_among asked (make object setting world).touched ≡ true
  unfolding make
  make_touched object world asked among = among

  pub make_still : (object : Contents) (world : World) → shown (name_of setting world.next) setting world ≡ None
      → Still setting world (make object setting world)
  make_still object world free = record {
    objects = placed (name_of setting world.next) object world (make object setting world) (make_shown setting object world)
        (λ old there. absurd (false≢true (ap is_some (sym free ∙ there))));
    next = make_nexts object world;
    changed = make_changed object world;
    touched = make_touched object world;
  }

  -- ---- touches settle

  settled_now : (name : ℕ) (world : World) → is_settled name setting (touch name setting world) ≡ true
  unfolding is_settled touch is_private is_made
  settled_now name world = by (is_private name setting world)
    where
      by : (private : Bool) → (private || is_among name (cond private world.touched (with_name world.touched name))) ≡ true
      by true = refl
      by false = now_there world.touched name

  touches_three : (name : ℕ) (object : Contents) (world : World) → shown name setting world ≡ Some object
      → touch setting.user setting (touch object.segment setting (touch name setting world)) ≡ with_touches name setting world
  unfolding with_touches
  touches_three name object world there = ap (λ found. touches_of name found setting world) (sym there)

  touches_still : (name : ℕ) (found : Option Contents) (world : World) → Still setting world (touches_of name found setting world)
  touches_still name None world = touch_still name world
  touches_still name (Some object) world =
      let once = touch name setting world in
      let twice = touch object.segment setting once in
      still_along world twice (touch setting.user setting twice)
      (still_along world once twice (touch_still name world) (touch_still object.segment once)) (touch_still setting.user twice)

  pub asked_still : (name : ℕ) (world : World) → Still setting world (with_touches name setting world)
  unfolding with_touches
  asked_still name world = touches_still name (shown name setting world) world

  -- an object that was read is calm from then on
  pub calm_now : (name : ℕ) (object : Contents) (world : World) → shown name setting world ≡ Some object
      → is_allowed a_read name setting world ≡ true → Calm name (lasting_of object) setting (with_touches name setting world)
  calm_now name object world there allowed =
      let once : World = touch name setting world in
      let twice : World = touch object.segment setting once in
      let thrice : World = touch setting.user setting twice in
      let rest : Still setting once thrice =
      still_along once twice thrice (touch_still object.segment once) (touch_still setting.user twice) in
      let whole : Still setting world thrice = still_along world once thrice (touch_still name world) rest in
      subst (λ (later : World). Calm name (lasting_of object) setting later) (touches_three name object world there) (record {
        there = whole.objects name object there;
        allowed = allowed_stays setting world thrice whole a_read name object there allowed;
        own = settled_stays setting once thrice rest name (settled_now name world);
        segment = settled_stays setting twice thrice (touch_still setting.user twice) object.segment
            (settled_now object.segment once);
        user = settled_now setting.user twice;
      })

-- What each change of a world leaves: which name comes next, what is seen, and what was made here.
use Rattle.std.proofs.Common.{◌≡◌, ◌≢◌, ◌∙◌, refl, ap, ℕ, ◌+◌, Bool, true, false, cond, nat_eq, Option, Some, None, List}
use Rattle.std.specs.FinMap.{get, insert}
use Rattle.std.specs.Option.{option_or}
use Rattle.std.proofs.lemmas.Bool.{or_from, not_from_true, eqb-true, eqb-false}
use Rattle.gem_world.proofs.radix_pages_lemmas.Tables.{get-insert_same, get-insert_other}
use Rattle.gem_object.specs.Kinds.{is_shared}
use Rattle.gem_world.specs.gem_update.declared.update.Update.{Update}
use Rattle.gem_world.specs.gem_image.Image.{Contents}
use Rattle.gem_world.specs.World.{Setting, World, name_of, before_changes, shown, is_made, touch}
use Rattle.gem_world.specs.Changes.{put, make, note}
use Rattle.gem_world.specs.Access.{touches_of, with_touches}
use Rattle.object_programs.specs.Guard.{Parts, may_change}
use Rattle.object_programs.specs.Atom.{touch_missing}

-- ---- the next name

pub touch_next : (name : ℕ) (setting : Setting) (world : World) → (touch name setting world).next ≡ world.next
unfolding touch
touch_next name setting world = refl

pub misses_next : (parts : Parts) (names : List ℕ) (world : World)
    → (touch_missing parts names world).next ≡ world.next
unfolding touch_missing
misses_next parts names world = refl

pub put_next : (name : ℕ) (object : Contents) (world : World) → (put name object world).next ≡ world.next
unfolding put
put_next name object world = refl

pub note_next : (name : ℕ) (update : Update) (setting : Setting) (world : World)
    → (note name update setting world).next ≡ world.next
unfolding note
note_next name update setting world = refl

pub make_next : (object : Contents) (setting : Setting) (world : World)
    → (make object setting world).next ≡ world.next + 1
unfolding make
make_next object setting world = refl

-- ---- what is seen

module _ (setting : Setting) where
  -- what stands among the changes is seen
  pub changed_shown : (name : ℕ) (old : Contents) (world : World) → get world.changes name ≡ Some old
      → shown name setting world ≡ Some old
  changed_shown name old world there = ap (λ found. option_or found (before_changes name setting)) there

  pub put_here : (name : ℕ) (new : Contents) (world : World) → shown name setting (put name new world) ≡ Some new
  unfolding put
  put_here name new world = ap (λ found. option_or found (before_changes name setting))
      (get-insert_same world.changes name new name refl)

  pub put_elsewhere : (asked name : ℕ) (new : Contents) (world : World) → asked ≢ name
      → shown asked setting (put name new world) ≡ shown asked setting world
  unfolding put
  put_elsewhere asked name new world apart = ap (λ found. option_or found (before_changes asked setting))
      (get-insert_other world.changes name new asked apart)

  pub put_shown : (name : ℕ) (object : Contents) (world : World) (asked : ℕ)
      → shown asked setting (put name object world)
      ≡ cond (nat_eq asked name) (Some object) (shown asked setting world)
  unfolding put
  put_shown name object world asked = by (nat_eq asked name) refl
    where
      by : (same : Bool) → nat_eq asked name ≡ same
          → option_or (get (insert world.changes name object) asked) (before_changes asked setting)
          ≡ cond same (Some object) (shown asked setting world)
      by true is = ap (λ found. option_or found (before_changes asked setting))
          (get-insert_same world.changes name object asked (eqb-true asked name is))
      by false is = ap (λ found. option_or found (before_changes asked setting))
          (get-insert_other world.changes name object asked (eqb-false asked name is))

  pub make_shown : (object : Contents) (world : World) (asked : ℕ)
      → shown asked setting (make object setting world)
      ≡ cond (nat_eq asked (name_of setting world.next)) (Some object) (shown asked setting world)
  unfolding make put
  make_shown object world asked = put_shown (name_of setting world.next) object world asked

  pub note_shown : (asked name : ℕ) (update : Update) (world : World)
      → shown asked setting (note name update setting world) ≡ shown asked setting world
  unfolding note
  note_shown asked name update world = refl

  pub put_noted_shown : (name : ℕ) (update : Update) (new : Contents) (world : World) (asked : ℕ)
      → shown asked setting (put name new (note name update setting world))
      ≡ cond (nat_eq asked name) (Some new) (shown asked setting world)
  put_noted_shown name update new world asked = put_shown name new (note name update setting world) asked
      ∙ ap (cond (nat_eq asked name) (Some new)) (note_shown asked name update world)

module _ (by setting : Setting) where
  shown_among : (name other : ℕ) (found : Option Contents) (world : World)
      → shown other by (touches_of name found setting world) ≡ shown other by world
  unfolding touch
  shown_among name other None world = refl
  shown_among name other (Some object) world = refl

  -- touches leave what is seen, also by another setting
  pub shown_asked : (name other : ℕ) (world : World)
      → shown other by (with_touches name setting world) ≡ shown other by world
  unfolding with_touches
  shown_asked name other world = shown_among name other (shown name setting world) world

-- ---- what was made here

module _ (setting : Setting) where
  made_among : (other name : ℕ) (found : Option Contents) (world : World)
      → is_made other setting (touches_of name found setting world) ≡ is_made other setting world
  unfolding touch is_made
  made_among other name None world = refl
  made_among other name (Some object) world = refl

  pub made_asked : (other name : ℕ) (world : World)
      → is_made other setting (with_touches name setting world) ≡ is_made other setting world
  unfolding with_touches
  made_asked other name world = made_among other name (shown name setting world) world

  pub note_unmade : (asked name : ℕ) (update : Update) (world : World)
      → is_made asked setting (note name update setting world) ≡ is_made asked setting world
  unfolding note is_made
  note_unmade asked name update world = refl

  -- a reduced-conflict object that wasn't made here may not be changed by a put
  pub may_not_change : (name : ℕ) (old : Contents) (world : World) → is_made name setting world ≡ false
      → is_shared old.body ≡ true → may_change name old setting world ≡ false
  unfolding may_change
  may_not_change name old world unmade shared = or_from _ _ unmade (not_from_true _ shared)

-- What touches and accesses leave, and how names are drawn.
use Rattle.std.proofs.Common.{◌≡◌, ◌∙◌, ap, refl, ℕ, ◌+◌, List, [], ◌∷◌, ◌++◌, true, false, ◌&&◌, Bool, ◌≤◌, suc, arith, eq-eqb}
use Rattle.std.specs.Ordering.{nat_cmp}
use Rattle.std.specs.FinMap.{get-empty}
use Rattle.gem_image.specs.Image.{Contents}
use Rattle.gem_update.specs.declared.update.Update.{Update}
use Rattle.gem_world.specs.World.{Setting, World, untouched, name_of, next_name, is_drawn, is_made, touch}
use Rattle.gem_world.specs.Changes.{put, make, note, update_on, updates_on}
use Rattle.gem_image.proofs.radix_pages_lemmas.Tables.{get-insert_same}
use Rattle.std.proofs.lemmas.Bool.{le-leb}
use Rattle.std.proofs.lemmas.List.Elements.{filter_map-append}

pub touched_alone : (name : ℕ) (setting : Setting) (world : World)
    → ((touch name setting world).changes ≡ world.changes)
    × ((touch name setting world).updates ≡ world.updates)
    × ((touch name setting world).next ≡ world.next)
unfolding touch
touched_alone name setting world = (refl, refl, refl)

pub next_drawn : (object : Contents) (setting : Setting) (world : World)
    → (make object setting world).next ≡ world.next + 1
unfolding make
next_drawn object setting world = refl

pub put_not_made : (name : ℕ) (object : Contents) (setting : Setting) (world : World)
    → is_drawn name setting world ≡ false → is_made name setting (put name object world) ≡ false
unfolding put is_made
put_not_made name object setting world free = rw free refl

pub not_noted : (name : ℕ) (update : Update) (setting : Setting) (world : World)
    → is_made name setting world ≡ true → note name update setting world ≡ world
unfolding note
not_noted name update setting world made = rw made refl

no_second : (one : Bool) → (one && false) ≡ false
no_second true = refl
no_second false = refl

pub none_made : (name : ℕ) (setting : Setting) → is_made name setting (untouched setting.first) ≡ false
unfolding is_made
none_made name setting = rw (get-empty nat_cmp name) (no_second (is_drawn name setting (untouched setting.first)))

-- the next name is made once it is drawn
pub next_made : (object : Contents) (setting : Setting) (world : World)
    → setting.first ≤ world.next
    → is_made (next_name setting world) setting (make object setting world) ≡ true
unfolding make is_made
next_made object setting world from = rw (
  le-leb (name_of setting setting.first) (next_name setting world) (omega (arith, from)),
  le-leb (suc (next_name setting world)) (name_of setting (world.next + 1)) (omega arith),
  get-insert_same world.changes (next_name setting world) object (next_name setting world) refl,
) refl

pub noted : (name : ℕ) (update : Update) (setting : Setting) (world : World)
    → is_made name setting world ≡ false
    → updates_on name (note name update setting world).updates
    ≡ updates_on name world.updates ++ update ∷ []
unfolding note
noted name update setting world old = rw old
    (filter_map-append (update_on name) world.updates ((name, update) ∷ [])
    ∙ ap (λ (more : List Update). updates_on name world.updates ++ more)
    (rw (eq-eqb name name refl) refl))

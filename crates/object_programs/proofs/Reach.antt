-- What was written, made or updated has a name that was drawn here, or was there before.
use Rattle.std.proofs.Common.{◌≡◌, ◌∙◌, refl, sym, ap, subst, ℕ, ◌+◌, ◌≤◌, true, ◌&&◌, nat_le, nat_lt, Option, Some, None, List, is_some, inl, inr, ◌⊎◌, arith}
use Rattle.std.specs.FinMap.{get, insert}
use Rattle.std.specs.Option.{option_or}
use Rattle.std.proofs.lemmas.Bool.{and_parts, and_from, cases_eq, ltb-true, le-leb, lt-ltb}
use Rattle.gem_world.proofs.radix_pages_lemmas.Tables.{get-insert_other}
use Rattle.gem_world.specs.gem_update.declared.update.Update.{Update}
use Rattle.gem_world.specs.gem_image.Image.{Contents}
use Rattle.gem_world.specs.World.{Setting, World, name_of, before_changes, shown, is_drawn, touch}
use Rattle.gem_world.specs.Changes.{with_body, put, make, note}
use Rattle.object_programs.specs.Guard.{Parts}
use Rattle.object_programs.specs.Atom.{touch_missing}
use Rattle.object_programs.specs.Laws.{IsInReach}
use Rattle.object_programs.proofs.Kept.{Kept, of_worlds, each_new}
use Rattle.object_programs.proofs.Worlds.{changed_shown, note_shown}

module _ (setting : Setting) where
  abbrev pub StaysInReach : World → World → Type 0
  StaysInReach world later = IsInReach setting world → IsInReach setting later

  touch_reach : (name : ℕ) (world : World) → StaysInReach world (touch name setting world)
  unfolding touch
  touch_reach name world reach = record { begun = reach.begun; own = reach.own }

  misses_reach : (parts : Parts) (names : List ℕ) (world : World)
      → StaysInReach world (touch_missing parts names world)
  unfolding touch_missing
  misses_reach parts names world reach = record { begun = reach.begun; own = reach.own }

  noted_reach : (name : ℕ) (update : Update) (world : World)
      → StaysInReach world (note name update setting world)
  unfolding note
  noted_reach name update world reach = record { begun = reach.begun; own = reach.own }

  -- a name that is seen is within reach
  seen_own : (name : ℕ) (found : Option Contents) (object : Contents) (world : World)
      → (is_some found ≡ true → (is_drawn name setting world ≡ true) ⊎ (is_some (before_changes name setting) ≡ true))
      → option_or found (before_changes name setting) ≡ Some object
      → (is_drawn name setting world ≡ true) ⊎ (is_some (before_changes name setting) ≡ true)
  seen_own name None object world own there = inr (ap is_some there)
  seen_own name (Some found) object world own there = own refl

  put_reach : (name : ℕ) (old new : Contents) (world : World) → shown name setting world ≡ Some old
      → StaysInReach world (put name new world)
  unfolding put
  put_reach name old new world there reach = record { begun = reach.begun; own = own_by }
    where
      own_by : (asked : ℕ) → is_some (get (insert world.changes name new) asked) ≡ true
          → (is_drawn asked setting world ≡ true) ⊎ (is_some (before_changes asked setting) ≡ true)
      own_by asked some = elim (cases_eq asked name) [
        | inl same ↦ subst (λ at. (is_drawn at setting world ≡ true) ⊎ (is_some (before_changes at setting) ≡ true)) (sym same)
            (seen_own name (get world.changes name) old world (reach.own name) there)
        | inr apart ↦ reach.own asked (sym (ap is_some (get-insert_other world.changes name new asked apart)) ∙ some)
      ]

  drawn_now : (world : World) → setting.first ≤ world.next
      → (nat_le (name_of setting setting.first) (name_of setting world.next)
      && nat_lt (name_of setting world.next) (name_of setting (world.next + 1))) ≡ true
  drawn_now world begun =
      let low = name_of setting setting.first in
      let name = name_of setting world.next in
      let high = name_of setting (world.next + 1) in
      and_from (nat_le low name) (nat_lt name high) (le-leb low name (omega (arith, begun)))
      (lt-ltb name high (omega arith))

  drawn_later : (world : World) (name : ℕ) → is_drawn name setting world ≡ true
      → (nat_le (name_of setting setting.first) name && nat_lt name (name_of setting (world.next + 1))) ≡ true
  drawn_later world name drawn =
      let parts = and_parts (nat_le (name_of setting setting.first) name)
      (nat_lt name (name_of setting world.next)) drawn in
      let below = ltb-true name (name_of setting world.next) parts.1 in
      let high = name_of setting (world.next + 1) in
      and_from (nat_le (name_of setting setting.first) name) (nat_lt name high) parts.0
      (lt-ltb name high (omega (arith, below)))

  make_reach : (object : Contents) (world : World) → StaysInReach world (make object setting world)
  unfolding make
  make_reach object world reach = record { begun = omega (arith, reach.begun); own = own_by }
    where
      own_by : (asked : ℕ) → is_some (get (insert world.changes (name_of setting world.next) object) asked) ≡ true
          → ((nat_le (name_of setting setting.first) asked && nat_lt asked (name_of setting (world.next + 1))) ≡ true)
          ⊎ (is_some (before_changes asked setting) ≡ true)
      own_by asked some = elim (cases_eq asked (name_of setting world.next)) [
        | inl same ↦ inl (subst (λ at. (nat_le (name_of setting setting.first) at
            && nat_lt at (name_of setting (world.next + 1))) ≡ true) (sym same) (drawn_now world reach.begun))
        | inr apart ↦ elim (reach.own asked (sym (ap is_some
            (get-insert_other world.changes (name_of setting world.next) object asked apart)) ∙ some)) [
              | inl drawn ↦ inl (drawn_later world asked drawn)
              | inr there ↦ inr there
            ]
      ]

  pub reach_stays : Kept setting (λ world budget later left. StaysInReach world later)
  reach_stays = of_worlds setting StaysInReach record {
    same = λ world reach. reach;
    along = λ world between later first second reach. second (first reach);
    touches = touch_reach;
    misses = misses_reach;
    holds = λ name object world there _. put_reach name object object world there;
    edits = λ name old new world there _ _. put_reach name old new world (changed_shown setting name old world there);
    updates = λ name update old body world there _ _ reach.
        put_reach name old (with_body body old) (note name update setting world)
        (note_shown setting name name update world ∙ there) (noted_reach name update world reach);
    makes = λ objects world below _. each_new setting StaysInReach (λ world reach. reach)
        (λ world between later first second reach. second (first reach))
        (λ object world _. make_reach object world) objects world below;
  }

-- What a run left where ordinary objects were as they had been, seen over the place that came later: it
-- is sound there, too.
use Rattle.std.proofs.Common.{◌≡◌, ◌∙◌, inl, inr, refl, sym, ap, subst, ℕ, ◌+◌, ◌-◌, ◌*◌, ◌^◌, ◌<◌, ◌≤◌, true, nat_le, nat_lt, Option, Some, None, is_some, option_map, arith}
use Rattle.std.specs.List.{AllByRecursion}
use Rattle.std.specs.FinMap.{get, get-empty}
use Rattle.std.specs.Option.{option_or}
use Rattle.std.specs.Ordering.{nat_cmp}
use Rattle.std.proofs.lemmas.Bool.{false≢true, and_parts, leb-true, ltb-true}
use Rattle.std.proofs.lemmas.Option.{none-some, same_Some}
use Rattle.gem_update.specs.References.{names_in_update}
use Rattle.commit_check.specs.gem_image.Image.{Image, Contents, objects_in}
use Rattle.commit_check.specs.gem_world.World.{Setting, World, untouched, name_of, as_of, before_changes, shown, is_drawn}
use Rattle.gem_meaning.specs.object_programs.Fixed.{Fixed, fixed_of, fixed_by}
use Rattle.gem_meaning.specs.object_programs.Guard.{is_user, fits}
use Rattle.gem_meaning.specs.object_programs.Laws.{begun_at, Stays, KeepsParts, IsInReach, AreSound}
use Rattle.gem_meaning.proofs.object_programs_lemmas.Admits.{shown_first}
use Rattle.gem_meaning.proofs.object_programs_lemmas.AtPlace.{sound_at}
use Rattle.gem_meaning.proofs.object_programs_lemmas.Bases.{fixed_stays}
use Rattle.gem_meaning.proofs.object_programs_lemmas.Guards.{fits_more, known_more}
use Rattle.commit_soundness.proofs.Lists.{all_weaker}
use Rattle.commit_soundness.proofs.Seen.{IsSeen, mapped_some}
use Rattle.commit_soundness.proofs.Bases.{as_of_some, some_as_of, placed_first, stays_through}
use Rattle.commit_soundness.proofs.Updates.{IsBrought, Brings}

module _ (ordinary place view : Image) (user serial first : ℕ) (world : World) where
  -- what was run on, what the commit finds, and the place alone
  abbrev ran : Setting
  ran = begun_at ordinary view user serial first

  abbrev moved : Setting
  moved = begun_at place view user serial first

  abbrev at_place : Setting
  at_place = begun_at place place user serial first

  abbrev begin : World
  begin = untouched first

  module _ (below : Stays view ordinary) (above : Stays ordinary place)
      (placed : AreSound at_place begin) (viewed : AreSound (begun_at view view user serial first) begin)
      (sound : AreSound ran world) (keeps : KeepsParts (fixed_by ran begin) (fixed_by ran world))
      (reach : IsInReach ran world) where
    stays : Stays view place
    stays = stays_through view ordinary place below above

    -- what was seen is seen, with its fixed part
    pub from_ran : KeepsParts (fixed_by ran world) (fixed_by moved world)
    from_ran name fixed is = fixed_stays (get world.changes name) (objects_in ordinary name) (objects_in place name)
        (objects_in view name) (above name) fixed is

    begun : AreSound moved begin
    begun = sound_at place view user serial first stays placed viewed

    -- ---- fixed parts of the place are seen

    -- the run drew no name of the place
    none_drawn : (name : ℕ) (object : Contents) → objects_in place name ≡ Some object
        → is_drawn name ran world ≡ true → ⊥
    none_drawn name object here drawn =
        let both = and_parts (nat_le (name_of ran first) name) (nat_lt name (name_of ran world.next)) drawn in
        let from = leb-true (name_of ran first) name both.0 in
        let before = ltb-true name (name_of ran world.next) both.1 in
        let bound = sound.next_bound in
        let is : name_of ran (name - serial * 2 ^ 24) ≡ name = omega (arith, from) in
        let free = placed.free (name - serial * 2 ^ 24) (omega (arith, from)) (omega (arith, from, before, bound)) in
        none-some object (sym free ∙ (ap (λ at. shown at at_place begin) is
        ∙ (sym (shown_first place user serial first name) ∙ here)))

    -- what the run changed has the fixed part that stands at the place
    changed_part : (name : ℕ) (object changed : Contents) → objects_in place name ≡ Some object
        → get world.changes name ≡ Some changed → fixed_of changed ≡ fixed_of object
    changed_part name object changed here at = elim (reach.own name (ap is_some at)) [
      | inl drawn ↦ absurd (none_drawn name object here drawn)
      | inr before ↦ by (objects_in ordinary name) refl
          (as_of_some (objects_in ordinary name) (objects_in view name) before)
    ]
      where
        by : (found : Option Contents) → objects_in ordinary name ≡ found → is_some found ≡ true
            → fixed_of changed ≡ fixed_of object
        by None there some = absurd (false≢true some)
        by (Some own) there some =
            let now : fixed_by ran world name ≡ Some (fixed_of changed)
            = ap (λ found. option_map fixed_of (option_or found (before_changes name ran))) at in
            let kept = keeps name (fixed_of own) (placed_first ran below name own there) in
            same_Some (fixed_of changed) (fixed_of object)
            (sym now ∙ (kept ∙ (sym (above name own there) ∙ ap (option_map fixed_of) here)))

    place_part : (name : ℕ) (object : Contents) → objects_in place name ≡ Some object
        → fixed_by moved world name ≡ Some (fixed_of object)
    place_part name object here = by (get world.changes name) refl
      where
        by : (found : Option Contents) → get world.changes name ≡ found
            → fixed_by moved world name ≡ Some (fixed_of object)
        by None at =
            ap (λ found. option_map fixed_of (option_or found (before_changes name moved)))
            (at ∙ sym (get-empty nat_cmp name)) ∙ placed_first moved stays name object here
        by (Some changed) at =
            ap (λ found. option_map fixed_of (option_or found (before_changes name moved))) at
            ∙ ap Some (changed_part name object changed here at)

    first_seen : (name : ℕ) → shown name moved begin ≡ before_changes name moved
    first_seen name = ap (λ found. option_or found (before_changes name moved)) (get-empty nat_cmp name)

    pub moved_keeps : KeepsParts (fixed_by moved begin) (fixed_by moved world)
    moved_keeps name fixed is = by (objects_in place name) refl
      where
        by : (found : Option Contents) → objects_in place name ≡ found → fixed_by moved world name ≡ Some fixed
        by None here = absurd (none-some fixed
            (sym (ap (option_map fixed_of) (first_seen name ∙ ap (λ own. as_of own (objects_in view name)) here)) ∙ is))
        by (Some object) here = place_part name object here ∙ (sym (placed_first moved stays name object here) ∙ is)

    -- ---- soundness

    unchanged : (name : ℕ) → get world.changes name ≡ None → shown name moved world ≡ shown name moved begin
    unchanged name at = ap (λ found. option_or found (before_changes name moved)) (at ∙ sym (get-empty nat_cmp name))

    changed_here : (name : ℕ) (object : Contents) → get world.changes name ≡ Some object
        → shown name moved world ≡ shown name ran world
    changed_here name object at =
        ap (λ found. option_or found (before_changes name moved)) at
        ∙ sym (ap (λ found. option_or found (before_changes name ran)) at)

    -- what is seen was seen, or it was so before anything was changed
    shown_by : (name : ℕ) (P : Option Contents → Type 0) → P (shown name ran world) → P (shown name moved begin)
        → P (shown name moved world)
    shown_by name P ran_holds first_holds = by (get world.changes name) refl
      where
        by : (found : Option Contents) → get world.changes name ≡ found → P (shown name moved world)
        by None at = subst P (sym (unchanged name at)) first_holds
        by (Some object) at = subst P (sym (changed_here name object at)) ran_holds

    pub moved_sound : AreSound moved world
    moved_sound = record {
      serial_bound = sound.serial_bound;
      some_name = sound.some_name;
      next_bound = sound.next_bound;
      free = λ counter from under.
          let start = reach.begun in
          shown_by (name_of moved counter) (λ found. found ≡ None) (sound.free counter from under)
          (begun.free counter (omega (arith, start, from)) under);
      named = λ name. shown_by name (λ found. is_some found ≡ true → name < 2 ^ 48) (sound.named name) (begun.named name);
      each = λ name object. shown_by name
          (λ found. found ≡ Some object → fits (fixed_by moved world) name object ≡ true)
          (λ here. fits_more (fixed_by ran world) (fixed_by moved world) from_ran name object
          (sound.each name object here))
          (λ here. fits_more (fixed_by moved begin) (fixed_by moved world) moved_keeps name object
          (begun.each name object here));
      kernel = λ name needed. some_kept name (begun.kernel name needed);
      user = known_more (fixed_by moved begin) (fixed_by moved world) moved_keeps (λ fixed. is_user fixed.kind)
          user begun.user;
    }
      where
        some_kept : (name : ℕ) → is_some (fixed_by moved begin name) ≡ true → is_some (fixed_by moved world name) ≡ true
        some_kept name some = by (fixed_by moved begin name) refl some
          where
            by : (found : Option Fixed) → fixed_by moved begin name ≡ found → is_some found ≡ true
                → is_some (fixed_by moved world name) ≡ true
            by None at given = absurd (false≢true given)
            by (Some fixed) at given = ap is_some (moved_keeps name fixed at)

    -- ---- reach, and what is brought

    pub moved_reach : IsInReach moved world
    moved_reach = record {
      begun = reach.begun;
      own = λ name some. elim (reach.own name some) [
        | inl drawn ↦ inl drawn
        | inr before ↦ inr (some_as_of (objects_in place name) (objects_in view name)
            (there name (as_of_some (objects_in ordinary name) (objects_in view name) before)))
      ];
    }
      where
        there : (name : ℕ) → is_some (objects_in ordinary name) ≡ true → is_some (objects_in place name) ≡ true
        there name some = by (objects_in ordinary name) refl some
          where
            by : (found : Option Contents) → objects_in ordinary name ≡ found → is_some found ≡ true
                → is_some (objects_in place name) ≡ true
            by None at given = absurd (false≢true given)
            by (Some own) at given = sym (mapped_some fixed_of (objects_in place name)) ∙ ap is_some (above name own at)

    seen_moved : (name : ℕ) → IsSeen ran world name → IsSeen moved world name
    seen_moved name seen = by (shown name ran world) refl seen
      where
        by : (found : Option Contents) → shown name ran world ≡ found → is_some found ≡ true → IsSeen moved world name
        by None at given = absurd (false≢true given)
        by (Some object) at given = sym (mapped_some fixed_of (shown name moved world))
            ∙ ap is_some (from_ran name (fixed_of object) (ap (option_map fixed_of) at))

    pub moved_brings : Brings ran world → Brings moved world
    moved_brings brings = all_weaker (IsBrought ran world) (IsBrought moved world)
        (λ noted brought. (
          all_weaker (IsSeen ran world) (IsSeen moved world) seen_moved (names_in_update noted.1) brought.0,
          brought.1,
        )) world.updates brings

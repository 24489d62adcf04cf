-- Sound objects at a place and at a view are sound together: ordinary ones as of the place, and
-- reduced-conflict ones as of the view.
use Rattle.std.proofs.Common.{◌≡◌, ◌∙◌, refl, sym, ap, subst, ℕ, Bool, true, false, cond, Option, Some, None, option_map, is_some}
use Rattle.std.specs.FinMap.{get-empty}
use Rattle.std.specs.Option.{option_or}
use Rattle.std.specs.Ordering.{nat_cmp}
use Rattle.std.proofs.lemmas.Bool.{false≢true}
use Rattle.std.proofs.lemmas.Option.{same_Some}
use Rattle.gem_object.specs.Kinds.{is_shared}
use Rattle.gem_world.specs.gem_image.Image.{Image, Contents, objects_in}
use Rattle.gem_world.specs.World.{Setting, World, untouched, name_of, as_of, before_changes, shown}
use Rattle.object_programs.specs.Fixed.{fixed_of, fixed_by}
use Rattle.object_programs.specs.Guard.{is_user, fits}
use Rattle.object_programs.specs.Laws.{Stays, KeepsParts, AreSound, begun_at}
use Rattle.object_programs.proofs.Admits.{shown_first}
use Rattle.object_programs.proofs.Guards.{fits_more, known_more}

part_same : (shared : Bool) (viewed object : Contents) → fixed_of object ≡ fixed_of viewed
    → fixed_of (cond shared viewed object) ≡ fixed_of object
part_same true viewed object same = sym same
part_same false viewed object same = refl

module _ (place view : Image) (user serial first : ℕ) (stays : Stays view place) where
  abbrev mixed : Setting
  mixed = begun_at place view user serial first

  abbrev at_place : Setting
  at_place = begun_at place place user serial first

  abbrev at_view : Setting
  at_view = begun_at view view user serial first

  abbrev begin : World
  begin = untouched first

  shown_mixed : (name : ℕ) → shown name mixed begin ≡ as_of (objects_in place name) (objects_in view name)
  shown_mixed name = ap (λ found. option_or found (before_changes name mixed)) (get-empty nat_cmp name)

  -- fixed parts are those of the place
  parts_by : (here there : Option Contents)
      → ((object : Contents) → there ≡ Some object → option_map fixed_of here ≡ Some (fixed_of object))
      → option_map fixed_of (as_of here there) ≡ option_map fixed_of here
  parts_by None there same = refl
  parts_by (Some object) None same = refl
  parts_by (Some object) (Some viewed) same = ap Some (part_same (is_shared object.body) viewed object
      (same_Some (fixed_of object) (fixed_of viewed) (same viewed refl)))

  parts_mixed : (name : ℕ) → fixed_by mixed begin name ≡ fixed_by at_place begin name
  parts_mixed name = ap (option_map fixed_of) (shown_mixed name)
      ∙ (parts_by (objects_in place name) (objects_in view name) (stays name)
      ∙ ap (option_map fixed_of) (shown_first place user serial first name))

  from_place : KeepsParts (fixed_by at_place begin) (fixed_by mixed begin)
  from_place name fixed is = parts_mixed name ∙ is

  from_view : KeepsParts (fixed_by at_view begin) (fixed_by mixed begin)
  from_view name fixed is = by (objects_in view name) refl
      (ap (option_map fixed_of) (shown_first view user serial first name) ∙ is)
    where
      by : (found : Option Contents) → objects_in view name ≡ found → option_map fixed_of found ≡ Some fixed
          → fixed_by mixed begin name ≡ Some fixed
      by None here given = absurd (false≢true (ap is_some given))
      by (Some object) here given = parts_mixed name
          ∙ (ap (option_map fixed_of) (sym (shown_first place user serial first name))
          ∙ (stays name object here ∙ given))

  -- what is seen stands at the place, or at the view
  fits_by : (shared : Bool) (name : ℕ) (viewed object found : Contents)
      → fits (fixed_by mixed begin) name viewed ≡ true → fits (fixed_by mixed begin) name object ≡ true
      → Some (cond shared viewed object) ≡ Some found → fits (fixed_by mixed begin) name found ≡ true
  fits_by true name viewed object found first_fits second_fits is =
      subst (λ some. fits (fixed_by mixed begin) name some ≡ true) (same_Some viewed found is) first_fits
  fits_by false name viewed object found first_fits second_fits is =
      subst (λ some. fits (fixed_by mixed begin) name some ≡ true) (same_Some object found is) second_fits

  each_by : (name : ℕ) (here there : Option Contents) (found : Contents)
      → ((object : Contents) → here ≡ Some object → fits (fixed_by mixed begin) name object ≡ true)
      → ((object : Contents) → there ≡ Some object → fits (fixed_by mixed begin) name object ≡ true)
      → as_of here there ≡ Some found → fits (fixed_by mixed begin) name found ≡ true
  each_by name None there found placed viewed is = absurd (false≢true (ap is_some is))
  each_by name (Some object) None found placed viewed is =
      subst (λ some. fits (fixed_by mixed begin) name some ≡ true) (same_Some object found is) (placed object refl)
  each_by name (Some object) (Some other) found placed viewed is =
      fits_by (is_shared object.body) name other object found (viewed other refl) (placed object refl) is

  none_by : (here there : Option Contents) → here ≡ None → as_of here there ≡ None
  none_by None there none = refl
  none_by (Some object) there none = absurd (false≢true (ap is_some (sym none)))

  some_by : (here there : Option Contents) → is_some (as_of here there) ≡ true → is_some here ≡ true
  some_by None there some = some
  some_by (Some object) there some = refl

  pub sound_at : AreSound at_place begin → AreSound at_view begin → AreSound mixed begin
  sound_at placed viewed = record {
    serial_bound = placed.serial_bound;
    some_name = placed.some_name;
    next_bound = placed.next_bound;
    free = λ counter from below. shown_mixed (name_of mixed counter)
        ∙ none_by (objects_in place (name_of mixed counter)) (objects_in view (name_of mixed counter))
        (shown_first place user serial first (name_of mixed counter) ∙ placed.free counter from below);
    named = λ name some. placed.named name (sym (ap is_some (shown_first place user serial first name))
        ∙ some_by (objects_in place name) (objects_in view name) (sym (ap is_some (shown_mixed name)) ∙ some));
    each = λ name found is. each_by name (objects_in place name) (objects_in view name) found
        (λ object here. fits_more (fixed_by at_place begin) (fixed_by mixed begin) from_place name object
        (placed.each name object (sym (shown_first place user serial first name) ∙ here)))
        (λ object here. fits_more (fixed_by at_view begin) (fixed_by mixed begin) from_view name object
        (viewed.each name object (sym (shown_first view user serial first name) ∙ here)))
        (sym (shown_mixed name) ∙ is);
    kernel = λ name needed. ap is_some (parts_mixed name) ∙ placed.kernel name needed;
    user = known_more (fixed_by at_place begin) (fixed_by mixed begin) from_place (λ fixed. is_user fixed.kind)
        user placed.user;
  }

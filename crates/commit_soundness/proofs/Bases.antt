-- What was at the place before anything is done, among what is seen when all is done.
use Rattle.std.proofs.Common.{◌≡◌, ◌∙◌, ◌⊎◌, inl, inr, refl, sym, ap, ℕ, Bool, true, false, cond, Option, Some, None, is_some, option_map, arith}
use Rattle.std.specs.FinMap.{get, get-empty}
use Rattle.std.specs.Option.{option_or}
use Rattle.std.specs.Ordering.{nat_cmp}
use Rattle.std.proofs.lemmas.Bool.{false≢true, and_from}
use Rattle.std.proofs.lemmas.Option.{same_Some}
use Rattle.commit_check.specs.gem_object.Kinds.{is_shared}
use Rattle.commit_check.specs.gem_image.Image.{Image, Contents, objects_in}
use Rattle.commit_check.specs.gem_world.World.{Setting, World, untouched, as_of, before_changes, is_drawn, is_made}
use Rattle.gem_meaning.specs.object_programs.Fixed.{fixed_of, fixed_by}
use Rattle.gem_meaning.specs.object_programs.Laws.{Stays, KeepsParts, IsInReach}
use Rattle.gem_meaning.proofs.object_programs_lemmas.Bases.{some_there}
use Rattle.commit_soundness.proofs.Seen.{IsSeen}

chosen_part : (shared : Bool) (viewed object : Contents) → fixed_of object ≡ fixed_of viewed
    → fixed_of (cond shared viewed object) ≡ fixed_of object
chosen_part true viewed object same = sym same
chosen_part false viewed object same = refl

as_of_part : (here there : Option Contents) (object : Contents) → here ≡ Some object
    → ((viewed : Contents) → there ≡ Some viewed → option_map fixed_of here ≡ Some (fixed_of viewed))
    → option_map fixed_of (as_of here there) ≡ Some (fixed_of object)
as_of_part None there object here stays = absurd (false≢true (ap is_some here))
as_of_part (Some own) None object here stays = ap (option_map fixed_of) here
as_of_part (Some own) (Some viewed) object here stays =
    ap Some (chosen_part (is_shared own.body) viewed own
    (same_Some (fixed_of own) (fixed_of viewed) (stays viewed refl)))
    ∙ ap (option_map fixed_of) here

pub as_of_some : (here there : Option Contents) → is_some (as_of here there) ≡ true → is_some here ≡ true
as_of_some None there some = some
as_of_some (Some object) there some = refl

pub some_as_of : (here there : Option Contents) → is_some here ≡ true → is_some (as_of here there) ≡ true
some_as_of None there some = some
some_as_of (Some object) None some = refl
some_as_of (Some object) (Some viewed) some = refl

-- objects stay from the first image to the last, where they stay in between
pub stays_through : (first between last : Image) → Stays first between → Stays between last → Stays first last
stays_through first between last before after name object here =
    let found = some_there (objects_in between name) (fixed_of object) (before name object here) in
    after name found.0 found.1 ∙ ap Some found.2

module _ (setting : Setting) where
  pub placed_first : Stays setting.view setting.place → (name : ℕ) (object : Contents)
      → objects_in setting.place name ≡ Some object
      → fixed_by setting (untouched setting.first) name ≡ Some (fixed_of object)
  placed_first stays name object here =
      ap (λ found. option_map fixed_of (option_or found (before_changes name setting))) (get-empty nat_cmp name)
      ∙ as_of_part (objects_in setting.place name) (objects_in setting.view name) object here (stays name)

  -- an object of the place is seen, with its fixed part
  pub placed_known : (world : World) → Stays setting.view setting.place
      → KeepsParts (fixed_by setting (untouched setting.first)) (fixed_by setting world)
      → (name : ℕ) (object : Contents) → objects_in setting.place name ≡ Some object
      → fixed_by setting world name ≡ Some (fixed_of object)
  placed_known world stays keeps name object here = keeps name (fixed_of object) (placed_first stays name object here)

  before_placed : (name : ℕ) → is_some (before_changes name setting) ≡ true
      → is_some (objects_in setting.place name) ≡ true
  before_placed name some = as_of_some (objects_in setting.place name) (objects_in setting.view name) some

  drawn_made : (world : World) (name : ℕ) → is_drawn name setting world ≡ true
      → is_some (get world.changes name) ≡ true → is_made name setting world ≡ true
  unfolding is_made
  drawn_made world name drawn some = and_from (is_drawn name setting world) _ drawn some

  -- what is changed was at the place, or it was made
  pub changed_from : (world : World) → IsInReach setting world → (name : ℕ)
      → is_some (get world.changes name) ≡ true
      → (is_some (objects_in setting.place name) ≡ true) ⊎ (is_made name setting world ≡ true)
  changed_from world reach name some = elim (reach.own name some) [
    | inl drawn ↦ inr (drawn_made world name drawn some)
    | inr before ↦ inl (before_placed name before)
  ]

  -- what is seen was at the place, or it was made
  pub seen_from : (world : World) → IsInReach setting world → (name : ℕ) → IsSeen setting world name
      → (is_some (objects_in setting.place name) ≡ true) ⊎ (is_made name setting world ≡ true)
  seen_from world reach name seen = by (get world.changes name) refl seen
    where
      by : (found : Option Contents) → get world.changes name ≡ found
          → is_some (option_or found (before_changes name setting)) ≡ true
          → (is_some (objects_in setting.place name) ≡ true) ⊎ (is_made name setting world ≡ true)
      by None at some = inl (before_placed name some)
      by (Some object) at some = changed_from world reach name (ap is_some at)

  -- before anything is done all is in reach
  pub begun_in_reach : IsInReach setting (untouched setting.first)
  begun_in_reach = record {
    begun = omega arith;
    own = λ name some. absurd (false≢true (sym (ap is_some (get-empty nat_cmp name)) ∙ some));
  }

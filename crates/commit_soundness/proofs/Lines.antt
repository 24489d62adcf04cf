-- The guard's test where other objects are left out: it goes the same where all that an object names,
-- and the superclasses of what is there, are kept.
use Rattle.std.proofs.Common.{◌≡◌, ◌∙◌, refl, sym, ap, subst, ℕ, zero, suc, Bool, true, false, ◌||◌, nat_eq, Option, Some, None, List, [], ◌∷◌, ◌++◌, option_map}
use Rattle.std.specs.List.{AllByRecursion}
use Rattle.std.specs.Option.{option_to_list}
use Rattle.std.proofs.lemmas.Bool.{false≢true, eqb-true}
use Rattle.std.proofs.lemmas.Option.{none-some, same_Some}
use Rattle.commit_check.specs.gem_object.References.{names_in_body}
use Rattle.commit_check.specs.gem_object.declared.body.Body.{Body}
use Rattle.commit_check.specs.gem_object.declared.body.Body.TheVariants as body
use Rattle.commit_check.specs.gem_image.Image.{Contents, Objects}
use Rattle.gem_meaning.specs.gem_sound.Sound.{names_in}
use Rattle.commit_check.specs.gem_world.World.{is_among}
use Rattle.gem_meaning.specs.object_programs.Fixed.{ClassPart, class_part, Fixed, fixed_of}
use Rattle.gem_meaning.specs.object_programs.Guard.{Parts, chain_limit, fits, line_above, line_of_class, line_of_part, line_within, line_at, asked_names}
use Rattle.gem_meaning.proofs.object_programs_lemmas.Guards.{SameOn, fits_same}
use Rattle.commit_soundness.proofs.Lists.{all_both}

module _ (P : ℕ → Type 0) where
  -- what holds of each of the names holds of one among them
  among_holds : (names : List ℕ) → AllByRecursion P names → (name : ℕ) → is_among name names ≡ true → P name
  among_holds [] all name among = absurd (false≢true among)
  among_holds (first ∷ rest) all name among = by (nat_eq name first) refl among (among_holds rest all.1 name)
    where
      by : (same : Bool) → nat_eq name first ≡ same → (same || is_among name rest) ≡ true
          → (is_among name rest ≡ true → P name) → P name
      by true is given later = subst P (sym (eqb-true name first is)) all.0
      by false is given later = later given

-- what a class names as its superclass
superclass_held : (P : ℕ → Type 0) (of : Body) (part : ClassPart) (superclass : ℕ) → class_part of ≡ Some part
    → part.superclass ≡ Some superclass → AllByRecursion P (names_in_body of) → P superclass
superclass_held P (body.Class class) part superclass is above all =
    let same : class.superclass ≡ Some superclass
    = ap (λ (some : ClassPart). some.superclass) (same_Some _ part is) ∙ above in
    (subst (λ found. AllByRecursion P (option_to_list found)) same all).0
superclass_held P _ part superclass is above all = absurd (none-some part is)

module _ (parts : Parts) (objects : Objects)
    (P : ℕ → Type 0)
    (part_is : (name : ℕ) → P name → option_map fixed_of (objects name) ≡ parts name)
    (closed : (name : ℕ) (object : Contents) → objects name ≡ Some object → AllByRecursion P (names_in object)) where
  abbrev later : Parts
  later name = option_map fixed_of (objects name)

  -- the superclass of what is there is there
  above_held : (name : ℕ) (fixed : Fixed) (part : ClassPart) (superclass : ℕ) → P name → parts name ≡ Some fixed
      → fixed.as_class ≡ Some part → part.superclass ≡ Some superclass → P superclass
  above_held name fixed part superclass holds at class above =
      by (objects name) refl (part_is name holds ∙ at)
    where
      by : (found : Option Contents) → objects name ≡ found → option_map fixed_of found ≡ Some fixed → P superclass
      by None here is = absurd (none-some fixed is)
      by (Some object) here is = superclass_held P object.body part superclass
          (ap (λ (some : Fixed). some.as_class) (same_Some (fixed_of object) fixed is) ∙ class) above
          (closed name object here).1.1

  -- so is the whole line above it
  above_line : (limit : ℕ) (above : Option ℕ)
      → ((superclass : ℕ) → P superclass → AllByRecursion P (line_within parts limit superclass))
      → ((superclass : ℕ) → above ≡ Some superclass → P superclass)
      → AllByRecursion P (line_above above (line_within parts limit))
  above_line limit None rest held = tt
  above_line limit (Some superclass) rest held = rest superclass (held superclass refl)

  class_line : (limit : ℕ) (found : Option ClassPart)
      → ((superclass : ℕ) → P superclass → AllByRecursion P (line_within parts limit superclass))
      → ((part : ClassPart) (superclass : ℕ) → found ≡ Some part → part.superclass ≡ Some superclass → P superclass)
      → AllByRecursion P (line_of_class found (line_within parts limit))
  class_line limit None rest held = tt
  class_line limit (Some part) rest held =
      above_line limit part.superclass rest (λ superclass. held part superclass refl)

  part_line : (limit : ℕ) (name : ℕ) (found : Option Fixed) → P name → parts name ≡ found
      → ((superclass : ℕ) → P superclass → AllByRecursion P (line_within parts limit superclass))
      → AllByRecursion P (line_of_part found (line_within parts limit))
  part_line limit name None holds at rest = tt
  part_line limit name (Some fixed) holds at rest = class_line limit fixed.as_class rest
      (λ part superclass. above_held name fixed part superclass holds at)

  line_held : (limit name : ℕ) → P name → AllByRecursion P (line_within parts limit name)
  line_held zero name holds = tt
  line_held (suc limit) name holds =
      (holds, part_line limit name (parts name) holds refl (line_held limit))

  all_asked : (limit : ℕ) (name : ℕ) (object : Contents) → objects name ≡ Some object
      → AllByRecursion P (names_in object ++ (line_within parts limit object.class
      ++ line_of_class (class_part object.body) (line_within parts limit)))
  all_asked limit name object here =
      let own = closed name object here in
      all_both P (names_in object)
      (line_within parts limit object.class ++ line_of_class (class_part object.body) (line_within parts limit)) own
      (all_both P (line_within parts limit object.class)
      (line_of_class (class_part object.body) (line_within parts limit)) (line_held limit object.class own.0)
      (class_line limit (class_part object.body) (line_held limit)
      (λ part superclass is above. superclass_held P object.body part superclass is above own.1.1)))

  asked_held : (name : ℕ) (object : Contents) → objects name ≡ Some object
      → AllByRecursion P (asked_names parts object)
  unfolding line_at
  asked_held name object here = all_asked chain_limit name object here

  same_asked : (name : ℕ) (object : Contents) → objects name ≡ Some object
      → SameOn parts later (asked_names parts object)
  same_asked name object here other among =
      part_is other (among_holds P (asked_names parts object) (asked_held name object here) other among)

  -- an object fits among those that are there as it fits among all
  pub fits_among : (name : ℕ) (object : Contents) → objects name ≡ Some object
      → fits parts name object ≡ true → fits (λ other. option_map fixed_of (objects other)) name object ≡ true
  fits_among name object here fitting = fits_same parts later name object (same_asked name object here) ∙ fitting

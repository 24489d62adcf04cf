-- Which name is missing on the way up from a class.
use Rattle.std.proofs.Common.{◌≡◌, ◌∙◌, refl, sym, ap, ℕ, suc, ◌-◌, ◌<◌, ◌^◌, ◌++◌, Bool, true, false, cond, Option, Some, None, List, [], ◌∷◌, map, arith}
use Rattle.std.specs.List.{flat_map}
use Rattle.std.proofs.lemmas.List.Elements.{filter-append}
use Rattle.gem_object.specs.declared.object.Object.{Object}
use Rattle.object_programs.specs.gem_image.Image.{contents_of}
use Rattle.object_programs.specs.Fixed.{ClassPart, Fixed}
use Rattle.object_programs.specs.Guard.{Parts, line_above, line_of_class, line_of_part, line_within, line_at, asked_names}
use Rattle.object_programs.specs.Atom.{asked_by_all}
use Rattle.object_programs.specs.Programs.{part_of}
use Rattle.object_guard.specs.Missing.{is_missing, missing_of, superclass_of}

-- the names on the way up, where a limit isn't counted down by computing
unfoldable pub line_up : Parts → ℕ → ℕ → List ℕ
line_up parts limit name = line_within parts limit name

pub begins : (parts : Parts) (class : ℕ) → missing_of parts (line_up parts (2 ^ 48) class) ≡ missing_of parts (line_at parts class)
unfolding line_up line_at
begins parts class = refl

module _ (parts : Parts) where
  within_by : (limit more name : ℕ) → limit ≡ suc more
      → line_within parts limit name ≡ name ∷ line_of_part (parts name) (line_within parts more)
  within_by limit more name is = ap (λ (n : ℕ). line_within parts n name) is

  line_by : (found : Option Fixed) (above : ℕ → List ℕ) → line_of_part found above ≡ line_above (superclass_of (part_of found)) above
  line_by None above = refl
  line_by (Some fixed) above = by fixed.as_class
    where
      by : (part : Option ClassPart) → line_of_class part above ≡ line_above (superclass_of part) above
      by None = refl
      by (Some part) = refl

  module _ (limit name : ℕ) (some : 0 < limit) where
    step : missing_of parts (line_within parts limit name)
        ≡ missing_of parts (name ∷ line_of_part (parts name) (line_within parts (limit - 1)))
    step = ap (missing_of parts) (within_by limit (limit - 1) name (let is : limit ≡ suc (limit - 1) = omega (arith, some) in is))

    at_nothing : (found : Option Fixed) → parts name ≡ found → found ≡ None
        → missing_of parts (name ∷ line_of_part found (line_within parts (limit - 1))) ≡ name ∷ []
    at_nothing None is none = ap (λ (missing : Bool). cond missing (name ∷ []) []) (missing_is is)
      where
        missing_is : parts name ≡ None → is_missing parts name ≡ true
        missing_is is = rw is refl
    at_nothing (Some fixed) is none = cc

    at_class : (found : Option Fixed) (fixed : Fixed) → parts name ≡ found → found ≡ Some fixed
        → missing_of parts (name ∷ line_of_part found (line_within parts (limit - 1)))
        ≡ missing_of parts (line_above (superclass_of fixed.as_class) (line_within parts (limit - 1)))
    at_class None fixed is some = cc
    at_class (Some other) fixed is some = there is
        ∙ ap (missing_of parts) (line_by (Some other) (line_within parts (limit - 1)))
        ∙ ap (λ found. missing_of parts (line_above (superclass_of (part_of found)) (line_within parts (limit - 1)))) some
      where
        rest : List ℕ
        rest = line_of_part (Some other) (line_within parts (limit - 1))

        there_by : (b : Bool) → b ≡ false → cond b (name ∷ missing_of parts rest) (missing_of parts rest) ≡ missing_of parts rest
        there_by true no_case = cc
        there_by false here = refl

        there : parts name ≡ Some other → missing_of parts (name ∷ rest) ≡ missing_of parts rest
        there is = there_by (is_missing parts name) (missing_not is)
          where
            missing_not : parts name ≡ Some other → is_missing parts name ≡ false
            missing_not is = rw is refl

-- The invariant of the walk, from step to step.
module _ (parts : Parts) (limit name : ℕ) (some : 0 < limit) (whole : List ℕ)
    (so_far : missing_of parts (line_up parts limit name) ≡ whole) where
  pub ends_missing : None ≡ parts name → name ∷ [] ≡ whole
  unfolding line_up
  ends_missing none = sym (at_nothing parts limit name some (parts name) refl (sym none))
      ∙ sym (step parts limit name some) ∙ so_far

  module _ (fixed : Fixed) (there : Some fixed ≡ parts name) where
    above : missing_of parts (line_within parts limit name)
        ≡ missing_of parts (line_above (superclass_of fixed.as_class) (line_within parts (limit - 1)))
    above = step parts limit name some ∙ at_class parts limit name some (parts name) fixed refl (sym there)

    pub ends_at_top : superclass_of fixed.as_class ≡ None → [] ≡ whole
    unfolding line_up
    ends_at_top top = sym (ap (λ superclass. missing_of parts (line_above superclass (line_within parts (limit - 1)))) top)
        ∙ sym above ∙ so_far

    pub goes_up : (superclass : ℕ) → superclass_of fixed.as_class ≡ Some superclass
        → missing_of parts (line_up parts (limit - 1) superclass) ≡ whole
    unfolding line_up
    goes_up superclass is = sym (ap (λ superclass. missing_of parts (line_above superclass (line_within parts (limit - 1)))) is)
        ∙ sym above ∙ so_far

pub ends_out : (parts : Parts) (limit name : ℕ) (whole : List ℕ) → limit ≡ 0
    → missing_of parts (line_up parts limit name) ≡ whole → [] ≡ whole
unfolding line_up
ends_out parts limit name whole zero so_far = sym (ap (λ (n : ℕ). missing_of parts (line_within parts n name)) zero) ∙ so_far

-- ---- the names that objects ask for

-- the names that an object asks for and that are missing
abbrev pub missing_for : Parts → Object → List ℕ
missing_for parts object = missing_of parts (asked_names parts (contents_of object))

pub missing_all : (parts : Parts) (objects : List Object)
    → flat_map (missing_for parts) objects ≡ missing_of parts (asked_by_all parts (map contents_of objects))
missing_all parts [] = refl
missing_all parts (object ∷ rest) = ap (λ names. missing_for parts object ++ names) (missing_all parts rest)
    ∙ sym (filter-append (is_missing parts) (asked_names parts (contents_of object)) (asked_by_all parts (map contents_of rest)))

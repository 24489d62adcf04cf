-- How the names of a class are counted on the way up.
use Rattle.std.proofs.Common.{◌≡◌, ◌∙◌, refl, sym, ap, ℕ, suc, ◌+◌, ◌-◌, ◌^◌, ◌<◌, ◌≤◌, Bool, true, false, cond, nat_eq, nat_le, Option, Some, None, List, [], ◌++◌, length, option_map, inl, inr, arith}
use Rattle.std.proofs.lemmas.Bool.{le-leb, lt-leb}
use Rattle.std.proofs.lemmas.Bool.Decides.{leb_tells}
use Rattle.std.proofs.lemmas.List.{length-append}
use Rattle.gem_object.specs.texts.Bytes.{Bytes as Text}
use Rattle.object_programs.specs.Fixed.{ClassPart, Fixed}
use Rattle.object_programs.specs.Guard.{Parts, holds_of, names_above, names_of_class, names_of_part, names_within, names_at}
use Rattle.object_programs.specs.Programs.{part_of}
use Rattle.object_guard.specs.Parts.{has_room}

same_room : (a b slots : ℕ) → b ≤ slots → nat_le (a + b) slots ≡ nat_le a (slots - b)
same_room a b slots few = elim (leb_tells (a + b) slots) [
  | inl tells ↦ tells.0 ∙ sym (le-leb a (slots - b) (let within = tells.1 in omega (arith, few, within)))
  | inr tells ↦ tells.0 ∙ sym (lt-leb a (slots - b) (let above = tells.1 in omega (arith, few, above)))
]

module _ (parts : Parts) where
  of_part : (name : ℕ) (found : Option Fixed) (part : Option ClassPart) (above : ℕ → Option (List Text)) → part_of found ≡ part
      → names_of_part name found above ≡ names_of_class name part above
  of_part name None None above is = refl
  of_part name None (Some part) above is = cc
  of_part name (Some fixed) part above is = ap (λ (part : Option ClassPart). names_of_class name part above) is

  within_by : (limit more name : ℕ) (part : Option ClassPart) → limit ≡ suc more → part_of (parts name) ≡ part
      → names_within parts limit name ≡ names_of_class name part (names_within parts more)
  within_by limit more name part is found = ap (λ (n : ℕ). names_within parts n name) is
      ∙ of_part name (parts name) part (names_within parts more) found

  one_less : (limit : ℕ) → 0 < limit → limit ≡ suc (limit - 1)
  one_less limit some = omega (arith, some)

  -- names that inherit those of a class above it
  room_over : (slots : ℕ) (names : List Text) (found : Option (List Text)) → length names ≤ slots
      → holds_of (has_room slots) (option_map (λ inherited. inherited ++ names) found)
      ≡ holds_of (has_room (slots - length names)) found
  room_over slots names None few = refl
  room_over slots names (Some inherited) few = ap (λ (n : ℕ). nat_le n slots) (length-append inherited names)
      ∙ same_room (length inherited) (length names) slots few

  no_room : (slots : ℕ) (names : List Text) (found : Option (List Text)) → slots < length names
      → holds_of (has_room slots) (option_map (λ inherited. inherited ++ names) found) ≡ false
  no_room slots names None many = refl
  no_room slots names (Some inherited) many = lt-leb (length (inherited ++ names)) slots
      (let long = length-append inherited names in omega (arith, many, long))

  module _ (limit name slots : ℕ) (some : 0 < limit) where
    -- what isn't a class has no names
    pub no_class : part_of (parts name) ≡ None → holds_of (has_room slots) (names_within parts limit name) ≡ false
    no_class found = ap (holds_of (has_room slots)) (within_by limit (limit - 1) name None (one_less limit some) found)

    module _ (part : ClassPart) (found : part_of (parts name) ≡ Some part) where
      step : holds_of (has_room slots) (names_within parts limit name)
          ≡ holds_of (has_room slots) (option_map (λ inherited. inherited ++ part.names)
          (names_above name part.superclass (names_within parts (limit - 1))))
      step = ap (holds_of (has_room slots)) (within_by limit (limit - 1) name (Some part) (one_less limit some) found)

      pub too_many : slots < length part.names → holds_of (has_room slots) (names_within parts limit name) ≡ false
      too_many many = step ∙ no_room slots part.names (names_above name part.superclass (names_within parts (limit - 1))) many

      at_end : (b : Bool) → holds_of (has_room (slots - length part.names)) (cond b (Some []) None) ≡ b
      at_end true = le-leb 0 (slots - length part.names) (omega arith)
      at_end false = refl

      pub at_top : part.superclass ≡ None → length part.names ≤ slots
          → holds_of (has_room slots) (names_within parts limit name) ≡ nat_eq name 1
      at_top top few = step ∙ room_over slots part.names (names_above name part.superclass (names_within parts (limit - 1))) few
          ∙ ap (λ superclass. holds_of (has_room (slots - length part.names))
          (names_above name superclass (names_within parts (limit - 1)))) top
          ∙ at_end (nat_eq name 1)

      pub goes_on : (superclass : ℕ) → part.superclass ≡ Some superclass → length part.names ≤ slots
          → holds_of (has_room slots) (names_within parts limit name)
          ≡ holds_of (has_room (slots - length part.names)) (names_within parts (limit - 1) superclass)
      goes_on superclass is few = step ∙ room_over slots part.names (names_above name part.superclass (names_within parts (limit - 1))) few
          ∙ ap (λ superclass. holds_of (has_room (slots - length part.names))
          (names_above name superclass (names_within parts (limit - 1)))) is

-- the same, where a limit isn't counted down by computing
unfoldable pub names_up : Parts → ℕ → ℕ → Option (List Text)
names_up parts limit name = names_within parts limit name

pub begins : (parts : Parts) (slots class : ℕ)
    → holds_of (has_room slots) (names_up parts (2 ^ 48) class) ≡ holds_of (has_room slots) (names_at parts class)
unfolding names_up names_at
begins parts slots class = refl

module _ (parts : Parts) (limit name slots : ℕ) (some : 0 < limit) (whole : Bool)
    (so_far : holds_of (has_room slots) (names_up parts limit name) ≡ whole) where
  pub ends_nowhere : part_of (parts name) ≡ None → false ≡ whole
  unfolding names_up
  ends_nowhere found = sym (no_class parts limit name slots some found) ∙ so_far

  module _ (part : ClassPart) (found : part_of (parts name) ≡ Some part) where
    pub ends_full : slots < length part.names → false ≡ whole
    unfolding names_up
    ends_full many = sym (too_many parts limit name slots some part found many) ∙ so_far

    pub ends_at_top : part.superclass ≡ None → length part.names ≤ slots → nat_eq name 1 ≡ whole
    unfolding names_up
    ends_at_top top few = sym (at_top parts limit name slots some part found top few) ∙ so_far

    pub goes_up : (superclass : ℕ) → part.superclass ≡ Some superclass → length part.names ≤ slots
        → holds_of (has_room (slots - length part.names)) (names_up parts (limit - 1) superclass) ≡ whole
    unfolding names_up
    goes_up superclass is few = sym (goes_on parts limit name slots some part found superclass is few) ∙ so_far

pub ends_out : (parts : Parts) (name slots : ℕ) (whole : Bool)
    → holds_of (has_room slots) (names_up parts 0 name) ≡ whole → false ≡ whole
unfolding names_up
ends_out parts name slots whole so_far = so_far

-- Numbers that are those of no primitive have no rule.
use Rattle.std.proofs.Common.{◌≡◌, ◌∙◌, refl, sym, ap, subst, arith, ℕ, zero, suc, ◌≤◌, ◌<◌, Bool, true, false, ◌&&◌, ◌||◌, cond, nat_eq, nat_lt, nat_le, List, [], ◌∷◌, Err}
use Rattle.std.proofs.lemmas.Bool.{and_parts, or_parts}
use Rattle.std.proofs.lemmas.Bool.Decides.{nat_tests}
use Rattle.prim_parts.specs.tree_meaning.Place.{MadeBlock}
use Rattle.gem_object.specs.declared.value.Value.{Value}
use Rattle.object_programs.specs.declared.fault.Fault.TheVariants as fault
use Rattle.running_objects.specs.Seen.{Seen}
use Rattle.running_objects.specs.declared.stop.Stop.TheVariants as stop
use Rattle.prim_rules.specs.FirstRules.{Rule, rule_in, no_rule, first_rule}
use Rattle.prim_rules.specs.LaterRules.{later_rules, later_rule}
use Rattle.prim_rules.specs.Rules.{rule_of}
use Rattle.prim_parts.specs.Does.{Does}
use Rattle.prim_parts.proofs.Does.{does_fail}
use Rattle.prim_classes.specs.Numbers.{is_between, is_own}

beyond : (first last number : ℕ) → is_between first last number ≡ false → first ≤ number → last < number
beyond first last number is up = grind (arith, nat_tests)

-- a number from 1 on that is in none of the ranges is past the last one
past_all : (number : ℕ) → 1 ≤ number → is_between 10 27 number ≡ false
    → (is_between 33 51 number || is_between 61 67 number) ≡ false → is_own number ≡ false
    → is_between 68 96 number ≡ false → 97 ≤ number
past_all number up numbers collections classes shared =
    let texts = or_parts (is_between 33 51 number) (is_between 61 67 number) collections in
    let own = or_parts (is_between 1 9 number) (is_between 28 32 number || is_between 52 60 number) classes in
    let later = or_parts (is_between 28 32 number) (is_between 52 60 number) own.1 in
    let past_any : 9 < number = beyond 1 9 number own.0 up in
    let past_numbers : 27 < number = beyond 10 27 number numbers (omega arith) in
    let past_blocks : 32 < number = beyond 28 32 number later.0 (omega arith) in
    let past_texts : 51 < number = beyond 33 51 number texts.0 (omega arith) in
    let past_classes : 60 < number = beyond 52 60 number later.1 (omega arith) in
    let past_pairs : 67 < number = beyond 61 67 number texts.1 (omega arith) in
    let past_shared : 96 < number = beyond 68 96 number shared (omega arith) in
    omega arith

module _ {B : Type 0} where
  abbrev are_below : (bound : ℕ) → List (ℕ × Rule B) → Bool
  are_below bound [] = true
  are_below bound (entry ∷ rest) = nat_lt entry.0 bound && are_below bound rest

  -- a number above all those of a list has no rule in it
  above_all : (rules : List (ℕ × Rule B)) (otherwise : Rule B) (bound number : ℕ) → bound ≤ number
      → are_below bound rules ≡ true → rule_in otherwise rules number ≡ otherwise
  above_all [] otherwise bound number up below = refl
  above_all (entry ∷ rest) otherwise bound number up below =
      let both = and_parts (nat_lt entry.0 bound) (are_below bound rest) below in
      let apart : nat_eq number entry.0 ≡ false = apart_from entry.0 bound number up both.0 in
      ap (λ (test : Bool). cond test entry.1 (rule_in otherwise rest number)) apart
      ∙ above_all rest otherwise bound number up both.1
    where
      apart_from : (other bound number : ℕ) → bound ≤ number → nat_lt other bound ≡ true → nat_eq number other ≡ false
      apart_from other bound number up below = grind (arith, nat_tests)

  past_last : (number : ℕ) → 97 ≤ number → rule_of {B = B} number ≡ no_rule
  unfolding rule_of later_rule
  past_last number up =
      let late : nat_le number 53 ≡ false = grind (arith, nat_tests, up) in
      ap (λ (test : Bool). cond test (first_rule number) (rule_in no_rule later_rules number)) late
      ∙ above_all later_rules no_rule 97 number up refl

  of_zero : rule_of {B = B} 0 ≡ no_rule
  unfolding rule_of first_rule
  of_zero = refl

  -- a number that is in none of the ranges
  without_rule : (number : ℕ) → is_between 10 27 number ≡ false
      → (is_between 33 51 number || is_between 61 67 number) ≡ false → is_own number ≡ false
      → is_between 68 96 number ≡ false → rule_of {B = B} number ≡ no_rule
  without_rule zero numbers collections classes shared = of_zero
  without_rule (suc more) numbers collections classes shared =
      past_last (suc more) (past_all (suc more) (omega arith) numbers collections classes shared)

-- a call with such a number fails
pub fails_so : (number : ℕ) (receiver : Value) (arguments : List Value) (seen : Seen) → is_between 10 27 number ≡ false
    → (is_between 33 51 number || is_between 61 67 number) ≡ false → is_own number ≡ false
    → is_between 68 96 number ≡ false
    → Does (rule_of number receiver arguments) seen (Err (stop.Fails fault.ArgumentKind)) seen
fails_so number receiver arguments seen numbers collections classes shared =
    let At : Rule MadeBlock → Type 0 =
    λ rule. Does (rule receiver arguments) seen (Err (stop.Fails fault.ArgumentKind)) seen in
    subst At (sym (without_rule number numbers collections classes shared)) (does_fail fault.ArgumentKind seen)

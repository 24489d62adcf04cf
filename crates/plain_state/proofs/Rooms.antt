-- How many pairs a bag or a dictionary has after an update that may add one.
use Rattle.std.proofs.Common.{◌≡◌, ◌∙◌, rules, refl, sym, ap, subst, ℕ, zero, suc, ◌+◌, Bool, true, false, nat_lt, nat_le, List, [], ◌∷◌, length, Ordering, arith}
use Rattle.std.proofs.Math.Path.{fun_ext}
use Rattle.std.proofs.lemmas.Bool.{ltb-true, ltb-false, le-leb, lt-leb, le-ltb, lt-ltb}
use Rattle.sorted_pairs.specs.Place.{StandsAt, FitsAt}
use Rattle.gem_object.specs.Order.{value_order}
use Rattle.gem_object.specs.contracts.value.ValueOrd.TheImpl as order
use Rattle.gem_object.specs.declared.value.Value.{Value}
use Rattle.gem_object.specs.rc_counter_bag.Bag.{with_one_more}
use Rattle.gem_object.proofs.rc_counter_bag_lemmas.Edits.{with_one_more-past, with_one_more-here, with_one_more-before}
use Rattle.gem_object.specs.rc_dict.Dict.{put}
use Rattle.gem_object.proofs.rc_dict_lemmas.Edits.{put-past, put-here, put-before}
use Rattle.running_objects.specs.Fitting.{can_count}

in_order : (value other : Value) → order.ghosts.cmp value other ≡ value_order value other
in_order = search rules

pub orders : order.ghosts.cmp ≡ value_order
orders = fun_ext (λ value. fun_ext (in_order value))

one_more : (n m : ℕ) → m ≡ n + 1 → suc m ≡ suc n + 1
one_more n m same = omega (arith, same)

module _ {T : Type 0} (cmp : T → T → Ordering) (item : T) where
  bag_stands : (pairs : List (T × ℕ)) (at : ℕ) → StandsAt cmp item pairs at → length (with_one_more cmp item pairs) ≡ length pairs
  bag_stands [] at stands = absurd stands
  bag_stands (pair ∷ rest) zero stands = ap length (with_one_more-here cmp item pair rest stands)
  bag_stands (pair ∷ rest) (suc at) stands = ap length (with_one_more-past cmp item pair rest stands.0) ∙ ap suc (bag_stands rest at stands.1)

  bag_fits : (pairs : List (T × ℕ)) (at : ℕ) → FitsAt cmp item pairs at → length (with_one_more cmp item pairs) ≡ length pairs + 1
  bag_fits [] zero fits = refl
  bag_fits (pair ∷ rest) zero fits = ap length (with_one_more-before cmp item pair rest fits.0)
      ∙ one_more (length rest) (suc (length rest)) (omega arith)
  bag_fits [] (suc at) fits = absurd fits
  bag_fits (pair ∷ rest) (suc at) fits = ap length (with_one_more-past cmp item pair rest fits.0)
      ∙ one_more (length rest) (length (with_one_more cmp item rest)) (bag_fits rest at fits.1)

  dict_stands : {X : Type 0} (value : X) (pairs : List (T × X)) (at : ℕ) → StandsAt cmp item pairs at → length (put cmp item value pairs) ≡ length pairs
  dict_stands value [] at stands = absurd stands
  dict_stands value (pair ∷ rest) zero stands = ap length (put-here cmp item value pair rest stands)
  dict_stands value (pair ∷ rest) (suc at) stands = ap length (put-past cmp item value pair rest stands.0) ∙ ap suc (dict_stands value rest at stands.1)

  dict_fits : {X : Type 0} (value : X) (pairs : List (T × X)) (at : ℕ) → FitsAt cmp item pairs at → length (put cmp item value pairs) ≡ length pairs + 1
  dict_fits value [] zero fits = refl
  dict_fits value (pair ∷ rest) zero fits = ap length (put-before cmp item value pair rest fits.0)
      ∙ one_more (length rest) (suc (length rest)) (omega arith)
  dict_fits value [] (suc at) fits = absurd fits
  dict_fits value (pair ∷ rest) (suc at) fits = ap length (put-past cmp item value pair rest fits.0)
      ∙ one_more (length rest) (length (put cmp item value rest)) (dict_fits value rest at fits.1)

-- counts against the limit
still_by : (n : ℕ) (b : Bool) → nat_lt n 4294967296 ≡ b → nat_le n 4294967295 ≡ b
still_by n true is = let below = ltb-true n 4294967296 is in le-leb n 4294967295 (omega (arith, below))
still_by n false is = let above = ltb-false n 4294967296 is in lt-leb n 4294967295 (omega (arith, above))

still : (n m : ℕ) → m ≡ n → nat_le n 4294967295 ≡ can_count m
still n m same = still_by n (nat_lt n 4294967296) refl ∙ ap can_count (sym same)

more_by : (n : ℕ) (b : Bool) → nat_lt (n + 1) 4294967296 ≡ b → nat_lt n 4294967295 ≡ b
more_by n true is = let below = ltb-true (n + 1) 4294967296 is in lt-ltb n 4294967295 (omega (arith, below))
more_by n false is = let above = ltb-false (n + 1) 4294967296 is in le-ltb n 4294967295 (omega (arith, above))

more : (n m : ℕ) → m ≡ n + 1 → nat_lt n 4294967295 ≡ can_count m
more n m same = more_by n (nat_lt (n + 1) 4294967296) refl ∙ ap can_count (sym same)

-- the tests of the code, where the search found the item or its place
module _ (item : Value) where
  pub bag_there : (pairs : List (Value × ℕ)) (at : ℕ) → StandsAt order.ghosts.cmp item pairs at
      → nat_le (length pairs) 4294967295 ≡ can_count (length (with_one_more value_order item pairs))
  bag_there pairs at stands = still (length pairs) (length (with_one_more value_order item pairs))
      (bag_stands value_order item pairs at (subst (λ cmp. StandsAt cmp item pairs at) orders stands))

  pub bag_apart : (pairs : List (Value × ℕ)) (at : ℕ) → FitsAt order.ghosts.cmp item pairs at
      → nat_lt (length pairs) 4294967295 ≡ can_count (length (with_one_more value_order item pairs))
  bag_apart pairs at fits = more (length pairs) (length (with_one_more value_order item pairs))
      (bag_fits value_order item pairs at (subst (λ cmp. FitsAt cmp item pairs at) orders fits))

  pub dict_there : (value : Value) (pairs : List (Value × Value)) (at : ℕ) → StandsAt order.ghosts.cmp item pairs at
      → nat_le (length pairs) 4294967295 ≡ can_count (length (put value_order item value pairs))
  dict_there value pairs at stands = still (length pairs) (length (put value_order item value pairs))
      (dict_stands value_order item value pairs at (subst (λ cmp. StandsAt cmp item pairs at) orders stands))

  pub dict_apart : (value : Value) (pairs : List (Value × Value)) (at : ℕ) → FitsAt order.ghosts.cmp item pairs at
      → nat_lt (length pairs) 4294967295 ≡ can_count (length (put value_order item value pairs))
  dict_apart value pairs at fits = more (length pairs) (length (put value_order item value pairs))
      (dict_fits value_order item value pairs at (subst (λ cmp. FitsAt cmp item pairs at) orders fits))

-- Steps from class to superclass, and the counts that are kept.
use Rattle.std.proofs.Common.{◌≡◌, ◌≢◌, ◌<◌, ◌+◌, ◌-◌, ◌^◌, ℕ, cond, min, List, [], ◌∷◌, ◌++◌, length, Option, Some, None, refl, ap, sym, subst, ◌∙◌, length-append, arith}
use Rattle.std.specs.Ordering.{nat_cmp, is_eq}
use Rattle.std.specs.declared.cmp.Ordering.{Ordering}
use Rattle.std.specs.declared.cmp.Ordering.TheVariants.{Less, Equal, Greater}
use Rattle.std.specs.FinMap.{nat_cmp-IsAntisymmetric}
use Rattle.std.specs.BTreeMap.{insert_entry, is_at}
use Rattle.std.specs.Map.{lookup}
use Rattle.std.specs.List.{AllByRecursion}
use Rattle.std.specs.Ordering.{match_ordering}
use Rattle.gem_object.specs.texts.Bytes.{Bytes as Text}
use Rattle.gem_object.specs.declared.body.ClassBody.{ClassBody}
use Rattle.gem_image.specs.Image.{Objects}
use Rattle.gem_sound.specs.Parts.{class_at}
use Rattle.gem_sound.specs.Inherited.{HasNames, at_the_end, under}
use Rattle.image_check.specs.declared.chains.Step.{Step}
use Rattle.image_check.specs.Chains.{IsCount, IsEndless, AreCounts, IsStep, AreSteps}

-- ---- what the chain of a class says

pub no_class : (objects : Objects) (number : ℕ) → class_at objects number ≡ None → IsEndless objects number
no_class objects _ none _ (at_the_end class there top) = cc
no_class objects _ none _ (under number above class inherited there is chain) = cc

pub no_superclass : (objects : Objects) (number : ℕ) (class : ClassBody) → class_at objects number ≡ Some class
    → class.superclass ≡ None → number ≢ 1 → IsEndless objects number
no_superclass objects _ class here none other _ (at_the_end found there top) = other refl
no_superclass objects _ class here none other _ (under number above found inherited there is chain) = cc

pub at_object : (objects : Objects) (number own : ℕ) (class : ClassBody) → class_at objects number ≡ Some class
    → class.superclass ≡ None → number ≡ 1 → own ≡ length class.names → own < 2 ^ 64 → IsCount objects number own
at_object objects number own class here none one own_is fits = record {
  names = class.names;
  chain = subst (λ (n : ℕ). HasNames objects n class.names) (sym one)
      (at_the_end class (subst (λ (n : ℕ). class_at objects n ≡ Some class) one here) none);
  count_is = omega (arith, own_is, fits);
}

above_chain : (objects : Objects) (number above : ℕ) (class : ClassBody) (names : List Text) → HasNames objects number names
    → class_at objects number ≡ Some class → class.superclass ≡ Some above
    → (inherited : List Text) × HasNames objects above inherited
above_chain objects _ above class _ (at_the_end found there top) here is = absurd cc
above_chain objects _ above class _ (under number superclass found inherited there up chain) here is =
    let same : superclass ≡ above = cc in
    (inherited, subst (λ (n : ℕ). HasNames objects n inherited) same chain)

-- what lies below an end that isn't Object doesn't end at Object
pub endless_below : (objects : Objects) (steps : List Step) (from to : ℕ) → AreSteps objects steps from to
    → IsEndless objects to → IsEndless objects from
endless_below objects [] from to are endless = subst (IsEndless objects) (sym are) endless
endless_below objects (step ∷ steps) from to are endless = λ names chain.
    let class = are.2.class in
    let there : class_at objects from ≡ Some class = subst (λ (n : ℕ). class_at objects n ≡ Some class) are.0 are.2.there in
    let up = above_chain objects from are.1 class names chain there are.2.superclass in
    endless_below objects steps are.1 to are.3 endless up.0 up.1

-- ---- steps

pub steps_more : (objects : Objects) (steps : List Step) (step : Step) (from at above : ℕ) → AreSteps objects steps from at
    → step.class ≡ at → IsStep objects step above → AreSteps objects (steps ++ step ∷ []) from above
steps_more objects [] step from at above are here is = (here ∙ sym are, above, is, refl)
steps_more objects (first ∷ steps) step from at above are here is =
    (are.0, are.1, are.2, steps_more objects steps step are.1 at above are.3 here is)

pub steps_less : (objects : Objects) (steps : List Step) (step : Step) (from to : ℕ)
    → AreSteps objects (steps ++ step ∷ []) from to → AreSteps objects steps from step.class × IsStep objects step to
steps_less objects [] step from to are = (sym are.0, subst (IsStep objects step) are.3 are.2)
steps_less objects (first ∷ steps) step from to are =
    let rest = steps_less objects steps step are.1 to are.3 in
    ((are.0, are.1, are.2, rest.0), rest.1)

-- the count of a class from that of its superclass
pub count_below : (objects : Objects) (step : Step) (above count sum : ℕ) → IsStep objects step above → IsCount objects above count
    → sum ≡ min (count + step.own) (2 ^ 64 - 1) → IsCount objects step.class sum
count_below objects step above count sum is counted sum_is =
    let own = is.own in
    let whole = counted.count_is in
    let parts = length-append counted.names is.class.names in
    record {
      names = counted.names ++ is.class.names;
      chain = under step.class above is.class counted.names is.there is.superclass counted.chain;
      count_is = omega (arith, own, whole, parts, sum_is);
    }

-- ---- the counts that are kept

pub nothing_kept : (objects : Objects) (entries : List (ℕ × ℕ)) → entries ≡ [] → AreCounts objects entries
nothing_kept objects entries none = subst (AreCounts objects) (sym none) record { each = tt }

module _ (objects : Objects) (class count : ℕ) where
  count_by : (entry : ℕ × ℕ) (rest : Option ℕ) (order : Ordering) → nat_cmp class entry.0 ≡ order
      → IsCount objects entry.0 entry.1 → (rest ≡ Some count → IsCount objects class count)
      → cond (is_eq order) (Some entry.1) rest ≡ Some count → IsCount objects class count
  count_by entry rest Less is at later found = later found
  count_by entry rest Greater is at later found = later found
  count_by entry rest Equal is at later found =
      let key : entry.0 ≡ class = sym (nat_cmp-IsAntisymmetric class entry.0 is) in
      let value : entry.1 ≡ count = cc in
      subst (λ (n : ℕ). IsCount objects class n) value (subst (λ (n : ℕ). IsCount objects n entry.1) key at)

  pub kept_count : (entries : List (ℕ × ℕ)) → AreCounts objects entries
      → lookup (is_at (nat_cmp class)) entries ≡ Some count → IsCount objects class count
  kept_count [] are found = absurd cc
  kept_count (entry ∷ entries) are found =
      count_by entry (lookup (is_at (nat_cmp class)) entries) (nat_cmp class entry.0) refl are.each.0
      (kept_count entries record { each = are.each.1 }) found

abbrev Each : Objects → List (ℕ × ℕ) → Type 0
Each objects entries = AllByRecursion (λ entry. IsCount objects entry.0 entry.1) entries

module _ (objects : Objects) (class count : ℕ) (at : IsCount objects class count) where
  each_by : (entry : ℕ × ℕ) (entries more : List (ℕ × ℕ)) (order : Ordering) → nat_cmp class entry.0 ≡ order
      → IsCount objects entry.0 entry.1 → Each objects entries → Each objects more
      → Each objects (match_ordering order ((class, count) ∷ entry ∷ entries) ((entry.0, count) ∷ entries) (entry ∷ more))
  each_by entry entries more Less is here rest added = (at, (here, rest))
  each_by entry entries more Greater is here rest added = (here, added)
  each_by entry entries more Equal is here rest added =
      (subst (λ (n : ℕ). IsCount objects n count) (nat_cmp-IsAntisymmetric class entry.0 is) at, rest)

  each_more : (entries : List (ℕ × ℕ)) → Each objects entries → Each objects (insert_entry nat_cmp entries class count)
  each_more [] are = (at, tt)
  each_more (entry ∷ entries) are =
      each_by entry entries (insert_entry nat_cmp entries class count) (nat_cmp class entry.0) refl are.0 are.1
      (each_more entries are.1)

  pub counts_more : (entries : List (ℕ × ℕ)) → AreCounts objects entries
      → AreCounts objects (insert_entry nat_cmp entries class count)
  counts_more entries are = record { each = each_more entries are.each }

-- a step more
pub step_taken : (objects : Objects) (steps after : List Step) (step : Step) (from above turn : ℕ)
    → after ≡ steps ++ step ∷ [] → length steps ≡ turn → AreSteps objects steps from step.class → IsStep objects step above
    → (length after ≡ turn + 1) × AreSteps objects after from above
step_taken objects steps after step from above turn after_is count are is =
    let more = length-append steps (step ∷ []) in
    let whole = ap length after_is in (
      omega (arith, whole, more, count),
      subst (λ items. AreSteps objects items from above) (sym after_is)
          (steps_more objects steps step from step.class above are refl is),
    )

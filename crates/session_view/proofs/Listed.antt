-- The lists of a record are in the order of names.
use Rattle.std.proofs.Common.{◌≡◌, refl, sym, ap, subst, ℕ, Bool, List, [], ◌∷◌, map, filter}
use Rattle.std.specs.List.Sorted.{IsStrictlySortedBy}
use Rattle.std.specs.Ordering.{nat_cmp}
use Rattle.std.specs.FinMap.{FinMap, entries}
use Rattle.gem_object.specs.declared.object.Object.{Object}
use Rattle.gem_update.specs.declared.update.Update.{Update}
use Rattle.gem_image.specs.Image.{Contents}
use Rattle.gem_record.specs.Names.{Ascend, AscendByName}
use Rattle.gem_record.specs.gem_world.Changes.{updates_on}
use Rattle.gem_record.specs.RunNames.{ascending}
use Rattle.gem_record.specs.Record.{all_uncommitted}
use Rattle.plain_state.proofs.Listing.{ascending_sorted, filtered_sorted}

pub names_ascend : (names listed : List ℕ) → listed ≡ ascending names → Ascend listed
names_ascend names listed is =
    let P : List ℕ → Type 0 = λ list. Ascend list in
    subst P (sym is) (ascending_sorted names)

same_names : (es : List (ℕ × Contents))
    → map (λ (entry : ℕ × Object). entry.0) (all_uncommitted es) ≡ map (λ (entry : ℕ × Contents). entry.0) es
same_names [] = refl
same_names (e ∷ es) = ap (λ rest. e.0 ∷ rest) (same_names es)

pub objects_ascend : (passes : ℕ × Contents → Bool) (m : FinMap nat_cmp Contents) (listed : List (ℕ × Object))
    → listed ≡ all_uncommitted (filter passes (entries m)) → AscendByName listed
objects_ascend passes m listed is =
    let P : List ℕ → Type 0 = λ names. IsStrictlySortedBy nat_cmp names in
    let Q : List (ℕ × Object) → Type 0 = λ list. AscendByName list in
    subst Q (sym is) (subst P (sym (same_names (filter passes (entries m)))) (filtered_sorted passes m))

named : (updates : List (ℕ × Update)) (names : List ℕ)
    → map (λ (entry : ℕ × List Update). entry.0) (map (λ (name : ℕ). (name, updates_on name updates)) names) ≡ names
named updates [] = refl
named updates (name ∷ names) = ap (λ rest. name ∷ rest) (named updates names)

pub updates_ascend : (updates : List (ℕ × Update)) (names : List ℕ) (listed : List (ℕ × List Update))
    → listed ≡ map (λ (name : ℕ). (name, updates_on name updates)) (ascending names) → AscendByName listed
updates_ascend updates names listed is =
    let P : List ℕ → Type 0 = λ list. IsStrictlySortedBy nat_cmp list in
    let Q : List (ℕ × List Update) → Type 0 = λ list. AscendByName list in
    subst Q (sym is) (subst P (sym (named updates (ascending names))) (ascending_sorted names))

-- What stands at the places of a table.
use Rattle.std.proofs.Common.{◌≡◌, ◌∙◌, ◌⊎◌, inl, inr, refl, sym, ap, subst, ℕ, zero, suc, ◌+◌, ◌<◌, ◌≤◌, List, [], ◌∷◌, ◌++◌, length, set, slice_get, Option, Some, None, IfSome, option_map, option_and_then, arith}
use Rattle.std.proofs.lemmas.Bool.{cases_lt}
use Rattle.std.proofs.lemmas.Option.{none-some, same_Some}
use Rattle.gem_language.specs.declared.found.Found.{Found}
use Rattle.look_up_cache.specs.declared.memory.Entry.{Entry}
use Rattle.look_up_cache.specs.Table.{held_at, NoneHeld, AllHeld}
use Rattle.gem_object.specs.declared.body.MethodCode.{MethodCode}
use Rattle.running_objects.specs.Seen.{Seen}
use Rattle.look_up_cache.specs.Memory.{IsFound, IsCoded, coded_by, founds}

module _ {X : Type 0} where
  pub held_added : (places : List (Option X)) (at : ℕ) (x : X) → held_at (places ++ None ∷ []) at ≡ Some x
      → held_at places at ≡ Some x
  held_added [] zero x is = absurd (none-some x is)
  held_added [] (suc at) x is = absurd (none-some x is)
  held_added (place ∷ places) zero x is = is
  held_added (place ∷ places) (suc at) x is = held_added places at x is

  pub held_set : (places : List (Option X)) (at place : ℕ) (x y : X) → held_at (set places at (Some x)) place ≡ Some y
      → (x ≡ y) ⊎ (held_at places place ≡ Some y)
  held_set [] at place x y is = inr is
  held_set (first ∷ places) zero zero x y is = inl (same_Some x y is)
  held_set (first ∷ places) zero (suc place) x y is = inr is
  held_set (first ∷ places) (suc at) zero x y is = inr is
  held_set (first ∷ places) (suc at) (suc place) x y is = held_set places at place x y is

  pub held_here : (places : List (Option X)) (at : ℕ) (x : X) → at < length places
      → held_at (set places at (Some x)) at ≡ Some x
  held_here [] at x below = absurd (omega (arith, below))
  held_here (first ∷ places) zero x below = refl
  held_here (first ∷ places) (suc at) x below = held_here places at x (omega (arith, below))

  -- nothing stands in a table without places
  pub none_in_empty : (places : List (Option X)) → places ≡ [] → NoneHeld places
  none_in_empty places is at = ap (λ (p : List (Option X)). held_at p at) is

  -- of nothing all holds
  pub none_held : (P : X → Type 0) (places : List (Option X)) → NoneHeld places → AllHeld P places
  none_held P places none at x here = absurd (none-some x (sym (none at) ∙ here))

  -- nothing stands past the last place
  none_past : (places : List (Option X)) (at : ℕ) → length places ≤ at → held_at places at ≡ None
  none_past [] at past = refl
  none_past (place ∷ places) zero past = absurd (omega (arith, past))
  none_past (place ∷ places) (suc at) past = none_past places at (omega (arith, past))

  -- a place is emptied
  pub emptied_here : (places : List (Option X)) (at : ℕ) → held_at (set places at None) at ≡ None
  emptied_here [] at = refl
  emptied_here (first ∷ places) zero = refl
  emptied_here (first ∷ places) (suc at) = emptied_here places at

  pub emptied_other : (places : List (Option X)) (at place : ℕ) → held_at places place ≡ None
      → held_at (set places at None) place ≡ None
  emptied_other [] at place none = none
  emptied_other (first ∷ places) zero zero none = refl
  emptied_other (first ∷ places) zero (suc place) none = none
  emptied_other (first ∷ places) (suc at) zero none = none
  emptied_other (first ∷ places) (suc at) (suc place) none = emptied_other places at place none

  -- one place more is empty
  pub none_more : (places left : List (Option X)) (at : ℕ) → held_at left at ≡ None
      → ((place : ℕ) → held_at places place ≡ None → held_at left place ≡ None)
      → ((place : ℕ) → place < at → held_at places place ≡ None)
      → (place : ℕ) → place < at + 1 → held_at left place ≡ None
  none_more places left at here others before place below = elim (cases_lt place at) [
    | inl within ↦ others place (before place within)
    | inr beyond ↦
        let same : at ≡ place = omega (arith, below, beyond) in
        subst (λ (one : ℕ). held_at left one ≡ None) same here
  ]

  -- all places were emptied
  pub none_left : (places : List (Option X)) (at : ℕ) → length places ≤ at
      → ((place : ℕ) → place < at → held_at places place ≡ None) → NoneHeld places
  none_left places at past before place = elim (cases_lt place at) [
    | inl within ↦ before place within
    | inr beyond ↦ none_past places place (omega (arith, past, beyond))
  ]

pub found_held : {T : Type 0} (places : List (Option (Entry T))) (at : ℕ)
    → held_at (founds places) at ≡ option_and_then (λ entry. entry.found) (held_at places at)
found_held [] at = refl
found_held (place ∷ places) zero = refl
found_held (place ∷ places) (suc at) = found_held places at

module _ {X : Type 0} where
  -- what stands in a table after what stood at a place was renewed
  pub held_renewed : (places : List (Option X)) (at place : ℕ) (new : Option X) (x : X)
      → held_at (set (set places at None) at new) place ≡ Some x
      → (new ≡ Some x) ⊎ (held_at places place ≡ Some x)
  held_renewed [] at place new x is = inr is
  held_renewed (first ∷ places) zero zero new x is = inl is
  held_renewed (first ∷ places) zero (suc place) new x is = inr is
  held_renewed (first ∷ places) (suc at) zero new x is = inr is
  held_renewed (first ∷ places) (suc at) (suc place) new x is = held_renewed places at place new x is

module _ {T : Type 0} where
  -- what was found stays where code comes beside it
  pub founds_renewed : (places : List (Option (Entry T))) (at : ℕ) (entry : Option (Entry T)) (code : T)
      → slice_get places at ≡ Some entry
      → founds (set (set places at None) at (option_map (coded_by code) entry)) ≡ founds places
  founds_renewed [] at entry code is = absurd (none-some entry is)
  founds_renewed (None ∷ places) zero entry code is =
      ap (λ (held : Option (Entry T)). option_and_then (λ one. one.found) (option_map (coded_by code) held) ∷ founds places)
      (sym (same_Some None entry is))
  founds_renewed (Some first ∷ places) zero entry code is =
      ap (λ (held : Option (Entry T)). option_and_then (λ one. one.found) (option_map (coded_by code) held) ∷ founds places)
      (sym (same_Some (Some first) entry is))
  founds_renewed (place ∷ places) (suc at) entry code is =
      ap (λ (more : List (Option Found)). option_and_then (λ one. one.found) place ∷ more)
      (founds_renewed places at entry code is)

  -- what holds of every look-up whatever code is beside it still does
  pub all_found : (seen : Seen) (places : List (Option (Entry T))) (at : ℕ) (entry : Option (Entry T)) (code : T)
      → slice_get places at ≡ Some entry → AllHeld (IsFound seen) places
      → AllHeld (IsFound seen) (set (set places at None) at (option_map (coded_by code) entry))
  all_found seen places at entry code is all place x here =
      by_entry entry is (held_renewed places at place (option_map (coded_by code) entry) x here) where
        by_entry : (entry : Option (Entry T)) → slice_get places at ≡ Some entry
            → (option_map (coded_by code) entry ≡ Some x) ⊎ (held_at places place ≡ Some x) → IsFound seen x
        by_entry entry is (inr there) = all place x there
        by_entry None is (inl new) = absurd (none-some x new)
        by_entry (Some old) is (inl new) =
            subst (IsFound seen) (same_Some (coded_by code old) x new) (all at old (ap (option_and_then (λ (held : Option (Entry T)). held)) is))

  -- the code that comes beside a method is its own
  pub all_coded : (is_of : T → MethodCode → Type 0) (places : List (Option (Entry T))) (at : ℕ)
      (entry : Option (Entry T)) (code : T) → slice_get places at ≡ Some entry
      → IfSome (held_at (founds places) at) (λ found. is_of code found.code) → AllHeld (IsCoded is_of) places
      → AllHeld (IsCoded is_of) (set (set places at None) at (option_map (coded_by code) entry))
  all_coded is_of places at entry code is own all place x here =
      by_entry entry is (held_renewed places at place (option_map (coded_by code) entry) x here) where
        by_entry : (entry : Option (Entry T)) → slice_get places at ≡ Some entry
            → (option_map (coded_by code) entry ≡ Some x) ⊎ (held_at places place ≡ Some x) → IsCoded is_of x
        by_entry entry is (inr there) = all place x there
        by_entry None is (inl new) = absurd (none-some x new)
        by_entry (Some old) is (inl new) =
            subst (IsCoded is_of) (same_Some (coded_by code old) x new)
            (subst (λ (found : Option Found). IfSome found (λ one. is_of code one.code))
            (found_held places at ∙ ap (λ (held : Option (Option (Entry T))). option_and_then (λ one. one.found) (option_and_then (λ (held : Option (Entry T)). held) held)) is)
            own)

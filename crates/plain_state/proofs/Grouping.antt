-- The updates of many objects, put together by object.
use Rattle.std.proofs.Common.{◌≡◌, ◌∙◌, refl, sym, ap, ap₂, ℕ, ◌+◌, ◌<◌, Bool, true, false, cond, nat_eq, List, [], ◌∷◌, ◌++◌, length, take, get_or, Option, Some, None}
use Rattle.std.proofs.lemmas.List.{take_more}
use Rattle.std.specs.List.{cons_option}
use Rattle.gem_update.specs.declared.update.Update.{Update}
use Rattle.gem_world.specs.Changes.{update_on, updates_on}

in_front : {X : Type 0} (found : Option X) (whole front back : List X) → whole ≡ front ++ back
    → cons_option found whole ≡ cons_option found front ++ back
in_front None whole front back is = is
in_front (Some x) whole front back is = ap (λ rest. x ∷ rest) is

alone : (b : Bool) (update : Update) → cons_option (cond b (Some update) None) [] ≡ cond b (update ∷ []) []
alone true update = refl
alone false update = refl

-- one update more comes behind those of its name
pub one_more : (updates : List (ℕ × Update)) (name : ℕ) (update : Update) (other : ℕ)
    → updates_on other (updates ++ (name, update) ∷ []) ≡ updates_on other updates ++ cond (nat_eq name other) (update ∷ []) []
one_more [] name update other = alone (nat_eq name other) update
one_more (first ∷ updates) name update other = in_front (update_on other first)
    (updates_on other (updates ++ (name, update) ∷ [])) (updates_on other updates) (cond (nat_eq name other) (update ∷ []) [])
    (one_more updates name update other)

-- the same of the updates before a place, with the one there
pub one_taken : (updates : List (ℕ × Update)) (at : ℕ) (entry : ℕ × Update) (number : ℕ) (copy : Update) (other : ℕ)
    (before now : List Update) → at < length updates → entry ≡ get_or updates at entry → number ≡ entry.0 → copy ≡ entry.1
    → before ≡ updates_on other (take at updates) → now ≡ before ++ cond (nat_eq number other) (copy ∷ []) []
    → now ≡ updates_on other (take (at + 1) updates)
one_taken updates at entry number copy other before now below is name same here added =
    added ∙ ap (λ list. list ++ cond (nat_eq number other) (copy ∷ []) []) here
    ∙ ap₂ (λ (n : ℕ) (u : Update). updates_on other (take at updates) ++ cond (nat_eq n other) (u ∷ []) []) name same
    ∙ sym (one_more (take at updates) entry.0 entry.1 other)
    ∙ ap (updates_on other)
    (sym (take_more updates at entry below ∙ ap (λ (y : ℕ × Update). take at updates ++ y ∷ []) (sym is)))

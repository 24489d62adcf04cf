-- What an accepted update or merge of a body is.
use Rattle.std.proofs.Common.{◌≡◌, ℕ, List, [], ◌∷◌, Option, Some, None, Result, Ok, Err, refl, subst}
use Rattle.std.specs.List.{All}
use Rattle.std.specs.Option.{ok_or, option_map}
use Rattle.std.specs.Result.{result_ok}
use Rattle.std.proofs.lemmas.List.Elements.{All-nil, All-cons, All-head, All-tail}
use Rattle.std.proofs.lemmas.Option.{option_and_then_some}
use Rattle.gem_object.specs.declared.body.Body.{Body}
use Rattle.gem_update.specs.Outcomes.{by_fault}
use Rattle.gem_update.specs.Update.{all_changes}
use Rattle.gem_update.specs.declared.update.Update.{Update}

-- an object that was accepted, and its body
pub accepted : {X F P : Type 0} (made : X → Body) (answer : Result X F) (after : Body)
    → option_map made (result_ok answer) ≡ Some after
    → ((x : X) → answer ≡ Ok x → made x ≡ after → P) → P
accepted made (Ok x) after e go = go x refl (cc)
accepted made (Err f) after e go = absurd (cc)

pub some_if_ok : {X F : Type 0} (o : Option X) (f : F) (x : X) → ok_or o f ≡ Ok x → o ≡ Some x
some_if_ok None f x e = absurd (cc)
some_if_ok (Some y) f x e = cc

pub ok_if_ok : {X F : Type 0} (fault : ℕ → F) (answer : Result X ℕ) (x : X)
    → by_fault fault answer ≡ Ok x → answer ≡ Ok x
ok_if_ok fault (Ok y) x e = cc
ok_if_ok fault (Err at) x e = absurd (cc)

-- a list that was put before others
pub mapped_more : {C Q : Type 0} (first : C) (o : Option (List C)) (changes : List C)
    → option_map (λ more. first ∷ more) o ≡ Some changes
    → ((more : List C) → o ≡ Some more → first ∷ more ≡ changes → Q) → Q
mapped_more first None changes e go = absurd (cc)
mapped_more first (Some more) changes e go = go more refl (cc)

-- what holds of each update holds of each change
pub each_change : {C : Type 0} (change_of : Update → Option C) (of : C → Update)
    → ((update : Update) (change : C) → change_of update ≡ Some change → update ≡ of change)
    → (P : Update → Type 0) (updates : List Update) (changes : List C)
    → all_changes change_of updates ≡ Some changes → All P updates → All (λ c. P (of c)) changes
each_change {C = C} change_of of back P [] changes e all =
    let none : ◌≡◌ {A = List C} [] changes = cc in
    subst (All (λ c. P (of c))) none (All-nil (λ c. P (of c)))
each_change change_of of back P (update ∷ rest) changes e all =
    option_and_then_some _ (change_of update) changes e (λ first is others.
    mapped_more first (all_changes change_of rest) changes others (λ more are same.
    subst (All (λ c. P (of c))) same
    (All-cons (λ c. P (of c)) first more (subst P (back update first is) (All-head P update rest all))
    (each_change change_of of back P rest more are (All-tail P update rest all)))))

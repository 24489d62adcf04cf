-- Variables that are nil come into the innermost scope.
use Rattle.std.proofs.Common.{◌≡◌, ◌∙◌, refl, sym, ap, ℕ, zero, suc, ◌+◌, ◌<◌, List, [], ◌∷◌, ◌++◌, length, take, get_or, slice_get, replicate, None, arith}
use Rattle.std.proofs.lemmas.List.{append_assoc, append-nil, replicate-append-replicate}
use Rattle.std.proofs.lemmas.Option.{none-some}
use Rattle.gem_object.specs.declared.value.Value.{Value}
use Rattle.gem_object.specs.declared.value.Value.TheVariants.{Nil}
use Rattle.list_stack.specs.Lists.{with_last}
use Rattle.list_stack.proofs.Grows.{with_last_at, length-with_last}
use Rattle.st_machine.specs.Variables.{more_nils}

module _ {A : Type 0} where
  take_with_last : (lists : List (List A)) (item : A) (count : ℕ) → count < length lists
      → take count (with_last lists item) ≡ take count lists
  take_with_last [] item count within = absurd (omega (arith, within))
  take_with_last (first ∷ []) item zero within = refl
  take_with_last (first ∷ []) item (suc count) within = absurd (omega (arith, within))
  take_with_last (first ∷ second ∷ rest) item zero within = refl
  take_with_last (first ∷ second ∷ rest) item (suc count) within =
      let less : count < length (second ∷ rest) = omega (arith, within) in
      ap (λ (lists : List (List A)). first ∷ lists) (take_with_last (second ∷ rest) item count less)

pub more_length : (count : ℕ) (scopes : List (List Value)) → length (more_nils count scopes) ≡ length scopes
more_length zero scopes = refl
more_length (suc count) scopes = length-with_last (more_nils count scopes) Nil ∙ more_length count scopes

pub more_some : (count : ℕ) (scopes now : List (List Value)) → now ≡ more_nils count scopes → 0 < length scopes
    → 0 < length now
more_some count scopes now is some =
    let same : length now ≡ length scopes = ap length is ∙ more_length count scopes in
    omega (arith, same, some)

-- The scopes below stay.
pub more_below : (nils : ℕ) (scopes : List (List Value)) (count : ℕ) → count < length scopes
    → take count (more_nils nils scopes) ≡ take count scopes
more_below zero scopes count within = refl
more_below (suc nils) scopes count within =
    let less : count < length (more_nils nils scopes) = omega (arith, within, more_length nils scopes) in
    take_with_last (more_nils nils scopes) Nil count less ∙ more_below nils scopes count within

-- The innermost one has them.
pub more_at : (nils : ℕ) (below : List (List Value)) (values : List Value)
    → more_nils nils (below ++ values ∷ []) ≡ below ++ (values ++ replicate nils Nil) ∷ []
more_at zero below values = ap (λ (list : List Value). below ++ list ∷ []) (sym (append-nil values))
more_at (suc nils) below values =
    let sum : nils + 1 ≡ suc nils = omega arith in
    let one_more : replicate nils Nil ++ Nil ∷ [] ≡ replicate (suc nils) Nil =
    replicate-append-replicate nils 1 Nil ∙ ap (λ (n : ℕ). replicate n Nil) sum in
    ap (λ (scopes : List (List Value)). with_last scopes Nil) (more_at nils below values)
    ∙ (with_last_at below (values ++ replicate nils Nil) Nil
    ∙ ap (λ (list : List Value). below ++ list ∷ [])
    (append_assoc values (replicate nils Nil) (Nil ∷ []) ∙ ap (λ (list : List Value). values ++ list) one_more))

-- A scope was opened with some values, and then with nils.
pub opened_more : (nils : ℕ) (values : List Value) (scopes opened new : List (List Value))
    → opened ≡ scopes ++ values ∷ [] → new ≡ more_nils nils opened
    → new ≡ scopes ++ (values ++ replicate nils Nil) ∷ []
opened_more nils values scopes opened new is_opened is_new =
    is_new ∙ (ap (λ (one : List (List Value)). more_nils nils one) is_opened ∙ more_at nils scopes values)

-- where no variable stands
pub none_nil : (list : List Value) (at : ℕ) → None ≡ slice_get list at → Nil ≡ get_or list at Nil
none_nil [] zero none = refl
none_nil [] (suc at) none = refl
none_nil (first ∷ rest) zero none = absurd (none-some first none)
none_nil (first ∷ rest) (suc at) none = none_nil rest at none

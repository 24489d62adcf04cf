-- Tests that passed, results that are there, and pages of lists.
use Rattle.std.proofs.Common.{◌≡◌, ℕ, Bool, true, false, cond, ◌&&◌, ◌||◌, eqb, List, [], ◌∷◌, ◌++◌, Result, Ok, Err, refl, ap}
use Rattle.std.proofs.lemmas.Bool.{false≢true, eq-eqb}
use Rattle.extent_pages.specs.Pages.{◌andthen◌, is_one_of}

abbrev done : {A E : Type 0} → A → Result A E
done x = Ok x

abbrev failed : {A E : Type 0} → E → Result A E
failed e = Err e

pub ok_is : {A E : Type 0} (x y : A) → done {E = E} x ≡ done y → x ≡ y
ok_is x y e = cc

pub err_is : {A E : Type 0} (x y : E) → failed {A = A} x ≡ failed y → x ≡ y
err_is x y e = cc

pub not_ok : {A E G : Type 0} (e : E) (x : A) → Err e ≡ done x → G
not_ok e x is = absurd cc

-- the parts of a result that is there
pub then_ok : {A B E : Type 0} (r : Result A E) (f : A → Result B E) (y : B) → (r andthen f) ≡ Ok y
    → (x : A) × (r ≡ Ok x) × (f x ≡ Ok y)
then_ok (Ok x) f y e = (x, refl, e)
then_ok (Err d) f y e = absurd cc

-- and the result of parts that are there
pub then_is : {A B E : Type 0} (r : Result A E) (x : A) (f : A → Result B E) → r ≡ Ok x
    → (r andthen f) ≡ f x
then_is r x f e = ap (λ z. z andthen f) e

-- a fault of the first part is the whole's
pub then_fails : {A B E : Type 0} (r : Result A E) (d : E) (f : A → Result B E) → r ≡ Err d
    → (r andthen f) ≡ Err d
then_fails r d f e = ap (λ z. z andthen f) e

-- a test that has to pass
pub passed : {A E : Type 0} (b : Bool) (x y : A) (e : E) → cond b (Ok x) (Err e) ≡ done y
    → (b ≡ true) × (x ≡ y)
passed true x y e is = (refl, ok_is x y is)
passed false x y e is = absurd cc

pub both_true : (a b : Bool) → (a && b) ≡ true → (a ≡ true) × (b ≡ true)
both_true true b e = (refl, e)
both_true false b e = absurd (false≢true e)

-- ---- pages of lists

pub one_here : (page : ℕ) (pages : List ℕ) → is_one_of page (page ∷ pages) ≡ true
one_here page pages = ap (λ b. b || is_one_of page pages) (eq-eqb page page refl)

or_true : (a b : Bool) → b ≡ true → (a || b) ≡ true
or_true true b e = refl
or_true false b e = e

pub one_later : (page other : ℕ) (pages : List ℕ) → is_one_of page pages ≡ true
    → is_one_of page (other ∷ pages) ≡ true
one_later page other pages e = or_true (eqb page other) (is_one_of page pages) e

pub one_left : (page : ℕ) (pages more : List ℕ) → is_one_of page pages ≡ true
    → is_one_of page (pages ++ more) ≡ true
one_left page [] more e = absurd (false≢true e)
one_left page (other ∷ pages) more e = by (eqb page other) e (one_left page pages more) where
  by : (b : Bool) → (b || is_one_of page pages) ≡ true
      → (is_one_of page pages ≡ true → is_one_of page (pages ++ more) ≡ true)
      → (b || is_one_of page (pages ++ more)) ≡ true
  by true e further = refl
  by false e further = further e

pub one_right : (page : ℕ) (pages more : List ℕ) → is_one_of page more ≡ true
    → is_one_of page (pages ++ more) ≡ true
one_right page [] more e = e
one_right page (other ∷ pages) more e =
    or_true (eqb page other) (is_one_of page (pages ++ more)) (one_right page pages more e)

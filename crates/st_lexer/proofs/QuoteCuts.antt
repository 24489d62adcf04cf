-- What ends in quotes stays what it is where the text is cut after it.
use Rattle.std.proofs.Common.{◌≡◌, ℕ, suc, ◌+◌, ◌<◌, ◌≤◌, Bool, true, false, cond, Option, Some, None, [], ◌∷◌, ◌++◌}
use Rattle.std.proofs.Common.{length, refl, sym, ap, ◌∙◌, arith}
use Rattle.std.specs.Prelude.{◌==◌}
use Rattle.texts.specs.Bytes.{Bytes}
use Rattle.st_grammar.specs.Tokens.{later, comment_end, string_end, string_bytes}
use Rattle.st_lexer.proofs.Sizes.{on_cond}

some_is : (a b : ℕ) → Some a ≡ Some b → a ≡ b
some_is a b e = cc

none_is_not : (o : Option ℕ) (m : ℕ) → o ≡ None → o ≡ Some m → ⊥
none_is_not o m n e = let c = sym n ∙ e in cc

abbrev pub OneLess : Option ℕ → ℕ → Type 0
OneLess o m = (k : ℕ) × ((o ≡ Some k) × (k + 1 ≡ m))

pub later_one : (o : Option ℕ) (m : ℕ) → later 1 o ≡ Some m → OneLess o m
later_one (Some n) m e = (n, (refl, some_is (n + 1) m e))
later_one None m e = absurd (none_is_not None m refl e)

comment_some : (bs : Bytes) (m : ℕ) → comment_end bs ≡ Some m → 0 < m
comment_some [] m e = absurd (none_is_not None m refl e)
comment_some (b ∷ bs) m h =
    let P : Option ℕ → Type 0 = λ o. o ≡ Some m → 0 < m in
    on_cond P (b == 34) (Some 1) (later 1 (comment_end bs)) (λ _ e. omega (arith, some_is 1 m e))
    (λ _ e. let k = later_one (comment_end bs) m e in omega (arith, k.1.1)) h

pub comment_cut : (f back other : Bytes) (m : ℕ) → comment_end (f ++ back) ≡ Some m → m ≤ length f
    → comment_end (f ++ other) ≡ Some m
comment_cut [] back other m e fits = absurd (omega (arith, comment_some back m e))
comment_cut (c ∷ f) back other m e fits =
    elim (c == 34) as (λ v. cond v (Some 1) (later 1 (comment_end (f ++ back))) ≡ Some m
    → cond v (Some 1) (later 1 (comment_end (f ++ other))) ≡ Some m) [
      | true ↦ λ h. h
      | false ↦ λ h. let k = later_one (comment_end (f ++ back)) m h in ap (later 1)
          (comment_cut f back other k.0 k.1.0 (omega (arith, k.1.1))) ∙ ap Some k.1.1
    ] e

-- a string that ends in the front of a text ends there whatever follows a space after that front
pub record SameString (quoted : Bool) (f back more : Bytes) (m : ℕ) : Type 0 where
  pub ends : string_end quoted (f ++ 32 ∷ more) ≡ Some m
  pub bytes : string_bytes quoted (f ++ 32 ∷ more) ≡ string_bytes quoted (f ++ back)

pub open_some : (bs : Bytes) (m : ℕ) → string_end false bs ≡ Some m → 0 < m
open_some [] m e = absurd (none_is_not None m refl e)
open_some (b ∷ bs) m e = let k = later_one (string_end (b == 39) bs) m e in omega (arith, k.1.1)

ended_by : (v : Bool) (bs : Bytes) (m : ℕ) → cond v (later 1 (string_end false bs)) (Some 0) ≡ Some m → m ≤ 0
    → (Some 0 ≡ Some m) × ([] ≡ cond v (39 ∷ string_bytes false bs) [])
ended_by true bs m e fits = let k = later_one (string_end false bs) m e in absurd (omega (arith, k.1.1))
ended_by false bs m e fits = (e, refl)

plain_bytes : (v : Bool) (c : ℕ) (f back more : Bytes) → string_bytes v (f ++ 32 ∷ more) ≡ string_bytes v (f ++ back)
    → cond v (string_bytes true (f ++ 32 ∷ more)) (c ∷ string_bytes false (f ++ 32 ∷ more))
    ≡ cond v (string_bytes true (f ++ back)) (c ∷ string_bytes false (f ++ back))
plain_bytes true c f back more h = h
plain_bytes false c f back more h = ap (λ l. c ∷ l) h

-- the same after a quote, by whether another follows
abbrev SameBy : Bool → Bytes → Bytes → Bytes → ℕ → Type 0
SameBy v f back more m = (cond v (later 1 (string_end false (f ++ 32 ∷ more))) (Some 0) ≡ Some m)
    × (cond v (39 ∷ string_bytes false (f ++ 32 ∷ more)) [] ≡ cond v (39 ∷ string_bytes false (f ++ back)) [])

quoted_by : (v : Bool) (f back more : Bytes) (m : ℕ) → cond v (later 1 (string_end false (f ++ back))) (Some 0) ≡ Some m
    → ((n : ℕ) → string_end false (f ++ back) ≡ Some n → n ≤ length f → SameString false f back more n)
    → m ≤ suc (length f) → SameBy v f back more m
quoted_by true f back more m e rest fits =
    let k = later_one (string_end false (f ++ back)) m e in
    let same = rest k.0 k.1.0 (omega (arith, k.1.1)) in
    (ap (later 1) same.ends ∙ ap Some k.1.1, ap (λ l. 39 ∷ l) same.bytes)
quoted_by false f back more m e rest fits = (e, refl)

ended_now : (back more : Bytes) (m : ℕ) → string_end true back ≡ Some m → m ≤ 0 → SameString true [] back more m
ended_now [] more m e fits = record { ends = e; bytes = refl }
ended_now (b ∷ bs) more m e fits =
    let both : (Some 0 ≡ Some m)
    × ([] ≡ cond (b == 39) (39 ∷ string_bytes false bs) []) = ended_by (b == 39) bs m e fits in
    record { ends = both.0; bytes = both.1 }

pub string_cut : (quoted : Bool) (f back more : Bytes) (m : ℕ) → string_end quoted (f ++ back) ≡ Some m → m ≤ length f
    → SameString quoted f back more m
string_cut false [] back more m e fits = absurd (omega (arith, open_some back m e))
string_cut true [] back more m e fits = ended_now back more m e fits
string_cut false (c ∷ f) back more m e fits =
    let k = later_one (string_end (c == 39) (f ++ back)) m e in
    let rest : SameString (c == 39) f back more k.0 = string_cut (c == 39) f back more k.0 k.1.0
    (omega (arith, k.1.1)) in
    record { ends = ap (later 1) rest.ends ∙ ap Some k.1.1; bytes = plain_bytes (c == 39) c f back more rest.bytes }
string_cut true (c ∷ f) back more m e fits =
    let both : SameBy (c == 39) f back more m = quoted_by (c == 39) f back more m e
    (λ n h short. string_cut false f back more n h short) fits in
    record { ends = both.0; bytes = both.1 }

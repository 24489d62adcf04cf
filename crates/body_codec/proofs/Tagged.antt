-- What stands behind a tag.
use Rattle.std.proofs.Common.{◌≡◌, ℕ, suc, Bool, true, false, cond, eqb, List, [], ◌∷◌, Result, Ok, Err, refl, sym, ap, subst, ◌∙◌}
use Rattle.std.proofs.lemmas.Bool.{eqb-true}
use Rattle.body_codec.specs.declared.fault.Flaw.{Flaw}
use Rattle.body_codec.specs.Reading.{Reader, made}
use Rattle.body_codec.proofs.Takes.{IsBytes, Takes, Reads, IsWithin, ok_is}

-- what was made something else
pub made_from : {A B : Type 0} (make : A → B) (r : Result (A × List ℕ) Flaw) (y : B × List ℕ)
    → made make r ≡ Ok y → (x : A × List ℕ) × (r ≡ Ok x) × ((make x.0, x.1) ≡ y)
made_from make (Ok x) y e = (x, refl, ok_is (make x.0, x.1) y e)
made_from make (Err d) y e = absurd cc

pub made_within : {A B : Type 0} (make : A → B) (bytes : List ℕ) (r : Result (A × List ℕ) Flaw)
    → IsWithin bytes r → IsWithin bytes (made make r)
made_within make bytes (Ok x) within = within
made_within make bytes (Err e) within = within

-- a choice by a tag: what it gives, it gives by one of its sides
pub by_tag : {A G : Type 0} (tag k : ℕ) (x y z : A) → (tag ≡ k → x ≡ z → G) → (y ≡ z → G)
    → cond (eqb tag k) x y ≡ z → G
by_tag {A = A} {G = G} tag k x y z here later e = by (eqb tag k) refl e where
  by : (b : Bool) → eqb tag k ≡ b → cond b x y ≡ z → G
  by true is e = here (eqb-true _ _ is) e
  by false is e = later e

abbrev failed : {A : Type 0} → Flaw → Result A Flaw
failed f = Err f

pub no_result : {A G : Type 0} (f : Flaw) (y : A) → failed f ≡ Ok y → G
no_result f y e = absurd cc

pub cons_takes : (tag k : ℕ) (more text rest : List ℕ) → tag ≡ k → Takes more text rest
    → Takes (tag ∷ more) (k ∷ text) rest
cons_takes tag k more text rest same taken = record {
  parts = ap (λ (n : ℕ). n ∷ more) same ∙ ap (λ (l : List ℕ). k ∷ l) taken.parts;
  rest_fits = taken.rest_fits;
}

-- Things with a tag and a content behind it.
module _ {B : Type 0} (Q : B → Type 0) (spelled_whole : B → List ℕ) where
  abbrev pub IsTaken : List ℕ → B × List ℕ → Type 0
  IsTaken bytes y = Takes bytes (spelled_whole y.0) y.1 × Q y.0

  pub content_taken : {A : Type 0} (P : A → Type 0) (spelled : A → List ℕ) (read : Reader A)
      → Reads P spelled read → (make : A → B) → ((x : A) → P x → Q (make x)) → (k : ℕ)
      → ((x : A) → spelled_whole (make x) ≡ k ∷ spelled x)
      → (tag : ℕ) (more : List ℕ) (y : B × List ℕ) → IsBytes (tag ∷ more) → tag ≡ k
      → made make (read more) ≡ Ok y → IsTaken (tag ∷ more) y
  content_taken P spelled read reads make stored k written tag more y fits same e =
      let a = made_from make (read more) y e in
      let taken = reads.takes more a.0.0 a.0.1 (λ i. fits (suc i)) a.1 in
      let whole = cons_takes tag k more (spelled a.0.0) a.0.1 same taken.0 in
      subst (IsTaken (tag ∷ more)) a.2
      (subst (λ (l : List ℕ). Takes (tag ∷ more) l a.0.1) (sym (written a.0.0)) whole, stored a.0.0 taken.1)

  pub alone_taken : (x : B) (k : ℕ) → spelled_whole x ≡ k ∷ [] → Q x
      → (tag : ℕ) (more : List ℕ) (y : B × List ℕ) → IsBytes (tag ∷ more) → tag ≡ k
      → (x, more) ≡ y → IsTaken (tag ∷ more) y
  alone_taken x k written stored tag more y fits same e =
      let whole : Takes (tag ∷ more) (k ∷ []) more =
      cons_takes tag k more [] more same (record { parts = refl; rest_fits = λ i. fits (suc i) }) in
      subst (IsTaken (tag ∷ more)) e (subst (λ (l : List ℕ). Takes (tag ∷ more) l more) (sym written) whole, stored)

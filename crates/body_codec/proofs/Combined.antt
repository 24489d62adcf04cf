-- Readers made of others: what they read is spelled so, and what is spelled so they read.
use Rattle.std.proofs.Common.{◌≡◌, ℕ, suc, ◌≤◌, cond, IsTrue, List, [], ◌∷◌, ◌++◌, length, Option, Some, None, Ordering, Result, Ok, refl, sym, ap, subst, ◌∙◌, append_assoc}
use Rattle.body_codec.specs.declared.fault.BodyRule.{BodyRule}
use Rattle.body_codec.specs.declared.fault.BodyRule.TheVariants as rule
use Rattle.body_codec.specs.declared.fault.Flaw.{Flaw}
use Rattle.body_codec.specs.Reading.{◌>>=◌, ◌&◌, both_at, Reader, breaks, made, byte_at, meant, coded_at, is_above, above_at}
use Rattle.body_codec.proofs.Takes.{IsBytes, Takes, Reads, IsWithin, wider, bind_within, cond_within, breaks_within, byte_within, bind_ok, passed_ok, ok_is, step, then_takes}
use Rattle.body_codec.proofs.Tagged.{made_from, made_within, no_result}

module _ {A B : Type 0} (P : A → Type 0) (Q : B → Type 0) (f : A → List ℕ) (g : B → List ℕ)
    (a : Reader A) (b : Reader B) (first : Reads P f a) (second : Reads Q g b) where
  abbrev AreBoth : A × B → Type 0
  AreBoth p = P p.0 × Q p.1

  abbrev both_spelled : A × B → List ℕ
  both_spelled p = f p.0 ++ g p.1

  -- the second field behind the first
  abbrev behind : A × List ℕ → Result ((A × B) × List ℕ) Flaw
  behind one = b one.1 >>= (λ other. Ok ((one.0, other.0), other.1))

  both_again : (p : A × B) (rest : List ℕ) → AreBoth p → (a & b) (both_spelled p ++ rest) ≡ Ok (p, rest)
  unfolding both_at
  both_again p rest h =
      let after = g p.1 ++ rest in
      ap (λ l. a l >>= behind) (append_assoc (f p.0) (g p.1) rest)
      ∙ (step (a (f p.0 ++ after)) (p.0, after) behind (first.again p.0 after h.0)
      ∙ step (b after) (p.1, rest) (λ other. Ok ((p.0, other.0), other.1)) (second.again p.1 rest h.1))

  both_takes : (bytes : List ℕ) (p : A × B) (rest : List ℕ) → IsBytes bytes → (a & b) bytes ≡ Ok (p, rest)
      → Takes bytes (both_spelled p) rest × AreBoth p
  unfolding both_at
  both_takes bytes p rest fits e =
      let one = bind_ok (a bytes) behind (p, rest) e in
      let other = bind_ok (b one.0.1) (λ other. Ok ((one.0.0, other.0), other.1)) (p, rest) one.2 in
      let is = ok_is ((one.0.0, other.0.0), other.0.1) (p, rest) other.2 in
      let front = first.takes bytes one.0.0 one.0.1 fits one.1 in
      let back = second.takes one.0.1 other.0.0 other.0.1 front.0.rest_fits other.1 in
      subst (λ (y : (A × B) × List ℕ). Takes bytes (both_spelled y.0) y.1 × AreBoth y.0) is
      (then_takes bytes (f one.0.0) one.0.1 (g other.0.0) other.0.1 front.0 back.0, (front.1, back.1))

  both_within : (bytes : List ℕ) → IsWithin bytes ((a & b) bytes)
  unfolding both_at
  both_within bytes = bind_within bytes (a bytes) behind (first.within bytes)
      (λ x le. wider bytes x.1 (behind x) le (bind_within x.1 (b x.1) (λ other. Ok ((x.0, other.0), other.1))
      (second.within x.1) (λ y less. less)))

  pub both_reads : Reads AreBoth both_spelled (a & b)
  both_reads = record { again = both_again; takes = both_takes; within = both_within }

-- a thing that is made of what is read
module _ {A B : Type 0} (P : A → Type 0) (spelled : A → List ℕ) (read : Reader A)
    (Q : B → Type 0) (spelled_whole : B → List ℕ) (whole : Reader B) (make : A → B) (undo : B → A) where
  pub made_reads : ((bytes : List ℕ) → whole bytes ≡ made make (read bytes))
      → ((y : B) → Q y → make (undo y) ≡ y) → ((x : A) → P x → spelled_whole (make x) ≡ spelled x)
      → ((x : A) → P x → Q (make x)) → ((y : B) → Q y → P (undo y))
      → Reads P spelled read → Reads Q spelled_whole whole
  made_reads same back written makes undoes reads = record {
    again = λ y rest is.
        let form : spelled_whole y ≡ spelled (undo y) = ap spelled_whole (sym (back y is)) ∙ written (undo y) (undoes y is) in
        same (spelled_whole y ++ rest)
        ∙ ap (λ l. made make (read (l ++ rest))) form
        ∙ ap (made make) (reads.again (undo y) rest (undoes y is))
        ∙ ap (λ z. Ok (z, rest)) (back y is);
    takes = λ bytes y rest fits e.
        let a = made_from make (read bytes) (y, rest) (sym (same bytes) ∙ e) in
        let taken = reads.takes bytes a.0.0 a.0.1 fits a.1 in
        subst (λ (p : B × List ℕ). Takes bytes (spelled_whole p.0) p.1 × Q p.0) a.2
        (subst (λ (l : List ℕ). Takes bytes l a.0.1) (sym (written a.0.0 taken.1)) taken.0, makes a.0.0 taken.1);
    within = λ bytes. subst (λ r. IsWithin bytes r) (sym (same bytes)) (made_within make bytes (read bytes) (reads.within bytes));
  }

-- a byte that stands for something
module _ {A : Type 0} (P : A → Type 0) (meaning : ℕ → Option A) (number : A → ℕ) (broken : BodyRule) where
  abbrev chosen : List ℕ → ℕ × List ℕ → Result (A × List ℕ) Flaw
  chosen bytes byte = meant (meaning byte.0) broken bytes byte.1

  some_chosen : (bytes more : List ℕ) (o : Option A) (y : A × List ℕ)
      → meant o broken bytes more ≡ Ok y → (o ≡ Some y.0) × (more ≡ y.1)
  some_chosen bytes more None y e = no_result _ y e
  some_chosen bytes more (Some x) y e =
      let is = ok_is (x, more) y e in
      (ap (λ (p : A × List ℕ). Some p.0) is, ap (λ (p : A × List ℕ). p.1) is)

  chosen_within : (bytes more : List ℕ) (o : Option A) → length more ≤ length bytes
      → IsWithin bytes (meant o broken bytes more)
  chosen_within bytes more None le = breaks_within bytes
  chosen_within bytes more (Some x) le = le

  module _ (known : (x : A) → P x → meaning (number x) ≡ Some x)
      (told : (n : ℕ) (x : A) → meaning n ≡ Some x → (n ≡ number x) × P x) where
    coded_takes : (bytes : List ℕ) (x : A) (rest : List ℕ) → IsBytes bytes → coded_at meaning broken bytes ≡ Ok (x, rest)
        → Takes bytes (number x ∷ []) rest × P x
    unfolding coded_at byte_at
    coded_takes [] x rest fits e = no_result _ (x, rest) e
    coded_takes (byte ∷ more) x rest fits e =
        let is = some_chosen (byte ∷ more) more (meaning byte) (x, rest) e in
        let t = told byte x is.0 in (
          record {
            parts = ap (λ (n : ℕ). n ∷ more) t.0 ∙ ap (λ (l : List ℕ). number x ∷ l) is.1;
            rest_fits = subst IsBytes is.1 (λ i. fits (suc i));
          },
          t.1,
        )

    pub coded_reads : Reads P (λ x. number x ∷ []) (coded_at meaning broken)
    unfolding coded_at byte_at
    coded_reads = record {
      again = λ x rest is. rw (known x is) refl;
      takes = coded_takes;
      within = λ bytes. bind_within bytes (byte_at bytes) (chosen bytes) (byte_within bytes)
          (λ byte le. chosen_within bytes byte.1 (meaning byte.0) le);
    }

-- a key above the last
module _ {K : Type 0} (P : K → Type 0) (spelled : K → List ℕ) (read : Reader K) (reads : Reads P spelled read)
    (cmp : K → K → Ordering) (last : Option K) where
  abbrev pub IsNext : K → Type 0
  IsNext key = P key × IsTrue (is_above cmp last key)

  abbrev kept : List ℕ → K × List ℕ → Result (K × List ℕ) Flaw
  kept bytes key = cond (is_above cmp last key.0) (Ok key) (breaks bytes rule.Order)

  pub above_reads : Reads IsNext spelled (above_at cmp last read)
  unfolding above_at
  above_reads = record {
    again = λ key rest is.
        step (read (spelled key ++ rest)) (key, rest) (kept (spelled key ++ rest)) (reads.again key rest is.0)
        ∙ ap (λ b. cond b (Ok (key, rest)) (breaks (spelled key ++ rest) rule.Order)) is.1;
    takes = λ bytes key rest fits e.
        let a = bind_ok (read bytes) (kept bytes) (key, rest) e in
        let b = passed_ok (is_above cmp last a.0.0) _ (Ok a.0) (key, rest) a.2 in
        let is = ok_is a.0 (key, rest) b.1 in
        let taken = reads.takes bytes a.0.0 a.0.1 fits a.1 in
        subst (λ (p : K × List ℕ). Takes bytes (spelled p.0) p.1 × IsNext p.0) is (taken.0, (taken.1, b.0));
    within = λ bytes. bind_within bytes (read bytes) (kept bytes) (reads.within bytes)
        (λ x le. cond_within bytes (is_above cmp last x.0) (Ok x) (breaks bytes rule.Order) le (breaks_within bytes));
  }

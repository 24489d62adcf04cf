-- Lists of authors, and what is known of lists of pairs.
use Rattle.std.proofs.Common.{◌≡◌, ◌≢◌, ℕ, zero, suc, ◌+◌, ◌≤◌, ◌<◌, ◌==◌, Bool, true, false, not, cond, ◌⊎◌, inl, inr, ⊎_elim, List, [], ◌∷◌, ◌++◌, refl, sym, ap, ◌∙◌, subst, arith, eq-eqb, ne_eqb, append_assoc}
use Rattle.std.proofs.lemmas.List.{append-nil}
use Rattle.std.proofs.lemmas.List.Elements.{filter-append}
use Rattle.std.specs.List.{range_with_len}
use mathlib.Core.Logic.{dite}
use native.Mathlib.Decide.{ℕ_discrete}
use Rattle.gem_clock.specs.Pairs.{Has, without, of_author, AllKnow}

-- of two lists' authors each is of one of them
pub has_append : (xs ys : List ℕ) (a : ℕ) → Has (xs ++ ys) a → Has xs a ⊎ Has ys a
has_append [] ys a h = inr h
has_append (x ∷ xs) ys a (inl e) = inl (inl e)
has_append (x ∷ xs) ys a (inr h) = ⊎_elim (λ l. inl (inr l)) (λ r. inr r) (has_append xs ys a h)

-- who is left without an author was there, and is another
pub without_has : (a : ℕ) (xs : List ℕ) (b : ℕ) → Has (without a xs) b → Has xs b × (b ≢ a)
without_has a [] b h = absurd h
without_has a (x ∷ xs) b h = dite (ℕ_discrete x a)
    (λ same. let h' : Has (without a xs) b = subst (λ (t : Bool). Has (cond (not t) (x ∷ without a xs) (without a xs)) b) (eq-eqb x a same) h in
    let r = without_has a xs b h' in (inr r.0, r.1))
    (λ other. let h' : (x ≡ b) ⊎ Has (without a xs) b = subst (λ (t : Bool). Has (cond (not t) (x ∷ without a xs) (without a xs)) b) (ne_eqb x a other) h in
    ⊎_elim (λ e. (inl e, λ f. other (e ∙ f))) (λ m. let r = without_has a xs b m in (inr r.0, r.1)) h')

-- the authors of a range
pub range_has : (a n b : ℕ) → Has (range_with_len a n) b → (a ≤ b) × (b < a + n)
range_has a zero b h = absurd h
range_has a (suc n) b (inl e) = (omega arith, omega arith)
range_has a (suc n) b (inr h) = let r = range_has (a + 1) n b h in let low = r.0 in let high = r.1 in (omega arith, omega arith)

-- nobody leaves with an author below the range
without_below : (a b n : ℕ) → a < b → without a (range_with_len b n) ≡ range_with_len b n
without_below a b zero h = refl
without_below a b (suc n) h =
    let rest = without_below a (b + 1) n (omega arith) in
    let other : (b == a) ≡ false = ne_eqb b a (λ e. omega arith) in
    rw (other, rest) refl

-- a range without its first author
pub without_first : (a n : ℕ) → without a (range_with_len a (suc n)) ≡ range_with_len (a + 1) n
without_first a n =
    let same : (a == a) ≡ true = eq-eqb a a refl in
    let rest = without_below a (a + 1) n (omega arith) in
    rw (same, rest) refl

module _ {E : Type 0} where
  -- a list that is known in whole
  pub all_known : (authors : List ℕ) (seen list : List (ℕ × E)) → seen ≡ list → AllKnow authors seen list
  all_known authors seen list same = record { rest = []; front = sym same ∙ sym (append-nil seen); own = λ a h. refl }

  -- who knows a list knows it for fewer authors
  pub fewer_known : (more fewer : List ℕ) (seen list : List (ℕ × E)) → ((a : ℕ) → Has fewer a → Has more a) → AllKnow more seen list → AllKnow fewer seen list
  fewer_known more fewer seen list within k = record { rest = k.rest; front = k.front; own = λ a h. k.own a (within a h) }

  -- an author's pairs, where another adds one
  not_own : (a b : ℕ) (entry : E) → a ≢ b → of_author a ((b, entry) ∷ []) ≡ []
  not_own a b entry other = let apart : (b == a) ≡ false = ne_eqb b a (λ e. other (sym e)) in rw apart refl

  -- a pair of another author is added
  pub known_longer : (authors : List ℕ) (seen list : List (ℕ × E)) (b : ℕ) (entry : E) → ((a : ℕ) → Has authors a → a ≢ b)
      → AllKnow authors seen list → AllKnow authors seen (list ++ (b, entry) ∷ [])
  known_longer authors seen list b entry others k = record {
    rest = k.rest ++ (b, entry) ∷ [];
    front = ap (λ (xs : List (ℕ × E)). xs ++ (b, entry) ∷ []) k.front ∙ append_assoc seen k.rest ((b, entry) ∷ []);
    own = λ a h. rw (filter-append (λ (pair : ℕ × E). pair.0 == a) k.rest ((b, entry) ∷ []), k.own a h) (not_own a b entry (others a h));
  }

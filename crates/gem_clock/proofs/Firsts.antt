-- The stamps of a new clock, which its pen gives away one after another.
use Rattle.std.proofs.Common.{◌≡◌, ℕ, zero, suc, ◌+◌, ◌-◌, ◌<◌, ◌⊎◌, inl, inr, ⊎_elim, List, [], ◌∷◌, ◌++◌, length, Some, refl, sym, ap, ◌∙◌, subst, arith, length-append}
use Rattle.std.specs.List.{range_with_len, slice_get}
use Rattle.gem_clock.specs.Pairs.{Has, without}
use Rattle.gem_clock.specs.Shown.{ClockId, StampView, first_stamp, AreFirst}
use Rattle.gem_clock.proofs.Authors.{without_first}

-- the authors from the one after index on are still held: so is this one
pub next_held : (index authors : ℕ) (held : List ℕ) → held ≡ range_with_len (index + 1) (authors - index) → index < authors → Has held (index + 1)
next_held index authors held is more =
    let n : authors - index ≡ suc (authors - (index + 1)) = omega arith in
    subst (λ (hs : List ℕ). Has hs (index + 1)) (sym (is ∙ ap (range_with_len (index + 1)) n)) (inl refl)

-- and once it is given away, those after it are
pub next_given : (index authors : ℕ) (held : List ℕ) → held ≡ range_with_len (index + 1) (authors - index) → index < authors
    → without (index + 1) held ≡ range_with_len (index + 1 + 1) (authors - (index + 1))
next_given index authors held is more =
    let n : authors - index ≡ suc (authors - (index + 1)) = omega arith in
    ap (without (index + 1)) (is ∙ ap (range_with_len (index + 1)) n) ∙ without_first (index + 1) (authors - (index + 1))

-- at the end nobody is
pub none_held : (authors : ℕ) (held : List ℕ) → held ≡ range_with_len (authors + 1) (authors - authors) → held ≡ []
none_held authors held is = let n : authors - authors ≡ 0 = omega arith in is ∙ ap (range_with_len (authors + 1)) n

module _ {A : Type 0} where
  -- an element of a list that has one more
  get_snoc : (xs : List A) (x y : A) (k : ℕ) → slice_get (xs ++ x ∷ []) k ≡ Some y → (slice_get xs k ≡ Some y) ⊎ ((k ≡ length xs) × (x ≡ y))
  get_snoc [] x y zero e = inr (refl, (cc))
  get_snoc [] x y (suc k) e = absurd (cc)
  get_snoc (z ∷ xs) x y zero e = inl e
  get_snoc (z ∷ xs) x y (suc k) e = ⊎_elim (λ l. inl l) (λ r. let h = r.0 in inr ((omega arith), r.1)) (get_snoc xs x y k e)

module _ {E : Type 0} where
  pub none_first : (clock : ClockId) → AreFirst {E = E} clock 0 []
  none_first clock = record { count = refl; each = λ k m e. absurd (cc) }

  -- one stamp more
  pub more_first : (clock : ClockId) (authors : ℕ) (stamps : List (StampView E)) (stamp : StampView E) → stamp ≡ first_stamp clock (authors + 1)
      → AreFirst clock authors stamps → AreFirst clock (authors + 1) (stamps ++ stamp ∷ [])
  more_first clock authors stamps stamp is first = record {
    count = let more = length-append stamps (stamp ∷ []) in let n = first.count in omega arith;
    each = λ k m e. ⊎_elim
        (λ old. first.each k m old)
        (λ new. sym new.1 ∙ is ∙ ap (λ (n : ℕ). first_stamp {E = E} clock (n + 1)) (sym (new.0 ∙ first.count)))
        (get_snoc stamps stamp m k e);
  }

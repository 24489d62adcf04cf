-- What an edit at the place that a search found does to a bag.
use Rattle.std.proofs.Common.{◌≡◌, ◌==◌, ℕ, zero, suc, ◌<◌, false, cond, List, [], ◌∷◌, length, get_or, set, Some, None, option_map, Ordering, refl, sym, ap, ◌∙◌}
use Rattle.std.proofs.lemmas.Bool.{ne_eqb}
use Rattle.std.proofs.lemmas.List.{get_or_default}
use Rattle.std.specs.List.{AllByRecursion, insert, remove}
use Rattle.std.specs.Ordering.{is_eq, match_ordering}
use Rattle.std.specs.declared.cmp.Ordering.TheVariants.{Less, Equal, Greater}
use Rattle.rc_counter_bag.specs.Bag.{one_more, one_less, count, with_one_more, with_one_less}
use Rattle.sorted_pairs.specs.Place.{StandsAt, FitsAt}

module _ {T : Type 0} (cmp : T → T → Ordering) (item : T) where
  -- ---- what a definition says of the first pair

  pub count-here : (pair : T × ℕ) (rest : List (T × ℕ)) → cmp pair.0 item ≡ Equal → count cmp item (pair ∷ rest) ≡ pair.1
  count-here pair rest e = ap (λ o. cond (is_eq o) pair.1 (count cmp item rest)) e

  pub count-past : (pair : T × ℕ) (rest : List (T × ℕ)) → is_eq (cmp pair.0 item) ≡ false → count cmp item (pair ∷ rest) ≡ count cmp item rest
  count-past pair rest e = ap (λ b. cond b pair.1 (count cmp item rest)) e

  pub with_one_more-past : (pair : T × ℕ) (rest : List (T × ℕ)) → cmp pair.0 item ≡ Less → with_one_more cmp item (pair ∷ rest) ≡ pair ∷ with_one_more cmp item rest
  with_one_more-past pair rest e = ap (λ o. match_ordering o (pair ∷ with_one_more cmp item rest) ((pair.0, one_more pair.1) ∷ rest) ((item, 1) ∷ pair ∷ rest)) e

  pub with_one_more-here : (pair : T × ℕ) (rest : List (T × ℕ)) → cmp pair.0 item ≡ Equal → with_one_more cmp item (pair ∷ rest) ≡ (pair.0, one_more pair.1) ∷ rest
  with_one_more-here pair rest e = ap (λ o. match_ordering o (pair ∷ with_one_more cmp item rest) ((pair.0, one_more pair.1) ∷ rest) ((item, 1) ∷ pair ∷ rest)) e

  pub with_one_more-before : (pair : T × ℕ) (rest : List (T × ℕ)) → cmp pair.0 item ≡ Greater → with_one_more cmp item (pair ∷ rest) ≡ (item, 1) ∷ pair ∷ rest
  with_one_more-before pair rest e = ap (λ o. match_ordering o (pair ∷ with_one_more cmp item rest) ((pair.0, one_more pair.1) ∷ rest) ((item, 1) ∷ pair ∷ rest)) e

  abbrev pub less_here : T × ℕ → List (T × ℕ) → List (T × ℕ)
  less_here pair rest = cond (pair.1 == 1) rest ((pair.0, one_less pair.1) ∷ rest)

  pub with_one_less-here : (pair : T × ℕ) (rest : List (T × ℕ)) → cmp pair.0 item ≡ Equal → with_one_less cmp item (pair ∷ rest) ≡ Some (less_here pair rest)
  with_one_less-here pair rest e = ap (λ o. cond (is_eq o) (Some (less_here pair rest)) (option_map (λ less. pair ∷ less) (with_one_less cmp item rest))) e

  pub with_one_less-past : (pair : T × ℕ) (rest : List (T × ℕ)) → is_eq (cmp pair.0 item) ≡ false → with_one_less cmp item (pair ∷ rest) ≡ option_map (λ less. pair ∷ less) (with_one_less cmp item rest)
  with_one_less-past pair rest e = ap (λ b. cond b (Some (less_here pair rest)) (option_map (λ less. pair ∷ less) (with_one_less cmp item rest))) e

  -- ---- where the item stands

  pub count-stands : (pairs : List (T × ℕ)) (at : ℕ) (x : T × ℕ) → StandsAt cmp item pairs at → x ≡ get_or pairs at x → count cmp item pairs ≡ x.1
  count-stands [] at x stands read = absurd stands
  count-stands (pair ∷ rest) zero x stands read = count-here pair rest stands ∙ ap (λ (p : T × ℕ). p.1) (sym read)
  count-stands (pair ∷ rest) (suc at) x stands read = count-past pair rest (ap is_eq stands.0) ∙ count-stands rest at x stands.1 read

  pub with_one_more-stands : (pairs : List (T × ℕ)) (at : ℕ) (x : T × ℕ) → StandsAt cmp item pairs at → x ≡ get_or pairs at x → with_one_more cmp item pairs ≡ set pairs at (x.0, one_more x.1)
  with_one_more-stands [] at x stands read = absurd stands
  with_one_more-stands (pair ∷ rest) zero x stands read = with_one_more-here pair rest stands ∙ ap (λ (p : T × ℕ). (p.0, one_more p.1) ∷ rest) (sym read)
  with_one_more-stands (pair ∷ rest) (suc at) x stands read = with_one_more-past pair rest stands.0 ∙ ap (λ l. pair ∷ l) (with_one_more-stands rest at x stands.1 read)

  pub with_one_less-last : (pairs : List (T × ℕ)) (at : ℕ) (x : T × ℕ) → StandsAt cmp item pairs at → x ≡ get_or pairs at x → x.1 ≡ 1 → with_one_less cmp item pairs ≡ Some (remove pairs at)
  with_one_less-last [] at x stands read one = absurd stands
  with_one_less-last (pair ∷ rest) zero x stands read one = with_one_less-here pair rest stands ∙ ap (λ (p : T × ℕ). Some (less_here p rest)) (sym read) ∙ ap (λ n. Some (cond (n == 1) rest ((x.0, one_less x.1) ∷ rest))) one
  with_one_less-last (pair ∷ rest) (suc at) x stands read one = with_one_less-past pair rest (ap is_eq stands.0) ∙ ap (option_map (λ less. pair ∷ less)) (with_one_less-last rest at x stands.1 read one)

  pub with_one_less-more : (pairs : List (T × ℕ)) (at : ℕ) (x : T × ℕ) → StandsAt cmp item pairs at → x ≡ get_or pairs at x → (x.1 == 1) ≡ false → with_one_less cmp item pairs ≡ Some (set pairs at (x.0, one_less x.1))
  with_one_less-more [] at x stands read more = absurd stands
  with_one_less-more (pair ∷ rest) zero x stands read more = with_one_less-here pair rest stands ∙ ap (λ (p : T × ℕ). Some (less_here p rest)) (sym read) ∙ ap (λ b. Some (cond b rest ((x.0, one_less x.1) ∷ rest))) more
  with_one_less-more (pair ∷ rest) (suc at) x stands read more = with_one_less-past pair rest (ap is_eq stands.0) ∙ ap (option_map (λ less. pair ∷ less)) (with_one_less-more rest at x stands.1 read more)

  -- the pair is read twice: for the test, and to write it
  pub with_one_less-written : (pairs : List (T × ℕ)) (at : ℕ) (x y : T × ℕ) → StandsAt cmp item pairs at → at < length pairs → x ≡ get_or pairs at x → y ≡ get_or pairs at y → (x.1 ≡ 1 → ⊥)
      → with_one_less cmp item pairs ≡ Some (set pairs at (y.0, one_less y.1))
  with_one_less-written pairs at x y stands within read_x read_y more =
      let same : y ≡ x = read_y ∙ get_or_default pairs at y x within ∙ sym read_x in
      with_one_less-more pairs at y stands read_y (ap (λ (p : T × ℕ). p.1 == 1) same ∙ ne_eqb x.1 1 more)

  -- ---- where the item would stand

  above : (pairs : List (T × ℕ)) → AllByRecursion (λ pair. cmp pair.0 item ≡ Greater) pairs → (count cmp item pairs ≡ 0) × (with_one_less cmp item pairs ≡ None)
  above [] greater = (refl, refl)
  above (pair ∷ rest) greater =
      let r = above rest greater.1 in
      (count-past pair rest (ap is_eq greater.0) ∙ r.0, with_one_less-past pair rest (ap is_eq greater.0) ∙ ap (option_map (λ less. pair ∷ less)) r.1)

  pub absent : (pairs : List (T × ℕ)) (at : ℕ) → FitsAt cmp item pairs at → (count cmp item pairs ≡ 0) × (with_one_less cmp item pairs ≡ None)
  absent pairs zero fits = above pairs fits
  absent [] (suc at) fits = absurd fits
  absent (pair ∷ rest) (suc at) fits =
      let r = absent rest at fits.1 in
      (count-past pair rest (ap is_eq fits.0) ∙ r.0, with_one_less-past pair rest (ap is_eq fits.0) ∙ ap (option_map (λ less. pair ∷ less)) r.1)

  pub with_one_more-fits : (pairs : List (T × ℕ)) (at : ℕ) → FitsAt cmp item pairs at → with_one_more cmp item pairs ≡ insert pairs at (item, 1)
  with_one_more-fits [] zero fits = refl
  with_one_more-fits (pair ∷ rest) zero fits = with_one_more-before pair rest fits.0
  with_one_more-fits [] (suc at) fits = absurd fits
  with_one_more-fits (pair ∷ rest) (suc at) fits = with_one_more-past pair rest fits.0 ∙ ap (λ l. pair ∷ l) (with_one_more-fits rest at fits.1)

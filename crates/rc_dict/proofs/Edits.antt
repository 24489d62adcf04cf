-- What an edit at the place that a search found does to a dictionary.
use Rattle.std.proofs.Common.{◌≡◌, ℕ, zero, suc, true, false, cond, List, [], ◌∷◌, get_or, set, Some, None, Ordering, refl, ap, ◌∙◌}
use Rattle.std.specs.List.{AllByRecursion, insert, remove}
use Rattle.std.specs.Ordering.{is_eq, match_ordering}
use Rattle.std.specs.declared.cmp.Ordering.TheVariants.{Less, Equal, Greater}
use Rattle.rc_dict.specs.Dict.{entry, put, without}
use Rattle.sorted_pairs.specs.Place.{StandsAt, FitsAt}

module _ {K T : Type 0} (cmp : K → K → Ordering) (key : K) where
  -- ---- what a definition says of the first pair

  pub entry-here : (pair : K × T) (rest : List (K × T)) → is_eq (cmp pair.0 key) ≡ true → entry cmp key (pair ∷ rest) ≡ Some pair.1
  entry-here pair rest e = ap (λ b. cond b (Some pair.1) (entry cmp key rest)) e

  pub entry-past : (pair : K × T) (rest : List (K × T)) → is_eq (cmp pair.0 key) ≡ false → entry cmp key (pair ∷ rest) ≡ entry cmp key rest
  entry-past pair rest e = ap (λ b. cond b (Some pair.1) (entry cmp key rest)) e

  pub without-here : (pair : K × T) (rest : List (K × T)) → is_eq (cmp pair.0 key) ≡ true → without cmp key (pair ∷ rest) ≡ rest
  without-here pair rest e = ap (λ b. cond b rest (pair ∷ without cmp key rest)) e

  pub without-past : (pair : K × T) (rest : List (K × T)) → is_eq (cmp pair.0 key) ≡ false → without cmp key (pair ∷ rest) ≡ pair ∷ without cmp key rest
  without-past pair rest e = ap (λ b. cond b rest (pair ∷ without cmp key rest)) e

  module _ (value : T) where
    pub put-past : (pair : K × T) (rest : List (K × T)) → cmp pair.0 key ≡ Less → put cmp key value (pair ∷ rest) ≡ pair ∷ put cmp key value rest
    put-past pair rest e = ap (λ o. match_ordering o (pair ∷ put cmp key value rest) ((key, value) ∷ rest) ((key, value) ∷ pair ∷ rest)) e

    pub put-here : (pair : K × T) (rest : List (K × T)) → cmp pair.0 key ≡ Equal → put cmp key value (pair ∷ rest) ≡ (key, value) ∷ rest
    put-here pair rest e = ap (λ o. match_ordering o (pair ∷ put cmp key value rest) ((key, value) ∷ rest) ((key, value) ∷ pair ∷ rest)) e

    pub put-before : (pair : K × T) (rest : List (K × T)) → cmp pair.0 key ≡ Greater → put cmp key value (pair ∷ rest) ≡ (key, value) ∷ pair ∷ rest
    put-before pair rest e = ap (λ o. match_ordering o (pair ∷ put cmp key value rest) ((key, value) ∷ rest) ((key, value) ∷ pair ∷ rest)) e

  -- ---- where the key stands

  pub entry-stands : (pairs : List (K × T)) (at : ℕ) (x : K × T) → StandsAt cmp key pairs at → entry cmp key pairs ≡ Some (get_or pairs at x).1
  entry-stands [] at x stands = absurd stands
  entry-stands (pair ∷ rest) zero x stands = entry-here pair rest (ap is_eq stands)
  entry-stands (pair ∷ rest) (suc at) x stands = entry-past pair rest (ap is_eq stands.0) ∙ entry-stands rest at x stands.1

  pub put-stands : (value : T) (pairs : List (K × T)) (at : ℕ) → StandsAt cmp key pairs at → put cmp key value pairs ≡ set pairs at (key, value)
  put-stands value [] at stands = absurd stands
  put-stands value (pair ∷ rest) zero stands = put-here value pair rest stands
  put-stands value (pair ∷ rest) (suc at) stands = put-past value pair rest stands.0 ∙ ap (λ l. pair ∷ l) (put-stands value rest at stands.1)

  pub without-stands : (pairs : List (K × T)) (at : ℕ) → StandsAt cmp key pairs at → without cmp key pairs ≡ remove pairs at
  without-stands [] at stands = absurd stands
  without-stands (pair ∷ rest) zero stands = without-here pair rest (ap is_eq stands)
  without-stands (pair ∷ rest) (suc at) stands = without-past pair rest (ap is_eq stands.0) ∙ ap (λ l. pair ∷ l) (without-stands rest at stands.1)

  -- ---- where the key would stand

  above : (pairs : List (K × T)) → AllByRecursion (λ pair. cmp pair.0 key ≡ Greater) pairs → (entry cmp key pairs ≡ None) × (without cmp key pairs ≡ pairs)
  above [] greater = (refl, refl)
  above (pair ∷ rest) greater =
      let r = above rest greater.1 in
      (entry-past pair rest (ap is_eq greater.0) ∙ r.0, without-past pair rest (ap is_eq greater.0) ∙ ap (λ l. pair ∷ l) r.1)

  pub absent : (pairs : List (K × T)) (at : ℕ) → FitsAt cmp key pairs at → (entry cmp key pairs ≡ None) × (without cmp key pairs ≡ pairs)
  absent pairs zero fits = above pairs fits
  absent [] (suc at) fits = absurd fits
  absent (pair ∷ rest) (suc at) fits =
      let r = absent rest at fits.1 in
      (entry-past pair rest (ap is_eq fits.0) ∙ r.0, without-past pair rest (ap is_eq fits.0) ∙ ap (λ l. pair ∷ l) r.1)

  pub put-fits : (value : T) (pairs : List (K × T)) (at : ℕ) → FitsAt cmp key pairs at → put cmp key value pairs ≡ insert pairs at (key, value)
  put-fits value [] zero fits = refl
  put-fits value (pair ∷ rest) zero fits = put-before value pair rest fits.0
  put-fits value [] (suc at) fits = absurd fits
  put-fits value (pair ∷ rest) (suc at) fits = put-past value pair rest fits.0 ∙ ap (λ l. pair ∷ l) (put-fits value rest at fits.1)

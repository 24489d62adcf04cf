-- Sums over the events of all sessions, session by session.
use Rattle.std.proofs.Common.{◌≡◌, inl, inr, ℕ, ◌+◌, ◌*◌, ◌<◌, ◌≤◌, ◌==◌, List, [], ◌∷◌, length, map, refl, sym, ap, subst, eq-eqb, arith}
use Rattle.std.specs.List.{AllByRecursion}
use Rattle.std.proofs.lemmas.Bool.{cases_eq, cond-true, cond-false, ne_eqb}
use Rattle.gem_meaning.specs.Events.{Event, events_of}
use Rattle.gem_server.proofs.LoadRounds.{sum_over}

-- of the sessions from this one on, of which each has a list
abbrev pub by_session : (Event → ℕ) → List Event → (first : ℕ) → List (List ℕ) → ℕ
by_session w events first [] = 0
by_session w events first (numbers ∷ all) = sum_over w (events_of first events) + by_session w events (first + 1) all

-- of each session from this one on holds this, by its number and its list
abbrev pub EachFrom : (ℕ → List ℕ → Type 0) → (first : ℕ) → List (List ℕ) → Type 0
EachFrom P first [] = Unit {0}
EachFrom P first (numbers ∷ all) = P first numbers × EachFrom P (first + 1) all

later : (a b : ℕ) → b ≤ a → (a ≡ b → ⊥) → b + 1 ≤ a
later a b most apart = grind (arith, most, apart)

pub picked : (P : ℕ → List ℕ → Type 0) (first : ℕ) (all : List (List ℕ)) → EachFrom P first all → (session : ℕ) → first ≤ session
    → session < first + length all → (numbers : List ℕ) × P session numbers
picked P first [] each session from within = absurd (omega (arith, from, within))
picked P first (numbers ∷ all) each session from within = elim (cases_eq session first) [
  | inl same ↦ (numbers, subst (λ (n : ℕ). P n numbers) (sym same) each.0)
  | inr apart ↦ picked P (first + 1) all each.1 session (later session first from apart) (omega (arith, within))
]

pub each_mapped : (P Q : ℕ → List ℕ → Type 0) → ((session : ℕ) (numbers : List ℕ) → P session numbers → Q session numbers) → (first : ℕ)
    (all : List (List ℕ)) → EachFrom P first all → EachFrom Q first all
each_mapped P Q f first [] each = tt
each_mapped P Q f first (numbers ∷ all) each = (f first numbers each.0, each_mapped P Q f (first + 1) all each.1)

module _ (w : Event → ℕ) where
  of_it : (event : Event) (events : List Event) (session : ℕ) → event.0 ≡ session
      → sum_over w (events_of session (event ∷ events)) ≡ w event + sum_over w (events_of session events)
  of_it event events session same = ap (sum_over w)
      (cond-true (event.0 == session) (event ∷ events_of session events) (events_of session events) (eq-eqb event.0 session same))

  of_other : (event : Event) (events : List Event) (session : ℕ) → (event.0 ≡ session → ⊥)
      → sum_over w (events_of session (event ∷ events)) ≡ sum_over w (events_of session events)
  of_other event events session apart = ap (sum_over w)
      (cond-false (event.0 == session) (event ∷ events_of session events) (events_of session events) (ne_eqb event.0 session apart))

  of_none : (event : Event) (events : List Event) (first : ℕ) (all : List (List ℕ)) → event.0 < first
      → by_session w (event ∷ events) first all ≡ by_session w events first all
  of_none event events first [] below = refl
  of_none event events first (numbers ∷ all) below =
      let here = of_other event events first (λ same. absurd (omega (arith, same, below))) in
      let rest = of_none event events (first + 1) all (omega (arith, below)) in omega (arith, here, rest)

  of_one : (event : Event) (events : List Event) (first : ℕ) (all : List (List ℕ)) → first ≤ event.0 → event.0 < first + length all
      → by_session w (event ∷ events) first all ≡ w event + by_session w events first all
  of_one event events first [] from within = absurd (omega (arith, from, within))
  of_one event events first (numbers ∷ all) from within = elim (cases_eq event.0 first) [
    | inl same ↦
        let here = of_it event events first same in
        let rest = of_none event events (first + 1) all (omega (arith, same)) in omega (arith, here, rest)
    | inr apart ↦
        let here = of_other event events first apart in
        let rest = of_one event events (first + 1) all (later event.0 first from apart) (omega (arith, within)) in omega (arith, here, rest)
  ]

  -- the sum over all events is that of the sessions
  pub split : (first : ℕ) (all : List (List ℕ)) (events : List Event)
      → AllByRecursion (λ (event : Event). (first ≤ event.0) × (event.0 < first + length all)) events
      → sum_over w events ≡ by_session w events first all
  split first all [] each = nothing first all
    where
      nothing : (first : ℕ) (all : List (List ℕ)) → 0 ≡ by_session w [] first all
      nothing first [] = refl
      nothing first (numbers ∷ all) = let rest = nothing (first + 1) all in omega (arith, rest)
  split first all (event ∷ events) each =
      let here = of_one event events first all each.0.0 each.0.1 in
      let rest = split first all events each.1 in omega (arith, here, rest)

  -- where each session's sum is that of its list
  pub sums_by_session : (g : List ℕ → ℕ) (events : List Event) (first : ℕ) (all : List (List ℕ))
      → EachFrom (λ session numbers. sum_over w (events_of session events) ≡ g numbers) first all
      → by_session w events first all ≡ sum_over g all
  sums_by_session g events first [] each = refl
  sums_by_session g events first (numbers ∷ all) each =
      let here = each.0 in let rest = sums_by_session g events (first + 1) all each.1 in omega (arith, here, rest)

  -- where each session's sum is at most so much
  pub most_by_session : (most : ℕ) (events : List Event) (first : ℕ) (all : List (List ℕ))
      → EachFrom (λ session numbers. sum_over w (events_of session events) ≤ most) first all
      → by_session w events first all ≤ length all * most
  most_by_session most events first [] each = omega arith
  most_by_session most events first (numbers ∷ all) each =
      let here = each.0 in let rest = most_by_session most events (first + 1) all each.1 in grind (arith, here, rest)

pub count_is : {X : Type 0} (list : List X) → sum_over (λ (x : X). 1) list ≡ length list
count_is [] = refl
count_is (x ∷ list) = let rest = count_is list in omega (arith, rest)

pub sum_mapped : {X : Type 0} (w : X → ℕ) (list : List X) → sum_over w list ≡ sum_over (λ (n : ℕ). n) (map w list)
sum_mapped w [] = refl
sum_mapped w (x ∷ list) = ap (λ (n : ℕ). w x + n) (sum_mapped w list)

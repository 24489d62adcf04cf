-- How many locks there are, and what each event does to their number.
use Rattle.std.proofs.Common.{◌≡◌, ◌==◌, ℕ, zero, suc, ◌+◌, ◌-◌, ◌<◌, ◌≤◌, Bool, true, false, cond, not, inl, inr, List, [], ◌∷◌, length, filter, Option, Some, None, IsSome, refl, sym, ap, subst, ◌∙◌, arith}
use Rattle.std.specs.Ordering.{is_eq, eq_by_cmp}
use Rattle.std.specs.declared.cmp.Ordering.TheVariants.{Less}
use Rattle.std.specs.Map.{keys_of}
use Rattle.std.specs.Option.{is_some}
use Rattle.std.specs.List.{AllByRecursion}
use Rattle.std.specs.List.Sorted.{IsStrictlySortedBy}
use Rattle.std.specs.FinMap.{find, get, entries, from_entries, retain_keys, len, len-empty, len-entries, len-insert, len-remove, empty_of_len, get-empty, get-entries, get-from_entries, get-remove, same_map}
use Rattle.std.proofs.lemmas.Map.Keys.{sorted_head, sorted_tail}
use Rattle.std.proofs.lemmas.Bool.{false≢true}
use Rattle.std.proofs.lemmas.Bool.Decides.{eqb_tells}
use Rattle.lock_table.specs.LockKind.{kind_granted}
use Rattle.lock_table.specs.Locks.{LockSet, holding_cmp, holding, kind_held, after_held, after_dropped, after_left}
use Rattle.lock_table.specs.declared.lock.Holding.{Holding}
use Rattle.lock_table.specs.declared.lock.LockKind.{LockKind}
use Rattle.lock_table.proofs.Changes.{left_this, left_others, dropped_others}
use Rattle.lock_table.proofs.Denied.{same_holding}
use Rattle.lock_table.proofs.Held.{Entries, holdings_total, exact_holdings, held-retain}

-- a holding below all others isn't among them
not_among : (q : Holding) (es : Entries) → AllByRecursion (λ key. holding_cmp q key ≡ Less) (keys_of es) → find holding_cmp q es ≡ None
not_among q [] below = refl
not_among q (e ∷ es) below = ap (λ r. cond (is_eq r) (Some e.1) (find holding_cmp q es)) below.0 ∙ not_among q es below.1

-- entries in order are as many as the locks that they make
pub count_entries : (es : Entries) → IsStrictlySortedBy holding_cmp (keys_of es) → len (from_entries {R = holding_cmp} es) ≡ length es
count_entries [] sorted = len-empty holding_cmp LockKind
count_entries (e ∷ es) sorted =
    let before = len (from_entries {R = holding_cmp} es) in
    let absent : get (from_entries {R = holding_cmp} es) e.0 ≡ None = get-from_entries holdings_total es e.0 ∙ not_among e.0 es (sorted_head holding_cmp e.0 (keys_of es) sorted) in
    let more : len (from_entries {R = holding_cmp} (e ∷ es)) ≡ before + 1 = len-insert holdings_total (from_entries es) e.0 e.1 ∙ ap (λ (o : Option LockKind). cond (is_some o) before (before + 1)) absent in
    let later : before ≡ length es = count_entries es (sorted_tail holding_cmp e.0 (keys_of es) sorted) in
    omega (arith, more, later)

at_most_one : (there : Bool) (n : ℕ) → cond there n (n + 1) ≤ n + 1
at_most_one true n = omega arith
at_most_one false n = omega arith

-- entries in any order are at least as many
at_most : (es : Entries) → len (from_entries {R = holding_cmp} es) ≤ length es
at_most [] = let none = len-empty holding_cmp LockKind in omega (arith, none)
at_most (e ∷ es) =
    let before = len (from_entries {R = holding_cmp} es) in
    let there = is_some (get (from_entries {R = holding_cmp} es) e.0) in
    let more : len (from_entries {R = holding_cmp} (e ∷ es)) ≡ cond there before (before + 1) = len-insert holdings_total (from_entries es) e.0 e.1 in
    let one : cond there before (before + 1) ≤ before + 1 = at_most_one there before in
    let later : before ≤ length es = at_most es in
    omega (arith, more, one, later)

fewer_pass : {X : Type 0} (p : X → Bool) (xs : List X) → length (filter p xs) ≤ length xs
fewer_pass p [] = omega arith
fewer_pass p (x ∷ xs) =
    let later = fewer_pass p xs in
    elim (p x) as (λ b. length (cond b (x ∷ filter p xs) (filter p xs)) ≤ suc (length xs)) [ true ↦ omega (arith, later) | false ↦ omega (arith, later) ]

-- locks are what their entries make
itself : (locks : LockSet) → from_entries {R = holding_cmp} (entries locks) ≡ locks
itself locks = same_map holdings_total exact_holdings _ _ (λ q. get-from_entries holdings_total (entries locks) q ∙ sym (get-entries locks q))

module _ (locks : LockSet) (session : ℕ) where
  -- a grant adds at most one lock
  pub held_more : (oid : ℕ) (kind : LockKind) → len (after_held locks session oid kind) ≤ len locks + 1
  held_more oid kind = subst (λ (n : ℕ). n ≤ len locks + 1)
      (sym (len-insert holdings_total locks (holding session oid) (kind_granted (kind_held locks session oid) kind)))
      (at_most_one (is_some (kind_held locks session oid)) (len locks))

  some_lock : (oid n : ℕ) → len locks ≡ n → IsSome (kind_held locks session oid) → 0 < n
  some_lock oid zero is held =
      let none = ap (λ (m : LockSet). is_some (get m (holding session oid))) (empty_of_len locks is) ∙ ap is_some (get-empty holding_cmp (holding session oid)) in
      absurd (false≢true (sym none ∙ held))
  some_lock oid (suc n) is held = omega arith

  -- a lock that is dropped is one less
  pub dropped_fewer : (oid : ℕ) → IsSome (kind_held locks session oid) → len (after_dropped locks session oid) + 1 ≡ len locks
  dropped_fewer oid held =
      let fewer : len (after_dropped locks session oid) ≡ len locks - 1 = len-remove holdings_total locks (holding session oid) ∙ ap (λ b. cond b (len locks - 1) (len locks)) held in
      let some : 0 < len locks = some_lock oid (len locks) refl held in
      omega (arith, fewer, some)

  stays_at : (oid : ℕ) → kind_held locks session oid ≡ None → (q : Holding) (b : Bool) → eq_by_cmp holding_cmp q (holding session oid) ≡ b → cond b None (get locks q) ≡ get locks q
  stays_at oid none q true is = sym (ap (get locks) (same_holding q (holding session oid) is) ∙ none)
  stays_at oid none q false is = refl

  -- a lock that isn't held isn't dropped
  pub dropped_none : (oid : ℕ) → kind_held locks session oid ≡ None → after_dropped locks session oid ≡ locks
  dropped_none oid none = same_map holdings_total exact_holdings _ _ (λ q. get-remove holdings_total locks (holding session oid) q ∙ stays_at oid none q _ refl)

-- no session's leaving adds locks
left_at_most : (locks : LockSet) (session : ℕ) → len (after_left locks session) ≤ len locks
left_at_most locks session =
    let stays : Holding → Bool = λ q. not (q.session == session) in
    let es = entries locks in
    let is : from_entries {R = holding_cmp} (filter (λ e. stays e.0) es) ≡ after_left locks session = held-retain stays es ∙ ap (λ (m : LockSet). retain_keys m stays) (itself locks) in
    let few : len (from_entries {R = holding_cmp} (filter (λ e. stays e.0) es)) ≤ length (filter (λ e. stays e.0) es) = at_most (filter (λ e. stays e.0) es) in
    let passed : length (filter (λ e. stays e.0) es) ≤ length es = fewer_pass (λ e. stays e.0) es in
    let all : len locks ≡ length es = len-entries locks in
    let same : len (from_entries {R = holding_cmp} (filter (λ e. stays e.0) es)) ≡ len (after_left locks session) = ap len is in
    omega (arith, few, passed, all, same)

-- a session that leaves may drop one lock before
left_after_drop : (locks : LockSet) (session oid : ℕ) → after_left locks session ≡ after_left (after_dropped locks session oid) session
left_after_drop locks session oid = same_map holdings_total exact_holdings _ _ (λ q. elim (eqb_tells q.session session) [
  | inl here ↦
      ap (λ s. kind_held (after_left locks session) s q.oid) here.1 ∙ left_this locks session q.oid
      ∙ sym (ap (λ s. kind_held (after_left (after_dropped locks session oid) session) s q.oid) here.1 ∙ left_this (after_dropped locks session oid) session q.oid)
  | inr apart ↦
      left_others locks session oid q.session q.oid apart.1
      ∙ sym (left_others (after_dropped locks session oid) session oid q.session q.oid apart.1 ∙ dropped_others locks session oid q.session q.oid (λ same. absurd (apart.1 same)))
])

-- a session that leaves takes at least one lock, where it held one
pub left_fewer : (locks : LockSet) (session oid : ℕ) → IsSome (kind_held locks session oid) → len (after_left locks session) + 1 ≤ len locks
left_fewer locks session oid held =
    let same : len (after_left locks session) ≡ len (after_left (after_dropped locks session oid) session) = ap len (left_after_drop locks session oid) in
    let few : len (after_left (after_dropped locks session oid) session) ≤ len (after_dropped locks session oid) = left_at_most (after_dropped locks session oid) session in
    let one : len (after_dropped locks session oid) + 1 ≡ len locks = dropped_fewer locks session oid held in
    omega (arith, same, few, one)

-- a session that holds nothing takes nothing with it
pub left_none : (locks : LockSet) (session : ℕ) → ((oid : ℕ) → kind_held locks session oid ≡ None) → after_left locks session ≡ locks
left_none locks session none = same_map holdings_total exact_holdings _ _ (λ q. elim (eqb_tells q.session session) [
  | inl here ↦
      ap (λ s. kind_held (after_left locks session) s q.oid) here.1 ∙ left_this locks session q.oid
      ∙ sym (ap (λ s. kind_held locks s q.oid) here.1 ∙ none q.oid)
  | inr apart ↦ left_others locks session q.oid q.session q.oid apart.1
])

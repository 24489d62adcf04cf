-- The map that the entries make, and how it changes with them.
use Rattle.std.proofs.Common.{◌≡◌, ◌==◌, ℕ, Bool, true, false, ◌||◌, cond, List, [], ◌∷◌, Option, Some, None, IsSome, filter, refl, sym, ap, ◌∙◌, arith}
use Rattle.std.specs.declared.cmp.Ordering.TheVariants.{Equal}
use Rattle.std.specs.Ordering.{nat_cmp, eq_by_cmp}
use Rattle.std.specs.Cmp.{IsTotalOrder, nat_cmp_total, eq_by_cmp_equiv}
use Rattle.std.specs.Map.{lookup}
use Rattle.std.specs.BTreeMap.{is_at}
use Rattle.std.specs.Option.{is_some}
use Rattle.std.specs.List.{list_any}
use Rattle.std.specs.FinMap.Entries.{find-where_key}
use Rattle.std.specs.FinMap.{find, get, insert, remove, retain_keys, from_entries, get-from_entries, get-insert, get-remove, get-retain_keys, same_map}
use Rattle.std.proofs.lemmas.Cmp.{on_total, then_total}
use Rattle.std.proofs.lemmas.Map.Lookups.{CmpEqualImpliesEq, exact_pairs, exact_unsigned}
use Rattle.std.proofs.lemmas.Bool.{false≢true}
use Rattle.std.proofs.lemmas.Bool.Decides.{nat_tests}
use Rattle.lock_table.specs.Locks.{holding_cmp, holding, kind_held}
use Rattle.lock_table.specs.declared.lock.Holding.{Holding}
use Rattle.lock_table.specs.declared.lock.LockKind.{LockKind}

-- the entries of a table
abbrev pub Entries : Type 0
Entries = List (Holding × LockKind)

-- holdings that compare alike are one
pub exact_holdings : CmpEqualImpliesEq holding_cmp
exact_holdings a b alike = ap (λ (p : ℕ × ℕ). record { oid = p.0; session = p.1 }) (exact_pairs nat_cmp nat_cmp exact_unsigned exact_unsigned (a.oid, a.session) (b.oid, b.session) alike)

pub holdings_total : IsTotalOrder holding_cmp
holdings_total = then_total (on_total (λ holding. holding.oid) nat_cmp_total) (on_total (λ holding. holding.session) nat_cmp_total)

-- the kind at a holding, in the entries
abbrev pub held_at : Entries → Holding → Option LockKind
held_at es q = lookup (is_at (holding_cmp q)) es

pub find-held : (es : Entries) (q : Holding) → find holding_cmp q es ≡ held_at es q
find-held [] q = refl
find-held (e ∷ es) q = ap (cond (is_at (holding_cmp q) e.0) (Some e.1)) (find-held es q)

pub get-held : (es : Entries) (q : Holding) → get (from_entries {R = holding_cmp} es) q ≡ held_at es q
get-held es q = get-from_entries holdings_total es q ∙ find-held es q

same_test : (a b : Holding) → eq_by_cmp holding_cmp a b ≡ eq_by_cmp holding_cmp b a
same_test = (eq_by_cmp_equiv holdings_total).symm

-- entries that gain a kind at one holding, and no other change
pub held-insert : (es fs : Entries) (k : Holding) (kind : LockKind) → ((q : Holding) → held_at fs q ≡ cond (is_at (holding_cmp k) q) (Some kind) (held_at es q)) → from_entries {R = holding_cmp} fs ≡ insert (from_entries es) k kind
held-insert es fs k kind changes = same_map holdings_total exact_holdings _ _ (λ q.
    get-held fs q ∙ changes q ∙ ap (λ b. cond b (Some kind) (held_at es q)) (same_test k q)
    ∙ sym (get-insert holdings_total (from_entries es) k kind q ∙ ap (cond (eq_by_cmp holding_cmp q k) (Some kind)) (get-held es q)))

-- entries that lose one holding, and no other change
pub held-remove : (es fs : Entries) (k : Holding) → ((q : Holding) → held_at fs q ≡ cond (is_at (holding_cmp k) q) None (held_at es q)) → from_entries {R = holding_cmp} fs ≡ remove (from_entries es) k
held-remove es fs k changes = same_map holdings_total exact_holdings _ _ (λ q.
    get-held fs q ∙ changes q ∙ ap (λ b. cond b None (held_at es q)) (same_test k q)
    ∙ sym (get-remove holdings_total (from_entries es) k q ∙ ap (cond (eq_by_cmp holding_cmp q k) None) (get-held es q)))

-- a test of holdings answers alike at holdings that compare alike
pub alike : (p : Holding → Bool) (q x : Holding) → holding_cmp q x ≡ Equal → p x ≡ p q
alike p q x tie = ap p (sym (exact_holdings q x tie))

-- entries of which those that fail a test are gone
pub held-retain : (p : Holding → Bool) (es : Entries) → from_entries {R = holding_cmp} (filter (λ e. p e.0) es) ≡ retain_keys (from_entries es) p
held-retain p es = same_map holdings_total exact_holdings _ _ (λ q.
    get-from_entries holdings_total (filter (λ e. p e.0) es) q ∙ find-where_key holding_cmp p q (alike p q) es
    ∙ sym (get-retain_keys (from_entries es) p q (alike p q) ∙ ap (λ o. cond (p q) o None) (get-from_entries holdings_total es q)))

module _ (session : ℕ) where
  is_here : (oid : ℕ) (q : Holding) → q.oid ≡ oid → q.session ≡ session → is_at (holding_cmp (holding session oid)) q ≡ true
  is_here oid q same_oid same_session = grind (arith, nat_tests)

  is_some-cond : {X : Type 0} (b : Bool) (x : X) (o : Option X) → is_some o ≡ true → is_some (cond b (Some x) o) ≡ true
  is_some-cond true x o some = refl
  is_some-cond false x o some = some

  -- the session holds some object
  abbrev pub HoldsSome : Entries → Type 0
  HoldsSome es = (oid : ℕ) × IsSome (held_at es (holding session oid))

  -- whether an entry names the session
  abbrev pub names_it : Holding × LockKind → Bool
  names_it e = e.0.session == session

  some_held_step : (here : Bool) (e : Holding × LockKind) (es : Entries) → names_it e ≡ here → (list_any names_it es ≡ true → HoldsSome es) → (here || list_any names_it es) ≡ true → HoldsSome (e ∷ es)
  some_held_step true e es is later any = let same : e.0.session ≡ session = grind (arith, nat_tests) in (e.0.oid, rw (is_here e.0.oid e.0 refl same))
  some_held_step false e es is later any = let held = later any in (held.0, is_some-cond (is_at (holding_cmp (holding session held.0)) e.0) e.1 _ held.1)

  -- a session that some entry names holds some object
  pub some_held : (es : Entries) → list_any names_it es ≡ true → HoldsSome es
  some_held [] any = absurd (false≢true any)
  some_held (e ∷ es) any = some_held_step (names_it e) e es refl (some_held es) any

  same_session : (oid : ℕ) (q : Holding) → is_at (holding_cmp (holding session oid)) q ≡ true → q.session ≡ session
  same_session oid q here = grind (arith, nat_tests)

  some_entry_step : (here : Bool) (e : Holding × LockKind) (es : Entries) (oid : ℕ) → is_at (holding_cmp (holding session oid)) e.0 ≡ here → (IsSome (held_at es (holding session oid)) → list_any names_it es ≡ true)
      → is_some (cond here (Some e.1) (held_at es (holding session oid))) ≡ true → (names_it e || list_any names_it es) ≡ true
  some_entry_step true e es oid is later some = let named : names_it e ≡ true = grind (arith, nat_tests, same_session oid e.0 is) in rw named
  some_entry_step false e es oid is later some = either (names_it e) (later some)
    where
      either : (b : Bool) → list_any names_it es ≡ true → (b || list_any names_it es) ≡ true
      either true any = refl
      either false any = any

  -- and one that holds an object is named by an entry
  pub some_entry : (es : Entries) (oid : ℕ) → IsSome (held_at es (holding session oid)) → list_any names_it es ≡ true
  some_entry [] oid some = absurd (false≢true some)
  some_entry (e ∷ es) oid some = some_entry_step (is_at (holding_cmp (holding session oid)) e.0) e es oid refl (some_entry es oid) some

  -- the same of the map that the entries make
  pub held_some : (es : Entries) → (list_any names_it es ≡ true → (oid : ℕ) × IsSome (kind_held (from_entries es) session oid)) × (((oid : ℕ) × IsSome (kind_held (from_entries es) session oid)) → list_any names_it es ≡ true)
  held_some es = (
    λ any. let held = some_held es any in (held.0, ap is_some (get-held es (holding session held.0)) ∙ held.1),
    λ held. some_entry es held.0 (ap is_some (sym (get-held es (holding session held.0))) ∙ held.1),
  )

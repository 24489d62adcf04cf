-- The first entry in the way is of the lowest session that is in the way.
use Rattle.std.proofs.Common.{◌≡◌, ◌≢◌, ℕ, ◌<◌, Bool, true, false, cond, ◌&&◌, ◌⊎◌, inl, inr, List, [], ◌∷◌, length, Option, Some, None, IsSome, refl, sym, ap, subst, ◌∙◌, arith, T}
use Rattle.std.specs.declared.cmp.Ordering.TheVariants.{Less, Equal, Greater}
use Rattle.std.specs.declared.cmp.Ordering.{Ordering}
use Rattle.std.specs.Ordering.{is_eq, is_lt, ordering_reverse}
use Rattle.std.specs.Cmp.{tied_itself}
use Rattle.std.specs.Map.{keys_of}
use Rattle.std.specs.BTreeMap.{is_at}
use Rattle.std.specs.Option.{option_map, is_some}
use Rattle.std.specs.List.{find, AllByRecursion}
use Rattle.std.specs.List.Sorted.{IsStrictlySortedBy}
use Rattle.std.specs.FinMap.{empty, entries, len-entries, len-empty, get, from_entries, entries-insert, entries_sorted, get-entries}
use Rattle.std.specs.FinMap.Entries.{put, is_sorted, below_all}
use Rattle.std.proofs.lemmas.Bool.{false≢true}
use Rattle.std.specs.Bool.{Decides}
use Rattle.std.proofs.lemmas.Bool.Decides.{nat_tests, Decides-eqb, Decides-and, Decides-or, Decides-not}
use Rattle.std.proofs.lemmas.Option.{none-some, same_Some}
use Rattle.std.proofs.lemmas.Map.Keys.{sorted_head, sorted_tail}
use Rattle.lock_table.specs.LockKind.{is_write}
use Rattle.lock_table.specs.Locks.{LockSet, holding_cmp, holding, kind_held, IsInTheWay, IsDenied, IsLowestHolder, denied_for}
use Rattle.lock_table.specs.Search.{is_in_the_way, holder_of, first_in_the_way}
use Rattle.lock_table.specs.declared.lock.Holding.{Holding}
use Rattle.lock_table.specs.declared.lock.LockKind.{LockKind}
use Rattle.lock_table.specs.declared.lock.LockKind.TheVariants.{Read, Write}
use Rattle.lock_table.proofs.Held.{Entries, held_at, holdings_total, exact_holdings, find-held}

-- the holdings rise
abbrev pub AreSorted : Entries → Type 0
AreSorted es = IsStrictlySortedBy holding_cmp (keys_of es)

equal_from_test : (r : Ordering) → is_eq r ≡ true → r ≡ Equal
equal_from_test Less is = absurd (false≢true is)
equal_from_test Equal is = refl
equal_from_test Greater is = absurd (false≢true is)

pub same_holding : (q x : Holding) → is_at (holding_cmp q) x ≡ true → q ≡ x
same_holding q x is = exact_holdings q x (equal_from_test _ is)

pub at_itself : (q : Holding) → is_at (holding_cmp q) q ≡ true
at_itself q = ap is_eq (tied_itself holdings_total q)

-- a lower holding is another one
apart_from_lower : (a b : Holding) → holding_cmp a b ≡ Less → is_at (holding_cmp b) a ≡ false
apart_from_lower a b less = ap is_eq (holdings_total.antisymm b a ∙ ap ordering_reverse less)

at_held_step : (P : Holding → Type 0) (here : Bool) (e : Holding × LockKind) (later : Option LockKind) (q : Holding) (kind : LockKind) → is_at (holding_cmp q) e.0 ≡ here → P e.0 → (later ≡ Some kind → P q) → cond here (Some e.1) later ≡ Some kind → P q
at_held_step P true e later q kind is first rest held = subst P (sym (same_holding q e.0 is)) first
at_held_step P false e later q kind is first rest held = rest held

-- what holds of each key holds of the key that a look-up finds
at_held : (P : Holding → Type 0) (es : Entries) (q : Holding) (kind : LockKind) → AllByRecursion P (keys_of es) → held_at es q ≡ Some kind → P q
at_held P [] q kind all held = absurd (none-some kind held)
at_held P (e ∷ es) q kind all held = at_held_step P (is_at (holding_cmp q) e.0) e (held_at es q) q kind refl all.0 (at_held P es q kind all.1) held

module _ (p : Holding × LockKind → Bool) where
  found_passes_step : (here : Bool) (e : Holding × LockKind) (later : Option (Holding × LockKind)) (found : Holding × LockKind) → p e ≡ here → (later ≡ Some found → p found ≡ true) → cond here (Some e) later ≡ Some found → p found ≡ true
  found_passes_step true e later found is rest same = subst (λ x. p x ≡ true) (same_Some e found same) is
  found_passes_step false e later found is rest same = rest same

  -- an entry that is found passes the test
  found_passes : (es : Entries) (found : Holding × LockKind) → find p es ≡ Some found → p found ≡ true
  found_passes [] found same = absurd (none-some found same)
  found_passes (e ∷ es) found same = found_passes_step (p e) e (find p es) found refl (found_passes es found) same

  found_held_step : (here : Bool) (e : Holding × LockKind) (es : Entries) (found : Holding × LockKind) → AreSorted (e ∷ es) → (find p es ≡ Some found → held_at es found.0 ≡ Some found.1) → cond here (Some e) (find p es) ≡ Some found → held_at (e ∷ es) found.0 ≡ Some found.1
  found_held_step true e es found sorted rest same = subst (λ (x : Holding × LockKind). held_at (e ∷ es) x.0 ≡ Some x.1) (same_Some e found same) (rw (at_itself e.0))
  found_held_step false e es found sorted rest same =
      let held = rest same in
      let above = at_held (λ key. holding_cmp e.0 key ≡ Less) es found.0 found.1 (sorted_head holding_cmp e.0 (keys_of es) sorted) held in
      rw (apart_from_lower e.0 found.0 above) held

  -- and a look-up of its holding gives its kind
  found_held : (es : Entries) (found : Holding × LockKind) → AreSorted es → find p es ≡ Some found → held_at es found.0 ≡ Some found.1
  found_held [] found sorted same = absurd (none-some found same)
  found_held (e ∷ es) found sorted same = found_held_step (p e) e es found sorted (found_held es found (sorted_tail holding_cmp e.0 (keys_of es) sorted)) same

  -- an entry is found, of a holding that is not above q
  abbrev FindsUpTo : Option (Holding × LockKind) → Holding → Type 0
  FindsUpTo o q = (found : Holding × LockKind) × (o ≡ Some found) × ((holding_cmp found.0 q ≡ Less) ⊎ (found.0 ≡ q))

  finds_step : (passes here : Bool) (e : Holding × LockKind) (es : Entries) (q : Holding) (kind : LockKind) → p e ≡ passes → is_at (holding_cmp q) e.0 ≡ here → AreSorted (e ∷ es) → (held_at es q ≡ Some kind → FindsUpTo (find p es) q)
      → cond here (Some e.1) (held_at es q) ≡ Some kind → p (q, kind) ≡ true → FindsUpTo (cond passes (Some e) (find p es)) q
  finds_step true true e es q kind passes is sorted rest held test = (e, refl, inr (sym (same_holding q e.0 is)))
  finds_step true false e es q kind passes is sorted rest held test = (e, refl, inl (at_held (λ key. holding_cmp e.0 key ≡ Less) es q kind (sorted_head holding_cmp e.0 (keys_of es) sorted) held))
  finds_step false true e es q kind passes is sorted rest held test =
      let here = sym (same_holding q e.0 is) in
      let same : e ≡ (q, kind) = λ i. (here i, same_Some e.1 kind held i) in
      absurd (false≢true (sym passes ∙ ap p same ∙ test))
  finds_step false false e es q kind passes is sorted rest held test = rest held

  -- where the entry of a holding passes, one that is not above it is found
  finds_up_to : (es : Entries) (q : Holding) (kind : LockKind) → AreSorted es → held_at es q ≡ Some kind → p (q, kind) ≡ true → FindsUpTo (find p es) q
  finds_up_to [] q kind sorted held test = absurd (none-some kind held)
  finds_up_to (e ∷ es) q kind sorted held test =
      finds_step (p e) (is_at (holding_cmp q) e.0) e es q kind refl refl sorted (λ later. finds_up_to es q kind (sorted_tail holding_cmp e.0 (keys_of es) sorted) later test) held test

-- ---- of the locks

both : (a b : Bool) → T (a && b) → T a × T b
both true b h = (tt, h)
both false b h = absurd h

less_from_test : (r : Ordering) → T (is_lt r) → r ≡ Less
less_from_test Less h = refl
less_from_test Equal h = absurd h
less_from_test Greater h = absurd h

above_all : (q : Holding) (es : Entries) → T (below_all holding_cmp q es) → AllByRecursion (λ key. holding_cmp q key ≡ Less) (keys_of es)
above_all q [] h = tt
above_all q (e ∷ es) h = let parts = both (is_lt (holding_cmp q e.0)) (below_all holding_cmp q es) h in (less_from_test (holding_cmp q e.0) parts.0, above_all q es parts.1)

-- a finite map's own test of its entries says that the holdings rise
sorted_from_test : (es : Entries) → T (is_sorted holding_cmp es) → AreSorted es
unfolding IsStrictlySortedBy
sorted_from_test [] h = tt
sorted_from_test (e ∷ es) h = let parts = both (below_all holding_cmp e.0 es) (is_sorted holding_cmp es) h in (above_all e.0 es parts.0, sorted_from_test es parts.1)

put_first : (e : Holding × LockKind) (es : Entries) → AllByRecursion (λ key. holding_cmp e.0 key ≡ Less) (keys_of es) → put holding_cmp e.0 e.1 es ≡ e ∷ es
put_first e [] above = refl
put_first e (f ∷ es) above = rw above.0

none_from_length : {A : Type 0} (xs : List A) → length xs ≡ 0 → xs ≡ []
none_from_length [] none = refl
none_from_length (x ∷ xs) none = absurd (omega arith)

-- entries in order are those of the map that they make
pub entries-from_entries : (es : Entries) → AreSorted es → entries (from_entries {R = holding_cmp} es) ≡ es
entries-from_entries [] sorted = none_from_length (entries empty) (sym (len-entries empty) ∙ len-empty holding_cmp LockKind)
entries-from_entries (e ∷ es) sorted =
    entries-insert holdings_total (from_entries es) e.0 e.1
    ∙ ap (put holding_cmp e.0 e.1) (entries-from_entries es (sorted_tail holding_cmp e.0 (keys_of es) sorted))
    ∙ put_first e es (sorted_head holding_cmp e.0 (keys_of es) sorted)

-- what a look-up in the locks gives, and what it gives in their entries
get-entries_held : (locks : LockSet) (q : Holding) → get locks q ≡ held_at (entries locks) q
get-entries_held locks q = get-entries locks q ∙ find-held (entries locks) q

is_write_decides : (kind : LockKind) → Decides (is_write kind) (kind ≡ Write)
is_write_decides Read = (λ is. absurd (false≢true is), λ is. cc)
is_write_decides Write = (λ is. refl, λ is. refl)

session_lt : (a b : Holding) → holding_cmp a b ≡ Less → a.oid ≡ b.oid → a.session < b.session
session_lt a b less same = grind (arith, nat_tests)

some_value : {A : Type 0} (o : Option A) → IsSome o → (x : A) × (o ≡ Some x)
some_value None some = absurd (false≢true some)
some_value (Some x) some = (x, refl)

mapped_value : {A B : Type 0} (f : A → B) (o : Option A) (y : B) → option_map f o ≡ Some y → (x : A) × (o ≡ Some x) × (f x ≡ y)
mapped_value f None y is = absurd (none-some y is)
mapped_value f (Some x) y is = (x, refl, same_Some (f x) y is)

pub none_from_not_some : {A : Type 0} (o : Option A) → ((x : A) → o ≡ Some x → ⊥) → o ≡ None
none_from_not_some None never = refl
none_from_not_some (Some x) never = absurd (never x refl)

module _ (locks : LockSet) (session oid : ℕ) (kind : LockKind) where
  abbrev test : Holding × LockKind → Bool
  test = is_in_the_way session oid kind

  abbrev Passes : Holding × LockKind → Type 0
  Passes entry = (entry.0.oid ≡ oid) × ((¬ (entry.0.session ≡ session)) × ((kind ≡ Write) ⊎ (entry.1 ≡ Write)))

  test_decides : (entry : Holding × LockKind) → Decides (test entry) (Passes entry)
  test_decides entry = Decides-and _ _ (Decides-eqb entry.0.oid oid) (Decides-and _ _ (Decides-not _ (Decides-eqb entry.0.session session)) (Decides-or _ _ (is_write_decides kind) (is_write_decides entry.1)))

  sorted : AreSorted (entries locks)
  sorted = sorted_from_test (entries locks) (entries_sorted locks)

  -- a session that is in the way has an entry, and the first that is found is not above it
  found_by_way : (holder : ℕ) (held : LockKind) → IsInTheWay locks session oid kind holder held → FindsUpTo test (find test (entries locks)) (holding holder oid)
  found_by_way holder held way =
      finds_up_to test (entries locks) (holding holder oid) held sorted (sym (get-entries_held locks (holding holder oid)) ∙ way.holds) ((test_decides (holding holder oid, held)).1 (refl, (way.other, way.one_writes)))

  -- the entry that is found is of the session for which the request is denied
  found_is_denied : (found : Holding × LockKind) → find test (entries locks) ≡ Some found → IsDenied locks session oid kind found.0.session found.1
  found_is_denied found is =
      let passes = (test_decides found).0 (found_passes test (entries locks) found is) in
      let at : found.0 ≡ holding found.0.session oid = ap (holding found.0.session) passes.0 in
      let held : get locks found.0 ≡ Some found.1 = get-entries_held locks found.0 ∙ found_held test (entries locks) found sorted is in
      record {
        in_the_way = record { other = passes.1.0; holds = subst (λ q. get locks q ≡ Some found.1) at held; one_writes = passes.1.1 };
        lowest = λ other other_kind way.
            let first = found_by_way other other_kind way in
            let same : first.0 ≡ found = same_Some first.0 found (sym first.1 ∙ is) in
            elim first.2 [
              | inl less ↦ let below = session_lt first.0.0 (holding other oid) less (ap (λ (e : Holding × LockKind). e.0.oid) same ∙ passes.0) in
                  let session_is : first.0.0.session ≡ found.0.session = ap (λ (e : Holding × LockKind). e.0.session) same in omega arith
              | inr here ↦ let session_is : found.0.session ≡ other = sym (ap (λ (e : Holding × LockKind). e.0.session) same) ∙ ap (λ (q : Holding). q.session) here in omega arith
            ];
      }

  pub denied_from_value : (holder : ℕ) (held : LockKind) → denied_for locks session oid kind ≡ Some (holder, held) → IsDenied locks session oid kind holder held
  unfolding denied_for
  denied_from_value holder held is =
      let found = mapped_value holder_of (find test (entries locks)) (holder, held) is in
      subst (λ (p : ℕ × LockKind). IsDenied locks session oid kind p.0 p.1) found.2 (found_is_denied found.0 found.1)

  pub value_from_denied : (holder : ℕ) (held : LockKind) → IsDenied locks session oid kind holder held → denied_for locks session oid kind ≡ Some (holder, held)
  unfolding denied_for
  value_from_denied holder held denied =
      let first = found_by_way holder held denied.in_the_way in
      let found = found_is_denied first.0 first.1 in
      let same : first.0.0.session ≡ holder = omega (arith, found.lowest holder held denied.in_the_way, denied.lowest first.0.0.session first.0.1 found.in_the_way) in
      let kinds : first.0.1 ≡ held = same_Some first.0.1 held (sym (subst (λ s. kind_held locks s oid ≡ Some first.0.1) same found.in_the_way.holds) ∙ denied.in_the_way.holds) in
      ap (option_map holder_of) first.1 ∙ ap Some (λ i. (same i, kinds i))

  -- a request is denied for nobody just where nobody is in its way
  pub free_from_none : denied_for locks session oid kind ≡ None → (holder : ℕ) (held : LockKind) → ¬ IsInTheWay locks session oid kind holder held
  unfolding denied_for
  free_from_none is holder held way = let first = found_by_way holder held way in none-some (holder_of first.0) (sym is ∙ ap (option_map holder_of) first.1)

  pub none_from_free : ((holder : ℕ) (held : LockKind) → ¬ IsInTheWay locks session oid kind holder held) → denied_for locks session oid kind ≡ None
  none_from_free free = none_from_not_some _ (λ found is. free found.0 found.1 (denied_from_value found.0 found.1 is).in_the_way)

-- of any two sessions of which one asks to write, the lowest in the way is the lowest holder
module _ (locks : LockSet) (session oid holder : ℕ) (held : LockKind) where
  pub lowest_from_denied : IsDenied locks session oid Write holder held → IsLowestHolder locks session oid holder held
  lowest_from_denied denied = record {
    other = denied.in_the_way.other;
    holds = denied.in_the_way.holds;
    lowest = λ other apart some. let value = some_value (kind_held locks other oid) some in denied.lowest other value.0 (record { other = apart; holds = value.1; one_writes = inl refl });
  }

  pub denied_from_lowest : IsLowestHolder locks session oid holder held → IsDenied locks session oid Write holder held
  denied_from_lowest lowest = record {
    in_the_way = record { other = lowest.other; holds = lowest.holds; one_writes = inl refl };
    lowest = λ other other_kind way. lowest.lowest other way.other (ap is_some way.holds);
  }

  -- both together
  pub lowest_is_value : (denied_for locks session oid Write ≡ Some (holder, held) → IsLowestHolder locks session oid holder held) × (IsLowestHolder locks session oid holder held → denied_for locks session oid Write ≡ Some (holder, held))
  lowest_is_value = (
    λ is. lowest_from_denied (denied_from_value locks session oid Write holder held is),
    λ lowest. value_from_denied locks session oid Write holder held (denied_from_lowest lowest),
  )

-- no other session holds the object just where nobody is in the way of a request to write
pub none_held : (locks : LockSet) (session oid : ℕ) → (denied_for locks session oid Write ≡ None → (other : ℕ) → other ≢ session → kind_held locks other oid ≡ None) × (((other : ℕ) → other ≢ session → kind_held locks other oid ≡ None) → denied_for locks session oid Write ≡ None)
none_held locks session oid = (
  λ none other apart. none_from_not_some _ (λ held is. free_from_none locks session oid Write none other held (record { other = apart; holds = is; one_writes = inl refl })),
  λ free. none_from_free locks session oid Write (λ holder held way. none-some held (sym (free holder way.other) ∙ way.holds)),
)

-- a search of entries in order is a search of the map that they make
pub first-denied_for : (es : Entries) (session oid : ℕ) (kind : LockKind) → AreSorted es → first_in_the_way session oid kind es ≡ denied_for (from_entries es) session oid kind
unfolding denied_for
first-denied_for es session oid kind sorted = ap (first_in_the_way session oid kind) (sym (entries-from_entries es sorted))

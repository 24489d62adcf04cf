-- What each event changes, and what stays.
use Rattle.std.proofs.Common.{◌≡◌, ◌≢◌, ◌==◌, ℕ, Bool, true, false, cond, not, Some, None, refl, ap, ◌∙◌, arith}
use Rattle.std.specs.Ordering.{eq_by_cmp}
use Rattle.std.specs.FinMap.{get-insert, get-remove, get-retain_keys}
use Rattle.std.proofs.lemmas.Bool.Decides.{nat_tests}
use Rattle.lock_table.specs.LockKind.{kind_granted}
use Rattle.lock_table.specs.Locks.{LockSet, holding_cmp, holding, kind_held, after_held, after_dropped, after_left}
use Rattle.lock_table.specs.declared.lock.Holding.{Holding}
use Rattle.lock_table.specs.declared.lock.LockKind.{LockKind}
use Rattle.lock_table.proofs.Held.{holdings_total, alike}
use Rattle.lock_table.proofs.Denied.{same_holding, at_itself}

-- holdings that differ in session or object are apart
apart_holdings : (session oid other object : ℕ) → (other ≡ session → object ≢ oid) → eq_by_cmp holding_cmp (holding other object) (holding session oid) ≡ false
apart_holdings session oid other object apart = go (eq_by_cmp holding_cmp (holding other object) (holding session oid)) refl
  where
    go : (b : Bool) → eq_by_cmp holding_cmp (holding other object) (holding session oid) ≡ b → b ≡ false
    go true is = let same = same_holding (holding other object) (holding session oid) is in absurd (apart (ap (λ (q : Holding). q.session) same) (ap (λ (q : Holding). q.oid) same))
    go false is = refl

module _ (locks : LockSet) (session oid : ℕ) where
  pub held_this : (kind : LockKind) → kind_held (after_held locks session oid kind) session oid ≡ Some (kind_granted (kind_held locks session oid) kind)
  held_this kind = get-insert holdings_total locks (holding session oid) (kind_granted (kind_held locks session oid) kind) (holding session oid) ∙ rw (at_itself (holding session oid))

  pub held_others : (kind : LockKind) (other object : ℕ) → (other ≡ session → object ≢ oid) → kind_held (after_held locks session oid kind) other object ≡ kind_held locks other object
  held_others kind other object apart = get-insert holdings_total locks (holding session oid) (kind_granted (kind_held locks session oid) kind) (holding other object) ∙ rw (apart_holdings session oid other object apart)

  pub dropped_this : kind_held (after_dropped locks session oid) session oid ≡ None
  dropped_this = get-remove holdings_total locks (holding session oid) (holding session oid) ∙ rw (at_itself (holding session oid))

  pub dropped_others : (other object : ℕ) → (other ≡ session → object ≢ oid) → kind_held (after_dropped locks session oid) other object ≡ kind_held locks other object
  dropped_others other object apart = get-remove holdings_total locks (holding session oid) (holding other object) ∙ rw (apart_holdings session oid other object apart)

  stays : Holding → Bool
  stays q = not (q.session == session)

  left_at : (other object : ℕ) → kind_held (after_left locks session) other object ≡ cond (not (other == session)) (kind_held locks other object) None
  left_at other object = get-retain_keys locks (λ (q : Holding). not (q.session == session)) (holding other object) (alike (λ (q : Holding). not (q.session == session)) (holding other object))

  pub left_this : kind_held (after_left locks session) session oid ≡ None
  left_this = left_at session oid ∙ (let same : (session == session) ≡ true = grind (arith, nat_tests) in rw same)

  pub left_others : (other object : ℕ) → other ≢ session → kind_held (after_left locks session) other object ≡ kind_held locks other object
  left_others other object apart = left_at other object ∙ (let differs : (other == session) ≡ false = grind (arith, nat_tests) in rw differs)

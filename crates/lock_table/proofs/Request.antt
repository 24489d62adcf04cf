-- What a request is answered, from what the table of locks does.
use Rattle.std.proofs.Common.{◌≡◌, ℕ, Option, Some, sym, ap, ◌∙◌}
use Rattle.std.specs.FinMap.{from_entries, insert}
use Rattle.std.proofs.lemmas.Option.{none-some, same_Some}
use Rattle.lock_table.specs.Asked.{Answers}
use Rattle.lock_table.specs.LockKind.{kind_granted}
use Rattle.lock_table.specs.Locks.{LockSet, holding_cmp, holding, kind_held, after_held, IsDenied, denied_for}
use Rattle.lock_table.specs.Search.{first_in_the_way}
use Rattle.lock_table.specs.declared.lock.Asked.{Asked}
use Rattle.lock_table.specs.declared.lock.Asked.TheVariants.{Granted, Denied, NoMemory}
use Rattle.lock_table.specs.declared.lock.LockKind.{LockKind}
use Rattle.lock_table.proofs.Held.{Entries, held_at, get-held}
use Rattle.lock_table.proofs.Denied.{AreSorted, denied_from_value, value_from_denied, first-denied_for}

-- an answer is Denied just where another session is in the way, and it names the lowest
pub denied_from_answers : (old new : LockSet) (session oid : ℕ) (kind : LockKind) (asked : Asked) → Answers old session oid kind asked new → (holder : ℕ) (held : LockKind)
    → (asked ≡ Denied holder held → IsDenied old session oid kind holder held) × (IsDenied old session oid kind holder held → asked ≡ Denied holder held)
denied_from_answers old new session oid kind (Granted now) answer holder held = (
  λ is. absurd (cc is),
  λ denied. absurd (none-some (holder, held) (sym answer.0 ∙ value_from_denied old session oid kind holder held denied)),
)
denied_from_answers old new session oid kind NoMemory answer holder held = (
  λ is. absurd (cc is),
  λ denied. absurd (none-some (holder, held) (sym answer.0 ∙ value_from_denied old session oid kind holder held denied)),
)
denied_from_answers old new session oid kind (Denied other other_kind) answer holder held = (
  λ is.
      let same : other ≡ holder = cc is in
      let kinds : other_kind ≡ held = cc is in
      denied_from_value old session oid kind holder held (answer.0 ∙ ap Some (λ i. (same i, kinds i))),
  λ denied.
      let pair = same_Some _ _ (sym answer.0 ∙ value_from_denied old session oid kind holder held denied) in
      λ i. Denied (pair i).0 (pair i).1,
)

module _ (es : Entries) (old : LockSet) (view_is : from_entries es ≡ old) (session oid : ℕ) (kind : LockKind) where
  -- the kind in which the session holds the object, in the entries
  pub kind_held-entries : kind_held old session oid ≡ held_at es (holding session oid)
  kind_held-entries = sym (ap (λ (locks : LockSet). kind_held locks session oid) view_is) ∙ get-held es (holding session oid)

  -- what was granted is what a session holds after it
  pub granted_kind : (granted : LockKind) → granted ≡ kind_granted (held_at es (holding session oid)) kind → granted ≡ kind_granted (kind_held old session oid) kind
  granted_kind granted is = is ∙ ap (λ (held : Option LockKind). kind_granted held kind) (sym kind_held-entries)

  pub granted_locks : (fs : Entries) (granted : LockKind) → granted ≡ kind_granted (held_at es (holding session oid)) kind → from_entries {R = holding_cmp} fs ≡ insert (from_entries es) (holding session oid) granted → from_entries fs ≡ after_held old session oid kind
  granted_locks fs granted is after = after ∙ ap (λ (locks : LockSet). insert locks (holding session oid) granted) view_is ∙ ap (insert old (holding session oid)) (granted_kind granted is)

  -- what the search found is for whom the request is denied
  pub denied_for-found : AreSorted es → (found : Option (ℕ × LockKind)) → found ≡ first_in_the_way session oid kind es → denied_for old session oid kind ≡ found
  denied_for-found sorted found is =
      sym (ap (λ (locks : LockSet). denied_for locks session oid kind) view_is) ∙ sym (first-denied_for es session oid kind sorted) ∙ sym is

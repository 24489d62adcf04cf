-- A lock to write is the only lock on its object, after all events.
use Rattle.std.proofs.Common.{◌≡◌, ◌≢◌, ℕ, ◌⊎◌, inl, inr, List, [], ◌∷◌, fold, Option, Some, None, refl, sym, subst, ◌∙◌}
use Rattle.std.specs.FinMap.{empty, get-empty}
use Rattle.std.proofs.lemmas.Bool.Decides.{eqb_tells}
use Rattle.std.proofs.lemmas.Option.{none-some, same_Some}
use Rattle.lock_table.specs.LockKind.{kind_granted}
use Rattle.lock_table.specs.Locks.{LockSet, holding_cmp, holding, kind_held, after_held, after_dropped, after_left, LockEvent, Held, Dropped, Left, locks_after_event, locks_after}
use Rattle.lock_table.specs.Granted.{MayFollow, AreGrantedFrom, AreGranted, IsExclusive}
use Rattle.lock_table.specs.declared.lock.LockKind.{LockKind}
use Rattle.lock_table.specs.declared.lock.LockKind.TheVariants.{Read, Write}
use Rattle.lock_table.proofs.Changes.{held_this, held_others, dropped_this, dropped_others, left_this, left_others}

reads : (kind : LockKind) → ¬ (kind ≡ Write) → kind ≡ Read
reads Read not_write = refl
reads Write not_write = absurd (not_write refl)

-- what is granted to read is read, where it was held to read before, if at all
granted_reads : (before : Option LockKind) (kind : LockKind) → kind ≡ Read → ((held : LockKind) → before ≡ Some held → held ≡ Read) → kind_granted before kind ≡ Read
granted_reads None kind read held_read = read
granted_reads (Some Read) kind read held_read = read
granted_reads (Some Write) kind read held_read = held_read Write refl

module _ (locks : LockSet) (session oid : ℕ) (kind : LockKind) (granted : MayFollow locks (Held session oid kind)) (exclusive : IsExclusive locks) where
  -- the session that was granted the object, beside another that held it
  beside : (now : LockKind) (other : ℕ) (other_kind : LockKind) → other ≢ session → kind_held (after_held locks session oid kind) session oid ≡ Some now → kind_held (after_held locks session oid kind) other oid ≡ Some other_kind → (now ≡ Read) × (other_kind ≡ Read)
  beside now other other_kind apart this that =
      let before : kind_held locks other oid ≡ Some other_kind = sym (held_others locks session oid kind other oid (λ same. absurd (apart same))) ∙ that in
      let none_writes : ¬ ((kind ≡ Write) ⊎ (other_kind ≡ Write)) = λ one. granted other other_kind (record { other = apart; holds = before; one_writes = one }) in
      let read = reads kind (λ is. none_writes (inl is)) in
      let is : kind_granted (kind_held locks session oid) kind ≡ now = same_Some _ _ (sym (held_this locks session oid kind) ∙ this) in (
        sym is ∙ granted_reads (kind_held locks session oid) kind read (λ held held_is. (exclusive oid session other held other_kind (λ same. apart (sym same)) held_is before).0),
        reads other_kind (λ is. none_writes (inr is)),
      )

  -- where neither is the session that was granted the object
  unchanged : (object a b : ℕ) (kind_a kind_b : LockKind) → a ≢ b → (a ≡ session → object ≢ oid) → (b ≡ session → object ≢ oid) → kind_held (after_held locks session oid kind) a object ≡ Some kind_a → kind_held (after_held locks session oid kind) b object ≡ Some kind_b → (kind_a ≡ Read) × (kind_b ≡ Read)
  unchanged object a b kind_a kind_b apart a_apart b_apart this that =
      exclusive object a b kind_a kind_b apart (sym (held_others locks session oid kind a object a_apart) ∙ this) (sym (held_others locks session oid kind b object b_apart) ∙ that)

  exclusive_held : IsExclusive (after_held locks session oid kind)
  exclusive_held object a b kind_a kind_b apart this that = elim (eqb_tells object oid) [
    | inr elsewhere ↦ unchanged object a b kind_a kind_b apart (λ _. elsewhere.1) (λ _. elsewhere.1) this that
    | inl here ↦ elim (eqb_tells a session) [
      | inl a_is ↦ beside kind_a b kind_b (λ b_is. apart (a_is.1 ∙ sym b_is)) (subst (λ s. kind_held (after_held locks session oid kind) s oid ≡ Some kind_a) a_is.1 (subst (λ o. kind_held (after_held locks session oid kind) a o ≡ Some kind_a) here.1 this)) (subst (λ o. kind_held (after_held locks session oid kind) b o ≡ Some kind_b) here.1 that)
      | inr a_not ↦ elim (eqb_tells b session) [
        | inl b_is ↦
            let both = beside kind_b a kind_a (λ a_is. apart (a_is ∙ sym b_is.1)) (subst (λ s. kind_held (after_held locks session oid kind) s oid ≡ Some kind_b) b_is.1 (subst (λ o. kind_held (after_held locks session oid kind) b o ≡ Some kind_b) here.1 that)) (subst (λ o. kind_held (after_held locks session oid kind) a o ≡ Some kind_a) here.1 this) in
            (both.1, both.0)
        | inr b_not ↦ unchanged object a b kind_a kind_b apart (λ is. absurd (a_not.1 is)) (λ is. absurd (b_not.1 is)) this that
      ]
    ]
  ]

-- locks of which each was held before, in the same kind
abbrev AreAmong : LockSet → LockSet → Type 0
AreAmong new old = (session oid : ℕ) (kind : LockKind) → kind_held new session oid ≡ Some kind → kind_held old session oid ≡ Some kind

exclusive_among : (old new : LockSet) → AreAmong new old → IsExclusive old → IsExclusive new
exclusive_among old new among exclusive oid session other kind other_kind apart this that = exclusive oid session other kind other_kind apart (among session oid kind this) (among other oid other_kind that)

dropped_among : (locks : LockSet) (session oid : ℕ) → AreAmong (after_dropped locks session oid) locks
dropped_among locks session oid other object kind held = elim (eqb_tells object oid) [
  | inr elsewhere ↦ sym (dropped_others locks session oid other object (λ _. elsewhere.1)) ∙ held
  | inl here ↦ elim (eqb_tells other session) [
    | inl this ↦ absurd (none-some kind (sym (dropped_this locks session oid) ∙ subst (λ s. kind_held (after_dropped locks session oid) s oid ≡ Some kind) this.1 (subst (λ o. kind_held (after_dropped locks session oid) other o ≡ Some kind) here.1 held)))
    | inr apart ↦ sym (dropped_others locks session oid other object (λ is. absurd (apart.1 is))) ∙ held
  ]
]

left_among : (locks : LockSet) (session : ℕ) → AreAmong (after_left locks session) locks
left_among locks session other object kind held = elim (eqb_tells other session) [
  | inl this ↦ absurd (none-some kind (sym (left_this locks session object) ∙ subst (λ s. kind_held (after_left locks session) s object ≡ Some kind) this.1 held))
  | inr apart ↦ sym (left_others locks session object other object apart.1) ∙ held
]

-- one event more keeps it
pub exclusive_event : (locks : LockSet) (event : LockEvent) → MayFollow locks event → IsExclusive locks → IsExclusive (locks_after_event locks event)
exclusive_event locks (Held session oid kind) granted exclusive = exclusive_held locks session oid kind granted exclusive
exclusive_event locks (Dropped session oid) granted exclusive = exclusive_among locks (after_dropped locks session oid) (dropped_among locks session oid) exclusive
exclusive_event locks (Left session) granted exclusive = exclusive_among locks (after_left locks session) (left_among locks session) exclusive

-- events that are granted from locks that are exclusive leave such locks
exclusive_from : (locks : LockSet) (events : List LockEvent) → IsExclusive locks → AreGrantedFrom locks events → IsExclusive (fold locks_after_event locks events)
exclusive_from locks [] exclusive granted = exclusive
exclusive_from locks (event ∷ later) exclusive granted = exclusive_from (locks_after_event locks event) later (exclusive_event locks event granted.0 exclusive) granted.1

pub exclusive_after : (events : List LockEvent) → AreGranted events → IsExclusive (locks_after events)
exclusive_after events granted = exclusive_from empty events (λ oid session other kind other_kind apart this that. absurd (none-some kind (sym (get-empty holding_cmp (holding session oid)) ∙ this))) granted

-- The locks that sessions hold on objects.
use Rattle.std.specs.Prelude.{◌≡◌, ◌≢◌, ◌==◌, ℕ, ◌≤◌, not, ◌⊎◌, List, fold, Option, Some, IsSome}
use Rattle.std.specs.declared.cmp.Ordering.{Ordering}
use Rattle.std.specs.Ordering.{nat_cmp, ordering_then}
use Rattle.std.specs.FinMap.{FinMap, empty, get, insert, remove, retain_keys, entries}
use Rattle.lock_table.specs.LockKind.{kind_granted}
use Rattle.lock_table.specs.Search.{first_in_the_way}
use Rattle.lock_table.specs.declared.lock.Holding.{Holding}
use Rattle.lock_table.specs.declared.lock.LockKind.{LockKind}
use Rattle.lock_table.specs.declared.lock.LockKind.TheVariants.{Write}

-- by object, and then by session
abbrev pub holding_cmp : Holding → Holding → Ordering
holding_cmp a b = ordering_then (nat_cmp a.oid b.oid) (nat_cmp a.session b.session)

-- the locks: at most one for each object and session, of some kind
abbrev pub LockSet : Type 0
LockSet = FinMap holding_cmp LockKind

-- the session's hold on the object
abbrev pub holding : ℕ → ℕ → Holding
holding session oid = record { oid = oid; session = session }

-- the kind in which the session holds the object, if it does
abbrev pub kind_held : LockSet → ℕ → ℕ → Option LockKind
kind_held locks session oid = get locks (holding session oid)

-- ---- what happens to the locks

-- the session was granted the object in a kind: its lock is added, or raised to the greater kind
abbrev pub after_held : LockSet → ℕ → ℕ → LockKind → LockSet
after_held locks session oid kind =
    insert locks (holding session oid) (kind_granted (kind_held locks session oid) kind)

-- the session's lock on the object is gone
abbrev pub after_dropped : LockSet → ℕ → ℕ → LockSet
after_dropped locks session oid = remove locks (holding session oid)

-- all the session's locks are gone
abbrev pub after_left : LockSet → ℕ → LockSet
after_left locks session = retain_keys locks (λ holding. not (holding.session == session))

-- a session is granted an object in a kind, gives it up, or leaves
pub data LockEvent : Type 0 where
  Held : (session oid : ℕ) → LockKind → LockEvent
  Dropped : (session oid : ℕ) → LockEvent
  Left : (session : ℕ) → LockEvent

-- the locks after one event
abbrev pub locks_after_event : LockSet → LockEvent → LockSet
locks_after_event locks (Held session oid kind) = after_held locks session oid kind
locks_after_event locks (Dropped session oid) = after_dropped locks session oid
locks_after_event locks (Left session) = after_left locks session

-- the locks after events, where there were none before
abbrev pub locks_after : List LockEvent → LockSet
locks_after events = fold locks_after_event empty events

-- ---- who is in the way

-- another session holds the object, in the kind `held`, and one of the two kinds is Write
pub record IsInTheWay (locks : LockSet) (session oid : ℕ) (kind : LockKind)
    (holder : ℕ) (held : LockKind) : Type 0 where
  pub other : holder ≢ session
  pub holds : kind_held locks holder oid ≡ Some held
  pub one_writes : (kind ≡ Write) ⊎ (held ≡ Write)

-- a request is denied for this holder and its kind: it is in the way, and no lower session is
pub record IsDenied (locks : LockSet) (session oid : ℕ) (kind : LockKind)
    (holder : ℕ) (held : LockKind) : Type 0 where
  pub in_the_way : IsInTheWay locks session oid kind holder held
  pub lowest : (other : ℕ) (other_kind : LockKind)
      → IsInTheWay locks session oid kind other other_kind → holder ≤ other

-- of the other sessions that hold the object, this is the lowest, with its kind
pub record IsLowestHolder (locks : LockSet) (session oid holder : ℕ) (held : LockKind)
    : Type 0 where
  pub other : holder ≢ session
  pub holds : kind_held locks holder oid ≡ Some held
  pub lowest : (other : ℕ) → other ≢ session → IsSome (kind_held locks other oid) → holder ≤ other

-- the session for which a request is denied, if it is, with its kind: the first that is in the way,
-- as the holdings are in order
unfoldable pub denied_for : LockSet → ℕ → ℕ → LockKind → Option (ℕ × LockKind)
denied_for locks session oid kind = first_in_the_way session oid kind (entries locks)

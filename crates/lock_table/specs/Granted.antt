-- Locks that sessions were granted one after another.
use Rattle.std.specs.Prelude.{◌≡◌, ◌≢◌, ℕ, List, [], ◌∷◌, Some}
use Rattle.std.specs.FinMap.{empty}
use Rattle.lock_table.specs.Locks.{LockSet, kind_held, LockEvent, Held, Dropped, Left, locks_after_event, IsInTheWay}
use Rattle.lock_table.specs.declared.lock.LockKind.{LockKind}
use Rattle.lock_table.specs.declared.lock.LockKind.TheVariants.{Read}

-- a lock that is granted has no other session in its way; a lock may be given up at any time
abbrev pub MayFollow : LockSet → LockEvent → Type 0
MayFollow locks (Held session oid kind) =
    (holder : ℕ) (held : LockKind) → ¬ IsInTheWay locks session oid kind holder held
MayFollow locks (Dropped session oid) = Unit {0}
MayFollow locks (Left session) = Unit {0}

-- each of the events may follow the locks that those before it leave, from these locks on
abbrev pub AreGrantedFrom : LockSet → List LockEvent → Type 0
AreGrantedFrom locks [] = Unit {0}
AreGrantedFrom locks (event ∷ later) =
    MayFollow locks event × AreGrantedFrom (locks_after_event locks event) later

-- the same where there were no locks before
abbrev pub AreGranted : List LockEvent → Type 0
AreGranted events = AreGrantedFrom empty events

-- two sessions that hold the same object both hold it to read
abbrev pub IsExclusive : LockSet → Type 0
IsExclusive locks = (oid session other : ℕ) (kind other_kind : LockKind) → session ≢ other
    → kind_held locks session oid ≡ Some kind → kind_held locks other oid ≡ Some other_kind
    → (kind ≡ Read) × (other_kind ≡ Read)

-- What a request is answered.
use Rattle.std.specs.Prelude.{◌≡◌, ℕ, Some, None}
use Rattle.lock_table.specs.LockKind.{kind_granted}
use Rattle.lock_table.specs.Locks.{LockSet, kind_held, after_held, denied_for}
use Rattle.lock_table.specs.declared.lock.Asked.{Asked}
use Rattle.lock_table.specs.declared.lock.Asked.TheVariants.{Granted, Denied, NoMemory}
use Rattle.lock_table.specs.declared.lock.LockKind.{LockKind}

-- What a request says of the locks before it, and which it leaves: it is granted or meets want of
-- memory where it is denied for nobody, and a session that holds the object already needs no
-- memory; only a grant changes the locks.
abbrev pub Answers : LockSet → ℕ → ℕ → LockKind → Asked → LockSet → Type 0
Answers old session oid kind (Granted now) new =
    (denied_for old session oid kind ≡ None)
    × (now ≡ kind_granted (kind_held old session oid) kind)
    × (new ≡ after_held old session oid kind)
Answers old session oid kind (Denied holder held) new =
    (denied_for old session oid kind ≡ Some (holder, held)) × (new ≡ old)
Answers old session oid kind NoMemory new =
    (denied_for old session oid kind ≡ None) × (kind_held old session oid ≡ None) × (new ≡ old)

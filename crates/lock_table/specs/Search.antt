-- How the table of locks is searched.
use Rattle.std.specs.Prelude.{◌==◌, ℕ, Bool, not, ◌&&◌, ◌||◌, List, Option, find}
use Rattle.std.specs.Option.{option_map}
use Rattle.lock_table.specs.LockKind.{is_write}
use Rattle.lock_table.specs.declared.lock.Holding.{Holding}
use Rattle.lock_table.specs.declared.lock.LockKind.{LockKind}

-- whether an entry is of the object, and of another session that is in the way of a request for it
abbrev pub is_in_the_way : ℕ → ℕ → LockKind → Holding × LockKind → Bool
is_in_the_way session oid kind entry = entry.0.oid == oid
    && (not (entry.0.session == session) && (is_write kind || is_write entry.1))

-- what an entry says of its session
abbrev pub holder_of : Holding × LockKind → ℕ × LockKind
holder_of entry = (entry.0.session, entry.1)

-- the first of the entries whose session is in the way
abbrev pub first_in_the_way : ℕ → ℕ → LockKind → List (Holding × LockKind) → Option (ℕ × LockKind)
first_in_the_way session oid kind entries =
    option_map holder_of (find (is_in_the_way session oid kind) entries)

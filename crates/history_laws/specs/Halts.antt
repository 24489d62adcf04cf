-- What comes after the disk has failed.
use Rattle.gem_meaning.specs.declared.event.What.TheVariants.{Held, Dropped, Left}
use Rattle.gem_meaning.specs.Events.{Event}

-- the event is about locks
abbrev pub IsOfLocks : Event → Type 0
IsOfLocks (session, Held oid kind) = Unit {0}
IsOfLocks (session, Dropped oid) = Unit {0}
IsOfLocks (session, Left) = Unit {0}
IsOfLocks (session, _) = ⊥

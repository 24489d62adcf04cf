-- Locks that are held from a moment on at which the view was up to date.
use Rattle.std.specs.Prelude.{◌≡◌, ◌≤◌, ℕ, ◌+◌, List, [], ◌∷◌, ◌++◌, IsSome}
use Rattle.gem_meaning.specs.lock_table.Locks.{kind_held}
use Rattle.gem_meaning.specs.commit_check.Conflicts.{last_change}
use Rattle.gem_meaning.specs.declared.event.What.TheVariants.{Placed}
use Rattle.gem_meaning.specs.Opened.{Opened}
use Rattle.gem_meaning.specs.Events.{Event, Standing, after_event, after_events}

-- the session holds the object where this stands, and still after each of the events
abbrev pub HoldsThrough : Opened → Standing → List Event → (session oid : ℕ) → Type 0
HoldsThrough o s [] session oid = IsSome (kind_held s.locks session oid)
HoldsThrough o s (event ∷ events) session oid = IsSome (kind_held s.locks session oid)
    × HoldsThrough o (after_event o s event) events session oid

-- a commit that the session itself has placed here is at most the view
abbrev pub OwnIsUpTo : Standing → Event → (session view : ℕ) → Type 0
OwnIsUpTo s (author, Placed e) session view = author ≡ session → s.number + 1 ≤ view
OwnIsUpTo s (author, _) session view = Unit {0}

-- so is each that it has placed among the events
abbrev pub OwnAreUpTo : Opened → Standing → List Event → (session view : ℕ) → Type 0
OwnAreUpTo o s [] session view = Unit {0}
OwnAreUpTo o s (event ∷ events) session view = OwnIsUpTo s event session view
    × OwnAreUpTo o (after_event o s event) events session view

-- The session has held the object without a break since a point at which its last change was at
-- most the view, and has itself placed no commit above the view since.
pub record IsHeldClean (o : Opened) (events : List Event) (session view oid : ℕ) : Type 0 where
  pub before : List Event
  pub more : List Event
  pub split : events ≡ before ++ more
  pub clean : last_change (after_events o before).image oid ≤ view
  pub held : HoldsThrough o (after_events o before) more session oid
  pub own : OwnAreUpTo o (after_events o before) more session view

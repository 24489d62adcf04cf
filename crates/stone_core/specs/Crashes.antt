-- What a crash leaves of what a Stone has stored, by the Stone's events.
use Rattle.std.specs.Prelude.{◌≡◌, ◌⊎◌, ℕ, List, [], ◌∷◌, ◌++◌, Option, Some}
use Rattle.gem_record.specs.declared.record.Entry.{Entry}
use Rattle.gem_keeper.specs.Found.{Found, StandsFor}
use Rattle.gem_meaning.specs.declared.event.What.TheVariants.{Placed, Halted}
use Rattle.gem_meaning.specs.Opened.{Opened}
use Rattle.gem_meaning.specs.Events.{Event, after_events}

-- it stands for the image and the number that stand after these events
abbrev pub StandsAfter : Opened → List Event → Option Found → Type 0
StandsAfter o events left =
    StandsFor (after_events o events).image (after_events o events).number left

-- It stands for what stood at some point of the events.
pub record HasStood (o : Opened) (events : List Event) (left : Option Found) : Type 0 where
  pub before : List Event
  pub more : List Event
  pub split : events ≡ before ++ more
  pub stands : StandsAfter o before left

-- It stands for what the commit in flight would have made, had it been placed where the disk failed.
pub record StandsInFlight (o : Opened) (events : List Event) (left : Option Found) : Type 0 where
  pub before : List Event
  pub more : List Event
  pub session : ℕ
  pub number : ℕ
  pub e : Entry
  pub split : events ≡ before ++ (session, Halted number (Some e)) ∷ more
  pub stands : StandsAfter o (before ++ (session, Placed e) ∷ []) left

-- What a crash may leave after these events: what stands, or that with the commit in flight.
abbrev pub MayBeLeft : Opened → List Event → Option Found → Type 0
MayBeLeft o events left = StandsAfter o events left ⊎ StandsInFlight o events left

-- What a crash may leave at some moment of a call that finds these events and ends with those: what
-- one before the call may, or one after it.
abbrev pub MayBeLeftDuring : Opened → (before after : List Event) → Option Found → Type 0
MayBeLeftDuring o before after left = MayBeLeft o before left ⊎ MayBeLeft o after left

-- What a crash may have left at some moment of the events: what stood, or that with the commit in
-- flight.
abbrev pub MayHaveBeenLeft : Opened → List Event → Option Found → Type 0
MayHaveBeenLeft o events left = HasStood o events left ⊎ StandsInFlight o events left

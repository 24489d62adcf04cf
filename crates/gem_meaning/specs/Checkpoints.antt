-- What a session says to checkpoints.
use Rattle.std.specs.Prelude.{◌≡◌, ◌<◌, ◌≤◌, ℕ, List, [], ◌∷◌, ◌++◌, None}
use Rattle.gem_record.specs.declared.limits.TheConstants.{PAGE_LIMIT}
use Rattle.gem_replies.specs.declared.reply.Line.{Line}
use Rattle.gem_replies.specs.declared.reply.Line.TheVariants.{NoMemory, Halted, ExtentFull, DiskFault, Checkpoint}
use Rattle.gem_meaning.specs.declared.event.What.{What}
use Rattle.gem_meaning.specs.declared.event.What.TheVariants.{Checked, Halted as HaltedAt}
use Rattle.gem_meaning.specs.Opened.{Opened}
use Rattle.gem_meaning.specs.Events.{Event, after_events, events_of, OthersCame, IsRunning, HasHaltedAt}
use Rattle.gem_meaning.specs.After.{pages_after}
use Rattle.gem_meaning.specs.State.{SessionState, CommandPlace}

-- A checkpoint may be made after these events: the disk hasn't failed, and it doesn't take too many
-- pages.
pub record MayCheck (o : Opened) (events : List Event) : Type 0 where
  pub running : IsRunning events
  pub fits : pages_after o events ≤ PAGE_LIMIT

-- The checkpoint ended with this event of the session's own, after events of others, where it might
-- be made. This is the number that stood.
pub record CheckEnded (at : CommandPlace) (s : SessionState) (number : ℕ) (what : What)
    : Type 0 where
  pub others : List Event
  pub are_others : events_of s.session others ≡ []
  pub may : MayCheck at.opened (at.before ++ others)
  pub number_is : number ≡ (after_events at.opened (at.before ++ others)).number
  pub after : at.after ≡ (at.before ++ others) ++ (s.session, what) ∷ []

-- The checkpoint would have taken so many pages, which is too many.
pub record CheckFull (at : CommandPlace) (s : SessionState) (pages : ℕ) : Type 0 where
  pub came : OthersCame s.session at.before at.after
  pub running : IsRunning at.after
  pub pages_are : pages ≡ pages_after at.opened at.after
  pub over : PAGE_LIMIT < pages

-- The reply to a checkpoint: the first of these that fits. The disk had failed; it takes too many
-- pages; the disk fails; it is made.
abbrev pub CheckReply : CommandPlace → SessionState → Line → SessionState → Type 0
CheckReply at s NoMemory s' = OthersCame s.session at.before at.after × (s' ≡ s)
CheckReply at s (Halted number) s' =
    OthersCame s.session at.before at.after × HasHaltedAt at.after number × (s' ≡ s)
CheckReply at s (ExtentFull pages) s' = CheckFull at s pages × (s' ≡ s)
CheckReply at s DiskFault s' =
    ((number : ℕ) × CheckEnded at s number (HaltedAt number None)) × (s' ≡ s)
CheckReply at s (Checkpoint number) s' = CheckEnded at s number Checked × (s' ≡ s)
CheckReply at s _ s' = ⊥

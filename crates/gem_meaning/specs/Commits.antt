-- What a session says to commits and aborts.
use Rattle.std.specs.Prelude.{◌≡◌, ◌≢◌, ◌<◌, ◌≤◌, ℕ, ◌+◌, true, false, List, [], ◌∷◌, ◌++◌, Some}
use Rattle.gem_object.specs.gem_value.declared.conflict.Conflict.{Conflict}
use Rattle.gem_record.specs.declared.limits.TheConstants.{LOG_LIMIT}
use Rattle.gem_replies.specs.declared.reply.Line.{Line}
use Rattle.gem_replies.specs.declared.reply.Line.TheVariants.{NoMemory, Spoiled, Halted, Unchanged, Refused, LogFull, DiskFault, Committed, Aborted}
use Rattle.gem_meaning.specs.declared.event.What.TheVariants.{Placed, Halted as HaltedAt}
use Rattle.gem_meaning.specs.Opened.{Opened}
use Rattle.gem_meaning.specs.Effect.{IsUnchanged}
use Rattle.gem_meaning.specs.Events.{Event, after_events, events_of, OthersCame, conflicts_at, IsRunning, HasHaltedAt}
use Rattle.gem_meaning.specs.After.{record_size, log_after}
use Rattle.gem_meaning.specs.State.{SessionState, CommandPlace, next_transaction, entry_to, record_to}

-- only events of others came, and this is the number that stands
abbrev pub SeesNumber : Opened → ℕ → (before after : List Event) → ℕ → Type 0
SeesNumber o session before after number =
    OthersCame session before after × (number ≡ (after_events o after).number)

-- the conflicts of the transaction with the commit that has this number, after these events
abbrev pub conflicts_found : Opened → List Event → ℕ → SessionState → List Conflict
conflicts_found o events number s =
    conflicts_at (after_events o events) (record_to o events number s)

-- The transaction has something to commit, after these events.
abbrev pub HasChanged : Opened → List Event → ℕ → SessionState → Type 0
HasChanged o events number s = IsUnchanged (record_to o events number s) → ⊥

-- After these events the disk hasn't failed, and the transaction has something to commit and no
-- conflict.
pub record IsClear (o : Opened) (events : List Event) (number : ℕ) (s : SessionState)
    : Type 0 where
  pub running : IsRunning events
  pub changed : HasChanged o events number s
  pub no_conflict : conflicts_found o events number s ≡ []

-- the bytes in the log of the transaction with the commit that has this number, after these events
abbrev pub size_found : Opened → List Event → ℕ → SessionState → ℕ
size_found o events number s = record_size o (after_events o events) (entry_to number s)

-- The transaction may be placed after these events: its record fits into the log, too.
pub record MayCommit (o : Opened) (events : List Event) (number : ℕ) (s : SessionState)
    : Type 0 where
  pub clear : IsClear o events number s
  pub fits : log_after o events + size_found o events number s ≤ LOG_LIMIT

-- The commit was placed, as the session's own event, after events of others, where it might be. More
-- events of others came, and the next transaction sees the number that stands then.
pub record CommitPlaced (at : CommandPlace) (s : SessionState) (number view : ℕ) : Type 0 where
  pub others : List Event
  pub are_others : events_of s.session others ≡ []
  pub may : MayCommit at.opened (at.before ++ others) at.number s
  pub number_is : number ≡ (after_events at.opened (at.before ++ others)).number + 1
  pub sees : SeesNumber at.opened s.session
      ((at.before ++ others) ++ (s.session, Placed (entry_to at.number s)) ∷ []) at.after view

-- The disk failed as the commit was to be placed, where it might be, after events of others. The
-- session's own event tells so, with the commit's entry and the number that it would have had.
pub record CommitHalted (at : CommandPlace) (s : SessionState) : Type 0 where
  pub others : List Event
  pub are_others : events_of s.session others ≡ []
  pub may : MayCommit at.opened (at.before ++ others) at.number s
  pub after : at.after ≡ (at.before ++ others)
      ++ (
        s.session,
        HaltedAt ((after_events at.opened (at.before ++ others)).number + 1)
            (Some (entry_to at.number s)),
      ) ∷ []

-- The commit's record was too long for the log, whose length is told beside its own.
pub record CommitFull (at : CommandPlace) (s : SessionState) (length size : ℕ) : Type 0 where
  pub came : OthersCame s.session at.before at.after
  pub clear : IsClear at.opened at.after at.number s
  pub length_is : length ≡ log_after at.opened at.after
  pub size_is : size ≡ size_found at.opened at.after at.number s
  pub over : LOG_LIMIT < length + size

-- The reply to a commit: the first of these that fits. The disk had failed; nothing was changed;
-- there are conflicts; the log is full; the disk fails; the commit is placed.
abbrev pub CommitReply : CommandPlace → SessionState → Line → SessionState → Type 0
CommitReply at s Spoiled s' = (s.spoiled ≡ true) × (at.after ≡ at.before) × (s' ≡ s)
CommitReply at s NoMemory s' =
    (s.spoiled ≡ false) × OthersCame s.session at.before at.after × (s' ≡ s)
CommitReply at s (Halted number) s' = (s.spoiled ≡ false)
    × OthersCame s.session at.before at.after × HasHaltedAt at.after number × (s' ≡ s)
CommitReply at s (Unchanged number view) s' = (s.spoiled ≡ false) × (number ≡ s.view)
    × SeesNumber at.opened s.session at.before at.after view
    × IsUnchanged (record_to at.opened at.after at.number s)
    × (s' ≡ next_transaction s view at.number) × IsRunning at.before
CommitReply at s (Refused found) s' = (s.spoiled ≡ false) × OthersCame s.session at.before at.after
    × HasChanged at.opened at.after at.number s
    × (found ≢ []) × (found ≡ conflicts_found at.opened at.after at.number s) × (s' ≡ s)
    × IsRunning at.after
CommitReply at s (LogFull length size) s' =
    (s.spoiled ≡ false) × CommitFull at s length size × (s' ≡ s)
CommitReply at s DiskFault s' = (s.spoiled ≡ false) × CommitHalted at s × (s' ≡ s)
CommitReply at s (Committed number view) s' = (s.spoiled ≡ false)
    × CommitPlaced at s number view × (s' ≡ next_transaction s view at.number)
CommitReply at s _ s' = ⊥

abbrev pub AbortReply : CommandPlace → SessionState → Line → SessionState → Type 0
AbortReply at s (Aborted view) s' = SeesNumber at.opened s.session at.before at.after view
    × (s' ≡ next_transaction s view at.number)
AbortReply at s _ s' = ⊥

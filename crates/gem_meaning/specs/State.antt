-- What a session carries from command to command.
use Rattle.std.specs.Prelude.{ℕ, ◌+◌, ◌-◌, Bool, false, List, take}
use Rattle.gem_record.specs.declared.record.Entry.{Entry}
use Rattle.gem_record.specs.declared.record.TxnRecord.{TxnRecord}
use Rattle.gem_record.specs.declared.mode.Mode.{Mode}
use Rattle.gem_record.specs.declared.mode.Mode.TheVariants.{Full}
use Rattle.gem_language.specs.Transaction.{Transaction}
use Rattle.gem_meaning.specs.Opened.{Opened}
use Rattle.gem_meaning.specs.Events.{Event, Told, after_events, run_on_view, record_on_view}

-- What a session carries.
pub record SessionState : Type 0 where
  -- the number of the session
  pub session : ℕ
  -- the object of its user
  pub user : ℕ
  -- the number of its view
  pub view : ℕ
  -- its mode
  pub mode : Mode
  -- the number of its transaction, from 1
  pub transaction : ℕ
  -- the number of the transaction's first command
  pub first_command : ℕ
  -- the counter of the first name that the transaction draws, and of the one that is drawn next
  pub first_name : ℕ
  pub next_name : ℕ
  -- whether one of the transaction's commands found no memory
  pub spoiled : Bool

-- a session with its first transaction, at this view, in the full mode
abbrev pub first_transaction : (session user view : ℕ) → SessionState
first_transaction session user view = record {
  session = session;
  user = user;
  view = view;
  mode = Full;
  transaction = 1;
  first_command = 1;
  first_name = 1;
  next_name = 1;
  spoiled = false;
}

-- the session's next transaction, at this view, which begins after the command with this number
abbrev pub next_transaction : SessionState → (view number : ℕ) → SessionState
next_transaction s view number = record s {
  view = view;
  transaction = s.transaction + 1;
  first_command = number + 1;
  first_name = s.next_name;
  spoiled = false;
}

-- the entry of the transaction, with this command as its last one
abbrev pub entry_to : ℕ → SessionState → Entry
entry_to number s = record {
  session = s.session;
  transaction = s.transaction;
  user = s.user;
  first_command = s.first_command;
  last_command = number;
  first_name = s.first_name;
  view = s.view;
  mode = s.mode;
}

-- What the transaction has said and done when it comes to this command, where all stands as at its
-- view.
abbrev pub run_so_far : Opened → List Event → ℕ → SessionState → Transaction
run_so_far o events number s = run_on_view o (after_events o events) (entry_to (number - 1) s)

-- the record of the transaction with the commit that has this number
abbrev pub record_to : Opened → List Event → ℕ → SessionState → TxnRecord
record_to o events number s = record_on_view o (after_events o events) (entry_to number s)

-- Where a command is replied to: its number, and the events before and after it.
pub record CommandPlace : Type 0 where
  pub opened : Opened
  pub number : ℕ
  pub before : List Event
  pub after : List Event

-- the place of a command between two points of all events
abbrev pub place_between : Told → (number p q : ℕ) → CommandPlace
place_between t number p q = record {
  opened = t.opened;
  number = number;
  before = take p t.events;
  after = take q t.events;
}

-- What a session says to locks, unlocks and its logout.
use Rattle.std.specs.Prelude.{◌≡◌, ◌↔◌, ℕ, Bool, true, false, if◌then◌else◌, IsTrue, nat_le, List, [], ◌∷◌, ◌++◌, Some, None, is_some}
use Rattle.gem_object.specs.texts.Bytes.{Bytes as Text}
use Rattle.gem_object.specs.declared.value.Value.TheVariants.{Ref}
use Rattle.gem_record.specs.gem_world.World.{Setting, World, is_made}
use Rattle.gem_record.specs.gem_world.Access.{Access, a_read, a_write, is_allowed}
use Rattle.commit_check.specs.Conflicts.{last_change}
use Rattle.lock_table.specs.LockKind.{kind_granted}
use Rattle.lock_table.specs.Locks.{kind_held, denied_for}
use Rattle.lock_table.specs.declared.lock.LockKind.{LockKind}
use Rattle.lock_table.specs.declared.lock.LockKind.TheVariants.{Read, Write}
use Rattle.gem_replies.specs.declared.reply.Line.{Line}
use Rattle.gem_replies.specs.declared.reply.Line.TheVariants.{NoMemory, NoName, NotObject, NotCommitted, NoRight, Denied, Locked, NotHeld, Unlocked}
use Rattle.gem_meaning.specs.declared.event.What.TheVariants.{Held, Dropped, Left}
use Rattle.gem_meaning.specs.Names.{Found, no_name, found, find_name}
use Rattle.gem_meaning.specs.Events.{Event, Standing, after_events, events_of, OthersCame}
use Rattle.gem_meaning.specs.Serial.{HoldsSome}
use Rattle.gem_meaning.specs.State.{SessionState, CommandPlace}
use Rattle.gem_meaning.specs.Runs.{setting_of, world_so_far}

-- ---- what is found without the Stone

-- What comes of a name: a reply, or an object that the Stone is asked about.
pub data Target : Type 0 where
  replies : Line → Target
  asks : (oid : ℕ) → Target

abbrev pub target_of : Text → Found → Target
target_of name no_name = replies (NoName name)
target_of name (found (Ref oid)) = asks oid
target_of name (found _) = replies (NotObject name)

-- the access that a lock of this kind stands for
abbrev pub access_of : LockKind → Access
access_of Read = a_read
access_of Write = a_write

-- whether the object may be locked: it wasn't made in the transaction, and the user has the right
abbrev pub lockable : LockKind → Setting → World → Target → Target
lockable kind setting world (replies line) = replies line
lockable kind setting world (asks oid) =
    if is_made oid setting world then replies (NotCommitted oid)
    else if is_allowed (access_of kind) oid setting world then asks oid
    else replies (NoRight oid)

abbrev pub unlock_target : Text → Setting → World → Target
unlock_target name setting world = target_of name (find_name name setting world)

abbrev pub lock_target : LockKind → Text → Setting → World → Target
lock_target kind name setting world =
    lockable kind setting world (unlock_target name setting world)

-- The target is what the transaction so far gives. Where it is spoiled nobody knows what it has
-- done: it is what some objects give.
pub data IsTarget (give : Setting → World → Target) (at : CommandPlace) (s : SessionState)
    : Target → Type 0 where
  so_far : s.spoiled ≡ false
      → IsTarget give at s (give (setting_of at.opened at.before s) (world_so_far at s))
  spoiled : (world : World) → s.spoiled ≡ true
      → IsTarget give at s (give (setting_of at.opened at.before s) world)

-- ---- what the Stone replies

-- no commit has changed the object after the view
abbrev pub is_clean : Standing → (view oid : ℕ) → Bool
is_clean s view oid = nat_le (last_change s.image oid) view

-- The session was granted the object, as its own event: another lock was in the way of none, and the
-- kind is the one in which it then holds it.
pub record LockGranted (at : CommandPlace) (s : SessionState) (asked : LockKind) (oid : ℕ)
    (kind : LockKind) (clean : Bool) : Type 0 where
  pub others : List Event
  pub are_others : events_of s.session others ≡ []
  pub after : at.after ≡ (at.before ++ others) ++ (s.session, Held oid kind) ∷ []
  pub free : denied_for (after_events at.opened (at.before ++ others)).locks s.session oid asked
      ≡ None
  pub kind_is : kind ≡ kind_granted
      (kind_held (after_events at.opened (at.before ++ others)).locks s.session oid) asked
  pub clean_is : clean ≡ is_clean (after_events at.opened (at.before ++ others)) s.view oid

-- Another session's lock was in the way: that of the lowest such session, and its kind.
pub record LockDenied (at : CommandPlace) (s : SessionState) (asked : LockKind) (oid : ℕ)
    (holder : ℕ) (kind : LockKind) : Type 0 where
  pub came : OthersCame s.session at.before at.after
  pub in_the_way : denied_for (after_events at.opened at.after).locks s.session oid asked
      ≡ Some (holder, kind)

-- how a lock ended for which the Stone was asked, as it is replied
abbrev pub LockOutcome : CommandPlace → SessionState → (asked : LockKind) → (oid : ℕ) → Line
    → Type 0
LockOutcome at s asked oid (Locked kind name clean) =
    (name ≡ oid) × LockGranted at s asked oid kind clean
LockOutcome at s asked oid (Denied kind name holder held) = (kind ≡ asked) × (name ≡ oid)
    × LockDenied at s asked oid holder held
LockOutcome at s asked oid NoMemory = OthersCame s.session at.before at.after
    × (denied_for (after_events at.opened at.after).locks s.session oid asked ≡ None)
LockOutcome at s asked oid _ = ⊥

-- The session gave the object back, as its own event; it held it.
pub record LockDropped (at : CommandPlace) (s : SessionState) (oid : ℕ) : Type 0 where
  pub others : List Event
  pub are_others : events_of s.session others ≡ []
  pub after : at.after ≡ (at.before ++ others) ++ (s.session, Dropped oid) ∷ []
  pub held : is_some
      (kind_held (after_events at.opened (at.before ++ others)).locks s.session oid) ≡ true

-- how an unlock ended for which the Stone was asked, as it is replied
abbrev pub UnlockOutcome : CommandPlace → SessionState → (oid : ℕ) → Line → Type 0
UnlockOutcome at s oid (Unlocked name) = (name ≡ oid) × LockDropped at s oid
UnlockOutcome at s oid (NotHeld name) = (name ≡ oid) × OthersCame s.session at.before at.after
    × (kind_held (after_events at.opened at.after).locks s.session oid ≡ None)
UnlockOutcome at s oid _ = ⊥

-- a reply that comes of the target: its own, without a look at the Stone, or the Stone's
abbrev pub TargetReply : CommandPlace → ((oid : ℕ) → Line → Type 0) → Target → Line → Type 0
TargetReply at Outcome (replies reply) line = (line ≡ reply) × (at.after ≡ at.before)
TargetReply at Outcome (asks oid) line = Outcome oid line

abbrev pub kind_asked : (write : Bool) → LockKind
kind_asked true = Write
kind_asked false = Read

-- The reply to a lock.
pub record LockReply (at : CommandPlace) (s : SessionState) (write : Bool) (name : Text)
    (line : Line) (s' : SessionState) : Type 0 where
  pub target : Target
  pub is_target : IsTarget (lock_target (kind_asked write) name) at s target
  pub reply : TargetReply at (LockOutcome at s (kind_asked write)) target line
  pub stays : s' ≡ s

-- The reply to an unlock.
pub record UnlockReply (at : CommandPlace) (s : SessionState) (name : Text) (line : Line)
    (s' : SessionState) : Type 0 where
  pub target : Target
  pub is_target : IsTarget (unlock_target name) at s target
  pub reply : TargetReply at (UnlockOutcome at s) target line
  pub stays : s' ≡ s

-- ---- the end of a session

-- the event by which a session leaves, where it holds a lock
abbrev pub leaving : (holds : Bool) → (session : ℕ) → List Event
leaving true session = (session, Left) ∷ []
leaving false session = []

-- The session ended. It leaves, as its own event, exactly where it holds a lock.
pub record LogsOut (at : CommandPlace) (s : SessionState) : Type 0 where
  pub others : List Event
  pub are_others : events_of s.session others ≡ []
  pub holds : Bool
  pub after : at.after ≡ (at.before ++ others) ++ leaving holds s.session
  pub exactly : IsTrue holds ↔ HoldsSome (after_events at.opened (at.before ++ others)) s.session

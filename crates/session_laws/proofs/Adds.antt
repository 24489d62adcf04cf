-- What the replies to one command add to the session's events, and to what their reader knows.
use Rattle.std.proofs.Common.{◌≡◌, ◌⊎◌, inl, inr, ◌∙◌, refl, sym, ap, subst, ℕ, ◌+◌, Bool, true, false, true≢false, cond, is_some, Some, None, List, [], ◌∷◌, ◌++◌, map, append-nil}
use Rattle.std.proofs.lemmas.Option.{none-some, same_Some}
use Rattle.gem_meaning.specs.texts.Bytes.{Bytes as Text}
use Rattle.gem_meaning.specs.gem_object.declared.value.Value.TheVariants.{Ref}
use Rattle.gem_meaning.specs.gem_world.World.{Setting, World, is_made}
use Rattle.gem_meaning.specs.gem_world.Access.{is_allowed}
use Rattle.gem_meaning.specs.gem_record.declared.record.Entry.{Entry}
use Rattle.gem_meaning.specs.lock_table.Locks.{LockSet}
use Rattle.gem_meaning.specs.lock_table.declared.lock.LockKind.{LockKind}
use Rattle.gem_meaning.specs.gem_language.Commands.{Command as ObjectCommand, run_chunk, install_method, Reply as ObjectReply, not_read, failed, ran, printed, installed}
use Rattle.gem_meaning.specs.gem_language.Transaction.{Said, said_of, command_outcome}
use Rattle.gem_meaning.specs.gem_replies.declared.reply.Line.{Line}
use Rattle.gem_meaning.specs.gem_replies.declared.reply.Line.TheVariants.{NoMemory, NotCommitted, NoRight, Spoiled, Unchanged, Refused, Committed, Aborted, Denied, Locked, NotHeld, Unlocked, Logout as LoggedOut, LogFull, DiskFault, Halted as HaltedLine, ExtentFull, Checkpoint}
use Rattle.gem_meaning.specs.gem_replies.declared.reply.Reply.{Reply}
use Rattle.gem_meaning.specs.shell_words.Script.{is_logout}
use Rattle.gem_meaning.specs.shell_words.declared.script.Command.{Command}
use Rattle.gem_meaning.specs.shell_words.declared.script.Command.TheVariants.{Chunk, Method, Commit, Abort, Logout, Lock, Unlock, Checkpoint as Store, Mode as SetMode}
use Rattle.gem_meaning.specs.declared.event.What.{What}
use Rattle.gem_meaning.specs.declared.event.What.TheVariants.{Placed, Held, Dropped, Left, Checked, Halted}
use Rattle.gem_meaning.specs.Lines.{show_lines, reply_line, said_lines}
use Rattle.gem_meaning.specs.Opened.{Opened}
use Rattle.gem_meaning.specs.Names.{Found, no_name, found as found_value, find_name}
use Rattle.gem_meaning.specs.Events.{Event, Standing, after_event, after_events, entry_in, events_of, OthersCame}
use Rattle.gem_meaning.specs.State.{SessionState, CommandPlace, entry_to, next_transaction}
use Rattle.gem_meaning.specs.Runs.{setting_of, world_so_far, ObjectSays}
use Rattle.gem_meaning.specs.Commits.{CommitPlaced, CommitReply, AbortReply}
use Rattle.gem_meaning.specs.Checkpoints.{CheckReply}
use Rattle.gem_meaning.specs.Locks.{Target, replies as by_itself, asks, target_of, access_of, lockable, unlock_target, lock_target, IsTarget, so_far, spoiled as of_spoiled, LockGranted, LockOutcome, LockDropped, UnlockOutcome, TargetReply, kind_asked, leaving, LogsOut}
use Rattle.gem_meaning.specs.Session.{CommandSays, ModeReply, reply_with, replies_with}
use Rattle.gem_meaning.specs.Claims.{Claim, commits, claimed_by, Reader, begins_next, leaving_claim, claims_from}
use Rattle.history_laws.proofs.Views.{after_one_more}
use Rattle.session_laws.proofs.Own.{came_others, came_one}
use Rattle.session_laws.proofs.Held.{has, has_first, without, AreHeld, held_more, held_less, held_stays}

-- ---- lines that claim nothing

-- The lines claim nothing, and their reader goes on as before.
abbrev pub AreQuiet : List Line → Type 0
AreQuiet lines = (r : Reader) (number : ℕ) (more : List Reply)
    → claims_from r (replies_with number lines ++ more) ≡ claims_from r more

quiet_shown : (text : Text) (lines : List Line) → AreQuiet lines → AreQuiet (show_lines text ++ lines)
quiet_shown [] lines quiet = quiet
quiet_shown (byte ∷ bytes) lines quiet = λ r number more. quiet r number more

quiet_reply : (reply : ObjectReply) → AreQuiet (reply_line reply ∷ [])
quiet_reply (not_read fault) = λ r number more. refl
quiet_reply (failed fault) = λ r number more. refl
quiet_reply ran = λ r number more. refl
quiet_reply (printed text) = λ r number more. refl
quiet_reply (installed selector) = λ r number more. refl

quiet_said : (said : Said) → AreQuiet (said_lines said)
quiet_said said =
    quiet_shown said.shown (reply_line said.reply ∷ []) (quiet_reply said.reply)

-- ---- what a target says by itself

-- where the target is a reply, this claims nothing
abbrev pub IsQuietTarget : Target → Type 0
IsQuietTarget (by_itself line) = AreQuiet (line ∷ [])
IsQuietTarget (asks oid) = Unit {0}

quiet_target : (name : Text) (here : Found) → IsQuietTarget (target_of name here)
quiet_target name no_name = λ r number more. refl
quiet_target name (found_value (Ref oid)) = tt
quiet_target name (found_value _) = λ r number more. refl

quiet_either : (b : Bool) (x y : Target) → IsQuietTarget x → IsQuietTarget y
    → IsQuietTarget (cond b x y)
quiet_either true x y one other = one
quiet_either false x y one other = other

quiet_lockable : (kind : LockKind) (setting : Setting) (world : World) (target : Target)
    → IsQuietTarget target → IsQuietTarget (lockable kind setting world target)
quiet_lockable kind setting world (by_itself line) quiet = quiet
quiet_lockable kind setting world (asks oid) quiet =
    quiet_either (is_made oid setting world) (by_itself (NotCommitted oid))
    (cond (is_allowed (access_of kind) oid setting world) (asks oid) (by_itself (NoRight oid)))
    (λ r number more. refl)
    (quiet_either (is_allowed (access_of kind) oid setting world) (asks oid)
    (by_itself (NoRight oid)) tt (λ r number more. refl))

quiet_unlock : (name : Text) (setting : Setting) (world : World)
    → IsQuietTarget (unlock_target name setting world)
quiet_unlock name setting world = quiet_target name (find_name name setting world)

quiet_lock : (kind : LockKind) (name : Text) (setting : Setting) (world : World)
    → IsQuietTarget (lock_target kind name setting world)
quiet_lock kind name setting world =
    quiet_lockable kind setting world (unlock_target name setting world)
    (quiet_unlock name setting world)

target_is_quiet : (give : Setting → World → Target) (at : CommandPlace) (s : SessionState)
    (target : Target) → ((setting : Setting) (world : World) → IsQuietTarget (give setting world))
    → IsTarget give at s target → IsQuietTarget target
target_is_quiet give at s target quiet (so_far unspoiled) =
    quiet (setting_of at.opened at.before s) (world_so_far at s)
target_is_quiet give at s target quiet (of_spoiled world is) =
    quiet (setting_of at.opened at.before s) world

-- ---- what a reader knows

-- The reader knows the session's transaction, and the objects on which it holds locks.
pub record Knows (o : Opened) (events : List Event) (s : SessionState) (r : Reader) : Type 0 where
  pub transaction : r.transaction ≡ s.transaction
  pub first_command : r.first_command ≡ s.first_command
  pub view : r.view ≡ s.view
  pub locked : AreHeld (after_events o events).locks s.session r.locked

pub knows_after : (o : Opened) (before after : List Event) (s : SessionState) (r : Reader)
    → OthersCame s.session before after → Knows o before s r → Knows o after s r
knows_after o before after s r came knows = record {
  transaction = knows.transaction;
  first_command = knows.first_command;
  view = knows.view;
  locked = λ oid. knows.locked oid ∙ sym (ap is_some (held_stays o s.session before after came oid));
}

-- The session goes on with its transaction.
record SameTransaction (s s' : SessionState) : Type 0 where
  session : s'.session ≡ s.session
  transaction : s'.transaction ≡ s.transaction
  first_command : s'.first_command ≡ s.first_command
  view : s'.view ≡ s.view

same_state : (s s' : SessionState) → s' ≡ s → SameTransaction s s'
same_state s s' is = record {
  session = ap (λ (n : SessionState). n.session) is;
  transaction = ap (λ (n : SessionState). n.transaction) is;
  first_command = ap (λ (n : SessionState). n.first_command) is;
  view = ap (λ (n : SessionState). n.view) is;
}

knows_same : (o : Opened) (events : List Event) (s s' : SessionState) (r : Reader)
    → SameTransaction s s' → Knows o events s r → Knows o events s' r
knows_same o events s s' r same knows = record {
  transaction = knows.transaction ∙ sym same.transaction;
  first_command = knows.first_command ∙ sym same.first_command;
  view = knows.view ∙ sym same.view;
  locked = subst (λ (n : ℕ). AreHeld (after_events o events).locks n r.locked) (sym same.session)
      knows.locked;
}

knows_next : (o : Opened) (events : List Event) (s : SessionState) (r : Reader) (view number : ℕ)
    → Knows o events s r
    → Knows o events (next_transaction s view number) (begins_next r number view)
knows_next o events s r view number knows = record {
  transaction = ap (λ (n : ℕ). n + 1) knows.transaction;
  first_command = refl;
  view = refl;
  locked = knows.locked;
}

-- ---- what a command adds

-- The session's events at a command: none, or one. One with an entry is that of what isn't spoiled,
-- with the command's number.
abbrev pub IsOwn : CommandPlace → SessionState → List Event → Type 0
IsOwn at s own = (own ≡ []) ⊎ ((what : What) × (own ≡ (s.session, what) ∷ [])
    × ((e : Entry) → entry_in what ≡ Some e → (s.spoiled ≡ false) × (e ≡ entry_to at.number s)))

-- What the replies to a command add: the session's events that came are those that they claim.
-- The reader knows then what the session carries, unless that was its end.
pub record Adds (at : CommandPlace) (s : SessionState) (c : Command) (lines : List Line)
    (s' : SessionState) (r : Reader) : Type 0 where
  pub own : List Event
  pub next : Reader
  pub of_session : s'.session ≡ s.session
  pub came : events_of s.session at.after ≡ events_of s.session at.before ++ own
  pub is_own : IsOwn at s own
  pub claimed : (more : List Reply) → claims_from r (replies_with at.number lines ++ more)
      ≡ map claimed_by own ++ claims_from next more
  pub knows : is_logout c ≡ false → Knows at.opened at.after s' next

none_came : (session : ℕ) (before after : List Event) → after ≡ before
    → OthersCame session before after
none_came session before after same = ([], refl, same ∙ sym (append-nil before))

-- quiet lines, and only others' events
adds_none : (at : CommandPlace) (s : SessionState) (c : Command) (lines : List Line)
    (s' : SessionState) (r : Reader) → Knows at.opened at.before s r → SameTransaction s s'
    → OthersCame s.session at.before at.after → AreQuiet lines → Adds at s c lines s' r
adds_none at s c lines s' r knows same came quiet = record {
  own = [];
  next = r;
  of_session = same.session;
  came = came_others s.session at.before at.after came
      ∙ sym (append-nil (events_of s.session at.before));
  is_own = inl refl;
  claimed = λ more. quiet r at.number more;
  knows = λ _. knows_same at.opened at.after s s' r same
      (knows_after at.opened at.before at.after s r came knows);
}

-- a reply that begins the next transaction, and only others' events
adds_next : (at : CommandPlace) (s : SessionState) (c : Command) (line : Line) (view : ℕ)
    (s' : SessionState) (r : Reader) → Knows at.opened at.before s r
    → OthersCame s.session at.before at.after → s' ≡ next_transaction s view at.number
    → ((more : List Reply) → claims_from r (reply_with at.number line ∷ more)
    ≡ claims_from (begins_next r at.number view) more)
    → Adds at s c (line ∷ []) s' r
adds_next at s c line view s' r knows came is claimed = record {
  own = [];
  next = begins_next r at.number view;
  of_session = ap (λ (n : SessionState). n.session) is;
  came = came_others s.session at.before at.after came
      ∙ sym (append-nil (events_of s.session at.before));
  is_own = inl refl;
  claimed = claimed;
  knows = λ _. subst (λ (n : SessionState). Knows at.opened at.after n (begins_next r at.number view))
      (sym is) (knows_next at.opened at.after s r view at.number
      (knows_after at.opened at.before at.after s r came knows));
}

-- ---- chunks and methods

said_adds : (command : ObjectCommand) (at : CommandPlace) (s : SessionState) (c : Command)
    (lines : List Line) (s' : SessionState) (r : Reader) → Knows at.opened at.before s r
    → at.after ≡ at.before → ObjectSays command at s lines s' → Adds at s c lines s' r
said_adds command at s c lines s' r knows same (inl short) =
    adds_none at s c lines s' r knows
    (record {
      session = ap (λ (n : SessionState). n.session) short.state;
      transaction = ap (λ (n : SessionState). n.transaction) short.state;
      first_command = ap (λ (n : SessionState). n.first_command) short.state;
      view = ap (λ (n : SessionState). n.view) short.state;
    })
    (none_came s.session at.before at.after same)
    (subst AreQuiet (sym short.lines_are) (λ r number more. refl))
said_adds command at s c lines s' r knows same (inr (inl meant)) =
    adds_none at s c lines s' r knows
    (record {
      session = ap (λ (n : SessionState). n.session) meant.state;
      transaction = ap (λ (n : SessionState). n.transaction) meant.state;
      first_command = ap (λ (n : SessionState). n.first_command) meant.state;
      view = ap (λ (n : SessionState). n.view) meant.state;
    })
    (none_came s.session at.before at.after same)
    (subst AreQuiet (sym meant.lines_are) (quiet_said (said_of (command_outcome command (setting_of at.opened at.before s)
    (world_so_far at s)))))
said_adds command at s c lines s' r knows same (inr (inr meant)) =
    adds_none at s c lines s' r knows
    (record {
      session = ap (λ (n : SessionState). n.session) meant.state;
      transaction = ap (λ (n : SessionState). n.transaction) meant.state;
      first_command = ap (λ (n : SessionState). n.first_command) meant.state;
      view = ap (λ (n : SessionState). n.view) meant.state;
    })
    (none_came s.session at.before at.after same)
    (subst AreQuiet (sym meant.lines_are)
    (quiet_said (said_of (command_outcome command (setting_of at.opened at.before s)
    meant.world))))

-- ---- commits and aborts

-- the commit that was placed, as the session's event
abbrev pub commit_of : SessionState → ℕ → Event
commit_of s number = (s.session, Placed (entry_to number s))

same_entry : (d e : Entry) → Some d ≡ Some e → e ≡ d
same_entry d e is = sym (same_Some d e is)

placed_adds : (at : CommandPlace) (s : SessionState) (c : Command) (number view : ℕ)
    (s' : SessionState) (r : Reader) → Knows at.opened at.before s r → s.spoiled ≡ false
    → CommitPlaced at s number view → s' ≡ next_transaction s view at.number
    → Adds at s c (Committed number view ∷ []) s' r
placed_adds at s c number view s' r knows unspoiled placed is =
    let o = at.opened in
    let place = at.before ++ placed.others in
    let event = commit_of s at.number in
    let next = begins_next r at.number view in
    let there = knows_after o at.before place s r (placed.others, placed.are_others, refl) knows in
    let same : (after_events o (place ++ event ∷ [])).locks ≡ (after_events o place).locks =
    ap (λ (st : Standing). st.locks) (after_one_more o place event) in
    let then : Knows o (place ++ event ∷ []) s r = record {
      transaction = there.transaction;
      first_command = there.first_command;
      view = there.view;
      locked = subst (λ (locks : LockSet). AreHeld locks s.session r.locked) (sym same) there.locked;
    } in
    record {
      own = event ∷ [];
      next = next;
      of_session = ap (λ (n : SessionState). n.session) is;
      came = came_others s.session (place ++ event ∷ []) at.after placed.sees.0
          ∙ came_one s.session at.before placed.others (place ++ event ∷ [])
          (Placed (entry_to at.number s)) placed.are_others refl;
      is_own = inr (
        Placed (entry_to at.number s),
        refl,
        λ e what. (unspoiled, same_entry (entry_to at.number s) e what),
      );
      claimed = λ more.
          ap (λ (n : ℕ). commits n r.first_command at.number r.view ∷ claims_from next more)
          knows.transaction
          ∙ ap (λ (n : ℕ). commits s.transaction n at.number r.view ∷ claims_from next more)
          knows.first_command
          ∙ ap (λ (n : ℕ). commits s.transaction s.first_command at.number n
          ∷ claims_from next more) knows.view;
      knows = λ _. subst (λ (n : SessionState). Knows o at.after n next) (sym is)
          (knows_next o at.after s r view at.number
          (knows_after o (place ++ event ∷ []) at.after s r placed.sees.0 then));
    }

-- ---- locks, and what else the session does to the Stone

-- the session's own event, after events of others, which goes on with what it carried
module _ (at : CommandPlace) (s : SessionState) (c : Command) (s' : SessionState) (r : Reader)
    (knows : Knows at.opened at.before s r) (is : s' ≡ s) where
  -- the locks at the end are those that the event leaves
  told : (others : List Event) (what : What) (next : Reader) → events_of s.session others ≡ []
      → at.after ≡ (at.before ++ others) ++ (s.session, what) ∷ []
      → (Knows at.opened (at.before ++ others) s r
      → Knows at.opened ((at.before ++ others) ++ (s.session, what) ∷ []) s next)
      → Knows at.opened at.after s' next
  told others what next none after after_it =
      subst (λ (es : List Event). Knows at.opened es s' next) (sym after)
      (knows_same at.opened ((at.before ++ others) ++ (s.session, what) ∷ []) s s' next
      (same_state s s' is)
      (after_it (knows_after at.opened at.before (at.before ++ others) s r (others, none, refl) knows)))

  -- an event that isn't about locks
  own_adds : (others : List Event) (what : What) (line : Line) → events_of s.session others ≡ []
      → at.after ≡ (at.before ++ others) ++ (s.session, what) ∷ []
      → ((st : Standing) → (after_event at.opened st (s.session, what)).locks ≡ st.locks)
      → ((e : Entry) → entry_in what ≡ Some e → (s.spoiled ≡ false) × (e ≡ entry_to at.number s))
      → ((more : List Reply) → claims_from r (replies_with at.number (line ∷ []) ++ more)
      ≡ claimed_by (s.session, what) ∷ claims_from r more)
      → Adds at s c (line ∷ []) s' r
  own_adds others what line none after unlocked entry claimed =
      let place = at.before ++ others in
      let same : (after_events at.opened (place ++ (s.session, what) ∷ [])).locks
      ≡ (after_events at.opened place).locks =
      ap (λ (st : Standing). st.locks) (after_one_more at.opened place (s.session, what))
      ∙ unlocked (after_events at.opened place) in
      record {
        own = (s.session, what) ∷ [];
        next = r;
        of_session = ap (λ (n : SessionState). n.session) is;
        came = came_one s.session at.before others at.after what none after;
        is_own = inr (what, refl, entry);
        claimed = claimed;
        knows = λ _. told others what r none after (λ there. record {
          transaction = there.transaction;
          first_command = there.first_command;
          view = there.view;
          locked = subst (λ (locks : LockSet). AreHeld locks s.session r.locked) (sym same) there.locked;
        });
      }

  granted_adds : (asked : LockKind) (oid : ℕ) (kind : LockKind) (clean : Bool)
      → LockGranted at s asked oid kind clean → Adds at s c (Locked kind oid clean ∷ []) s' r
  granted_adds asked oid kind clean granted =
      let place = at.before ++ granted.others in
      let event : Event = (s.session, Held oid kind) in
      let next : Reader = record r { locked = oid ∷ r.locked } in
      record {
        own = event ∷ [];
        next = next;
        of_session = ap (λ (n : SessionState). n.session) is;
        came = came_one s.session at.before granted.others at.after (Held oid kind)
            granted.are_others granted.after;
        is_own = inr (Held oid kind, refl, λ e some. absurd (none-some e some));
        claimed = λ more. refl;
        knows = λ _. told granted.others (Held oid kind) next granted.are_others granted.after
            (λ there. record {
              transaction = there.transaction;
              first_command = there.first_command;
              view = there.view;
              locked = subst (λ (st : Standing). AreHeld st.locks s.session (oid ∷ r.locked))
                  (sym (after_one_more at.opened place event))
                  (held_more (after_events at.opened place).locks s.session oid kind r.locked
                  there.locked);
            });
      }

  lock_adds : (asked : LockKind) (oid : ℕ) (line : Line) → LockOutcome at s asked oid line
      → Adds at s c (line ∷ []) s' r
  lock_adds asked oid (Locked kind name clean) answer =
      subst (λ (n : ℕ). Adds at s c (Locked kind n clean ∷ []) s' r) (sym answer.0)
      (granted_adds asked oid kind clean answer.1)
  lock_adds asked oid (Denied kind name holder held) answer =
      adds_none at s c (Denied kind name holder held ∷ []) s' r knows (same_state s s' is)
      answer.2.came (λ r number more. refl)
  lock_adds asked oid NoMemory answer =
      adds_none at s c (NoMemory ∷ []) s' r knows (same_state s s' is) answer.0
      (λ r number more. refl)
  lock_adds asked oid _ answer = absurd answer

  dropped_adds : (oid : ℕ) → LockDropped at s oid → Adds at s c (Unlocked oid ∷ []) s' r
  dropped_adds oid dropped =
      let place = at.before ++ dropped.others in
      let event : Event = (s.session, Dropped oid) in
      let next : Reader = record r { locked = without oid r.locked } in
      record {
        own = event ∷ [];
        next = next;
        of_session = ap (λ (n : SessionState). n.session) is;
        came = came_one s.session at.before dropped.others at.after (Dropped oid)
            dropped.are_others dropped.after;
        is_own = inr (Dropped oid, refl, λ e some. absurd (none-some e some));
        claimed = λ more. refl;
        knows = λ _. told dropped.others (Dropped oid) next dropped.are_others dropped.after
            (λ there. record {
              transaction = there.transaction;
              first_command = there.first_command;
              view = there.view;
              locked = subst (λ (st : Standing). AreHeld st.locks s.session (without oid r.locked))
                  (sym (after_one_more at.opened place event))
                  (held_less (after_events at.opened place).locks s.session oid r.locked
                  there.locked);
            });
      }

  unlock_adds : (oid : ℕ) (line : Line) → UnlockOutcome at s oid line → Adds at s c (line ∷ []) s' r
  unlock_adds oid (Unlocked name) answer =
      subst (λ (n : ℕ). Adds at s c (Unlocked n ∷ []) s' r) (sym answer.0)
      (dropped_adds oid answer.1)
  unlock_adds oid (NotHeld name) answer =
      adds_none at s c (NotHeld name ∷ []) s' r knows (same_state s s' is) answer.1
      (λ r number more. refl)
  unlock_adds oid _ answer = absurd answer

  -- what comes of a target
  target_adds : (Answer : (oid : ℕ) → Line → Type 0)
      → ((oid : ℕ) (line : Line) → Answer oid line → Adds at s c (line ∷ []) s' r)
      → (target : Target) (line : Line) → IsQuietTarget target → TargetReply at Answer target line
      → Adds at s c (line ∷ []) s' r
  target_adds Answer answered (by_itself reply) line quiet says =
      adds_none at s c (line ∷ []) s' r knows (same_state s s' is)
      (none_came s.session at.before at.after says.1)
      (subst (λ (l : Line). AreQuiet (l ∷ [])) (sym says.0) quiet)
  target_adds Answer answered (asks oid) line quiet says = answered oid line says

-- ---- what may end with an own event

commit_adds : (at : CommandPlace) (s : SessionState) (c : Command) (line : Line)
    (s' : SessionState) (r : Reader) → Knows at.opened at.before s r → CommitReply at s line s'
    → Adds at s c (line ∷ []) s' r
commit_adds at s c Spoiled s' r knows says =
    adds_none at s c (Spoiled ∷ []) s' r knows (same_state s s' says.2)
    (none_came s.session at.before at.after says.1) (λ r number more. refl)
commit_adds at s c NoMemory s' r knows says =
    adds_none at s c (NoMemory ∷ []) s' r knows (same_state s s' says.2) says.1
    (λ r number more. refl)
commit_adds at s c (HaltedLine number) s' r knows says =
    adds_none at s c (HaltedLine number ∷ []) s' r knows (same_state s s' says.3) says.1
    (λ r number more. refl)
commit_adds at s c (LogFull length size) s' r knows says =
    adds_none at s c (LogFull length size ∷ []) s' r knows (same_state s s' says.2) says.1.came
    (λ r number more. refl)
commit_adds at s c DiskFault s' r knows says =
    let halted = says.1 in
    own_adds at s c s' r knows says.2 halted.others
    (Halted ((after_events at.opened (at.before ++ halted.others)).number + 1)
    (Some (entry_to at.number s))) DiskFault halted.are_others halted.after (λ st. refl)
    (λ e some. (says.0, same_entry (entry_to at.number s) e some)) (λ more. refl)
commit_adds at s c (Unchanged number view) s' r knows says =
    adds_next at s c (Unchanged number view) view s' r knows says.2.0 says.4 (λ more. refl)
commit_adds at s c (Refused found) s' r knows says =
    adds_none at s c (Refused found ∷ []) s' r knows (same_state s s' says.5) says.1
    (λ r number more. refl)
commit_adds at s c (Committed number view) s' r knows says =
    placed_adds at s c number view s' r knows says.0 says.1 says.2
commit_adds at s c _ s' r knows says = absurd says

abort_adds : (at : CommandPlace) (s : SessionState) (c : Command) (line : Line)
    (s' : SessionState) (r : Reader) → Knows at.opened at.before s r → AbortReply at s line s'
    → Adds at s c (line ∷ []) s' r
abort_adds at s c (Aborted view) s' r knows says =
    adds_next at s c (Aborted view) view s' r knows says.0.0 says.1 (λ more. refl)
abort_adds at s c _ s' r knows says = absurd says

check_adds : (at : CommandPlace) (s : SessionState) (c : Command) (line : Line)
    (s' : SessionState) (r : Reader) → Knows at.opened at.before s r → CheckReply at s line s'
    → Adds at s c (line ∷ []) s' r
check_adds at s c NoMemory s' r knows says =
    adds_none at s c (NoMemory ∷ []) s' r knows (same_state s s' says.1) says.0
    (λ r number more. refl)
check_adds at s c (HaltedLine number) s' r knows says =
    adds_none at s c (HaltedLine number ∷ []) s' r knows (same_state s s' says.2) says.0
    (λ r number more. refl)
check_adds at s c (ExtentFull pages) s' r knows says =
    adds_none at s c (ExtentFull pages ∷ []) s' r knows (same_state s s' says.1) says.0.came
    (λ r number more. refl)
check_adds at s c DiskFault s' r knows says =
    let ended = says.0.1 in
    own_adds at s c s' r knows says.1 ended.others (Halted says.0.0 None) DiskFault ended.are_others
    ended.after (λ st. refl) (λ e some. absurd (none-some e some)) (λ more. refl)
check_adds at s c (Checkpoint number) s' r knows says =
    let ended = says.0 in
    own_adds at s c s' r knows says.1 ended.others Checked (Checkpoint number) ended.are_others
    ended.after (λ st. refl) (λ e some. absurd (none-some e some)) (λ more. refl)
check_adds at s c _ s' r knows says = absurd says

-- a line that sets the mode
mode_adds : (at : CommandPlace) (s : SessionState) (c : Command) (full : Bool) (line : Line)
    (s' : SessionState) (r : Reader) → Knows at.opened at.before s r → ModeReply at s full line s'
    → Adds at s c (line ∷ []) s' r
mode_adds at s c full line s' r knows says =
    adds_none at s c (line ∷ []) s' r knows
    (record {
      session = ap (λ (n : SessionState). n.session) says.2;
      transaction = ap (λ (n : SessionState). n.transaction) says.2;
      first_command = ap (λ (n : SessionState). n.first_command) says.2;
      view = ap (λ (n : SessionState). n.view) says.2;
    })
    (none_came s.session at.before at.after says.1)
    (subst (λ (l : Line). AreQuiet (l ∷ [])) (sym says.0) (λ r number more. refl))

-- ---- the end of a session

-- a session leaves where its reader knows of a lock
leaving_is : (session : ℕ) (holds : Bool) (locked : List ℕ)
    → (holds ≡ true → (oid : ℕ) × (has oid locked ≡ true))
    → ((oid : ℕ) → has oid locked ≡ true → holds ≡ true)
    → leaving_claim locked ≡ map claimed_by (leaving holds session)
leaving_is session true [] some back = absurd (true≢false (sym (some refl).1))
leaving_is session true (x ∷ xs) some back = refl
leaving_is session false [] some back = refl
leaving_is session false (x ∷ xs) some back = absurd (true≢false (sym (back x (has_first x xs))))

-- its events, as it leaves or doesn't
pub left_came : (session : ℕ) (before others after : List Event) (holds : Bool)
    → events_of session others ≡ [] → after ≡ (before ++ others) ++ leaving holds session
    → events_of session after ≡ events_of session before ++ leaving holds session
left_came session before others after true none is = came_one session before others after Left none is
left_came session before others after false none is =
    came_others session before after (others, none, is ∙ append-nil (before ++ others))
    ∙ sym (append-nil (events_of session before))

left_own : (at : CommandPlace) (s : SessionState) (holds : Bool)
    → IsOwn at s (leaving holds s.session)
left_own at s true = inr (Left, refl, λ e some. absurd (none-some e some))
left_own at s false = inl refl

logout_adds : (at : CommandPlace) (s : SessionState) (s' : SessionState) (r : Reader)
    → Knows at.opened at.before s r → LogsOut at s → s' ≡ s
    → Adds at s Logout (LoggedOut ∷ []) s' r
logout_adds at s s' r knows out is =
    let place = at.before ++ out.others in
    let there = knows_after at.opened at.before place s r (out.others, out.are_others, refl) knows in
    record {
      own = leaving out.holds s.session;
      next = r;
      of_session = ap (λ (n : SessionState). n.session) is;
      came = left_came s.session at.before out.others at.after out.holds out.are_others out.after;
      is_own = left_own at s out.holds;
      claimed = λ more. ap (λ (xs : List Claim). xs ++ claims_from r more)
          (leaving_is s.session out.holds r.locked
          (λ holds. let some = out.exactly.0 holds in
          (some.0, there.locked some.0 ∙ some.1))
          (λ oid has_it. out.exactly.1 (oid, sym (there.locked oid) ∙ has_it)));
      knows = λ no. absurd (true≢false no);
    }

-- ---- any command

one_adds : (at : CommandPlace) (s : SessionState) (c : Command) (lines : List Line) (line : Line)
    (s' : SessionState) (r : Reader) → lines ≡ line ∷ [] → Adds at s c (line ∷ []) s' r
    → Adds at s c lines s' r
one_adds at s c lines line s' r one adds =
    subst (λ (ls : List Line). Adds at s c ls s' r) (sym one) adds

-- what the replies to any command add
pub command_adds : (at : CommandPlace) (s : SessionState) (c : Command) (lines : List Line)
    (s' : SessionState) (r : Reader) → Knows at.opened at.before s r → CommandSays at s c lines s'
    → Adds at s c lines s' r
command_adds at s (Chunk prints text) lines s' r knows says =
    said_adds (run_chunk prints text) at s (Chunk prints text) lines s' r knows says.0 says.1
command_adds at s (Method class_side class text) lines s' r knows says =
    said_adds (install_method class_side class text) at s (Method class_side class text) lines s' r
    knows says.0 says.1
command_adds at s Commit lines s' r knows says =
    one_adds at s Commit lines says.0 s' r says.1
    (commit_adds at s Commit says.0 s' r knows says.2)
command_adds at s Abort lines s' r knows says =
    one_adds at s Abort lines says.0 s' r says.1
    (abort_adds at s Abort says.0 s' r knows says.2)
command_adds at s Logout lines s' r knows says =
    one_adds at s Logout lines says.0 s' r says.1
    (subst (λ (line : Line). Adds at s Logout (line ∷ []) s' r) (sym says.2.0)
    (logout_adds at s s' r knows says.2.1 says.2.2))
command_adds at s (Lock write name) lines s' r knows says =
    let reply = says.2 in
    one_adds at s (Lock write name) lines says.0 s' r says.1
    (target_adds at s (Lock write name) s' r knows reply.stays (LockOutcome at s (kind_asked write))
    (lock_adds at s (Lock write name) s' r knows reply.stays (kind_asked write))
    reply.target says.0
    (target_is_quiet (lock_target (kind_asked write) name) at s reply.target
    (quiet_lock (kind_asked write) name) reply.is_target)
    reply.reply)
command_adds at s (Unlock name) lines s' r knows says =
    let reply = says.2 in
    one_adds at s (Unlock name) lines says.0 s' r says.1
    (target_adds at s (Unlock name) s' r knows reply.stays (UnlockOutcome at s)
    (unlock_adds at s (Unlock name) s' r knows reply.stays)
    reply.target says.0
    (target_is_quiet (unlock_target name) at s reply.target (quiet_unlock name) reply.is_target)
    reply.reply)
command_adds at s Store lines s' r knows says =
    one_adds at s Store lines says.0 s' r says.1
    (check_adds at s Store says.0 s' r knows says.2)
command_adds at s (SetMode full) lines s' r knows says =
    one_adds at s (SetMode full) lines says.0 s' r says.1
    (mode_adds at s (SetMode full) full says.0 s' r knows says.2)

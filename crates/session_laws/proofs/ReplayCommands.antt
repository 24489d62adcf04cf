-- What is said to a command is what its replay gives, where memory is never short and the disk
-- doesn't fail within it.
use Rattle.std.proofs.Common.{◌≡◌, ◌≢◌, inl, inr, ◌∙◌, refl, sym, ap, ap₂, subst, ℕ, ◌+◌, ◌==◌, Bool, true, false, true≢false, Option, Some, None, List, [], ◌∷◌, ◌++◌, length, drop, append-nil, append_assoc, eq-eqb, drop_at}
use Rattle.std.specs.Option.{option_map}
use Rattle.std.proofs.lemmas.Bool.{cond-true, cond-false}
use Rattle.gem_meaning.specs.gem_value.declared.conflict.Conflict.{Conflict}
use Rattle.gem_meaning.specs.gem_world.World.{Setting, World}
use Rattle.gem_meaning.specs.gem_language.Commands.{Command as ObjectCommand, run_chunk, install_method}
use Rattle.gem_meaning.specs.lock_table.LockKind.{kind_granted}
use Rattle.gem_meaning.specs.lock_table.Locks.{kind_held}
use Rattle.gem_meaning.specs.lock_table.declared.lock.LockKind.{LockKind}
use Rattle.gem_meaning.specs.gem_replies.declared.reply.Line.{Line}
use Rattle.gem_meaning.specs.gem_replies.declared.reply.Line.TheVariants.{NoMemory, Spoiled, Halted, Unchanged, Refused, LogFull, DiskFault, Committed, Aborted, Denied, Locked, NotHeld, Unlocked, ExtentFull, Checkpoint, Logout as LoggedOut}
use Rattle.gem_meaning.specs.shell_words.declared.script.Command.{Command}
use Rattle.gem_meaning.specs.shell_words.declared.script.Command.TheVariants.{Chunk, Method, Commit, Abort, Logout, Lock, Unlock, Checkpoint as Store, Mode as SetMode}
use Rattle.gem_meaning.specs.declared.event.What.{What}
use Rattle.gem_meaning.specs.declared.event.What.TheVariants.{Placed, Held, Dropped, Checked}
use Rattle.gem_meaning.specs.Events.{Event, after_events, events_of, halts_in, OthersCame, IsRunning, HasHaltedAt}
use Rattle.gem_meaning.specs.After.{log_after, pages_after}
use Rattle.gem_meaning.specs.State.{SessionState, CommandPlace, next_transaction, entry_to, record_to}
use Rattle.gem_meaning.specs.Runs.{setting_of, world_so_far, ObjectSays}
use Rattle.gem_meaning.specs.Commits.{CommitReply, AbortReply, HasChanged, conflicts_found, size_found}
use Rattle.gem_meaning.specs.Checkpoints.{CheckReply}
use Rattle.gem_meaning.specs.Locks.{Target, replies as by_itself, asks, lock_target, unlock_target, IsTarget, so_far, spoiled as of_spoiled, is_clean, LockOutcome, UnlockOutcome, TargetReply, kind_asked}
use Rattle.gem_meaning.specs.Session.{CommandSays}
use Rattle.history_laws.proofs.Turns.{not_taken}
use Rattle.session_laws.proofs.Replay.{number_after, then_at, CommandReplay, replay_plain, replay_next, before_own, by_others, by_own, replay_run, nothing_in, nothing_done, unless_halted, replay_by, replay_unplaced, replay_placed, replay_commit, replay_unmade, replay_made, replay_check, replay_denied, replay_ungranted, replay_granted, replay_lock, replay_unlock, replay_target, replay_command}

-- What came of a command is this, and the session has had memory.
pub record IsCommandReplay (lines : List Line) (next : SessionState) (r : CommandReplay)
    : Type 0 where
  pub lines_are : lines ≡ r.lines
  pub next_is : next ≡ r.next
  pub unspoiled : next.spoiled ≡ false

plain_is : (s : SessionState) (reply line : Line) (next : SessionState) → s.spoiled ≡ false
    → line ≡ reply → next ≡ s → IsCommandReplay (line ∷ []) next (replay_plain reply s)
plain_is s reply line next clean is stays = record {
  lines_are = ap (λ (l : Line). l ∷ []) is;
  next_is = stays;
  unspoiled = ap (λ (n : SessionState). n.spoiled) stays ∙ clean;
}

next_is : (at : CommandPlace) (s : SessionState) (reply line : Line) (next : SessionState)
    (view : ℕ) → line ≡ reply → view ≡ (then_at at).number → next ≡ next_transaction s view at.number
    → IsCommandReplay (line ∷ []) next (replay_next reply at s)
next_is at s reply line next view is stands begins = record {
  lines_are = ap (λ (l : Line). l ∷ []) is;
  next_is = begins ∙ ap (λ (v : ℕ). next_transaction s v at.number) stands;
  unspoiled = ap (λ (n : SessionState). n.spoiled) begins;
}

-- ---- the session's own event

no_own : (session : ℕ) (es : List Event) → events_of session es ≡ [] → before_own session es ≡ None
no_own session [] none = refl
no_own session (e ∷ es) none =
    let rest = option_map (λ (others : List Event). e ∷ others) in
    let apart = not_taken (e.0 == session) e (events_of session es) none in
    cond-false (e.0 == session) (Some []) (rest (before_own session es)) apart.0
    ∙ ap rest (no_own session es apart.1)

first_own : (session : ℕ) (others more : List Event) (what : What) → events_of session others ≡ []
    → before_own session (others ++ (session, what) ∷ more) ≡ Some others
first_own session [] more what none =
    cond-true (session == session) (Some [])
    (option_map (λ (es : List Event). (session, what) ∷ es) (before_own session more))
    (eq-eqb session session refl)
first_own session (e ∷ es) more what none =
    let rest = option_map (λ (others : List Event). e ∷ others) in
    let apart = not_taken (e.0 == session) e (events_of session es) none in
    cond-false (e.0 == session) (Some []) (rest (before_own session (es ++ (session, what) ∷ more)))
    apart.0
    ∙ ap rest (first_own session es more what apart.1)

module _ (at : CommandPlace) (s : SessionState) (lines : List Line) (next : SessionState)
    (without : CommandReplay) (own : List Event → CommandReplay) where
  by_these : (others : Option (List Event)) → (came : List Event) → at.after ≡ at.before ++ came
      → before_own s.session came ≡ others
      → IsCommandReplay lines next (by_others others at.before without own)
      → IsCommandReplay lines next (by_own at s without own)
  by_these others came all is comes =
      subst (λ (o : Option (List Event)). IsCommandReplay lines next
      (by_others o at.before without own))
      (sym (ap (before_own s.session) (ap (drop (length at.before)) all
      ∙ drop_at at.before came (length at.before) refl) ∙ is)) comes

  -- only others' events came
  without_own : OthersCame s.session at.before at.after → IsCommandReplay lines next without
      → IsCommandReplay lines next (by_own at s without own)
  without_own came =
      by_these None came.0 came.2 (no_own s.session came.0 came.1)

  -- the session's own event came, after others'
  with_own : (others more : List Event) (what : What) → events_of s.session others ≡ []
      → at.after ≡ ((at.before ++ others) ++ (s.session, what) ∷ []) ++ more
      → IsCommandReplay lines next (own (at.before ++ others))
      → IsCommandReplay lines next (by_own at s without own)
  with_own others more what none all =
      by_these (Some others) (others ++ (s.session, what) ∷ more)
      (all ∙ append_assoc (at.before ++ others) ((s.session, what) ∷ []) more
      ∙ append_assoc at.before others ((s.session, what) ∷ more))
      (first_own s.session others more what none)

  -- the same, where it came last
  own_last : (others : List Event) (what : What) → events_of s.session others ≡ []
      → at.after ≡ (at.before ++ others) ++ (s.session, what) ∷ []
      → IsCommandReplay lines next (own (at.before ++ others))
      → IsCommandReplay lines next (by_own at s without own)
  own_last others what none all =
      with_own others [] what none
      (all ∙ sym (append-nil ((at.before ++ others) ++ (s.session, what) ∷ [])))

-- ---- chunks and methods

run_is : (command : ObjectCommand) (at : CommandPlace) (s : SessionState) (lines : List Line)
    (next : SessionState) → s.spoiled ≡ false → lines ≢ NoMemory ∷ []
    → ObjectSays command at s lines next → IsCommandReplay lines next (replay_run at s command)
run_is command at s lines next clean had (inl short) = absurd (had short.lines_are)
run_is command at s lines next clean had (inr (inl meant)) = record {
  lines_are = meant.lines_are;
  next_is = meant.state;
  unspoiled = ap (λ (n : SessionState). n.spoiled) meant.state ∙ clean;
}
run_is command at s lines next clean had (inr (inr meant)) =
    absurd (true≢false (sym meant.spoiled ∙ clean))

-- ---- commits, aborts and checkpoints

abort_is : (at : CommandPlace) (s : SessionState) (line : Line) (next : SessionState)
    → AbortReply at s line next
    → IsCommandReplay (line ∷ []) next (replay_next (Aborted (then_at at).number) at s)
abort_is at s (Aborted view) next says =
    next_is at s (Aborted (then_at at).number) (Aborted view) next view
    (ap Aborted says.0.1) says.0.1 says.1
abort_is at s _ next says = absurd says

nothing_is : {A B : Type 0} (xs : List A) (ys : List B) → xs ≡ [] → ys ≡ []
    → nothing_in xs ys ≡ true
nothing_is {A} {B} xs ys first second =
    subst (λ (zs : List B). nothing_in xs zs ≡ true) (sym second)
    (subst (λ (zs : List A). nothing_in {A = A} {B = B} zs [] ≡ true) (sym first) refl)

something_is : {A B : Type 0} (xs : List A) (ys : List B) → (xs ≡ [] → ys ≡ [] → ⊥)
    → nothing_in xs ys ≡ false
something_is [] [] some = absurd (some refl refl)
something_is [] (y ∷ ys) some = refl
something_is (x ∷ xs) ys some = refl

module _ (at : CommandPlace) (s : SessionState) (line : Line) (next : SessionState) where
  -- where the disk hasn't failed what comes is what comes then
  running_is : (r : CommandReplay) → IsRunning at.after → IsCommandReplay (line ∷ []) next r
      → IsCommandReplay (line ∷ []) next (unless_halted (halts_in at.after) s r)
  running_is r running =
      subst (λ (halts : List ℕ). IsCommandReplay (line ∷ []) next (unless_halted halts s r))
      (sym running)

  -- where it has, that is replied
  halted_is : (number : ℕ) (r : CommandReplay) → s.spoiled ≡ false → HasHaltedAt at.after number
      → line ≡ Halted number → next ≡ s
      → IsCommandReplay (line ∷ []) next (unless_halted (halts_in at.after) s r)
  halted_is number r clean halted is stays =
      subst (λ (halts : List ℕ). IsCommandReplay (line ∷ []) next (unless_halted halts s r))
      (sym halted) (plain_is s (Halted number) line next clean is stays)

-- the conflicts, after all events that came
abbrev found_at : CommandPlace → SessionState → List Conflict
found_at at s = conflicts_found at.opened at.after at.number s

-- what comes of a commit that isn't placed
abbrev IsReplayBy : CommandPlace → SessionState → Line → SessionState → Bool → List Conflict
    → Type 0
IsReplayBy at s line next nothing found =
    IsCommandReplay (line ∷ []) next (replay_by nothing found at s)

unplaced_is : (at : CommandPlace) (s : SessionState) (line : Line) (next : SessionState)
    (nothing : Bool) (these : List Conflict) → OthersCame s.session at.before at.after
    → IsRunning at.after → nothing_done at s ≡ nothing → found_at at s ≡ these
    → IsReplayBy at s line next nothing these
    → IsCommandReplay (line ∷ []) next (replay_commit at s)
unplaced_is at s line next nothing these came running done is comes =
    without_own at s (line ∷ []) next (replay_unplaced at s) (replay_placed at s) came
    (running_is at s line next (replay_by (nothing_done at s) (found_at at s) at s) running
    (subst (λ (b : Bool). IsReplayBy at s line next b (found_at at s)) (sym done)
    (subst (IsReplayBy at s line next nothing) (sym is) comes)))

-- something was changed
changed_is : (at : CommandPlace) (s : SessionState) → HasChanged at.opened at.after at.number s
    → nothing_done at s ≡ false
changed_is at s changed =
    something_is (record_to at.opened at.after at.number s).written
    (record_to at.opened at.after at.number s).updates
    (λ unwritten not_updated.
    changed (record { unwritten = unwritten; not_updated = not_updated }))

-- there were conflicts
refused_is : (at : CommandPlace) (s : SessionState) (found : List Conflict) (next : SessionState)
    → s.spoiled ≡ false → found ≢ [] → next ≡ s → (these : List Conflict) → found ≡ these
    → IsReplayBy at s (Refused found) next false these
refused_is at s found next clean some stays [] is = absurd (some is)
refused_is at s found next clean some stays (x ∷ xs) is =
    plain_is s (Refused (x ∷ xs)) (Refused found) next clean
    (ap (λ (conflicts : List Conflict). Refused conflicts) is) stays

-- Where the disk fails within a commit that has nothing to commit, `unchanged` and `halted` both fit:
-- so it doesn't here.
commit_is : (at : CommandPlace) (s : SessionState) (line : Line) (next : SessionState)
    → halts_in at.before ≡ halts_in at.after → s.spoiled ≡ false → line ≢ NoMemory
    → line ≢ DiskFault → CommitReply at s line next
    → IsCommandReplay (line ∷ []) next (replay_commit at s)
commit_is at s NoMemory next halts clean had worked says = absurd (had refl)
commit_is at s DiskFault next halts clean had worked says = absurd (worked refl)
commit_is at s Spoiled next halts clean had worked says = absurd (true≢false (sym says.0 ∙ clean))
commit_is at s (Halted number) next halts clean had worked says =
    without_own at s (Halted number ∷ []) next (replay_unplaced at s) (replay_placed at s) says.1
    (halted_is at s (Halted number) next number
    (replay_by (nothing_done at s) (found_at at s) at s) clean says.2 refl says.3)
commit_is at s (Unchanged number view) next halts clean had worked says =
    unplaced_is at s (Unchanged number view) next true (found_at at s) says.2.0 (sym halts ∙ says.5)
    (nothing_is (record_to at.opened at.after at.number s).written
    (record_to at.opened at.after at.number s).updates says.3.unwritten says.3.not_updated) refl
    (next_is at s (Unchanged s.view (then_at at).number) (Unchanged number view) next view
    (ap₂ (λ (n v : ℕ). Unchanged n v) says.1 says.2.1) says.2.1 says.4)
commit_is at s (Refused found) next halts clean had worked says =
    unplaced_is at s (Refused found) next false (found_at at s) says.1 says.6
    (changed_is at s says.2) refl
    (refused_is at s found next clean says.3 says.5 (found_at at s) says.4)
commit_is at s (LogFull length size) next halts clean had worked says =
    let full = says.1 in
    unplaced_is at s (LogFull length size) next false [] full.came full.clear.running
    (changed_is at s full.clear.changed) full.clear.no_conflict
    (plain_is s (LogFull (log_after at.opened at.after) (size_found at.opened at.after at.number s))
    (LogFull length size) next clean
    (ap₂ (λ (l k : ℕ). LogFull l k) full.length_is full.size_is) says.2)
commit_is at s (Committed number view) next halts clean had worked says =
    let placed = says.1 in
    let sees = placed.sees in
    let before : List Event = at.before ++ placed.others in
    with_own at s (Committed number view ∷ []) next (replay_unplaced at s) (replay_placed at s)
    placed.others sees.0.0 (Placed (entry_to at.number s)) placed.are_others sees.0.2
    (next_is at s (Committed (number_after at.opened before + 1) (then_at at).number)
    (Committed number view) next view
    (ap₂ (λ (n v : ℕ). Committed n v) placed.number_is sees.1) sees.1 says.2)
commit_is at s _ next halts clean had worked says = absurd says

check_is : (at : CommandPlace) (s : SessionState) (line : Line) (next : SessionState)
    → s.spoiled ≡ false → line ≢ NoMemory → line ≢ DiskFault → CheckReply at s line next
    → IsCommandReplay (line ∷ []) next (replay_check at s)
check_is at s NoMemory next clean had worked says = absurd (had refl)
check_is at s DiskFault next clean had worked says = absurd (worked refl)
check_is at s (Halted number) next clean had worked says =
    without_own at s (Halted number ∷ []) next (replay_unmade at s) (replay_made at s) says.0
    (halted_is at s (Halted number) next number
    (replay_plain (ExtentFull (pages_after at.opened at.after)) s) clean says.1 refl says.2)
check_is at s (ExtentFull pages) next clean had worked says =
    let full = says.0 in
    let reply : Line = ExtentFull (pages_after at.opened at.after) in
    without_own at s (ExtentFull pages ∷ []) next (replay_unmade at s) (replay_made at s) full.came
    (running_is at s (ExtentFull pages) next (replay_plain reply s) full.running
    (plain_is s reply (ExtentFull pages) next clean (ap ExtentFull full.pages_are) says.1))
check_is at s (Checkpoint number) next clean had worked says =
    let ended = says.0 in
    own_last at s (Checkpoint number ∷ []) next (replay_unmade at s) (replay_made at s)
    ended.others Checked ended.are_others ended.after
    (plain_is s (Checkpoint (number_after at.opened (at.before ++ ended.others)))
    (Checkpoint number) next clean (ap Checkpoint ended.number_is) says.1)
check_is at s _ next clean had worked says = absurd says

-- ---- locks

-- where nothing is spoiled the target is what the transaction gives
target_is : (give : Setting → World → Target) (at : CommandPlace) (s : SessionState)
    (target : Target) → s.spoiled ≡ false → IsTarget give at s target
    → target ≡ give (setting_of at.opened at.before s) (world_so_far at s)
target_is give at s target clean (so_far unspoiled) = refl
target_is give at s target clean (of_spoiled world is) = absurd (true≢false (sym is ∙ clean))

module _ (at : CommandPlace) (s next : SessionState) (clean : s.spoiled ≡ false)
    (stays : next ≡ s) where
  lock_is : (asked : LockKind) (oid : ℕ) (line : Line) → line ≢ NoMemory
      → LockOutcome at s asked oid line
      → IsCommandReplay (line ∷ []) next (replay_lock at s asked oid)
  lock_is asked oid (Locked kind name unchanged) had answer =
      let granted = answer.1 in
      let stands = after_events at.opened (at.before ++ granted.others) in
      let then = kind_granted (kind_held stands.locks s.session oid) asked in
      own_last at s (Locked kind name unchanged ∷ []) next (replay_ungranted at s asked oid)
      (replay_granted at s asked oid) granted.others (Held oid kind) granted.are_others granted.after
      (plain_is s (Locked then oid (is_clean stands s.view oid)) (Locked kind name unchanged) next
      clean
      (ap₂ (λ (k : LockKind) (n : ℕ). Locked k n unchanged) granted.kind_is answer.0
      ∙ ap (λ (b : Bool). Locked then oid b) granted.clean_is) stays)
  lock_is asked oid (Denied kind name holder held) had answer =
      without_own at s (Denied kind name holder held ∷ []) next (replay_ungranted at s asked oid)
      (replay_granted at s asked oid) answer.2.came
      (subst (λ (o : Option (ℕ × LockKind)). IsCommandReplay (Denied kind name holder held ∷ []) next
      (replay_denied o s asked oid)) (sym answer.2.in_the_way)
      (plain_is s (Denied asked oid holder held) (Denied kind name holder held) next clean
      (ap₂ (λ (k : LockKind) (n : ℕ). Denied k n holder held) answer.0 answer.1) stays))
  lock_is asked oid NoMemory had answer = absurd (had refl)
  lock_is asked oid _ had answer = absurd answer

  unlock_is : (oid : ℕ) (line : Line) → line ≢ NoMemory → UnlockOutcome at s oid line
      → IsCommandReplay (line ∷ []) next (replay_unlock at s oid)
  unlock_is oid (Unlocked name) had answer =
      let dropped = answer.1 in
      own_last at s (Unlocked name ∷ []) next (replay_plain (NotHeld oid) s)
      (λ (before : List Event). replay_plain (Unlocked oid) s) dropped.others (Dropped oid)
      dropped.are_others dropped.after
      (plain_is s (Unlocked oid) (Unlocked name) next clean (ap Unlocked answer.0) stays)
  unlock_is oid (NotHeld name) had answer =
      without_own at s (NotHeld name ∷ []) next (replay_plain (NotHeld oid) s)
      (λ (before : List Event). replay_plain (Unlocked oid) s) answer.1
      (plain_is s (NotHeld oid) (NotHeld name) next clean (ap NotHeld answer.0) stays)
  unlock_is oid _ had answer = absurd answer

  -- what comes of a target
  asked_is : (Answer : (oid : ℕ) → Line → Type 0) (asked : ℕ → CommandReplay)
      → ((oid : ℕ) (line : Line) → line ≢ NoMemory → Answer oid line
      → IsCommandReplay (line ∷ []) next (asked oid))
      → (target : Target) (line : Line) → line ≢ NoMemory → TargetReply at Answer target line
      → IsCommandReplay (line ∷ []) next (replay_target target asked s)
  asked_is Answer asked answered (by_itself reply) line had says =
      plain_is s reply line next clean says.0 stays
  asked_is Answer asked answered (asks oid) line had says = answered oid line had says

-- ---- any command

-- the replies aren't that there was no memory, nor that the disk failed
abbrev pub WereServed : List Line → Type 0
WereServed lines = (lines ≢ NoMemory ∷ []) × (lines ≢ DiskFault ∷ [])

-- the one reply isn't this one, where the replies aren't
one_other : (this : Line) (lines : List Line) (line : Line) → lines ≡ line ∷ [] → lines ≢ this ∷ []
    → line ≢ this
one_other this lines line one other is = other (one ∙ ap (λ (l : Line). l ∷ []) is)

-- what came of a command with one line, by the list of its lines
by_line : (lines : List Line) (line : Line) (next : SessionState) (r : CommandReplay)
    → lines ≡ line ∷ [] → IsCommandReplay (line ∷ []) next r → IsCommandReplay lines next r
by_line lines line next r one =
    subst (λ (ls : List Line). IsCommandReplay ls next r) (sym one)

pub command_is : (at : CommandPlace) (s : SessionState) (c : Command) (lines : List Line)
    (next : SessionState) → halts_in at.before ≡ halts_in at.after
    → s.spoiled ≡ false → WereServed lines → CommandSays at s c lines next
    → IsCommandReplay lines next (replay_command at s c)
command_is at s (Chunk prints text) lines next halts clean had says =
    run_is (run_chunk prints text) at s lines next clean had.0 says.1
command_is at s (Method class_side class text) lines next halts clean had says =
    run_is (install_method class_side class text) at s lines next clean had.0 says.1
command_is at s Commit lines next halts clean had says =
    by_line lines says.0 next (replay_commit at s) says.1
    (commit_is at s says.0 next halts clean (one_other NoMemory lines says.0 says.1 had.0)
    (one_other DiskFault lines says.0 says.1 had.1) says.2)
command_is at s Abort lines next halts clean had says =
    by_line lines says.0 next (replay_command at s Abort) says.1 (abort_is at s says.0 next says.2)
command_is at s Logout lines next halts clean had says =
    by_line lines says.0 next (replay_command at s Logout) says.1
    (plain_is s LoggedOut says.0 next clean says.2.0 says.2.2)
command_is at s (Lock write name) lines next halts clean had says =
    let reply = says.2 in
    let asked = kind_asked write in
    by_line lines says.0 next (replay_command at s (Lock write name)) says.1
    (subst (λ (target : Target). IsCommandReplay (says.0 ∷ []) next
    (replay_target target (replay_lock at s asked) s))
    (target_is (lock_target asked name) at s reply.target clean reply.is_target)
    (asked_is at s next clean reply.stays (LockOutcome at s asked) (replay_lock at s asked)
    (lock_is at s next clean reply.stays asked) reply.target says.0
    (one_other NoMemory lines says.0 says.1 had.0) reply.reply))
command_is at s (Unlock name) lines next halts clean had says =
    let reply = says.2 in
    by_line lines says.0 next (replay_command at s (Unlock name)) says.1
    (subst (λ (target : Target). IsCommandReplay (says.0 ∷ []) next
    (replay_target target (replay_unlock at s) s))
    (target_is (unlock_target name) at s reply.target clean reply.is_target)
    (asked_is at s next clean reply.stays (UnlockOutcome at s) (replay_unlock at s)
    (unlock_is at s next clean reply.stays) reply.target says.0
    (one_other NoMemory lines says.0 says.1 had.0) reply.reply))
command_is at s Store lines next halts clean had says =
    by_line lines says.0 next (replay_check at s) says.1
    (check_is at s says.0 next clean (one_other NoMemory lines says.0 says.1 had.0)
    (one_other DiskFault lines says.0 says.1 had.1) says.2)
command_is at s (SetMode full) lines next halts clean had says =
    by_line lines says.0 next (replay_command at s (SetMode full)) says.1 (record {
      lines_are = ap (λ (l : Line). l ∷ []) says.2.0;
      next_is = says.2.2;
      unspoiled = ap (λ (n : SessionState). n.spoiled) says.2.2 ∙ clean;
    })

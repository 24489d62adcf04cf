-- Where a session holds locks from a moment on at which its view was up to date, no change and no
-- lock stands against its commit.
use Rattle.std.proofs.Common.{◌≡◌, ℕ, ◌+◌, ◌≤◌, ◌⊎◌, inl, inr, List, [], ◌∷◌, ◌++◌, Contains, Option, Some, None, IsSome, refl, sym, ap, subst, ◌∙◌, arith, append_assoc, append-nil}
use Rattle.std.proofs.lemmas.Bool.{false≢true, cases_eq}
use Rattle.gem_meaning.specs.gem_object.declared.body.Body.{Body}
use Rattle.gem_meaning.specs.gem_object.declared.body.Body.TheVariants as body
use Rattle.gem_meaning.specs.gem_record.declared.record.TxnRecord.{TxnRecord}
use Rattle.gem_meaning.specs.gem_record.declared.record.Entry.{Entry}
use Rattle.gem_meaning.specs.gem_update.Update.{merge_kind}
use Rattle.gem_meaning.specs.gem_value.Conflict.{kind_number}
use Rattle.gem_meaning.specs.gem_value.declared.conflict.Conflict.{Conflict}
use Rattle.gem_meaning.specs.gem_value.declared.conflict.ConflictKind.{ConflictKind}
use Rattle.gem_meaning.specs.lock_table.Locks.{kind_held, IsLowestHolder}
use Rattle.gem_meaning.specs.lock_table.LockKind.{is_write}
use Rattle.gem_meaning.specs.lock_table.Granted.{IsExclusive}
use Rattle.gem_meaning.specs.lock_table.declared.lock.LockKind.{LockKind}
use Rattle.gem_meaning.specs.lock_table.declared.lock.LockKind.TheVariants.{Read, Write}
use Rattle.gem_meaning.specs.commit_check.Conflicts.{Place, changed_of, last_change}
use Rattle.gem_meaning.specs.commit_check.Table.{IsTouched, IsWritten, IsUpdated, Stands, write_write, read_write, write_read_lock, write_write_lock, merge_refused}
use Rattle.gem_meaning.proofs.commit_check_lemmas.Stood.{listed_stands}
use Rattle.gem_meaning.specs.declared.event.What.TheVariants.{Placed, Held, Dropped, Left, Checked, Halted}
use Rattle.gem_meaning.specs.Opened.{Opened}
use Rattle.gem_meaning.specs.Events.{Event, Told, Standing, after_event, after_events, standing, conflicts_at}
use Rattle.gem_meaning.specs.Serial.{IsPlaced, IsSerialEvent, IsSerialFrom, IsSerial, CanServe}
use Rattle.history_laws.specs.Clean.{HoldsThrough, OwnIsUpTo, OwnAreUpTo, IsHeldClean}
use Rattle.history_laws.proofs.Views.{after_one_more}
use Rattle.history_laws.proofs.Unchanged.{IsPlacedAt, after_placed}
use Rattle.history_laws.proofs.Commits.{CommitsKeep}
use Rattle.history_laws.proofs.Sound.{AllSound}
use Rattle.history_laws.proofs.Histories.{sound_event, all_sound}
use Rattle.history_laws.proofs.OneMore.{serial_front, serial_back, serial_push, locks_exclusive}
use Rattle.history_laws.proofs.Locked.{LockedAreThere, locked_are_there, not_changed}

-- the object's last change is at most the view
abbrev pub IsCleanAt : Standing → (view oid : ℕ) → Type 0
IsCleanAt s view oid = last_change s.image oid ≤ view

clean_placed : (o : Opened) (before : List Event) (author : ℕ) (e : Entry) (session view oid : ℕ)
    → CanServe o → AllSound o (after_events o before) → IsPlaced o before author e
    → LockedAreThere (after_events o before)
    → IsSome (kind_held (after_events o before).locks session oid)
    → (author ≡ session → (after_events o before).number + 1 ≤ view)
    → IsCleanAt (after_events o before) view oid
    → IsPlacedAt o (after_events o before) e oid
    → IsCleanAt (after_event o (after_events o before) (author, Placed e)) view oid
clean_placed o before author e session view oid serves all placed there held own clean (inl same) =
    subst (λ k. k ≤ view) (sym (ap changed_of same)) clean
clean_placed o before author e session view oid serves all placed there held own clean (inr found) =
    elim (cases_eq session author) [
      | inl is ↦
          let changed = found.2 in
          let last : last_change (after_event o (after_events o before) (author, Placed e)).image oid
          ≡ found.0.changed = ap changed_of found.1 in
          let most = own (sym is) in
          omega (arith, changed, last, most)
      | inr apart ↦ absurd (not_changed o before author e serves placed all session oid apart held
          (there session oid held) found.3)
    ]

clean_event : (o : Opened) (before : List Event) (event : Event) (session view oid : ℕ) → CanServe o
    → AllSound o (after_events o before) → IsSerialEvent o before event
    → LockedAreThere (after_events o before)
    → IsSome (kind_held (after_events o before).locks session oid)
    → OwnIsUpTo (after_events o before) event session view
    → IsCleanAt (after_events o before) view oid
    → IsCleanAt (after_event o (after_events o before) event) view oid
clean_event o before (author, Placed e) session view oid serves all serial there held own clean =
    clean_placed o before author e session view oid serves all serial there held own clean
    (after_placed o (after_events o before) e oid)
clean_event o before (author, Held object kind) session view oid serves all serial there held own clean = clean
clean_event o before (author, Dropped object) session view oid serves all serial there held own clean = clean
clean_event o before (author, Left) session view oid serves all serial there held own clean = clean
clean_event o before (author, Checked) session view oid serves all serial there held own clean = clean
clean_event o before (author, Halted number entry) session view oid serves all serial there held own clean = clean

-- the object is held where the events begin
held_first : (o : Opened) (s : Standing) (events : List Event) (session oid : ℕ)
    → HoldsThrough o s events session oid → IsSome (kind_held s.locks session oid)
held_first o s [] session oid held = held
held_first o s (event ∷ events) session oid held = held.0

-- A lock that is held through events keeps the object clean.
clean_from : (o : Opened) (before more : List Event) (session view oid : ℕ) → CanServe o → CommitsKeep
    → IsSerialFrom o [] before → IsSerialFrom o before more → AllSound o (after_events o before)
    → HoldsThrough o (after_events o before) more session oid
    → OwnAreUpTo o (after_events o before) more session view
    → IsCleanAt (after_events o before) view oid
    → IsCleanAt (after_events o (before ++ more)) view oid
clean_from o before [] session view oid serves law front serial all held own clean =
    subst (λ es. IsCleanAt (after_events o es) view oid) (sym (append-nil before)) clean
clean_from o before (event ∷ more) session view oid serves law front serial all held own clean =
    let joined = append_assoc before (event ∷ []) more in
    let one = after_one_more o before event in
    let front_now = serial_push o before event front serial.0 in
    subst (λ es. IsCleanAt (after_events o es) view oid) joined
    (clean_from o (before ++ event ∷ []) more session view oid serves law front_now serial.1
    (subst (λ s. AllSound o s) (sym one) (sound_event o before event serves law serial.0 all))
    (subst (λ s. HoldsThrough o s more session oid) (sym one) held.1)
    (subst (λ s. OwnAreUpTo o s more session view) (sym one) own.1)
    (subst (λ s. IsCleanAt s view oid) (sym one)
    (clean_event o before event session view oid serves all serial.0
    (locked_are_there o before front) held.0 own.0 clean)))

-- ---- what stands then

module _ (t : Told) (law : CommitsKeep) (serves : CanServe t.opened) (serial : IsSerial t)
    (session view : ℕ) where
  pub still_clean : (oid : ℕ) → IsHeldClean t.opened t.events session view oid
      → IsCleanAt (standing t) view oid
  unfolding IsSerial
  still_clean oid held =
      let o = t.opened in
      let split = held.split in
      let front = serial_front o [] held.before held.more (subst (IsSerialFrom o []) split serial) in
      let back = serial_back o [] held.before held.more (subst (IsSerialFrom o []) split serial) in
      subst (λ es. IsCleanAt (after_events o es) view oid) (sym split)
      (clean_from o held.before held.more session view oid serves law front back
      (all_sound (record { opened = o; events = held.before }) law serves front)
      held.held held.own held.clean)

merge_kinds : (b : Body) (kind : ConflictKind) → merge_kind b ≡ Some kind → 5 ≤ kind_number kind
merge_kinds b kind is = by b (merge_kind b) refl is
  where
    least : Option ConflictKind → ℕ
    least None = 5
    least (Some k) = kind_number k

    each : (b : Body) → 5 ≤ least (merge_kind b)
    each (body.Plain _) = omega arith
    each (body.Bytes _) = omega arith
    each (body.Dict _) = omega arith
    each (body.Class _) = omega arith
    each (body.Segment _) = omega arith
    each (body.User _) = omega arith
    each (body.Counter _) = omega arith
    each (body.Bag _) = omega arith
    each (body.RcDict _) = omega arith
    each (body.Queue _) = omega arith

    by : (b : Body) (found : Option ConflictKind) → merge_kind b ≡ found → found ≡ Some kind → 5 ≤ kind_number kind
    by b found at given = subst (λ k. 5 ≤ least k) (at ∙ given) (each b)

module _ (place : Place) (done : TxnRecord) (exclusive : IsExclusive place.locks)
    (clean : (oid : ℕ) → IsTouched done oid ⊎ IsWritten done oid
    → last_change place.image oid ≤ done.view)
    (held : (oid : ℕ) → IsWritten done oid ⊎ IsUpdated done oid
    → kind_held place.locks done.session oid ≡ Some Write) where
  no_holder : (oid holder : ℕ) (kind : LockKind) → IsWritten done oid ⊎ IsUpdated done oid
      → IsLowestHolder place.locks done.session oid holder kind → ⊥
  no_holder oid holder kind changed lowest =
      let both = exclusive oid done.session holder Write kind (λ same. lowest.other (sym same))
      (held oid changed) lowest.holds in
      false≢true (sym (ap is_write both.0))

  pub of_merges : (c : Conflict) → Stands place done c → 5 ≤ kind_number c.kind
  of_merges c (write_write oid written since) =
      let old = clean oid (inr written) in let later = since.later in absurd (omega (arith, old, later))
  of_merges c (read_write oid full touched not_written since) =
      let old = clean oid (inl touched) in let later = since.later in absurd (omega (arith, old, later))
  of_merges c (write_read_lock oid holder changed lowest) =
      absurd (no_holder oid holder Read changed lowest)
  of_merges c (write_write_lock oid holder changed lowest) =
      absurd (no_holder oid holder Write changed lowest)
  of_merges c (merge_refused oid kind refused) = merge_kinds refused.place.body kind refused.class

pub clean_locks : (t : Told) (done : TxnRecord) → CommitsKeep → CanServe t.opened → IsSerial t
    → ((oid : ℕ) → IsTouched done oid ⊎ IsWritten done oid
    → IsHeldClean t.opened t.events done.session done.view oid)
    → ((oid : ℕ) → IsWritten done oid ⊎ IsUpdated done oid
    → kind_held (standing t).locks done.session oid ≡ Some Write)
    → (c : Conflict) → Contains (conflicts_at (standing t) done) c → 5 ≤ kind_number c.kind
clean_locks t done law serves serial clean held c listed =
    let place : Place = record { image = (standing t).image; locks = (standing t).locks } in
    of_merges place done (locks_exclusive t serial)
    (λ oid used. still_clean t law serves serial done.session done.view oid (clean oid used))
    held c (listed_stands place done c listed)

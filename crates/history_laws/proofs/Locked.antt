-- What locks keep others from: a commit changes no object that another session holds.
use Rattle.std.proofs.Common.{◌≡◌, ◌≢◌, ℕ, ◌⊎◌, inl, inr, ⊎_elim, List, [], ◌∷◌, ◌++◌, Option, Some, None, is_some, IsSome, refl, sym, ap, subst, ◌∙◌, append_assoc, append-nil}
use Rattle.std.specs.FinMap.{get, get-empty}
use Rattle.std.proofs.lemmas.Bool.{false≢true}
use Rattle.std.proofs.lemmas.Bool.Decides.{eqb_tells}
use Rattle.gem_meaning.specs.gem_image.Image.{with_objects}
use Rattle.gem_meaning.specs.gem_record.declared.record.TxnRecord.{TxnRecord}
use Rattle.gem_meaning.specs.gem_record.declared.record.Entry.{Entry}
use Rattle.gem_meaning.specs.lock_table.Locks.{LockSet, holding_cmp, holding, kind_held, after_held, after_dropped, after_left, denied_for}
use Rattle.gem_meaning.specs.lock_table.declared.lock.LockKind.{LockKind}
use Rattle.gem_meaning.specs.lock_table.declared.lock.LockKind.TheVariants.{Read, Write}
use Rattle.gem_meaning.proofs.lock_table_lemmas.Changes.{held_others, dropped_this, dropped_others, left_this, left_others}
use Rattle.gem_meaning.proofs.lock_table_lemmas.Denied.{free_from_none, lowest_is_value}
use Rattle.gem_meaning.specs.commit_check.Conflicts.{Place, conflicts_of}
use Rattle.gem_meaning.specs.commit_check.Table.{IsWritten, IsUpdated, write_read_lock, write_write_lock}
use Rattle.gem_meaning.specs.gem_record.Record.{record_of}
use Rattle.gem_meaning.specs.declared.event.What.TheVariants.{Placed, Held, Dropped, Left, Checked, Halted}
use Rattle.gem_meaning.specs.Opened.{Opened}
use Rattle.gem_meaning.specs.Events.{Event, Standing, record_at_place, effect_of, after_event, before_events, after_events}
use Rattle.gem_meaning.specs.Serial.{IsPlaced, IsSerialEvent, IsSerialFrom, CanServe}
use Rattle.history_laws.proofs.Views.{is_grown, after_one_more}
use Rattle.history_laws.proofs.Effects.{IsChangedBy, by_write, by_make, by_update, under_one}
use Rattle.history_laws.proofs.Unchanged.{IsPlacedAt, after_placed}
use Rattle.history_laws.proofs.Sound.{AllSound, made_is_new}
use Rattle.history_laws.proofs.Touched.{none_stands}
use Rattle.history_laws.proofs.Placed.{same_record}

-- ---- locked objects are there

-- every object on which a session holds a lock is there
abbrev pub LockedAreThere : Standing → Type 0
LockedAreThere s = (session oid : ℕ) → IsSome (kind_held s.locks session oid)
    → IsSome (get s.image oid)

-- nothing goes away
pub still_there : (o : Opened) (s : Standing) (e : Entry) (oid : ℕ) → IsSome (get s.image oid)
    → IsSome (get (with_objects s.image (effect_of o s e)) oid)
still_there o s e oid there = by (after_placed o s e oid)
  where
    by : IsPlacedAt o s e oid → IsSome (get (with_objects s.image (effect_of o s e)) oid)
    by (inl same) = ap is_some same ∙ there
    by (inr found) = ap is_some found.1

-- a lock that is held after a change of locks was held before, or is the one that was granted
held_before : (locks : LockSet) (session oid : ℕ) (kind : LockKind) (other object : ℕ)
    → IsSome (kind_held (after_held locks session oid kind) other object)
    → (object ≡ oid) ⊎ IsSome (kind_held locks other object)
held_before locks session oid kind other object some = elim (eqb_tells object oid) [
  | inl here ↦ inl here.1
  | inr elsewhere ↦ inr
      (sym (ap is_some (held_others locks session oid kind other object (λ _. elsewhere.1))) ∙ some)
]

dropped_before : (locks : LockSet) (session oid other object : ℕ)
    → IsSome (kind_held (after_dropped locks session oid) other object)
    → IsSome (kind_held locks other object)
dropped_before locks session oid other object some = elim (eqb_tells object oid) [
  | inr elsewhere ↦
      sym (ap is_some (dropped_others locks session oid other object (λ _. elsewhere.1))) ∙ some
  | inl here ↦ elim (eqb_tells other session) [
    | inr apart ↦
        sym (ap is_some (dropped_others locks session oid other object (λ is. absurd (apart.1 is)))) ∙ some
    | inl this ↦ absurd (false≢true (sym (ap is_some (dropped_this locks session oid))
        ∙ subst (λ s. IsSome (kind_held (after_dropped locks session oid) s oid)) this.1
        (subst (λ o. IsSome (kind_held (after_dropped locks session oid) other o)) here.1 some)))
  ]
]

left_before : (locks : LockSet) (session other object : ℕ)
    → IsSome (kind_held (after_left locks session) other object) → IsSome (kind_held locks other object)
left_before locks session other object some = elim (eqb_tells other session) [
  | inr apart ↦
      sym (ap is_some (left_others locks session object other object apart.1)) ∙ some
  | inl this ↦ absurd (false≢true (sym (ap is_some (left_this locks session object))
      ∙ subst (λ s. IsSome (kind_held (after_left locks session) s object)) this.1 some))
]

there_event : (o : Opened) (before : List Event) (event : Event) → IsSerialEvent o before event
    → LockedAreThere (after_events o before)
    → LockedAreThere (after_event o (after_events o before) event)
there_event o before (author, Placed e) serial there session oid held =
    still_there o (after_events o before) e oid (there session oid held)
there_event o before (author, Held object kind) serial there session oid held = ⊎_elim
    (λ same. subst (λ at. IsSome (get (after_events o before).image at)) (sym same) serial.1)
    (λ old. there session oid old)
    (held_before (after_events o before).locks author object kind session oid held)
there_event o before (author, Dropped object) serial there session oid held =
    there session oid (dropped_before (after_events o before).locks author object session oid held)
there_event o before (author, Left) serial there session oid held =
    there session oid (left_before (after_events o before).locks author session oid held)
there_event o before (author, Checked) serial there session oid held = there session oid held
there_event o before (author, Halted number entry) serial there session oid held = there session oid held

there_from : (o : Opened) (before events : List Event) → IsSerialFrom o before events
    → LockedAreThere (after_events o before) → LockedAreThere (after_events o (before ++ events))
there_from o before [] serial there =
    subst (λ es. LockedAreThere (after_events o es)) (sym (append-nil before)) there
there_from o before (event ∷ events) serial there =
    subst (λ es. LockedAreThere (after_events o es)) (append_assoc before (event ∷ []) events)
    (there_from o (before ++ event ∷ []) events serial.1
    (subst LockedAreThere (sym (after_one_more o before event))
    (there_event o before event serial.0 there)))

there_first : (o : Opened) → LockedAreThere (before_events o)
there_first o session oid held =
    absurd (false≢true (sym (ap is_some (get-empty holding_cmp (holding session oid))) ∙ held))

pub locked_are_there : (o : Opened) (events : List Event) → IsSerialFrom o [] events
    → LockedAreThere (after_events o events)
unfolding after_events
locked_are_there o events serial = there_from o [] events serial (there_first o)

-- ---- a commit changes no object that another session holds

lock_stands : (place : Place) (done : TxnRecord) (oid holder : ℕ) (held : LockKind)
    → (IsWritten done oid) ⊎ (IsUpdated done oid)
    → denied_for place.locks done.session oid Write ≡ Some (holder, held)
    → conflicts_of place done ≡ [] → ⊥
lock_stands place done oid holder Read changed denied none = none_stands place done _ none
    (write_read_lock oid holder changed
    ((lowest_is_value place.locks done.session oid holder Read).0 denied))
lock_stands place done oid holder Write changed denied none = none_stands place done _ none
    (write_write_lock oid holder changed
    ((lowest_is_value place.locks done.session oid holder Write).0 denied))

held_refuses : (place : Place) (done : TxnRecord) (session oid : ℕ) → session ≢ done.session
    → IsSome (kind_held place.locks session oid) → (IsWritten done oid) ⊎ (IsUpdated done oid)
    → conflicts_of place done ≡ [] → ⊥
held_refuses place done session oid apart held changed none =
    by (denied_for place.locks done.session oid Write) refl (kind_held place.locks session oid) refl held
  where
    by : (denied : Option (ℕ × LockKind)) → denied_for place.locks done.session oid Write ≡ denied
        → (kind : Option LockKind) → kind_held place.locks session oid ≡ kind → IsSome kind → ⊥
    by (Some (holder, kind)) is own own_is some = lock_stands place done oid holder kind changed is none
    by None is None own_is some = absurd (false≢true some)
    by None is (Some kind) own_is some =
        free_from_none place.locks done.session oid Write is session kind
        (record { other = apart; holds = own_is; one_writes = inl refl })

module _ (o : Opened) (before : List Event) (author : ℕ) (e : Entry) (serves : CanServe o)
    (placed : IsPlaced o before author e) (all : AllSound o (after_events o before)) where
  abbrev s : Standing
  s = after_events o before

  abbrev place : Place
  place = record { image = s.image; locks = s.locks }

  none_here : conflicts_of place (record_at_place o s e) ≡ []
  none_here = ap (conflicts_of place) (same_record o s e placed.same) ∙ placed.no_conflict

  session_is : (record_at_place o s e).session ≡ author
  unfolding record_at_place record_of
  session_is = placed.of_session

  pub not_changed : (session oid : ℕ) → session ≢ author → IsSome (kind_held s.locks session oid)
      → IsSome (get s.image oid) → IsChangedBy s.image (record_at_place o s e) oid → ⊥
  not_changed session oid apart held there (by_write object written) =
      held_refuses place (record_at_place o s e) session oid (λ same. apart (same ∙ session_is)) held
      (inl (under_one oid object (record_at_place o s e).written written)) none_here
  not_changed session oid apart held there (by_update updated old) =
      held_refuses place (record_at_place o s e) session oid (λ same. apart (same ∙ session_is)) held
      (inr updated) none_here
  not_changed session oid apart held there (by_make object made) =
      false≢true (sym (ap is_some (made_is_new o s e serves (is_grown o before) all placed.of_script
      placed.begins oid object made)) ∙ there)

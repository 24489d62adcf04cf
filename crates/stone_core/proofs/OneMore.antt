-- What a Stone is when it has one event more.
use Rattle.std.proofs.Common.{◌≡◌, ℕ, ◌+◌, ◌≤◌, ◌<◌, ◌^◌, ◌&&◌, ◌↔◌, IsTrue, is_some, Option, Bool, true, false, List, [], ◌∷◌, ◌++◌, length, All, None, Some, IsSome, refl, sym, ap, ap₂, subst, ◌∙◌, arith, append-nil}
use Rattle.std.specs.List.{AllByRecursion}
use Rattle.std.specs.FinMap.{len, empty, get, insert, len-empty}
use Rattle.std.proofs.lemmas.Bool.{leb-true, false≢true}
use Rattle.std.proofs.lemmas.List.{length-append}
use Rattle.std.proofs.lemmas.List.Elements.{filter_map-append}
use Rattle.gem_object.specs.Spelling.{IsSpelled}
use Rattle.gem_image.specs.Image.{Image, IsImage, with_objects}
use Rattle.gem_object.specs.declared.object.Object.{Object}
use Rattle.gem_record.specs.History.{entry_of}
use Rattle.gem_record.specs.Effects.{log_record_size}
use Rattle.gem_record.specs.declared.effect.Effect.{Effect}
use Rattle.gem_record.specs.declared.record.Entry.{Entry}
use Rattle.gem_record.specs.declared.record.TxnRecord.{TxnRecord}
use Rattle.lock_table.specs.LockKind.{kind_granted}
use Rattle.lock_table.specs.Locks.{LockSet, holding_cmp, holding, kind_held, after_held, after_dropped, after_left, denied_for}
use Rattle.lock_table.specs.declared.lock.LockKind.{LockKind}
use Rattle.lock_table.specs.declared.lock.LockKind.TheVariants.{Read, Write}
use Rattle.lock_table.proofs.Counts.{held_more, dropped_fewer, left_fewer}
use Rattle.gem_meaning.specs.declared.event.What.TheVariants.{Placed, Held, Dropped, Left, Checked, Halted}
use Rattle.gem_meaning.specs.Opened.{Opened}
use Rattle.gem_meaning.specs.Effect.{effect_at}
use Rattle.gem_meaning.specs.Events.{Event, Told, Standing, told_more, image_at, effect_of, after_event, after_events, standing, placed_entry, entries_of, IsRunning}
use Rattle.gem_meaning.specs.After.{record_size}
use Rattle.gem_meaning.specs.Serial.{IsPlaced, IsSerialEvent, IsSerial, IsOfScript, IsConsistent, IsRecorded, HoldsSome, CanServe}
use Rattle.stone_core.specs.Stone.{IsStone, is_session}
use Rattle.stone_core.specs.Port.{size_at}
use Rattle.history_laws.proofs.Views.{after_one_more, image_now}
use Rattle.history_laws.proofs.OneMore.{consistent_more, free_as_granted}
use Rattle.stone_core.proofs.Spelled.{effect_spelled}

both_true : (a b : Bool) → (a && b) ≡ true → (a ≡ true) × (b ≡ true)
both_true true b is = (refl, is)
both_true false b is = (is, absurd (false≢true is))

-- the number of a session of the script
pub session_bounds : (o : Opened) (session : ℕ) → is_session o.script session ≡ true
    → (1 ≤ session) × (session ≤ length o.script)
session_bounds o session is =
    let both = both_true _ _ is in (leb-true 1 session both.0, leb-true session (length o.script) both.1)

-- an object is held by nobody where a call says that it isn't
pub none_held : {A : Type 0} (b : Bool) (o : Option A) → IsTrue b ↔ IsSome o → b ≡ false → o ≡ None
none_held b None exactly is = refl
none_held b (Some x) exactly is = absurd (false≢true (sym is ∙ exactly.1 refl))

-- the same of all objects
pub nothing_held : (locks : LockSet) (session : ℕ) (b : Bool)
    → IsTrue b ↔ ((oid : ℕ) × IsSome (kind_held locks session oid)) → b ≡ false
    → (oid : ℕ) → kind_held locks session oid ≡ None
nothing_held locks session b exactly is oid = by (kind_held locks session oid) refl
  where
    by : (held : Option LockKind) → kind_held locks session oid ≡ held → held ≡ None
    by None held_is = refl
    by (Some kind) held_is = absurd (false≢true (sym is ∙ exactly.1 (oid, ap is_some held_is)))

granted_again : (before : Option LockKind) (asked : LockKind)
    → kind_granted before (kind_granted before asked) ≡ kind_granted before asked
granted_again None asked = refl
granted_again (Some Read) asked = refl
granted_again (Some Write) asked = refl

-- told with the kind that it then has, a grant changes the same
told_again : (locks : LockSet) (session oid : ℕ) (asked : LockKind)
    → after_held locks session oid (kind_granted (kind_held locks session oid) asked)
    ≡ after_held locks session oid asked
told_again locks session oid asked =
    ap (insert locks (holding session oid)) (granted_again (kind_held locks session oid) asked)

-- What a Stone is before its first event.
pub first_stone : (o : Opened) (events : List Event) (image : Image) (locks : LockSet)
    (history : List Entry) (room : ℕ) → CanServe o → o.image ≡ image → locks ≡ empty → history ≡ []
    → events ≡ [] → IsStone (record { opened = o; events = events }) image o.number locks history room
unfolding after_events IsSerial
first_stone o events image locks history room opening image_is none_held no_entries none = record {
  image_is = sym image_is ∙ ap (λ es. (after_events o es).image) (sym none);
  number_is = ap (λ es. (after_events o es).number) (sym none);
  small = let most = opening.number in omega (arith, most);
  locks_are = none_held ∙ ap (λ es. (after_events o es).locks) (sym none);
  history_is = no_entries ∙ ap entries_of (sym none);
  opening = opening;
  consistent = record {
    sessions = subst (AllByRecursion (IsOfScript o.script)) (sym none) tt;
    serial = subst (λ es. IsSerial (record { opened = o; events = es })) (sym none) tt;
  };
  enough =
      let no_events : length events ≡ 0 = ap length none in
      let no_locks : len locks ≡ 0 = ap len none_held ∙ len-empty holding_cmp LockKind in
      omega (arith, no_events, no_locks);
}

module _ (t : Told) (image : Image) (number : ℕ) (locks : LockSet) (history : List Entry) (room : ℕ)
    (stone : IsStone t image number locks history room) where
  -- the Stone with more room
  pub more_room : (more : ℕ) → room ≤ more → IsStone t image number locks history more
  more_room more larger = record {
    image_is = stone.image_is;
    number_is = stone.number_is;
    small = stone.small;
    locks_are = stone.locks_are;
    history_is = stone.history_is;
    opening = stone.opening;
    consistent = stone.consistent;
    enough = let enough = stone.enough in omega (arith, enough, larger);
  }

  -- the Stone where nothing was given back
  pub same_locks : (after : LockSet) → after ≡ locks → IsStone t image number after history room
  same_locks after is = subst (λ (l : LockSet). IsStone t image number l history room) (sym is) stone

  -- the Stone with an event that may come
  next_stone : (event : Event) (next : Image) (now : ℕ) (after : LockSet) (entries : List Entry)
      (events : List Event) (more : ℕ) → IsOfScript t.opened.script event
      → IsSerialEvent t.opened t.events event → events ≡ t.events ++ event ∷ []
      → next ≡ (after_event t.opened (standing t) event).image
      → now ≡ (after_event t.opened (standing t) event).number → now < 2 ^ 63
      → after ≡ (after_event t.opened (standing t) event).locks
      → entries ≡ history ++ entries_of (event ∷ [])
      → length t.events + 1 + len after ≤ more
      → IsStone (record t { events = events }) next now after entries more
  next_stone event next now after entries events more of_script serial events_are image_is number_is small locks_are history_is enough =
      let stands : after_events t.opened events ≡ after_event t.opened (standing t) event =
      ap (after_events t.opened) events_are ∙ after_one_more t.opened t.events event in
      let longer : length events ≡ length t.events + 1 =
      ap length events_are ∙ length-append t.events (event ∷ []) in
      record {
        image_is = image_is ∙ sym (ap (λ (s : Standing). s.image) stands);
        number_is = number_is ∙ sym (ap (λ (s : Standing). s.number) stands);
        small = small;
        locks_are = locks_are ∙ sym (ap (λ (s : Standing). s.locks) stands);
        history_is = history_is ∙ ap (λ es. es ++ entries_of (event ∷ [])) stone.history_is
            ∙ sym (filter_map-append placed_entry t.events (event ∷ [])) ∙ ap entries_of (sym events_are);
        opening = stone.opening;
        consistent = subst (λ es. IsConsistent (record t { events = es })) (sym events_are)
            (consistent_more t event stone.consistent of_script serial);
        enough = omega (arith, longer, enough);
      }

  -- the session was granted a lock
  pub held_stone : (session oid : ℕ) (asked kind : LockKind) (after : LockSet) (events : List Event)
      (more : ℕ) → is_session t.opened.script session ≡ true → IsSome (get (standing t).image oid)
      → denied_for locks session oid asked ≡ None
      → kind ≡ kind_granted (kind_held locks session oid) asked
      → after ≡ after_held locks session oid asked
      → events ≡ t.events ++ (session, Held oid kind) ∷ [] → length t.events + (len locks + 2) ≤ more
      → IsStone (record t { events = events }) image number after history more
  held_stone session oid asked kind after events more serves there free kind_is after_is events_are room_is =
      let stands = (standing t).locks in
      let free_there = subst (λ (l : LockSet). denied_for l session oid asked ≡ None) stone.locks_are free in
      let is_there : kind ≡ kind_granted (kind_held stands session oid) asked =
      kind_is ∙ ap (λ (l : LockSet). kind_granted (kind_held l session oid) asked) stone.locks_are in
      let now_free : denied_for stands session oid kind ≡ None =
      ap (denied_for stands session oid) is_there ∙ free_as_granted t session oid asked stone.consistent.serial free_there in
      let again : after ≡ after_held locks session oid kind =
      after_is ∙ sym (ap (after_held locks session oid) kind_is ∙ told_again locks session oid asked) in
      let count = held_more locks session oid asked in
      let counted : len after ≤ len locks + 1 = subst (λ (l : LockSet). len l ≤ len locks + 1) (sym after_is) count in
      next_stone (session, Held oid kind) image number after history events more
      (session_bounds t.opened session serves)
      (now_free, there)
      events_are stone.image_is stone.number_is stone.small
      (again ∙ ap (λ (l : LockSet). after_held l session oid kind) stone.locks_are)
      (sym (append-nil history)) (omega (arith, counted, room_is))

  -- the session gave its lock on the object back
  pub dropped_stone : (session oid : ℕ) (after : LockSet) (events : List Event) (more : ℕ)
      → is_session t.opened.script session ≡ true → IsSome (kind_held locks session oid)
      → after ≡ after_dropped locks session oid → events ≡ t.events ++ (session, Dropped oid) ∷ []
      → room ≤ more → IsStone (record t { events = events }) image number after history more
  dropped_stone session oid after events more serves held after_is events_are larger =
      let count = dropped_fewer locks session oid held in
      let counted : len after + 1 ≡ len locks = subst (λ (l : LockSet). len l + 1 ≡ len locks) (sym after_is) count in
      let enough = stone.enough in
      next_stone (session, Dropped oid) image number after history events more
      (session_bounds t.opened session serves)
      (subst (λ (l : LockSet). IsSome (kind_held l session oid)) stone.locks_are held)
      events_are stone.image_is stone.number_is stone.small
      (after_is ∙ ap (λ (l : LockSet). after_dropped l session oid) stone.locks_are)
      (sym (append-nil history)) (omega (arith, counted, enough, larger))

  -- the session left
  pub left_stone : (session : ℕ) (after : LockSet) (events : List Event) (more : ℕ)
      → is_session t.opened.script session ≡ true → (oid : ℕ) × IsSome (kind_held locks session oid)
      → after ≡ after_left locks session → events ≡ t.events ++ (session, Left) ∷ []
      → room ≤ more → IsStone (record t { events = events }) image number after history more
  left_stone session after events more serves held after_is events_are larger =
      let count = left_fewer locks session held.0 held.1 in
      let counted : len after + 1 ≤ len locks = subst (λ (l : LockSet). len l + 1 ≤ len locks) (sym after_is) count in
      let enough = stone.enough in
      next_stone (session, Left) image number after history events more
      (session_bounds t.opened session serves)
      (subst (λ (l : LockSet). HoldsSome (record (standing t) { locks = l }) session) stone.locks_are held)
      events_are stone.image_is stone.number_is stone.small
      (after_is ∙ ap (λ (l : LockSet). after_left l session) stone.locks_are)
      (sym (append-nil history)) (omega (arith, counted, enough, larger))

  -- a checkpoint was made
  pub checked_stone : (session : ℕ) (events : List Event) (more : ℕ)
      → is_session t.opened.script session ≡ true → IsRunning t.events
      → events ≡ t.events ++ (session, Checked) ∷ [] → length t.events + (len locks + 1) ≤ more
      → IsStone (record t { events = events }) image number locks history more
  checked_stone session events more serves running events_are room_is =
      next_stone (session, Checked) image number locks history events more
      (session_bounds t.opened session serves) running events_are stone.image_is stone.number_is
      stone.small stone.locks_are (sym (append-nil history)) (omega (arith, room_is))

  -- the disk failed at a checkpoint
  pub check_halted_stone : (session : ℕ) (events : List Event) (more : ℕ)
      → is_session t.opened.script session ≡ true → IsRunning t.events
      → events ≡ t.events ++ (session, Halted number None) ∷ [] → length t.events + (len locks + 1) ≤ more
      → IsStone (record t { events = events }) image number locks history more
  check_halted_stone session events more serves running events_are room_is =
      next_stone (session, Halted number None) image number locks history events more
      (session_bounds t.opened session serves) (stone.number_is, running) events_are stone.image_is
      stone.number_is stone.small stone.locks_are (sym (append-nil history)) (omega (arith, room_is))

  -- a session that holds a lock has room for an event
  pub room_to_drop : (session oid : ℕ) → IsSome (kind_held locks session oid) → length t.events < room
  room_to_drop session oid held =
      let count = dropped_fewer locks session oid held in
      let enough = stone.enough in
      omega (arith, count, enough)

  -- the size of an effect's record, in the words of what stands
  pub size_is : (done : TxnRecord) (effect : Effect) (size : ℕ)
      → effect.objects ≡ effect_at image (number + 1) done → size ≡ log_record_size effect
      → size ≡ size_at (standing t) done
  size_is done effect size objects_are is =
      is ∙ ap (λ (objects : List (ℕ × Object)).
      log_record_size (record { number = (standing t).number + 1; objects = objects }))
      (objects_are ∙ ap₂ (λ (i : Image) (n : ℕ). effect_at i (n + 1) done) stone.image_is stone.number_is)

  module _ (done : TxnRecord) (recorded : IsRecorded t done)
      (placed : IsPlaced t.opened t.events done.session (entry_of done))
      (effect : effect_of t.opened (standing t) (entry_of done)
      ≡ effect_at (standing t).image ((standing t).number + 1) done) where
    pub effect_is : effect_at image (number + 1) done ≡ effect_of t.opened (standing t) (entry_of done)
    effect_is = ap₂ (λ (i : Image) (n : ℕ). effect_at i (n + 1) done) stone.image_is stone.number_is ∙ sym effect

    -- the image that the effect makes
    next_image_is : with_objects image (effect_at image (number + 1) done)
        ≡ with_objects (standing t).image (effect_of t.opened (standing t) (entry_of done))
    next_image_is = ap₂ with_objects stone.image_is effect_is

    -- the commit was placed
    pub placed_stone : (next : Image) (entries : List Entry) (events : List Event) (more : ℕ)
        → next ≡ with_objects image (effect_at image (number + 1) done) → number + 1 < 2 ^ 63
        → entries ≡ history ++ entry_of done ∷ []
        → events ≡ t.events ++ (done.session, Placed (entry_of done)) ∷ []
        → length t.events + (len locks + 1) ≤ more
        → IsStone (record t { events = events }) next (number + 1) locks entries more
    placed_stone next entries events more next_is small entries_are events_are room_is =
        next_stone (done.session, Placed (entry_of done)) next (number + 1) locks entries events more
        recorded.of_script.session placed events_are (next_is ∙ next_image_is)
        (ap (λ (n : ℕ). n + 1) stone.number_is) small stone.locks_are entries_are (omega (arith, room_is))

    -- the disk failed as it was to be placed
    pub halted_stone : (events : List Event) (more : ℕ)
        → events ≡ t.events ++ (done.session, Halted (number + 1) (Some (entry_of done))) ∷ []
        → length t.events + (len locks + 1) ≤ more
        → IsStone (record t { events = events }) image number locks history more
    halted_stone events more events_are room_is =
        next_stone (done.session, Halted (number + 1) (Some (entry_of done))) image number locks history events more
        recorded.of_script.session (ap (λ (n : ℕ). n + 1) stone.number_is, placed) events_are stone.image_is
        stone.number_is stone.small stone.locks_are (sym (append-nil history)) (omega (arith, room_is))

    -- its record has this size
    pub record_size_is : record_size t.opened (standing t) (entry_of done) ≡ size_at (standing t) done
    unfolding record_size
    record_size_is = ap (λ (objects : List (ℕ × Object)).
        log_record_size (record { number = (standing t).number + 1; objects = objects })) effect

    -- the Stone's events with the commit, as what it was opened with and they tell it
    abbrev with_commit : Told
    with_commit = told_more t ((done.session, Placed (entry_of done)) ∷ [])

    -- they are consistent
    pub commit_consistent : IsConsistent with_commit
    commit_consistent = consistent_more t (done.session, Placed (entry_of done)) stone.consistent recorded.of_script.session placed

    -- the objects of its effect have a spelling, where the image that then stands is one
    pub effect_has_spelling : IsImage (image_at (standing with_commit) (standing with_commit).number)
        → All (λ entry. IsSpelled entry.1) (effect_at image (number + 1) done)
    unfolding effect_at
    effect_has_spelling is_image =
        let stands : (standing with_commit).image ≡ with_objects image (effect_at image (number + 1) done) =
        ap (λ (s : Standing). s.image) (after_one_more t.opened t.events (done.session, Placed (entry_of done))) ∙ sym next_image_is in
        let here = subst IsImage (image_now (standing with_commit) (standing with_commit).number refl ∙ stands) is_image in
        effect_spelled image _ here.spelled

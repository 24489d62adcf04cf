-- A session's commits and aborts.
use Rattle.std.proofs.Common.{◌≡◌, ◌∙◌, refl, sym, ap, subst, ℕ, ◌+◌, ◌-◌, ◌≤◌, true, false, true≢false, Some, IsSome, List, [], ◌∷◌, ◌++◌, arith, append-nil, inr}
use Rattle.std.specs.List.{AllByRecursion, slice_get}
use Rattle.gem_image.specs.Image.{objects_in}
use Rattle.gem_sound.specs.Parts.{user_at}
use Rattle.gem_world.specs.World.{World}
use Rattle.gem_object.specs.gem_value.declared.conflict.Conflict.{Conflict}
use Rattle.gem_record.specs.declared.record.TxnRecord.{TxnRecord}
use Rattle.gem_object.specs.declared.object.Object.{Object}
use Rattle.gem_record.specs.History.{entry_of}
use Rattle.gem_record.specs.Effects.{log_record_size}
use Rattle.gem_record.specs.declared.limits.TheConstants.{LOG_LIMIT}
use Rattle.gem_replies.specs.declared.reply.Line.TheVariants.{NoMemory, Spoiled, Halted as HaltedLine, Unchanged, Refused, LogFull as LogFullLine, DiskFault as DiskFaultLine, Committed, Aborted}
use Rattle.gem_meaning.specs.gem_language.Transaction.{Transaction}
use Rattle.gem_record.specs.Record.{record_of}
use Rattle.shell_words.specs.declared.script.Command.TheVariants.{Commit, Abort}
use Rattle.gem_meaning.specs.declared.event.What.TheVariants.{Placed, Halted}
use Rattle.gem_meaning.specs.Effect.{IsUnchanged, effect_at}
use Rattle.gem_meaning.specs.Opened.{Opened, commands_of, record_on}
use Rattle.gem_meaning.specs.Events.{Event, Told, next_counter, after_events, events_of, Extends, OthersCame, run_on_view, conflicts_at, effect_of, standing, IsRunning, HasHaltedAt}
use Rattle.gem_meaning.specs.After.{record_size, log_after}
use Rattle.gem_meaning.specs.Serial.{IsSerialFrom, IsSerial, IsRecorded, EndedBefore, EndsTransaction, CanServe}
use Rattle.gem_meaning.specs.State.{SessionState, CommandPlace, entry_to, next_transaction, record_to}
use Rattle.gem_meaning.specs.Runs.{setting_of}
use Rattle.gem_meaning.specs.Commits.{SeesNumber, IsClear, size_found, MayCommit, CommitReply}
use Rattle.gem_meaning.specs.Session.{CommandSays}
use Rattle.stone_core.specs.Port.{PortState, CommitSays, GoesOn, event_of_answer, size_at, IsFree, MayPlace}
use Rattle.stone_core.specs.declared.port.CommitAnswer.{CommitAnswer}
use Rattle.stone_core.specs.declared.port.CommitAnswer.TheVariants.{Halted as HaltedAt, ReadOnly, Conflicts, LogFull, DiskFault, Placed as PlacedAt, NoMemory as ShortOfMemory}
use Rattle.history_laws.proofs.Apart.{records_stay}
use Rattle.history_laws.proofs.Halts.{runs_front}
use Rattle.history_laws.proofs.OneMore.{serial_front}
use Rattle.gem_session.specs.declared.session.Session.{Session}
use Rattle.gem_session.specs.Running.{ends_transaction, commit_line, session_state, IsCommandNumber, StandsBefore, ComesTo, HasEnded, Begins, Replied, FallsShort}
use Rattle.gem_session.proofs.Others.{nobody_came, came_and_came, extends_by, number_on}
use Rattle.gem_session.proofs.Apart.{apart_both, apart_later, apart_of_others}
use Rattle.gem_session.proofs.Counters.{next_of_placed}
use Rattle.gem_session.proofs.Passing.{Passes, apart_when, counter_when, pass_others, pass_twice, pass_halted, view_when}
use Rattle.gem_session.proofs.Between.{entry_whole, mode_still, world_to}
use Rattle.gem_session.proofs.Steps.{run_when, stands_kept}
use Rattle.gem_session.proofs.Beginnings.{begins_session, begins_stands}

abbrev At : Opened → List Event → Told
At o es = record { opened = o; events = es }

-- what the law on records says of a commit's effect
abbrev pub EffectsAre : Type 0
EffectsAre = (t : Told) (done : TxnRecord) → CanServe t.opened → IsSerial t → IsRecorded t done → conflicts_at (standing t) done ≡ []
    → effect_of t.opened (standing t) (entry_of done) ≡ effect_at (standing t).image ((standing t).number + 1) done

-- the record that the session hands over
abbrev pub record_with : (number : ℕ) → Session → TxnRecord
record_with number s = record_of (entry_to number (session_state s)) s.view.state.seen.setting s.view.state.seen.world

entry_is : (number : ℕ) (s : Session) → entry_of (record_with number s) ≡ entry_to number (session_state s)
unfolding record_of
entry_is number s = refl

pub session_is : (number : ℕ) (s : Session) → (record_with number s).session ≡ s.session
unfolding record_of
session_is number s = refl

view_is : (number : ℕ) (s : Session) → (record_with number s).view ≡ s.number
unfolding record_of
view_is number s = refl

module _ (o : Opened) (es : List Event) (number : ℕ) (s : Session) (stands : StandsBefore (At o es) number s)
    (is : slice_get (commands_of o.script s.session) (number - 1) ≡ Some Commit) where
  abbrev St : SessionState
  St = session_state s

  -- what the transaction has done is what it does with its commit
  world_with : s.spoiled ≡ false → (run_on_view o (after_events o es) (entry_to number St)).world ≡ s.view.state.seen.world
  world_with calm = world_to o es number St Commit is stands.first.0 stands.first.1 ∙ sym (stands.world calm)

  record_parts : record_of (entry_to number St) (setting_of o es St) (run_on_view o (after_events o es) (entry_to number St)).world ≡ record_to o es number St
  unfolding record_on run_on_view
  record_parts = refl

  -- the record is that of the transaction
  pub record_is : s.spoiled ≡ false → record_with number s ≡ record_to o es number St
  record_is calm =
      ap (λ x. record_of (entry_to number St) x s.view.state.seen.world) stands.setting
      ∙ ap (record_of (entry_to number St) (setting_of o es St)) (sym (world_with calm))
      ∙ record_parts

  -- the same when events have come
  pub record_when : (es' : List Event) → Extends es es' → s.spoiled ≡ false → record_with number s ≡ record_to o es' number St
  record_when es' more calm =
      record_is calm ∙ ap (record_on o (entry_to number St)) (sym (view_when o es es' s.number more stands.from stands.to))

  pub recorded : s.spoiled ≡ false → IsRecorded (At o es) (record_with number s)
  unfolding record_of
  recorded calm = record {
    of_script = record {
      session = stands.session;
      first = stands.begins;
      order = stands.first.1;
      last = is;
      whole = entry_whole o number St Commit is stands.first.0 stands.first.1 tt stands.whole;
      mode = stands.mode;
    };
    begins = record {
      from = stands.from;
      to = stands.to;
      user = stands.user;
      names = stands.names;
      names_end = let end = stands.sound.next_bound in omega (arith, end, stands.drawn);
    };
    apart = stands.apart;
    is = record_is calm;
  }

  pub commit_spoiled : s.spoiled ≡ true → Replied o number es es s Commit (Spoiled ∷ []) s
  commit_spoiled spoiled = record {
    of_session = refl;
    says = (Spoiled, refl, (spoiled, refl, refl));
    stands = stands_kept o es es number s Commit is tt refl (λ m. refl) stands (pass_others o s.session es es (nobody_came s.session es));
  }

  -- memory ran out, here or at the Stone
  pub commit_short : (es' : List Event) → s.spoiled ≡ false → OthersCame s.session es es' → Replied o number es es' s Commit (NoMemory ∷ []) s
  commit_short es' calm came = record {
    of_session = refl;
    says = (NoMemory, refl, (calm, came, refl));
    stands = stands_kept o es es' number s Commit is tt refl (λ m. refl) stands (pass_others o s.session es es' came);
  }

  own_others : (es' : List Event) (answer : CommitAnswer) (says : CommitSays o es es' (record_with number s) answer) → events_of s.session says.others ≡ []
  own_others es' answer says = subst (λ (n : ℕ). events_of n says.others ≡ []) (session_is number s) says.are_others

  -- what others did before an answer that is no event
  pub others_before : (es' : List Event) (answer : CommitAnswer) → ((stood : ℕ) → event_of_answer stood (record_with number s) answer ≡ []) →
      (says : CommitSays o es es' (record_with number s) answer) → OthersCame s.session es es' × (es' ≡ es ++ says.others)
  others_before es' answer none says =
      let end : es' ≡ es ++ says.others = says.events ∙ ap (λ x. (es ++ says.others) ++ x) (none (after_events o (es ++ says.others)).number) ∙ append-nil (es ++ says.others) in
      let own = subst (λ (n : ℕ). events_of n says.others ≡ []) (session_is number s) says.are_others in
      ((says.others, own, end), end)

  -- ---- what holds of the record holds of the transaction

  is_clear : (es' : List Event) → Extends es es' → s.spoiled ≡ false → IsFree o es' (record_with number s) → IsClear o es' number St
  is_clear es' more calm free =
      let done = record_when es' more calm in
      record {
        running = free.running;
        changed = λ none. free.changed (subst IsUnchanged (sym done) none);
        no_conflict = sym (ap (conflicts_at (after_events o es')) done) ∙ free.no_conflict;
      }

  module _ (effects : EffectsAre) (serves : CanServe o) (others : List Event) (are_others : events_of s.session others ≡ [])
      (serial : IsSerial (At o (es ++ others))) (calm : s.spoiled ≡ false)
      (free : IsFree o (es ++ others) (record_with number s)) where
    -- the record is one, too, when others' events have come
    recorded_then : IsRecorded (At o (es ++ others)) (record_with number s)
    recorded_then = records_stay (At o es) others (record_with number s)
        (subst (λ (n : ℕ). events_of n others ≡ []) (sym (session_is number s)) are_others) (recorded calm)

    size_is : size_at (after_events o (es ++ others)) (record_with number s) ≡ size_found o (es ++ others) number St
    unfolding record_size
    size_is = ap (λ (objects : List (ℕ × Object)).
        log_record_size (record { number = (after_events o (es ++ others)).number + 1; objects = objects }))
        (sym (effects (At o (es ++ others)) (record_with number s) serves serial recorded_then free.no_conflict)
        ∙ ap (effect_of o (after_events o (es ++ others))) (entry_is number s))

    may_commit : MayPlace o (es ++ others) (record_with number s) → MayCommit o (es ++ others) number St
    may_commit may = record {
      clear = is_clear (es ++ others) (others, refl) calm may.free;
      fits = subst (λ (n : ℕ). log_after o (es ++ others) + n ≤ LOG_LIMIT) size_is may.fits;
    }

  pub commit_halted : (es' : List Event) (at : ℕ) → s.spoiled ≡ false → CommitSays o es es' (record_with number s) (HaltedAt at) →
      Replied o number es es' s Commit (HaltedLine at ∷ []) s
  commit_halted es' at calm says =
      let before = others_before es' (HaltedAt at) (λ stood. refl) says in
      record {
        of_session = refl;
        says = (HaltedLine at, refl, (calm, before.0, subst (λ x. HasHaltedAt x at) (sym before.1) says.fits, refl));
        stands = stands_kept o es es' number s Commit is tt refl (λ m. refl) stands (pass_others o s.session es es' before.0);
      }

  pub commit_full : (es' : List Event) (length size : ℕ) → EffectsAre → CanServe o → IsSerial (At o es') → s.spoiled ≡ false
      → CommitSays o es es' (record_with number s) (LogFull length size) → Replied o number es es' s Commit (LogFullLine length size ∷ []) s
  commit_full es' length size effects serves serial calm says =
      let before = others_before es' (LogFull length size) (λ stood. refl) says in
      let there = subst (λ x. IsSerial (At o x)) before.1 serial in
      let sized = size_is effects serves says.others (own_others es' (LogFull length size) says) there calm says.fits.0 in
      record {
        of_session = refl;
        says = (
          LogFullLine length size,
          refl,
          (
            calm,
            record {
              came = before.0;
              clear = subst (λ x. IsClear o x number St) (sym before.1)
                  (is_clear (es ++ says.others) (says.others, refl) calm says.fits.0);
              length_is = says.fits.1 ∙ ap (log_after o) (sym before.1);
              size_is = says.fits.2 ∙ sized ∙ ap (λ x. size_found o x number St) (sym before.1);
              over = says.fits.3;
            },
            refl,
          ),
        );
        stands = stands_kept o es es' number s Commit is tt refl (λ m. refl) stands (pass_others o s.session es es' before.0);
      }

  -- the events before the last one are serial, too
  serial_before : (es' others : List Event) (event : Event) → es' ≡ (es ++ others) ++ event ∷ [] → IsSerial (At o es')
      → IsSerial (At o (es ++ others))
  unfolding IsSerial
  serial_before es' others event end serial =
      serial_front o [] (es ++ others) (event ∷ []) (subst (λ x. IsSerialFrom o [] x) end serial)

  failed_events : (es' : List Event) → (says : CommitSays o es es' (record_with number s) DiskFault)
      → es' ≡ (es ++ says.others) ++ (s.session, Halted ((after_events o (es ++ says.others)).number + 1) (Some (entry_to number St))) ∷ []
  unfolding record_of
  failed_events es' says = says.events

  pub commit_failed : (es' : List Event) → EffectsAre → CanServe o → IsSerial (At o es') → s.spoiled ≡ false
      → CommitSays o es es' (record_with number s) DiskFault → Replied o number es es' s Commit (DiskFaultLine ∷ []) s
  commit_failed es' effects serves serial calm says =
      let end = failed_events es' says in
      let number_is = (after_events o (es ++ says.others)).number + 1 in
      let own = own_others es' DiskFault says in
      let there = serial_before es' says.others (s.session, Halted number_is (Some (entry_to number St))) end serial in
      record {
        of_session = refl;
        says = (
          DiskFaultLine,
          refl,
          (
            calm,
            record {
              others = says.others;
              are_others = own;
              may = may_commit effects serves says.others own there calm says.fits.free says.fits;
              after = end;
            },
            refl,
          ),
        );
        stands = stands_kept o es es' number s Commit is tt refl (λ m. refl) stands
            (subst (Passes o s.session es) (sym end)
            (pass_twice o s.session es (es ++ says.others) ((es ++ says.others) ++ (s.session, Halted number_is (Some (entry_to number St))) ∷ [])
            (pass_others o s.session es (es ++ says.others) (says.others, own, refl))
            (pass_halted o s.session (es ++ says.others) s.session number_is (Some (entry_to number St)))));
      }

  pub commit_refused : (es' : List Event) (found : List Conflict) → s.spoiled ≡ false → CommitSays o es es' (record_with number s) (Conflicts found) →
      Replied o number es es' s Commit (Refused found ∷ []) s
  commit_refused es' found calm says =
      let before = others_before es' (Conflicts found) (λ stood. refl) says in
      let came = before.0 in
      let done = record_when es' (extends_by s.session es es' came) calm in
      record {
        of_session = refl;
        says = (
          Refused found,
          refl,
          (
            calm,
            came,
            λ none. says.fits.0 (subst IsUnchanged (sym done) none),
            says.fits.1,
            says.fits.2
                ∙ ap (λ x. conflicts_at (after_events o x) (record_with number s)) (sym before.1)
                ∙ ap (conflicts_at (after_events o es')) done,
            refl,
            subst IsRunning (sym before.1) says.fits.3,
          ),
        );
        stands = stands_kept o es es' number s Commit is tt refl (λ m. refl) stands (pass_others o s.session es es' came);
      }

  -- ---- what is said of a commit that ended its transaction, where the next one sees this number

  abbrev place : List Event → CommandPlace
  place es'' = record { opened = o; number = number; before = es; after = es'' }

  unchanged_told : (es' es'' : List Event) (at view : ℕ) → s.spoiled ≡ false → CommitSays o es es' (record_with number s) (ReadOnly at)
      → SeesNumber o s.session es' es'' view → CommitReply (place es'') St (Unchanged at view) (next_transaction St view number)
  unchanged_told es' es'' at view calm says sees =
      let came = (others_before es' (ReadOnly at) (λ stood. refl) says).0 in
      let all : OthersCame s.session es es'' = came_and_came s.session es es' es'' came sees.0 in (
        calm,
        says.fits.1 ∙ view_is number s,
        (all, sees.1),
        subst IsUnchanged (record_when es'' (extends_by s.session es es'' all) calm) says.fits.0,
        refl,
        runs_front es says.others says.fits.2,
      )

  placed_events : (es' : List Event) (at : ℕ) → (says : CommitSays o es es' (record_with number s) (PlacedAt at)) →
      es' ≡ (es ++ says.others) ++ (s.session, Placed (entry_to number St)) ∷ []
  unfolding record_of
  placed_events es' at says = says.events

  placed_told : (es' es'' : List Event) (at view : ℕ) → EffectsAre → CanServe o → IsSerial (At o es') → s.spoiled ≡ false
      → CommitSays o es es' (record_with number s) (PlacedAt at) → SeesNumber o s.session es' es'' view
      → CommitReply (place es'') St (Committed at view) (next_transaction St view number)
  placed_told es' es'' at view effects serves serial calm says sees =
      let own = own_others es' (PlacedAt at) says in
      let there = serial_before es' says.others (s.session, Placed (entry_to number St)) (placed_events es' at says) serial in (
        calm,
        record {
          others = says.others;
          are_others = own;
          may = may_commit effects serves says.others own there calm says.fits.0.free says.fits.0;
          number_is = says.fits.1;
          sees = subst (λ x. SeesNumber o s.session x es'' view) (placed_events es' at says) sees;
        },
        refl,
      )

  pub commit_told : (es' es'' : List Event) (answer : CommitAnswer) (view : ℕ) → EffectsAre → CanServe o → IsSerial (At o es') →
      ends_transaction answer ≡ true → s.spoiled ≡ false → CommitSays o es es' (record_with number s) answer → SeesNumber o s.session es' es'' view →
      CommandSays (place es'') St Commit (commit_line answer view ∷ []) (next_transaction St view number)
  commit_told es' es'' (HaltedAt at) view effects serves serial ends calm says sees = absurd (true≢false (sym ends))
  commit_told es' es'' (ReadOnly at) view effects serves serial ends calm says sees =
      (Unchanged at view, refl, unchanged_told es' es'' at view calm says sees)
  commit_told es' es'' (Conflicts found) view effects serves serial ends calm says sees = absurd (true≢false (sym ends))
  commit_told es' es'' (LogFull length size) view effects serves serial ends calm says sees = absurd (true≢false (sym ends))
  commit_told es' es'' DiskFault view effects serves serial ends calm says sees = absurd (true≢false (sym ends))
  commit_told es' es'' (PlacedAt at) view effects serves serial ends calm says sees =
      (Committed at view, refl, placed_told es' es'' at view effects serves serial calm says sees)
  commit_told es' es'' ShortOfMemory view effects serves serial ends calm says sees = absurd (true≢false (sym ends))

  -- ---- the end of the transaction

  -- the earlier entries of the session end before its next transaction, whose first command comes after this one
  apart_next : AllByRecursion (EndedBefore s.session (number + 1)) es
  apart_next = let first = stands.first.1 in apart_later s.session s.first_command (number + 1) es (omega (arith, first)) stands.apart

  apart_placed : (es' : List Event) (at : ℕ) → CommitSays o es es' (record_with number s) (PlacedAt at) → AllByRecursion (EndedBefore s.session (number + 1)) es'
  apart_placed es' at says =
      let others = apart_of_others s.session (number + 1) says.others (own_others es' (PlacedAt at) says) in
      subst (AllByRecursion (EndedBefore s.session (number + 1))) (sym (placed_events es' at says))
      (apart_both s.session (number + 1) (es ++ says.others) ((s.session, Placed (entry_to number St)) ∷ [])
      (apart_both s.session (number + 1) es says.others apart_next others) (λ is. omega arith, tt))

  apart_unplaced : (es' : List Event) (at : ℕ) → CommitSays o es es' (record_with number s) (ReadOnly at) → AllByRecursion (EndedBefore s.session (number + 1)) es'
  apart_unplaced es' at says = apart_when s.session (number + 1) es es' apart_next (others_before es' (ReadOnly at) (λ stood. refl) says).0

  -- all that the session's commits have drawn comes before its next name
  names_unplaced : (es' : List Event) → OthersCame s.session es es' → next_counter (after_events o es') s.session ≤ s.view.state.seen.world.next
  names_unplaced es' came =
      let same = counter_when o s.session es es' came in omega (arith, same, stands.names, stands.drawn)

  names_placed : (es' : List Event) (at : ℕ) → s.spoiled ≡ false → IsSerial (At o es') → CommitSays o es es' (record_with number s) (PlacedAt at)
      → next_counter (after_events o es') s.session ≤ s.view.state.seen.world.next
  names_placed es' at calm serial says =
      let end = placed_events es' at says in
      let drawn = next_of_placed o (es ++ says.others) s.session (entry_to number St) (subst (λ x. IsSerial (At o x)) end serial) in
      let ran = ap (λ (r : Transaction). r.world.next) (run_when o es (es ++ says.others) number St (says.others, refl) stands.from stands.to) in
      let same = ap (λ (w : World). w.next) (world_with calm) in
      let here = ap (λ (x : List Event). next_counter (after_events o x) s.session) end in
      omega (arith, drawn, ran, same, here)

  ended_commit : EndsTransaction (slice_get (commands_of o.script s.session) (number - 1))
  ended_commit = subst EndsTransaction (sym is) tt

  -- where the transaction has ended, as far as the events tell
  pub has_ended : (p q : PortState) → GoesOn s.session p q → p.told ≡ At o es → p.serves s.session ≡ true → CanServe o → IsCommandNumber number →
      EndsTransaction (slice_get (commands_of o.script s.session) (number - 1)) →
      AllByRecursion (EndedBefore s.session (number + 1)) q.told.events →
      next_counter (after_events o q.told.events) s.session ≤ s.view.state.seen.world.next → HasEnded q number s
  has_ended p q goes here serves opened low ended apart names =
      let opened_is : q.told.opened ≡ o = goes.opened ∙ ap (λ (t : Told). t.opened) here in
      let more : Extends es q.told.events = subst (λ x. Extends x q.told.events) (ap (λ (t : Told). t.events) here) goes.extends in
      let grown = number_on o es q.told.events more in
      let same = view_when o es q.told.events s.number more stands.from stands.to in
      let with : HasEnded (record q { told = At o q.told.events }) number s = record {
        serves = goes.serves s.session serves;
        opened = opened;
        session = stands.session;
        serial = stands.serial;
        numbered = low;
        transaction = stands.transaction;
        from = stands.from;
        to = omega (arith, stands.to, grown);
        user = subst (λ image. IsSome (user_at (objects_in image) s.view.state.seen.setting.user)) (sym same) stands.user;
        ended = ended;
        apart = apart;
        names = names;
        mode = stands.mode ∙ sym (mode_still o s.session number Commit is low.0 (λ m. refl));
        sound = stands.sound;
      } in
      subst (λ x. HasEnded (record q { told = At x q.told.events }) number s) (sym opened_is) with

  -- the transaction has ended with its commit
  pub commit_has_ended : (es' : List Event) (answer : CommitAnswer) → ends_transaction answer ≡ true → s.spoiled ≡ false → IsSerial (At o es') →
      CommitSays o es es' (record_with number s) answer → AllByRecursion (EndedBefore s.session (number + 1)) es'
      × (next_counter (after_events o es') s.session ≤ s.view.state.seen.world.next)
  commit_has_ended es' (ReadOnly at) ends calm serial says =
      (apart_unplaced es' at says, names_unplaced es' (others_before es' (ReadOnly at) (λ stood. refl) says).0)
  commit_has_ended es' (HaltedAt at) ends calm serial says = absurd (true≢false (sym ends))
  commit_has_ended es' (Conflicts found) ends calm serial says = absurd (true≢false (sym ends))
  commit_has_ended es' (LogFull length size) ends calm serial says = absurd (true≢false (sym ends))
  commit_has_ended es' DiskFault ends calm serial says = absurd (true≢false (sym ends))
  commit_has_ended es' (PlacedAt at) ends calm serial says = (apart_placed es' at says, names_placed es' at calm serial says)
  commit_has_ended es' ShortOfMemory ends calm serial says = absurd (true≢false (sym ends))

  -- a commit that ended its transaction
  pub commit_ended : (es' es'' : List Event) (answer : CommitAnswer) (s' : Session) → EffectsAre → CanServe o → IsSerial (At o es') →
      ends_transaction answer ≡ true → s.spoiled ≡ false →
      CommitSays o es es' (record_with number s) answer → Begins o es' es'' (λ view. next_transaction St view number) s' →
      Replied o number es es'' s Commit (commit_line answer s'.number ∷ []) s'
  commit_ended es' es'' answer s' effects serves serial ends calm says begins =
      let same = begins_session o es' es'' number s s' begins in
      record {
        of_session = same;
        says = subst (CommandSays (place es'') St Commit (commit_line answer s'.number ∷ [])) (sym begins.carries)
            (commit_told es' es'' answer s'.number effects serves serial ends calm says
            (subst (λ (n : ℕ). SeesNumber o n es' es'' s'.number) same begins.sees));
        stands = begins_stands o es' es'' number s s' begins;
      }

  -- the next transaction didn't begin
  pub commit_cut : (es' es'' : List Event) (answer : CommitAnswer) → EffectsAre → CanServe o → IsSerial (At o es') →
      ends_transaction answer ≡ true → s.spoiled ≡ false →
      CommitSays o es es' (record_with number s) answer → OthersCame s.session es' es'' → FallsShort o number es es'' s Commit
  commit_cut es' es'' answer effects serves serial ends calm says came =
      let view = (after_events o es'').number in
      inr (record {
        lines = commit_line answer view ∷ [];
        next = next_transaction St view number;
        of_session = refl;
        says = commit_told es' es'' answer view effects serves serial ends calm says (came, refl);
      })

  -- a commit after which the transaction goes on
  pub commit_goes_on : (es' : List Event) (answer : CommitAnswer) (view : ℕ) → EffectsAre → CanServe o → IsSerial (At o es') →
      ends_transaction answer ≡ false → s.spoiled ≡ false →
      CommitSays o es es' (record_with number s) answer → Replied o number es es' s Commit (commit_line answer view ∷ []) s
  commit_goes_on es' (HaltedAt at) view effects serves serial ends calm says = commit_halted es' at calm says
  commit_goes_on es' (ReadOnly at) view effects serves serial ends calm says = absurd (true≢false ends)
  commit_goes_on es' (Conflicts found) view effects serves serial ends calm says = commit_refused es' found calm says
  commit_goes_on es' (LogFull length size) view effects serves serial ends calm says =
      commit_full es' length size effects serves serial calm says
  commit_goes_on es' DiskFault view effects serves serial ends calm says = commit_failed es' effects serves serial calm says
  commit_goes_on es' (PlacedAt at) view effects serves serial ends calm says = absurd (true≢false ends)
  commit_goes_on es' ShortOfMemory view effects serves serial ends calm says =
      commit_short es' calm (others_before es' ShortOfMemory (λ stood. refl) says).0

-- ---- aborts

pub aborted : (o : Opened) (es es' : List Event) (number : ℕ) (s s' : Session) → Begins o es es' (λ view. next_transaction (session_state s) view number) s' →
    Replied o number es es' s Abort (Aborted s'.number ∷ []) s'
aborted o es es' number s s' begins =
    let same = begins_session o es es' number s s' begins in record {
      of_session = same;
      says = (
        Aborted s'.number,
        refl,
        (
          subst (λ (n : ℕ). SeesNumber o n es es' s'.number) same begins.sees,
          begins.carries,
        ),
      );
      stands = begins_stands o es es' number s s' begins;
    }

-- the transaction ends with its abort
pub abort_has_ended : (p : PortState) (number : ℕ) (s : Session) → ComesTo p number s Abort → HasEnded p number s
abort_has_ended p number s comes =
    let stands = comes.stands in
    let first = stands.first.1 in
    record {
      serves = comes.serves;
      opened = comes.opened;
      session = stands.session;
      serial = stands.serial;
      numbered = comes.numbered;
      transaction = stands.transaction;
      from = stands.from;
      to = stands.to;
      user = stands.user;
      ended = subst EndsTransaction (sym comes.command) tt;
      apart = apart_later s.session s.first_command (number + 1) p.told.events (omega (arith, first)) stands.apart;
      names = omega (arith, stands.names, stands.drawn);
      mode = stands.mode ∙ sym (mode_still p.told.opened s.session number Abort comes.command comes.numbered.0 (λ m. refl));
      sound = stands.sound;
    }

-- ---- a commit that the Stone answered

module _ (p q : PortState) (number : ℕ) (s : Session) (comes : ComesTo p number s Commit) (done : TxnRecord) (is : done ≡ record_with number s)
    (answer : CommitAnswer) (calm : s.spoiled ≡ false) (goes : GoesOn done.session p q)
    (says : CommitSays p.told.opened p.told.events q.told.events done answer) where
  abbrev Says : Type 0
  Says = CommitSays p.told.opened p.told.events q.told.events (record_with number s) answer

  pub says_as : Says
  says_as = subst (λ x. CommitSays p.told.opened p.told.events q.told.events x answer) is says

  pub goes_as : GoesOn s.session p q
  goes_as = subst (λ (n : ℕ). GoesOn n p q) (ap (λ (x : TxnRecord). x.session) is ∙ session_is number s) goes

  serial_as : IsSerial (At p.told.opened q.told.events)
  serial_as = subst (λ x. IsSerial (At x q.told.events)) goes_as.opened goes_as.consistent.serial

  -- the next transaction may begin
  pub commit_next : ends_transaction answer ≡ true → HasEnded q number s
  commit_next ends =
      let o = p.told.opened in
      let es = p.told.events in
      let facts = commit_has_ended o es number s comes.stands comes.command q.told.events answer ends calm serial_as says_as in
      has_ended o es number s comes.stands comes.command p q goes_as refl comes.serves comes.opened comes.numbered
      (ended_commit o es number s comes.stands comes.command) facts.0 facts.1

  pub replied_ended : EffectsAre → (r : PortState) (s' : Session) → ends_transaction answer ≡ true
      → Begins q.told.opened q.told.events r.told.events (λ view. next_transaction (session_state s) view number) s'
      → Replied p.told.opened number p.told.events r.told.events s Commit (commit_line answer s'.number ∷ []) s'
  replied_ended effects r s' ends begins = commit_ended p.told.opened p.told.events number s comes.stands comes.command q.told.events r.told.events answer s'
      effects comes.opened serial_as ends calm says_as
      (subst (λ o. Begins o q.told.events r.told.events (λ view. next_transaction (session_state s) view number) s') goes_as.opened begins)

  pub replied_going_on : EffectsAre → (view : ℕ) → ends_transaction answer ≡ false
      → Replied p.told.opened number p.told.events q.told.events s Commit (commit_line answer view ∷ []) s
  replied_going_on effects view stays = commit_goes_on p.told.opened p.told.events number s comes.stands comes.command q.told.events answer view
      effects comes.opened serial_as stays calm says_as

  pub fell_short : EffectsAre → (r : PortState) → ends_transaction answer ≡ true → OthersCame s.session q.told.events r.told.events
      → FallsShort p.told.opened number p.told.events r.told.events s Commit
  fell_short effects r ends came = commit_cut p.told.opened p.told.events number s comes.stands comes.command q.told.events r.told.events answer
      effects comes.opened serial_as ends calm says_as came

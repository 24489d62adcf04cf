-- What a Stone's keeper has to do with its events when one event more has come.
use Rattle.std.proofs.Common.{◌≡◌, ℕ, ◌+◌, ◌≤◌, ◌<◌, ◌⊎◌, inl, inr, ⊎_elim, IsTrue, Bool, true, List, [], ◌∷◌, ◌++◌, length, Option, Some, None, refl, sym, ap, ap₂, subst, ◌∙◌, arith}
use Rattle.std.specs.Option.{option_to_list}
use Rattle.gem_io.specs.Faults.{HasRisen}
use Rattle.gem_image.specs.Image.{Image, with_objects}
use Rattle.gem_record.specs.Stored.{Stored, longer_by, pages_needed, after_checkpoint}
use Rattle.gem_record.specs.declared.record.Entry.{Entry}
use Rattle.gem_record.specs.declared.effect.Effect.{Effect}
use Rattle.gem_record.specs.declared.record.TxnRecord.{TxnRecord}
use Rattle.gem_record.specs.declared.limits.TheConstants.{LOG_LIMIT, PAGE_LIMIT}
use Rattle.gem_meaning.specs.declared.event.What.TheVariants.{Placed, Checked, Halted}
use Rattle.gem_meaning.specs.Opened.{Opened}
use Rattle.gem_meaning.specs.Effect.{IsUnchanged}
use Rattle.gem_meaning.specs.Events.{Event, Told, Standing, after_event, after_events, standing, effect_of, conflicts_at, halts_in, IsRunning, HasHaltedAt}
use Rattle.gem_meaning.specs.After.{record_size, stored_with, stored_after, log_after, pages_after}
use Rattle.gem_meaning.specs.Checkpoints.{MayCheck}
use Rattle.history_laws.proofs.Halts.{halts_same, halts_first, runs_front, stored_first, stored_more}
use Rattle.stone_core.specs.declared.port.CommitAnswer.TheVariants.{LogFull}
use Rattle.stone_core.specs.declared.port.CheckAnswer.TheVariants.{Full}
use Rattle.stone_core.specs.Port.{size_at, IsFree, MayPlace, AnswerFits, CheckFits}
use Rattle.gem_keeper.specs.Found.{Found, StandsFor}
use Rattle.gem_keeper.specs.Crashes.{FitsNow, KeepsOnly, StandsForEither}
use Rattle.stone_core.specs.Crashes.{StandsAfter, MayBeLeft, MayBeLeftDuring, MayHaveBeenLeft}
use Rattle.stone_core.specs.declared.port.CommitAnswer.{CommitAnswer}
use Rattle.stone_core.specs.declared.port.CheckAnswer.{CheckAnswer}
use Rattle.stone_core.specs.declared.port.CheckAnswer.TheVariants as check
use Rattle.stone_core.specs.declared.port.CommitAnswer.TheVariants as commit
use Rattle.stone_core.specs.Kept.{IsKept, IsHalting, CommitKeeps, CheckKeeps, HoldsDuring, CommitHolds, CheckHolds}
use Rattle.stone_core.proofs.Crashes.{keeps_less, keeps_then, nothing_done, fits_less, IsSameImage, same_image_after, stands_as, placed_stands, stands_stood, been_left, been_left_more, still_may_be_left, flies_next}

not_running : (before : List Event) (session number : ℕ) (entry : Option Entry) → IsRunning before
    → IsRunning (before ++ (session, Halted number entry) ∷ []) → ⊥
not_running before session number entry first running =
    let none : 0 ≡ 1 = sym (ap length running) ∙ ap length (halts_first before session number entry first) in
    omega (arith, none)

risen_since : (a b c : ℕ) → a ≤ b → HasRisen b c → HasRisen a c
risen_since a b c le risen = grind (arith, le, risen)

module _ {K : Type 0} {stored : K → Stored} {ready : K → Bool} {faults : K → ℕ} {tells : Bool} {moment : K → ℕ}
    {stands : K → Option Found} {left_since : K → ℕ → Option Found → Type 0} where
  -- before the first event
  pub first_kept : (o : Opened) (events : List Event) (started keeper : K) → started ≡ keeper
      → o.stored ≡ stored started → ready keeper ≡ true
      → (IsTrue tells → FitsNow moment stands left_since keeper (StandsFor o.image o.number)) → events ≡ []
      → IsHalting stored ready faults tells moment stands left_since (record { opened = o; events = events }) None started keeper
  unfolding after_events
  first_kept o events started keeper same stored_is is_ready fits none =
      let now : IsTrue tells → FitsNow moment stands left_since keeper (StandsAfter o events) =
      λ told. subst (λ es. FitsNow moment stands left_since keeper (StandsAfter o es)) (sym none) (fits told) in
      record {
        halted_is = sym (ap halts_in none);
        kept = record {
          later = let counts = ap faults same in omega (arith, counts);
          cause = λ halts. absurd (halts (ap halts_in none));
          is_ready = λ running. is_ready;
          has = λ running. sym (ap stored same) ∙ (sym stored_is ∙ (sym (stored_first o)
              ∙ ap (stored_after o) (sym none)));
          now = λ told running. now told;
          crash = λ told left since. inl ((now told).crash left since);
          since = λ told. subst (λ k. KeepsOnly moment left_since k keeper (MayHaveBeenLeft o events)) (sym same)
              (nothing_done keeper (MayHaveBeenLeft o events)
              (λ left since. stands_stood o events left ((now told).crash left since)));
        };
      }

  -- ---- crashes in a call, by its answer

  module _ (t : Told) (events : List Event) (started keeper now : K)
      (kept : IsKept stored ready faults tells moment stands left_since t started keeper) where
    -- nothing was done
    held_still : now ≡ keeper → HoldsDuring tells moment left_since t.opened t.events events keeper now
    held_still same told =
        subst (λ k. KeepsOnly moment left_since keeper k (MayBeLeftDuring t.opened t.events events)) (sym same)
        (nothing_done keeper (MayBeLeftDuring t.opened t.events events) (λ left since. inl (kept.crash told left since)))

    pub held_in_commit : (answer : CommitAnswer) → CommitKeeps faults keeper now answer
        → CommitHolds tells moment left_since t.opened t.events events keeper now answer
        → HoldsDuring tells moment left_since t.opened t.events events keeper now
    held_in_commit (commit.Placed number) keeps holds = holds
    held_in_commit commit.DiskFault keeps holds = holds
    held_in_commit (commit.Halted number) keeps holds = held_still keeps
    held_in_commit (commit.ReadOnly number) keeps holds = held_still keeps
    held_in_commit (commit.Conflicts found) keeps holds = held_still keeps
    held_in_commit (commit.LogFull length size) keeps holds = held_still keeps
    held_in_commit commit.NoMemory keeps holds = held_still keeps

    pub held_in_check : (answer : CheckAnswer) → CheckKeeps faults keeper now answer
        → CheckHolds tells moment left_since t.opened t.events events keeper now answer
        → HoldsDuring tells moment left_since t.opened t.events events keeper now
    held_in_check (check.Made number) keeps holds = holds
    held_in_check check.DiskFault keeps holds = holds
    held_in_check (check.Halted number) keeps holds = held_still keeps
    held_in_check (check.Full pages) keeps holds = held_still keeps
    held_in_check check.NoMemory keeps holds = held_still keeps

  module _ (t : Told) (halted : Option ℕ) (started keeper : K) (is : IsHalting stored ready faults tells moment stands left_since t halted started keeper) where
    pub runs : halted ≡ None → IsRunning t.events
    runs none = sym is.halted_is ∙ ap option_to_list none

    pub halted_at : (number : ℕ) → halted ≡ Some number → HasHaltedAt t.events number
    halted_at number some = sym is.halted_is ∙ ap option_to_list some

    module _ (event : Event) (none : halts_in (event ∷ []) ≡ []) where
      still_halts : halts_in (t.events ++ event ∷ []) ≡ halts_in t.events
      still_halts = halts_same t.events (event ∷ []) none

      -- an event that stores nothing
      quiet_later : ((s : Standing) (x : Stored) → stored_with t.opened s x event ≡ x)
          → ((s : Standing) → IsSameImage (after_event t.opened s event) s) → IsHalting stored ready faults tells moment stands left_since
          (record t { events = t.events ++ event ∷ [] }) halted started keeper
      quiet_later still stays =
          let same = same_image_after t.opened t.events event stays in
          record {
            halted_is = is.halted_is ∙ sym still_halts;
            kept = record {
              later = is.kept.later;
              cause = λ halts. is.kept.cause (λ running. halts (still_halts ∙ running));
              is_ready = λ running. is.kept.is_ready (runs_front t.events (event ∷ []) running);
              has = λ running. is.kept.has (runs_front t.events (event ∷ []) running)
                  ∙ sym (stored_more t.opened t.events event ∙ still (standing t) (stored_after t.opened t.events));
              now = λ told running. fits_less keeper _ _ same
                  (is.kept.now told (runs_front t.events (event ∷ []) running));
              crash = λ told left since.
                  still_may_be_left t.opened t.events event left same (is.kept.crash told left since);
              since = λ told. keeps_less started keeper _ _ (been_left_more t.opened t.events event)
                  (is.kept.since told);
            };
          }

      pub kept_quiet : (events : List Event) → events ≡ t.events ++ event ∷ []
          → ((s : Standing) (x : Stored) → stored_with t.opened s x event ≡ x)
          → ((s : Standing) → IsSameImage (after_event t.opened s event) s)
          → IsHalting stored ready faults tells moment stands left_since (record t { events = events }) halted started keeper
      kept_quiet events more still stays =
          subst (λ es. IsHalting stored ready faults tells moment stands left_since (record t { events = es }) halted started keeper) (sym more) (quiet_later still stays)

      -- an event at which the keeper stored what it says
      written_later : (now : K) → IsRunning t.events → faults keeper ≤ faults now → ready now ≡ true
          → stored now ≡ stored_with t.opened (standing t) (stored_after t.opened t.events) event
          → (IsTrue tells → FitsNow moment stands left_since now (StandsAfter t.opened (t.events ++ event ∷ [])))
          → (IsTrue tells → KeepsOnly moment left_since keeper now (MayHaveBeenLeft t.opened (t.events ++ event ∷ [])))
          → IsHalting stored ready faults tells moment stands left_since
          (record t { events = t.events ++ event ∷ [] }) halted started now
      written_later now running counts is_ready has fits keeps = record {
        halted_is = is.halted_is ∙ sym still_halts;
        kept = record {
          later = let before = is.kept.later in omega (arith, before, counts);
          cause = λ halts. absurd (halts (still_halts ∙ running));
          is_ready = λ _. is_ready;
          has = λ _. has ∙ sym (stored_more t.opened t.events event);
          now = λ told _. fits told;
          crash = λ told left since. inl ((fits told).crash left since);
          since = λ told. keeps_then started keeper now _
              (keeps_less started keeper _ _ (been_left_more t.opened t.events event) (is.kept.since told)) (keeps told);
        };
      }

    -- the record of a commit was added
    pub kept_placed : (events : List Event) (session : ℕ) (e : Entry) (effect : Effect) (now : K) (size : ℕ)
        → events ≡ t.events ++ (session, Placed e) ∷ [] → IsRunning t.events
        → faults keeper ≤ faults now → ready now ≡ true → stored now ≡ longer_by size (stored keeper)
        → size ≡ record_size t.opened (standing t) e
        → effect.objects ≡ effect_of t.opened (standing t) e
        → (IsTrue tells → FitsNow moment stands left_since now
        (StandsFor (with_objects (standing t).image effect.objects) ((standing t).number + 1)))
        → (IsTrue tells → KeepsOnly moment left_since keeper now
        (StandsForEither (standing t).image (standing t).number effect))
        → IsHalting stored ready faults tells moment stands left_since (record t { events = events }) halted started now
    kept_placed events session e effect now size more running counts is_ready stored_is size_is objects_are fits keeps =
        subst (λ es. IsHalting stored ready faults tells moment stands left_since (record t { events = es }) halted started now) (sym more)
        (written_later (session, Placed e) refl now running counts is_ready
        (stored_is ∙ ap₂ longer_by size_is (is.kept.has running))
        (λ told. fits_less now _ _ (placed_stands t session e effect objects_are) (fits told))
        (λ told. keeps_less keeper now _ _ (λ left either. ⊎_elim
        (λ stood. been_left_more t.opened t.events (session, Placed e) left (stands_stood t.opened t.events left stood))
        (λ made. stands_stood t.opened (t.events ++ (session, Placed e) ∷ []) left
        (placed_stands t session e effect objects_are left made)) either) (keeps told)))

    -- the image was stored
    pub kept_checked : (events : List Event) (session : ℕ) (now : K) (image : Image) (number : ℕ)
        → events ≡ t.events ++ (session, Checked) ∷ [] → IsRunning t.events
        → faults keeper ≤ faults now → ready now ≡ true
        → stored now ≡ after_checkpoint t.opened.counts_pages image number
        → image ≡ (standing t).image → number ≡ (standing t).number
        → (IsTrue tells → FitsNow moment stands left_since now (StandsFor image number))
        → (IsTrue tells → KeepsOnly moment left_since keeper now (StandsFor image number))
        → IsHalting stored ready faults tells moment stands left_since (record t { events = events }) halted started now
    kept_checked events session now image number more running counts is_ready stored_is image_is number_is fits keeps =
        let same = same_image_after t.opened t.events (session, Checked) (λ s. (refl, refl)) in
        let stands_so = stands_as t.opened t.events image number image_is number_is in
        subst (λ es. IsHalting stored ready faults tells moment stands left_since (record t { events = es }) halted started now) (sym more)
        (written_later (session, Checked) refl now running counts is_ready
        (stored_is ∙ ap₂ (after_checkpoint t.opened.counts_pages) image_is number_is)
        (λ told. fits_less now _ _ (λ left stood. same left (stands_so left stood)) (fits told))
        (λ told. keeps_less keeper now _ _ (λ left stood. been_left_more t.opened t.events (session, Checked) left
        (stands_stood t.opened t.events left (stands_so left stood))) (keeps told)))

    -- the disk failed
    halted_later : (session number : ℕ) (entry : Option Entry) (now : K) → IsRunning t.events
        → faults keeper ≤ faults now → HasRisen (faults keeper) (faults now)
        → (IsTrue tells → KeepsOnly moment left_since keeper now
        (MayBeLeft t.opened (t.events ++ (session, Halted number entry) ∷ [])))
        → IsHalting stored ready faults tells moment stands left_since
        (record t { events = t.events ++ (session, Halted number entry) ∷ [] }) (Some number) started now
    halted_later session number entry now running counts risen keeps =
        let event : Event = (session, Halted number entry) in
        record {
          halted_is = sym (halts_first t.events session number entry running);
          kept = record {
            later = let before = is.kept.later in omega (arith, before, counts);
            cause = λ _. risen_since (faults started) (faults keeper) (faults now) is.kept.later risen;
            is_ready = λ runs_on. absurd (not_running t.events session number entry running runs_on);
            has = λ runs_on. absurd (not_running t.events session number entry running runs_on);
            now = λ told runs_on. absurd (not_running t.events session number entry running runs_on);
            crash = λ told. (keeps told).now;
            since = λ told. keeps_then started keeper now _
                (keeps_less started keeper _ _ (been_left_more t.opened t.events event) (is.kept.since told))
                (keeps_less keeper now _ _ (been_left t.opened (t.events ++ event ∷ [])) (keeps told));
          };
        }

    -- it failed as the commit was to be stored
    pub kept_flying : (events : List Event) (session number : ℕ) (e : Entry) (effect : Effect) (now : K)
        → events ≡ t.events ++ (session, Halted number (Some e)) ∷ [] → IsRunning t.events
        → faults keeper ≤ faults now → HasRisen (faults keeper) (faults now)
        → effect.objects ≡ effect_of t.opened (standing t) e
        → (IsTrue tells → KeepsOnly moment left_since keeper now
        (StandsForEither (standing t).image (standing t).number effect))
        → IsHalting stored ready faults tells moment stands left_since (record t { events = events }) (Some number) started now
    kept_flying events session number e effect now more running counts risen objects_are keeps =
        let event : Event = (session, Halted number (Some e)) in
        let same = same_image_after t.opened t.events event (λ s. (refl, refl)) in
        subst (λ es. IsHalting stored ready faults tells moment stands left_since (record t { events = es }) (Some number) started now) (sym more)
        (halted_later session number (Some e) now running counts risen
        (λ told. keeps_less keeper now _ _ (λ left either. ⊎_elim
        (λ stood. inl (same left stood))
        (λ made. inr (flies_next t session number e left (placed_stands t session e effect objects_are left made))) either)
        (keeps told)))

    -- it failed as the image was to be stored
    pub kept_halted : (events : List Event) (session number : ℕ) (image : Image) (stood : ℕ) (now : K)
        → events ≡ t.events ++ (session, Halted number None) ∷ [] → IsRunning t.events
        → faults keeper ≤ faults now → HasRisen (faults keeper) (faults now)
        → image ≡ (standing t).image → stood ≡ (standing t).number
        → (IsTrue tells → KeepsOnly moment left_since keeper now (StandsFor image stood))
        → IsHalting stored ready faults tells moment stands left_since (record t { events = events }) (Some number) started now
    kept_halted events session number image stood now more running counts risen image_is number_is keeps =
        let event : Event = (session, Halted number None) in
        let same = same_image_after t.opened t.events event (λ s. (refl, refl)) in
        let stands_so = stands_as t.opened t.events image stood image_is number_is in
        subst (λ es. IsHalting stored ready faults tells moment stands left_since (record t { events = es }) (Some number) started now) (sym more)
        (halted_later session number None now running counts risen
        (λ told. keeps_less keeper now _ _ (λ left stands. inl (same left (stands_so left stands))) (keeps told)))

    -- ---- what crashes in a call leave

    -- the record of a commit was added
    pub held_placed : (events : List Event) (session : ℕ) (e : Entry) (effect : Effect) (now : K)
        → events ≡ t.events ++ (session, Placed e) ∷ [] → effect.objects ≡ effect_of t.opened (standing t) e
        → KeepsOnly moment left_since keeper now (StandsForEither (standing t).image (standing t).number effect)
        → KeepsOnly moment left_since keeper now (MayBeLeftDuring t.opened t.events events)
    held_placed events session e effect now more objects_are keeps =
        subst (λ es. KeepsOnly moment left_since keeper now (MayBeLeftDuring t.opened t.events es)) (sym more)
        (keeps_less keeper now _ _ (λ left either. ⊎_elim (λ stood. inl (inl stood))
        (λ made. inr (inl (placed_stands t session e effect objects_are left made))) either) keeps)

    -- the disk failed as it was to be stored
    pub held_flying : (events : List Event) (session number : ℕ) (e : Entry) (effect : Effect) (now : K)
        → events ≡ t.events ++ (session, Halted number (Some e)) ∷ []
        → effect.objects ≡ effect_of t.opened (standing t) e
        → KeepsOnly moment left_since keeper now (StandsForEither (standing t).image (standing t).number effect)
        → KeepsOnly moment left_since keeper now (MayBeLeftDuring t.opened t.events events)
    held_flying events session number e effect now more objects_are keeps =
        subst (λ es. KeepsOnly moment left_since keeper now (MayBeLeftDuring t.opened t.events es)) (sym more)
        (keeps_less keeper now _ _ (λ left either. ⊎_elim (λ stood. inl (inl stood))
        (λ made. inr (inr (flies_next t session number e left
        (placed_stands t session e effect objects_are left made)))) either) keeps)

    -- the image was stored, or was to be
    pub held_checked : (events : List Event) (now : K) (image : Image) (number : ℕ) → image ≡ (standing t).image
        → number ≡ (standing t).number → KeepsOnly moment left_since keeper now (StandsFor image number)
        → KeepsOnly moment left_since keeper now (MayBeLeftDuring t.opened t.events events)
    held_checked events now image number image_is number_is = keeps_less keeper now _ _
        (λ left stands. inl (inl (stands_as t.opened t.events image number image_is number_is left stands)))

    -- ---- what a commit answers

    module _ (done : TxnRecord) (running : IsRunning t.events) (changed : IsUnchanged done → ⊥)
        (no_conflict : conflicts_at (standing t) done ≡ []) where
      length_is : (stored keeper).log_length ≡ log_after t.opened t.events
      length_is = ap (λ (s : Stored). s.log_length) (is.kept.has running)

      is_free : IsFree t.opened t.events done
      is_free = record { running = running; changed = changed; no_conflict = no_conflict }

      -- the log has room for the record
      pub may_place : (size : ℕ) → size ≡ size_at (standing t) done
          → (stored keeper).log_length + size ≤ LOG_LIMIT → MayPlace t.opened t.events done
      may_place size size_is room = record {
        free = is_free;
        fits = let same = length_is in omega (arith, same, size_is, room);
      }

      -- it has none
      pub is_full : (size length bytes : ℕ) → size ≡ size_at (standing t) done
          → LOG_LIMIT < (stored keeper).log_length + size → length ≡ (stored keeper).log_length → bytes ≡ size
          → AnswerFits t.opened t.events done (LogFull length bytes)
      is_full size length bytes size_is over told bytes_are =
          (is_free, told ∙ length_is, bytes_are ∙ size_is, omega (arith, over, told, bytes_are))

    -- ---- what a checkpoint answers

    module _ (running : IsRunning t.events) (image : Image) (image_is : image ≡ (standing t).image) where
      pages_are : pages_needed t.opened.counts_pages (stored keeper) image ≡ pages_after t.opened t.events
      pages_are = ap₂ (pages_needed t.opened.counts_pages) (is.kept.has running) image_is

      -- it doesn't take too many pages
      pub may_check : pages_needed t.opened.counts_pages (stored keeper) image ≤ PAGE_LIMIT
          → MayCheck t.opened t.events
      may_check few = record {
        running = running;
        fits = let same = pages_are in omega (arith, same, few);
      }

      -- it does
      pub is_too_large : (pages : ℕ)
          → PAGE_LIMIT < pages_needed t.opened.counts_pages (stored keeper) image
          → pages ≡ pages_needed t.opened.counts_pages (stored keeper) image
          → CheckFits t.opened t.events (Full pages)
      is_too_large pages over is_pages = (running, is_pages ∙ pages_are, omega (arith, over, is_pages))

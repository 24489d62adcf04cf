-- Along a history every image is sound, what it has stays, and a session's further names are free.
use Rattle.std.proofs.Common.{◌≡◌, ◌≢◌, ℕ, ◌+◌, ◌≤◌, ◌⊎◌, inl, inr, Bool, true, false, cond, List, [], ◌∷◌, ◌++◌, Option, Some, None, refl, sym, ap, subst, ◌∙◌, arith, append_assoc, append-nil}
use Rattle.std.specs.Ordering.{nat_cmp, eq_by_cmp, is_eq}
use Rattle.std.specs.Cmp.{nat_cmp_total, tied_itself}
use Rattle.std.specs.FinMap.{get, get-insert, get-empty}
use Rattle.std.specs.Option.{unwrap_or}
use Rattle.std.proofs.lemmas.Bool.{false≢true, cases_lt}
use Rattle.gem_meaning.specs.gem_value.Oid.{oid_number}
use Rattle.gem_meaning.specs.gem_image.Image.{IsImage}
use Rattle.gem_meaning.specs.gem_record.declared.record.Entry.{Entry}
use Rattle.gem_meaning.specs.gem_sound.Sound.{IsSoundImage}
use Rattle.gem_meaning.specs.object_programs.Laws.{Stays}
use Rattle.gem_meaning.specs.declared.event.What.TheVariants.{Placed, Held, Dropped, Left, Checked, Halted}
use Rattle.gem_meaning.specs.Opened.{Opened, base_serial, session_serial}
use Rattle.gem_meaning.specs.Events.{Event, Told, Standing, image_at, next_counter, NamesAreFree, run_at_place, after_event, before_events, after_events, standing}
use Rattle.gem_meaning.specs.Serial.{IsPlaced, IsSerialEvent, IsSerialFrom, IsSerial, IsConsistent, CanServe}
use Rattle.history_laws.proofs.Views.{IsGrown, image_stays, image_now, is_grown, after_one_more, number_at_least}
use Rattle.history_laws.proofs.Effects.{tied}
use Rattle.history_laws.proofs.Stays.{stays_itself, stays_along}
use Rattle.history_laws.proofs.Serials.{serials_differ, none_at_opening}
use Rattle.history_laws.proofs.Commits.{CommitsKeep}
use Rattle.history_laws.proofs.Sound.{IsSoundAt, AllSound, next_is_image, next_is_sound, next_keeps, still_free, names_grow}

apart_from : (a b : ℕ) → eq_by_cmp nat_cmp a b ≡ false → a ≢ b
apart_from a b is same = false≢true (sym is
    ∙ (ap (eq_by_cmp nat_cmp a) (sym same) ∙ ap is_eq (tied_itself nat_cmp_total a)))

-- the counter after those of the names that a session's commits drew, when one more was placed
abbrev pub IsCounterNow : (drawn now : Option ℕ) → (author session next : ℕ) → Type 0
IsCounterNow drawn now author session next = ((unwrap_or now 1 ≡ next) × (session ≡ author))
    ⊎ ((unwrap_or now 1 ≡ unwrap_or drawn 1) × (session ≢ author))

counter_by : (drawn : Option ℕ) (author session next : ℕ) (here : Bool)
    → eq_by_cmp nat_cmp session author ≡ here
    → IsCounterNow drawn (cond here (Some next) drawn) author session next
counter_by drawn author session next true is = inl (refl, tied session author is)
counter_by drawn author session next false is = inr (refl, apart_from session author is)

pub counter_after : (o : Opened) (s : Standing) (author : ℕ) (e : Entry) (session : ℕ)
    → IsCounterNow (get s.drawn session) (get (after_event o s (author, Placed e)).drawn session)
    author session (run_at_place o s e).world.next
counter_after o s author e session =
    let next = (run_at_place o s e).world.next in
    subst (λ now. IsCounterNow (get s.drawn session) now author session next)
    (sym (get-insert nat_cmp_total s.drawn author next session))
    (counter_by (get s.drawn session) author session next (eq_by_cmp nat_cmp session author) refl)

-- ---- one commit more

module _ (o : Opened) (before : List Event) (author : ℕ) (e : Entry) (serves : CanServe o)
    (law : CommitsKeep) (placed : IsPlaced o before author e)
    (all : AllSound o (after_events o before)) where
  abbrev s : Standing
  s = after_events o before

  abbrev after : Standing
  after = after_event o s (author, Placed e)

  grown : IsGrown o s
  grown = is_grown o before

  kept : Stays s.image after.image
  kept = next_keeps o s e serves grown all placed.of_script placed.begins law

  placed_image : (number : ℕ) → o.number ≤ number → number ≤ s.number → IsSoundAt after number
  placed_image number from to =
      let old = all.images number from to in
      let same = sym (image_stays o s (author, Placed e) number grown from to) in
      record {
        image = subst IsImage same old.image;
        sound = subst IsSoundImage same old.sound;
        stays = subst (λ image. Stays image after.image) same
            (stays_along (image_at s number) s.image after.image old.stays kept);
      }

  placed_now : (number : ℕ) → number ≡ s.number + 1 → IsSoundAt after number
  placed_now number is =
      let same = sym (image_now after number is) in
      record {
        image = subst IsImage same
            (next_is_image o s e serves grown all placed.of_script placed.begins law placed.merges);
        sound = subst IsSoundImage same
            (next_is_sound o s e serves grown all placed.of_script placed.begins law placed.merges);
        stays = subst (λ image. Stays image after.image) same (stays_itself after.image);
      }

  placed_images : (number : ℕ) → o.number ≤ number → number ≤ s.number + 1 → IsSoundAt after number
  placed_images number from to = elim (cases_lt s.number number) [
    | inl later ↦ placed_now number (omega (arith, later, to))
    | inr older ↦ placed_image number from older
  ]

  placed_free : (session : ℕ) → 1 ≤ session → NamesAreFree o after session
  placed_free session one counter from below = by (counter_after o s author e session)
    where
      grows : next_counter s e.session ≤ (run_at_place o s e).world.next
      grows =
          let names = placed.begins.names in
          let more = names_grow o s e serves grown all placed.of_script placed.begins in
          omega (arith, names, more)

      own : session ≡ e.session → (run_at_place o s e).world.next ≤ counter
          → get after.image (oid_number (session_serial o session) counter) ≡ None
      own same above = still_free o s e serves grown all placed.of_script placed.begins
          (oid_number (session_serial o session) counter)
          (all.free session one counter
          (subst (λ at. next_counter s at ≤ counter) (sym same) (omega (arith, grows, above))) below)
          (λ drawn is start end under. omega (arith, same, above, is, end, below, under))

      other : session ≢ e.session → next_counter s session ≤ counter
          → get after.image (oid_number (session_serial o session) counter) ≡ None
      other apart above = still_free o s e serves grown all placed.of_script placed.begins
          (oid_number (session_serial o session) counter) (all.free session one counter above below)
          (λ drawn is start end under. serials_differ (base_serial o) session e.session counter drawn
          one placed.of_script.session.0 apart below under is)

      by : IsCounterNow (get s.drawn session) (get after.drawn session) author session
          (run_at_place o s e).world.next
          → get after.image (oid_number (session_serial o session) counter) ≡ None
      by (inl now) = let is = now.0 in
          own (now.1 ∙ sym placed.of_session) (omega (arith, is, from))
      by (inr now) = let is = now.0 in
          other (λ same. now.1 (same ∙ placed.of_session)) (omega (arith, is, from))

  placed_some : (session : ℕ) → 1 ≤ next_counter after session
  placed_some session = by (counter_after o s author e session)
    where
      by : IsCounterNow (get s.drawn session) (get after.drawn session) author session
          (run_at_place o s e).world.next → 1 ≤ next_counter after session
      by (inl now) =
          let is = now.0 in
          let least = all.some_name e.session in
          let names = placed.begins.names in
          let more = names_grow o s e serves grown all placed.of_script placed.begins in
          omega (arith, is, least, names, more)
      by (inr now) =
          let is = now.0 in
          let least = all.some_name session in
          omega (arith, is, least)

  pub placed_sound : AllSound o after
  placed_sound =
      record { images = placed_images; free = placed_free; some_name = placed_some }

-- ---- events

pub sound_event : (o : Opened) (before : List Event) (event : Event) → CanServe o → CommitsKeep
    → IsSerialEvent o before event → AllSound o (after_events o before)
    → AllSound o (after_event o (after_events o before) event)
sound_event o before (session, Placed e) serves law placed all =
    placed_sound o before session e serves law placed all
sound_event o before (session, Held oid kind) serves law free all = record {
  images = λ number from to. let old = all.images number from to in
      record { image = old.image; sound = old.sound; stays = old.stays };
  free = all.free;
  some_name = all.some_name;
}
sound_event o before (session, Dropped oid) serves law held all = record {
  images = λ number from to. let old = all.images number from to in
      record { image = old.image; sound = old.sound; stays = old.stays };
  free = all.free;
  some_name = all.some_name;
}
sound_event o before (session, Left) serves law held all = record {
  images = λ number from to. let old = all.images number from to in
      record { image = old.image; sound = old.sound; stays = old.stays };
  free = all.free;
  some_name = all.some_name;
}
sound_event o before (session, Checked) serves law running all = all
sound_event o before (session, Halted number entry) serves law serial all = all

sound_first : (o : Opened) → CanServe o → AllSound o (before_events o)
sound_first o serves = record {
  images = λ number from to.
      let same = sym (image_now (before_events o) number (omega (arith, from, to))) in
      record {
        image = subst IsImage same serves.image;
        sound = subst IsSoundImage same serves.sound;
        stays = subst (λ image. Stays image o.image) same (stays_itself o.image);
      };
  free = λ session one counter from below. none_at_opening o session counter below;
  some_name = λ session. first_name session;
}
  where
    first_name : (session : ℕ) → 1 ≤ next_counter (before_events o) session
    first_name session = subst (λ found. 1 ≤ unwrap_or found 1) (sym (get-empty nat_cmp session)) (omega arith)

sound_from : (o : Opened) (before events : List Event) → CanServe o → CommitsKeep
    → IsSerialFrom o before events → AllSound o (after_events o before)
    → AllSound o (after_events o (before ++ events))
sound_from o before [] serves law serial all =
    subst (λ es. AllSound o (after_events o es)) (sym (append-nil before)) all
sound_from o before (event ∷ events) serves law serial all =
    let joined = append_assoc before (event ∷ []) events in
    let one = after_one_more o before event in
    subst (λ es. AllSound o (after_events o es)) joined
    (sound_from o (before ++ event ∷ []) events serves law serial.1
    (subst (λ s. AllSound o s) (sym one)
    (sound_event o before event serves law serial.0 all)))

pub all_sound : (t : Told) → CommitsKeep → CanServe t.opened → IsSerial t
    → AllSound t.opened (standing t)
unfolding IsSerial after_events
all_sound t law serves serial =
    sound_from t.opened [] t.events serves law serial (sound_first t.opened serves)

-- ---- what a Stone and its sessions ask

pub stays_since : (t : Told) (view : ℕ) → CommitsKeep → CanServe t.opened → IsConsistent t
    → t.opened.number ≤ view → view ≤ (standing t).number
    → Stays (image_at (standing t) view) (standing t).image
stays_since t view law serves consistent from to =
    ((all_sound t law serves consistent.serial).images view from to).stays

pub images_are_sound : (t : Told) → CommitsKeep → CanServe t.opened → IsConsistent t
    → IsImage (standing t).image × IsSoundImage (standing t).image
images_are_sound t law serves consistent =
    let now = (all_sound t law serves consistent.serial).images (standing t).number
    (number_at_least t.opened t.events) (omega arith) in
    let same = image_now (standing t) (standing t).number refl in
    (subst IsImage same now.image, subst IsSoundImage same now.sound)

pub names_are_free : (t : Told) (session : ℕ) → CommitsKeep → CanServe t.opened → IsConsistent t
    → 1 ≤ session → NamesAreFree t.opened (standing t) session
names_are_free t session law serves consistent one =
    (all_sound t law serves consistent.serial).free session one

-- A session's locks and unlocks.
use Rattle.std.proofs.Common.{◌≡◌, ◌∙◌, refl, sym, ap, subst, ℕ, ◌+◌, ◌-◌, Bool, true, false, true≢false, not, ◌||◌, nat_le, Option, Some, None, IsSome, is_some, List, [], ◌∷◌, ◌++◌, append-nil}
use Rattle.std.proofs.lemmas.Bool.{false≢true}
use Rattle.std.specs.List.{slice_get}
use Rattle.std.specs.FinMap.{get}
use Rattle.gem_object.specs.texts.Bytes.{Bytes as Text}
use Rattle.gem_image.specs.Image.{Image, Contents, objects_in}
use Rattle.gem_world.specs.World.{Setting, World, before_changes}
use Rattle.gem_replies.specs.declared.reply.Line.{Line}
use Rattle.gem_replies.specs.declared.reply.Line.TheVariants.{NoName}
use Rattle.lock_table.specs.declared.lock.LockKind.{LockKind}
use Rattle.lock_table.specs.Locks.{kind_held, denied_for}
use Rattle.running_objects.specs.object_programs.Fixed.{fixed_of}
use Rattle.running_objects.proofs.object_programs_lemmas.Bases.{some_there}
use Rattle.shell_words.specs.declared.script.Command.TheVariants.{Lock, Unlock}
use Rattle.gem_meaning.specs.declared.event.What.TheVariants.{Held, Dropped}
use Rattle.gem_meaning.specs.Opened.{Opened, commands_of}
use Rattle.gem_meaning.specs.Events.{Event, Told, image_at, after_events, standing}
use Rattle.gem_meaning.specs.Serial.{CanServe, IsConsistent}
use Rattle.gem_meaning.specs.State.{SessionState}
use Rattle.gem_meaning.specs.Runs.{setting_of}
use Rattle.gem_meaning.specs.Locks.{Target, replies, asks, lock_target, unlock_target, IsTarget, so_far, spoiled, LockOutcome, UnlockOutcome, kind_asked}
use Rattle.stone_core.specs.Port.{PortState, LockSays, UnlockSays}
use Rattle.stone_core.specs.declared.port.LockAnswer.{LockAnswer as PortAnswer}
use Rattle.stone_core.specs.declared.port.LockAnswer.TheVariants.{Granted, Denied, NoMemory as NoMemoryForLock}
use Rattle.gem_session.specs.declared.session.Session.{Session}
use Rattle.gem_session.specs.declared.targets.Target.{Target as Found}
use Rattle.gem_session.specs.declared.targets.Target.TheVariants.{Replies, Asks}
use Rattle.gem_session.specs.Names.{target_by}
use Rattle.gem_session.specs.Running.{may_ask, lock_line, unlock_line, session_state, StandsBefore, ComesTo, Replied}
use Rattle.gem_session.proofs.Others.{nobody_came}
use Rattle.gem_session.proofs.Passing.{Passes, pass_others, pass_twice, pass_held, pass_dropped}
use Rattle.gem_session.proofs.Lookups.{some_as_of, some_contents}
use Rattle.gem_session.proofs.Steps.{stands_kept}
use Rattle.gem_session.proofs.Images.{ImagesStay}
use Rattle.gem_session.proofs.LockTargets.{reach_so_far, asked_stood, lacking_all, nothing_to_lock}
use Rattle.running_objects.specs.object_programs.Laws.{IsInReach}
use Rattle.gem_meaning.specs.State.{run_so_far}

abbrev At : Opened → List Event → Told
At o es = record { opened = o; events = es }

module _ (o : Opened) (es : List Event) (number : ℕ) (s : Session) (stands : StandsBefore (At o es) number s) where
  abbrev St : SessionState
  St = session_state s

  -- what is seen gives the target
  target_by_spoiled : (give : Setting → World → Target) (es' : List Event) (is : Bool) → s.spoiled ≡ is
      → IsTarget give (record { opened = o; number = number; before = es; after = es' }) St (give s.view.state.seen.setting s.view.state.seen.world)
  target_by_spoiled give es' true is = subst
      (λ x. IsTarget give (record { opened = o; number = number; before = es; after = es' }) St (give x s.view.state.seen.world))
      (sym stands.setting) (spoiled s.view.state.seen.world is)
  target_by_spoiled give es' false is = subst
      (λ x. IsTarget give (record { opened = o; number = number; before = es; after = es' }) St (give x s.view.state.seen.world))
      (sym stands.setting)
      (subst (λ w. IsTarget give (record { opened = o; number = number; before = es; after = es' }) St (give (setting_of o es St) w))
      (sym (stands.world is)) (so_far is))

  pub target_is : (give : Setting → World → Target) (es' : List Event) (target : Target) → target ≡ give s.view.state.seen.setting s.view.state.seen.world
      → IsTarget give (record { opened = o; number = number; before = es; after = es' }) St target
  target_is give es' target is = subst (IsTarget give (record { opened = o; number = number; before = es; after = es' }) St) (sym is)
      (target_by_spoiled give es' s.spoiled refl)

  module _ (write : Bool) (name : Text) (is : slice_get (commands_of o.script s.session) (number - 1) ≡ Some (Lock write name)) where
    kept_lock : (es' : List Event) → Passes o s.session es es' → StandsBefore (At o es') (number + 1) s
    kept_lock es' passes = stands_kept o es es' number s (Lock write name) is tt refl (λ m. refl) stands passes

    -- a lock without a look at the Stone
    pub lock_replied : (line : Line) → replies line ≡ lock_target (kind_asked write) name s.view.state.seen.setting s.view.state.seen.world
        → Replied o number es es s (Lock write name) (line ∷ []) s
    lock_replied line target = record {
      of_session = refl;
      says = (
        line,
        refl,
        record {
          target = replies line;
          is_target = target_is (lock_target (kind_asked write) name) es (replies line) target;
          reply = (refl, refl);
          stays = refl;
        },
      );
      stands = kept_lock es (pass_others o s.session es es (nobody_came s.session es));
    }

    -- a lock of a name at which nothing is found, where nobody knows what the transaction has done
    pub lock_without : s.spoiled ≡ true → Replied o number es es s (Lock write name) (NoName name ∷ []) s
    lock_without lost = record {
      of_session = refl;
      says = (
        NoName name,
        refl,
        record {
          target = replies (NoName name);
          is_target =
              let setting = setting_of o es St in
              subst (IsTarget (lock_target (kind_asked write) name) (record { opened = o; number = number; before = es; after = es }) St)
              (sym (nothing_to_lock (kind_asked write) name setting)) (spoiled (lacking_all setting) lost);
          reply = (refl, refl);
          stays = refl;
        },
      );
      stands = kept_lock es (pass_others o s.session es es (nobody_came s.session es));
    }

    passes_lock : (es' : List Event) (oid : ℕ) (answer : PortAnswer) → LockSays o es es' s.session oid (kind_asked write) answer → Passes o s.session es es'
    passes_lock es' oid (Granted kind last) says =
        subst (Passes o s.session es) (sym says.events)
        (pass_twice o s.session es (es ++ says.others) ((es ++ says.others) ++ (s.session, Held oid kind) ∷ [])
        (pass_others o s.session es (es ++ says.others) (says.others, says.are_others, refl))
        (pass_held o s.session (es ++ says.others) s.session oid kind))
    passes_lock es' oid (Denied holder held) says =
        pass_others o s.session es es' (says.others, says.are_others, says.events ∙ append-nil (es ++ says.others))
    passes_lock es' oid NoMemoryForLock says =
        pass_others o s.session es es' (says.others, says.are_others, says.events ∙ append-nil (es ++ says.others))

    lock_answer : (es' : List Event) (oid : ℕ) (answer : PortAnswer) → LockSays o es es' s.session oid (kind_asked write) answer
        → LockOutcome (record { opened = o; number = number; before = es; after = es' }) St (kind_asked write) oid (lock_line answer (kind_asked write) oid s.number)
    lock_answer es' oid (Granted kind last) says = (
      refl,
      record {
        others = says.others;
        are_others = says.are_others;
        after = says.events;
        free = says.fits.0;
        kind_is = says.fits.1;
        clean_is = ap (λ n. nat_le n s.number) says.fits.2;
      },
    )
    lock_answer es' oid (Denied holder held) says =
        let end : es' ≡ es ++ says.others = says.events ∙ append-nil (es ++ says.others) in (
          refl,
          refl,
          record {
            came = (says.others, says.are_others, end);
            in_the_way = ap (λ x. denied_for (after_events o x).locks s.session oid (kind_asked write)) end ∙ says.fits;
          },
        )
    lock_answer es' oid NoMemoryForLock says =
        let end : es' ≡ es ++ says.others = says.events ∙ append-nil (es ++ says.others) in
        ((says.others, says.are_others, end), ap (λ x. denied_for (after_events o x).locks s.session oid (kind_asked write)) end ∙ says.fits)

    -- a lock that the Stone was asked for
    pub lock_asked : (es' : List Event) (oid : ℕ) (answer : PortAnswer)
        → asks oid ≡ lock_target (kind_asked write) name s.view.state.seen.setting s.view.state.seen.world
        → LockSays o es es' s.session oid (kind_asked write) answer
        → Replied o number es es' s (Lock write name) (lock_line answer (kind_asked write) oid s.number ∷ []) s
    lock_asked es' oid answer target says = record {
      of_session = refl;
      says = (
        lock_line answer (kind_asked write) oid s.number,
        refl,
        record {
          target = asks oid;
          is_target = target_is (lock_target (kind_asked write) name) es' (asks oid) target;
          reply = lock_answer es' oid answer says;
          stays = refl;
        },
      );
      stands = kept_lock es' (passes_lock es' oid answer says);
    }

  module _ (name : Text) (is : slice_get (commands_of o.script s.session) (number - 1) ≡ Some (Unlock name)) where
    kept_unlock : (es' : List Event) → Passes o s.session es es' → StandsBefore (At o es') (number + 1) s
    kept_unlock es' passes = stands_kept o es es' number s (Unlock name) is tt refl (λ m. refl) stands passes

    pub unlock_replied : (line : Line) → replies line ≡ unlock_target name s.view.state.seen.setting s.view.state.seen.world
        → Replied o number es es s (Unlock name) (line ∷ []) s
    unlock_replied line target = record {
      of_session = refl;
      says = (
        line,
        refl,
        record {
          target = replies line;
          is_target = target_is (unlock_target name) es (replies line) target;
          reply = (refl, refl);
          stays = refl;
        },
      );
      stands = kept_unlock es (pass_others o s.session es es (nobody_came s.session es));
    }

    passes_unlock : (es' : List Event) (oid : ℕ) (held : Bool) → UnlockSays o es es' s.session oid held → Passes o s.session es es'
    passes_unlock es' oid true says =
        subst (Passes o s.session es) (sym says.events)
        (pass_twice o s.session es (es ++ says.others) ((es ++ says.others) ++ (s.session, Dropped oid) ∷ [])
        (pass_others o s.session es (es ++ says.others) (says.others, says.are_others, refl))
        (pass_dropped o s.session (es ++ says.others) s.session oid))
    passes_unlock es' oid false says =
        pass_others o s.session es es' (says.others, says.are_others, says.events ∙ append-nil (es ++ says.others))

    not_held : (kind : Option LockKind) → false ≡ is_some kind → kind ≡ None
    not_held None none = refl
    not_held (Some kind) none = absurd (false≢true none)

    unlock_answer : (es' : List Event) (oid : ℕ) (held : Bool) → UnlockSays o es es' s.session oid held
        → UnlockOutcome (record { opened = o; number = number; before = es; after = es' }) St oid (unlock_line held oid)
    unlock_answer es' oid true says = (
      refl,
      record {
        others = says.others;
        are_others = says.are_others;
        after = says.events;
        held = sym says.held_is;
      },
    )
    unlock_answer es' oid false says =
        let end : es' ≡ es ++ says.others = says.events ∙ append-nil (es ++ says.others) in (
          refl,
          (says.others, says.are_others, end),
          not_held (kind_held (after_events o es').locks s.session oid)
              (says.held_is ∙ ap (λ x. is_some (kind_held (after_events o x).locks s.session oid)) (sym end)),
        )

    pub unlock_asked : (es' : List Event) (oid : ℕ) (held : Bool)
        → asks oid ≡ unlock_target name s.view.state.seen.setting s.view.state.seen.world → UnlockSays o es es' s.session oid held
        → Replied o number es es' s (Unlock name) (unlock_line held oid ∷ []) s
    unlock_asked es' oid held target says = record {
      of_session = refl;
      says = (
        unlock_line held oid,
        refl,
        record {
          target = asks oid;
          is_target = target_is (unlock_target name) es' (asks oid) target;
          reply = unlock_answer es' oid held says;
          stays = refl;
        },
      );
      stands = kept_unlock es' (passes_unlock es' oid held says);
    }

-- ---- what the Stone is asked about is there

-- what stood at a name in the image of a view still stands there
there_now : (image now : Image) (oid : ℕ) → ((name : ℕ) (object : Contents) → objects_in image name ≡ Some object → is_some (objects_in now name) ≡ true)
    → (found : Option Contents) → objects_in image oid ≡ found → is_some found ≡ true → is_some (get now oid) ≡ true
there_now image now oid stays None is some = absurd (false≢true some)
there_now image now oid stays (Some object) is some = sym (some_contents (get now oid)) ∙ stays oid object is

module _ (o : Opened) (es : List Event) (number : ℕ) (s : Session) (kind : LockKind) (name : Text) (oid : ℕ) (stands : StandsBefore (At o es) number s)
    (asked : asks oid ≡ lock_target kind name s.view.state.seen.setting s.view.state.seen.world) where
  abbrev Viewed : Image
  Viewed = image_at (after_events o es) s.number

  -- the transaction so far tells it
  seen_to_stand : s.spoiled ≡ false → is_some (objects_in Viewed oid) ≡ true
  seen_to_stand calm =
      let st = session_state s in
      let setting = s.view.state.seen.setting in
      let reach : IsInReach setting s.view.state.seen.world =
      subst (λ w. IsInReach setting w) (sym (stands.world calm)) (subst (λ x. IsInReach x (run_so_far o es number st).world) (sym stands.setting) (reach_so_far o es number st)) in
      let there = asked_stood kind setting s.view.state.seen.world (unlock_target name setting s.view.state.seen.world) oid reach asked in
      sym (some_as_of (objects_in Viewed oid) (objects_in Viewed oid)) ∙ sym (ap (λ x. is_some (before_changes oid x)) stands.setting) ∙ there

  -- or a look at the image does
  stood_there : (lost : Bool) → s.spoiled ≡ lost → (not lost || is_some (get s.image oid)) ≡ true → is_some (objects_in Viewed oid) ≡ true
  stood_there false calm may = seen_to_stand calm
  stood_there true lost may = some_contents (get Viewed oid) ∙ sym (ap (λ (i : Image). is_some (get i oid)) stands.image) ∙ may

  pub lock_there : ImagesStay → CanServe o → IsConsistent (At o es) → may_ask s oid ≡ true → IsSome (get (after_events o es).image oid)
  lock_there stay serves consistent may =
      let stays = stay (At o es) s.number serves consistent.serial stands.from stands.to in
      there_now Viewed (after_events o es).image oid
      (λ at object is. ap is_some (some_there (objects_in (after_events o es).image at) (fixed_of object) (stays at object is)).1)
      (objects_in Viewed oid) refl (stood_there s.spoiled refl may)

-- the Stone isn't asked in a spoiled transaction alone
not_asked_spoiled : (lost there : Bool) → (not lost || there) ≡ false → lost ≡ true
not_asked_spoiled true there kept = refl
not_asked_spoiled false there kept = absurd (true≢false kept)

-- ---- by what the code found

module _ (p : PortState) (number : ℕ) (s : Session) (write : Bool) (name : Text) (comes : ComesTo p number s (Lock write name))
    (kind : LockKind) (kind_is : kind ≡ kind_asked write) (found : Found)
    (is : target_by found ≡ lock_target kind name s.view.state.seen.setting s.view.state.seen.world) where
  lock_target_is : (other : Found) → found ≡ other → target_by other ≡ lock_target (kind_asked write) name s.view.state.seen.setting s.view.state.seen.world
  lock_target_is other same = ap target_by (sym same) ∙ is ∙ ap (λ (k : LockKind). lock_target k name s.view.state.seen.setting s.view.state.seen.world) kind_is

  pub lock_told : (line : Line) → found ≡ Replies line → Replied p.told.opened number p.told.events p.told.events s (Lock write name) (line ∷ []) s
  lock_told line same = lock_replied p.told.opened p.told.events number s comes.stands write name comes.command line (lock_target_is (Replies line) same)

  pub lock_may_be_asked : ImagesStay → (oid : ℕ) → found ≡ Asks oid → may_ask s oid ≡ true → IsSome (get (standing p.told).image oid)
  lock_may_be_asked stay oid same may = lock_there p.told.opened p.told.events number s (kind_asked write) name oid comes.stands
      (lock_target_is (Asks oid) same) stay comes.opened comes.consistent may

  -- of what the image lacks nothing is known in a spoiled transaction
  pub lock_lost : (oid : ℕ) → may_ask s oid ≡ false → Replied p.told.opened number p.told.events p.told.events s (Lock write name) (NoName name ∷ []) s
  lock_lost oid kept = lock_without p.told.opened p.told.events number s comes.stands write name comes.command
      (not_asked_spoiled s.spoiled (is_some (get s.image oid)) kept)

  pub lock_answered : (q : PortState) (oid : ℕ) (answer : PortAnswer) → found ≡ Asks oid → LockSays p.told.opened p.told.events q.told.events s.session oid kind answer
      → Replied p.told.opened number p.told.events q.told.events s (Lock write name) (lock_line answer kind oid s.number ∷ []) s
  lock_answered q oid answer same says =
      subst (λ (k : LockKind). Replied p.told.opened number p.told.events q.told.events s (Lock write name) (lock_line answer k oid s.number ∷ []) s) (sym kind_is)
      (lock_asked p.told.opened p.told.events number s comes.stands write name comes.command q.told.events oid answer (lock_target_is (Asks oid) same)
      (subst (λ (k : LockKind). LockSays p.told.opened p.told.events q.told.events s.session oid k answer) kind_is says))

module _ (p : PortState) (number : ℕ) (s : Session) (name : Text) (comes : ComesTo p number s (Unlock name)) (found : Found)
    (is : target_by found ≡ unlock_target name s.view.state.seen.setting s.view.state.seen.world) where
  unlock_target_is : (other : Found) → found ≡ other → target_by other ≡ unlock_target name s.view.state.seen.setting s.view.state.seen.world
  unlock_target_is other same = ap target_by (sym same) ∙ is

  pub unlock_told : (line : Line) → found ≡ Replies line → Replied p.told.opened number p.told.events p.told.events s (Unlock name) (line ∷ []) s
  unlock_told line same = unlock_replied p.told.opened p.told.events number s comes.stands name comes.command line (unlock_target_is (Replies line) same)

  pub unlock_answered : (q : PortState) (oid : ℕ) (held : Bool) → found ≡ Asks oid → UnlockSays p.told.opened p.told.events q.told.events s.session oid held
      → Replied p.told.opened number p.told.events q.told.events s (Unlock name) (unlock_line held oid ∷ []) s
  unlock_answered q oid held same says =
      unlock_asked p.told.opened p.told.events number s comes.stands name comes.command q.told.events oid held (unlock_target_is (Asks oid) same) says

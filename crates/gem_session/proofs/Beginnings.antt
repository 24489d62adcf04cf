-- Transactions that begin.
use Rattle.std.proofs.Common.{◌≡◌, ◌∙◌, refl, sym, ap, subst, ℕ, ◌+◌, ◌-◌, ◌≤◌, ◌<◌, ◌^◌, false, None, IsSome, option_map, List, length, arith, inr}
use Rattle.std.specs.List.{AllByRecursion, slice_get}
use Rattle.std.specs.FinMap.{get}
use Rattle.gem_object.specs.gem_value.Oid.{oid_number}
use Rattle.gem_image.specs.Image.{Image, contents_of, objects_in}
use Rattle.gem_world.specs.World.{World}
use Rattle.gem_sound.specs.Parts.{user_at}
use Rattle.gem_sound.specs.Sound.{IsSoundFor}
use Rattle.running_objects.specs.object_programs.Laws.{begun_at}
use Rattle.plain_state.specs.State.{begun}
use Rattle.running_objects.specs.Seen.{Seen, IsSoundState}
use Rattle.gem_record.specs.declared.mode.Mode.{Mode}
use Rattle.gem_meaning.specs.Opened.{Opened, session_serial, commands_of, mode_at}
use Rattle.gem_meaning.specs.Events.{Event, image_at, next_counter, after_events, Extends}
use Rattle.gem_meaning.specs.Serial.{MayGoOn, EndedBefore, EndsTransaction, CanServe, IsConsistent}
use Rattle.gem_meaning.specs.State.{SessionState, next_transaction, run_so_far}
use Rattle.stone_core.specs.Port.{PortState, BeginSays, GoesOn}
use Rattle.history_laws.proofs.Views.{number_at_least, image_now}
use Rattle.history_laws.proofs.Stays.{user_stays}
use Rattle.gem_session.specs.declared.session.Session.{Session}
use Rattle.gem_session.specs.Running.{session_state, commands_before, MayBegin, HasUser, StandsBefore, HasEnded, Begins}
use Rattle.gem_session.proofs.Others.{number_on}
use Rattle.gem_session.proofs.Passing.{apart_when, counter_when, view_when}
use Rattle.gem_session.proofs.Between.{before_none, world_none}
use Rattle.gem_session.proofs.Images.{ImagesStay}

-- a view that has just begun, of these names
abbrev pub IsFresh : Image → (serial : ℕ) → Seen → Type 0
IsFresh image serial seen = seen ≡ begun image image seen.setting.user serial seen.setting.first

pub fresh_begun : (image : Image) (user serial first : ℕ) (seen : Seen) → seen ≡ begun image image user serial first → IsFresh image serial seen
fresh_begun image user serial first seen is = subst (IsFresh image serial) (sym is) refl

-- the user of a view is there when more events have come
pub user_now : ImagesStay → (o : Opened) (es es' : List Event) (view user : ℕ) → CanServe o → IsConsistent (record { opened = o; events = es' }) → Extends es es' →
    o.number ≤ view → view ≤ (after_events o es).number → view ≤ (after_events o es').number → HasUser (record { opened = o; events = es }) view user →
    IsSome (user_at (objects_in (after_events o es').image) user)
user_now stay o es es' view user serves consistent more from to later there =
    user_stays (image_at (after_events o es') view) (after_events o es').image user
    (stay (record { opened = o; events = es' }) view serves consistent.serial from later)
    (subst (λ image. IsSome (user_at (objects_in image) user)) (sym (view_when o es es' view more from to)) there)

-- a transaction may begin on the image that stands
pub sound_for : (o : Opened) (session : ℕ) (es es' : List Event) (image : Image) (number user serial next : ℕ) → BeginSays o session es es' image number →
    serial ≡ session_serial o session → IsSome (user_at (objects_in image) user) → 0 < next → next ≤ 2 ^ 24 →
    next_counter (after_events o es') session ≤ next → IsSoundFor (objects_in image) user serial next
sound_for o session es es' image number user serial next says is user_there some bound names = record {
  sound = says.sound;
  user_there = user_there;
  serial_bound = subst (λ n. n < 2 ^ 24) (sym is) says.serial_bound;
  some_name = some;
  next_bound = bound;
  free = λ counter from below. subst (λ (n : ℕ). objects_in image (oid_number n counter) ≡ None) (sym is)
      (ap (option_map contents_of) (ap (λ (i : Image). get i (oid_number (session_serial o session) counter)) says.image_is
      ∙ says.free counter (omega (arith, names, from)) below));
}

-- A transaction that begins at what stands now.
pub stands_at_first : (o : Opened) (es es' : List Event) (image : Image) (number first : ℕ) (s : Session) →
    BeginSays o s.session es es' image number → s.number ≡ number → s.image ≡ image → s.first_command ≡ first → IsFresh image s.serial s.view.state.seen →
    s.serial ≡ session_serial o s.session → IsSome (user_at (objects_in image) s.view.state.seen.setting.user) → IsSoundState s.view.state.seen →
    (1 ≤ s.session) × (s.session ≤ length o.script) → MayBegin o s.session first → 1 ≤ first → s.transaction ≤ first →
    AllByRecursion (EndedBefore s.session first) es → next_counter (after_events o es') s.session ≤ s.view.state.seen.setting.first →
    s.mode ≡ mode_at o.script s.session first → StandsBefore (record { opened = o; events = es' }) first s
stands_at_first o es es' image number first s says view held first_is fresh serial user sound range may low le apart names mode =
    let here = image_at (after_events o es') s.number in
    let view_is : s.number ≡ (after_events o es').number = view ∙ says.number_is in
    let same : image ≡ here = says.image_is ∙ sym (image_now (after_events o es') s.number view_is) in
    let least = number_at_least o es' in
    let world_is = ap (λ (x : Seen). x.world) fresh in
    record {
      session = range;
      serial = serial;
      from = omega (arith, least, view_is);
      to = omega (arith, view_is);
      user = subst (λ i. IsSome (user_at (objects_in i) s.view.state.seen.setting.user)) same user;
      image = held ∙ same;
      setting = ap (λ (x : Seen). x.setting) fresh
          ∙ ap (λ i. begun_at i i s.view.state.seen.setting.user s.serial s.view.state.seen.setting.first) same
          ∙ ap (λ n. begun_at here here s.view.state.seen.setting.user n s.view.state.seen.setting.first) serial;
      begins = subst (MayBegin o s.session) (sym first_is) may;
      first = (omega (arith, low, first_is), omega (arith, first_is));
      transaction = le;
      whole = subst (λ (n : ℕ). AllByRecursion MayGoOn (commands_before o n (session_state s))) first_is
          (subst (AllByRecursion MayGoOn) (sym (before_none o (session_state s))) tt);
      apart = subst (λ (n : ℕ). AllByRecursion (EndedBefore s.session n) es') (sym first_is)
          (apart_when s.session first es es' apart says.others_came);
      names = names;
      drawn = omega (arith, ap (λ (w : World). w.next) world_is);
      sound = sound;
      mode = mode;
      world = λ calm. world_is ∙ sym (world_none o es' (session_state s))
          ∙ ap (λ (n : ℕ). (run_so_far o es' n (session_state s)).world) first_is;
    }

-- where the next transaction may begin
pub sound_for_next : ImagesStay → (p q : PortState) (number : ℕ) (s : Session) (image : Image) (view : ℕ) → HasEnded p number s → GoesOn s.session p q →
    BeginSays p.told.opened s.session p.told.events q.told.events image view → IsSoundFor (objects_in image) s.view.state.seen.setting.user s.serial s.view.state.seen.world.next
sound_for_next stay p q number s image view ended goes says =
    let o = p.told.opened in
    let es = p.told.events in
    let es' = q.told.events in
    let consistent : IsConsistent (record { opened = o; events = es' }) = subst (λ x. IsConsistent (record { opened = x; events = es' })) goes.opened goes.consistent in
    let grown = number_on o es es' goes.extends in
    let there = user_now stay o es es' s.number s.view.state.seen.setting.user ended.opened consistent goes.extends ended.from ended.to (omega (arith, ended.to, grown)) ended.user in
    sound_for o s.session es es' image view s.view.state.seen.setting.user s.serial s.view.state.seen.world.next says ended.serial
    (subst (λ i. IsSome (user_at (objects_in i) s.view.state.seen.setting.user)) (sym says.image_is) there) ended.sound.some_name ended.sound.next_bound
    (subst (λ n. n ≤ s.view.state.seen.world.next) (sym (counter_when o s.session es es' says.others_came)) ended.names)

-- what a session carries whose transaction has just begun, by what is seen
abbrev pub carries_next : (first_command transaction session view : ℕ) → Mode → Seen → SessionState
carries_next first_command transaction session view mode seen = record {
  session = session;
  user = seen.setting.user;
  view = view;
  mode = mode;
  transaction = transaction;
  first_command = first_command;
  first_name = seen.setting.first;
  next_name = seen.world.next;
  spoiled = false;
}

-- The session's next transaction begins after the command with this number.
pub begins_next : ImagesStay → (p q : PortState) (number : ℕ) (s s' : Session) (image : Image) (view : ℕ) → HasEnded p number s → GoesOn s.session p q →
    BeginSays p.told.opened s.session p.told.events q.told.events image view → IsSoundState s'.view.state.seen →
    s'.view.state.seen ≡ begun image image s.view.state.seen.setting.user s.serial s.view.state.seen.world.next →
    s'.image ≡ image →
    s' ≡ record s { number = view; transaction = s.transaction + 1; first_command = number + 1; spoiled = false; image = s'.image; view = s'.view } →
    Begins p.told.opened p.told.events q.told.events (λ v. next_transaction (session_state s) v number) s'
begins_next stay p q number s s' image view ended goes says sound seen held is =
    let o = p.told.opened in
    let es = p.told.events in
    let es' = q.told.events in
    let ready = sound_for_next stay p q number s image view ended goes says in
    let view_is : s'.number ≡ view = ap (λ (x : Session). x.number) is in
    let session : s'.session ≡ s.session = ap (λ (x : Session). x.session) is in
    let serial : s'.serial ≡ s.serial = ap (λ (x : Session). x.serial) is in
    let first : s'.first_command ≡ number + 1 = ap (λ (x : Session). x.first_command) is in
    let counted : s'.transaction ≡ s.transaction + 1 = ap (λ (x : Session). x.transaction) is in
    let user : s'.view.state.seen.setting.user ≡ s.view.state.seen.setting.user = ap (λ (x : Seen). x.setting.user) seen in
    let first_name : s'.view.state.seen.setting.first ≡ s.view.state.seen.world.next = ap (λ (x : Seen). x.setting.first) seen in
    let low = ended.numbered.0 in
    let le = ended.transaction in
    let here : BeginSays o s'.session es es' image view = subst (λ n. BeginSays o n es es' image view) (sym session) says in
    let before : number - 1 ≡ number + 1 - 2 = omega (arith, low) in
    let may : MayBegin o s.session (number + 1) =
    inr (omega (arith, low), subst (λ (n : ℕ). EndsTransaction (slice_get (commands_of o.script s.session) n)) before ended.ended) in
    let fresh : IsFresh image s'.serial s'.view.state.seen = subst (λ n. IsFresh image n s'.view.state.seen) (sym serial)
    (fresh_begun image s.view.state.seen.setting.user s.serial s.view.state.seen.world.next s'.view.state.seen seen) in
    let names : next_counter (after_events o es') s'.session ≤ s'.view.state.seen.setting.first =
    omega (arith, first_name, ap (next_counter (after_events o es')) session, counter_when o s.session es es' says.others_came, ended.names) in
    let stands = stands_at_first o es es' image view (number + 1) s' here view_is held first fresh
    (serial ∙ ended.serial ∙ ap (session_serial o) (sym session))
    (subst (λ u. IsSome (user_at (objects_in image) u)) (sym user) ready.user_there) sound
    (subst (λ (n : ℕ). (1 ≤ n) × (n ≤ length o.script)) (sym session) ended.session)
    (subst (λ (n : ℕ). MayBegin o n (number + 1)) (sym session) may) (omega arith) (omega (arith, counted, le))
    (subst (λ (n : ℕ). AllByRecursion (EndedBefore n (number + 1)) es) (sym session) ended.apart) names
    (ap (λ (x : Session). x.mode) is ∙ (ended.mode ∙ ap (λ (n : ℕ). mode_at o.script n (number + 1)) (sym session))) in
    record {
      sees = (here.others_came, view_is ∙ here.number_is);
      carries = ap session_state is ∙ ap (carries_next (number + 1) (s.transaction + 1) s.session view s.mode) seen
          ∙ ap (λ (v : ℕ). next_transaction (session_state s) v number) (sym view_is);
      stands = subst (λ (n : ℕ). StandsBefore (record { opened = o; events = es' }) n s') (sym first) stands;
    }

pub begins_session : (o : Opened) (es es' : List Event) (number : ℕ) (s s' : Session) → Begins o es es' (λ view. next_transaction (session_state s) view number) s' →
    s'.session ≡ s.session
begins_session o es es' number s s' begins = ap (λ (x : SessionState). x.session) begins.carries

pub begins_stands : (o : Opened) (es es' : List Event) (number : ℕ) (s s' : Session) → Begins o es es' (λ view. next_transaction (session_state s) view number) s' →
    StandsBefore (record { opened = o; events = es' }) (number + 1) s'
begins_stands o es es' number s s' begins =
    subst (λ (n : ℕ). StandsBefore (record { opened = o; events = es' }) n s') (ap (λ (x : SessionState). x.first_command) begins.carries) begins.stands

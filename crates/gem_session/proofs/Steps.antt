-- What a command of a transaction does to a session: it runs, or leaves it as it was.
use Rattle.std.proofs.Common.{◌≡◌, ◌∙◌, refl, sym, ap, subst, ℕ, ◌+◌, ◌-◌, ◌≤◌, Bool, true, false, true≢false, Option, Some, None, IsSome, List, [], ◌∷◌, arith, inl, inr}
use Rattle.std.specs.List.{slice_get}
use Rattle.gem_object.specs.texts.Bytes.{Bytes}
use Rattle.gem_world.specs.World.{Setting, World}
use Rattle.gem_image.specs.Image.{objects_in}
use Rattle.gem_sound.specs.Parts.{user_at}
use Rattle.gem_replies.specs.declared.reply.Line.{Line}
use Rattle.gem_replies.specs.declared.reply.Line.TheVariants.{NoMemory, Mode as ModeLine}
use Rattle.gem_meaning.specs.gem_language.Commands.{Command as ObjectCommand}
use Rattle.gem_meaning.specs.gem_language.Transaction.{Transaction, command_outcome}
use Rattle.shell_words.specs.declared.script.Command.{Command}
use Rattle.shell_words.specs.declared.script.Command.TheVariants.{Chunk, Method, Commit, Abort, Logout, Lock, Unlock, Checkpoint, Mode as SetMode}
use Rattle.running_objects.specs.Seen.{Keeps, with_whole_budget}
use Rattle.session_view.specs.declared.view.View.{View}
use Rattle.gem_record.specs.declared.mode.Mode.{Mode}
use Rattle.gem_meaning.specs.Commands.{object_command, is_run, mode_of, mode_with}
use Rattle.gem_meaning.specs.Opened.{Opened, commands_of, entry_setting, run_at}
use Rattle.gem_meaning.specs.Events.{Event, image_at, next_counter, after_events, Extends, run_on_view}
use Rattle.gem_meaning.specs.Serial.{MayGoOn}
use Rattle.gem_meaning.specs.State.{CommandPlace, SessionState, entry_to, run_so_far}
use Rattle.gem_meaning.specs.Runs.{setting_of, lines_in, next_in, RunSays, ObjectSays}
use Rattle.gem_meaning.specs.Runs as meaning
use Rattle.gem_meaning.specs.Session.{CommandSays}
use Rattle.gem_session.specs.declared.answer.Answer.{Answer}
use Rattle.gem_session.specs.declared.session.Session.{Session}
use Rattle.gem_session.specs.Answer.{lines_of, Meant, MeantBy}
use Rattle.gem_session.specs.Running.{session_state, StandsBefore, Ran, Replied}
use Rattle.gem_session.proofs.Others.{number_on}
use Rattle.gem_session.proofs.Passing.{Passes, view_when}
use Rattle.gem_session.proofs.Between.{whole_more, mode_next, mode_still, world_after, world_next}

-- what the transaction does stays when events come
pub run_when : (o : Opened) (es es' : List Event) (number : ℕ) (s : SessionState) → Extends es es' → o.number ≤ s.view → s.view ≤ (after_events o es).number →
    run_on_view o (after_events o es') (entry_to number s) ≡ run_on_view o (after_events o es) (entry_to number s)
unfolding run_on_view
run_when o es es' number s more from to =
    ap (λ i. run_at o (entry_to number s) i i) (view_when o es es' s.view more from to)

pub setting_when : (o : Opened) (es es' : List Event) (s : SessionState) → Extends es es' → o.number ≤ s.view → s.view ≤ (after_events o es).number →
    setting_of o es' s ≡ setting_of o es s
setting_when o es es' s more from to = ap (λ i. entry_setting o (entry_to 0 s) i i) (view_when o es es' s.view more from to)

-- a command that leaves the session as it was
pub stands_kept : (o : Opened) (es es' : List Event) (number : ℕ) (s : Session) (c : Command) →
    slice_get (commands_of o.script s.session) (number - 1) ≡ Some c → MayGoOn c → object_command c ≡ None → ((m : Mode) → mode_with m c ≡ m) →
    StandsBefore (record { opened = o; events = es }) number s → Passes o s.session es es' → StandsBefore (record { opened = o; events = es' }) (number + 1) s
stands_kept o es es' number s c is one nothing still stands passes =
    let st = session_state s in
    let grown = number_on o es es' passes.extends in
    let same = view_when o es es' s.number passes.extends stands.from stands.to in
    record {
      session = stands.session;
      serial = stands.serial;
      from = stands.from;
      to = omega (arith, stands.to, grown);
      user = subst (λ image. IsSome (user_at (objects_in image) s.view.state.seen.setting.user)) (sym same) stands.user;
      image = stands.image ∙ sym same;
      setting = stands.setting ∙ sym (setting_when o es es' st passes.extends stands.from stands.to);
      begins = stands.begins;
      first = (stands.first.0, omega (arith, stands.first.1));
      transaction = omega (arith, stands.transaction);
      whole = whole_more o number st c is stands.first.0 stands.first.1 one stands.whole;
      apart = passes.apart s.first_command stands.apart;
      names = subst (λ n. n ≤ s.view.state.seen.setting.first) (sym passes.counter) stands.names;
      drawn = stands.drawn;
      sound = stands.sound;
      mode = stands.mode ∙ sym (mode_still o s.session number c is (omega (arith, stands.first.0, stands.first.1)) still);
      world = λ calm. stands.world calm
          ∙ sym (ap (λ (r : Transaction). r.world) (run_when o es es' (number - 1) st passes.extends stands.from stands.to))
          ∙ sym (ap (λ (command : Option ObjectCommand). world_after command (setting_of o es' st) (run_so_far o es' number st).world) nothing)
          ∙ sym (world_next o es' number st c is stands.first.0 stands.first.1);
    }

-- ---- lines that set the mode

-- what the transaction did on its view is the same in each mode
run_any_mode : (o : Opened) (es : List Event) (number : ℕ) (s : SessionState) (mode : Mode)
    → run_so_far o es number (record s { mode = mode }) ≡ run_so_far o es number s
unfolding run_on_view
run_any_mode o es number s mode = refl

pub mode_replied : (o : Opened) (es : List Event) (number : ℕ) (s : Session) (full : Bool)
    → slice_get (commands_of o.script s.session) (number - 1) ≡ Some (SetMode full) → StandsBefore (record { opened = o; events = es }) number s
    → Replied o number es es s (SetMode full) (ModeLine full ∷ []) (record s { mode = mode_of full })
mode_replied o es number s full is stands =
    let st = session_state s in
    record {
      of_session = refl;
      says = (ModeLine full, refl, (refl, refl, refl));
      stands = record {
        session = stands.session;
        serial = stands.serial;
        from = stands.from;
        to = stands.to;
        user = stands.user;
        image = stands.image;
        setting = stands.setting;
        begins = stands.begins;
        first = (stands.first.0, omega (arith, stands.first.1));
        transaction = omega (arith, stands.transaction);
        whole = whole_more o number st (SetMode full) is stands.first.0 stands.first.1 tt stands.whole;
        apart = stands.apart;
        names = stands.names;
        drawn = stands.drawn;
        sound = stands.sound;
        mode = sym (mode_next o s.session number (SetMode full) is (omega (arith, stands.first.0, stands.first.1)));
        world = λ calm. stands.world calm
            ∙ sym (world_next o es number st (SetMode full) is stands.first.0 stands.first.1)
            ∙ sym (ap (λ (r : Transaction). r.world) (run_any_mode o es (number + 1) st (mode_of full)));
      };
    }

-- ---- chunks and methods

pub run_says : (at : CommandPlace) (c : Command) (command : ObjectCommand) (s : SessionState) (lines : List Line) (s' : SessionState) → is_run c ≡ true →
    object_command c ≡ Some command → RunSays (Some command) at s lines s' → CommandSays at s c lines s'
run_says at (Chunk prints text) command s lines s' runs is says = subst (λ x. RunSays x at s lines s') (sym is) says
run_says at (Method class_side class text) command s lines s' runs is says = subst (λ x. RunSays x at s lines s') (sym is) says
run_says at Commit command s lines s' runs is says = absurd (true≢false (sym runs))
run_says at Abort command s lines s' runs is says = absurd (true≢false (sym runs))
run_says at Logout command s lines s' runs is says = absurd (true≢false (sym runs))
run_says at (Lock write name) command s lines s' runs is says = absurd (true≢false (sym runs))
run_says at (Unlock name) command s lines s' runs is says = absurd (true≢false (sym runs))
run_says at Checkpoint command s lines s' runs is says = absurd (true≢false (sym runs))
run_says at (SetMode full) command s lines s' runs is says = absurd (true≢false (sym runs))

run_goes_on : (c : Command) → is_run c ≡ true → MayGoOn c
run_goes_on (Chunk prints text) is = tt
run_goes_on (Method class_side class text) is = tt
run_goes_on Commit is = tt
run_goes_on Abort is = absurd (true≢false (sym is))
run_goes_on Logout is = absurd (true≢false (sym is))
run_goes_on (Lock write name) is = tt
run_goes_on (Unlock name) is = tt
run_goes_on Checkpoint is = tt
run_goes_on (SetMode full) is = tt

-- it sets no mode
run_still : (c : Command) → is_run c ≡ true → (m : Mode) → mode_with m c ≡ m
run_still (Chunk prints text) is m = refl
run_still (Method class_side class text) is m = refl
run_still Commit is m = refl
run_still Abort is m = refl
run_still Logout is m = refl
run_still (Lock write name) is m = refl
run_still (Unlock name) is m = refl
run_still Checkpoint is m = refl
run_still (SetMode full) is m = absurd (true≢false (sym is))

run_is : (c : Command) → is_run c ≡ true → (command : ObjectCommand) × (object_command c ≡ Some command)
run_is (Chunk prints text) is = (_, refl)
run_is (Method class_side class text) is = (_, refl)
run_is Commit is = absurd (true≢false (sym is))
run_is Abort is = absurd (true≢false (sym is))
run_is Logout is = absurd (true≢false (sym is))
run_is (Lock write name) is = absurd (true≢false (sym is))
run_is (Unlock name) is = absurd (true≢false (sym is))
run_is Checkpoint is = absurd (true≢false (sym is))
run_is (SetMode full) is = absurd (true≢false (sym is))

-- what a session carries with another view of the same setting
carried : (s : Session) (spoiled : Bool) (view : View) (cache : List Bytes) → view.state.seen.setting ≡ s.view.state.seen.setting
    → session_state (record s { spoiled = spoiled; view = view; cache = cache }) ≡ record (session_state s) { spoiled = spoiled; next_name = view.state.seen.world.next }
carried s spoiled view cache same = ap (λ (x : Setting). record (session_state s) {
  user = x.user;
  first_name = x.first;
  spoiled = spoiled;
  next_name = view.state.seen.world.next;
}) same

module _ (o : Opened) (es : List Event) (number : ℕ) (s : Session) (c : Command) (command : ObjectCommand) (runs : is_run c ≡ true)
    (command_is : object_command c ≡ Some command) (is : slice_get (commands_of o.script s.session) (number - 1) ≡ Some c)
    (stands : StandsBefore (record { opened = o; events = es }) number s) where
  abbrev At : CommandPlace
  At = record { opened = o; number = number; before = es; after = es }

  abbrev St : SessionState
  St = session_state s

  -- it stands before the next command, where its objects are kept and what they are is known
  stands_after : (spoiled : Bool) (view : View) (cache : List Bytes) → Keeps (with_whole_budget s.view.state.seen) view.state.seen
      → (spoiled ≡ false → view.state.seen.world ≡ (run_so_far o es (number + 1) St).world)
      → StandsBefore (record { opened = o; events = es }) (number + 1) (record s { spoiled = spoiled; view = view; cache = cache })
  stands_after spoiled view cache keeps world =
      let user : view.state.seen.setting.user ≡ s.view.state.seen.setting.user = ap (λ (x : Setting). x.user) keeps.setting in
      let first : view.state.seen.setting.first ≡ s.view.state.seen.setting.first = ap (λ (x : Setting). x.first) keeps.setting in
      let next = keeps.falls.next in
      let carries = carried s spoiled view cache keeps.setting in
      record {
        session = stands.session;
        serial = stands.serial;
        from = stands.from;
        to = stands.to;
        user = subst (λ u. IsSome (user_at (objects_in (image_at (after_events o es) s.number)) u)) (sym user) stands.user;
        image = stands.image;
        setting = keeps.setting ∙ stands.setting ∙ sym (ap (setting_of o es) carries);
        begins = stands.begins;
        first = (stands.first.0, omega (arith, stands.first.1));
        transaction = omega (arith, stands.transaction);
        whole = whole_more o number St c is stands.first.0 stands.first.1 (run_goes_on c runs) stands.whole;
        apart = stands.apart;
        names = subst (λ n. next_counter (after_events o es) s.session ≤ n) (sym first) stands.names;
        drawn = omega (arith, stands.drawn, first, next);
        sound = keeps.sound stands.sound;
        mode = stands.mode ∙ sym (mode_still o s.session number c is (omega (arith, stands.first.0, stands.first.1)) (run_still c runs));
        world = λ calm. world calm ∙ sym (ap (λ st. (run_so_far o es (number + 1) st).world) carries);
      }

  draws : (view : View) → Keeps (with_whole_budget s.view.state.seen) view.state.seen → meaning.DrawsNames s.view.state.seen.world.next view.state.seen.world.next
  draws view keeps =
      let drawn = keeps.falls.drawn in
      let sound = keeps.sound stands.sound in
      record { grows = keeps.falls.next; most = omega (arith, drawn); end = sound.next_bound }

  short_at : (lines : List Line) (view : View) (cache : List Bytes) → Keeps (with_whole_budget s.view.state.seen) view.state.seen → lines ≡ NoMemory ∷ [] →
      Replied o number es es s c lines (record s { spoiled = true; view = view; cache = cache })
  short_at lines view cache keeps short =
      let carries = carried s true view cache keeps.setting in
      record {
        of_session = refl;
        says = run_says At c command St lines _ runs command_is (refl, inl (record { lines_are = short; draws = draws view keeps; state = carries }));
        stands = stands_after true view cache keeps (λ calm. absurd (true≢false calm));
      }

  world_here : (view : View) (lines : List Line) → Meant command s.view.state.seen lines view.state.seen → s.view.state.seen.world ≡ (run_so_far o es number St).world
      → view.state.seen.world ≡ (run_so_far o es (number + 1) St).world
  world_here view lines meant same = meant.world
      ∙ ap (λ x. (command_outcome command x s.view.state.seen.world).state.world) stands.setting
      ∙ ap (λ w. (command_outcome command (setting_of o es St) w).state.world) same
      ∙ sym (ap (λ (x : Option ObjectCommand). world_after x (setting_of o es St) (run_so_far o es number St).world) command_is)
      ∙ sym (world_next o es number St c is stands.first.0 stands.first.1)

  -- what the command means on what is seen
  meant_here : (view : View) (lines : List Line) → Meant command s.view.state.seen lines view.state.seen
      → (lines ≡ lines_in command (setting_of o es St) s.view.state.seen.world) × (view.state.seen.world.next ≡ next_in command (setting_of o es St) s.view.state.seen.world)
  meant_here view lines meant = (
    meant.lines_are ∙ ap (λ x. lines_in command x s.view.state.seen.world) stands.setting,
    ap (λ (w : World). w.next) meant.world ∙ ap (λ x. next_in command x s.view.state.seen.world) stands.setting,
  )

  says_meant : (spoiled : Bool) (view : View) (cache : List Bytes) (lines : List Line) → s.spoiled ≡ spoiled → Keeps (with_whole_budget s.view.state.seen) view.state.seen
      → Meant command s.view.state.seen lines view.state.seen → ObjectSays command At St lines (session_state (record s { view = view; cache = cache }))
  says_meant false view cache lines calm keeps meant =
      let here = meant_here view lines meant in
      let carries = carried s s.spoiled view cache keeps.setting in
      let same = stands.world calm in
      inr (inl (record {
        unspoiled = calm;
        lines_are = here.0 ∙ ap (lines_in command (setting_of o es St)) same;
        state = carries ∙ ap (λ (n : ℕ). record St { next_name = n }) (here.1 ∙ ap (next_in command (setting_of o es St)) same);
      }))
  says_meant true view cache lines spoiled keeps meant =
      let here = meant_here view lines meant in
      inr (inr (record {
        spoiled = spoiled;
        world = s.view.state.seen.world;
        lines_are = here.0;
        draws = draws view keeps;
        state = carried s s.spoiled view cache keeps.setting;
      }))

  whole_at : (lines : List Line) (view : View) (cache : List Bytes) → Keeps (with_whole_budget s.view.state.seen) view.state.seen → Meant command s.view.state.seen lines view.state.seen →
      Replied o number es es s c lines (record s { view = view; cache = cache })
  whole_at lines view cache keeps meant = record {
    of_session = refl;
    says = run_says At c command St lines _ runs command_is (refl, says_meant s.spoiled view cache lines refl keeps meant);
    stands = stands_after s.spoiled view cache keeps (λ calm. world_here view lines meant (stands.world calm));
  }

  ran_so : (answer : Answer) (s' : Session) → Ran c s answer s' → Replied o number es es s c (lines_of answer) s'
  ran_so answer s' (keeps, inl short) =
      subst (λ x. Replied o number es es s c (lines_of answer) x) (sym short.1) (short_at (lines_of answer) s'.view s'.cache keeps short.0)
  ran_so answer s' (keeps, inr whole) =
      subst (λ x. Replied o number es es s c (lines_of answer) x) (sym whole.1)
      (whole_at (lines_of answer) s'.view s'.cache keeps (subst (λ x. MeantBy x s.view.state.seen (lines_of answer) s'.view.state.seen) command_is whole.0))

-- a chunk or a method
pub ran : (o : Opened) (es : List Event) (number : ℕ) (s : Session) (c : Command) (answer : Answer) (s' : Session) → is_run c ≡ true →
    slice_get (commands_of o.script s.session) (number - 1) ≡ Some c → StandsBefore (record { opened = o; events = es }) number s → Ran c s answer s' →
    Replied o number es es s c (lines_of answer) s'
ran o es number s c answer s' runs is stands done =
    let command = run_is c runs in
    ran_so o es number s c command.0 runs command.1 is stands answer s' done

-- What the session of the set-up says, and the one event that it makes.
use Rattle.std.proofs.Common.{◌≡◌, ◌≢◌, ℕ, zero, suc, ◌+◌, ◌-◌, ◌<◌, inl, inr, Bool, true, false, List, [], ◌∷◌, ◌++◌, length, take, drop, Option, Some, refl, sym, ap, subst, ◌∙◌, arith}
use Rattle.std.specs.List.{AllByRecursion}
use Rattle.std.specs.FinMap.{empty}
use Rattle.std.proofs.lemmas.List.{take-append-drop}
use Rattle.gem_meaning.specs.gem_object.declared.object.Object.{Object}
use Rattle.gem_meaning.specs.gem_world.World.{Setting, untouched}
use Rattle.gem_meaning.specs.object_programs.Laws.{begun_at}
use Rattle.gem_meaning.specs.gem_language.Commands.{run_chunk}
use Rattle.gem_meaning.specs.gem_language.Transaction.{command_outcome}
use Rattle.gem_meaning.specs.gem_record.declared.record.Entry.{Entry}
use Rattle.gem_meaning.specs.gem_record.declared.limits.TheConstants.{LOG_LIMIT}
use Rattle.gem_meaning.specs.gem_record.Effects.{log_record_size}
use Rattle.gem_meaning.specs.gem_record.Record.{record_of}
use Rattle.gem_meaning.specs.gem_record.Stored.{Stored}
use Rattle.gem_meaning.specs.commit_check.Conflicts.{conflicts_of}
use Rattle.gem_meaning.specs.shell_words.declared.script.Command.TheVariants.{Chunk, Commit, Logout}
use Rattle.gem_meaning.specs.gem_replies.declared.reply.Line.{Line}
use Rattle.gem_meaning.specs.gem_replies.declared.reply.Line.TheVariants.{NoMemory, DiskFault, Spoiled, Login, Halted, Unchanged, Refused, LogFull, Committed}
use Rattle.gem_meaning.specs.gem_replies.declared.reply.Reply.{Reply}
use Rattle.gem_meaning.specs.declared.event.What.TheVariants.{Placed}
use Rattle.gem_meaning.specs.Opened.{Opened, base_serial, record_on}
use Rattle.gem_meaning.specs.Effect.{effect_at, IsUnchanged}
use Rattle.gem_meaning.specs.Events.{Event, Told, after_events, events_of, OthersCame, halts_in, run_on_view, run_at_place, record_at_place, effect_of}
use Rattle.gem_meaning.specs.After.{stored_after, record_size, log_after}
use Rattle.gem_meaning.specs.Serial.{HoldsSome}
use Rattle.gem_meaning.specs.State.{SessionState, CommandPlace, first_transaction, entry_to, record_to}
use Rattle.gem_meaning.specs.Runs.{setting_of, world_so_far, next_in, ObjectSays}
use Rattle.gem_meaning.specs.Commits.{conflicts_found, size_found, CommitReply}
use Rattle.gem_meaning.specs.Locks.{leaving, LogsOut}
use Rattle.gem_meaning.specs.Names.{user_in}
use Rattle.gem_meaning.specs.Session.{reply_with, replies_with, CommandsSay, until_logout, SaysOfUser, SaysOf, Says}
use Rattle.gem_meaning.specs.Legal.{WasServed}
use Rattle.gem_meaning.specs.gem_image.Image.{Image}
use Rattle.kernel_image.specs.Objects.{kernel_image}
use Rattle.gem_server.proofs.Leaving.{nobody_holds, no_leaving, served_rest}
use Rattle.gem_server.proofs.LoadTrees.{setup_chunk}
use Rattle.gem_server.proofs.SetupScript.{curator, setup_commands, setup_script}
use Rattle.gem_server.proofs.SetupRun.{kernel_setting, draws_two, setup_record, writes_globals, effect_is, effect_bytes, no_conflict}
use Rattle.gem_server.proofs.SetupKernel.{kernel_serial, kernel_user}

-- ---- events of one session

abbrev pub Own : List Event → Type 0
Own events = AllByRecursion (λ event. event.0 ≡ 1) events

pub own_take : (n : ℕ) (events : List Event) → Own events → Own (take n events)
own_take zero events own = tt
own_take (suc n) [] own = tt
own_take (suc n) (event ∷ events) own = (own.0, own_take n events own.1)

pub own_drop : (n : ℕ) (events : List Event) → Own events → Own (drop n events)
own_drop zero events own = own
own_drop (suc n) [] own = tt
own_drop (suc n) (event ∷ events) own = own_drop n events own.1

own_right : (before after : List Event) → Own (before ++ after) → Own after
own_right [] after own = own
own_right (event ∷ before) after own = own_right before after own.1

pub none_own : (others : List Event) → Own others → events_of 1 others ≡ [] → others ≡ []
none_own [] own none = refl
none_own ((session, what) ∷ others) own none =
    let kept : events_of 1 ((1, what) ∷ others) ≡ [] = subst (λ (n : ℕ). events_of 1 ((n, what) ∷ others) ≡ []) own.0 none in
    absurd cc

pub own_left : (before after : List Event) → Own (before ++ after) → Own before
own_left [] after own = tt
own_left (event ∷ before) after own = (own.0, own_left before after own.1)

with_none : (events : List Event) → events ++ [] ≡ events
with_none [] = refl
with_none (event ∷ events) = ap (λ (rest : List Event). event ∷ rest) (with_none events)

pub came_none : (before after : List Event) → Own after → OthersCame 1 before after → after ≡ before
came_none before after own came =
    let others : List Event = came.0 in
    let none : others ≡ [] = none_own others (own_right before others (subst Own came.2 own)) came.1 in
    came.2 ∙ ap (λ (more : List Event). before ++ more) none ∙ with_none before

-- ---- the set-up as it is opened

abbrev pub setup_opened : Stored → Bool → Opened
setup_opened stored counts = record {
  image = kernel_image;
  number = 0;
  script = setup_script;
  stored = stored;
  counts_pages = counts;
}

-- what the session carries before its chunk, and after it
abbrev pub at_first : SessionState
at_first = first_transaction 1 32 0

abbrev pub after_chunk : SessionState
after_chunk = record at_first { next_name = 3 }

abbrev pub setup_entry : Entry
setup_entry = entry_to 2 after_chunk

abbrev pub the_event : Event
the_event = (1, Placed setup_entry)

module _ (stored : Stored) (counts : Bool) where
  abbrev o : Opened
  o = setup_opened stored counts

  serial_is : base_serial o ≡ 1
  unfolding base_serial
  serial_is = ap (λ (serial : ℕ). serial + 1) kernel_serial

  setting_is : setting_of o [] at_first ≡ kernel_setting
  unfolding after_events
  setting_is = ap (λ (serial : ℕ). begun_at kernel_image kernel_image 32 (serial + (1 - 1)) 1) serial_is

  abbrev place : (number : ℕ) → (before after : List Event) → CommandPlace
  place number before after = record { opened = o; number = number; before = before; after = after }

  world_is : (after : List Event) → world_so_far (place 1 [] after) at_first ≡ untouched 1
  unfolding run_on_view after_events
  world_is after = refl

  next_is : (after : List Event)
      → next_in (run_chunk false setup_chunk) (setting_of o [] at_first) (world_so_far (place 1 [] after) at_first) ≡ 3
  next_is after = ap (λ (s : Setting). next_in (run_chunk false setup_chunk) s (world_so_far (place 1 [] after) at_first)) setting_is
      ∙ ap (next_in (run_chunk false setup_chunk) kernel_setting) (world_is after) ∙ draws_two

  record_is : record_to o [] 2 after_chunk ≡ setup_record setup_entry
  unfolding record_on after_events
  record_is = ap (λ (serial : ℕ). record_of setup_entry (begun_at kernel_image kernel_image 32 (serial + (1 - 1)) 1)
      (command_outcome (run_chunk false setup_chunk) (begun_at kernel_image kernel_image 32 (serial + (1 - 1)) 1) (untouched 1)).state.world)
      serial_is

  pub at_place_is : record_at_place o (after_events o []) setup_entry ≡ setup_record setup_entry
  unfolding record_at_place run_at_place after_events
  at_place_is = ap (λ (serial : ℕ). record_of setup_entry (begun_at kernel_image kernel_image 32 (serial + (1 - 1)) 1)
      (command_outcome (run_chunk false setup_chunk) (begun_at kernel_image kernel_image 32 (serial + (1 - 1)) 1) (untouched 1)).state.world)
      serial_is

  pub size_is : size_found o [] 2 after_chunk ≡ 836
  unfolding record_size effect_of after_events
  size_is = ap (λ (objects : List (ℕ × Object)). log_record_size (record { number = 1; objects = objects }))
      (ap (effect_at kernel_image 1) at_place_is ∙ effect_is setup_entry) ∙ effect_bytes

  conflicts_are : conflicts_found o [] 2 after_chunk ≡ []
  unfolding after_events
  conflicts_are = ap (conflicts_of (record { image = kernel_image; locks = empty })) record_is ∙ no_conflict setup_entry refl

  -- ---- the replies

  changed : (after : List Event) → after ≡ [] → IsUnchanged (record_to o after 2 after_chunk) → ⊥
  changed after none unchanged = writes_globals setup_entry
      (subst IsUnchanged (ap (λ (events : List Event). record_to o events 2 after_chunk) none ∙ record_is) unchanged)

  fits : (after : List Event) (length size : ℕ) → stored.log_length ≡ 1 → after ≡ [] → length ≡ log_after o after
      → size ≡ size_found o after 2 after_chunk → LOG_LIMIT < length + size → ⊥
  unfolding stored_after
  fits after length size begins none length_is size_is_found over =
      let first : length ≡ 1 = length_is ∙ ap (log_after o) none ∙ begins in
      let bytes : size ≡ 836 = size_is_found ∙ ap (λ (events : List Event). size_found o events 2 after_chunk) none ∙ size_is in
      absurd (omega (arith, first, bytes, over))

  -- the commit is placed, and no other event comes
  commit_at : stored.log_length ≡ 1 → (after : List Event) → Own after → (line : Line) (s : SessionState)
      → CommitReply (place 2 [] after) after_chunk line s → (line ≢ NoMemory) × (line ≢ DiskFault)
      → (after ≡ the_event ∷ []) × (s.session ≡ 1)
  commit_at begins after own Spoiled s says served = let spoiled : false ≡ true = says.0 in absurd cc
  commit_at begins after own NoMemory s says served = absurd (served.0 refl)
  commit_at begins after own DiskFault s says served = absurd (served.1 refl)
  commit_at begins after own (Halted number) s says served =
      let halts : halts_in [] ≡ number ∷ [] = subst (λ (events : List Event). halts_in events ≡ number ∷ []) (came_none [] after own says.1) says.2 in
      absurd cc
  commit_at begins after own (Unchanged number view) s says served =
      absurd (changed after (came_none [] after own says.2.0) says.3)
  commit_at begins after own (Refused found) s says served =
      absurd (says.3 (says.4 ∙ ap (λ (events : List Event). conflicts_found o events 2 after_chunk) (came_none [] after own says.1) ∙ conflicts_are))
  commit_at begins after own (LogFull length size) s says served =
      absurd (fits after length size begins (came_none [] after own says.1.came) says.1.length_is says.1.size_is says.1.over)
  commit_at begins after own (Committed number view) s says served =
      let placed = says.1 in
      let whole : after ≡ ([] ++ placed.others) ++ the_event ∷ [] =
      came_none (([] ++ placed.others) ++ the_event ∷ []) after own placed.sees.0 in
      let others : placed.others ≡ [] = none_own placed.others (own_left placed.others (the_event ∷ []) (subst Own whole own)) placed.are_others in (
        whole ∙ ap (λ (more : List Event). more ++ the_event ∷ []) others,
        ap (λ (state : SessionState). state.session) says.2,
      )
  commit_at begins after own line s says served = absurd says

  -- the chunk draws two names, and makes no event
  chunk_at : (after : List Event) (lines : List Line) (more rs : List Reply) (s : SessionState)
      → ObjectSays (run_chunk false setup_chunk) (place 1 [] after) at_first lines s
      → rs ≡ replies_with 1 lines ++ more → AllByRecursion WasServed rs → s ≡ after_chunk
  chunk_at after lines more rs s says replies served = elim says [
    | inl short ↦
        let all : AllByRecursion WasServed (replies_with 1 (NoMemory ∷ []) ++ more) =
        subst (AllByRecursion WasServed) (replies ∙ ap (λ (l : List Line). replies_with 1 l ++ more) short.lines_are) served in
        absurd (all.0.0 refl)
    | inr ran ↦ elim ran [
      | inl meant ↦ meant.state ∙ ap (λ (next : ℕ). record at_first { next_name = next }) (next_is after)
      | inr spoiled ↦ let is : false ≡ true = spoiled.spoiled in absurd cc
    ]
  ]

  none_held : (others : List Event) (session : ℕ) → others ≡ []
      → HoldsSome (after_events o ((the_event ∷ []) ++ others)) session → ⊥
  unfolding after_events
  none_held others session none holds = nobody_holds (after_events o (the_event ∷ [])) session refl
      (subst (λ (more : List Event). HoldsSome (after_events o ((the_event ∷ []) ++ more)) session) none holds)

  logout_at : (after : List Event) → Own after → (s : SessionState) → s.session ≡ 1
      → LogsOut (place 3 (the_event ∷ []) after) s → after ≡ the_event ∷ []
  logout_at after own s is out =
      let left : List Event = leaving out.holds s.session in
      let inner : Own ((the_event ∷ []) ++ out.others) = own_left ((the_event ∷ []) ++ out.others) left (subst Own out.after own) in
      let others : out.others ≡ [] = none_own out.others (own_right (the_event ∷ []) out.others inner)
      (subst (λ (n : ℕ). events_of n out.others ≡ []) is out.are_others) in
      let stays : left ≡ [] = no_leaving out.holds s.session
      (λ holds. none_held out.others s.session others (out.exactly.0 holds)) in
      out.after ∙ ap (λ (more : List Event). ((the_event ∷ []) ++ out.others) ++ more) stays
      ∙ with_none ((the_event ∷ []) ++ out.others) ∙ ap (λ (more : List Event). (the_event ∷ []) ++ more) others

  -- ---- all that is said

  module _ (begins : stored.log_length ≡ 1) (events : List Event) (own : Own events) where
    abbrev t : Told
    t = record { opened = o; events = events }

    served_after : (number : ℕ) (lines : List Line) (more rs : List Reply) → rs ≡ replies_with number lines ++ more
        → AllByRecursion WasServed rs → AllByRecursion WasServed (replies_with number lines ++ more)
    served_after number lines more rs is served = subst (AllByRecursion WasServed) is served

    -- the logout, and the end
    end_at : (p q : ℕ) (s : SessionState) (rs : List Reply) → take p events ≡ the_event ∷ [] → s.session ≡ 1
        → CommandsSay t 3 p q s (Logout ∷ []) rs → take q events ≡ the_event ∷ []
    end_at p q s rs before is says =
        let one = says.says in
        let out = one.2 in
        let after : take says.point events ≡ the_event ∷ [] =
        logout_at (take says.point events) (own_take says.point events own) s is
        (subst (λ (events_before : List Event). LogsOut (place 3 events_before (take says.point events)) s) before out.1) in
        subst (λ (n : ℕ). take n events ≡ the_event ∷ []) says.rest.1 after

    rest_at : (p q : ℕ) (s : SessionState) (rs : List Reply) → take p events ≡ [] → s ≡ after_chunk
        → CommandsSay t 2 p q s (Commit ∷ Logout ∷ []) rs → AllByRecursion WasServed rs → take q events ≡ the_event ∷ []
    rest_at p q s rs before is says served =
        let one = says.says in
        let replies : rs ≡ replies_with 2 (one.0 ∷ []) ++ says.more =
        says.replies ∙ ap (λ (lines : List Line). replies_with 2 lines ++ says.more) one.1 in
        let done = commit_at begins (take says.point events) (own_take says.point events own) one.0 says.next
        (subst (λ (state : SessionState). CommitReply (place 2 [] (take says.point events)) state one.0 says.next) is
        (subst (λ (events_before : List Event). CommitReply (place 2 events_before (take says.point events)) s one.0 says.next) before one.2))
        (served_after 2 (one.0 ∷ []) says.more rs replies served).0 in
        end_at says.point q says.next says.more done.0 done.1 says.rest

    all_at : (p q : ℕ) (rs : List Reply) → take p events ≡ []
        → CommandsSay t 1 p q at_first (Chunk false setup_chunk ∷ Commit ∷ Logout ∷ []) rs → AllByRecursion WasServed rs
        → take q events ≡ the_event ∷ []
    all_at p q rs before says served =
        let ran = says.says in
        let after : take says.point events ≡ [] = ran.0 ∙ before in
        let next : says.next ≡ after_chunk = chunk_at (take says.point events) says.lines says.more rs says.next
        (subst (λ (events_before : List Event). ObjectSays (run_chunk false setup_chunk) (place 1 events_before (take says.point events)) at_first says.lines says.next) before ran.1)
        says.replies served in
        rest_at says.point q says.next says.more after next says.rest
        (served_rest 1 says.lines says.more (served_after 1 says.lines says.more rs says.replies served))

    of_user : (p : ℕ) (rs : List Reply) → take p events ≡ []
        → SaysOfUser t 1 32 p 0 (until_logout setup_commands) rs → AllByRecursion WasServed rs → events ≡ the_event ∷ []
    of_user p rs before says served =
        let all : AllByRecursion WasServed (reply_with 0 (Login 0) ∷ says.replies) = subst (AllByRecursion WasServed) says.login served in
        let upto : take says.end events ≡ the_event ∷ [] = all_at p says.end says.replies before says.says all.1 in
        let no_more : drop says.end events ≡ [] = none_own (drop says.end events) (own_drop says.end events own) says.no_more in
        sym (take-append-drop says.end events) ∙ ap (λ (more : List Event). take says.end events ++ more) no_more
        ∙ with_none (take says.end events) ∙ upto

    kernel_stands : (after_events o []).image ≡ kernel_image
    unfolding after_events
    kernel_stands = refl

    none_placed : (after_events o []).number ≡ 0
    unfolding after_events
    none_placed = refl

    pub one_event : (seen : ℕ) (rs : List Reply) → Says t 1 seen (record { user = curator; commands = setup_commands }) rs
        → AllByRecursion WasServed rs → events ≡ the_event ∷ []
    one_event seen rs says served =
        let before : take says.point events ≡ [] = came_none [] (take says.point events) (own_take says.point events own) says.sees.0 in
        let view : says.view ≡ 0 = says.sees.1 ∙ ap (λ (es : List Event). (after_events o es).number) before ∙ none_placed in
        let user : user_in (after_events o (take says.point events)).image curator ≡ Some 32 =
        ap (λ (es : List Event). user_in (after_events o es).image curator) before
        ∙ ap (λ (image : Image). user_in image curator) kernel_stands ∙ kernel_user in
        of_user says.point rs before
        (subst (λ (number : ℕ). SaysOfUser t 1 32 says.point number (until_logout setup_commands) rs) view
        (subst (λ (found : Option ℕ). SaysOf found t 1 says.point says.view (until_logout setup_commands) rs) user says.says))
        served

-- The events of a load: each is a round's commit, and no reply but `committed` fits a commit.
use Rattle.std.proofs.Common.{◌≡◌, ◌≢◌, ◌⊎◌, inl, inr, ℕ, ◌+◌, ◌-◌, ◌*◌, ◌<◌, ◌≤◌, true, false, List, [], ◌∷◌, ◌++◌, length, refl, sym, ap, subst, ◌∙◌, arith}
use Rattle.std.specs.List.{AllByRecursion, fold}
use Rattle.std.proofs.lemmas.List.Sums.{fold_push}
use Rattle.std.proofs.lemmas.List.Elements.{filter_map-append}
use Rattle.std.proofs.lemmas.List.{length_push}
use Rattle.gem_meaning.specs.gem_world.World.{untouched}
use Rattle.gem_meaning.specs.gem_language.Commands.{run_chunk}
use Rattle.gem_meaning.specs.gem_language.Transaction.{transaction}
use Rattle.gem_meaning.specs.gem_record.declared.limits.TheConstants.{LOG_LIMIT}
use Rattle.gem_meaning.specs.gem_record.Stored.{Stored}
use Rattle.gem_meaning.specs.shell_words.declared.script.Command.{Command}
use Rattle.gem_meaning.specs.gem_replies.declared.reply.Line.{Line}
use Rattle.gem_meaning.specs.gem_replies.declared.reply.Line.TheVariants.{NoMemory, DiskFault, Spoiled, Halted, Unchanged, Refused, LogFull, Committed}
use Rattle.gem_meaning.specs.gem_replies.declared.reply.Reply.{Reply}
use Rattle.gem_meaning.specs.declared.event.What.TheVariants.{Placed}
use Rattle.gem_meaning.specs.Opened.{Opened, commands_of, entry_commands}
use Rattle.gem_meaning.specs.Commands.{object_commands}
use Rattle.gem_meaning.specs.Events.{Event, Standing, after_event, before_events, after_events, events_of, halt_of, halts_in, OthersCame, run_on_view}
use Rattle.gem_meaning.specs.After.{stored_with, stored_from, stored_after, log_after}
use Rattle.gem_meaning.specs.State.{SessionState, CommandPlace}
use Rattle.gem_meaning.specs.Runs.{setting_of, world_so_far, next_in, ObjectSays}
use Rattle.gem_meaning.specs.Commits.{CommitReply}
use Rattle.gem_meaning.specs.Session.{replies_with}
use Rattle.gem_meaning.specs.Legal.{WasServed}
use Rattle.gem_server.specs.Rounds.{round_text}
use Rattle.gem_server.specs.AfterLoad.{IsCommit}
use Rattle.gem_server.proofs.LoadRounds.{round_commands, round_state, round_entry, number_at, added_by, sum_over, sum_push, nothing_yet}
use Rattle.gem_server.proofs.LoadStands.{MOST_EVENTS, Stands, no_name_drawn, is_changed, no_conflicts, short_record, stands_on}

-- ---- one event more

after_one : (o : Opened) (events : List Event) (event : Event) → after_events o (events ++ event ∷ []) ≡ after_event o (after_events o events) event
unfolding after_events
after_one o events event = fold_push (after_event o) (before_events o) events event

stored_push : (o : Opened) (s : Standing) (stored : Stored) (events : List Event) (event : Event)
    → stored_from o s stored (events ++ event ∷ []) ≡ stored_with o (fold (after_event o) s events) (stored_from o s stored events) event
stored_push o s stored [] event = refl
stored_push o s stored (first ∷ rest) event = stored_push o (after_event o s first) (stored_with o s stored first) rest event

stored_one : (o : Opened) (events : List Event) (event : Event)
    → stored_after o (events ++ event ∷ []) ≡ stored_with o (after_events o events) (stored_after o events) event
unfolding stored_after after_events
stored_one o events event = stored_push o (before_events o) o.stored events event

pub all_push : {X : Type 0} (P : X → Type 0) (list : List X) (x : X) → AllByRecursion P list → P x → AllByRecursion P (list ++ x ∷ [])
all_push P [] x all is = (is, tt)
all_push P (y ∷ list) x all is = (all.0, all_push P list x all.1 is)

-- ---- what stands after some events

-- The events are commits of rounds, and what stands after them is what these left.
pub record StandsAt (o : Opened) (all : List (List ℕ)) (events : List Event) : Type 0 where
  pub stands : Stands o (after_events o events) (sum_over (added_by all) events) (length events)
  pub running : halts_in events ≡ []
  pub log : log_after o events ≤ 2000 + 200 * length events
  pub commits : AllByRecursion (λ (event : Event). IsCommit event.1) events

-- The event is a round's commit.
pub record IsRound (o : Opened) (all : List (List ℕ)) (event : Event) : Type 0 where
  pub session : ℕ
  pub view : ℕ
  pub transaction : ℕ
  pub first : ℕ
  pub number : ℕ
  pub from : 1 ≤ number
  pub to : number ≤ 9
  pub commands : entry_commands o.script (round_entry session view transaction first) ≡ round_commands number
  pub added : number_at all session transaction ≡ number
  pub is : event ≡ (session, Placed (round_entry session view transaction first))

module _ (o : Opened) (all : List (List ℕ)) (events : List Event) (at : StandsAt o all events) (few : length events ≤ MOST_EVENTS) where
  abbrev s : Standing
  s = after_events o events

  abbrev value : ℕ
  value = sum_over (added_by all) events

  -- what stands when a round's commit has been placed
  pub stands_next : (event : Event) → IsRound o all event → StandsAt o all (events ++ event ∷ [])
  stands_next event round = subst (λ (e : Event). StandsAt o all (events ++ e ∷ [])) (sym round.is) (
      let own : Event = (round.session, Placed (round_entry round.session round.view round.transaction round.first)) in
      let sum : sum_over (added_by all) (events ++ own ∷ []) ≡ value + round.number =
      sum_push (added_by all) events own ∙ ap (λ (n : ℕ). value + n) round.added in
      let longer : length (events ++ own ∷ []) ≡ length events + 1 = length_push events own in
      let after = stands_on o s value (length events) at.stands few round.session round.view round.transaction round.first round.number
      round.from round.to round.commands in
      let size = short_record o s value (length events) at.stands few round.session round.view round.transaction round.first round.number
      round.from round.to round.commands in
      let log : log_after o (events ++ own ∷ []) ≡ _ = ap (λ (stored : Stored). stored.log_length) (stored_one o events own) in
      let until = at.log in
      record {
        stands = subst (λ (standing : Standing). Stands o standing (sum_over (added_by all) (events ++ own ∷ [])) (length (events ++ own ∷ [])))
            (sym (after_one o events own))
            (subst (λ (n : ℕ). Stands o (after_event o s own) n (length (events ++ own ∷ []))) (sym sum)
            (subst (λ (n : ℕ). Stands o (after_event o s own) (value + round.number) n) (sym longer) after));
        running = filter_map-append (λ (event : Event). halt_of event.1) events (own ∷ []) ∙ ap (λ (list : List ℕ). list ++ []) at.running;
        log = omega (arith, log, longer, size, until);
        commits = all_push (λ (event : Event). IsCommit event.1) events own at.commits tt;
      })

-- ---- a chunk

served_none : {A : Type 0} (number : ℕ) (more rs : List Reply) → rs ≡ replies_with number (NoMemory ∷ []) ++ more
    → AllByRecursion WasServed rs → A
served_none number more rs is served =
    let all : AllByRecursion WasServed (replies_with number (NoMemory ∷ []) ++ more) = subst (AllByRecursion WasServed) is served in
    absurd (all.0.0 refl)

module _ (o : Opened) (all : List (List ℕ)) (before : List Event) (at : StandsAt o all before) (few : length before ≤ MOST_EVENTS)
    (session view transaction_number first number : ℕ) (from : 1 ≤ number) (to : number ≤ 9) (after : List Event) where
  abbrev state : SessionState
  state = round_state session view transaction_number first

  abbrev place : CommandPlace
  place = record { opened = o; number = first; before = before; after = after }

  world_is : world_so_far place state ≡ untouched 1
  unfolding run_on_view
  world_is = ap (λ (list : List Command). (transaction (object_commands list) (setting_of o before state) (untouched 1)).world)
      (nothing_yet (first - 1) (commands_of o.script session))

  next_is : next_in (run_chunk false (round_text number)) (setting_of o before state) (world_so_far place state) ≡ 1
  next_is = ap (next_in (run_chunk false (round_text number)) (setting_of o before state)) world_is
      ∙ no_name_drawn o (after_events o before) (sum_over (added_by all) before) (length before) at.stands few session view
      transaction_number first number from to

  -- the session carries on as it did
  pub chunk_at : (lines : List Line) (more rs : List Reply) (s : SessionState)
      → ObjectSays (run_chunk false (round_text number)) place state lines s
      → rs ≡ replies_with first lines ++ more → AllByRecursion WasServed rs → s ≡ state
  chunk_at lines more rs s says replies served = elim says [
    | inl short ↦ served_none first more rs (replies ∙ ap (λ (l : List Line). replies_with first l ++ more) short.lines_are) served
    | inr ran ↦ elim ran [
      | inl meant ↦ meant.state ∙ ap (λ (next : ℕ). record state { next_name = next }) next_is
      | inr spoiled ↦ let is : false ≡ true = spoiled.spoiled in absurd cc
    ]
  ]

-- ---- a commit

module _ (o : Opened) (all : List (List ℕ)) (before after : List Event) (few : length after ≤ MOST_EVENTS)
    (session view transaction first number : ℕ) (from : 1 ≤ number) (to : number ≤ 9)
    (commands : entry_commands o.script (round_entry session view transaction first) ≡ round_commands number) (above : o.number ≤ view) where
  -- the commit was placed, among events of others
  pub record WasPlaced (s : SessionState) : Type 0 where
    pub others : List Event
    pub none : events_of session others ≡ []
    pub more : List Event
    pub no_more : events_of session more ≡ []
    pub after_is : after ≡ ((before ++ others) ++ (session, Placed (round_entry session view transaction first)) ∷ []) ++ more
    pub next_view : ℕ
    pub view_is : next_view ≡ (after_events o after).number
    pub state_is : s ≡ round_state session next_view (transaction + 1) (first + 1 + 1)

  -- it wasn't, which can't be where only rounds came before
  pub record WasRefused : Type 0 where
    pub came : OthersCame session before after
    pub never : StandsAt o all after → ⊥

  never_full : (length_told size : ℕ) → length_told ≡ log_after o after → StandsAt o all after
      → size ≤ 200 → LOG_LIMIT < length_told + size → ⊥
  never_full length_told size is at small over = let log = at.log in absurd (omega (arith, is, few, log, small, over))

  pub commit_at : (line : Line) (s : SessionState)
      → CommitReply (record { opened = o; number = first + 1; before = before; after = after }) (round_state session view transaction first) line s
      → (line ≢ NoMemory) × (line ≢ DiskFault) → WasPlaced s ⊎ WasRefused
  commit_at Spoiled s says served = let spoiled : false ≡ true = says.0 in absurd cc
  commit_at NoMemory s says served = absurd (served.0 refl)
  commit_at DiskFault s says served = absurd (served.1 refl)
  commit_at (Halted halted_at) s says served = inr (record {
    came = says.1;
    never = λ at. let halts : halted_at ∷ [] ≡ [] = sym says.2 ∙ at.running in absurd cc;
  })
  commit_at (Unchanged shown next_view) s says served = inr (record {
    came = says.2.0;
    never = λ at. is_changed o (after_events o after) (sum_over (added_by all) after) (length after) at.stands few session view transaction first
        number from to commands says.3;
  })
  commit_at (Refused found) s says served = inr (record {
    came = says.1;
    never = λ at. says.3 (says.4 ∙ no_conflicts o (after_events o after) (sum_over (added_by all) after) (length after) at.stands few session view
        transaction first number from to commands above);
  })
  commit_at (LogFull length_told size) s says served = inr (record {
    came = says.1.came;
    never = λ at. never_full length_told size says.1.length_is at
        (subst (λ (n : ℕ). n ≤ 200) (sym says.1.size_is) (short_record o (after_events o after) (sum_over (added_by all) after) (length after)
        at.stands few session view transaction first number from to commands)) says.1.over;
  })
  commit_at (Committed shown next_view) s says served =
      let placed = says.1 in inl (record {
        others = placed.others;
        none = placed.are_others;
        more = placed.sees.0.0;
        no_more = placed.sees.0.1;
        after_is = placed.sees.0.2;
        next_view = next_view;
        view_is = placed.sees.1;
        state_is = says.2;
      })
  commit_at line s says served = absurd says

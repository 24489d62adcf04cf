-- What one session of a load says, up to a point at which only rounds have come: each of its commits is a round's.
use Rattle.std.proofs.Common.{◌≡◌, inl, inr, ℕ, ◌+◌, ◌-◌, ◌<◌, ◌≤◌, Bool, true, false, IsTrue, List, [], ◌∷◌, ◌++◌, length, map, take, drop, get_or, refl, sym, ap, subst, ◌∙◌, append-nil, append_assoc, arith}
use Rattle.std.specs.List.{AllByRecursion, flat_map}
use Rattle.std.proofs.lemmas.Bool.{cases_lt}
use Rattle.std.proofs.lemmas.Grind.{flat_map-append}
use Rattle.std.proofs.lemmas.List.{take_at, get_or_at, length-append, length-take-le, map-append}
use Rattle.gem_meaning.specs.shell_words.declared.script.Command.{Command}
use Rattle.gem_meaning.specs.shell_words.declared.script.Command.TheVariants.{Chunk, Commit}
use Rattle.gem_meaning.specs.gem_replies.declared.reply.Line.{Line}
use Rattle.gem_meaning.specs.gem_replies.declared.reply.Reply.{Reply}
use Rattle.gem_meaning.specs.declared.event.What.{What}
use Rattle.gem_meaning.specs.declared.event.What.TheVariants.{Placed, Left}
use Rattle.gem_meaning.specs.Opened.{Opened, commands_of, entry_commands}
use Rattle.gem_meaning.specs.Events.{Event, Told, after_events, events_of, OthersCame}
use Rattle.gem_meaning.specs.Serial.{HoldsSome}
use Rattle.gem_meaning.specs.State.{SessionState}
use Rattle.gem_meaning.specs.Locks.{leaving}
use Rattle.gem_meaning.specs.Session.{replies_with, CommandsSay, until_logout}
use Rattle.gem_meaning.specs.Legal.{WasServed}
use Rattle.gem_server.specs.AfterLoad.{IsCommit}
use Rattle.gem_server.proofs.Leaving.{nobody_holds, served_rest}
use Rattle.gem_server.proofs.LoadRounds.{round_commands, round_state, round_entry, number_at, added_by, cut_out}
use Rattle.gem_server.proofs.LoadStands.{MOST_EVENTS}
use Rattle.gem_server.proofs.LoadEvents.{StandsAt, IsRound, chunk_at, commit_at}
use Rattle.gem_server.proofs.OwnEvents.{came_others, came_own, not_by_others, by_itself, not_after, up_to}

abbrev pub IsDigit : ℕ → Type 0
IsDigit number = (1 ≤ number) × (number ≤ 9)

last_of_all : {X : Type 0} (P : X → Type 0) (list : List X) (x : X) → AllByRecursion P (list ++ x ∷ []) → P x
last_of_all P [] x all = all.0
last_of_all P (y ∷ list) x all = last_of_all P list x all.1

module _ (t : Told) (all : List (List ℕ)) (few : length t.events ≤ MOST_EVENTS) (session : ℕ) (numbers : List ℕ)
    (digits : AllByRecursion IsDigit numbers) (in_all : get_or all (session - 1) [] ≡ numbers)
    (in_script : commands_of t.opened.script session ≡ flat_map round_commands numbers) (k : ℕ) (k_within : k ≤ length t.events)
    (upto : (q : ℕ) → q ≤ k → StandsAt t.opened all (take q t.events)) where
  abbrev o : Opened
  o = t.opened

  abbrev events : List Event
  events = t.events

  -- Its event that comes next is a round's commit. Where all have come it has one for each round.
  pub record Covers : Type 0 where
    pub next : (front back : List Event) (what : What) → events ≡ front ++ (session, what) ∷ back → length front ≡ k
        → IsRound o all (session, what)
    pub every : length events ≤ k → map (added_by all) (events_of session events) ≡ numbers

  from_nothing : ⊥ → Covers
  from_nothing never = absurd never

  size_at : (q : ℕ) → q ≤ length events → length (take q events) ≡ q
  size_at q within = length-take-le q events within

  -- where only others' events came between two points of which the second is behind
  pub behind_others : (p q : ℕ) → p ≤ k → p ≤ q → q ≤ length events → k < q → OthersCame session (take p events) (take q events) → Covers
  behind_others p q p_upto p_q q_within behind came =
      let p_size = size_at p (omega (arith, p_upto, k_within)) in
      let q_size = size_at q q_within in
      record {
        next = λ front back what whole size. absurd (not_by_others session events front back what whole p q
            (omega (arith, p_size, p_upto, size)) (omega (arith, q_size, behind, size)) came);
        every = λ short. absurd (omega (arith, short, behind, q_within));
      }

  front_is : (front rest : List Event) → events ≡ front ++ rest → length front ≡ k → take k events ≡ front
  front_is front rest whole size = ap (take k) whole ∙ take_at front rest k size

  -- ---- the end

  module _ (p q : ℕ) (p_upto : p ≤ k) (p_q : p ≤ q) (q_within : q ≤ length events)
      (so_far : map (added_by all) (events_of session (take p events)) ≡ numbers) (no_more : events_of session (drop q events) ≡ []) where
    ends_quietly : OthersCame session (take p events) (take q events) → Covers
    ends_quietly came = elim (cases_lt k q) [
      | inl behind ↦ behind_others p q p_upto p_q q_within behind came
      | inr before ↦
          let q_size = size_at q q_within in
          record {
            next = λ front back what whole size.
                absurd (not_after session events front back what q whole (omega (arith, q_size, before, size)) no_more);
            every = λ short. ap (map (added_by all)) (up_to session q events no_more ∙ came_others session (take p events) (take q events) came)
                ∙ so_far;
          }
    ]

    never_left : (others : List Event) → events_of session others ≡ [] → take q events ≡ (take p events ++ others) ++ (session, Left) ∷ []
        → HoldsSome (after_events o (take p events ++ others)) session → Covers
    never_left others none after holds = elim (cases_lt k q) [
      | inl behind ↦
          let p_size = size_at p (omega (arith, p_upto, k_within)) in
          let q_size = size_at q q_within in
          record {
            next = λ front back what whole size.
                let that = by_itself session events front back what whole p q (omega (arith, p_size, p_upto, size))
                (omega (arith, q_size, behind, size)) others [] Left none refl
                (after ∙ sym (append-nil ((take p events ++ others) ++ (session, Left) ∷ []))) in
                let stands : StandsAt o all (take p events ++ others) =
                subst (StandsAt o all) (front_is front ((session, what) ∷ back) whole size ∙ that.front_is) (upto k (omega arith)) in
                absurd (nobody_holds (after_events o (take p events ++ others)) session stands.stands.locks holds);
            every = λ short. absurd (omega (arith, short, behind, q_within));
          }
      | inr before ↦
          let never : IsCommit Left = last_of_all (λ (event : Event). IsCommit event.1) (take p events ++ others) (session, Left)
          (subst (AllByRecursion (λ (event : Event). IsCommit event.1)) after (upto q before).commits) in absurd never
    ]

    at_end : (others : List Event) (holds : Bool) → events_of session others ≡ []
        → take q events ≡ (take p events ++ others) ++ leaving holds session
        → (IsTrue holds → HoldsSome (after_events o (take p events ++ others)) session) → Covers
    at_end others true none after has = never_left others none after (has refl)
    at_end others false none after has = ends_quietly (others, none, after ∙ append-nil (take p events ++ others))

  -- ---- a round

  -- where the session stands before its next round
  pub record IsBefore (done left : List ℕ) (p view transaction first : ℕ) : Type 0 where
    pub whole : done ++ left ≡ numbers
    pub p_upto : p ≤ k
    pub above : o.number ≤ view
    pub transaction_is : length done + 1 ≡ transaction
    pub first_is : length (flat_map round_commands done) + 1 ≡ first
    pub so_far : map (added_by all) (events_of session (take p events)) ≡ done

  all_right : (done left : List ℕ) → AllByRecursion IsDigit (done ++ left) → AllByRecursion IsDigit left
  all_right [] left each = each
  all_right (n ∷ done) left each = all_right done left each.1

  module _ (done left : List ℕ) (number p view transaction first : ℕ) (is : IsBefore done (number ∷ left) p view transaction first) where
    digit : IsDigit number
    digit = (all_right done (number ∷ left) (subst (AllByRecursion IsDigit) (sym is.whole) digits)).0

    commands : entry_commands o.script (round_entry session view transaction first) ≡ round_commands number
    commands =
        let split : flat_map round_commands numbers
        ≡ flat_map round_commands done ++ Chunk false _ ∷ Commit ∷ flat_map round_commands left =
        ap (flat_map round_commands) (sym is.whole) ∙ flat_map-append round_commands done (number ∷ left) in
        ap (λ (list : List Command). drop (first - 1) (take (first + 1) list)) (in_script ∙ split)
        ∙ cut_out (flat_map round_commands done) (flat_map round_commands left) (Chunk false _) Commit first is.first_is

    added : number_at all session transaction ≡ number
    added =
        let at : length done ≡ transaction - 1 = let same = is.transaction_is in omega (arith, same) in
        ap (λ (list : List ℕ). get_or list (transaction - 1) 0) (in_all ∙ sym is.whole) ∙ get_or_at done number left 0 (transaction - 1) at

    abbrev own : What
    own = Placed (round_entry session view transaction first)

    -- where the commit came behind
    placed_behind : (q : ℕ) → p ≤ q → q ≤ length events → k < q → (others more : List Event) → events_of session others ≡ []
        → events_of session more ≡ [] → take q events ≡ ((take p events ++ others) ++ (session, own) ∷ []) ++ more → Covers
    placed_behind q p_q q_within behind others more none no_more after =
        let p_upto = is.p_upto in
        let p_size = size_at p (omega (arith, p_upto, k_within)) in
        let q_size = size_at q q_within in
        record {
          next = λ front back what whole size.
              let that = by_itself session events front back what whole p q (omega (arith, p_size, p_upto, size))
              (omega (arith, q_size, behind, size)) others more own none no_more after in
              record {
                session = session;
                view = view;
                transaction = transaction;
                first = first;
                number = number;
                from = digit.0;
                to = digit.1;
                commands = commands;
                added = added;
                is = ap (λ (w : What). (session, w)) that.same;
              };
          every = λ short. absurd (omega (arith, short, behind, q_within));
        }

    -- where it came before, the session stands before the next round
    placed_before : (q : ℕ) → q ≤ k → (others more : List Event) → events_of session others ≡ [] → events_of session more ≡ []
        → take q events ≡ ((take p events ++ others) ++ (session, own) ∷ []) ++ more → (next_view : ℕ)
        → next_view ≡ (after_events o (take q events)).number
        → IsBefore (done ++ number ∷ []) left q next_view (transaction + 1) (first + 1 + 1)
    placed_before q before others more none no_more after next_view view_is =
        let above = (upto q before).stands.above in
        let so_far = is.so_far in
        let transaction_is = is.transaction_is in
        let first_is = is.first_is in
        let done_size : length (done ++ number ∷ []) ≡ length done + 1 = length-append done (number ∷ []) in
        let commands_size : length (flat_map round_commands (done ++ number ∷ [])) ≡ length (flat_map round_commands done) + 2 =
        ap length (flat_map-append round_commands done (number ∷ [])) ∙ length-append (flat_map round_commands done) (round_commands number) in
        record {
          whole = append_assoc done (number ∷ []) left ∙ is.whole;
          p_upto = before;
          above = omega (arith, above, view_is);
          transaction_is = omega (arith, done_size, transaction_is);
          first_is = omega (arith, commands_size, first_is);
          so_far = ap (map (added_by all)) (came_own session (take p events) others more (take q events) own none no_more after)
              ∙ map-append (added_by all) (events_of session (take p events)) ((session, own) ∷ [])
              ∙ ap (λ (list : List ℕ). list ++ number_at all session transaction ∷ []) so_far
              ∙ ap (λ (n : ℕ). done ++ n ∷ []) added;
        }

  -- ---- all rounds

  module _ (end : ℕ) (end_within : end ≤ length events) (no_more : events_of session (drop end events) ≡ []) where
    committed : (left done : List ℕ) (p view transaction first number : ℕ) (rs : List Reply)
        → IsBefore done (number ∷ left) p view transaction first
        → CommandsSay t (first + 1) p end (round_state session view transaction first) (Commit ∷ until_logout (flat_map round_commands left)) rs
        → AllByRecursion WasServed rs
        → ((q next_view next_transaction next_first : ℕ) (more : List Reply)
        → IsBefore (done ++ number ∷ []) left q next_view next_transaction next_first
        → CommandsSay t next_first q end (round_state session next_view next_transaction next_first)
        (until_logout (flat_map round_commands left)) more → AllByRecursion WasServed more → Covers) → Covers
    committed left done p view transaction first number rs is says served onward =
        let q : ℕ = says.point in
        let from = says.from in
        let q_within = says.within in
        let q_size = size_at q q_within in
        let line : Line = says.says.0 in
        let replies : rs ≡ replies_with (first + 1) (line ∷ []) ++ says.more =
        says.replies ∙ ap (λ (lines : List Line). replies_with (first + 1) lines ++ says.more) says.says.1 in
        let each : AllByRecursion WasServed (replies_with (first + 1) (line ∷ []) ++ says.more) = subst (AllByRecursion WasServed) replies served in
        let digit_is = digit done left number p view transaction first is in
        elim (commit_at o all (take p events) (take q events) (omega (arith, q_size, q_within, few)) session view transaction first number
        digit_is.0 digit_is.1 (commands done left number p view transaction first is) is.above line says.next says.says.2 each.0) [
          | inl placed ↦ elim (cases_lt k q) [
            | inl behind ↦ placed_behind done left number p view transaction first is q from q_within behind placed.others placed.more
                placed.none placed.no_more placed.after_is
            | inr before ↦ onward q placed.next_view (transaction + 1) (first + 1 + 1) says.more
                (placed_before done left number p view transaction first is q before placed.others placed.more placed.none placed.no_more
                placed.after_is placed.next_view placed.view_is)
                (subst (λ (s : SessionState). CommandsSay t (first + 1 + 1) q end s (until_logout (flat_map round_commands left)) says.more)
                placed.state_is says.rest) each.1
          ]
          | inr refused ↦ elim (cases_lt k q) [
            | inl behind ↦ behind_others p q is.p_upto from q_within behind refused.came
            | inr before ↦ from_nothing (refused.never (upto q before))
          ]
        ]

    pub walk : (left done : List ℕ) (p view transaction first : ℕ) (rs : List Reply) → IsBefore done left p view transaction first
        → CommandsSay t first p end (round_state session view transaction first) (until_logout (flat_map round_commands left)) rs
        → AllByRecursion WasServed rs → Covers
    walk [] done p view transaction first rs is says served =
        let out = says.says.2.1 in
        let until : says.point ≡ end = says.rest.1 in
        let same : take says.point events ≡ take end events = ap (λ (n : ℕ). take n events) until in
        let from = says.from in
        at_end p end is.p_upto (omega (arith, from, until)) end_within
        (is.so_far ∙ sym (append-nil done) ∙ is.whole) no_more out.others out.holds out.are_others (sym same ∙ out.after) out.exactly.0
    walk (number ∷ left) done p view transaction first rs is says served =
        let from = says.from in
        let p_upto = is.p_upto in
        let q : ℕ = says.point in
        let q_within = says.within in
        let same : take q events ≡ take p events = says.says.0 in
        let p_size = size_at p (omega (arith, p_upto, k_within)) in
        let q_size = size_at q q_within in
        let one : q ≡ p = let sizes = ap length same in omega (arith, p_size, q_size, sizes) in
        let digit_is = digit done left number p view transaction first is in
        let stays : says.next ≡ round_state session view transaction first =
        chunk_at o all (take p events) (upto p p_upto) (omega (arith, p_size, p_upto, k_within, few)) session view transaction first number
        digit_is.0 digit_is.1 (take q events) says.lines says.more rs says.next says.says.1 says.replies served in
        let later : AllByRecursion WasServed says.more =
        served_rest first says.lines says.more (subst (AllByRecursion WasServed) says.replies served) in
        let at_commit : IsBefore done (number ∷ left) q view transaction first = subst
        (λ (n : ℕ). IsBefore done (number ∷ left) n view transaction first) (sym one) is in
        committed left done q view transaction first number says.more at_commit
        (subst (λ (s : SessionState). CommandsSay t (first + 1) q end s (Commit ∷ until_logout (flat_map round_commands left)) says.more)
        stays says.rest) later
        (λ p view transaction first rs is says served. walk left (done ++ number ∷ []) p view transaction first rs is says served)

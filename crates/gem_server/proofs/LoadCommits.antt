-- A load commits once in each round.
use Rattle.std.proofs.Common.{◌≡◌, ◌⊎◌, inl, inr, ℕ, zero, suc, pos, ◌+◌, ◌-◌, ◌*◌, ◌<◌, ◌≤◌, List, [], ◌∷◌, ◌++◌, length, map, take, drop, get_or, refl, sym, ap, subst, ◌∙◌, append_assoc, take-append-drop, arith}
use Rattle.std.specs.List.{AllByRecursion}
use Rattle.std.proofs.lemmas.Nat.{mul-le}
use Rattle.std.proofs.lemmas.List.{get_or_at, length-append, length-map, drop_more, take_more, take_all, length-take-le}
use Rattle.gem_meaning.specs.gem_replies.declared.reply.Reply.{Reply}
use Rattle.gem_meaning.specs.gem_replies.declared.reply.RunBook.{RunBook}
use Rattle.gem_meaning.specs.gem_replies.declared.reply.Transcript.{Transcript}
use Rattle.gem_meaning.specs.shell_words.Script.{SessionCommands}
use Rattle.gem_meaning.specs.shell_words.ScriptGrammar.{ReadsScript}
use Rattle.gem_meaning.specs.declared.event.What.TheVariants.{Placed, Held, Dropped, Left, Checked, Halted}
use Rattle.gem_meaning.specs.Opened.{Opened, commands_or_none}
use Rattle.gem_meaning.specs.Events.{Event, Told, after_events, events_of, entries_of, standing}
use Rattle.gem_meaning.specs.After.{stored_after}
use Rattle.gem_meaning.specs.Serial.{IsOfScript}
use Rattle.gem_meaning.specs.Session.{Says}
use Rattle.gem_meaning.specs.Legal.{AreTranscripts, IsLegal, WasServed, AlwaysServed}
use Rattle.load_maker.specs.Numbers.{load_numbers, load_sum}
use Rattle.load_maker.specs.Scripts.{load_text}
use Rattle.gem_server.specs.Rounds.{IsLoaded, IsSetUp}
use Rattle.gem_server.specs.AfterLoad.{IsCommit, CommitsEachRound}
use Rattle.gem_server.specs.Demo.{IsLoad}
use Rattle.gem_server.proofs.RoundBags.{items, counted, all_named}
use Rattle.gem_server.proofs.LoadRounds.{session_of, script_of, added_by, sum_over}
use Rattle.gem_server.proofs.LoadStands.{MOST_EVENTS}
use Rattle.gem_server.proofs.LoadEvents.{StandsAt, stands_next}
use Rattle.gem_server.proofs.LoadWalk.{Covers}
use Rattle.gem_server.proofs.LoadLogin.{covered}
use Rattle.gem_server.proofs.LoadBound.{few_events}
use Rattle.gem_server.proofs.LoadSums.{by_session, EachFrom, picked, each_mapped, split, sums_by_session, most_by_session, count_is, sum_mapped}
use Rattle.gem_server.proofs.LoadScript.{load_script_is}
use Rattle.gem_server.proofs.LoadNumbers.{AreNumbers, all_numbers, all_sessions, load_sum_is}

one_at : {X : Type 0} (P : X → Type 0) (list : List X) (n : ℕ) (d : X) → AllByRecursion P list → n < length list → P (get_or list n d)
one_at P [] n d all within = absurd (omega (arith, within))
one_at P (x ∷ list) zero d all within = all.0
one_at P (x ∷ list) (suc n) d all within = one_at P list n d all.1 (omega (arith, within))

all_mapped : {X : Type 0} (P Q : X → Type 0) → ((x : X) → P x → Q x) → (list : List X) → AllByRecursion P list → AllByRecursion Q list
all_mapped P Q f [] all = tt
all_mapped P Q f (x ∷ list) all = (f x all.0, all_mapped P Q f list all.1)

module _ (t : Told) (rounds : ℕ) (all : List (List ℕ)) (script_is : t.opened.script ≡ script_of all)
    (numbers_are : AllByRecursion (AreNumbers rounds) all) where
  abbrev o : Opened
  o = t.opened

  abbrev events : List Event
  events = t.events

  -- what is known of the session with this number
  record IsSaid (session : ℕ) (numbers : List ℕ) : Type 0 where
    are : AreNumbers rounds numbers
    in_all : get_or all (session - 1) [] ≡ numbers
    replies : List Reply
    says : Says t session 0 (session_of numbers) replies
    served : AllByRecursion WasServed replies

  said : (front list : List (List ℕ)) (first : ℕ) (transcripts : List Transcript) → front ++ list ≡ all → length front + 1 ≡ first
      → AllByRecursion (AreNumbers rounds) list → AreTranscripts t first (script_of list) transcripts
      → AllByRecursion (λ transcript. AllByRecursion WasServed transcript.replies) transcripts → EachFrom IsSaid first list
  said front [] first transcripts whole at are ok served = tt
  said front (numbers ∷ list) first [] whole at are ok served = absurd ok
  said front (numbers ∷ list) first (transcript ∷ transcripts) whole at are ok served = (
    record {
      are = are.0;
      in_all = ap (λ (l : List (List ℕ)). get_or l (first - 1) []) (sym whole)
          ∙ get_or_at front numbers list [] (first - 1) (omega (arith, at));
      replies = transcript.replies;
      says = ok.0.says;
      served = served.0;
    },
    said (front ++ numbers ∷ []) list (first + 1) transcripts (append_assoc front (numbers ∷ []) list ∙ whole)
        (let size : length (front ++ numbers ∷ []) ≡ length front + 1 = length-append front (numbers ∷ []) in omega (arith, size, at))
        are.1 ok.1 served.1,
  )

  module _ (each : EachFrom IsSaid 1 all) (of_script : AllByRecursion (IsOfScript o.script) events) where
    in_sessions : AllByRecursion (λ (event : Event). (1 ≤ event.0) × (event.0 < 1 + length all)) events
    in_sessions =
        let sizes : length o.script ≡ length all = ap length script_is ∙ length-map all session_of in
        all_mapped (IsOfScript o.script) (λ (event : Event). (1 ≤ event.0) × (event.0 < 1 + length all))
        (λ event is. let to = is.1 in (is.0, omega (arith, to, sizes))) events of_script

    counted_by_session : length events ≡ by_session (λ (event : Event). 1) events 1 all
    counted_by_session = sym (count_is events) ∙ split (λ (event : Event). 1) 1 all events in_sessions

    -- no session makes many events
    few_of_all : length all ≤ 16 → rounds ≤ 1000 → length events ≤ MOST_EVENTS
    few_of_all sessions_to rounds_to =
        let most = most_by_session (λ (event : Event). 1) (rounds + 1) events 1 all
        (each_mapped IsSaid (λ session numbers. sum_over (λ (event : Event). 1) (events_of session events) ≤ rounds + 1)
        (λ session numbers is.
        let few = few_events t session 0 numbers is.replies is.says in
        let same = count_is (events_of session events) in
        let count = is.are.count in omega (arith, few, same, count)) 1 all each) in
        let product = mul-le (length all) (rounds + 1) 16 1001 sessions_to (omega (arith, rounds_to)) in
        let is = counted_by_session in omega (arith, most, product, is)

    module _ (few : length events ≤ MOST_EVENTS) where
      abbrev UpTo : ℕ → Type 0
      UpTo k = (q : ℕ) → q ≤ k → StandsAt o all (take q events)

      covers : (session : ℕ) (numbers : List ℕ) (is : IsSaid session numbers) (k : ℕ) (within : k ≤ length events) (upto : UpTo k)
          → Covers t all few session numbers is.are.digits is.in_all (ap commands_or_none is.says.of_script) k within upto
      covers session numbers is k within upto = covered t all few session numbers is.are.digits is.in_all
          (ap commands_or_none is.says.of_script) k within upto 0 is.replies is.says is.served

      one_more : (k : ℕ) (within : k < length events) → UpTo k → StandsAt o all (take (k + 1) events)
      one_more k within upto =
          let event : Event = get_or events k (0, Left) in
          let of : (1 ≤ event.0) × (event.0 < 1 + length all) =
          one_at (λ (event : Event). (1 ≤ event.0) × (event.0 < 1 + length all)) events k (0, Left) in_sessions within in
          let it = picked IsSaid 1 all each event.0 of.0 of.1 in
          let size = length-take-le k events (omega (arith, within)) in
          let round = (covers event.0 it.0 it.1 k (omega (arith, within)) upto).next (take k events) (drop (k + 1) events) event.1
          (sym (take-append-drop k events) ∙ ap (λ (rest : List Event). take k events ++ rest) (drop_more events k (0, Left) within)) size in
          subst (StandsAt o all) (sym (take_more events k (0, Left) within))
          (stands_next o all (take k events) (upto k (omega arith)) (omega (arith, size, within, few)) event round)

      module _ (first_stands : StandsAt o all []) where
        upto_all : (k : ℕ) → k ≤ length events → UpTo k
        upto_all zero within q upto =
            let none : 0 ≡ q = omega (arith, upto) in subst (λ (n : ℕ). StandsAt o all (take n events)) none first_stands
        upto_all (suc k) within q upto = elim (last_or_before q k upto) [
          | inl before ↦ upto_all k (omega (arith, within)) q before
          | inr last ↦ subst (λ (n : ℕ). StandsAt o all (take n events)) (sym last)
              (one_more k (omega (arith, within)) (upto_all k (omega (arith, within))))
        ]
          where
            last_or_before : (q k : ℕ) → q ≤ suc k → (q ≤ k) ⊎ (q ≡ k + 1)
            last_or_before q k upto = grind (arith, upto)

        all_stands : StandsAt o all events
        all_stands = subst (StandsAt o all) (take_all (length events) events (omega arith))
            (upto_all (length events) (omega arith) (length events) (omega arith))

        -- each session has committed each of its rounds
        every : EachFrom (λ session numbers. map (added_by all) (events_of session events) ≡ numbers) 1 all
        every = each_mapped IsSaid (λ session numbers. map (added_by all) (events_of session events) ≡ numbers)
            (λ session numbers is. (covers session numbers is (length events) (omega arith)
            (upto_all (length events) (omega arith))).every (omega arith)) 1 all each

        sum_of_all : sum_over (added_by all) events ≡ sum_over (sum_over (λ (n : ℕ). n)) all
        sum_of_all = split (added_by all) 1 all events in_sessions
            ∙ sums_by_session (added_by all) (sum_over (λ (n : ℕ). n)) events 1 all
            (each_mapped (λ session numbers. map (added_by all) (events_of session events) ≡ numbers)
            (λ session numbers. sum_over (added_by all) (events_of session events) ≡ sum_over (λ (n : ℕ). n) numbers)
            (λ session numbers is. sum_mapped (added_by all) (events_of session events) ∙ ap (sum_over (λ (n : ℕ). n)) is) 1 all every)

        count_of_all : length events ≡ sum_over length all
        count_of_all = counted_by_session
            ∙ sums_by_session (λ (event : Event). 1) length events 1 all
            (each_mapped (λ session numbers. map (added_by all) (events_of session events) ≡ numbers)
            (λ session numbers. sum_over (λ (event : Event). 1) (events_of session events) ≡ length numbers)
            (λ session numbers is. count_is (events_of session events) ∙ sym (length-map (events_of session events) (added_by all))
            ∙ ap length is) 1 all every)

rounds_of_all : (rounds : ℕ) (all : List (List ℕ)) → AllByRecursion (AreNumbers rounds) all → sum_over length all ≡ length all * rounds
rounds_of_all rounds [] are = omega arith
rounds_of_all rounds (numbers ∷ all) are =
    let here = are.0.count in let rest = rounds_of_all rounds all are.1 in grind (arith, here, rest)

first_stands : (o : Opened) (all : List (List ℕ)) → IsSetUp o → StandsAt o all []
unfolding after_events stored_after
first_stands o all setup = record {
  stands = record {
    counts = [];
    loaded = setup.loaded;
    ascend = tt;
    counted = refl;
    low = omega arith;
    earlier = tt;
    above = omega arith;
    locks = refl;
    unchanged = λ name kernel. setup.unchanged name;
  };
  running = refl;
  log = let short = setup.short in omega (arith, short);
  commits = tt;
}

module _ (t : Told) (book : RunBook) (seed sessions rounds : ℕ) where
  abbrev all : List (List ℕ)
  all = load_numbers sessions rounds seed

  of_script : sessions ≤ 16 → rounds ≤ 1000 → IsLegal t book → AlwaysServed book → t.opened.script ≡ script_of (load_numbers sessions rounds seed)
      → IsSetUp t.opened → CommitsEachRound seed sessions rounds t
  of_script sessions_to rounds_to legal served script setup =
      let are = all_numbers sessions rounds seed in
      let sizes = all_sessions sessions rounds seed in
      let each = said t rounds all script are [] all 1 book.transcripts refl refl are
      (subst (λ (s : List SessionCommands). AreTranscripts t 1 s book.transcripts) script legal.transcripts) served in
      let of_script = legal.consistent.sessions in
      let few = few_of_all t rounds all script are each of_script (omega (arith, sizes, sessions_to)) rounds_to in
      let first = first_stands t.opened all setup in
      let stands = all_stands t rounds all script are each of_script few first in
      let counts = stands.stands.counts in
      let count : length t.events ≡ sessions * rounds =
      count_of_all t rounds all script are each of_script few first ∙ rounds_of_all rounds all are
      ∙ ap (λ (n : ℕ). n * rounds) sizes in
      let sum : sum_over (added_by all) t.events ≡ load_sum seed sessions rounds =
      sum_of_all t rounds all script are each of_script few first ∙ load_sum_is seed sessions rounds in
      record {
        only = stands.commits;
        count = count;
        after = record {
          pairs = items counts;
          loaded = subst (λ (n : ℕ). IsLoaded (standing t).image (pos n) (items counts)) sum stands.stands.loaded;
          named = all_named 0 counts stands.stands.ascend;
          counted = counted counts ∙ stands.stands.counted ∙ count;
        };
      }

  pub load_commits : IsLoad seed sessions rounds → IsLegal t book → AlwaysServed book
      → ReadsScript (load_text seed sessions rounds) t.opened.script → IsSetUp t.opened → CommitsEachRound seed sessions rounds t
  load_commits load legal served reads setup = of_script load.sessions_are.1 load.rounds_are.1 legal served
      (load_script_is seed sessions rounds t.opened.script load.sessions_are.1 reads) setup

-- where all events are commits, the history has an entry for each
pub entries_of_all : (events : List Event) → AllByRecursion (λ (event : Event). IsCommit event.1) events
    → length (entries_of events) ≡ length events
entries_of_all [] all = refl
entries_of_all ((session, Placed entry) ∷ events) all = ap suc (entries_of_all events all.1)
entries_of_all ((session, Held oid kind) ∷ events) all = absurd all.0
entries_of_all ((session, Dropped oid) ∷ events) all = absurd all.0
entries_of_all ((session, Left) ∷ events) all = absurd all.0
entries_of_all ((session, Checked) ∷ events) all = absurd all.0
entries_of_all ((session, Halted number entry) ∷ events) all = absurd all.0

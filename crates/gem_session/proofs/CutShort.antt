-- What a session has done for which memory ran out, once it is logged out.
use Rattle.std.proofs.Common.{◌≡◌, ◌∙◌, refl, sym, ap, subst, ℕ, zero, suc, ◌+◌, ◌-◌, ◌≤◌, ◌<◌, Bool, true, false, not, cond, IsTrue, ◌↔◌, Option, Some, None, Result, Ok, Err, OnErr, List, [], ◌∷◌, ◌++◌, take, drop, length, arith, inl, inr, if◌then◌else◌, append-nil}
use Rattle.std.specs.List.{prefix_len, slice_get}
use Rattle.std.proofs.Math.Seq.{drop-append_seam}
use Rattle.std.proofs.lemmas.Bool.{false≢true}
use Rattle.std.proofs.lemmas.List.{append_assoc, take-take, take_all}
use Rattle.std.proofs.lemmas.List.Folds.{length-prefix_len}
use Rattle.shell_words.specs.Script.{SessionCommands, is_logout}
use Rattle.shell_words.specs.declared.script.Command.{Command}
use Rattle.shell_words.specs.declared.script.Command.TheVariants.{Logout}
use Rattle.gem_replies.specs.declared.reply.Line.{Line}
use Rattle.gem_replies.specs.declared.reply.Line.TheVariants.{NoUser, Login, Logout as LoggedOut}
use Rattle.gem_replies.specs.declared.reply.Reply.{Reply}
use Rattle.gem_meaning.specs.Opened.{Opened}
use Rattle.gem_meaning.specs.Events.{Event, Told, after_events, events_of, Extends, OthersCame}
use Rattle.gem_meaning.specs.Names.{user_in}
use Rattle.gem_meaning.specs.State.{first_transaction}
use Rattle.gem_meaning.specs.Locks.{LogsOut, leaving}
use Rattle.gem_meaning.specs.Serial.{HoldsSome}
use Rattle.gem_meaning.specs.Commits.{SeesNumber}
use Rattle.gem_meaning.specs.Session.{CommandsSay, SaysOf, Says, until_logout, reply_with, replies_with, not_logged_in}
use Rattle.stone_core.specs.Port.{LogoutSays}
use Rattle.gem_session.specs.declared.session.Session.{Session}
use Rattle.gem_session.specs.Running.{session_state, HasLoggedIn, goes_on, Replied, HoldsNone, IsDone, FallsShort, WasCutShort, IsToBeCutShort}
use Rattle.gem_session.proofs.Apart.{none_of}
use Rattle.gem_session.proofs.Others.{nobody_came, extends_by, extends_twice, nothing_later, longer}
use Rattle.gem_session.proofs.Serving.{HasServed, front_more, led_on, out_said, said_since, login_sees, seen_so_far}
use Rattle.gem_session.proofs.Unlocked.{fresh_holds_none, holds_none_still, left_holds_none}

-- what holds where a call gave up
pub gave_up : {T E : Type 0} {P : Type 0} (result : Result T E) → P → OnErr result P
gave_up (Ok x) holds = tt
gave_up (Err e) holds = holds

-- ---- a front of the commands before the first logout

cut_one : (out : Bool) (n k : ℕ) (c : Command) (cs front : List Command) → suc n ≤ cond (not out) (1 + k) 0 →
    (n ≤ k → until_logout front ≡ front ++ Logout ∷ []) →
    (if out then c ∷ [] else c ∷ until_logout front) ≡ c ∷ (front ++ Logout ∷ [])
cut_one true n k c cs front le rest = absurd (omega (arith, le))
cut_one false n k c cs front le rest = ap (λ x. c ∷ x) (rest (omega (arith, le)))

until_cut : (n : ℕ) (cs : List Command) → n ≤ prefix_len goes_on cs → until_logout (take n cs) ≡ take n cs ++ Logout ∷ []
until_cut zero cs le = refl
until_cut (suc n) [] le = refl
until_cut (suc n) (c ∷ cs) le = cut_one (is_logout c) n (prefix_len goes_on cs) c cs (take n cs) le (until_cut n cs)

-- the first commands of the script, and the logout
cut_until : (cs body : List Command) (n : ℕ) → body ≡ take (prefix_len goes_on cs) cs → n ≤ length body → until_logout (take n cs) ≡ take n body ++ Logout ∷ []
cut_until cs body n is le =
    let size : length body ≡ prefix_len goes_on cs = ap length is ∙ length-prefix_len goes_on cs in
    let few : n ≤ prefix_len goes_on cs = omega (arith, le, size) in
    until_cut n cs few
    ∙ ap (λ x. x ++ Logout ∷ []) (sym (ap (take n) is ∙ take-take n (prefix_len goes_on cs) cs few))

-- ---- after the login

-- one that said this to the first n commands and to its logout
cut_after : (t : Told) (script : SessionCommands) (body : List Command) (n : ℕ) (first : Session) (all : List Event) (q : ℕ) (said : List Reply) →
    HasLoggedIn t script first → body ≡ take (prefix_len goes_on script.commands) script.commands → n ≤ length body → Extends t.events all →
    q ≤ length all → events_of first.session (drop q all) ≡ [] →
    CommandsSay (record { opened = t.opened; events = all }) 1 (length t.events) q (session_state first) (take n body ++ Logout ∷ []) said →
    WasCutShort (record { opened = t.opened; events = all }) first.session (length t.events) script
cut_after t script body n first all q said logged_in is le grew within no_more says = record {
  of_script = logged_in.of_script;
  count = n;
  replies = reply_with 0 (Login first.number) ∷ said;
  point = length t.events;
  view = first.number;
  saw = omega arith;
  within = longer t.events all grew;
  sees = login_sees t script first all logged_in grew;
  says = said_since t script first all q (until_logout (take n script.commands)) said logged_in grew within no_more
      (subst (λ cs. CommandsSay (record { opened = t.opened; events = all }) 1 (length t.events) q (session_state first) cs said)
      (sym (cut_until script.commands body n is le)) says);
}

none_later : (session : ℕ) (es es' : List Event) → OthersCame session es es' → events_of session (drop (length es) es') ≡ []
none_later session es es' came =
    ap (λ x. events_of session (drop (length es) x)) came.2 ∙ ap (events_of session) (drop-append_seam es came.0) ∙ came.1

logged_out : (o : Opened) (events after : List Event) (session : ℕ) → LogoutSays o events after session → Extends events after
logged_out o events after session left =
    (left.others ++ leaving left.holds session, left.events ∙ append_assoc events left.others (leaving left.holds session))

-- where it stands before its next command, having done n of those before the first logout
pub cut_here : (t : Told) (events after all : List Event) (script : SessionCommands) (body : List Command) (i n : ℕ) (first s : Session) (rs : List Reply) →
    HasLoggedIn t script first → body ≡ take (prefix_len goes_on script.commands) script.commands → n ≤ length body → take i body ≡ take n body →
    Extends t.events events → HasServed t.opened t.events events body i first s rs → LogoutSays t.opened events after first.session →
    OthersCame first.session after all → WasCutShort (record { opened = t.opened; events = all }) first.session (length t.events) script
cut_here t events after all script body i n first s rs logged_in is le front grew served left came =
    let later = logged_out t.opened events after first.session left in
    let more = extends_by first.session after all came in
    let out : List Reply = reply_with (i + 1) LoggedOut ∷ [] in
    cut_after t script body n first all (length after) (served.said ++ out) logged_in is le
    (extends_twice t.events events all grew (extends_twice events after all later more)) (longer after all more) (none_later first.session after all came)
    (subst (λ cs. CommandsSay (record { opened = t.opened; events = all }) 1 (length t.events) (length after) (session_state first) (cs ++ Logout ∷ []) (served.said ++ out)) front
    (served.leads all (length after) (Logout ∷ []) out (extends_twice events after all later more)
    (out_said t.opened (i + 1) events after all (session_state s) first.session served.of_session left more)))

-- where its next command was done
pub cut_within : (t : Told) (events events' after : List Event) (script : SessionCommands) (body : List Command) (i : ℕ) (first s : Session) (rs : List Reply) (c : Command) →
    HasLoggedIn t script first → body ≡ take (prefix_len goes_on script.commands) script.commands → slice_get body i ≡ Some c → i < length body →
    Extends t.events events → HasServed t.opened t.events events body i first s rs → Extends events events' → IsDone t.opened (i + 1) events events' s c →
    LogoutSays t.opened events' after first.session →
    WasCutShort (record { opened = t.opened; events = after }) first.session (length t.events) script
cut_within t events events' after script body i first s rs c logged_in is at lt grew served more done left =
    let later = logged_out t.opened events' after first.session left in
    let out : List Reply = reply_with (i + 1 + 1) LoggedOut ∷ [] in
    cut_after t script body (i + 1) first after (length after) (served.said ++ (replies_with (i + 1) done.lines ++ out)) logged_in is (omega (arith, lt))
    (extends_twice t.events events after grew (extends_twice events events' after more later)) (omega arith)
    (none_later first.session after after (nobody_came first.session after))
    (subst (λ cs. CommandsSay (record { opened = t.opened; events = after }) 1 (length t.events) (length after) (session_state first) cs
    (served.said ++ (replies_with (i + 1) done.lines ++ out))) (sym (front_more body i c (Logout ∷ []) at lt))
    (led_on t.opened t.events events events' after body i (session_state first) (session_state s) done.next served.said c done.lines (length after)
    (Logout ∷ []) out served.leads more later done.says
    (out_said t.opened (i + 1 + 1) events' after after done.next first.session (done.of_session ∙ served.of_session) left (nothing_later after))))

-- others came before the logout
out_later : (o : Opened) (es es' after : List Event) (session : ℕ) → OthersCame session es es' → LogoutSays o es' after session → LogoutSays o es after session
out_later o es es' after session came left =
    let same : es' ++ left.others ≡ es ++ (came.0 ++ left.others) = ap (λ x. x ++ left.others) came.2 ∙ append_assoc es came.0 left.others in
    record {
      others = came.0 ++ left.others;
      are_others = none_of session came.0 left.others came.1 left.are_others;
      holds = left.holds;
      events = left.events ∙ ap (λ x. x ++ leaving left.holds session) same;
      exactly = subst (λ x. IsTrue left.holds ↔ HoldsSome (after_events o x) session) same left.exactly;
    }

-- where memory ran out in its next command
pub cut_in : (t : Told) (events events' : List Event) (script : SessionCommands) (body : List Command) (i : ℕ) (first s : Session) (rs : List Reply) (c : Command) →
    HasLoggedIn t script first → body ≡ take (prefix_len goes_on script.commands) script.commands → slice_get body i ≡ Some c → i < length body →
    Extends t.events events → HasServed t.opened t.events events body i first s rs → Extends events events' → FallsShort t.opened (i + 1) events events' s c →
    IsToBeCutShort (record { opened = t.opened; events = events' }) first.session (length t.events) script
cut_in t events events' script body i first s rs c logged_in is at lt grew served more (inl came) after left =
    cut_here t events after after script body i i first s rs logged_in is (omega (arith, lt)) refl grew served
    (out_later t.opened events events' after first.session (subst (λ (n : ℕ). OthersCame n events events') served.of_session came) left)
    (nobody_came first.session after)
cut_in t events events' script body i first s rs c logged_in is at lt grew served more (inr done) after left =
    cut_within t events events' after script body i first s rs c logged_in is at lt grew served more done left

-- where there was no memory for what it replied
pub cut_telling : (t : Told) (events events' : List Event) (script : SessionCommands) (body : List Command) (i : ℕ) (first s : Session) (rs : List Reply) (c : Command) →
    HasLoggedIn t script first → body ≡ take (prefix_len goes_on script.commands) script.commands → slice_get body i ≡ Some c → i < length body →
    Extends t.events events → HasServed t.opened t.events events body i first s rs → Extends events events' → IsDone t.opened (i + 1) events events' s c →
    IsToBeCutShort (record { opened = t.opened; events = events' }) first.session (length t.events) script
cut_telling t events events' script body i first s rs c logged_in is at lt grew served more done after left =
    cut_within t events events' after script body i first s rs c logged_in is at lt grew served more done left

-- a command that was replied to was done
pub replied_done : {o : Opened} {number : ℕ} {before after : List Event} {s s' : Session} {c : Command} {lines : List Line} →
    Replied o number before after s c lines s' → IsDone o number before after s c
replied_done {s' = s'} {lines = lines} replied = record {
  lines = lines;
  next = session_state s';
  of_session = replied.of_session;
  says = replied.says;
}

-- ---- a logout after the last one

-- one that leaves a session that holds no lock
out_alone : (o : Opened) (es es' : List Event) (others : List Event) (holds : Bool) (session : ℕ) → events_of session others ≡ [] →
    es' ≡ (es ++ others) ++ leaving holds session → (IsTrue holds → HoldsSome (after_events o (es ++ others)) session) →
    HoldsNone (record { opened = o; events = es ++ others }) session → OthersCame session es es'
out_alone o es es' others true session own is some none = absurd (none (some refl))
out_alone o es es' others false session own is some none = (others, own, is ∙ append-nil (es ++ others))

pub out_of_none : (o : Opened) (es es' : List Event) (session : ℕ) → HoldsNone (record { opened = o; events = es }) session → LogoutSays o es es' session →
    OthersCame session es es'
out_of_none o es es' session none left =
    out_alone o es es' left.others left.holds session left.are_others left.events left.exactly.0
    (holds_none_still o es left.others session left.are_others none)

-- where it has logged out already
pub cut_at_end : (t : Told) (events after : List Event) (script : SessionCommands) (body : List Command) (i : ℕ) (first s : Session) (rs : List Reply) →
    HasLoggedIn t script first → body ≡ take (prefix_len goes_on script.commands) script.commands → length body ≤ i → Extends t.events events →
    HasServed t.opened t.events events body i first s rs → LogoutSays t.opened events after first.session →
    IsToBeCutShort (record { opened = t.opened; events = after }) first.session (length t.events) script
cut_at_end t events after script body i first s rs logged_in is over grew served left all again =
    cut_here t events after all script body i (length body) first s rs logged_in is (omega arith)
    (take_all i body over ∙ sym (take_all (length body) body (omega arith))) grew served left
    (out_of_none t.opened after all first.session (left_holds_none t.opened events after first.session left) again)

-- ---- before the login

cut_unserved : (o : Opened) (es all : List Event) (session view : ℕ) (user : Option ℕ) → HoldsNone (record { opened = o; events = es }) session →
    OthersCame session es all →
    (rs : List Reply) × SaysOf user (record { opened = o; events = all }) session (length es) view (Logout ∷ []) rs
cut_unserved o es all session view None none came = (
  reply_with 0 (NoUser view) ∷ not_logged_in 1 1,
  record { refused = refl; no_more = none_later session es all came },
)
cut_unserved o es all session view (Some user) none came =
    let more = extends_by session es all came in
    let here : take (length es) all ≡ es = seen_so_far es all more in
    let out : Reply = reply_with 1 LoggedOut in
    let went : LogsOut (record { opened = o; number = 1; before = es; after = es }) (first_transaction session user view) = record {
      others = [];
      are_others = refl;
      holds = false;
      after = sym (append-nil (es ++ []) ∙ append-nil es);
      exactly = (
        λ ever. absurd (false≢true ever),
        λ some. absurd (none (subst (λ x. HoldsSome (after_events o x) session) (append-nil es) some)),
      );
    } in (
      reply_with 0 (Login view) ∷ out ∷ [],
      record {
        replies = out ∷ [];
        end = length es;
        login = refl;
        within = longer es all more;
        says = record {
          point = length es;
          next = first_transaction session user view;
          lines = LoggedOut ∷ [];
          more = [];
          from = omega arith;
          within = longer es all more;
          replies = refl;
          says = (
            LoggedOut,
            refl,
            (
              refl,
              subst (λ x. LogsOut (record { opened = o; number = 1; before = x; after = x }) (first_transaction session user view)) (sym here) went,
              refl,
            ),
          );
          rest = (refl, refl);
        };
        no_more = none_later session es all came;
      },
    )

-- the session has made no event
pub cut_unbegun : (t : Told) (session : ℕ) (script : SessionCommands) (events : List Event) → slice_get t.opened.script (session - 1) ≡ Some script →
    events_of session t.events ≡ [] → OthersCame session t.events events →
    IsToBeCutShort (record { opened = t.opened; events = events }) session (length t.events) script
cut_unbegun t session script events of_script fresh came all left =
    let o = t.opened in
    let es = t.events in
    let none : HoldsNone t session = fresh_holds_none t session fresh in
    let later : OthersCame session es all = out_of_none o es all session none (out_later o es events all session came left) in
    let more = extends_by session es all later in
    let here : take (length es) all ≡ es = seen_so_far es all more in
    let view = (after_events o es).number in
    let user = user_in (after_events o (take (length es) all)).image script.user in
    let said = cut_unserved o es all session view user none later in
    record {
      of_script = of_script;
      count = 0;
      replies = said.0;
      point = length es;
      view = view;
      saw = omega arith;
      within = longer es all more;
      sees = subst (λ x. SeesNumber o session [] x view) (sym here) ((es, fresh, refl), refl);
      says = said.1;
    }

-- ---- in any case

-- one that said all that it had to say
pub cut_nowhere : (t : Told) (session seen : ℕ) (script : SessionCommands) (rs : List Reply) → Says t session seen script rs → WasCutShort t session seen script
cut_nowhere t session seen script rs says = record {
  of_script = says.of_script;
  count = length script.commands;
  replies = rs;
  point = says.point;
  view = says.view;
  saw = says.saw;
  within = says.within;
  sees = says.sees;
  says = subst (λ cs. SaysOf (user_in (after_events t.opened (take says.point t.events)).image script.user) t session says.point says.view (until_logout cs) rs)
      (sym (take_all (length script.commands) script.commands (omega arith))) says.says;
}

-- of what a session saw less may be claimed
pub cut_saw_less : (t : Told) (session seen less : ℕ) (script : SessionCommands) → less ≤ seen → IsToBeCutShort t session seen script
    → IsToBeCutShort t session less script
cut_saw_less t session seen less script few cut after left =
    let was = cut after left in
    record {
      of_script = was.of_script;
      count = was.count;
      replies = was.replies;
      point = was.point;
      view = was.view;
      saw = let saw = was.saw in omega (arith, saw, few);
      within = was.within;
      sees = was.sees;
      says = was.says;
    }

-- what stands with what the Stone was opened with
pub cut_as : (t u : Told) (session seen : ℕ) (script : SessionCommands) → u.opened ≡ t.opened →
    IsToBeCutShort (record { opened = t.opened; events = u.events }) session seen script → IsToBeCutShort u session seen script
cut_as t u session seen script same cut =
    subst (λ o. IsToBeCutShort (record { opened = o; events = u.events }) session seen script) (sym same) cut

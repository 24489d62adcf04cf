-- What a session has said so far, and how each reply adds to it.
use Rattle.std.proofs.Common.{◌≡◌, ◌∙◌, refl, sym, ap, subst, ℕ, suc, ◌+◌, ◌-◌, ◌≤◌, ◌<◌, true, Some, List, [], ◌∷◌, ◌++◌, take, drop, length, arith, get_or}
use Rattle.std.specs.List.{prefix_len, slice_get}
use Rattle.std.proofs.Math.Seq.{take-append_seam}
use Rattle.std.proofs.lemmas.List.{append_assoc, drop_all, get_or-take, take_all, take_more}
use Rattle.std.proofs.lemmas.Option.{get_or_from_slice_get, slice_get_read}
use Rattle.std.proofs.lemmas.List.Folds.{length-prefix_len}
use Rattle.std.proofs.lemmas.List.Sums.{prefix_len_passes}
use Rattle.shell_words.specs.Script.{SessionCommands}
use Rattle.gem_replies.specs.declared.reply.Line.{Line}
use Rattle.gem_replies.specs.declared.reply.Line.TheVariants.{Login, Logout as LoggedOut}
use Rattle.gem_replies.specs.declared.reply.Reply.{Reply}
use Rattle.shell_words.specs.declared.script.Command.{Command}
use Rattle.shell_words.specs.declared.script.Command.TheVariants.{Chunk, Method, Commit, Abort, Logout, Lock, Unlock, Checkpoint, Mode}
use Rattle.gem_meaning.specs.Opened.{Opened, commands_or_none, commands_of}
use Rattle.gem_meaning.specs.Events.{Event, Told, after_events, events_of, Extends}
use Rattle.gem_meaning.specs.Names.{user_in}
use Rattle.gem_meaning.specs.State.{SessionState}
use Rattle.gem_meaning.specs.Commits.{SeesNumber}
use Rattle.gem_meaning.specs.Session.{CommandSays, CommandsSay, SaysOf, Says, until_logout, reply_with, replies_with}
use Rattle.gem_meaning.specs.Locks.{LogsOut, leaving}
use Rattle.gem_meaning.specs.Serial.{CanServe}
use Rattle.shell_words.specs.declared.limits.TheConstants.{COMMAND_LIMIT}
use Rattle.stone_core.specs.Port.{PortState, GoesOn, LogoutSays}
use Rattle.gem_session.specs.declared.session.Session.{Session}
use Rattle.gem_session.specs.Running.{session_state, StandsBefore, ComesTo, HasLoggedIn, goes_on, Replied}
use Rattle.gem_session.proofs.Others.{extends_twice, nothing_later, longer, goes_on_twice}

one_more : (n : ℕ) (c : Command) (cs : List Command) → take (1 + n) (c ∷ cs) ≡ c ∷ take n cs
one_more n c cs =
    let one : 1 + n ≡ suc n = omega arith in
    rw one refl

until_more : (n : ℕ) (c : Command) (cs : List Command) → until_logout cs ≡ take n cs ++ Logout ∷ [] →
    c ∷ until_logout cs ≡ take (1 + n) (c ∷ cs) ++ Logout ∷ []
until_more n c cs before = ap (λ x. c ∷ x) before ∙ ap (λ x. x ++ Logout ∷ []) (sym (one_more n c cs))

-- what stands before the first logout, and the logout
pub until_is : (cs : List Command) → until_logout cs ≡ take (prefix_len goes_on cs) cs ++ Logout ∷ []
until_is [] = refl
until_is (Chunk prints text ∷ cs) = until_more (prefix_len goes_on cs) (Chunk prints text) cs (until_is cs)
until_is (Method class_side class text ∷ cs) = until_more (prefix_len goes_on cs) (Method class_side class text) cs (until_is cs)
until_is (Commit ∷ cs) = until_more (prefix_len goes_on cs) Commit cs (until_is cs)
until_is (Abort ∷ cs) = until_more (prefix_len goes_on cs) Abort cs (until_is cs)
until_is (Logout ∷ cs) = refl
until_is (Lock write name ∷ cs) = until_more (prefix_len goes_on cs) (Lock write name) cs (until_is cs)
until_is (Unlock name ∷ cs) = until_more (prefix_len goes_on cs) (Unlock name) cs (until_is cs)
until_is (Checkpoint ∷ cs) = until_more (prefix_len goes_on cs) Checkpoint cs (until_is cs)
until_is (Mode full ∷ cs) = until_more (prefix_len goes_on cs) (Mode full) cs (until_is cs)

-- the first commands with one more
pub front_more : (body : List Command) (i : ℕ) (c : Command) (cs : List Command) → slice_get body i ≡ Some c → i < length body →
    take (i + 1) body ++ cs ≡ take i body ++ c ∷ cs
front_more body i c cs is lt =
    ap (λ x. x ++ cs) (take_more body i c lt ∙ ap (λ x. take i body ++ x ∷ []) (get_or_from_slice_get body i c c is))
    ∙ append_assoc (take i body) (c ∷ []) cs

-- the command of the session's script that the session comes to
pub command_at : (o : Opened) (session : ℕ) (script : SessionCommands) (commands body : List Command) (i : ℕ) (c : Command) →
    slice_get o.script (session - 1) ≡ Some script → commands ≡ script.commands → body ≡ take (length body) commands →
    i < length body → length body ≤ length commands → c ≡ get_or body i c → slice_get (commands_of o.script session) i ≡ Some c
command_at o session script commands body i c is whole prefix lt le read =
    let read_whole : c ≡ get_or commands i c = read ∙ ap (λ x. get_or x i c) prefix ∙ get_or-take (length body) commands i c lt in
    ap (λ x. slice_get (commands_or_none x) i) is ∙ ap (λ x. slice_get x i) (sym whole)
    ∙ slice_get_read commands (length commands) i c refl (omega arith) read_whole

-- What is said of further commands, after these events, completes what was said of the first i: these
-- begin at `start` with what the session carried then.
abbrev Leads : Opened → (start events : List Event) → List Command → ℕ → (first now : SessionState) → List Reply → Type 0
Leads o start events body i first now said = (all : List Event) (q : ℕ) (cs : List Command) (rest : List Reply) → Extends events all →
    CommandsSay (record { opened = o; events = all }) (i + 1) (length events) q now cs rest →
    CommandsSay (record { opened = o; events = all }) 1 (length start) q first (take i body ++ cs) (said ++ rest)

-- the session with this number logged out
abbrev LogsOutAs : Opened → (number : ℕ) → (before after : List Event) → SessionState → (session : ℕ) → Type 0
LogsOutAs o number before after s session =
    LogsOut (record { opened = o; number = number; before = before; after = after }) (record s { session = session })

-- Where a session stands that has replied to the first i commands.
pub record HasServed (o : Opened) (start events : List Event) (body : List Command) (i : ℕ) (first s : Session) (rs : List Reply) : Type 0 where
  pub said : List Reply
  pub login : rs ≡ reply_with 0 (Login first.number) ∷ said
  pub of_session : s.session ≡ first.session
  pub stands : StandsBefore (record { opened = o; events = events }) (i + 1) s
  pub leads : Leads o start events body i (session_state first) (session_state s) said

pub seen_so_far : (events all : List Event) → Extends events all → take (length events) all ≡ events
seen_so_far events all more = ap (take (length events)) more.1 ∙ take-append_seam events more.0

pub nothing_served : (t : Told) (script : SessionCommands) (body : List Command) (s : Session) (rs : List Reply) → HasLoggedIn t script s →
    rs ≡ reply_with 0 (Login s.number) ∷ [] → HasServed t.opened t.events t.events body 0 s s rs
nothing_served t script body s rs logged_in is = record {
  said = [];
  login = is;
  of_session = refl;
  stands = logged_in.stands;
  leads = λ all q cs rest more says. says;
}

-- the next command, and what is said of those after it
pub led_on : (o : Opened) (start events events' all : List Event) (body : List Command) (i : ℕ) (first now next : SessionState) (said : List Reply)
    (c : Command) (lines : List Line) (q : ℕ) (cs : List Command) (rest : List Reply) → Leads o start events body i first now said →
    Extends events events' → Extends events' all →
    CommandSays (record { opened = o; number = i + 1; before = events; after = events' }) now c lines next →
    CommandsSay (record { opened = o; events = all }) (i + 1 + 1) (length events') q next cs rest →
    CommandsSay (record { opened = o; events = all }) 1 (length start) q first (take i body ++ c ∷ cs) (said ++ (replies_with (i + 1) lines ++ rest))
led_on o start events events' all body i first now next said c lines q cs rest leads grew more one says =
    let whole : Extends events all = extends_twice events events' all grew more in
    let here : CommandSays (record { opened = o; number = i + 1; before = take (length events) all; after = take (length events') all }) now c lines next =
    subst (λ x. CommandSays (record { opened = o; number = i + 1; before = x; after = take (length events') all }) now c lines next) (sym (seen_so_far events all whole))
    (subst (λ x. CommandSays (record { opened = o; number = i + 1; before = events; after = x }) now c lines next) (sym (seen_so_far events' all more)) one) in
    leads all q (c ∷ cs) (replies_with (i + 1) lines ++ rest) whole (record {
      point = length events';
      next = next;
      lines = lines;
      more = rest;
      from = longer events events' grew;
      within = longer events' all more;
      replies = refl;
      says = here;
      rest = says;
    })

pub one_served : (o : Opened) (start events events' : List Event) (body : List Command) (i : ℕ) (first s s' : Session) (rs : List Reply) (c : Command) (lines : List Line) →
    slice_get body i ≡ Some c → i < length body → HasServed o start events body i first s rs → Extends events events' →
    Replied o (i + 1) events events' s c lines s' → HasServed o start events' body (i + 1) first s' (rs ++ replies_with (i + 1) lines)
one_served o start events events' body i first s s' rs c lines is lt served grew replied = record {
  said = served.said ++ replies_with (i + 1) lines;
  login = ap (λ xs. xs ++ replies_with (i + 1) lines) served.login;
  of_session = replied.of_session ∙ served.of_session;
  stands = replied.stands;
  leads = λ all q cs rest more says.
      subst (λ x. CommandsSay (record { opened = o; events = all }) 1 (length start) q (session_state first) (take (i + 1) body ++ cs) x)
      (sym (append_assoc served.said (replies_with (i + 1) lines) rest))
      (subst (λ x. CommandsSay (record { opened = o; events = all }) 1 (length start) q (session_state first) x (served.said ++ (replies_with (i + 1) lines ++ rest)))
      (sym (front_more body i c cs is lt))
      (led_on o start events events' all body i (session_state first) (session_state s) (session_state s') served.said c lines q cs rest served.leads grew more
      replied.says says));
}

-- what is said of a logout
pub out_said : (o : Opened) (number : ℕ) (events after all : List Event) (s : SessionState) (session : ℕ) → s.session ≡ session →
    LogoutSays o events after session → Extends after all →
    CommandsSay (record { opened = o; events = all }) number (length events) (length after) s (Logout ∷ []) (reply_with number LoggedOut ∷ [])
out_said o number events after all s session same left more =
    let later : Extends events after = (left.others ++ leaving left.holds session, left.events ∙ append_assoc events left.others (leaving left.holds session)) in
    let went : LogsOut (record { opened = o; number = number; before = events; after = after }) s =
    subst (λ (n : ℕ). LogsOutAs o number events after s n) (sym same) (record {
      others = left.others;
      are_others = left.are_others;
      holds = left.holds;
      after = left.events;
      exactly = left.exactly;
    }) in
    let here : LogsOut (record { opened = o; number = number; before = take (length events) all; after = take (length after) all }) s =
    subst (λ x. LogsOut (record { opened = o; number = number; before = x; after = take (length after) all }) s) (sym (seen_so_far events all (extends_twice events after all later more)))
    (subst (λ x. LogsOut (record { opened = o; number = number; before = events; after = x }) s) (sym (seen_so_far after all more)) went) in
    record {
      point = length after;
      next = s;
      lines = LoggedOut ∷ [];
      more = [];
      from = longer events after later;
      within = longer after all more;
      replies = refl;
      says = (LoggedOut, refl, (refl, here, refl));
      rest = (refl, refl);
    }

-- what a session says that logged in, with what it says to these commands
pub said_since : (t : Told) (script : SessionCommands) (first : Session) (all : List Event) (q : ℕ) (cs : List Command) (said : List Reply) →
    HasLoggedIn t script first → Extends t.events all → q ≤ length all → events_of first.session (drop q all) ≡ [] →
    CommandsSay (record { opened = t.opened; events = all }) 1 (length t.events) q (session_state first) cs said →
    SaysOf (user_in (after_events t.opened (take (length t.events) all)).image script.user) (record { opened = t.opened; events = all })
    first.session (length t.events) first.number cs (reply_with 0 (Login first.number) ∷ said)
said_since t script first all q cs said logged_in grew within no_more says =
    subst (λ u. SaysOf u (record { opened = t.opened; events = all }) first.session (length t.events) first.number cs (reply_with 0 (Login first.number) ∷ said))
    (sym (ap (λ x. user_in (after_events t.opened x).image script.user) (seen_so_far t.events all grew) ∙ logged_in.user))
    (record {
      replies = said;
      end = q;
      login = refl;
      within = within;
      says = subst (λ x. CommandsSay (record { opened = t.opened; events = all }) 1 (length t.events) q x cs said) logged_in.carries says;
      no_more = no_more;
    })

-- its login saw what stood then
pub login_sees : (t : Told) (script : SessionCommands) (first : Session) (all : List Event) → HasLoggedIn t script first → Extends t.events all →
    SeesNumber t.opened first.session [] (take (length t.events) all) first.number
login_sees t script first all logged_in grew =
    subst (λ x. SeesNumber t.opened first.session [] x first.number) (sym (seen_so_far t.events all grew)) ((t.events, logged_in.fresh, refl), logged_in.view)

-- all that the session says, with its logout
pub all_served : (t : Told) (events events' : List Event) (script : SessionCommands) (body : List Command) (i : ℕ) (first s : Session) (rs : List Reply) (now : Told) →
    HasLoggedIn t script first → until_logout script.commands ≡ body ++ Logout ∷ [] → length body ≤ i → Extends t.events events →
    LogoutSays t.opened events events' first.session →
    now ≡ record { opened = t.opened; events = events' } → HasServed t.opened t.events events body i first s rs →
    Says now first.session (length t.events) script (rs ++ reply_with (i + 1) LoggedOut ∷ [])
all_served t events events' script body i first s rs now logged_in until over grew left now_is served =
    let o = t.opened in
    let out : Reply = reply_with (i + 1) LoggedOut in
    let later : Extends events events' = (left.others ++ leaving left.holds first.session, left.events ∙ append_assoc events left.others (leaving left.holds first.session)) in
    let whole : Extends t.events events' = extends_twice t.events events events' grew later in
    let says : CommandsSay (record { opened = o; events = events' }) 1 (length t.events) (length events') (session_state first) (until_logout script.commands) (served.said ++ out ∷ []) =
    subst (λ cs. CommandsSay (record { opened = o; events = events' }) 1 (length t.events) (length events') (session_state first) cs (served.said ++ out ∷ []))
    (ap (λ x. x ++ Logout ∷ []) (take_all i body over) ∙ sym until)
    (served.leads events' (length events') (Logout ∷ []) (out ∷ []) later
    (out_said o (i + 1) events events' events' (session_state s) first.session served.of_session left (nothing_later events'))) in
    subst (λ (x : Told). Says x first.session (length t.events) script (rs ++ out ∷ [])) (sym now_is) (record {
      of_script = logged_in.of_script;
      point = length t.events;
      view = first.number;
      saw = omega arith;
      within = longer t.events events' whole;
      sees = login_sees t script first events' logged_in whole;
      says = subst (SaysOf (user_in (after_events o (take (length t.events) events')).image script.user) (record { opened = o; events = events' }) first.session (length t.events) first.number
          (until_logout script.commands))
          (sym (ap (λ xs. xs ++ out ∷ []) served.login))
          (said_since t script first events' (length events') (until_logout script.commands) (served.said ++ out ∷ []) logged_in whole (omega arith)
          (ap (events_of first.session) (drop_all (length events') events' (omega arith))) says);
    })

-- the commands before the first logout are a front of all
pub front_of : (cs body : List Command) → body ≡ take (prefix_len goes_on cs) cs → body ≡ take (length body) cs
front_of cs body is =
    let size : length body ≡ prefix_len goes_on cs = ap length is ∙ length-prefix_len goes_on cs in
    is ∙ ap (λ (n : ℕ). take n cs) (sym size)

-- none of them is a logout
pub goes_on_at : (cs body : List Command) (i : ℕ) (c : Command) → body ≡ take (prefix_len goes_on cs) cs → i < length body → c ≡ get_or body i c →
    goes_on c ≡ true
goes_on_at cs body i c is lt read =
    let size : length body ≡ prefix_len goes_on cs = ap length is ∙ length-prefix_len goes_on cs in
    let here : c ≡ get_or cs i c =
    read ∙ ap (λ x. get_or x i c) is ∙ get_or-take (prefix_len goes_on cs) cs i c (omega (arith, lt, size)) in
    ap goes_on here ∙ prefix_len_passes goes_on cs i c (omega (arith, lt, size))

-- the session comes to its next command
pub comes_next : (p q : PortState) (script : SessionCommands) (commands body : List Command) (i number : ℕ) (first s : Session) (rs : List Reply) (c : Command) →
    p.serves first.session ≡ true → CanServe p.told.opened → HasLoggedIn p.told script first → GoesOn first.session p q → number ≡ i →
    HasServed p.told.opened p.told.events q.told.events body i first s rs → commands ≡ script.commands → length commands < COMMAND_LIMIT →
    body ≡ take (length body) commands → i < length body → length body ≤ length commands → c ≡ get_or body i c → ComesTo q (number + 1) s c
comes_next p q script commands body i number first s rs c serves opened logged_in goes counted served whole few prefix lt le read =
    let place : number + 1 - 1 ≡ i = omega (arith, counted) in
    let at : slice_get (commands_of p.told.opened.script first.session) i ≡ Some c =
    command_at p.told.opened first.session script commands body i c logged_in.of_script whole prefix lt le read in
    record {
      serves = subst (λ (n : ℕ). q.serves n ≡ true) (sym served.of_session) (goes.serves first.session serves);
      opened = subst CanServe (sym goes.opened) opened;
      consistent = goes.consistent;
      stands = subst (λ o. StandsBefore (record { opened = o; events = q.told.events }) (number + 1) s) (sym goes.opened)
          (subst (λ (n : ℕ). StandsBefore (record { opened = p.told.opened; events = q.told.events }) (n + 1) s) (sym counted) served.stands);
      numbered = (omega arith, omega (arith, counted, lt, le, few));
      command = subst (λ (o : Opened). slice_get (commands_of o.script s.session) (number + 1 - 1) ≡ Some c) (sym goes.opened)
          (subst (λ (n : ℕ). slice_get (commands_of p.told.opened.script n) (number + 1 - 1) ≡ Some c) (sym served.of_session)
          (subst (λ (n : ℕ). slice_get (commands_of p.told.opened.script first.session) n ≡ Some c) (sym place) at));
    }

-- a session's calls after those for the session that it was
pub goes_on_as : (session other : ℕ) (p q r : PortState) → other ≡ session → GoesOn session p q → GoesOn other q r → GoesOn session p r
goes_on_as session other p q r same one two = goes_on_twice session p q r one (subst (λ (n : ℕ). GoesOn n q r) same two)

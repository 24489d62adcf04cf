-- A transcript's replies to the commands of a placed entry are those of its run at its place.
use Rattle.std.proofs.Common.{◌≡◌, ◌⊎◌, inl, inr, ◌∙◌, refl, sym, ap, subst, ℕ, zero, suc, ◌+◌, ◌-◌, ◌≤◌, ◌<◌, Bool, true, false, true≢false, Option, Some, None, List, [], ◌∷◌, ◌++◌, length, take, drop, arith, append-nil, append_assoc, length-append, take-append-drop}
use Rattle.std.specs.List.{slice_get, AllByRecursion}
use Rattle.std.specs.Option.{option_map}
use Rattle.std.proofs.lemmas.Option.{none-some, same_Some, slice_get-get_or}
use Rattle.std.proofs.lemmas.List.{length_push, get_or_at, take-take, append_cancel_left}
use Rattle.gem_meaning.specs.gem_record.declared.record.Entry.{Entry}
use Rattle.gem_meaning.specs.gem_language.Commands.{Command as ObjectCommand, run_chunk, install_method}
use Rattle.gem_meaning.specs.gem_language.Transaction.{Transaction}
use Rattle.gem_meaning.specs.gem_replies.declared.reply.Line.TheVariants.{Login}
use Rattle.gem_meaning.specs.gem_replies.declared.reply.Reply.{Reply}
use Rattle.gem_meaning.specs.gem_replies.declared.reply.Transcript.{Transcript}
use Rattle.gem_meaning.specs.shell_words.Script.{SessionCommands, is_logout}
use Rattle.gem_meaning.specs.shell_words.declared.script.Command.{Command}
use Rattle.gem_meaning.specs.shell_words.declared.script.Command.TheVariants.{Chunk, Method, Commit, Abort, Logout, Lock, Unlock, Checkpoint, Mode}
use Rattle.gem_meaning.specs.declared.event.What.{What}
use Rattle.gem_meaning.specs.declared.event.What.TheVariants.{Placed, Held, Dropped, Left, Checked, Halted}
use Rattle.gem_meaning.specs.Commands.{object_command, is_run}
use Rattle.gem_meaning.specs.Lines.{said_lines}
use Rattle.gem_meaning.specs.Opened.{Opened, commands_or_none, commands_of}
use Rattle.gem_meaning.specs.Names.{user_in}
use Rattle.gem_meaning.specs.Events.{Event, Told, run_at_place, after_events, entry_in, events_of, OthersCame}
use Rattle.gem_meaning.specs.Serial.{IsPlaced, IsSerialEvent, IsSerialFrom, IsSerial, IsOfScript}
use Rattle.gem_meaning.specs.State.{SessionState, entry_to, first_transaction, place_between}
use Rattle.gem_meaning.specs.Locks.{leaving}
use Rattle.gem_meaning.specs.Session.{CommandsSay, reply_with, replies_with, until_logout, SaysOf, Says}
use Rattle.gem_meaning.specs.gem_replies.declared.reply.RunBook.{RunBook}
use Rattle.gem_meaning.specs.Legal.{IsLegal, IsTranscript, AreTranscripts}
use Rattle.gem_meaning.specs.Claims.{Reader, at_login, lines_of}
use Rattle.history_laws.proofs.OneMore.{serial_back}
use Rattle.session_laws.specs.Places.{runs_before}
use Rattle.session_laws.proofs.Own.{of_both, came_others, up_to, own_event}
use Rattle.session_laws.proofs.Adds.{Knows, IsOwn, Adds, left_came, command_adds}
use Rattle.session_laws.proofs.Claims.{knows_login}
use Rattle.session_laws.proofs.Lines.{lines_of_both, none_later}
use Rattle.session_laws.proofs.SoFar.{on_view_is, own_commands, IsPrinted, SaidSoFar, printed_stays, said_more, said_login}

-- The commands from this number on are those of the session, up to a logout that ends them.
abbrev IsAhead : List Command → ℕ → List Command → Type 0
IsAhead all number [] = Unit {0}
IsAhead all number (c ∷ cs) =
    ((slice_get all (number - 1) ≡ Some c) × (is_logout c ≡ false) × IsAhead all (number + 1) cs)
    ⊎ ((c ≡ Logout) × (cs ≡ []))

item_at : (all front : List Command) (c : Command) (rest : List Command) → all ≡ front ++ c ∷ rest
    → slice_get all (length front + 1 - 1) ≡ Some c
item_at all front c rest is =
    let at : length front + 1 - 1 ≡ length front = omega arith in
    let within : length front < length (front ++ c ∷ rest) = simp length-append (omega arith) in
    ap (λ (n : ℕ). slice_get all n) at
    ∙ ap (λ (cs : List Command). slice_get cs (length front)) is
    ∙ slice_get-get_or (front ++ c ∷ rest) (length front) c within
    ∙ ap Some (get_or_at front c rest c (length front) refl)

are_ahead : (all front rest : List Command) → all ≡ front ++ rest
    → IsAhead all (length front + 1) (until_logout rest)
are_ahead all front [] is = inr (refl, refl)
are_ahead all front (Logout ∷ rest) is = inr (refl, refl)
are_ahead all front (c ∷ rest) is = inl (
  item_at all front c rest is,
  refl,
  subst (λ (n : ℕ). IsAhead all (n + 1) (until_logout rest)) (length_push front c)
      (are_ahead all (front ++ c ∷ []) rest (is ∙ sym (append_assoc front (c ∷ []) rest))),
)

-- no event stands in an empty list
nowhere : (front : List Event) (x : Event) (back : List Event) → [] ≡ front ++ x ∷ back → ⊥
nowhere [] x back is = cc
nowhere (y ∷ front) x back is = cc

same_first : (x y : Event) (xs ys : List Event) → x ∷ xs ≡ y ∷ ys → x ≡ y
same_first x y xs ys is = cc

same_rest : (x y : Event) (xs ys : List Event) → x ∷ xs ≡ y ∷ ys → xs ≡ ys
same_rest x y xs ys is = cc

-- what one that leaves does isn't a commit
not_left : (session author : ℕ) (made : What) (e : Entry) → entry_in made ≡ Some e → (holds : Bool)
    → (front back : List Event) → leaving holds session ≡ front ++ (author, made) ∷ back → ⊥
not_left session author made e some false front back is = nowhere front (author, made) back is
not_left session author made e some true [] back is =
    none-some e (ap (λ (event : Event). entry_in event.1)
    (same_first (session, Left) (author, made) [] back is) ∙ some)
not_left session author made e some true (y ∷ front) back is =
    nowhere front (author, made) back
    (same_rest (session, Left) y [] (front ++ (author, made) ∷ back) is)

-- The transcript has, for each chunk and method of the entry, what it says on the entry's view.
abbrev HasPrinted : Told → Entry → List Reply → Type 0
HasPrinted t e rs = (n : ℕ) (c : Command) (command : ObjectCommand) → e.first_command ≤ n
    → n < e.last_command → slice_get (commands_of t.opened.script e.session) (n - 1) ≡ Some c
    → object_command c ≡ Some command → IsPrinted t e n rs

-- points of commands don't fall
point_from : (t : Told) (number p q : ℕ) (s : SessionState) (cs : List Command) (rs : List Reply)
    → CommandsSay t number p q s cs rs → p ≤ q
point_from t number p q s [] rs says = omega (arith, says.1)
point_from t number p q s (c ∷ cs) rs says =
    let rest = point_from t (number + 1) says.point q says.next cs says.more says.rest in
    let from = says.from in
    omega (arith, from, rest)

-- the session's events between two points
abbrev between : Told → (session p q : ℕ) → List Event
between t session p q = events_of session (drop p (take q t.events))

events_between : (t : Told) (session p q : ℕ) → p ≤ q
    → events_of session (take q t.events)
    ≡ events_of session (take p t.events) ++ events_of session (drop p (take q t.events))
events_between t session p q le =
    ap (events_of session) (sym (take-append-drop p (take q t.events)))
    ∙ of_both session (take p (take q t.events)) (drop p (take q t.events))
    ∙ ap (λ (es : List Event). events_of session es ++ events_of session (drop p (take q t.events)))
    (take-take p q t.events le)

-- among the session's events between two points is this one, with these before and after it
abbrev IsAmong : Told → (session p q : ℕ) → (front : List Event) → Event → (back : List Event)
    → Type 0
IsAmong t session p q front event back = events_of session (take q t.events)
    ≡ events_of session (take p t.events) ++ (front ++ event ∷ back)

-- One command, which may be the commit of the entry, or else the entry is among the session's later
-- events.
module _ (t : Told) (number p q : ℕ) (s : SessionState) (c : Command) (cs : List Command)
    (said rs : List Reply) (r : Reader) (session : ℕ) (made : What) (e : Entry)
    (some_entry : entry_in made ≡ Some e) (back : List Event) (says : CommandsSay t number p q s (c ∷ cs) rs)
    (is : slice_get (own_commands t s) (number - 1) ≡ Some c)
    (so : SaidSoFar t number p s said) where
  -- what is left where these events came at the command
  own_left : (own front : List Event)
      → events_of s.session (take says.point t.events)
      ≡ events_of s.session (take p t.events) ++ own
      → IsAmong t s.session p q front (session, made) back
      → own ++ between t s.session says.point q ≡ front ++ (session, made) ∷ back
  own_left own front came there =
      let before = events_of s.session (take p t.events) in
      let later = events_of s.session (drop says.point (take q t.events)) in
      append_cancel_left before (own ++ later) (front ++ (session, made) ∷ back)
      (sym (append_assoc before own later)
      ∙ ap (λ (es : List Event). es ++ later) (sym came)
      ∙ sym (events_between t s.session says.point q
      (point_from t (number + 1) says.point q says.next cs says.more says.rest))
      ∙ there)

  -- the session's later events, by those that are left
  still_among : (front : List Event) → says.next.session ≡ s.session
      → between t s.session says.point q ≡ front ++ (session, made) ∷ back
      → IsAmong t says.next.session says.point q front (session, made) back
  still_among front same left =
      subst (λ (n : ℕ). IsAmong t n says.point q front (session, made) back) (sym same)
      (events_between t s.session says.point q
      (point_from t (number + 1) says.point q says.next cs says.more says.rest)
      ∙ ap (λ (es : List Event). events_of s.session (take says.point t.events) ++ es) left)

  printed_here : s.spoiled ≡ false → HasPrinted t (entry_to number s) (said ++ rs)
  printed_here clean n d command from to here some =
      let old = so.printed clean n d command from (omega (arith, to)) here some in
      printed_stays t number p s c said so is n (said ++ rs) (record {
        here = old.here;
        is = old.is;
        lines = lines_of_both n said rs
            ∙ ap (λ ls. lines_of n said ++ ls) (none_later t number p q s (c ∷ cs) rs n to says)
            ∙ append-nil (lines_of n said) ∙ old.lines;
      })

  -- the same for the event's later place
  abbrev IsLater : Type 0
  IsLater = (front : List Event)
      → IsAmong t says.next.session says.point q front (session, made) back
      → HasPrinted t e (said ++ rs)

  printed_one : (what : What) (front : List Event) → says.next.session ≡ s.session → IsLater
      → ((d : Entry) → entry_in what ≡ Some d → (s.spoiled ≡ false) × (d ≡ entry_to number s))
      → (s.session, what) ∷ between t s.session says.point q ≡ front ++ (session, made) ∷ back
      → HasPrinted t e (said ++ rs)
  printed_one what [] same later entry left =
      let mine = entry e (ap (λ (event : Event). entry_in event.1)
      (same_first (s.session, what) (session, made) (between t s.session says.point q) back
      left) ∙ some_entry) in
      subst (λ (d : Entry). HasPrinted t d (said ++ rs)) (sym mine.1) (printed_here mine.0)
  printed_one what (x ∷ front) same later entry left =
      later front (still_among front same
      (same_rest (s.session, what) x (between t s.session says.point q)
      (front ++ (session, made) ∷ back) left))

  printed_by : (own front : List Event) → says.next.session ≡ s.session → IsLater
      → IsOwn (place_between t number p says.point) s own
      → own ++ between t s.session says.point q ≡ front ++ (session, made) ∷ back
      → HasPrinted t e (said ++ rs)
  printed_by own front same later (inl none) left =
      later front (still_among front same
      (ap (λ (es : List Event). es ++ between t s.session says.point q) (sym none) ∙ left))
  printed_by own front same later (inr (what, one, entry)) left =
      printed_one what front same later entry
      (ap (λ (es : List Event). es ++ between t s.session says.point q) (sym one) ∙ left)

  printed_step : Adds (place_between t number p says.point) s c says.lines says.next r → IsLater
      → (front : List Event) → IsAmong t s.session p q front (session, made) back
      → HasPrinted t e (said ++ rs)
  printed_step adds later front there =
      printed_by adds.own front adds.of_session later adds.is_own
      (own_left adds.own front adds.came there)

-- what the session goes on with is ahead of it, too
still_ahead : (t : Told) (s next : SessionState) (number : ℕ) (cs : List Command)
    → next.session ≡ s.session → IsAhead (own_commands t s) number cs
    → IsAhead (own_commands t next) number cs
still_ahead t s next number cs same ahead =
    subst (λ (session : ℕ). IsAhead (commands_of t.opened.script session) number cs) (sym same)
    ahead

-- no commit comes at the logout
none_at_logout : (t : Told) (number p q : ℕ) (s : SessionState) (rs : List Reply) (session : ℕ)
    (made : What) (e : Entry) → entry_in made ≡ Some e → (front back : List Event)
    → CommandsSay t number p q s (Logout ∷ []) rs
    → IsAmong t s.session p q front (session, made) back → ⊥
none_at_logout t number p q s rs session made e some front back says there =
    let out = says.says.2.1 in
    let before = events_of s.session (take p t.events) in
    not_left s.session session made e some out.holds front back
    (append_cancel_left before (leaving out.holds s.session) (front ++ (session, made) ∷ back)
    (sym (left_came s.session (take p t.events) out.others (take says.point t.events) out.holds
    out.are_others out.after)
    ∙ ap (λ (n : ℕ). events_of s.session (take n t.events)) says.rest.1
    ∙ there))

-- The event is among the session's later ones: the transcript has printed what the entry says.
printed_from : (t : Told) (number p q : ℕ) (s : SessionState) (cs : List Command)
    (said rs : List Reply) (r : Reader) (session : ℕ) (made : What) (e : Entry)
    → entry_in made ≡ Some e → (front back : List Event)
    → CommandsSay t number p q s cs rs → IsAhead (own_commands t s) number cs
    → SaidSoFar t number p s said → Knows t.opened (take p t.events) s r
    → IsAmong t s.session p q front (session, made) back
    → HasPrinted t e (said ++ rs)
printed_from t number p q s [] said rs r session made e some front back says ahead so knows there =
    let before = events_of s.session (take p t.events) in
    absurd (nowhere front (session, made) back
    (append_cancel_left before [] (front ++ (session, made) ∷ back)
    (append-nil before ∙ ap (λ (n : ℕ). events_of s.session (take n t.events)) says.1 ∙ there)))
printed_from t number p q s (c ∷ cs) said rs r session made e some front back says (inr (is, last)) so knows there =
    let these : CommandsSay t number p q s (Logout ∷ []) rs =
    subst (λ (ds : List Command). CommandsSay t number p q s (Logout ∷ ds) rs) last
    (subst (λ (d : Command). CommandsSay t number p q s (d ∷ cs) rs) is says) in
    absurd (none_at_logout t number p q s rs session made e some front back these there)
printed_from t number p q s (c ∷ cs) said rs r session made e some front back says (inl (is, goes_on, ahead)) so knows there =
    let lines = says.lines in
    let said_then = said ++ replies_with number lines in
    let adds = command_adds (place_between t number p says.point) s c lines says.next r knows
    says.says in
    printed_step t number p q s c cs said rs r session made e some back says is so adds (λ rest among.
    subst (λ (xs : List Reply). HasPrinted t e xs)
    (append_assoc said (replies_with number lines) says.more
    ∙ ap (λ (xs : List Reply). said ++ xs) (sym says.replies))
    (printed_from t (number + 1) says.point q says.next cs said_then says.more adds.next session made e
    some rest back says.rest (still_ahead t s says.next (number + 1) cs adds.of_session ahead)
    (said_more t number p says.point s c said lines says.from so is says.next says.says)
    (adds.knows goes_on) among))
    front there

of_user_printed : (t : Told) (session : ℕ) (script : SessionCommands) (user : Option ℕ)
    (point view : ℕ) (rs : List Reply) (made : What) (e : Entry) → entry_in made ≡ Some e
    → (before more : List Event) → slice_get t.opened.script (session - 1) ≡ Some script
    → view ≡ (after_events t.opened (take point t.events)).number
    → OthersCame session [] (take point t.events)
    → SaysOf user t session point view (until_logout script.commands) rs
    → t.events ≡ before ++ (session, made) ∷ more
    → HasPrinted t e rs
of_user_printed t session script (Some user) point view rs made e some before more is stands came says whole =
    let commands = script.commands in
    let all : commands ≡ commands_of t.opened.script session = sym (ap commands_or_none is) in
    let rest = events_of session before ++ (session, made) ∷ events_of session more in
    subst (λ (xs : List Reply). HasPrinted t e xs) (sym says.login)
    (printed_from t 1 point says.end (first_transaction session user view)
    (until_logout commands) (reply_with 0 (Login view) ∷ []) says.replies (at_login view) session made e some
    (events_of session before) (events_of session more) says.says
    (subst (λ (cs : List Command). IsAhead cs 1 (until_logout commands)) all
    (are_ahead commands [] commands refl))
    (said_login t point session user view stands)
    (knows_login t.opened (take point t.events) session user view came)
    (sym (up_to session says.end t.events says.no_more) ∙ ap (events_of session) whole
    ∙ own_event session before more made
    ∙ ap (λ (es : List Event). es ++ rest)
    (sym (came_others session [] (take point t.events) came))))
of_user_printed t session script None point view rs made e some before more is stands came says whole =
    absurd (nowhere (events_of session before) (session, made) (events_of session more)
    (sym (up_to session point t.events says.no_more
    ∙ came_others session [] (take point t.events) came)
    ∙ ap (events_of session) whole ∙ own_event session before more made))

says_printed : (t : Told) (session seen : ℕ) (script : SessionCommands) (rs : List Reply)
    (made : What) (e : Entry) → entry_in made ≡ Some e → (before more : List Event)
    → slice_get t.opened.script (session - 1) ≡ Some script
    → t.events ≡ before ++ (session, made) ∷ more → Says t session seen script rs
    → HasPrinted t e rs
says_printed t session seen script rs made e some before more is whole says =
    of_user_printed t session script
    (user_in (after_events t.opened (take says.point t.events)).image script.user)
    says.point says.view rs made e some before more is says.sees.1 says.sees.0 says.says whole

-- the transcript in a place is that of the script's session there
pub transcript_of : (t : Told) (first : ℕ) (scripts : List SessionCommands)
    (transcripts : List Transcript) (i : ℕ) (transcript : Transcript)
    → AreTranscripts t first scripts transcripts → slice_get transcripts i ≡ Some transcript
    → (script : SessionCommands) × (slice_get scripts i ≡ Some script)
    × IsTranscript t (first + i) script transcript
transcript_of t first [] [] i transcript are here = cc
transcript_of t first [] (u ∷ us) i transcript are here = absurd are
transcript_of t first (s ∷ ss) [] i transcript are here = absurd are
transcript_of t first (s ∷ ss) (u ∷ us) zero transcript are here = (
  s,
  refl,
  subst (λ (v : Transcript). IsTranscript t (first + 0) s v) (same_Some u transcript here)
      (subst (λ (n : ℕ). IsTranscript t n s u) (omega arith) are.0),
)
transcript_of t first (s ∷ ss) (u ∷ us) (suc i) transcript are here =
    let rest = transcript_of t (first + 1) ss us i transcript are.1 here in
    (rest.0, rest.1, subst (λ (n : ℕ). IsTranscript t n rest.0 transcript) (omega arith) rest.2)

-- an event with an entry, where it is serial: the entry is placed there, or might have been
placed_by : (o : Opened) (before : List Event) (session : ℕ) (made : What) (e : Entry)
    → entry_in made ≡ Some e → IsSerialEvent o before (session, made) → IsPlaced o before session e
placed_by o before session (Placed d) e some serial =
    subst (IsPlaced o before session) (same_Some d e some) serial
placed_by o before session (Held oid kind) e some serial = absurd (none-some e some)
placed_by o before session (Dropped oid) e some serial = absurd (none-some e some)
placed_by o before session Left e some serial = absurd (none-some e some)
placed_by o before session Checked e some serial = absurd (none-some e some)
placed_by o before session (Halted number (Some d)) e some serial =
    subst (IsPlaced o before session) (same_Some d e some) serial.1
placed_by o before session (Halted number None) e some serial = absurd (none-some e some)

placed : (t : Told) (before more : List Event) (session : ℕ) (made : What) (e : Entry)
    → entry_in made ≡ Some e → t.events ≡ before ++ (session, made) ∷ more → IsSerial t
    → IsPlaced t.opened before session e
unfolding IsSerial
placed t before more session made e some whole serial =
    placed_by t.opened before session made e some
    (serial_back t.opened [] before ((session, made) ∷ more)
    (subst (IsSerialFrom t.opened []) whole serial)).0

pub of_script : (script : List SessionCommands) (before more : List Event) (event : Event)
    → AllByRecursion (IsOfScript script) (before ++ event ∷ more) → IsOfScript script event
of_script script [] more event all = all.0
of_script script (x ∷ before) more event all = of_script script before more event all.1

-- a chunk or a method does something to objects
run_is : (c : Command) → is_run c ≡ true
    → (command : ObjectCommand) × (object_command c ≡ Some command)
run_is (Chunk prints text) run = (run_chunk prints text, refl)
run_is (Method class_side class text) run = (install_method class_side class text, refl)
run_is Commit run = absurd (true≢false (sym run))
run_is Abort run = absurd (true≢false (sym run))
run_is Logout run = absurd (true≢false (sym run))
run_is (Lock write name) run = absurd (true≢false (sym run))
run_is (Unlock name) run = absurd (true≢false (sym run))
run_is Checkpoint run = absurd (true≢false (sym run))
run_is (Mode full) run = absurd (true≢false (sym run))

pub printed_is : (t : Told) (book : RunBook) (before more : List Event) (session : ℕ) (made : What)
    (e : Entry) (transcript : Transcript) (n : ℕ) (c : Command) → IsLegal t book
    → t.events ≡ before ++ (session, made) ∷ more → entry_in made ≡ Some e
    → slice_get book.transcripts (session - 1) ≡ Some transcript
    → e.first_command ≤ n → n < e.last_command
    → slice_get (commands_of t.opened.script session) (n - 1) ≡ Some c → is_run c ≡ true
    → option_map said_lines (slice_get
    (run_at_place t.opened (after_events t.opened before) e).said
    (runs_before t.opened.script e n)) ≡ Some (lines_of n transcript.replies)
printed_is t book before more session made e transcript n c legal whole entry here from to command run =
    let scripts = t.opened.script in
    let ordered = legal.consistent in
    let is = placed t before more session made e entry whole ordered.serial in
    let own : (1 ≤ session) × (session ≤ length scripts) =
    of_script scripts before more (session, made)
    (subst (AllByRecursion (IsOfScript scripts)) whole ordered.sessions) in
    let there = transcript_of t 1 scripts book.transcripts (session - 1) transcript
    legal.transcripts here in
    let low = own.0 in
    let number : 1 + (session - 1) ≡ session = omega (arith, low) in
    let says : Says t session 0 there.0 transcript.replies =
    subst (λ (i : ℕ). Says t i 0 there.0 transcript.replies) number (there.2).says in
    let some = run_is c run in
    let printed = says_printed t session 0 there.0 transcript.replies made e entry before more there.1 whole
    says n c some.0 from to
    (ap (λ (i : ℕ). slice_get (commands_of scripts i) (n - 1)) is.of_session ∙ command) some.1 in
    let k = runs_before scripts e n in
    ap (λ (run : Transaction). option_map said_lines (slice_get run.said k))
    (is.same ∙ on_view_is t before ((session, made) ∷ more) e whole is.begins.from is.begins.to)
    ∙ ap (option_map said_lines) printed.is
    ∙ ap Some (sym printed.lines)

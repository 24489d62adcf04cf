-- A reply is `disk fault` where an event of its session tells that the disk failed, and nowhere else.
use Rattle.std.proofs.Common.{◌≡◌, ◌↔◌, ◌⊎◌, inl, inr, ◌∙◌, refl, sym, ap, subst, ℕ, zero, suc, ◌+◌, ◌-◌, ◌≤◌, ◌<◌, ◌==◌, Bool, true, false, cond, Option, Some, None, List, [], ◌∷◌, ◌++◌, map, length, take, arith, eq-eqb, eqb-true}
use Rattle.std.specs.List.{slice_get, Contains, AllByRecursion}
use Rattle.std.proofs.lemmas.Bool.{cond-true}
use Rattle.std.proofs.lemmas.Option.{slice_get_within, slice_get-get_or, get_or_from_slice_get}
use Rattle.std.proofs.lemmas.List.Elements.{Contains-append_left, Contains-append_right, Contains-append_cases}
use Rattle.gem_meaning.specs.gem_record.declared.record.Entry.{Entry}
use Rattle.gem_meaning.specs.gem_replies.declared.reply.Line.{Line}
use Rattle.gem_meaning.specs.gem_replies.declared.reply.Line.TheVariants.{Login, NoUser, NotLoggedIn, Committed, Locked, Unlocked, Checkpoint, DiskFault, Logout}
use Rattle.gem_meaning.specs.gem_replies.declared.reply.Reply.{Reply}
use Rattle.gem_meaning.specs.gem_replies.declared.reply.RunBook.{RunBook}
use Rattle.gem_meaning.specs.gem_replies.declared.reply.Transcript.{Transcript}
use Rattle.gem_meaning.specs.shell_words.Script.{SessionCommands}
use Rattle.gem_meaning.specs.shell_words.declared.script.Command.{Command}
use Rattle.gem_meaning.specs.declared.event.What.{What}
use Rattle.gem_meaning.specs.declared.event.What.TheVariants.{Placed, Held, Dropped, Left, Checked, Halted}
use Rattle.gem_meaning.specs.Names.{user_in}
use Rattle.gem_meaning.specs.Events.{Event, Told, after_events, events_of, halts_in, IsRunning}
use Rattle.gem_meaning.specs.Session.{not_logged_in, reply_with, until_logout, SaysOf, Says}
use Rattle.gem_meaning.specs.Legal.{IsLegal}
use Rattle.gem_meaning.specs.Claims.{Claim, commits, holds, drops, leaves, checks, halts, claimed_by, Reader, at_login, read_on, leaving_claim, claim_of, claims_from, claims_of}
use Rattle.session_laws.specs.Faults.{TellsFault, HasFault, HasFailedIn}
use Rattle.session_laws.proofs.ClaimedByOne.{claimed_by_one, has_transcript}
use Rattle.session_laws.proofs.Printed.{transcript_of}

-- ---- elements of lists

first_is : {X : Type 0} (x : X) (xs : List X) → Contains (x ∷ xs) x
first_is x xs = (0, omega arith, refl)

later_is : {X : Type 0} (x : X) (xs : List X) (y : X) → Contains xs y → Contains (x ∷ xs) y
later_is x xs y at = Contains-append_right (x ∷ []) xs y at

first_or_later : {X : Type 0} (x : X) (xs : List X) (y : X) → Contains (x ∷ xs) y
    → (x ≡ y) ⊎ Contains xs y
first_or_later x xs y (zero, within, is) = inl is
first_or_later x xs y (suc k, within, is) = inr (k, omega (arith, within), is)

in_none : {X : Type 0} (y : X) → Contains [] y → ⊥
in_none y (k, within, is) = absurd (omega (arith, within))

only_is : {X : Type 0} (x y : X) → Contains (x ∷ []) y → x ≡ y
only_is x y at = elim (first_or_later x [] y at) [
  | inl same ↦ same
  | inr later ↦ absurd (in_none y later)
]

split_at : {X : Type 0} (xs : List X) (x : X) → Contains xs x
    → (before : List X) × (more : List X) × (xs ≡ before ++ x ∷ more)
split_at [] x at = absurd (in_none x at)
split_at (y ∷ ys) x at = elim (first_or_later y ys x at) [
  | inl same ↦ ([], ys, ap (λ z. z ∷ ys) same)
  | inr later ↦ let rest = split_at ys x later in (y ∷ rest.0, rest.1, ap (λ zs. y ∷ zs) rest.2)
]

-- ---- what replies claim

quiet_leaving : (locked : List ℕ) → Contains (leaving_claim locked) halts → ⊥
quiet_leaving [] at = in_none halts at
quiet_leaving (oid ∷ oids) at = let same = only_is leaves halts at in absurd cc

-- a line that claims a failure is `disk fault`
fault_of : (r : Reader) (command : ℕ) (line : Line) → Contains (claim_of r command line) halts
    → line ≡ DiskFault
fault_of r command DiskFault at = refl
fault_of r command (Committed number view) at =
    let same = only_is (commits r.transaction r.first_command command r.view) halts at in absurd cc
fault_of r command (Locked kind oid clean) at =
    let same = only_is (holds oid kind) halts at in absurd cc
fault_of r command (Unlocked oid) at = let same = only_is (drops oid) halts at in absurd cc
fault_of r command (Checkpoint number) at = let same = only_is checks halts at in absurd cc
fault_of r command Logout at = absurd (quiet_leaving r.locked at)
fault_of r command _ at = absurd (in_none halts at)

-- such a reply stands among these
abbrev Tells : List Reply → Type 0
Tells rs = (reply : Reply) × Contains rs reply × (reply.line ≡ DiskFault)

told_later : (r : Reply) (rs : List Reply) → Tells rs → Tells (r ∷ rs)
told_later r rs tells = (tells.0, later_is r rs tells.0 tells.1, tells.2)

claims_fault : (r : Reader) (rs : List Reply) → Tells rs → Contains (claims_from r rs) halts
claims_fault r [] tells = absurd (in_none tells.0 tells.1)
claims_fault r (x ∷ xs) (reply, at, fault) =
    let here = claim_of r x.command x.line in
    let later = claims_from (read_on r x.command x.line) xs in
    elim (first_or_later x xs reply at) [
      | inl same ↦ Contains-append_left here later halts
          (subst (λ (line : Line). Contains (claim_of r x.command line) halts)
          (sym (ap (λ (y : Reply). y.line) same ∙ fault)) (first_is halts []))
      | inr more ↦ Contains-append_right here later halts
          (claims_fault (read_on r x.command x.line) xs (reply, more, fault))
    ]

fault_claimed : (r : Reader) (rs : List Reply) → Contains (claims_from r rs) halts → Tells rs
fault_claimed r [] at = absurd (in_none halts at)
fault_claimed r (x ∷ xs) at =
    let here = claim_of r x.command x.line in
    let next = read_on r x.command x.line in
    elim (Contains-append_cases here (claims_from next xs) halts at) [
      | inl first ↦ (x, first_is x xs, fault_of r x.command x.line first)
      | inr later ↦ told_later x xs (fault_claimed next xs later)
    ]

-- ---- what a session's transcript claims

not_logged_tells : (number count : ℕ) → Tells (not_logged_in number count) → ⊥
not_logged_tells number zero tells = in_none tells.0 tells.1
not_logged_tells number (suc count) (reply, at, fault) =
    elim (first_or_later (reply_with number NotLoggedIn) (not_logged_in (number + 1) count) reply at) [
      | inl same ↦ let line = ap (λ (y : Reply). y.line) same ∙ fault in absurd cc
      | inr later ↦ not_logged_tells (number + 1) count (reply, later, fault)
    ]

-- the first reply isn't that
told_after : (number : ℕ) (line : Line) (rs : List Reply) → (line ≡ DiskFault → ⊥)
    → Tells (reply_with number line ∷ rs) → Tells rs
told_after number line rs other (reply, at, fault) =
    elim (first_or_later (reply_with number line) rs reply at) [
      | inl same ↦ absurd (other (ap (λ (y : Reply). y.line) same ∙ fault))
      | inr later ↦ (reply, later, fault)
    ]

said_claims : (user : Option ℕ) (t : Told) (session point view : ℕ) (cs : List Command)
    (rs : List Reply) → SaysOf user t session point view cs rs → Tells rs
    → Contains (claims_of rs) halts
said_claims (Some user) t session point view cs rs says tells =
    subst (λ (xs : List Reply). Contains (claims_of xs) halts) (sym says.login)
    (claims_fault (at_login view) says.replies
    (told_after 0 (Login view) says.replies (λ same. absurd cc) (subst Tells says.login tells)))
said_claims None t session point view cs rs says tells =
    absurd (not_logged_tells 1 (length cs)
    (told_after 0 (NoUser view) (not_logged_in 1 (length cs)) (λ same. absurd cc)
    (subst Tells says.refused tells)))

claims_said : (user : Option ℕ) (t : Told) (session point view : ℕ) (cs : List Command)
    (rs : List Reply) → SaysOf user t session point view cs rs → Contains (claims_of rs) halts
    → Tells rs
claims_said (Some user) t session point view cs rs says at =
    subst Tells (sym says.login) (told_later (reply_with 0 (Login view)) says.replies
    (fault_claimed (at_login view) says.replies
    (subst (λ (xs : List Reply). Contains (claims_of xs) halts) says.login at)))
claims_said None t session point view cs rs says at =
    absurd (in_none halts (subst (λ (xs : List Reply). Contains (claims_of xs) halts) says.refused at))

-- ---- events

-- an event that is read as a failure is one
halted_is : (event : Event) → claimed_by event ≡ halts
    → (number : ℕ) × (entry : Option Entry) × (event ≡ (event.0, Halted number entry))
halted_is (session, Halted number entry) same = (number, entry, refl)
halted_is (session, Placed e) same = absurd cc
halted_is (session, Held oid kind) same = absurd cc
halted_is (session, Dropped oid) same = absurd cc
halted_is (session, Left) same = absurd cc
halted_is (session, Checked) same = absurd cc

failed_later : (e : Event) (es : List Event) (session : ℕ) → HasFailedIn es session
    → HasFailedIn (e ∷ es) session
failed_later e es session (number, entry, at) =
    (number, entry, later_is e es (session, Halted number entry) at)

kept_later : (b : Bool) (e : Event) (es : List Event) → Contains (map claimed_by es) halts
    → Contains (map claimed_by (cond b (e ∷ es) es)) halts
kept_later true e es at = later_is (claimed_by e) (map claimed_by es) halts at
kept_later false e es at = at

failed_claims : (session : ℕ) (es : List Event) → HasFailedIn es session
    → Contains (map claimed_by (events_of session es)) halts
failed_claims session [] (number, entry, at) = absurd (in_none (session, Halted number entry) at)
failed_claims session (e ∷ es) (number, entry, at) =
    let own : Event = (session, Halted number entry) in
    elim (first_or_later e es own at) [
      | inl same ↦
          subst (λ (x : Event). Contains (map claimed_by (events_of session (x ∷ es))) halts) (sym same)
          (subst (λ (xs : List Event). Contains (map claimed_by xs) halts)
          (sym (cond-true (session == session) (own ∷ events_of session es) (events_of session es)
          (eq-eqb session session refl)))
          (first_is halts (map claimed_by (events_of session es))))
      | inr later ↦ kept_later (e.0 == session) e (events_of session es)
          (failed_claims session es (number, entry, later))
    ]

failed_here : (e : Event) (es : List Event) (session : ℕ) → e.0 ≡ session → claimed_by e ≡ halts
    → HasFailedIn (e ∷ es) session
failed_here e es session own same =
    let is = halted_is e same in (
      is.0,
      is.1,
      subst (λ (n : ℕ). Contains (e ∷ es) (n, Halted is.0 is.1)) own
          (subst (λ (x : Event). Contains (e ∷ es) x) is.2 (first_is e es)),
    )

claims_failed : (session : ℕ) (es : List Event)
    → Contains (map claimed_by (events_of session es)) halts → HasFailedIn es session
claims_failed session [] at = absurd (in_none halts at)
claims_failed session (e ∷ es) at = go (e.0 == session) refl (claims_failed session es) at
  where
    go : (b : Bool) → e.0 == session ≡ b
        → (Contains (map claimed_by (events_of session es)) halts → HasFailedIn es session)
        → Contains (map claimed_by (cond b (e ∷ events_of session es) (events_of session es))) halts
        → HasFailedIn (e ∷ es) session
    go true own rest claimed =
        elim (first_or_later (claimed_by e) (map claimed_by (events_of session es)) halts claimed) [
          | inl same ↦ failed_here e es session (eqb-true e.0 session own) same
          | inr later ↦ failed_later e es session (rest later)
        ]
    go false other rest claimed = failed_later e es session (rest claimed)

-- ---- the laws

says_fault : (t : Told) (session : ℕ) (script : SessionCommands) (rs : List Reply)
    → Says t session 0 script rs → map claimed_by (events_of session t.events) ≡ claims_of rs
    → Tells rs ↔ HasFailedIn t.events session
says_fault t session script rs says claimed =
    let user = user_in (after_events t.opened (take says.point t.events)).image script.user in
    let cs = until_logout script.commands in (
      λ tells. claims_failed session t.events
          (subst (λ (xs : List Claim). Contains xs halts) (sym claimed)
          (said_claims user t session says.point says.view cs rs says.says tells)),
      λ failed. claims_said user t session says.point says.view cs rs says.says
          (subst (λ (xs : List Claim). Contains xs halts) claimed
          (failed_claims session t.events failed)),
    )

pub fault_of_one : (t : Told) (book : RunBook) (session : ℕ) (transcript : Transcript)
    → IsLegal t book → slice_get book.transcripts (session - 1) ≡ Some transcript → 1 ≤ session
    → TellsFault transcript ↔ HasFailedIn t.events session
fault_of_one t book session transcript legal here low =
    let there = transcript_of t 1 t.opened.script book.transcripts (session - 1) transcript
    legal.transcripts here in
    let number : 1 + (session - 1) ≡ session = omega (arith, low) in
    says_fault t session there.0 transcript.replies
    (subst (λ (i : ℕ). Says t i 0 there.0 transcript.replies) number (there.2).says)
    (claimed_by_one t book session transcript legal here low)

-- where the disk hasn't failed no event tells of it
runs_quiet : (es : List Event) (session : ℕ) → IsRunning es → HasFailedIn es session → ⊥
runs_quiet [] session running (number, entry, at) = in_none (session, Halted number entry) at
runs_quiet ((author, Halted n x) ∷ es) session running failed = absurd cc
runs_quiet ((author, what) ∷ es) session running (number, entry, at) =
    elim (first_or_later (author, what) es (session, Halted number entry) at) [
      | inl same ↦ let is = ap (λ (event : Event). event.1) same in absurd cc
      | inr later ↦ runs_quiet es session running (number, entry, later)
    ]

pub none_of_running : (t : Told) (book : RunBook) → IsLegal t book → IsRunning t.events
    → HasFault book → ⊥
none_of_running t book legal running (transcript, (k, within, is), tells) =
    let at : k + 1 - 1 ≡ k = omega arith in
    let here : slice_get book.transcripts (k + 1 - 1) ≡ Some transcript =
    ap (slice_get book.transcripts) at
    ∙ slice_get-get_or book.transcripts k transcript within ∙ ap Some is in
    runs_quiet t.events (k + 1) running
    ((fault_of_one t book (k + 1) transcript legal here (omega arith)).0 tells)

-- the disk hasn't failed, or an event tells of it
runs_or_failed : (es : List Event) → IsRunning es ⊎ ((session : ℕ) × HasFailedIn es session)
runs_or_failed [] = inl refl
runs_or_failed ((author, Halted number entry) ∷ es) =
    inr (author, (number, entry, first_is (author, Halted number entry) es))
runs_or_failed ((author, what) ∷ es) = elim (runs_or_failed es) [
  | inl running ↦ inl running
  | inr failed ↦ inr (failed.0, failed_later (author, what) es failed.0 failed.1)
]

pub some_of_halted : (t : Told) (book : RunBook) → IsLegal t book → (IsRunning t.events → ⊥)
    → HasFault book
some_of_halted t book legal halted = elim (runs_or_failed t.events) [
  | inl running ↦ absurd (halted running)
  | inr failed ↦ told failed.0 failed.1
] where
  told : (session : ℕ) → HasFailedIn t.events session → HasFault book
  told session (number, entry, at) =
      let split = split_at t.events (session, Halted number entry) at in
      let there = has_transcript t book split.0 split.1 session (Halted number entry) legal split.2 in
      let transcript = there.1 in
      let here = there.2 in (
        transcript,
        (
          session - 1,
          slice_get_within book.transcripts (session - 1) transcript here,
          get_or_from_slice_get book.transcripts (session - 1) transcript transcript here,
        ),
        (fault_of_one t book session transcript legal here there.0).1 (number, entry, at),
      )

-- A session of a load makes at most one event more than it has rounds.
use Rattle.std.proofs.Common.{◌≡◌, inl, inr, ℕ, ◌+◌, ◌≤◌, Bool, true, false, List, [], ◌∷◌, ◌++◌, length, take, Option, Some, None, refl, sym, ap, subst, ◌∙◌, append-nil, arith}
use Rattle.std.specs.List.{flat_map}
use Rattle.std.proofs.lemmas.List.{length-append}
use Rattle.gem_meaning.specs.gem_language.Commands.{Command as ObjectCommand}
use Rattle.gem_meaning.specs.gem_replies.declared.reply.Line.{Line}
use Rattle.gem_meaning.specs.gem_replies.declared.reply.Line.TheVariants.{NoMemory, DiskFault, Spoiled, Halted, Unchanged, Refused, LogFull, Committed}
use Rattle.gem_meaning.specs.gem_replies.declared.reply.Reply.{Reply}
use Rattle.gem_meaning.specs.declared.event.What.{What}
use Rattle.gem_meaning.specs.declared.event.What.TheVariants.{Left}
use Rattle.gem_meaning.specs.Events.{Event, Told, events_of, OthersCame}
use Rattle.gem_meaning.specs.State.{SessionState, CommandPlace}
use Rattle.gem_meaning.specs.Runs.{ObjectSays}
use Rattle.gem_meaning.specs.Commits.{CommitReply}
use Rattle.gem_meaning.specs.Locks.{leaving, LogsOut}
use Rattle.gem_meaning.specs.Session.{CommandsSay, until_logout, SaysOf, Says}
use Rattle.gem_server.proofs.OwnEvents.{came_others, came_own, up_to}
use Rattle.gem_server.proofs.LoadRounds.{round_commands, session_of}

-- at most one event of the session came, and it goes on as the same session
record AddsOne (session : ℕ) (before after : List Event) (s s' : SessionState) : Type 0 where
  same : s'.session ≡ s.session
  most : length (events_of session after) ≤ length (events_of session before) + 1

adds_none : (session : ℕ) (before after : List Event) (s s' : SessionState) → s'.session ≡ s.session → OthersCame session before after
    → AddsOne session before after s s'
adds_none session before after s s' same came = record {
  same = same;
  most = let sizes = ap length (came_others session before after came) in omega (arith, sizes);
}

adds_own : (session : ℕ) (before others more after : List Event) (what : What) (s s' : SessionState) → s'.session ≡ s.session
    → events_of session others ≡ [] → events_of session more ≡ [] → after ≡ ((before ++ others) ++ (session, what) ∷ []) ++ more
    → AddsOne session before after s s'
adds_own session before others more after what s s' same none no_more is = record {
  same = same;
  most =
      let sizes : length (events_of session after) ≡ length (events_of session before) + 1 =
      ap length (came_own session before others more after what none no_more is)
      ∙ length-append (events_of session before) ((session, what) ∷ []) in omega (arith, sizes);
}

abbrev session_in : SessionState → ℕ
session_in state = state.session

chunk_adds : (command : ObjectCommand) (at : CommandPlace) (s : SessionState) (lines : List Line) (s' : SessionState)
    → at.after ≡ at.before → ObjectSays command at s lines s' → AddsOne s.session at.before at.after s s'
chunk_adds command at s lines s' stays says =
    let came : OthersCame s.session at.before at.after = ([], refl, stays ∙ sym (append-nil at.before)) in
    elim says [
      | inl short ↦ adds_none s.session at.before at.after s s' (ap session_in short.state) came
      | inr ran ↦ elim ran [
        | inl meant ↦ adds_none s.session at.before at.after s s' (ap session_in meant.state) came
        | inr spoiled ↦ adds_none s.session at.before at.after s s' (ap session_in spoiled.state) came
      ]
    ]

commit_adds : (at : CommandPlace) (s : SessionState) (line : Line) (s' : SessionState) → CommitReply at s line s'
    → AddsOne s.session at.before at.after s s'
commit_adds at s Spoiled s' says =
    adds_none s.session at.before at.after s s' (ap session_in says.2) ([], refl, says.1 ∙ sym (append-nil at.before))
commit_adds at s NoMemory s' says = adds_none s.session at.before at.after s s' (ap session_in says.2) says.1
commit_adds at s (Halted number) s' says = adds_none s.session at.before at.after s s' (ap session_in says.3) says.1
commit_adds at s (Unchanged number view) s' says = adds_none s.session at.before at.after s s' (ap session_in says.4) says.2.0
commit_adds at s (Refused found) s' says = adds_none s.session at.before at.after s s' (ap session_in says.5) says.1
commit_adds at s (LogFull length size) s' says = adds_none s.session at.before at.after s s' (ap session_in says.2) says.1.came
commit_adds at s DiskFault s' says =
    let halted = says.1 in adds_own s.session at.before halted.others [] at.after _ s s' (ap session_in says.2) halted.are_others refl
    (halted.after ∙ sym (append-nil _))
commit_adds at s (Committed number view) s' says =
    let placed = says.1 in adds_own s.session at.before placed.others placed.sees.0.0 at.after _ s s' (ap session_in says.2)
    placed.are_others placed.sees.0.1 placed.sees.0.2
commit_adds at s line s' says = absurd says

logout_adds : (at : CommandPlace) (s : SessionState) → LogsOut at s → AddsOne s.session at.before at.after s s
logout_adds at s out = by out.holds refl
  where
    by : (holds : Bool) → out.holds ≡ holds → AddsOne s.session at.before at.after s s
    by true is = adds_own s.session at.before out.others [] at.after Left s s refl out.are_others refl
        (out.after ∙ ap (λ (h : Bool). (at.before ++ out.others) ++ leaving h s.session) is ∙ sym (append-nil _))
    by false is = adds_none s.session at.before at.after s s refl (
      out.others,
      out.are_others,
      out.after ∙ ap (λ (h : Bool). (at.before ++ out.others) ++ leaving h s.session) is ∙ append-nil (at.before ++ out.others),
    )

module _ (t : Told) (session : ℕ) where
  of_session : (before after : List Event) (s s' : SessionState) → s.session ≡ session → AddsOne s.session before after s s'
      → (s'.session ≡ session) × (length (events_of session after) ≤ length (events_of session before) + 1)
  of_session before after s s' is adds = (
    adds.same ∙ is,
    subst (λ (n : ℕ). length (events_of n after) ≤ length (events_of n before) + 1) is adds.most,
  )

  bounded : (left : List ℕ) (number p q : ℕ) (s : SessionState) (rs : List Reply) → s.session ≡ session
      → CommandsSay t number p q s (until_logout (flat_map round_commands left)) rs
      → length (events_of session (take q t.events)) ≤ length (events_of session (take p t.events)) + length left + 1
  bounded [] number p q s rs is says =
      let out = says.says.2.1 in
      let adds = of_session (take p t.events) (take says.point t.events) s s is (logout_adds _ s out) in
      let most = adds.1 in
      let sizes = ap (λ (n : ℕ). length (events_of session (take n t.events))) says.rest.1 in omega (arith, most, sizes)
  bounded (round ∷ left) number p q s rs is says =
      let chunk = of_session (take p t.events) (take says.point t.events) s says.next is
      (chunk_adds _ _ s says.lines says.next says.says.0 says.says.1) in
      let rest = says.rest in
      let commit = of_session (take says.point t.events) (take rest.point t.events) says.next rest.next chunk.0
      (commit_adds _ says.next rest.says.0 rest.next rest.says.2) in
      let onward = bounded left (number + 1 + 1) rest.point q rest.next rest.more commit.0 rest.rest in
      let same : length (events_of session (take says.point t.events)) ≡ length (events_of session (take p t.events)) =
      ap (λ (list : List Event). length (events_of session list)) says.says.0 in
      let most = commit.1 in omega (arith, same, most, onward)

  -- the session makes no more events than this
  pub few_events : (seen : ℕ) (numbers : List ℕ) (rs : List Reply) → Says t session seen (session_of numbers) rs
      → length (events_of session t.events) ≤ length numbers + 1
  few_events seen numbers rs says = by _ says.says
    where
      none : events_of session (take says.point t.events) ≡ []
      none = came_others session [] (take says.point t.events) says.sees.0

      by : (found : Option ℕ) → SaysOf found t session says.point says.view (until_logout (flat_map round_commands numbers)) rs
          → length (events_of session t.events) ≤ length numbers + 1
      by None of =
          let sizes = ap length (up_to session says.point t.events of.no_more ∙ none) in omega (arith, sizes)
      by (Some user) of =
          let most = bounded numbers 1 says.point of.end _ of.replies refl of.says in
          let before = ap length none in
          let all = ap length (up_to session of.end t.events of.no_more) in omega (arith, most, before, all)

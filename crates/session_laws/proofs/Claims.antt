-- A session's events are those that its replies claim.
use Rattle.std.proofs.Common.{◌≡◌, ◌⊎◌, inl, inr, ◌∙◌, refl, sym, ap, subst, ℕ, ◌+◌, Bool, true, false, cond, Option, Some, None, List, [], ◌∷◌, ◌++◌, map, take, append-nil, append_assoc}
use Rattle.std.proofs.lemmas.List.{map-append}
use Rattle.gem_meaning.specs.gem_replies.declared.reply.Line.{Line}
use Rattle.gem_meaning.specs.gem_replies.declared.reply.Reply.{Reply}
use Rattle.gem_meaning.specs.shell_words.Script.{SessionCommands, is_logout}
use Rattle.gem_meaning.specs.shell_words.declared.script.Command.{Command}
use Rattle.gem_meaning.specs.Opened.{Opened}
use Rattle.gem_meaning.specs.Names.{user_in}
use Rattle.gem_meaning.specs.Events.{Event, Told, after_events, events_of, OthersCame}
use Rattle.gem_meaning.specs.State.{SessionState, first_transaction, place_between}
use Rattle.gem_meaning.specs.Session.{CommandsSay, replies_with, until_logout, SaysOf, Says}
use Rattle.gem_meaning.specs.Claims.{Claim, claimed_by, Reader, at_login, claims_from, claims_of}
use Rattle.session_laws.proofs.Own.{came_others, up_to}
use Rattle.session_laws.proofs.Held.{none_held}
use Rattle.session_laws.proofs.Adds.{Knows, knows_after, Adds, command_adds}

-- A logout ends the commands, if one is among them.
abbrev pub EndAtLogout : List Command → Type 0
EndAtLogout [] = Unit {0}
EndAtLogout (c ∷ cs) = ((is_logout c ≡ false) × EndAtLogout cs) ⊎ (cs ≡ [])

pub until_ends : (cs : List Command) → EndAtLogout (until_logout cs)
until_ends [] = inr refl
until_ends (c ∷ cs) = go (is_logout c) refl (until_ends cs)
  where
    go : (b : Bool) → is_logout c ≡ b → EndAtLogout (until_logout cs)
        → EndAtLogout (cond b (c ∷ []) (c ∷ until_logout cs))
    go true is rest = inr refl
    go false is rest = inl (is, rest)

-- The session's events at the end are those at the beginning and those that the replies claim.
module _ (t : Told) where
  abbrev claims_up_to : ℕ → ℕ → List Claim
  claims_up_to session n = map claimed_by (events_of session (take n t.events))

  -- one command, and what is claimed after it
  claims_join : (number p point q : ℕ) (s : SessionState) (c : Command) (lines : List Line)
      (next : SessionState) (r : Reader) (rs more : List Reply)
      → rs ≡ replies_with number lines ++ more
      → (adds : Adds (place_between t number p point) s c lines next r)
      → claims_up_to s.session q ≡ claims_up_to s.session point ++ claims_from adds.next more
      → claims_up_to s.session q ≡ claims_up_to s.session p ++ claims_from r rs
  claims_join number p point q s c lines next r rs more is adds rest =
      let before = events_of s.session (take p t.events) in
      let later = claims_from adds.next more in
      rest
      ∙ ap (λ (es : List Event). map claimed_by es ++ later) adds.came
      ∙ ap (λ (xs : List Claim). xs ++ later) (map-append claimed_by before adds.own)
      ∙ append_assoc (map claimed_by before) (map claimed_by adds.own) later
      ∙ ap (λ (xs : List Claim). map claimed_by before ++ xs) (sym (adds.claimed more))
      ∙ ap (λ (xs : List Reply). map claimed_by before ++ claims_from r xs) (sym is)

  claims_end : (p q : ℕ) (session : ℕ) (r : Reader) (rs : List Reply) → rs ≡ [] → p ≡ q
      → claims_up_to session q ≡ claims_up_to session p ++ claims_from r rs
  claims_end p q session r rs none same =
      ap (claims_up_to session) (sym same)
      ∙ sym (append-nil (claims_up_to session p))
      ∙ ap (λ (xs : List Reply). claims_up_to session p ++ claims_from r xs) (sym none)

  commands_claim : (number p q : ℕ) (s : SessionState) (cs : List Command) (rs : List Reply)
      (r : Reader) → EndAtLogout cs → Knows t.opened (take p t.events) s r
      → CommandsSay t number p q s cs rs
      → claims_up_to s.session q ≡ claims_up_to s.session p ++ claims_from r rs
  commands_claim number p q s [] rs r ends knows says = claims_end p q s.session r rs says.0 says.1
  commands_claim number p q s (c ∷ cs) rs r (inl (goes_on, ends)) knows says =
      let adds = command_adds (place_between t number p says.point) s c says.lines says.next r knows
      says.says in
      claims_join number p says.point q s c says.lines says.next r rs says.more says.replies adds
      (subst (λ (n : ℕ). claims_up_to n q
      ≡ claims_up_to n says.point ++ claims_from adds.next says.more) adds.of_session
      (commands_claim (number + 1) says.point q says.next cs says.more adds.next ends
      (adds.knows goes_on) says.rest))
  commands_claim number p q s (c ∷ cs) rs r (inr last) knows says =
      let adds = command_adds (place_between t number p says.point) s c says.lines says.next r knows
      says.says in
      let end : CommandsSay t (number + 1) says.point q says.next [] says.more =
      subst (λ (ds : List Command). CommandsSay t (number + 1) says.point q says.next ds says.more)
      last says.rest in
      claims_join number p says.point q s c says.lines says.next r rs says.more says.replies adds
      (claims_end says.point q s.session adds.next says.more end.0 end.1)

-- what the reader knows at the login
pub knows_login : (o : Opened) (events : List Event) (session user view : ℕ)
    → OthersCame session [] events
    → Knows o events (first_transaction session user view) (at_login view)
knows_login o events session user view came =
    knows_after o [] events (first_transaction session user view) (at_login view) came
    (record { transaction = refl; first_command = refl; view = refl; locked = none_held o session })

of_user_claims : (t : Told) (session : ℕ) (user : Option ℕ) (point view : ℕ) (cs : List Command)
    (rs : List Reply) → EndAtLogout cs → OthersCame session [] (take point t.events)
    → SaysOf user t session point view cs rs
    → map claimed_by (events_of session t.events) ≡ claims_of rs
of_user_claims t session (Some user) point view cs rs ends came says =
    let later = claims_from (at_login view) says.replies in
    ap (map claimed_by) (up_to session says.end t.events says.no_more)
    ∙ commands_claim t 1 point says.end (first_transaction session user view) cs says.replies
    (at_login view) ends (knows_login t.opened (take point t.events) session user view came)
    says.says
    ∙ ap (λ (es : List Event). map claimed_by es ++ later)
    (came_others session [] (take point t.events) came)
    ∙ ap claims_of (sym says.login)
of_user_claims t session None point view cs rs ends came says =
    ap (map claimed_by) (up_to session point t.events says.no_more
    ∙ came_others session [] (take point t.events) came)
    ∙ ap claims_of (sym says.refused)

pub says_claims : (t : Told) (session seen : ℕ) (script : SessionCommands) (rs : List Reply)
    → Says t session seen script rs → map claimed_by (events_of session t.events) ≡ claims_of rs
says_claims t session seen script rs says =
    let before = take says.point t.events in
    of_user_claims t session (user_in (after_events t.opened before).image script.user)
    says.point says.view (until_logout script.commands) rs (until_ends script.commands)
    says.sees.0 says.says

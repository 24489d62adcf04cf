-- The events of one session among all.
use Rattle.std.proofs.Common.{◌≡◌, ℕ, ◌==◌, List, [], ◌∷◌, ◌++◌, take, drop, refl, sym, ap, ◌∙◌, append-nil, append_assoc, eq-eqb, take-append-drop}
use Rattle.std.proofs.lemmas.Bool.{cond-true}
use Rattle.std.proofs.lemmas.List.Elements.{filter-append}
use Rattle.gem_meaning.specs.declared.event.What.{What}
use Rattle.gem_meaning.specs.Events.{Event, events_of, OthersCame}

-- the session's events in two lists are those in both together
pub of_both : (session : ℕ) (es fs : List Event)
    → events_of session (es ++ fs) ≡ events_of session es ++ events_of session fs
of_both session es fs = filter-append (λ (event : Event). event.0 == session) es fs

pub of_others : (session : ℕ) (es others : List Event) → events_of session others ≡ []
    → events_of session (es ++ others) ≡ events_of session es
of_others session es others none =
    of_both session es others ∙ ap (λ xs. events_of session es ++ xs) none
    ∙ append-nil (events_of session es)

pub of_own : (session : ℕ) (es : List Event) (what : What)
    → events_of session (es ++ (session, what) ∷ []) ≡ events_of session es ++ (session, what) ∷ []
of_own session es what =
    of_both session es ((session, what) ∷ [])
    ∙ ap (λ xs. events_of session es ++ xs)
    (cond-true (session == session) ((session, what) ∷ []) [] (eq-eqb session session refl))

-- where only others' events came, the session has those that it had
pub came_others : (session : ℕ) (before after : List Event) → OthersCame session before after
    → events_of session after ≡ events_of session before
came_others session before after came =
    ap (events_of session) came.2 ∙ of_others session before came.0 came.1

-- where its own event came after others', the session has one more
pub came_one : (session : ℕ) (before others after : List Event) (what : What)
    → events_of session others ≡ [] → after ≡ (before ++ others) ++ (session, what) ∷ []
    → events_of session after ≡ events_of session before ++ (session, what) ∷ []
came_one session before others after what none is =
    ap (events_of session) is ∙ of_own session (before ++ others) what
    ∙ ap (λ xs. xs ++ (session, what) ∷ []) (of_others session before others none)

-- the session's events up to a point, where it has none after it
pub up_to : (session n : ℕ) (es : List Event) → events_of session (drop n es) ≡ []
    → events_of session es ≡ events_of session (take n es)
up_to session n es none =
    ap (events_of session) (sym (take-append-drop n es))
    ∙ of_others session (take n es) (drop n es) none

-- an event of a session stands among all of its events
pub own_event : (session : ℕ) (before more : List Event) (what : What)
    → events_of session (before ++ (session, what) ∷ more)
    ≡ events_of session before ++ (session, what) ∷ events_of session more
own_event session before more what =
    let event : Event = (session, what) in
    ap (events_of session) (sym (append_assoc before (event ∷ []) more))
    ∙ of_both session (before ++ event ∷ []) more
    ∙ ap (λ xs. xs ++ events_of session more) (of_own session before what)
    ∙ append_assoc (events_of session before) (event ∷ []) (events_of session more)

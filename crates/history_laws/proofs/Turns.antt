-- Events by the sessions that made them.
use Rattle.std.proofs.Common.{◌≡◌, ◌≢◌, ◌∙◌, refl, sym, ap, subst, ℕ, ◌==◌, Bool, true, false, true≢false, cond, List, [], ◌∷◌, ◌++◌, length, take, drop, arith, append_assoc, append-nil, eq-eqb, eqb-true, take-append-drop}
use Rattle.std.specs.List.{All, AllByRecursion}
use Rattle.std.proofs.lemmas.List.{append_cancel_left}
use Rattle.std.proofs.lemmas.List.Elements.{filter-append, All-nil, All-cons}
use Rattle.gem_meaning.specs.Events.{Event, events_of, OthersCame}

-- what holds of all items of a list holds of those of its front, and of its back
module _ {X : Type 0} (P : X → Type 0) where
  pub all_front : (xs ys : List X) → AllByRecursion P (xs ++ ys) → AllByRecursion P xs
  all_front [] ys all = tt
  all_front (x ∷ xs) ys all = (all.0, all_front xs ys all.1)

  pub all_back : (xs ys : List X) → AllByRecursion P (xs ++ ys) → AllByRecursion P ys
  all_back [] ys all = all
  all_back (x ∷ xs) ys all = all_back xs ys all.1

  pub all_take : (n : ℕ) (xs : List X) → AllByRecursion P xs → AllByRecursion P (take n xs)
  all_take n xs all =
      all_front (take n xs) (drop n xs)
      (subst (AllByRecursion P) (sym (take-append-drop n xs)) all)

  pub all_drop : (n : ℕ) (xs : List X) → AllByRecursion P xs → AllByRecursion P (drop n xs)
  all_drop n xs all =
      all_back (take n xs) (drop n xs)
      (subst (AllByRecursion P) (sym (take-append-drop n xs)) all)

  pub all_weaker : (Q : X → Type 0) → ((x : X) → P x → Q x) → (xs : List X)
      → AllByRecursion P xs → AllByRecursion Q xs
  all_weaker Q weaker [] all = tt
  all_weaker Q weaker (x ∷ xs) all = (weaker x all.0, all_weaker Q weaker xs all.1)

-- a session without an event in two lists has none in both together
pub none_of : (session : ℕ) (es fs : List Event) → events_of session es ≡ []
    → events_of session fs ≡ [] → events_of session (es ++ fs) ≡ []
none_of session es fs e f =
    filter-append (λ event. event.0 == session) es fs
    ∙ ap (λ xs. xs ++ events_of session fs) e ∙ f

-- what a test that gives no item says of the first
pub not_taken : (taken : Bool) (x : Event) (xs : List Event) → cond taken (x ∷ xs) xs ≡ []
    → (taken ≡ false) × (xs ≡ [])
not_taken true x xs empty = absurd (omega (arith, ap length empty))
not_taken false x xs empty = (refl, empty)

-- an event is its own session's
pub made_by_one : (event : Event) (es : List Event) → events_of event.0 (event ∷ es) ≢ []
made_by_one event es none =
    true≢false (sym (eq-eqb event.0 event.0 refl)
    ∙ (not_taken (event.0 == event.0) event (events_of event.0 es) none).0)

-- the event is of this session
abbrev pub IsOf : ℕ → Event → Type 0
IsOf session event = event.0 ≡ session

-- all events are
abbrev pub AreOf : ℕ → List Event → Type 0
AreOf session events = AllByRecursion (IsOf session) events

pub own_are_of : (session : ℕ) (es : List Event) → AreOf session (events_of session es)
own_are_of session [] = tt
own_are_of session (e ∷ es) = go (e.0 == session) refl (own_are_of session es)
  where
    go : (b : Bool) → (e.0 == session) ≡ b → AreOf session (events_of session es)
        → AreOf session (cond b (e ∷ events_of session es) (events_of session es))
    go true is rest = (eqb-true e.0 session is, rest)
    go false is rest = rest

-- events of a session that has none of them
pub none_are_of : (session : ℕ) (es : List Event) → AreOf session es → events_of session es ≡ []
    → es ≡ []
none_are_of session [] are none = refl
none_are_of session (e ∷ es) are none =
    absurd (made_by_one e es (subst (λ (n : ℕ). events_of n (e ∷ es) ≡ []) (sym are.0) none))

-- only events of this session came
abbrev pub OwnCame : ℕ → List Event → List Event → Type 0
OwnCame session before after =
    (own : List Event) × AreOf session own × (after ≡ before ++ own)

-- What came is of the session, and of others: it is nothing.
pub nothing_came : (session : ℕ) (before after : List Event) → OwnCame session before after
    → OthersCame session before after → after ≡ before
nothing_came session before after own others =
    let same : own.0 ≡ others.0 =
    append_cancel_left before own.0 others.0 (sym own.2 ∙ others.2) in
    let none : others.0 ≡ [] =
    none_are_of session others.0 (subst (AreOf session) same own.1) others.1 in
    others.2 ∙ ap (λ es. before ++ es) none ∙ append-nil before

-- One event came, with others' events before it and after it, of which there are none.
pub one_came : (session : ℕ) (before after others later : List Event) (e : Event)
    → OwnCame session before after → events_of session others ≡ [] → events_of session later ≡ []
    → after ≡ ((before ++ others) ++ e ∷ []) ++ later
    → (others ≡ []) × (after ≡ before ++ e ∷ [])
one_came session before after others later e own first last is =
    let grouped : after ≡ before ++ (others ++ (e ∷ later)) =
    is ∙ append_assoc (before ++ others) (e ∷ []) later
    ∙ append_assoc before others (e ∷ later) in
    let same : own.0 ≡ others ++ (e ∷ later) =
    append_cancel_left before own.0 (others ++ (e ∷ later)) (sym own.2 ∙ grouped) in
    let are : AreOf session (others ++ (e ∷ later)) = subst (AreOf session) same own.1 in
    let no_others : others ≡ [] =
    none_are_of session others (all_front (IsOf session) others (e ∷ later) are) first in
    let no_later : later ≡ [] =
    none_are_of session later (all_back (IsOf session) others (e ∷ later) are).1 last in (
      no_others,
      grouped
          ∙ ap (λ es. before ++ (es ++ (e ∷ later))) no_others
          ∙ ap (λ es. before ++ (e ∷ es)) no_later,
    )

-- a session that has as many events as before has none of the further ones
pub nothing_more : (session : ℕ) (es more : List Event)
    → events_of session (es ++ more) ≡ events_of session es → events_of session more ≡ []
nothing_more session es more same =
    append_cancel_left (events_of session es) (events_of session more) []
    (sym (filter-append (λ event. event.0 == session) es more)
    ∙ same ∙ sym (append-nil (events_of session es)))

-- Events of which no other session has one are the session's own.
pub own_alone : (session : ℕ) (es : List Event)
    → ((other : ℕ) → other ≢ session → events_of other es ≡ [])
    → All (λ event. event.0 ≡ session) es
own_alone session [] none = All-nil (λ event. event.0 ≡ session)
own_alone session (e ∷ es) none =
    All-cons (λ event. event.0 ≡ session) e es (own (e.0 == session) refl)
    (own_alone session es
    (λ other different. (not_taken (e.0 == other) e (events_of other es) (none other different)).1))
  where
    own : (b : Bool) → (e.0 == session) ≡ b → e.0 ≡ session
    own true is = eqb-true e.0 session is
    own false is = absurd (made_by_one e es (none e.0
        (λ same. true≢false (sym (eq-eqb e.0 session same) ∙ is))))

-- The events of one session among those of all.
use Rattle.std.proofs.Common.{◌≡◌, ℕ, ◌+◌, ◌<◌, ◌≤◌, Bool, true, false, ◌==◌, if◌then◌else◌, List, [], ◌∷◌, ◌++◌, length, take, drop, refl, sym, ap, subst, ◌∙◌, append-nil, append_assoc, eq-eqb, take-append-drop, arith}
use Rattle.std.proofs.lemmas.Bool.{cond-true}
use Rattle.std.proofs.lemmas.List.Elements.{filter-append}
use Rattle.std.proofs.lemmas.List.{length-append}
use Rattle.gem_meaning.specs.declared.event.What.{What}
use Rattle.gem_meaning.specs.Events.{Event, events_of, OthersCame}

no_middle : {A : Type 0} (front back : List A) (x : A) → front ++ x ∷ back ≡ [] → ⊥
no_middle [] back x none = absurd cc
no_middle (y ∷ front) back x none = absurd cc

module _ (session : ℕ) where
  pub of_both : (es fs : List Event) → events_of session (es ++ fs) ≡ events_of session es ++ events_of session fs
  of_both es fs = filter-append (λ (event : Event). event.0 == session) es fs

  pub of_own : (what : What) (more : List Event) → events_of session ((session, what) ∷ more) ≡ (session, what) ∷ events_of session more
  of_own what more = cond-true (session == session) ((session, what) ∷ events_of session more) (events_of session more)
      (eq-eqb session session refl)

  -- where only others' events came
  pub came_others : (before after : List Event) → OthersCame session before after → events_of session after ≡ events_of session before
  came_others before after came = ap (events_of session) came.2 ∙ of_both before came.0
      ∙ ap (λ (more : List Event). events_of session before ++ more) came.1 ∙ append-nil (events_of session before)

  -- where one event of its own came among others'
  pub came_own : (before others more after : List Event) (what : What) → events_of session others ≡ [] → events_of session more ≡ []
      → after ≡ ((before ++ others) ++ (session, what) ∷ []) ++ more
      → events_of session after ≡ events_of session before ++ (session, what) ∷ []
  came_own before others more after what none no_more is =
      let own : List Event = (session, what) ∷ [] in
      ap (events_of session) is
      ∙ came_others ((before ++ others) ++ own) (((before ++ others) ++ own) ++ more) (more, no_more, refl)
      ∙ of_both (before ++ others) own
      ∙ ap (λ (list : List Event). list ++ events_of session own) (came_others before (before ++ others) (others, none, refl))
      ∙ ap (λ (list : List Event). events_of session before ++ list) (of_own what [])

  not_own : (what : What) (more : List Event) → events_of session ((session, what) ∷ more) ≡ [] → ⊥
  not_own what more none = no_middle [] (events_of session more) (session, what) (sym (of_own what more) ∙ none)

  none_after : (event : Event) (more : List Event) → events_of session (event ∷ more) ≡ [] → events_of session more ≡ []
  none_after event more = by (event.0 == session)
    where
      by : (test : Bool) → (if test then event ∷ events_of session more else events_of session more) ≡ []
          → events_of session more ≡ []
      by true none = absurd cc
      by false none = none

  is_among : (others rest front back : List Event) (what : What) → others ++ rest ≡ front ++ (session, what) ∷ back
      → length front < length others → events_of session others ≡ [] → ⊥
  is_among [] rest front back what same within none = absurd (omega (arith, within))
  is_among (event ∷ others) rest [] back what same within none =
      let first : event ≡ (session, what) = cc in
      not_own what others (subst (λ (e : Event). events_of session (e ∷ others) ≡ []) first none)
  is_among (event ∷ others) rest (first ∷ front) back what same within none =
      let later : others ++ rest ≡ front ++ (session, what) ∷ back = cc in
      is_among others rest front back what later (omega (arith, within)) (none_after event others none)

  -- no event of its own is among others' that came
  pub never_among : (before others rest front back : List Event) (what : What)
      → (before ++ others) ++ rest ≡ front ++ (session, what) ∷ back → length before ≤ length front
      → length front < length before + length others → events_of session others ≡ [] → ⊥
  never_among [] others rest front back what same from within none =
      is_among others rest front back what same (omega (arith, within)) none
  never_among (event ∷ before) others rest [] back what same from within none = absurd (omega (arith, from))
  never_among (event ∷ before) others rest (first ∷ front) back what same from within none =
      let later : (before ++ others) ++ rest ≡ front ++ (session, what) ∷ back = cc in
      never_among before others rest front back what later (omega (arith, from)) (omega (arith, within)) none

  -- the one event of its own that came is where it is
  pub record IsThat (before others front : List Event) (own what : What) : Type 0 where
    pub front_is : front ≡ before ++ others
    pub same : what ≡ own

  among_others : (others more rest front back : List Event) (own what : What)
      → others ++ (session, own) ∷ (more ++ rest) ≡ front ++ (session, what) ∷ back
      → length front < length others + 1 + length more → events_of session others ≡ [] → events_of session more ≡ []
      → (front ≡ others) × (what ≡ own)
  among_others [] more rest [] back own what same within none no_more =
      let first : (session, own) ≡ (session, what) = cc in (refl, ap (λ (event : Event). event.1) (sym first))
  among_others [] more rest (first ∷ front) back own what same within none no_more =
      let later : more ++ rest ≡ front ++ (session, what) ∷ back = cc in
      absurd (is_among more rest front back what later (omega (arith, within)) no_more)
  among_others (event ∷ others) more rest [] back own what same within none no_more =
      let first : event ≡ (session, what) = cc in
      absurd (not_own what others (subst (λ (e : Event). events_of session (e ∷ others) ≡ []) first none))
  among_others (event ∷ others) more rest (first ∷ front) back own what same within none no_more =
      let head : first ≡ event = cc in
      let later : others ++ (session, own) ∷ (more ++ rest) ≡ front ++ (session, what) ∷ back = cc in
      let is = among_others others more rest front back own what later (omega (arith, within)) (none_after event others none) no_more in
      (λ i. head i ∷ is.0 i, is.1)

  that_among : (before others more rest front back : List Event) (own what : What)
      → (before ++ others) ++ (session, own) ∷ (more ++ rest) ≡ front ++ (session, what) ∷ back → length before ≤ length front
      → length front < length before + length others + 1 + length more → events_of session others ≡ [] → events_of session more ≡ []
      → IsThat before others front own what
  that_among [] others more rest front back own what same from within none no_more =
      let is = among_others others more rest front back own what same (omega (arith, within)) none no_more in
      record { front_is = is.0; same = is.1 }
  that_among (event ∷ before) others more rest [] back own what same from within none no_more = absurd (omega (arith, from))
  that_among (event ∷ before) others more rest (first ∷ front) back own what same from within none no_more =
      let head : first ≡ event = cc in
      let later : (before ++ others) ++ (session, own) ∷ (more ++ rest) ≡ front ++ (session, what) ∷ back = cc in
      let is = that_among before others more rest front back own what later (omega (arith, from)) (omega (arith, within)) none no_more in
      record { front_is = λ i. head i ∷ is.front_is i; same = is.same }

  regrouped : (before others more rest : List Event) (own : What)
      → (((before ++ others) ++ (session, own) ∷ []) ++ more) ++ rest ≡ (before ++ others) ++ (session, own) ∷ (more ++ rest)
  regrouped before others more rest own =
      append_assoc ((before ++ others) ++ (session, own) ∷ []) more rest ∙ append_assoc (before ++ others) ((session, own) ∷ []) (more ++ rest)

  -- ---- by points of all events

  module _ (events front back : List Event) (what : What) (whole : events ≡ front ++ (session, what) ∷ back) (p q : ℕ)
      (from : length (take p events) ≤ length front) (within : length front < length (take q events)) where
    point_split : take q events ++ drop q events ≡ front ++ (session, what) ∷ back
    point_split = take-append-drop q events ∙ whole

    pub not_by_others : OthersCame session (take p events) (take q events) → ⊥
    not_by_others came =
        let size : length (take q events) ≡ length (take p events) + length came.0 =
        ap length came.2 ∙ length-append (take p events) came.0 in
        never_among (take p events) came.0 (drop q events) front back what
        (ap (λ (list : List Event). list ++ drop q events) (sym came.2) ∙ point_split) from (omega (arith, within, size)) came.1

    pub by_itself : (others more : List Event) (own : What) → events_of session others ≡ [] → events_of session more ≡ []
        → take q events ≡ ((take p events ++ others) ++ (session, own) ∷ []) ++ more
        → IsThat (take p events) others front own what
    by_itself others more own none no_more is =
        let first : length (take p events ++ others) ≡ length (take p events) + length others = length-append (take p events) others in
        let second : length ((take p events ++ others) ++ (session, own) ∷ []) ≡ length (take p events ++ others) + 1 =
        length-append (take p events ++ others) ((session, own) ∷ []) in
        let size : length (take q events) ≡ length ((take p events ++ others) ++ (session, own) ∷ []) + length more =
        ap length is ∙ length-append ((take p events ++ others) ++ (session, own) ∷ []) more in
        that_among (take p events) others more (drop q events) front back own what
        (sym (regrouped (take p events) others more (drop q events) own)
        ∙ ap (λ (list : List Event). list ++ drop q events) (sym is) ∙ point_split)
        from (omega (arith, within, first, second, size)) none no_more

  -- an event that comes after a point from which there is none
  pub not_after : (events front back : List Event) (what : What) (p : ℕ) → events ≡ front ++ (session, what) ∷ back
      → length (take p events) ≤ length front → events_of session (drop p events) ≡ [] → ⊥
  not_after events front back what p whole from none =
      along (take p events) (drop p events) front back (take-append-drop p events ∙ whole) from none
    where
      later : (rest front back : List Event) → rest ≡ front ++ (session, what) ∷ back → events_of session rest ≡ [] → ⊥
      later rest front back same none =
          let there : events_of session front ++ (session, what) ∷ events_of session back ≡ [] =
          ap (λ (list : List Event). events_of session front ++ list) (sym (of_own what back))
          ∙ sym (of_both front ((session, what) ∷ back)) ∙ ap (events_of session) (sym same) ∙ none in
          no_middle (events_of session front) (events_of session back) (session, what) there

      along : (before rest front back : List Event) → before ++ rest ≡ front ++ (session, what) ∷ back
          → length before ≤ length front → events_of session rest ≡ [] → ⊥
      along [] rest front back same from none = later rest front back same none
      along (event ∷ before) rest [] back same from none = absurd (omega (arith, from))
      along (event ∷ before) rest (first ∷ front) back same from none =
          let next : before ++ rest ≡ front ++ (session, what) ∷ back = cc in
          along before rest front back next (omega (arith, from)) none

  -- the session's events up to a point from which it has none
  pub up_to : (n : ℕ) (events : List Event) → events_of session (drop n events) ≡ []
      → events_of session events ≡ events_of session (take n events)
  up_to n events none = ap (events_of session) (sym (take-append-drop n events))
      ∙ came_others (take n events) (take n events ++ drop n events) (drop n events, none, refl)

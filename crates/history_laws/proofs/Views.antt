-- The images at numbers that stand stay, whatever comes.
use Rattle.std.proofs.Common.{◌≡◌, ℕ, zero, suc, ◌+◌, ◌-◌, ◌≤◌, List, [], ◌∷◌, ◌++◌, length, get_or, refl, sym, ap, subst, ◌∙◌, arith}
use Rattle.std.specs.List.{fold}
use Rattle.std.proofs.lemmas.List.Sums.{fold_push, fold-append}
use Rattle.gem_meaning.specs.gem_image.Image.{with_objects}
use Rattle.gem_meaning.specs.declared.event.What.TheVariants.{Placed, Held, Dropped, Left, Checked, Halted}
use Rattle.gem_meaning.specs.Opened.{Opened}
use Rattle.gem_meaning.specs.Events.{Event, Standing, image_at, effect_of, after_event, before_events, after_events}

-- what stands after one event more
pub after_one_more : (o : Opened) (events : List Event) (event : Event)
    → after_events o (events ++ event ∷ []) ≡ after_event o (after_events o events) event
unfolding after_events
after_one_more o events event = fold_push (after_event o) (before_events o) events event

-- what stands after further events
pub after_more : (o : Opened) (before more : List Event)
    → after_events o (before ++ more) ≡ fold (after_event o) (after_events o before) more
unfolding after_events
after_more o before more = fold-append (after_event o) (before_events o) before more

-- as many images stand before the last one as commits were made since the opening
abbrev pub IsGrown : Opened → Standing → Type 0
IsGrown o s = o.number + length s.earlier ≡ s.number

pub grown_by : (o : Opened) (s : Standing) (event : Event) → IsGrown o s
    → IsGrown o (after_event o s event)
grown_by o s (session, Placed e) grown = omega arith
grown_by o s (session, Held oid kind) grown = grown
grown_by o s (session, Dropped oid) grown = grown
grown_by o s (session, Left) grown = grown
grown_by o s (session, Checked) grown = grown
grown_by o s (session, Halted number entry) grown = grown

pub grown_from : (o : Opened) (s : Standing) (events : List Event) → IsGrown o s
    → IsGrown o (fold (after_event o) s events)
grown_from o s [] grown = grown
grown_from o s (e ∷ es) grown = grown_from o (after_event o s e) es (grown_by o s e grown)

pub is_grown : (o : Opened) (events : List Event) → IsGrown o (after_events o events)
unfolding after_events
is_grown o events = grown_from o (before_events o) events (omega arith)

-- the same item, whatever stands for one that is missing
same_item : {A : Type 0} (xs : List A) (i : ℕ) (d e : A) → i + 1 ≤ length xs
    → get_or xs i d ≡ get_or xs i e
same_item [] i d e within = grind arith
same_item (x ∷ xs) zero d e within = refl
same_item (x ∷ xs) (suc i) d e within = same_item xs i d e (omega arith)

item_after : {A : Type 0} (x : A) (xs : List A) (i j : ℕ) (d : A) → i ≡ suc j
    → get_or (x ∷ xs) i d ≡ get_or xs j d
item_after x xs i j d is = ap (λ n. get_or (x ∷ xs) n d) is

pub image_stays : (o : Opened) (s : Standing) (event : Event) (number : ℕ) → IsGrown o s
    → o.number ≤ number → number ≤ s.number
    → image_at (after_event o s event) number ≡ image_at s number
image_stays o s (session, Placed e) number grown from to =
    let next = with_objects s.image (effect_of o s e) in
    let images = s.image ∷ s.earlier in
    item_after next images (s.number + 1 - number) (s.number - number) next (omega arith)
    ∙ same_item images (s.number - number) next s.image (omega arith)
image_stays o s (session, Held oid kind) number grown from to = refl
image_stays o s (session, Dropped oid) number grown from to = refl
image_stays o s (session, Left) number grown from to = refl
image_stays o s (session, Checked) number grown from to = refl
image_stays o s (session, Halted halted entry) number grown from to = refl

pub number_grows : (o : Opened) (s : Standing) (event : Event)
    → s.number ≤ (after_event o s event).number
number_grows o s (session, Placed e) = omega arith
number_grows o s (session, Held oid kind) = omega arith
number_grows o s (session, Dropped oid) = omega arith
number_grows o s (session, Left) = omega arith
number_grows o s (session, Checked) = omega arith
number_grows o s (session, Halted number entry) = omega arith

pub image_stays_from : (o : Opened) (s : Standing) (events : List Event) (number : ℕ) → IsGrown o s
    → o.number ≤ number → number ≤ s.number
    → image_at (fold (after_event o) s events) number ≡ image_at s number
image_stays_from o s [] number grown from to = refl
image_stays_from o s (e ∷ es) number grown from to =
    let grows = number_grows o s e in
    image_stays_from o (after_event o s e) es number (grown_by o s e grown) from (omega arith)
    ∙ image_stays o s e number grown from to

pub number_grows_from : (o : Opened) (s : Standing) (events : List Event)
    → s.number ≤ (fold (after_event o) s events).number
number_grows_from o s [] = omega arith
number_grows_from o s (e ∷ es) =
    let grows = number_grows o s e in
    let rest = number_grows_from o (after_event o s e) es in
    omega arith

-- an image at a number that stands stays when more events come
pub views_stay : (o : Opened) (before more : List Event) (number : ℕ) → o.number ≤ number
    → number ≤ (after_events o before).number
    → image_at (after_events o (before ++ more)) number ≡ image_at (after_events o before) number
views_stay o before more number from to =
    ap (λ s. image_at s number) (after_more o before more)
    ∙ image_stays_from o (after_events o before) more number (is_grown o before) from to

-- the number never falls
pub number_stays : (o : Opened) (before more : List Event)
    → (after_events o before).number ≤ (after_events o (before ++ more)).number
number_stays o before more =
    subst (λ (s : Standing). (after_events o before).number ≤ s.number)
    (sym (after_more o before more)) (number_grows_from o (after_events o before) more)

numbers_from : (o : Opened) (s : Standing) (events : List Event)
    → (fold (after_event o) s events).number ≤ s.number + length events
numbers_from o s [] = omega arith
numbers_from o s ((session, Placed e) ∷ es) =
    let rest = numbers_from o (after_event o s (session, Placed e)) es in omega arith
numbers_from o s ((session, Held oid kind) ∷ es) =
    let rest = numbers_from o (after_event o s (session, Held oid kind)) es in omega arith
numbers_from o s ((session, Dropped oid) ∷ es) =
    let rest = numbers_from o (after_event o s (session, Dropped oid)) es in omega arith
numbers_from o s ((session, Left) ∷ es) =
    let rest = numbers_from o (after_event o s (session, Left)) es in omega arith
numbers_from o s ((session, Checked) ∷ es) =
    let rest = numbers_from o s es in omega arith
numbers_from o s ((session, Halted number entry) ∷ es) =
    let rest = numbers_from o s es in omega arith

-- each event makes at most one commit
pub number_at_most : (o : Opened) (events : List Event)
    → (after_events o events).number ≤ o.number + length events
unfolding after_events
number_at_most o events = numbers_from o (before_events o) events

pub number_at_least : (o : Opened) (events : List Event) → o.number ≤ (after_events o events).number
number_at_least o events = let grown = is_grown o events in omega arith

-- the image at the number that stands
pub image_now : (s : Standing) (view : ℕ) → view ≡ s.number → image_at s view ≡ s.image
image_now s view is = let none : s.number - view ≡ 0 = omega arith in rw none refl

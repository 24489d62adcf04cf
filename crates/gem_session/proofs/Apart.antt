-- Which earlier entries name commands of a session.
use Rattle.std.proofs.Common.{◌≡◌, ℕ, ◌≤◌, Bool, true, false, true≢false, cond, List, [], ◌∷◌, ◌++◌, length, sym, ap, ◌∙◌, arith, ◌==◌, refl}
use Rattle.std.specs.List.{AllByRecursion}
use Rattle.std.proofs.lemmas.List.Elements.{filter-append}
use Rattle.std.proofs.lemmas.Bool.{eq-eqb}
use Rattle.gem_meaning.specs.declared.event.What.TheVariants.{Placed, Held, Dropped, Left, Checked, Halted}
use Rattle.gem_meaning.specs.Events.{Event, events_of}
use Rattle.gem_meaning.specs.Serial.{EndedBefore}

-- a session without an event in two lists has none in both together
pub none_of : (session : ℕ) (es fs : List Event) → events_of session es ≡ [] → events_of session fs ≡ []
    → events_of session (es ++ fs) ≡ []
none_of session es fs e f =
    filter-append (λ event. event.0 == session) es fs ∙ ap (λ xs. xs ++ events_of session fs) e ∙ f

pub not_taken : (taken : Bool) (x : Event) (xs : List Event) → cond taken (x ∷ xs) xs ≡ [] → (taken ≡ false) × (xs ≡ [])
not_taken true x xs empty = absurd (omega (arith, ap length empty))
not_taken false x xs empty = (refl, empty)

-- events of other sessions name none of them
pub apart_of_others : (session first : ℕ) (es : List Event) → events_of session es ≡ [] → AllByRecursion (EndedBefore session first) es
apart_of_others session first [] none = tt
apart_of_others session first ((author, Placed e) ∷ es) none =
    let both = not_taken (author == session) (author, Placed e) (events_of session es) none in
    (λ is. absurd (true≢false (sym (eq-eqb author session is) ∙ both.0)), apart_of_others session first es both.1)
apart_of_others session first ((author, Held oid kind) ∷ es) none =
    (tt, apart_of_others session first es (not_taken (author == session) (author, Held oid kind) (events_of session es) none).1)
apart_of_others session first ((author, Dropped oid) ∷ es) none =
    (tt, apart_of_others session first es (not_taken (author == session) (author, Dropped oid) (events_of session es) none).1)
apart_of_others session first ((author, Left) ∷ es) none =
    (tt, apart_of_others session first es (not_taken (author == session) (author, Left) (events_of session es) none).1)
apart_of_others session first ((author, Checked) ∷ es) none =
    (tt, apart_of_others session first es (not_taken (author == session) (author, Checked) (events_of session es) none).1)
apart_of_others session first ((author, Halted number entry) ∷ es) none =
    (tt, apart_of_others session first es (not_taken (author == session) (author, Halted number entry) (events_of session es) none).1)

pub apart_both : (session first : ℕ) (es fs : List Event) → AllByRecursion (EndedBefore session first) es
    → AllByRecursion (EndedBefore session first) fs → AllByRecursion (EndedBefore session first) (es ++ fs)
apart_both session first [] fs es_apart fs_apart = fs_apart
apart_both session first (e ∷ es) fs es_apart fs_apart = (es_apart.0, apart_both session first es fs es_apart.1 fs_apart)

-- a later command comes after them, too
pub apart_later : (session first later : ℕ) (es : List Event) → first ≤ later → AllByRecursion (EndedBefore session first) es
    → AllByRecursion (EndedBefore session later) es
apart_later session first later [] le apart = tt
apart_later session first later ((author, Placed e) ∷ es) le apart =
    (λ is. let lt = apart.0 is in omega (arith, lt, le), apart_later session first later es le apart.1)
apart_later session first later ((author, Held oid kind) ∷ es) le apart = (tt, apart_later session first later es le apart.1)
apart_later session first later ((author, Dropped oid) ∷ es) le apart = (tt, apart_later session first later es le apart.1)
apart_later session first later ((author, Left) ∷ es) le apart = (tt, apart_later session first later es le apart.1)
apart_later session first later ((author, Checked) ∷ es) le apart = (tt, apart_later session first later es le apart.1)
apart_later session first later ((author, Halted number entry) ∷ es) le apart = (tt, apart_later session first later es le apart.1)

pub all_one_more : {A : Type 0} (P : A → Type 0) (xs : List A) (x : A) → AllByRecursion P xs → P x → AllByRecursion P (xs ++ x ∷ [])
all_one_more P [] x all one = (one, tt)
all_one_more P (y ∷ ys) x all one = (all.0, all_one_more P ys x all.1 one)

-- The locks that a session holds: others' events don't change them, and its own replies tell them.
use Rattle.std.proofs.Common.{◌≡◌, ◌≢◌, inl, inr, ◌∙◌, refl, sym, ap, subst, ℕ, ◌==◌, Bool, true, false, true≢false, cond, not, eq-eqb, nat_eq, is_some, List, [], ◌∷◌}
use Rattle.std.specs.List.{filter, fold}
use Rattle.std.specs.FinMap.{get-empty}
use Rattle.std.proofs.lemmas.Bool.{cond-true, ne_eqb}
use Rattle.std.proofs.lemmas.Bool.Decides.{eqb_tells}
use Rattle.gem_meaning.specs.lock_table.Locks.{LockSet, holding_cmp, holding, kind_held, after_held, after_dropped}
use Rattle.gem_meaning.specs.lock_table.declared.lock.LockKind.{LockKind}
use Rattle.gem_meaning.proofs.lock_table_lemmas.Changes.{held_this, held_others, dropped_this, dropped_others, left_others}
use Rattle.gem_meaning.specs.declared.event.What.TheVariants.{Placed, Held, Dropped, Left, Checked, Halted}
use Rattle.gem_meaning.specs.Opened.{Opened}
use Rattle.gem_meaning.specs.Events.{Event, Standing, after_event, after_events, events_of, OthersCame}
use Rattle.history_laws.proofs.Views.{after_more}
use Rattle.history_laws.proofs.Turns.{not_taken}

-- ---- names in lists

-- whether the name is one of these
abbrev pub has : ℕ → List ℕ → Bool
has oid [] = false
has oid (x ∷ xs) = cond (x == oid) true (has oid xs)

pub has_first : (oid : ℕ) (xs : List ℕ) → has oid (oid ∷ xs) ≡ true
has_first oid xs = cond-true (oid == oid) true (has oid xs) (eq-eqb oid oid refl)

has_after : (object x : ℕ) (xs : List ℕ) → object ≢ x → has object (x ∷ xs) ≡ has object xs
has_after object x xs apart =
    ap (λ (b : Bool). cond b true (has object xs)) (ne_eqb x object (λ same. apart (sym same)))

-- the names without this one
abbrev pub without : ℕ → List ℕ → List ℕ
without oid xs = filter (λ (other : ℕ). not (nat_eq other oid)) xs

gone_this : (oid : ℕ) (xs : List ℕ) → has oid (without oid xs) ≡ false
gone_this oid [] = refl
gone_this oid (x ∷ xs) = elim (eqb_tells x oid) [
  | inl here ↦
      ap (λ (b : Bool). has oid (cond (not b) (x ∷ without oid xs) (without oid xs))) here.0
      ∙ gone_this oid xs
  | inr elsewhere ↦
      ap (λ (b : Bool). has oid (cond (not b) (x ∷ without oid xs) (without oid xs))) elsewhere.0
      ∙ ap (λ (b : Bool). cond b true (has oid (without oid xs))) elsewhere.0 ∙ gone_this oid xs
]

gone_other : (object oid : ℕ) (xs : List ℕ) → object ≢ oid
    → has object (without oid xs) ≡ has object xs
gone_other object oid [] apart = refl
gone_other object oid (x ∷ xs) apart = elim (eqb_tells x oid) [
  | inl here ↦
      ap (λ (b : Bool). has object (cond (not b) (x ∷ without oid xs) (without oid xs))) here.0
      ∙ gone_other object oid xs apart
      ∙ sym (has_after object x xs (λ same. apart (same ∙ here.1)))
  | inr elsewhere ↦
      ap (λ (b : Bool). has object (cond (not b) (x ∷ without oid xs) (without oid xs))) elsewhere.0
      ∙ ap (λ (b : Bool). cond (x == object) true b) (gone_other object oid xs apart)
]

-- ---- the locks of one session

-- the objects on which the session holds locks are these
abbrev pub AreHeld : LockSet → (session : ℕ) → List ℕ → Type 0
AreHeld locks session objects =
    (oid : ℕ) → has oid objects ≡ is_some (kind_held locks session oid)

pub held_more : (locks : LockSet) (session oid : ℕ) (kind : LockKind) (objects : List ℕ)
    → AreHeld locks session objects
    → AreHeld (after_held locks session oid kind) session (oid ∷ objects)
held_more locks session oid kind objects are object = elim (eqb_tells object oid) [
  | inl here ↦
      subst (λ (n : ℕ). has n (oid ∷ objects)
      ≡ is_some (kind_held (after_held locks session oid kind) session n)) (sym here.1)
      (has_first oid objects ∙ sym (ap is_some (held_this locks session oid kind)))
  | inr elsewhere ↦
      has_after object oid objects elsewhere.1 ∙ are object
      ∙ sym (ap is_some (held_others locks session oid kind session object (λ _. elsewhere.1)))
]

pub held_less : (locks : LockSet) (session oid : ℕ) (objects : List ℕ)
    → AreHeld locks session objects
    → AreHeld (after_dropped locks session oid) session (without oid objects)
held_less locks session oid objects are object = elim (eqb_tells object oid) [
  | inl here ↦
      subst (λ (n : ℕ). has n (without oid objects)
      ≡ is_some (kind_held (after_dropped locks session oid) session n)) (sym here.1)
      (gone_this oid objects ∙ sym (ap is_some (dropped_this locks session oid)))
  | inr elsewhere ↦
      gone_other object oid objects elsewhere.1 ∙ are object
      ∙ sym (ap is_some (dropped_others locks session oid session object (λ _. elsewhere.1)))
]

-- at first nothing is held
pub none_held : (o : Opened) (session : ℕ) → AreHeld (after_events o []).locks session []
unfolding after_events
none_held o session oid = sym (ap is_some (get-empty holding_cmp (holding session oid)))

-- an event of another session doesn't change what the session holds
held_event : (o : Opened) (s : Standing) (event : Event) (session oid : ℕ) → event.0 ≢ session
    → kind_held (after_event o s event).locks session oid ≡ kind_held s.locks session oid
held_event o s (author, Placed e) session oid apart = refl
held_event o s (author, Held object kind) session oid apart =
    held_others s.locks author object kind session oid (λ same. absurd (apart (sym same)))
held_event o s (author, Dropped object) session oid apart =
    dropped_others s.locks author object session oid (λ same. absurd (apart (sym same)))
held_event o s (author, Left) session oid apart =
    left_others s.locks author oid session oid (λ same. apart (sym same))
held_event o s (author, Checked) session oid apart = refl
held_event o s (author, Halted number entry) session oid apart = refl

held_from : (o : Opened) (s : Standing) (others : List Event) (session oid : ℕ)
    → events_of session others ≡ []
    → kind_held (fold (after_event o) s others).locks session oid ≡ kind_held s.locks session oid
held_from o s [] session oid none = refl
held_from o s (e ∷ es) session oid none =
    let other = not_taken (e.0 == session) e (events_of session es) none in
    held_from o (after_event o s e) es session oid other.1
    ∙ held_event o s e session oid
    (λ same. true≢false (sym (eq-eqb e.0 session same) ∙ other.0))

pub held_stays : (o : Opened) (session : ℕ) (before after : List Event)
    → OthersCame session before after → (oid : ℕ)
    → kind_held (after_events o after).locks session oid
    ≡ kind_held (after_events o before).locks session oid
held_stays o session before after came oid =
    ap (λ (es : List Event). kind_held (after_events o es).locks session oid) came.2
    ∙ ap (λ (s : Standing). kind_held s.locks session oid) (after_more o before came.0)
    ∙ held_from o (after_events o before) came.0 session oid came.1

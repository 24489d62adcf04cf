-- What crashes leave of a keeper in a run of calls, and what one event more makes of it.
use Rattle.std.proofs.Common.{◌≡◌, ℕ, ◌+◌, ◌≤◌, ◌⊎◌, inl, inr, ⊎_elim, List, [], ◌∷◌, ◌++◌, Option, Some, refl, sym, ap, subst, ◌∙◌, append_assoc, append-nil, le_refl, arith}
use Rattle.gem_image.specs.Image.{Image, with_objects}
use Rattle.gem_record.specs.declared.record.Entry.{Entry}
use Rattle.gem_record.specs.declared.effect.Effect.{Effect}
use Rattle.gem_keeper.specs.Found.{Found, StandsFor}
use Rattle.gem_keeper.specs.Crashes.{FitsNow, KeepsOnly}
use Rattle.gem_meaning.specs.declared.event.What.TheVariants.{Placed, Halted}
use Rattle.gem_meaning.specs.Opened.{Opened}
use Rattle.gem_meaning.specs.Events.{Event, Told, Standing, after_event, after_events, standing, effect_of}
use Rattle.history_laws.proofs.Views.{after_one_more}
use Rattle.stone_core.specs.Crashes.{StandsAfter, HasStood, StandsInFlight, MayBeLeft, MayHaveBeenLeft}

-- ---- runs of a keeper

module _ {K : Type 0} {moment : K → ℕ} {stands : K → Option Found} {left_since : K → ℕ → Option Found → Type 0} where
  pub fits_less : (keeper : K) (P Q : Option Found → Type 0) → ((left : Option Found) → P left → Q left)
      → FitsNow moment stands left_since keeper P → FitsNow moment stands left_since keeper Q
  fits_less keeper P Q weaker fits = record {
    reads = weaker (stands keeper) fits.reads;
    crash = λ left since. weaker left (fits.crash left since);
  }

module _ {K : Type 0} {moment : K → ℕ} {left_since : K → ℕ → Option Found → Type 0} where
  pub nothing_done : (keeper : K) (P : Option Found → Type 0)
      → ((left : Option Found) → left_since keeper (moment keeper) left → P left)
      → KeepsOnly moment left_since keeper keeper P
  nothing_done keeper P fits = record {
    later = le_refl (moment keeper);
    each = fits;
    now = fits;
    before = λ t left earlier since. inl since;
  }

  pub keeps_less : (a b : K) (P Q : Option Found → Type 0) → ((left : Option Found) → P left → Q left)
      → KeepsOnly moment left_since a b P → KeepsOnly moment left_since a b Q
  keeps_less a b P Q weaker keeps = record {
    later = keeps.later;
    each = λ left since. weaker left (keeps.each left since);
    now = λ left since. weaker left (keeps.now left since);
    before = λ t left earlier since.
        ⊎_elim (λ old. inl old) (λ fits. inr (weaker left fits)) (keeps.before t left earlier since);
  }

  pub keeps_then : (a b c : K) (P : Option Found → Type 0) → KeepsOnly moment left_since a b P
      → KeepsOnly moment left_since b c P → KeepsOnly moment left_since a c P
  keeps_then a b c P first second = record {
    later = let one = first.later in let two = second.later in omega (arith, one, two);
    each = λ left since.
        ⊎_elim (λ old. first.each left old) (λ fits. fits) (second.before (moment a) left first.later since);
    now = second.now;
    before = λ t left earlier since.
        ⊎_elim (λ old. first.before t left earlier old) (λ fits. inr fits)
        (second.before t left (let one = first.later in omega (arith, one, earlier)) since);
  }

-- ---- the same image

-- the image and the number are the same
abbrev pub IsSameImage : Standing → Standing → Type 0
IsSameImage s before = (s.image ≡ before.image) × (s.number ≡ before.number)

stands_at : (image same : Image) (number count : ℕ) → image ≡ same → number ≡ count → (left : Option Found)
    → StandsFor image number left → StandsFor same count left
stands_at image same number count image_is number_is left stands =
    subst (λ (i : Image). StandsFor i count left) image_is (subst (λ (n : ℕ). StandsFor image n left) number_is stands)

pub stands_as : (o : Opened) (events : List Event) (image : Image) (number : ℕ)
    → image ≡ (after_events o events).image → number ≡ (after_events o events).number
    → (left : Option Found) → StandsFor image number left → StandsAfter o events left
stands_as o events image number image_is number_is = stands_at image _ number _ image_is number_is

pub stands_back : (o : Opened) (events : List Event) (image : Image) (number : ℕ)
    → image ≡ (after_events o events).image → number ≡ (after_events o events).number
    → (left : Option Found) → StandsAfter o events left → StandsFor image number left
stands_back o events image number image_is number_is = stands_at _ image _ number (sym image_is) (sym number_is)

-- an event that leaves the image leaves what stands
pub same_image_after : (o : Opened) (events : List Event) (event : Event)
    → ((s : Standing) → IsSameImage (after_event o s event) s) → (left : Option Found)
    → StandsAfter o events left → StandsAfter o (events ++ event ∷ []) left
same_image_after o events event stays =
    let one = after_one_more o events event in
    let here = stays (after_events o events) in
    stands_at _ _ _ _ (sym (ap (λ (s : Standing). s.image) one ∙ here.0))
    (sym (ap (λ (s : Standing). s.number) one ∙ here.1))

-- what a commit makes stands after it
pub placed_stands : (t : Told) (session : ℕ) (e : Entry) (effect : Effect)
    → effect.objects ≡ effect_of t.opened (standing t) e → (left : Option Found)
    → StandsFor (with_objects (standing t).image effect.objects) ((standing t).number + 1) left
    → StandsAfter t.opened (t.events ++ (session, Placed e) ∷ []) left
placed_stands t session e effect objects_are =
    let one = after_one_more t.opened t.events (session, Placed e) in
    stands_at _ _ _ _ (ap (with_objects (standing t).image) objects_are ∙ sym (ap (λ (s : Standing). s.image) one))
    (sym (ap (λ (s : Standing). s.number) one))

-- ---- one event more

module _ (o : Opened) (events : List Event) (event : Event) (left : Option Found) where
  flight_more : StandsInFlight o events left → StandsInFlight o (events ++ event ∷ []) left
  flight_more flies = record {
    before = flies.before;
    more = flies.more ++ event ∷ [];
    session = flies.session;
    number = flies.number;
    e = flies.e;
    split = ap (λ es. es ++ event ∷ []) flies.split
        ∙ append_assoc flies.before ((flies.session, Halted flies.number (Some flies.e)) ∷ flies.more) (event ∷ []);
    stands = flies.stands;
  }

  stood_more : HasStood o events left → HasStood o (events ++ event ∷ []) left
  stood_more stood = record {
    before = stood.before;
    more = stood.more ++ event ∷ [];
    split = ap (λ es. es ++ event ∷ []) stood.split ∙ append_assoc stood.before stood.more (event ∷ []);
    stands = stood.stands;
  }

  pub been_left_more : MayHaveBeenLeft o events left → MayHaveBeenLeft o (events ++ event ∷ []) left
  been_left_more (inl stood) = inl (stood_more stood)
  been_left_more (inr flies) = inr (flight_more flies)

  pub still_may_be_left : ((left : Option Found) → StandsAfter o events left
      → StandsAfter o (events ++ event ∷ []) left)
      → MayBeLeft o events left → MayBeLeft o (events ++ event ∷ []) left
  still_may_be_left same (inl stands) = inl (same left stands)
  still_may_be_left same (inr flies) = inr (flight_more flies)

-- what stands has stood
pub stands_stood : (o : Opened) (events : List Event) (left : Option Found) → StandsAfter o events left
    → MayHaveBeenLeft o events left
stands_stood o events left stands =
    inl (record { before = events; more = []; split = sym (append-nil events); stands = stands })

pub been_left : (o : Opened) (events : List Event) (left : Option Found) → MayBeLeft o events left
    → MayHaveBeenLeft o events left
been_left o events left (inl stands) = stands_stood o events left stands
been_left o events left (inr flies) = inr flies

-- the commit that was to be stored when the disk failed
pub flies_next : (t : Told) (session number : ℕ) (e : Entry) (left : Option Found)
    → StandsAfter t.opened (t.events ++ (session, Placed e) ∷ []) left
    → StandsInFlight t.opened (t.events ++ (session, Halted number (Some e)) ∷ []) left
flies_next t session number e left stands = record {
  before = t.events;
  more = [];
  session = session;
  number = number;
  e = e;
  split = refl;
  stands = stands;
}

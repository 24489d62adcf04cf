-- What an object is seen as, by what two images have at its name.
use Rattle.std.proofs.Common.{◌≡◌, ◌∙◌, refl, sym, ap, Bool, true, false, cond, Option, Some, None, option_map, is_some}
use Rattle.std.specs.Option.{option_or}
use Rattle.std.proofs.lemmas.Bool.{false≢true}
use Rattle.gem_object.specs.Kinds.{is_shared}
use Rattle.gem_object.specs.declared.body.Body.{Body}
use Rattle.gem_object.specs.declared.body.Body.TheVariants.{Plain, Bytes, Dict, Class, Segment, User, Counter, Bag, RcDict, Queue}
use Rattle.gem_world.specs.gem_image.Image.{Contents}
use Rattle.gem_world.specs.World.{as_of, are_shared}
use Rattle.object_programs.specs.Fixed.{BodyKind, PlainKind, BytesKind, DictKind, ClassKind, SegmentKind, UserKind, CounterKind, BagKind, RcDictKind, QueueKind, body_kind, Fixed, fixed_of}

shared_kind : BodyKind → Bool
shared_kind CounterKind = true
shared_kind BagKind = true
shared_kind RcDictKind = true
shared_kind QueueKind = true
shared_kind PlainKind = false
shared_kind BytesKind = false
shared_kind DictKind = false
shared_kind ClassKind = false
shared_kind SegmentKind = false
shared_kind UserKind = false

by_kind : (body : Body) → is_shared body ≡ shared_kind (body_kind body)
unfolding shared_kind
by_kind (Plain values) = refl
by_kind (Bytes bytes) = refl
by_kind (Dict pairs) = refl
by_kind (Class class) = refl
by_kind (Segment rights) = refl
by_kind (User user) = refl
by_kind (Counter counter) = refl
by_kind (Bag pairs) = refl
by_kind (RcDict pairs) = refl
by_kind (Queue queue) = refl

shared_same : (object found : Contents) → fixed_of found ≡ fixed_of object → is_shared found.body ≡ is_shared object.body
shared_same object found same = by_kind found.body
    ∙ (ap (λ (fixed : Fixed). shared_kind fixed.kind) same ∙ sym (by_kind object.body))

-- the other place has an object of the same fixed part where this one has one
abbrev pub StaysAt : Option Contents → Option Contents → Type 0
StaysAt here there = (object : Contents) → here ≡ Some object → option_map fixed_of there ≡ Some (fixed_of object)

pub some_there : (there : Option Contents) (fixed : Fixed) → option_map fixed_of there ≡ Some fixed
    → (object : Contents) × (there ≡ Some object) × (fixed_of object ≡ fixed)
some_there None fixed is = absurd (false≢true (ap is_some is))
some_there (Some object) fixed is = (object, refl, cc)

private_same : (here there viewed : Option Contents) → StaysAt here there → are_shared here viewed ≡ true
    → (as_of there viewed ≡ as_of here viewed) × (are_shared there viewed ≡ are_shared here viewed)
private_same None there None stays shared = absurd (false≢true shared)
private_same None there (Some viewed) stays shared = absurd (false≢true shared)
private_same (Some object) there None stays shared = absurd (false≢true shared)
private_same (Some object) there (Some viewed) stays shared =
    let found = some_there there (fixed_of object) (stays object refl) in
    let same = shared_same object found.0 found.2 in (
      ap (λ place. as_of place (Some viewed)) found.1
          ∙ (ap (λ b. Some (cond b viewed found.0)) (same ∙ shared)
          ∙ sym (ap (λ b. Some (cond b viewed object)) shared)),
      ap (λ place. are_shared place (Some viewed)) found.1 ∙ same,
    )

chosen : (shared : Bool) (viewed found object : Contents) → fixed_of found ≡ fixed_of object
    → fixed_of (cond shared viewed found) ≡ fixed_of (cond shared viewed object)
chosen true viewed found object same = refl
chosen false viewed found object same = same

known_stays : (here there viewed : Option Contents) → StaysAt here there → (fixed : Fixed)
    → option_map fixed_of (as_of here viewed) ≡ Some fixed → option_map fixed_of (as_of there viewed) ≡ Some fixed
known_stays None there viewed stays fixed is = absurd (false≢true (ap is_some is))
known_stays (Some object) there None stays fixed is =
    let found = some_there there (fixed_of object) (stays object refl) in
    ap (λ place. option_map fixed_of (as_of place None)) found.1 ∙ (ap Some found.2 ∙ is)
known_stays (Some object) there (Some viewed) stays fixed is =
    let found = some_there there (fixed_of object) (stays object refl) in
    let same = shared_same object found.0 found.2 in
    ap (λ place. option_map fixed_of (as_of place (Some viewed))) found.1
    ∙ (ap (λ b. Some (fixed_of (cond b viewed found.0))) same
    ∙ (ap Some (chosen (is_shared object.body) viewed found.0 object found.2) ∙ is))

-- a known fixed part is the same at the other place
pub fixed_stays : (written here there viewed : Option Contents) → StaysAt here there → (fixed : Fixed)
    → option_map fixed_of (option_or written (as_of here viewed)) ≡ Some fixed
    → option_map fixed_of (option_or written (as_of there viewed)) ≡ Some fixed
fixed_stays None here there viewed stays fixed is = known_stays here there viewed stays fixed is
fixed_stays (Some object) here there viewed stays fixed is = is

-- what is seen, and whether it is private, where a name that isn't private has the same at both places
pub seen_same : (made : Bool) (written here there viewed : Option Contents)
    → (made ≡ true → is_some written ≡ true) → StaysAt here there
    → (cond made true (are_shared here viewed) ≡ false → there ≡ here)
    → (option_or written (as_of there viewed) ≡ option_or written (as_of here viewed))
    × (cond made true (are_shared there viewed) ≡ cond made true (are_shared here viewed))
seen_same true None here there viewed owned stays apart = absurd (false≢true (owned refl))
seen_same true (Some object) here there viewed owned stays apart = (refl, refl)
seen_same false written here there viewed owned stays apart = by (are_shared here viewed) refl
  where
    by : (shared : Bool) → are_shared here viewed ≡ shared
        → (option_or written (as_of there viewed) ≡ option_or written (as_of here viewed))
        × (are_shared there viewed ≡ are_shared here viewed)
    by true is =
        let both = private_same here there viewed stays is in
        (ap (option_or written) both.0, both.1)
    by false is =
        let same = apart is in
        (ap (λ place. option_or written (as_of place viewed)) same, ap (λ place. are_shared place viewed) same)

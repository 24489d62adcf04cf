-- What stays in an image and in those after it: fixed parts, and users.
use Rattle.std.proofs.Common.{◌≡◌, ℕ, Option, Some, None, is_some, IsSome, option_map, refl, sym, ap, ◌∙◌}
use Rattle.std.specs.Option.{option_and_then}
use Rattle.std.proofs.lemmas.Bool.{false≢true}
use Rattle.gem_meaning.specs.gem_object.declared.body.Body.{Body}
use Rattle.gem_meaning.specs.gem_object.declared.body.Body.TheVariants.{Plain, Bytes, Dict, Class, Segment, User, Counter, Bag, RcDict, Queue}
use Rattle.gem_meaning.specs.gem_image.Image.{Image, Contents, objects_in}
use Rattle.gem_meaning.specs.gem_sound.Parts.{user_of, user_at}
use Rattle.gem_meaning.specs.object_programs.Fixed.{body_kind, Fixed, fixed_of}
use Rattle.gem_meaning.specs.object_programs.Guard.{is_user}
use Rattle.gem_meaning.specs.object_programs.Laws.{Stays}
use Rattle.gem_meaning.proofs.object_programs_lemmas.Bases.{some_there}

pub stays_itself : (image : Image) → Stays image image
stays_itself image name object there = ap (option_map fixed_of) there

pub stays_along : (first second third : Image) → Stays first second → Stays second third
    → Stays first third
stays_along first second third one two name object there =
    let found = some_there (objects_in second name) (fixed_of object) (one name object there) in
    two name found.0 found.1 ∙ ap Some found.2

-- what an image lacks those before it lack
pub absent_before : (first second : Image) (name : ℕ) → Stays first second
    → objects_in second name ≡ None → objects_in first name ≡ None
absent_before first second name stays none = by (objects_in first name) refl
  where
    by : (found : Option Contents) → objects_in first name ≡ found → found ≡ None
    by None there = refl
    by (Some object) there = absurd (false≢true
        (ap is_some (sym (ap (option_map fixed_of) none) ∙ stays name object there)))

user_by_kind : (body : Body) → is_some (user_of body) ≡ is_user (body_kind body)
user_by_kind (Plain values) = refl
user_by_kind (Bytes bytes) = refl
user_by_kind (Dict pairs) = refl
user_by_kind (Class class) = refl
user_by_kind (Segment rights) = refl
user_by_kind (User user) = refl
user_by_kind (Counter counter) = refl
user_by_kind (Bag pairs) = refl
user_by_kind (RcDict pairs) = refl
user_by_kind (Queue queue) = refl

user_by : (here there : Option Contents)
    → ((object : Contents) → here ≡ Some object → option_map fixed_of there ≡ Some (fixed_of object))
    → IsSome (option_and_then (λ (object : Contents). user_of object.body) here)
    → IsSome (option_and_then (λ (object : Contents). user_of object.body) there)
user_by None there stays some = absurd (false≢true some)
user_by (Some object) there stays some =
    let found = some_there there (fixed_of object) (stays object refl) in
    ap (λ (o : Option Contents). is_some (option_and_then (λ (x : Contents). user_of x.body) o)) found.1
    ∙ (user_by_kind found.0.body
    ∙ (ap (λ (fixed : Fixed). is_user fixed.kind) found.2
    ∙ (sym (user_by_kind object.body) ∙ some)))

-- a user stays one
pub user_stays : (first second : Image) (user : ℕ) → Stays first second
    → IsSome (user_at (objects_in first) user) → IsSome (user_at (objects_in second) user)
user_stays first second user stays some =
    user_by (objects_in first user) (objects_in second user) (stays user) some

-- Sound objects stay sound at every call of the parts of a state.
use Rattle.std.proofs.Common.{◌≡◌, refl, sym, subst, ℕ, true, map, List, Option, Some, None, is_some, Result}
use Rattle.std.proofs.lemmas.Bool.{false≢true}
use Rattle.gem_object.specs.declared.body.Body.{Body}
use Rattle.gem_object.specs.declared.object.Object.{Object}
use Rattle.gem_image.specs.Image.{Contents, contents_of}
use Rattle.running_objects.specs.Seen.{Seen, object_at, IsSoundState}
use Rattle.running_objects.specs.Acted.{Edited, Made}
use Rattle.running_objects.specs.declared.stop.Stop.{Stop}

-- after an edit of an object that is there
edited_by : (name : ℕ) (edit : Body → Body) (x y : Seen) (result : Result (Unit {0}) Stop) (found : Option Contents)
    → object_at name x ≡ found → is_some found ≡ true → IsSoundState x → Edited name edit x result y → IsSoundState y
edited_by name edit x y result None there some sound edited = absurd (false≢true some)
edited_by name edit x y result (Some object) there some sound edited = (edited object there).keeps.sound sound

pub edited_sound : (name : ℕ) (edit : Body → Body) (x y : Seen) (result : Result (Unit {0}) Stop)
    → is_some (object_at name x) ≡ true → IsSoundState x → Edited name edit x result y → IsSoundState y
edited_sound name edit x y result some sound edited = edited_by name edit x y result (object_at name x) refl some sound edited

-- after an edit of an object, where all stays if there is none
edited_or_same_by : (name : ℕ) (edit : Body → Body) (x y : Seen) (result : Result (Unit {0}) Stop)
    (found : Option Contents)
    → object_at name x ≡ found → IsSoundState x → Edited name edit x result y → (object_at name x ≡ None → y ≡ x)
    → IsSoundState y
edited_or_same_by name edit x y result None there sound edited absent = subst IsSoundState (sym (absent there)) sound
edited_or_same_by name edit x y result (Some object) there sound edited absent = (edited object there).keeps.sound sound

pub edited_or_same : (name : ℕ) (edit : Body → Body) (x y : Seen) (result : Result (Unit {0}) Stop)
    → IsSoundState x → Edited name edit x result y → (object_at name x ≡ None → y ≡ x) → IsSoundState y
edited_or_same name edit x y result = edited_or_same_by name edit x y result (object_at name x) refl

-- after objects were made
pub made_sound : (x y : Seen) (result : Result ℕ Stop) (objects : List Object)
    → IsSoundState x → Made objects x result y → IsSoundState y
made_sound x y result objects sound made = (made (λ name. map contents_of objects) refl).keeps.sound sound

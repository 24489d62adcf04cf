-- What is private, and what an object is before it is changed.
use Rattle.std.proofs.Common.{◌≡◌, refl, ℕ, true, false, Some, None, Option}
use Rattle.std.specs.Ordering.{nat_cmp}
use Rattle.std.specs.FinMap.{get-empty}
use Rattle.std.proofs.lemmas.Bool.{cond_both}
use Rattle.gem_image.specs.gem_object.Kinds.{is_shared}
use Rattle.gem_image.specs.Image.{Contents, objects_in}
use Rattle.gem_world.specs.World.{Setting, World, untouched, as_of, shown, are_shared, is_made, is_private}

apart : (object : Contents) (viewed : Option Contents) → is_shared object.body ≡ false
    → are_shared (Some object) viewed ≡ false
apart object None ordinary = refl
apart object (Some viewed) ordinary = ordinary

of_place : (object : Contents) (viewed : Option Contents) → is_shared object.body ≡ false
    → as_of (Some object) viewed ≡ Some object
of_place object None ordinary = refl
of_place object (Some viewed) ordinary = rw ordinary refl

pub private_made : (name : ℕ) (setting : Setting) (world : World)
    → is_made name setting world ≡ true → is_private name setting world ≡ true
unfolding is_private
private_made name setting world made = rw made refl

pub private_shared : (name : ℕ) (object viewed : Contents) (setting : Setting) (world : World)
    → objects_in setting.place name ≡ Some object → objects_in setting.view name ≡ Some viewed
    → is_shared object.body ≡ true → is_private name setting world ≡ true
unfolding is_private
private_shared name object viewed setting world place view shared =
    cond_both (is_made name setting world) true (are_shared (objects_in setting.place name) (objects_in setting.view name))
    (λ answer. answer ≡ true) (λ _. refl) (λ _. rw (place, view) shared)

pub private_ordinary : (name : ℕ) (object : Contents) (setting : Setting) (world : World)
    → objects_in setting.place name ≡ Some object → is_shared object.body ≡ false
    → is_made name setting world ≡ false → is_private name setting world ≡ false
unfolding is_private
private_ordinary name object setting world place ordinary made =
    rw (made, place) (apart object (objects_in setting.view name) ordinary)

pub private_nothing : (name : ℕ) (setting : Setting) (world : World) → objects_in setting.place name ≡ None
    → is_made name setting world ≡ false → is_private name setting world ≡ false
unfolding is_private
private_nothing name setting world place made = rw (made, place) refl

pub read_ordinary : (name : ℕ) (object : Contents) (setting : Setting)
    → objects_in setting.place name ≡ Some object → is_shared object.body ≡ false
    → shown name setting (untouched setting.first) ≡ Some object
read_ordinary name object setting place ordinary =
    rw (get-empty nat_cmp name, place) (of_place object (objects_in setting.view name) ordinary)

pub read_shared : (name : ℕ) (object viewed : Contents) (setting : Setting)
    → objects_in setting.place name ≡ Some object → objects_in setting.view name ≡ Some viewed
    → is_shared object.body ≡ true → shown name setting (untouched setting.first) ≡ Some viewed
read_shared name object viewed setting place view shared =
    rw (get-empty nat_cmp name, place, view, shared) refl

pub read_later : (name : ℕ) (object : Contents) (setting : Setting)
    → objects_in setting.place name ≡ Some object → objects_in setting.view name ≡ None
    → shown name setting (untouched setting.first) ≡ Some object
read_later name object setting place view = rw (get-empty nat_cmp name, place, view) refl

pub read_nothing : (name : ℕ) (setting : Setting)
    → objects_in setting.place name ≡ None → shown name setting (untouched setting.first) ≡ None
read_nothing name setting place = rw (get-empty nat_cmp name, place) refl

-- What is seen after a change, and before the first one.
use Rattle.std.proofs.Common.{◌≡◌, ◌≢◌, ◌∙◌, ap, refl, ℕ, Some, None, Option}
use Rattle.std.proofs.Math.Path.{fun_ext}
use Rattle.std.specs.Option.{option_or}
use Rattle.std.specs.Ordering.{nat_cmp}
use Rattle.std.specs.FinMap.{get-empty}
use Rattle.std.proofs.lemmas.Bool.{cond_both}
use Rattle.gem_image.proofs.radix_pages_lemmas.Tables.{get-insert_same, get-insert_other}
use Rattle.gem_image.specs.gem_object.Kinds.{is_shared}
use Rattle.gem_image.specs.Image.{Image, Contents, Objects, objects_in}
use Rattle.gem_image.specs.Rights.{right_on}
use Rattle.gem_world.specs.World.{Setting, World, untouched, as_of, before_changes, shown, next_name}
use Rattle.gem_world.specs.Access.{right_at}
use Rattle.gem_world.specs.Changes.{put, make}

pub as_of_same : (there : Option Contents) → as_of there there ≡ there
as_of_same None = refl
as_of_same (Some object) = cond_both (is_shared object.body) object object
    (λ some. Some some ≡ Some object) (λ _. refl) (λ _. refl)

module _ (setting : Setting) (world : World) where
  pub put_here : (name : ℕ) (object : Contents) → shown name setting (put name object world) ≡ Some object
  unfolding put
  put_here name object = ap (λ found. option_or found (before_changes name setting))
      (get-insert_same world.changes name object name refl)

  pub put_elsewhere : (name other : ℕ) (object : Contents) → other ≢ name
      → shown other setting (put name object world) ≡ shown other setting world
  unfolding put
  put_elsewhere name other object apart = ap (λ found. option_or found (before_changes other setting))
      (get-insert_other world.changes name object other apart)

  pub made_here : (object : Contents)
      → shown (next_name setting world) setting (make object setting world) ≡ Some object
  unfolding make put
  made_here object = put_here (next_name setting world) object

  pub made_elsewhere : (other : ℕ) (object : Contents) → other ≢ next_name setting world
      → shown other setting (make object setting world) ≡ shown other setting world
  unfolding make put
  made_elsewhere other object apart = put_elsewhere (next_name setting world) other object apart

module _ (image : Image) (user serial first : ℕ) where
  abbrev pub at_first : Setting
  at_first = record { place = image; view = image; user = user; serial = serial; first = first }

  shown_first : (name : ℕ) → shown name at_first (untouched first) ≡ objects_in image name
  shown_first name = ap (λ found. option_or found (before_changes name at_first)) (get-empty nat_cmp name)
      ∙ as_of_same (objects_in image name)

  pub right_first : (name : ℕ)
      → right_at name at_first (untouched first) ≡ right_on (objects_in image) user name
  right_first name = ap (λ (objects : Objects). right_on objects user name) (fun_ext shown_first)

-- What an access leaves.
use Rattle.std.proofs.Common.{◌≡◌, ◌∙◌, ap, refl, sym, subst, inl, inr, None, ℕ, true, false, Some, Option}
use Rattle.std.proofs.lemmas.Bool.{cond_both, cases_eq}
use Rattle.gem_image.proofs.radix_pages_lemmas.Tables.{get-insert_same}
use Rattle.gem_image.specs.gem_object.Kinds.{is_shared}
use Rattle.gem_image.specs.Image.{Contents}
use Rattle.gem_world.specs.World.{Setting, World, shown, is_drawn, is_made, touch}
use Rattle.gem_world.specs.Access.{Access, a_read, a_write, IsWritten, with_touches, is_allowed, accessed, after_allowed, touches_of}
use Rattle.gem_world.specs.Changes.{put}
use Rattle.gem_world.proofs.Touches.{same_next}
use Rattle.gem_world.proofs.Shown.{put_here, put_elsewhere}

pub refused : (access : Access) (name : ℕ) (setting : Setting) (world : World)
    → is_allowed access name setting world ≡ false
    → accessed access name setting world ≡ with_touches name setting world
unfolding accessed
refused access name setting world shut = rw shut refl

pub read : (name : ℕ) (setting : Setting) (world : World)
    → accessed a_read name setting world ≡ with_touches name setting world
unfolding accessed
read name setting world = cond_both (is_allowed a_read name setting world)
    (with_touches name setting world) (with_touches name setting world)
    (λ after. after ≡ with_touches name setting world) (λ _. refl) (λ _. refl)

module _ (name : ℕ) (object : Contents) (setting : Setting) (world : World)
    (apart : is_shared object.body ≡ false) where
  put_is_written : is_drawn name setting world ≡ false → IsWritten name setting (put name object world)
  unfolding put is_made
  put_is_written free = record {
    object = object;
    there = get-insert_same world.changes name object name refl;
    old = rw (free, apart) refl;
  }

  is_put : is_allowed a_write name setting world ≡ true → shown name setting world ≡ Some object
      → accessed a_write name setting world ≡ put name object (with_touches name setting world)
  unfolding accessed
  is_put allowed there = rw (allowed, there, apart) refl

pub written : (name : ℕ) (object : Contents) (setting : Setting) (world : World)
    → is_allowed a_write name setting world ≡ true → shown name setting world ≡ Some object
    → is_shared object.body ≡ false → is_drawn name setting world ≡ false
    → IsWritten name setting (accessed a_write name setting world)
written name object setting world allowed there apart free =
    let drawn : is_drawn name setting (with_touches name setting world) ≡ false
    = ap (λ next. is_drawn name setting (record world { next = next })) (same_next name setting world) ∙ free in
    subst (IsWritten name setting) (sym (is_put name object setting world apart allowed there))
    (put_is_written name object setting (with_touches name setting world) apart drawn)

-- a touch changes nothing that is shown
touched_shows : (name other : ℕ) (setting : Setting) (world : World)
    → shown other setting (touch name setting world) ≡ shown other setting world
unfolding touch
touched_shows name other setting world = refl

touches_show : (name other : ℕ) (there : Option Contents) (setting : Setting) (world : World)
    → shown other setting (touches_of name there setting world) ≡ shown other setting world
unfolding touch
touches_show name other None setting world = refl
touches_show name other (Some object) setting world = refl

-- an object that is put as it is changes nothing that is shown
put_shows : (name other : ℕ) (object : Contents) (setting : Setting) (world : World)
    → shown name setting world ≡ Some object
    → shown other setting (put name object world) ≡ shown other setting world
put_shows name other object setting world there = elim (cases_eq other name) [
  | inl same ↦ ap (λ n. shown n setting (put name object world)) same
      ∙ (put_here setting world name object ∙ sym (ap (λ n. shown n setting world) same ∙ there))
  | inr apart ↦ put_elsewhere setting world name other object apart
]

held_shows : (access : Access) (name other : ℕ) (there : Option Contents) (setting : Setting)
    (world : World) → shown name setting world ≡ there
    → shown other setting (after_allowed access name there world) ≡ shown other setting world
held_shows a_read name other there setting world is = refl
held_shows a_write name other None setting world is = refl
held_shows a_write name other (Some object) setting world is =
    cond_both (is_shared object.body) world (put name object world)
    (λ after. shown other setting after ≡ shown other setting world) (λ _. refl)
    (λ _. put_shows name other object setting world is)

pub access_shows : (access : Access) (name other : ℕ) (setting : Setting) (world : World)
    → shown other setting (accessed access name setting world) ≡ shown other setting world
unfolding accessed with_touches
access_shows access name other setting world =
    let there = shown name setting world in
    let asked = touches_of name there setting world in
    let same : (n : ℕ) → shown n setting asked ≡ shown n setting world
    = λ n. touches_show name n there setting world in
    cond_both (is_allowed access name setting world) (after_allowed access name there asked) asked
    (λ after. shown other setting after ≡ shown other setting world)
    (λ _. held_shows access name other there setting asked (same name) ∙ same other)
    (λ _. same other)

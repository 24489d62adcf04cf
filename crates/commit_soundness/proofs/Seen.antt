-- Names at which an object is seen, and what a sound object that is seen refers to.
use Rattle.std.proofs.Common.{◌≡◌, ◌∙◌, refl, sym, ap, ℕ, true, Option, Some, None, is_some, option_map}
use Rattle.std.specs.List.{AllByRecursion}
use Rattle.std.proofs.lemmas.Bool.{false≢true}
use Rattle.std.proofs.lemmas.List.Elements.{recursion_from_All}
use Rattle.commit_check.specs.gem_object.Spelling.{IsSpelledBody}
use Rattle.commit_check.specs.gem_image.Image.{Contents}
use Rattle.commit_check.specs.gem_world.World.{Setting, World, shown, shown_objects}
use Rattle.gem_meaning.specs.gem_sound.Sound.{names_in}
use Rattle.gem_meaning.specs.object_programs.Fixed.{fixed_of, fixed_by}
use Rattle.gem_meaning.specs.object_programs.Laws.{KeepsParts, AreSound}
use Rattle.gem_meaning.proofs.object_programs_lemmas.Rules.{fits_here, keeps_references, keeps_spelling}

pub mapped_some : {X Y : Type 0} (f : X → Y) (found : Option X) → is_some (option_map f found) ≡ is_some found
mapped_some f None = refl
mapped_some f (Some x) = refl

module _ (setting : Setting) where
  abbrev pub IsSeen : World → ℕ → Type 0
  IsSeen world name = is_some (shown name setting world) ≡ true

  -- what is seen stays, where fixed parts stay
  pub seen_more : (world later : World) → KeepsParts (fixed_by setting world) (fixed_by setting later)
      → (name : ℕ) → IsSeen world name → IsSeen later name
  seen_more world later keeps name seen = by (shown name setting world) refl seen
    where
      by : (found : Option Contents) → shown name setting world ≡ found → is_some found ≡ true → IsSeen later name
      by None here some = absurd (false≢true some)
      by (Some object) here some = sym (mapped_some fixed_of (shown name setting later))
          ∙ ap is_some (keeps name (fixed_of object) (ap (option_map fixed_of) here))

  module _ (world : World) (sound : AreSound setting world) (name : ℕ) (object : Contents)
      (here : shown name setting world ≡ Some object) where
    -- a sound object refers to what is seen
    pub refers_to_seen : AllByRecursion (IsSeen world) (names_in object)
    refers_to_seen = recursion_from_All (IsSeen world) (names_in object)
        (keeps_references (shown_objects setting world) setting world (λ other. refl) name object here
        (fits_here (shown_objects setting world) setting world (λ other. refl) name object sound here)).there

    -- and its body can be stored
    pub is_spelled : IsSpelledBody object.body
    is_spelled = (keeps_spelling (shown_objects setting world) setting world (λ other. refl) name object here
        (fits_here (shown_objects setting world) setting world (λ other. refl) name object sound here) sound).body

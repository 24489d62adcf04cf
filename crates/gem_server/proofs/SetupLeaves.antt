-- What the set-up leaves.
use Rattle.std.proofs.Common.{◌≡◌, ℕ, pos, ◌+◌, Bool, List, [], ◌∷◌, sym, ap, ap₂, subst, ◌∙◌}
use Rattle.gem_meaning.specs.gem_object.declared.object.Object.{Object}
use Rattle.gem_meaning.specs.gem_image.Image.{Image, with_objects}
use Rattle.gem_meaning.specs.gem_record.Stored.{Stored}
use Rattle.gem_meaning.specs.gem_replies.declared.reply.RunBook.{RunBook}
use Rattle.gem_meaning.specs.shell_words.ScriptGrammar.{ReadsScript}
use Rattle.gem_meaning.specs.Opened.{Opened}
use Rattle.gem_meaning.specs.Effect.{effect_at}
use Rattle.gem_meaning.specs.Events.{Event, Told, after_events, effect_of, standing}
use Rattle.gem_meaning.specs.After.{stored_after, log_after}
use Rattle.gem_meaning.specs.Legal.{IsLegal, AlwaysServed}
use Rattle.kernel_image.specs.Objects.{kernel_image}
use Rattle.load_maker.specs.Scripts.{setup_text}
use Rattle.gem_server.specs.Rounds.{IsLoaded}
use Rattle.gem_server.proofs.SetupRun.{setup_effect, effect_is}
use Rattle.gem_server.proofs.SetupSays.{setup_opened, setup_entry, the_event, at_place_is, size_is}
use Rattle.gem_server.proofs.SetupOnce.{once, opened_is}
use Rattle.gem_server.proofs.LoadImages.{loaded_first}

module _ (stored : Stored) (counts : Bool) where
  abbrev o : Opened
  o = setup_opened stored counts

  effect_there : effect_of o (after_events o []) setup_entry ≡ setup_effect
  unfolding effect_of after_events
  effect_there = ap (effect_at kernel_image 1) (at_place_is stored counts) ∙ effect_is setup_entry

  image_left : (after_events o (the_event ∷ [])).image ≡ with_objects kernel_image setup_effect
  unfolding after_events
  image_left = ap (λ (objects : List (ℕ × Object)). with_objects kernel_image objects) effect_there

  log_left : log_after o (the_event ∷ []) ≡ stored.log_length + 836
  unfolding stored_after after_events
  log_left = ap (λ (size : ℕ). stored.log_length + size) (size_is stored counts)

-- The counter is at 0, the bag is empty, and so long is the log.
pub record IsLeft (t : Told) : Type 0 where
  pub loaded : IsLoaded (standing t).image (pos 0) []
  pub log : log_after t.opened t.events ≡ 837

pub setup_leaves : (t : Told) (book : RunBook) → IsLegal t book → AlwaysServed book → ReadsScript setup_text t.opened.script
    → t.opened.image ≡ kernel_image → t.opened.number ≡ 0 → t.opened.stored.log_length ≡ 1 → IsLeft t
setup_leaves t book legal served reads image number begins =
    let stored : Stored = t.opened.stored in
    let counts : Bool = t.opened.counts_pages in
    let opened : t.opened ≡ setup_opened stored counts = opened_is t.opened reads image number in
    let events : t.events ≡ the_event ∷ [] = once stored counts begins t.events book
    (subst (λ (o : Opened). IsLegal (record { opened = o; events = t.events }) book) opened legal) served in
    record {
      loaded = subst (λ (i : Image). IsLoaded i (pos 0) [])
          (sym (ap₂ (λ (o : Opened) (es : List Event). (after_events o es).image) opened events ∙ image_left stored counts)) loaded_first;
      log = ap₂ (λ (o : Opened) (es : List Event). log_after o es) opened events ∙ log_left stored counts
          ∙ ap (λ (n : ℕ). n + 836) begins;
    }

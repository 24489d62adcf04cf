-- A body that comes of an update has no methods, so an object may have it under any name.
use Rattle.std.proofs.Common.{◌≡◌, ℕ, true, Option, Some, None, refl, subst}
use Rattle.std.specs.Option.{option_map, option_and_then}
use Rattle.std.proofs.lemmas.Option.{none-some, same_Some}
use Rattle.gem_object.specs.declared.body.Body.{Body}
use Rattle.gem_object.specs.declared.body.Body.TheVariants as body
use Rattle.gem_update.specs.Update.{updated}
use Rattle.gem_update.specs.declared.update.Update.{Update}
use Rattle.gem_update.specs.declared.update.Update.TheVariants as change
use Rattle.gem_image.specs.Image.{Contents}
use Rattle.object_programs.specs.Methods.{methods_fit}
use Rattle.running_objects.specs.Seen.{Seen, object_at}
use Rattle.plain_state.specs.Writes.{body_after}

module _ (name : ℕ) where
  made_by : {A : Type 0} (make : A → Body) → ((a : A) → methods_fit name (make a) ≡ true)
      → (found : Option A) (after : Body) → option_map make found ≡ Some after → methods_fit name after ≡ true
  made_by make fits None after is = absurd (none-some after is)
  made_by make fits (Some a) after is = subst (λ (b : Body). methods_fit name b ≡ true) (same_Some (make a) after is) (fits a)

  updated_fits : (update : Update) (old after : Body) → updated update old ≡ Some after → methods_fit name after ≡ true
  updated_fits (change.Counter by) (body.Counter counter) after is = made_by body.Counter (λ _. refl) _ after is
  updated_fits (change.Bag update) (body.Bag pairs) after is = made_by body.Bag (λ _. refl) _ after is
  updated_fits (change.RcDict update) (body.RcDict pairs) after is = made_by body.RcDict (λ _. refl) _ after is
  updated_fits (change.Queue update) (body.Queue queue) after is = made_by body.Queue (λ _. refl) _ after is
  updated_fits _ _ after is = absurd (none-some after is)

  there_fits : (update : Update) (found : Option Contents) (after : Body)
      → option_and_then (λ (old : Contents). updated update old.body) found ≡ Some after → methods_fit name after ≡ true
  there_fits update None after is = absurd (none-some after is)
  there_fits update (Some old) after is = updated_fits update old.body after is

  pub after_fits : (update : Update) (seen : Seen) (after : Body) → body_after name update seen ≡ Some after
      → methods_fit name after ≡ true
  after_fits update seen after is = there_fits update (object_at name seen) after is

-- What an update that is taken changes of an object's body.
use Rattle.std.proofs.Common.{◌≡◌, refl, sym, ap, subst, Option, Some, None}
use Rattle.std.specs.Option.{unwrap_or}
use Rattle.std.proofs.lemmas.Bool.{false≢true}
use Rattle.gem_object.specs.declared.body.Body.{Body}
use Rattle.gem_update.specs.Update.{updated}
use Rattle.gem_update.specs.declared.update.Update.{Update}
use Rattle.gem_image.specs.Image.{Contents}
use Rattle.body_growth.specs.declared.change.Change.{Change}
use Rattle.body_growth.specs.Changes.{Changes, Tells}
use Rattle.plain_state.specs.Updates.{with_update}

pub changes_updated : (change : Change) (update : Update) (old new : Contents) → Tells (Some change) old.body (updated update old.body)
    → new ≡ with_update update old → Changes change old.body new.body
changes_updated change update old new tells is = by (updated update old.body) tells (ap (λ (one : Contents). one.body) is)
  where
    by : (found : Option Body) → Tells (Some change) old.body found → new.body ≡ unwrap_or found old.body
        → Changes change old.body new.body
    by None tells same = absurd (false≢true (sym tells.taken))
    by (Some after) tells same =
        subst (λ (one : Body). Changes change old.body one) (sym same) (tells.changes change after refl refl)

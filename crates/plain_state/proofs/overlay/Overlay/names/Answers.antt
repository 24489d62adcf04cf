use Rattle.std.proofs.Common.{◌∙◌, ap}
use Rattle.std.proofs.lemmas.Result.{IfOk-weaker}
use Rattle.std.specs.FinMap.{keys}
use Rattle.gem_record.specs.RunNames.{ascending}
use Rattle.plain_state.proofs.Listing.{names_of_entries}
use Rattle.plain_state.proofs.overlay.Overlay.names.Goals as goal

pub returns : goal.returns
returns c = IfOk-weaker c.ascending_names.result _ _ (λ names is. is
    ∙ ap ascending (c.as_slice.ensures ∙ c.keys.ensures.rest)
    ∙ names_of_entries c.self.inside.entries.entries ∙ ap keys c.self.view_is) c.ascending_names.ensures

use Rattle.std.proofs.Common.{◌∙◌, ap, false}
use Rattle.std.proofs.lemmas.Result.{IfOk-weaker}
use Rattle.std.specs.FinMap.{keys}
use Rattle.plain_state.specs.declared.state.PlainState.TheInside.{Inside}
use Rattle.plain_state.specs.Lists.{all_chosen}
use Rattle.plain_state.proofs.Listing.{chosen_are}
use Rattle.plain_state.proofs.state.PlainState.written_objects.Goals as goal

pub returns : goal.returns
returns c =
    let x = c.self.inside.parts.seen in
    rw (← c.self.view_is) (IfOk-weaker c.choose.result _ _ (λ objects is. is
    ∙ ap (all_chosen false x) (c.deref.ensures.value ∙ c.in_ok-names.ensures ∙ ap keys c.changes.ensures
    ∙ ap (λ (s : Inside). keys s.parts.seen.world.changes) c.self-inside.view_is)
    ∙ chosen_are false x) c.choose.ensures)

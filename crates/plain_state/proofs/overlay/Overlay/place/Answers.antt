use Rattle.std.proofs.Common.{◌∙◌, sym, ap, nat_eq, is_some}
use Rattle.std.specs.Map.{lookup}
use Rattle.plain_state.proofs.AtHand.{some_mapped}
use Rattle.plain_state.proofs.Changes.{get_by_name}
use Rattle.plain_state.proofs.overlay.Overlay.place.Goals as goal

pub returns : goal.returns
returns c = rw (← c.self.view_is) (c.get_index_of.ensures.found
    ∙ sym (ap is_some (get_by_name c.self.inside.entries.entries c.args.number)
    ∙ some_mapped (lookup (nat_eq c.args.number) c.self.inside.entries.entries)))

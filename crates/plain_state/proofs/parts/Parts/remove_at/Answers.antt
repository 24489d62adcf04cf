use Rattle.std.proofs.Common.{◌∙◌, sym, ap}
use Rattle.gem_object.specs.Edits.{without_value_at}
use Rattle.plain_state.specs.Edit.{edited_by}
use Rattle.plain_state.specs.declared.edit.Edit.TheVariants.{RemoveAt}
use Rattle.plain_state.specs.Parts.{edited_in}
use Rattle.plain_state.proofs.Slots.{edited_as}
use Rattle.plain_state.proofs.Keys.{removal_done, no_removal}
use Rattle.plain_state.proofs.SlotPuts.{edited_absent}
use Rattle.plain_state.proofs.parts.Parts.remove_at.Goals as goal

pub returns-then-not-has_pairs-clause-edited : goal.returns-then-not-has_pairs-clause-edited
returns-then-not-has_pairs-clause-edited c = no_removal c.args.self.now.seen c.args.oid c.args.key.now c.requires
    (sym c.has_pairs.ensures ∙ c.if-not-has_pairs.true)

pub returns-clause-edited : goal.returns-clause-edited
returns-clause-edited c = edited_as c.args.oid (without_value_at c.args.key.now)
    (removal_done c.args.self.now.seen c.args.oid c.args.key.now c.requires
    (sym c.has_pairs.ensures ∙ c.if-not-has_pairs.false))
    (c.in_ok-change.ensures.edited
    ∙ ap (λ key. edited_in c.args.oid (edited_by (RemoveAt key)) c.args.self.now.seen) c.in_ok-key.ensures.cases)

pub returns-clause-absent : goal.returns-clause-absent
returns-clause-absent c = λ absent. c.in_ok-change.ensures.edited
    ∙ edited_absent c.args.self.now.seen c.args.oid (edited_by (RemoveAt c.in_ok-key.key)) absent

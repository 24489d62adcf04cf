use Rattle.std.proofs.Common.{◌∙◌, sym}
use Rattle.plain_state.proofs.SlotPuts.{put_within}
use Rattle.plain_state.proofs.parts.Parts.set_slot_within.Goals as goal

pub returns-clause-put : goal.returns-clause-put
returns-clause-put c = put_within c.args.self.now.seen c.args.oid c.args.at c.args.value c.requires _
    (sym c.may_enter.ensures ∙ c.if-not-may_enter.false) c.put_slot_within.result
    c.put_slot_within.ensures.put c.put_slot_within.ensures.takes

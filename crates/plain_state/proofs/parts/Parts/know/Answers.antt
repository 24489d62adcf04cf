use Rattle.std.proofs.Common.{◌∙◌, sym}
use Rattle.plain_state.proofs.Touched.{known_there, known_missing}
use Rattle.plain_state.proofs.parts.Parts.know.Goals as goal

pub returns-then-is_there : goal.returns-then-is_there
returns-then-is_there c = known_there c.args.self.now.seen c.args.oid (sym c.is_there.ensures ∙ c.if-is_there.true)

pub returns : goal.returns
returns c = known_missing (sym c.is_there.ensures ∙ c.if-is_there.false) c.in_ok-miss.ensures.missed

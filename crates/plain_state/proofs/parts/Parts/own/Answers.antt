use Rattle.std.proofs.Common.{◌∙◌, ap}
use Rattle.plain_state.specs.Parts.{touched}
use Rattle.plain_state.proofs.Touched.{owned_by}
use Rattle.plain_state.proofs.parts.Parts.own.Goals as goal

pub returns : goal.returns
returns c = owned_by (c.in_ok-touch.ensures.touched ∙ ap (λ user. touched user c.args.self.now.seen) c.user-user.ensures)

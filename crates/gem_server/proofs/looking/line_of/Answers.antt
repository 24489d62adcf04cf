use Rattle.std.proofs.lemmas.Result.{IfOk-weaker}
use Rattle.gem_server.proofs.looking.line_of.Goals as goal

pub returns : goal.returns
returns c = IfOk-weaker c.format.result _ _ (λ line is. is) c.format.ensures.ok

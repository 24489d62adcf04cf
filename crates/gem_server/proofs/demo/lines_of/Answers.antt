use Rattle.std.proofs.Common.{◌∙◌}
use Rattle.std.proofs.lemmas.Result.{IfOk-weaker}
use Rattle.gem_server.proofs.DemoLines.{lines_are}
use Rattle.gem_server.proofs.demo.lines_of.Goals as goal

pub returns : goal.returns
returns c =
    let same = lines_are c.args.load.seed c.args.load.sessions c.args.load.rounds c.load_commits-bag.result c.load_sum-counter.result
    c.load_commits-bag.ensures.is c.load_sum-counter.ensures in
    IfOk-weaker c.format.result _ _ (λ lines is. is ∙ same) c.format.ensures.ok

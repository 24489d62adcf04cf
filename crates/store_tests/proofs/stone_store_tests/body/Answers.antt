use Rattle.std.proofs.lemmas.Result.{IfOk-weaker}
use Rattle.gem_record.specs.declared.mode.Mode.TheVariants.{Full}
use Rattle.store_tests.proofs.stone_store_tests.body.Goals as goal

pub returns : goal.returns
returns c = IfOk-weaker c.body_of.result _ _ (λ body is. (Full, c.args.effect.now, is)) c.body_of.ensures

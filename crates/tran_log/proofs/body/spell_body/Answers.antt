use Rattle.std.proofs.Common.{rules}
use Rattle.body_codec.specs.Spelled.{four_bytes, eight_bytes}
use Rattle.tran_log.proofs.Bodies.{body_long}
use Rattle.tran_log.proofs.body.spell_body.Goals as goal

pub returns-clause-bytes : goal.returns-clause-bytes
unfolding four_bytes eight_bytes
returns-clause-bytes c = search rules

pub returns-clause-size : goal.returns-clause-size
returns-clause-size c = body_long c.args.number c.args.mode c.args.effect.now _ (returns-clause-bytes c)

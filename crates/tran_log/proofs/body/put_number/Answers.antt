use Rattle.std.proofs.Common.{rules}
use Rattle.body_codec.specs.Spelled.{eight_bytes}
use Rattle.tran_log.proofs.body.put_number.Goals as goal

pub returns : goal.returns
unfolding eight_bytes
returns c = search rules

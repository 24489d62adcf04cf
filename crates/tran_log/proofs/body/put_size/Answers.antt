use Rattle.std.proofs.Common.{rules}
use Rattle.body_codec.specs.Spelled.{four_bytes}
use Rattle.tran_log.proofs.body.put_size.Goals as goal

pub returns : goal.returns
unfolding four_bytes
returns c = search rules

use Rattle.std.proofs.Common.{refl}
use Rattle.body_codec.proofs.Given.{as_bytes}
use Rattle.tran_log.proofs.Fronts.{front_is}
use Rattle.tran_log.proofs.read.read_front.Goals as goal

pub returns-in-Ok-clause-record : goal.returns-in-Ok-clause-record
returns-in-Ok-clause-record c =
    front_is c.args.at c.args.last c.args.bytes.now c.in-Ok.found.0 c.in-Ok.found.1 _
    (as_bytes c.args.bytes.now c.type_inv.bytes) c.in-Ok.ensures.gives c.in-Ok.ensures.size refl refl

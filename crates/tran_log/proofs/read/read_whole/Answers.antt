use Rattle.std.proofs.Common.{ap, Err}
use Rattle.body_codec.proofs.Whole.{whole_read, more_read, none_whole}
use Rattle.tran_log.specs.Log.{whole}
use Rattle.tran_log.proofs.read.read_whole.Goals as goal

pub returns-in-Ok : goal.returns-in-Ok
returns-in-Ok c = ap (whole c.args.mode) (whole_read c.args.number c.args.bytes.now c.in-Ok.effect c.in-Ok.size
    c.in-Ok.ensures.read c.if-size-bytes.true)

pub returns-in-Ok-2 : goal.returns-in-Ok-2
returns-in-Ok-2 c = ap (whole c.args.mode) (more_read c.args.number c.args.bytes.now c.in-Ok.effect c.in-Ok.size
    c.in-Ok.ensures.read c.if-size-bytes.false)

pub returns-in-Err-Bad : goal.returns-in-Err-Bad
returns-in-Err-Bad c = ap (whole c.args.mode) (none_whole c.args.number c.args.bytes.now c.in-Err-Bad.field-0-0 c.in-Err-Bad.field-0-1
    (c.in-Err-Bad.ensures.fault c.in-Err-Bad.field-0-0 c.in-Err-Bad.field-0-1 (ap (λ f. Err f) c.in-Err-Bad.field-0-is)).0)

use Rattle.std.proofs.Common.{sym}
use Rattle.rc_dict.proofs.Edits.{entry-stands, absent}
use Rattle.rc_dict.proofs.pairs.entry.Goals as goal

pub returns-in-Ok : goal.returns-in-Ok
returns-in-Ok g c = sym (entry-stands g.K.Ord.cmp c.args.key.now c.args.pairs.now c.in-Ok.at c.index-pairs-at.result c.in-Ok.ensures.stands)

pub returns-in-Err : goal.returns-in-Err
returns-in-Err g c = sym (absent g.K.Ord.cmp c.args.key.now c.args.pairs.now c.in-Err.field-0 c.in-Err.ensures.fits).0

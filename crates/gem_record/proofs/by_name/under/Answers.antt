use Rattle.std.proofs.Common.{sym}
use Rattle.std.specs.Ordering.{nat_cmp}
use Rattle.gem_object.proofs.rc_dict_lemmas.Edits.{entry-stands, absent}
use Rattle.gem_record.proofs.by_name.under.Goals as goal

pub returns-in-Ok : goal.returns-in-Ok
returns-in-Ok g c = sym (entry-stands nat_cmp c.args.oid c.args.entries.now c.in-Ok.at c.index-entries-at.result c.in-Ok.ensures.stands)

pub returns-in-Err : goal.returns-in-Err
returns-in-Err g c = sym (absent nat_cmp c.args.oid c.args.entries.now c.in-Err.field-0 c.in-Err.ensures.fits).0

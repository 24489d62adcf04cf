use Rattle.std.proofs.Common.{is_some, sym, ap, ◌∙◌}
use Rattle.rc_dict.proofs.Edits.{entry-stands, without-stands, absent}
use Rattle.rc_dict.proofs.Kept.{IsDict-without}
use Rattle.rc_dict.proofs.pairs.remove.Goals as goal

pub returns-in-Ok-clause-found : goal.returns-in-Ok-clause-found
returns-in-Ok-clause-found g c = sym (ap is_some (entry-stands g.K.Ord.cmp c.args.key.now c.args.pairs.now.items c.in-Ok.at c.remove.result (rw c.deref.ensures.value at c.in-Ok.ensures.stands)))

pub returns-in-Ok-clause-without : goal.returns-in-Ok-clause-without
returns-in-Ok-clause-without g c = c.remove.ensures.items ∙ sym (without-stands g.K.Ord.cmp c.args.key.now c.args.pairs.now.items c.in-Ok.at (rw c.deref.ensures.value at c.in-Ok.ensures.stands))

pub returns-in-Ok-clause-dict : goal.returns-in-Ok-clause-dict
returns-in-Ok-clause-dict g c =
    rw (c.remove.ensures.items, ← without-stands g.K.Ord.cmp c.args.key.now c.args.pairs.now.items c.in-Ok.at (rw c.deref.ensures.value at c.in-Ok.ensures.stands))
    (IsDict-without g.K.Ord.cmp c.args.key.now c.args.pairs.now.items c.requires)

pub returns-in-Err-clause-found : goal.returns-in-Err-clause-found
returns-in-Err-clause-found g c = sym (ap is_some (absent g.K.Ord.cmp c.args.key.now c.args.pairs.now.items c.in-Err.field-0 (rw c.deref.ensures.value at c.in-Err.ensures.fits)).0)

pub returns-in-Err-clause-without : goal.returns-in-Err-clause-without
returns-in-Err-clause-without g c = sym (absent g.K.Ord.cmp c.args.key.now c.args.pairs.now.items c.in-Err.field-0 (rw c.deref.ensures.value at c.in-Err.ensures.fits)).1

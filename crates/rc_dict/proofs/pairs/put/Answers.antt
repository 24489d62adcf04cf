use Rattle.std.proofs.Common.{sym, ◌∙◌}
use Rattle.rc_dict.proofs.Edits.{put-stands, put-fits, absent}
use Rattle.sorted_pairs.proofs.Cases.{on_error}
use Rattle.rc_dict.proofs.Kept.{IsDict-put}
use Rattle.rc_dict.proofs.pairs.put.Goals as goal

pub returns-in-Ok-clause-put : goal.returns-in-Ok-clause-put
returns-in-Ok-clause-put g c =
    sym (put-stands g.K.Ord.cmp c.args.key c.args.value c.args.pairs.now.items c.in-Ok.at (rw c.deref.ensures.value at c.in-Ok.ensures.stands))

pub returns-in-Ok-clause-dict : goal.returns-in-Ok-clause-dict
returns-in-Ok-clause-dict g c =
    rw (← put-stands g.K.Ord.cmp c.args.key c.args.value c.args.pairs.now.items c.in-Ok.at (rw c.deref.ensures.value at c.in-Ok.ensures.stands))
    (IsDict-put g.K.Ord.cmp g.met.K.Ord.total c.args.key c.args.value c.args.pairs.now.items c.requires)

pub returns-in_ok-insert-in-Err-clause-put : goal.returns-in_ok-insert-in-Err-clause-put
returns-in_ok-insert-in-Err-clause-put g c =
    c.in_ok-insert-in-Err.ensures.items ∙ sym (put-fits g.K.Ord.cmp c.args.key c.args.value c.args.pairs.now.items c.in-Err.at (rw c.deref.ensures.value at c.in-Err.ensures.fits))

pub returns-in_ok-insert-in-Err-clause-dict : goal.returns-in_ok-insert-in-Err-clause-dict
returns-in_ok-insert-in-Err-clause-dict g c =
    rw (c.in_ok-insert-in-Err.ensures.items, ← put-fits g.K.Ord.cmp c.args.key c.args.value c.args.pairs.now.items c.in-Err.at (rw c.deref.ensures.value at c.in-Err.ensures.fits))
    (IsDict-put g.K.Ord.cmp g.met.K.Ord.total c.args.key c.args.value c.args.pairs.now.items c.requires)

pub returns-in_err-insert-in-Err-clause-memory : goal.returns-in_err-insert-in-Err-clause-memory
returns-in_err-insert-in-Err-clause-memory g c =
    on_error c.from_residual.result _ (absent g.K.Ord.cmp c.args.key c.args.pairs.now.items c.in-Err.at (rw c.deref.ensures.value at c.in-Err.ensures.fits)).0

pub returns-in_err-insert-in-Err-clause-dict : goal.returns-in_err-insert-in-Err-clause-dict
returns-in_err-insert-in-Err-clause-dict g c = rw c.in_err-insert-in-Err.ensures.items c.requires

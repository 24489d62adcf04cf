use Rattle.std.proofs.Common.{sym, ◌∙◌, ap}
use Rattle.std.specs.Result.{is_ok}
use Rattle.rc_queue.proofs.Replay.{ok_value, merged_twice-taken, merged_twice-added}
use Rattle.rc_queue.proofs.laws.ends_commute.Goals as goal

pub returns-clause-merges : goal.returns-clause-merges
returns-clause-merges g c = λ view place added taken ok.
    let after = ok_value _ ok in
    merged_twice-added g.T.Ord.cmp view place added taken after.0 after.1 ∙ sym (merged_twice-taken g.T.Ord.cmp view place added taken after.0 after.1)

pub returns-clause-merges_stand : goal.returns-clause-merges_stand
returns-clause-merges_stand g c = λ view place added taken ok.
    let after = ok_value _ ok in
    ap is_ok (merged_twice-added g.T.Ord.cmp view place added taken after.0 after.1)

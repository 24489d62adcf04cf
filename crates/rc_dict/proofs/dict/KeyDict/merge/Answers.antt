use Rattle.std.proofs.Common.{ap, ◌∙◌}
use Rattle.rc_dict.specs.Dict.{entry, last_entry}
use Rattle.rc_dict.proofs.Entries.{entry-all_settled}
use Rattle.rc_dict.proofs.dict.KeyDict.merge.Goals as goal

pub returns-clause-last : goal.returns-clause-last
returns-clause-last g c = λ key.
    let updates = c.args.updates.now in
    ap (entry g.K.Ord.cmp key) c.in_ok-settle.ensures.settled ∙ entry-all_settled g.K.Ord.cmp g.met.K.Ord.total key updates c.merged.inside.pairs.items c.merged.invariant
    ∙ ap (λ pairs. last_entry g.K.Ord.cmp key updates (entry g.K.Ord.cmp key pairs)) (c.merged.view_is ∙ c.in_ok-merged.ensures)

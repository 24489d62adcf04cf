use Rattle.std.proofs.Common.{sym, subst, ap, ◌∙◌, flat_map}
use Rattle.gem_record.specs.Names.{Ascend, AscendByName}
use Rattle.commit_check.specs.Conflicts.{conflicts_of, merged_objects, conflicts_on, merged_on}
use Rattle.commit_check.proofs.Ordered.{merged_by_name}
use Rattle.commit_check.proofs.check.conflicts.Goals as goal

pub of-requires-2 : goal.of-requires-2
of-requires-2 c = subst AscendByName (sym c.in_ok-found.ensures.merged)
    (merged_by_name c.args.image.now c.args.transaction.now c.deref.result.now
    (subst Ascend (sym c.deref.ensures.value) c.in_ok-names.ensures.in_order))

pub returns-clause-conflicts : goal.returns-clause-conflicts
unfolding conflicts_of
returns-clause-conflicts c = c.of.ensures ∙ (c.in_ok-found.ensures.conflicts
    ∙ ap (flat_map (conflicts_on (record { image = c.args.image.now; locks = c.args.locks.now }) c.args.transaction.now))
    (c.deref.ensures.value ∙ c.in_ok-names.ensures.names))

pub returns-clause-merged : goal.returns-clause-merged
unfolding merged_objects
returns-clause-merged c = c.of-2.ensures ∙ (c.in_ok-found.ensures.merged
    ∙ ap (flat_map (merged_on c.args.image.now c.args.transaction.now))
    (c.deref.ensures.value ∙ c.in_ok-names.ensures.names))

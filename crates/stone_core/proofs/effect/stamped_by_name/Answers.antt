use Rattle.std.proofs.Common.{◌≡◌, ◌++◌, map, sym, ap, subst, ◌∙◌, append-nil}
use Rattle.gem_record.specs.Names.{AscendByName}
use Rattle.gem_meaning.specs.Effect.{stamped}
use Rattle.stone_core.proofs.ByName.{entries_ascend}
use Rattle.stone_core.proofs.effect.stamped_by_name.Goals as goal

pub of-requires : goal.of-requires
of-requires c =
    let all : c.loop-entry.entries.items ≡ c.in_ok-stamped.stamped.entries =
    sym (append-nil c.loop-entry.entries.items) ∙ ap (λ rest. c.loop-entry.entries.items ++ rest) (sym c.in-None.ensures.steps.0)
    ∙ c.loop-entry.invariant ∙ c.into_iter-entry-iterator.ensures.into_iter_gives.0 in
    subst AscendByName (sym (all ∙ c.in_ok-stamped.ensures)) (entries_ascend (map (stamped c.args.number) c.args.changed.items))

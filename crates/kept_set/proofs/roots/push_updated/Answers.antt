use Rattle.std.proofs.Common.{◌≡◌, ◌<◌, ◌++◌, length, ap, ◌∙◌, arith}
use Rattle.std.specs.List.{flat_map}
use Rattle.gem_update.specs.References.{names_in_update}
use Rattle.gem_object.proofs.Joined.{one_added, all_added}
use Rattle.kept_set.proofs.roots.push_updated.Goals as goal

pub loop-entry-preserved : goal.loop-entry-preserved
loop-entry-preserved c =
    let below : c.loop-entry.entry-index < length c.args.updates.now = omega arith in
    one_added (λ e. flat_map names_in_update e.1) c.args.updates.now c.loop-entry.entry-index c.entry-item.result _ _ _ below c.entry-item.is c.loop-entry.invariant (c.in_ok-push_updates.ensures ∙ ap (λ us. c.loop-entry.names.items ++ flat_map names_in_update us) c.as_slice.ensures)

pub returns : goal.returns
returns c =
    let over : c.loop-entry.entry-index ≡ length c.args.updates.now = omega arith in
    all_added (λ e. flat_map names_in_update e.1) c.args.updates.now c.loop-entry.entry-index _ _ over c.loop-entry.invariant

use Rattle.std.proofs.Common.{◌≡◌, ◌<◌, length, arith}
use Rattle.gem_object.specs.References.{references_of}
use Rattle.gem_object.proofs.Joined.{one_added, all_added}
use Rattle.kept_set.proofs.roots.push_written.Goals as goal

pub loop-entry-preserved : goal.loop-entry-preserved
loop-entry-preserved c =
    let below : c.loop-entry.entry-index < length c.args.written.now = omega arith in
    one_added (λ e. references_of e.1) c.args.written.now c.loop-entry.entry-index c.entry-item.result _ _ _ below c.entry-item.is c.loop-entry.invariant c.in_ok-push_references.ensures

pub returns : goal.returns
returns c =
    let over : c.loop-entry.entry-index ≡ length c.args.written.now = omega arith in
    all_added (λ e. references_of e.1) c.args.written.now c.loop-entry.entry-index _ _ over c.loop-entry.invariant

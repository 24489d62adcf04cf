use Rattle.std.proofs.Common.{◌≡◌, ◌<◌, ◌++◌, length, ap, ◌∙◌, arith}
use Rattle.gem_object.proofs.Joined.{one_added, all_added}
use Rattle.gem_record.specs.Names.{under}
use Rattle.stone_core.specs.Effects.{named}
use Rattle.stone_core.proofs.effect.push_found.Goals as goal

pub loop-name-preserved : goal.loop-name-preserved
loop-name-preserved c =
    let below : c.loop-name.name-index < length c.args.names.now = omega arith in
    one_added (λ name. named name (under name c.args.objects.now)) c.args.names.now c.loop-name.name-index
    c.name-item.result _ _ _ below c.name-item.is c.loop-name.invariant
    (c.in_ok-push_some.ensures ∙ ap (λ found. c.loop-name.changed.items ++ named c.name-item.result found) c.find.ensures)

pub returns : goal.returns
returns c =
    let over : c.loop-name.name-index ≡ length c.args.names.now = omega arith in
    all_added (λ name. named name (under name c.args.objects.now)) c.args.names.now c.loop-name.name-index _ _ over c.loop-name.invariant

use Rattle.std.proofs.Common.{◌≡◌, ◌<◌, length, refl, arith}
use Rattle.stone_core.proofs.Fits.{fits_one_more, all_fit}
use Rattle.stone_core.proofs.effect.fit.Goals as goal

pub loop-entry-preserved : goal.loop-entry-preserved
loop-entry-preserved c =
    let below : c.loop-entry.entry-index < length c.args.merged.now = omega arith in
    let counted = c.entry_count.ensures in
    let small = c.if-entry_count.false in
    fits_one_more c.args.merged.now c.loop-entry.entry-index c.entry-item.result below c.entry-item.is
    c.loop-entry.invariant (omega (arith, counted, small))

pub returns : goal.returns
returns c =
    let over : c.loop-entry.entry-index ≡ length c.args.merged.now = omega arith in
    (λ is. all_fit c.args.merged.now c.loop-entry.entry-index over c.loop-entry.invariant, λ all. refl)

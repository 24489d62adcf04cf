use Rattle.std.proofs.Common.{◌≡◌, ◌∙◌, sym, ap, Bool, ◌&&◌}
use Rattle.std.proofs.lemmas.Option.{none-some}
use Rattle.gem_sound.specs.gem_image.Image.{contents_of}
use Rattle.prim_parts.proofs.Replaced.{limits_updated}
use Rattle.prim_parts.proofs.edits.stays_small_updated.Goals as goal
use Rattle.prim_parts.proofs.edits.stays_small_updated.Goals.{then-before, else-before}

pub returns-in_default : goal.returns-in_default
returns-in_default g c object there = absurd (none-some object (c.in_default.ensures ∙ there))

pub returns : goal.returns
returns g c object there =
    let both : c.if-before.result ≡ (c.stays_small-before.result && c.stays_small-after.result) = elim c.if-before.branch [
      | then-before w ↦ w.result-is ∙ ap (λ (b : Bool). b && c.stays_small-after.result) (sym w.if-before.true)
      | else-before w ↦ w.result-is ∙ w.if-before.false ∙ ap (λ (b : Bool). b && c.stays_small-after.result) (sym w.if-before.false)
    ] in
    rw both
    (limits_updated c.args.refusal c.args.update.now c.args.name (g.O.Objects.seen c.args.objects.now)
    (contents_of c.in-Some.object.now) c.in-Some.ensures object there c.none.result c.in-Some-body_updated.change
    c.stays_small-before.result c.stays_small-after.result c.none.ensures
    (rw c.in-Some-body_updated.is at c.body_updated.ensures) c.stays_small-before.ensures c.stays_small-after.ensures)

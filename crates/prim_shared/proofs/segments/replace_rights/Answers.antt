use Rattle.std.proofs.Common.{◌≡◌, sym, ap, ◌∙◌, ℕ, ◌-◌, length, None, arith}
use Rattle.gem_object.specs.texts.Bytes.{Bytes as Text}
use Rattle.gem_object.specs.declared.body.Body.TheVariants as body
use Rattle.running_objects.specs.Seen.{object_at}
use Rattle.prim_rules.specs.Receivers.{items_added}
use Rattle.prim_shared.specs.Held.{held_of}
use Rattle.prim_shared.proofs.Steps.{handed, over, finds, never_none}
use Rattle.prim_shared.proofs.Limited.{limited, limit_kept, limit_passed}
use Rattle.gem_object.specs.seg_rights.declared.rights.Rights.{Rights}
use Rattle.prim_rules.specs.Parts.{segment_in}
use Rattle.prim_shared.proofs.segments.replace_rights.Goals as goal

pub returns-in_default : goal.returns-in_default
returns-in_default g c =
    let none : held_of segment_in (object_at c.args.name (g.O.Objects.seen c.args.objects.now)) ≡ None =
    grind (arith, c.rights_of.ensures, c.in_default.is, c.in_default.not-Some) in
    λ object held there holds. absurd (never_none segment_in c.args.name (g.O.Objects.seen c.args.objects.now) there holds (sym none))

pub returns-in_err-check : goal.returns-in_err-check
returns-in_err-check g c = λ object held there holds.
    let made = c.args.made in
    handed c.from_residual.result c.from_residual.ensures.1
    (limit_passed c.args.name object (body.Segment made) c.args.value.now c.are_few.result c.group_count-after.result
    (length made.groups) c.are_few.ensures c.group_count-after.ensures (items_added made.groups held.groups)
    c.in_err-check.ensures)

pub returns : goal.returns
returns g c = λ object held there holds.
    let made = c.args.made in
    let rights = c.in-Some.rights.now in
    let grows : c.items_added-growth.result ≡ length made.groups - length rights.groups = c.items_added-growth.ensures
    ∙ ap (λ (count : ℕ). count - c.group_count.result) c.group_count-after.ensures
    ∙ ap (λ (count : ℕ). length made.groups - count) c.group_count.ensures in
    over (λ (one : Rights Text). limited c.args.name object (body.Segment made) c.args.value.now (length made.groups)
    (items_added made.groups one.groups)) (sym (finds segment_in c.args.name (g.O.Objects.seen c.args.objects.now) there holds c.in-Some.ensures))
    (limit_kept c.args.name object (body.Segment made) c.args.value.now c.are_few.result c.group_count-after.result
    (length made.groups) c.are_few.ensures c.group_count-after.ensures c.items_added-growth.result
    (items_added made.groups rights.groups) grows c.in_ok-check.ensures (c.answer_replaced.ensures object there))

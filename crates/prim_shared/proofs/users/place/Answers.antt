use Rattle.std.proofs.Common.{◌≡◌, sym, ap, ◌∙◌, ℕ, ◌-◌, length, None, arith}
use Rattle.gem_object.specs.declared.body.Body.TheVariants as body
use Rattle.running_objects.specs.Seen.{object_at}
use Rattle.prim_rules.specs.Receivers.{items_added}
use Rattle.prim_shared.specs.Held.{held_of}
use Rattle.prim_shared.proofs.Steps.{handed, over, finds, never_none}
use Rattle.prim_shared.proofs.Limited.{limited, limit_kept, limit_passed}
use Rattle.gem_object.specs.declared.body.UserBody.{UserBody}
use Rattle.prim_rules.specs.Parts.{user_in}
use Rattle.prim_rules.specs.Users.{in_groups}
use Rattle.prim_shared.proofs.users.place.Goals as goal

pub returns-in_default : goal.returns-in_default
returns-in_default g c =
    let none : held_of user_in (object_at c.args.name (g.O.Objects.seen c.args.objects.now)) ≡ None =
    grind (arith, c.user_of.ensures, c.in_default.is, c.in_default.not-Some) in
    λ object held there holds. absurd (never_none user_in c.args.name (g.O.Objects.seen c.args.objects.now) there holds (sym none))

pub returns-in_err-check : goal.returns-in_err-check
returns-in_err-check g c = λ object held there holds.
    let groups = c.args.groups.items in
    handed c.from_residual.result c.from_residual.ensures.1
    (limit_passed c.args.name object (body.User (in_groups groups held)) c.args.value.now c.are_few.result c.len-after.result
    (length groups) c.are_few.ensures (c.len-after.ensures ∙ c.args.groups.ok.0) (items_added groups held.groups) c.in_err-check.ensures)

pub returns : goal.returns
returns g c = λ object held there holds.
    let groups = c.args.groups.items in
    let user = c.in-Some.user.now in
    let counted : c.len-after.result ≡ length groups = c.len-after.ensures ∙ c.args.groups.ok.0 in
    let grows : c.items_added-growth.result ≡ length groups - length user.groups = c.items_added-growth.ensures
    ∙ ap (λ (count : ℕ). count - c.len.result) counted ∙ ap (λ (count : ℕ). length groups - count) c.len.ensures in
    over (λ (one : UserBody). limited c.args.name object (body.User (in_groups groups one)) c.args.value.now (length groups)
    (items_added groups one.groups)) (sym (finds user_in c.args.name (g.O.Objects.seen c.args.objects.now) there holds c.in-Some.ensures))
    (over (λ (made : UserBody). limited c.args.name object (body.User made) c.args.value.now (length groups)
    (items_added groups user.groups)) c.in_ok-made.ensures
    (limit_kept c.args.name object (body.User c.in_ok-made.made) c.args.value.now c.are_few.result c.len-after.result
    (length groups) c.are_few.ensures counted c.items_added-growth.result (items_added groups user.groups) grows
    c.in_ok-check.ensures (c.answer_replaced.ensures object there)))

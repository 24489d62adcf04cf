use Rattle.std.proofs.Common.{◌≡◌, sym, ap, ◌∙◌, None, arith}
use Rattle.running_objects.specs.Seen.{object_at}
use Rattle.prim_shared.specs.Held.{held_of}
use Rattle.prim_shared.proofs.Steps.{over, finds, never_none}
use Rattle.std.proofs.Common.{List}
use Rattle.gem_object.specs.texts.Bytes.{Bytes as Text}
use Rattle.gem_object.specs.declared.body.UserBody.{UserBody}
use Rattle.prim_rules.specs.Parts.{user_in}
use Rattle.prim_rules.specs.Groups.{with_group}
use Rattle.prim_rules.specs.Users.{placed_in}
use Rattle.prim_shared.proofs.users.add_group.Goals as goal

pub returns-in_default : goal.returns-in_default
returns-in_default g c =
    let none : held_of user_in (object_at c.args.name (g.O.Objects.seen c.args.objects.now)) ≡ None =
    grind (arith, c.user_of.ensures, c.in_default.is, c.in_default.not-Some) in
    λ object held there holds. absurd (never_none user_in c.args.name (g.O.Objects.seen c.args.objects.now) there holds (sym none))

pub returns : goal.returns
returns g c = λ object held there holds. over (λ (groups : List Text).
    placed_in (record { name = c.args.name; object = object; held = held }) groups c.args.value.now)
    (c.in_ok-groups.ensures ∙ ap (with_group c.args.group.now) c.as_slice.ensures
    ∙ ap (λ (user : UserBody). with_group c.args.group.now user.groups) (sym (finds user_in c.args.name (g.O.Objects.seen c.args.objects.now) there holds c.in-Some.ensures)))
    (c.place.ensures object held there holds)

use Rattle.std.proofs.Common.{◌≡◌, sym, ap, ◌∙◌, bytes_eq, None, List, arith}
use Rattle.std.specs.List.{list_any}
use Rattle.gem_object.specs.texts.Bytes.{Bytes as Text}
use Rattle.gem_object.specs.declared.body.UserBody.{UserBody}
use Rattle.object_programs.specs.Programs.{check}
use Rattle.object_programs.specs.declared.fault.Fault.TheVariants as fault
use Rattle.running_objects.specs.Seen.{object_at}
use Rattle.prim_rules.specs.Parts.{user_in}
use Rattle.prim_rules.specs.Groups.{without_group}
use Rattle.prim_rules.specs.Users.{placed_in}
use Rattle.prim_parts.proofs.Does.{computes_then, computes_stop}
use Rattle.prim_shared.specs.Held.{held_of}
use Rattle.prim_shared.proofs.Steps.{handed, over, computes_over, finds, never_none}
use Rattle.prim_shared.proofs.users.remove_group.Goals as goal

pub returns-in_default : goal.returns-in_default
returns-in_default g c =
    let none : held_of user_in (object_at c.args.name (g.O.Objects.seen c.args.objects.now)) ≡ None =
    grind (arith, c.user_of.ensures, c.in_default.is, c.in_default.not-Some) in
    λ object held there holds. absurd (never_none user_in c.args.name (g.O.Objects.seen c.args.objects.now) there holds (sym none))

pub returns-in_err-check : goal.returns-in_err-check
returns-in_err-check g c = λ object held there holds.
    let seen = g.O.Objects.seen c.args.objects.now in
    let among : c.is_among.result ≡ list_any (bytes_eq c.args.group.now) held.groups = c.is_among.ensures
    ∙ ap (list_any (bytes_eq c.args.group.now)) c.as_slice-before.ensures
    ∙ ap (λ (user : UserBody). list_any (bytes_eq c.args.group.now) user.groups)
    (sym (finds user_in c.args.name seen there holds c.in-Some.ensures)) in
    handed c.from_residual.result c.from_residual.ensures.1
    (computes_stop seen (computes_over (check fault.KeyAbsent) among c.in_err-check.ensures))

pub returns : goal.returns
returns g c = λ object held there holds.
    let seen = g.O.Objects.seen c.args.objects.now in
    let found = finds user_in c.args.name seen there holds c.in-Some.ensures in
    let among : c.is_among.result ≡ list_any (bytes_eq c.args.group.now) held.groups = c.is_among.ensures
    ∙ ap (list_any (bytes_eq c.args.group.now)) c.as_slice-before.ensures
    ∙ ap (λ (user : UserBody). list_any (bytes_eq c.args.group.now) user.groups) (sym found) in
    computes_then (computes_over (check fault.KeyAbsent) among c.in_ok-check.ensures)
    (over (λ (groups : List Text).
    placed_in (record { name = c.args.name; object = object; held = held }) groups c.args.value.now)
    (c.in_ok-groups.ensures ∙ ap (without_group c.args.group.now) c.as_slice-before.ensures
    ∙ ap (λ (user : UserBody). without_group c.args.group.now user.groups) (sym found))
    (c.place.ensures object held there holds))

use Rattle.std.proofs.Common.{◌≡◌, sym, ap, ◌∙◌, None, arith}
use Rattle.running_objects.specs.Seen.{object_at}
use Rattle.prim_shared.specs.Held.{held_of}
use Rattle.prim_shared.proofs.Steps.{over, finds, never_none}
use Rattle.gem_object.specs.texts.Bytes.{Bytes as Text}
use Rattle.gem_object.specs.seg_rights.declared.rights.Rights.{Rights}
use Rattle.gem_object.specs.declared.body.Body.TheVariants as body
use Rattle.object_programs.specs.Run.{and_then}
use Rattle.object_programs.specs.Programs.{replace_body}
use Rattle.prim_rules.specs.Parts.{segment_in}
use Rattle.prim_rules.specs.Receivers.{answer}
use Rattle.prim_shared.specs.Rights.{with_right_of}
use Rattle.prim_shared.proofs.segments.replace_right.Goals as goal

pub returns-in_default : goal.returns-in_default
returns-in_default g c =
    let none : held_of segment_in (object_at c.args.name (g.O.Objects.seen c.args.objects.now)) ≡ None =
    grind (arith, c.rights_of.ensures, c.in_default.is, c.in_default.not-Some) in
    λ object held there holds. absurd (never_none segment_in c.args.name (g.O.Objects.seen c.args.objects.now) there holds (sym none))

pub returns : goal.returns
returns g c = λ object held there holds. over (λ (made : Rights Text).
    and_then (replace_body 0 c.args.name object (body.Segment made)) (λ replaced. answer c.args.value.now))
    (c.in_ok-made.ensures ∙ ap (with_right_of c.args.holder c.args.right)
    (sym (finds segment_in c.args.name (g.O.Objects.seen c.args.objects.now) there holds c.in-Some.ensures)))
    (c.answer_replaced.ensures object there)

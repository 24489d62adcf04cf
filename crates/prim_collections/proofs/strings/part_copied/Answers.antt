use Rattle.std.proofs.Common.{rules, w64}
use Rattle.std.proofs.lemmas.Result.{err_from_is_err_and}
use Rattle.std.proofs.lemmas.Int.{to_z-of_z}
use Rattle.prim_rules.specs.Strings.{copy_text_rule}
use Rattle.running_objects.proofs.Running.{keeps_same}
use Rattle.prim_parts.proofs.Does.{computes_then, computes_stop, does_nothing}
use Rattle.prim_collections.proofs.TextsRead.{never_missed, one_text}
use Rattle.prim_collections.proofs.strings.part_copied.Goals as goal

pub returns-in_err-first : goal.returns-in_err-first
returns-in_err-first g c = λ text is.
    let p = err_from_is_err_and c.from_residual.result c.from_residual.ensures.1 in
    rw (p.1, p.2) (computes_stop _ c.in_err-first.ensures)

pub returns-in_err-last : goal.returns-in_err-last
returns-in_err-last g c = λ text is.
    let p = err_from_is_err_and c.from_residual-in_err-last.result c.from_residual-in_err-last.ensures.1 in
    rw (p.1, p.2) (computes_then c.in_ok-first.ensures (computes_stop _ c.in_err-last.ensures))

pub returns-in_err-text : goal.returns-in_err-text
returns-in_err-text g c = λ text is.
    never_missed c.args.receiver.now (g.O.Objects.seen c.args.objects.now) text _ is c.in_err-text.ensures

pub returns-in_err-part : goal.returns-in_err-part
returns-in_err-part g c = λ text is.
    let p = err_from_is_err_and c.from_residual-in_err-part.result c.from_residual-in_err-part.ensures.1 in
    let same = one_text c.args.receiver.now (g.O.Objects.seen c.args.objects.now) text c.in_ok-text.text.now is
    c.in_ok-text.ensures in
    rw (p.1, p.2) (computes_then c.in_ok-first.ensures (computes_then c.in_ok-last.ensures (computes_stop _ (rw
    (to_z-of_z w64 c.in_ok-first.first (search rules), to_z-of_z w64 c.in_ok-last.last (search rules), same) at
    c.in_err-part.ensures))))

pub returns-in_err-bytes : goal.returns-in_err-bytes
returns-in_err-bytes g c = λ text is.
    let p = err_from_is_err_and c.from_residual-in_err-bytes.result c.from_residual-in_err-bytes.ensures.1 in
    rw (p.1, p.2) (does_nothing (copy_text_rule text c.args.from.now c.args.to.now)
    (keeps_same (g.O.Objects.seen c.args.objects.now)))

pub returns : goal.returns
returns g c = λ text is.
    let same = one_text c.args.receiver.now (g.O.Objects.seen c.args.objects.now) text c.in_ok-text.text.now is
    c.in_ok-text.ensures in
    computes_then c.in_ok-first.ensures (computes_then c.in_ok-last.ensures (computes_then (rw (
      to_z-of_z w64
          c.in_ok-first.first (search rules),
      to_z-of_z w64 c.in_ok-last.last (search rules),
      same,
    ) at c.in_ok-part.ensures) (rw c.in_ok-bytes.ensures at c.new_string_of.ensures)))

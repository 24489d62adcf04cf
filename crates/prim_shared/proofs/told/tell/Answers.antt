use Rattle.std.proofs.Common.{sym, subst, ◌∙◌, Err}
use Rattle.gem_object.specs.declared.value.Value.{Value}
use Rattle.prim_rules.specs.Receivers.{read_receiver, answer}
use Rattle.prim_parts.specs.Does.{Does}
use Rattle.prim_parts.proofs.Does.{does_then, does_stop, does_give, computes_then, computes_stop}
use Rattle.prim_shared.specs.declared.receivers.ReceiverKind.{ReceiverKind}
use Rattle.prim_shared.specs.Kinds.{held_in}
use Rattle.prim_parts.specs.Reached.{Reaches}
use Rattle.prim_shared.specs.Told.{kind_told, said_by}
use Rattle.prim_shared.proofs.Steps.{handed, over, again}
use Rattle.prim_shared.proofs.Tells.{said_is, said_some, spelled}
use Rattle.prim_shared.proofs.told.tell.Goals as goal

pub returns-in_err-name : goal.returns-in_err-name
returns-in_err-name g c =
    let At : ReceiverKind → Type 0 = λ kind. Does (read_receiver (held_in kind) c.args.receiver.now)
    (g.O.Objects.seen c.args.objects.now) (Err c.in_err-name.field-0.0) (g.O.Objects.seen c.read_receiver.new.objects) in
    handed c.from_residual.result c.from_residual.ensures.1 (does_stop (subst At c.kind_told.ensures c.in_err-name.ensures))

pub returns-in_err-no_arguments : goal.returns-in_err-no_arguments
returns-in_err-no_arguments g c =
    let At : ReceiverKind → Type 0 = λ kind. Reaches (held_in kind) (read_receiver (held_in kind) c.args.receiver.now)
    (g.O.Objects.seen c.args.objects.now) c.in_ok-name.name (g.O.Objects.seen c.read_receiver.new.objects) in
    let reached : At (kind_told c.args.fact) = subst At c.kind_told.ensures c.in_ok-name.ensures in
    handed c.from_residual-in_err-no_arguments.result c.from_residual-in_err-no_arguments.ensures.1
    (does_then reached.does (computes_stop _ c.in_err-no_arguments.ensures))

pub told_of-requires : goal.told_of-requires
told_of-requires g c = spelled (g.O.Objects.seen c.read_receiver.new.objects) c.sound.ensures c.in_ok-name.name _
    (sym c.in-Some.ensures)

pub returns-in_default-2 : goal.returns-in_default-2
returns-in_default-2 g c =
    let At : ReceiverKind → Type 0 = λ kind. Reaches (held_in kind) (read_receiver (held_in kind) c.args.receiver.now)
    (g.O.Objects.seen c.args.objects.now) c.in_ok-name.name (g.O.Objects.seen c.read_receiver.new.objects) in
    let reached : At (kind_told c.args.fact) = subst At c.kind_told.ensures c.in_ok-name.ensures in
    absurd (said_some (said_by c.args.fact) (again (held_in (kind_told c.args.fact)) c.in_ok-name.name
    (g.O.Objects.seen c.read_receiver.new.objects) reached.there c.in-Some.ensures reached.holds)
    (sym c.in_default-2.is ∙ c.in_ok-value.ensures))

pub returns : goal.returns
returns g c =
    let At : ReceiverKind → Type 0 = λ kind. Reaches (held_in kind) (read_receiver (held_in kind) c.args.receiver.now)
    (g.O.Objects.seen c.args.objects.now) c.in_ok-name.name (g.O.Objects.seen c.read_receiver.new.objects) in
    let reached : At (kind_told c.args.fact) = subst At c.kind_told.ensures c.in_ok-name.ensures in
    does_then reached.does (computes_then c.in_ok-no_arguments.ensures (over (λ (value : Value). answer value)
    (sym (said_is (said_by c.args.fact) (again (held_in (kind_told c.args.fact)) c.in_ok-name.name
    (g.O.Objects.seen c.read_receiver.new.objects) reached.there c.in-Some.ensures reached.holds)
    (sym c.in-Some-2.is ∙ c.in_ok-value.ensures)))
    (does_give _ _)))

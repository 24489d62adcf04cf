use Rattle.std.proofs.Common.{sym, subst, ◌∙◌, List, Err}
use Rattle.gem_object.specs.declared.value.Value.{Value}
use Rattle.prim_rules.specs.Receivers.{read_receiver, answer_array}
use Rattle.prim_parts.specs.Does.{Does}
use Rattle.prim_parts.proofs.Does.{does_then, does_stop, computes_then, computes_stop}
use Rattle.prim_shared.specs.declared.receivers.ReceiverKind.{ReceiverKind}
use Rattle.prim_shared.specs.Kinds.{held_in}
use Rattle.prim_parts.specs.Reached.{Reaches}
use Rattle.prim_shared.specs.Told.{kind_listed, listed_by}
use Rattle.prim_shared.proofs.Steps.{handed, over, again}
use Rattle.prim_shared.proofs.Tells.{said_is, said_some}
use Rattle.prim_shared.proofs.told.list.Goals as goal

pub returns-in_err-name : goal.returns-in_err-name
returns-in_err-name g c =
    let At : ReceiverKind → Type 0 = λ kind. Does (read_receiver (held_in kind) c.args.receiver.now)
    (g.O.Objects.seen c.args.objects.now) (Err c.in_err-name.field-0.0) (g.O.Objects.seen c.read_receiver.new.objects) in
    handed c.from_residual.result c.from_residual.ensures.1 (does_stop (subst At c.kind_listed.ensures c.in_err-name.ensures))

pub returns-in_err-no_arguments : goal.returns-in_err-no_arguments
returns-in_err-no_arguments g c =
    let At : ReceiverKind → Type 0 = λ kind. Reaches (held_in kind) (read_receiver (held_in kind) c.args.receiver.now)
    (g.O.Objects.seen c.args.objects.now) c.in_ok-name.name (g.O.Objects.seen c.read_receiver.new.objects) in
    let reached : At (kind_listed c.args.listing) = subst At c.kind_listed.ensures c.in_ok-name.ensures in
    handed c.from_residual-in_err-no_arguments.result c.from_residual-in_err-no_arguments.ensures.1
    (does_then reached.does (computes_stop _ c.in_err-no_arguments.ensures))

pub returns-then-not-fits_array : goal.returns-then-not-fits_array
returns-then-not-fits_array g c =
    let At : ReceiverKind → Type 0 = λ kind. Reaches (held_in kind) (read_receiver (held_in kind) c.args.receiver.now)
    (g.O.Objects.seen c.args.objects.now) c.in_ok-name.name (g.O.Objects.seen c.read_receiver.new.objects) in
    let reached : At (kind_listed c.args.listing) = subst At c.kind_listed.ensures c.in_ok-name.ensures in
    does_then reached.does (computes_then c.in_ok-no_arguments.ensures
    (c.refuse_array.ensures (listed_by c.args.listing reached.held) (sym (c.fits_array.ensures reached.held
    (again (held_in (kind_listed c.args.listing)) c.in_ok-name.name
    (g.O.Objects.seen c.read_receiver.new.objects) reached.there c.in-Some.ensures reached.holds))
    ∙ c.if-not-fits_array.true)))

pub returns-in_default-2 : goal.returns-in_default-2
returns-in_default-2 g c =
    let At : ReceiverKind → Type 0 = λ kind. Reaches (held_in kind) (read_receiver (held_in kind) c.args.receiver.now)
    (g.O.Objects.seen c.args.objects.now) c.in_ok-name.name (g.O.Objects.seen c.read_receiver.new.objects) in
    let reached : At (kind_listed c.args.listing) = subst At c.kind_listed.ensures c.in_ok-name.ensures in
    absurd (said_some (listed_by c.args.listing) (again (held_in (kind_listed c.args.listing)) c.in_ok-name.name
    (g.O.Objects.seen c.read_receiver.new.objects) reached.there c.in-Some.ensures reached.holds)
    (sym c.in_default-2.is ∙ c.in_ok-values.ensures))

pub returns : goal.returns
returns g c =
    let At : ReceiverKind → Type 0 = λ kind. Reaches (held_in kind) (read_receiver (held_in kind) c.args.receiver.now)
    (g.O.Objects.seen c.args.objects.now) c.in_ok-name.name (g.O.Objects.seen c.read_receiver.new.objects) in
    let reached : At (kind_listed c.args.listing) = subst At c.kind_listed.ensures c.in_ok-name.ensures in
    does_then reached.does (computes_then c.in_ok-no_arguments.ensures (over (λ (values : List Value). answer_array values)
    (sym (said_is (listed_by c.args.listing) (again (held_in (kind_listed c.args.listing)) c.in_ok-name.name
    (g.O.Objects.seen c.read_receiver.new.objects) reached.there c.in-Some.ensures reached.holds)
    (sym c.in-Some-2.is ∙ c.in_ok-values.ensures)))
    c.answer_array.ensures))

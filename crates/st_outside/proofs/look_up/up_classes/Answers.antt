use Rattle.std.proofs.Common.{◌≡◌, ◌∙◌, refl, sym, ap, Option, None, Some, option_and_then, Ok, Err, arith}
use Rattle.gem_object.specs.declared.body.MethodCode.{MethodCode}
use Rattle.gem_sound.specs.Parts.{class_of}
use Rattle.running_objects.specs.Seen.{Seen, object_at}
use Rattle.running_objects.specs.declared.stop.Stop.TheVariants as stop
use Rattle.object_programs.specs.declared.fault.Fault.TheVariants as fault
use Rattle.gem_language.specs.LookUp.{code_of}
use Rattle.gem_language.specs.declared.found.Found.{Found}
use Rattle.prim_parts.proofs.Does.{does_give}
use Rattle.st_outside.proofs.Steps.{does_given, does_no_memory}
use Rattle.st_outside.proofs.Ups.{goes_up, up_exit, up_none, up_found, up_last, up_above, up_end}
use Rattle.st_outside.proofs.look_up.up_classes.Goals as goal

pub loop-limit-init : goal.loop-limit-init
loop-limit-init g c = λ result after does.
    goes_up c.args.class_side c.args.selector.now c.args.class 281474976710657 refl does

pub returns-in_err-read : goal.returns-in_err-read
returns-in_err-read g c = c.loop-limit.invariant c.from_residual.result (g.O.Objects.seen c.read.new.self)
    (up_exit c.args.class_side c.args.selector.now c.loop-limit.limit c.loop-limit.class c.loop-limit-test.true
    c.from_residual.result c.from_residual.ensures.1 c.in_err-read.ensures)

pub returns-in_default : goal.returns-in_default
returns-in_default g c =
    let after : Seen = g.O.Objects.seen c.read.new.self in
    let none : option_and_then (λ object. class_of object.body) (object_at c.loop-limit.class after) ≡ None =
    grind (arith, c.class_at.ensures, c.in_default.is, c.in_default.not-Some) in
    c.loop-limit.invariant (Ok None) after
    (up_none c.args.class_side c.args.selector.now c.loop-limit.limit c.loop-limit.class c.loop-limit-test.true
    c.in_ok-read.ensures none (does_give None after))

pub returns-in_err-clone : goal.returns-in_err-clone
returns-in_err-clone g c = c.loop-limit.invariant c.from_residual-in_err-clone.result (g.O.Objects.seen c.read.new.self)
    (up_found c.args.class_side c.args.selector.now c.loop-limit.limit c.loop-limit.class c.loop-limit-test.true
    c.in_ok-read.ensures c.in-Some.body.now (sym c.in-Some.ensures) c.in-Some-code_of.code.now
    (sym (c.in-Some-code_of.ensures ∙ ap (code_of c.args.selector.now) c.methods_on.ensures))
    (does_no_memory c.from_residual-in_err-clone.ensures.1))

pub returns-in-Some-code_of : goal.returns-in-Some-code_of
returns-in-Some-code_of g c =
    let found : MethodCode → Option Found =
    λ (code : MethodCode). Some (record { code = code; holder = c.loop-limit.class; class_side = c.args.class_side }) in
    c.loop-limit.invariant (Ok (found c.in_ok-clone.field-0)) (g.O.Objects.seen c.read.new.self)
    (up_found c.args.class_side c.args.selector.now c.loop-limit.limit c.loop-limit.class c.loop-limit-test.true
    c.in_ok-read.ensures c.in-Some.body.now (sym c.in-Some.ensures) c.in-Some-code_of.code.now
    (sym (c.in-Some-code_of.ensures ∙ ap (code_of c.args.selector.now) c.methods_on.ensures))
    (does_given (ap found c.in_ok-clone.ensures.cases)))

pub returns-in_default-superclass : goal.returns-in_default-superclass
returns-in_default-superclass g c =
    let after : Seen = g.O.Objects.seen c.read.new.self in
    let lacks : code_of c.args.selector.now c.methods_on.result.now ≡ None =
    grind (arith, c.code_of.ensures, c.in_default-code_of.is, c.in_default-code_of.not-Some) in
    let top : c.in-Some.body.now.superclass ≡ None =
    grind (arith, c.in_default-superclass.is, c.in_default-superclass.not-Some) in
    c.loop-limit.invariant (Ok None) after
    (up_last c.args.class_side c.args.selector.now c.loop-limit.limit c.loop-limit.class c.loop-limit-test.true
    c.in_ok-read.ensures c.in-Some.body.now (sym c.in-Some.ensures)
    (ap (code_of c.args.selector.now) (sym c.methods_on.ensures) ∙ lacks) top (does_give None after))

pub loop-limit-preserved : goal.loop-limit-preserved
loop-limit-preserved g c =
    let lacks : code_of c.args.selector.now c.methods_on.result.now ≡ None =
    grind (arith, c.code_of.ensures, c.in_default-code_of.is, c.in_default-code_of.not-Some) in
    λ result after does. c.loop-limit.invariant result after
    (up_above c.args.class_side c.args.selector.now c.loop-limit.limit c.loop-limit.class c.loop-limit-test.true
    c.in_ok-read.ensures c.in-Some.body.now (sym c.in-Some.ensures)
    (ap (code_of c.args.selector.now) (sym c.methods_on.ensures) ∙ lacks)
    c.in-Some-superclass.superclass c.in-Some-superclass.is does)

pub returns-in_err-clone-2 : goal.returns-in_err-clone-2
returns-in_err-clone-2 g c = c.loop-limit.invariant c.from_residual-in_err-clone-2.result (g.O.Objects.seen c.loop-limit.objects)
    (does_no_memory c.from_residual-in_err-clone-2.ensures.1)

pub returns : goal.returns
returns g c =
    let after : Seen = g.O.Objects.seen c.loop-limit.objects in
    c.loop-limit.invariant (Err (stop.Fails (fault.NotUnderstood c.in_ok-clone-2.field-0))) after
    (up_end c.args.class_side c.args.selector.now c.in_ok-clone-2.field-0 c.loop-limit.limit c.loop-limit.class after
    c.in_ok-clone-2.ensures.cases (omega (arith, c.loop-limit-test.false)))

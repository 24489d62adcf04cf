use Rattle.std.proofs.Common.{sym, subst, List, map, Result, Ok, Err, arith}
use Rattle.st_tree.specs.Trees.{constants}
use Rattle.st_tree.specs.Views.{constant_of}
use Rattle.gem_object.specs.declared.value.Value.{Value}
use Rattle.running_objects.specs.Seen.{Seen}
use Rattle.running_objects.specs.declared.stop.Stop.{Stop}
use Rattle.running_objects.specs.declared.stop.Stop.TheVariants as stop
use Rattle.running_objects.proofs.Running.{keeps_same}
use Rattle.gem_language.specs.Literals.{constant_values}
use Rattle.prim_parts.specs.Does.{Does}
use Rattle.prim_parts.proofs.Does.{does_nothing}
use Rattle.prim_parts.proofs.Onward.{does_stops, handed}
use Rattle.st_outside.proofs.Elements.{values_of, prepended, values_end, values_stop, values_more}
use Rattle.st_outside.proofs.literals.+values.Goals as goal

pub array_value-returns-in_err-values : goal.array_value-returns-in_err-values
array_value-returns-in_err-values g t c = does_stops c.in_err-values.ensures c.from_residual.ensures.1

pub constant_values-returns-in_err-value : goal.constant_values-returns-in_err-value
constant_values-returns-in_err-value g t c =
    let Whole : Result (List Value) Stop → Seen → Type 0 = λ others after.
    Does (constant_values (constants (map constant_of c.args.items.now))) (g.O.Objects.seen c.args.objects.now) others after in
    handed (λ given. Whole given (g.O.Objects.seen c.constant_value.new.objects))
    c.from_residual-in_err-value.result c.in_err-value.field-0.0 c.from_residual-in_err-value.ensures.1
    (values_stop Whole c.loop-item.values.items c.args.items.now c.loop-item.item-index c.loop-item.invariant
    c.item-item.result c.loop-item-test.true c.item-item.is c.in_err-value.ensures)

pub constant_values-returns-in_err-push : goal.constant_values-returns-in_err-push
constant_values-returns-in_err-push g t c =
    let Whole : Result (List Value) Stop → Seen → Type 0 = λ others after.
    Does (constant_values (constants (map constant_of c.args.items.now))) (g.O.Objects.seen c.args.objects.now) others after in
    let after : Seen = g.O.Objects.seen c.constant_value.new.objects in
    handed (λ given. Whole given after) c.from_residual-in_err-push.result stop.NoMemory
    c.from_residual-in_err-push.ensures.1
    (values_more Whole c.loop-item.values.items c.args.items.now c.loop-item.item-index c.loop-item.invariant
    c.item-item.result c.loop-item-test.true c.item-item.is c.in_ok-value.ensures (Err stop.NoMemory) after
    (does_nothing (values_of _) (keeps_same after)))

pub constant_values-loop-item-preserved : goal.constant_values-loop-item-preserved
constant_values-loop-item-preserved g t c = λ others after does.
    let Whole : Result (List Value) Stop → Seen → Type 0 = λ others after.
    Does (constant_values (constants (map constant_of c.args.items.now))) (g.O.Objects.seen c.args.objects.now) others after in
    let At : List Value → Type 0 = λ values. Whole (prepended values others) after in
    subst At (sym c.in_ok-push.ensures.items)
    (values_more Whole c.loop-item.values.items c.args.items.now c.loop-item.item-index c.loop-item.invariant
    c.item-item.result c.loop-item-test.true c.item-item.is c.in_ok-value.ensures others after does)

pub constant_values-returns : goal.constant_values-returns
constant_values-returns g t c =
    let Whole : Result (List Value) Stop → Seen → Type 0 = λ others after.
    Does (constant_values (constants (map constant_of c.args.items.now))) (g.O.Objects.seen c.args.objects.now) others after in
    let At : List Value → Type 0 = λ values. Whole (Ok values) (g.O.Objects.seen c.loop-item.objects) in
    subst At (sym c.of.ensures)
    (values_end Whole c.loop-item.values.items c.args.items.now c.loop-item.item-index c.loop-item.invariant
    (omega (arith, c.loop-item-test.false)))

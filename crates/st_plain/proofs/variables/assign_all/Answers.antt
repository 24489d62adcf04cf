use Rattle.std.proofs.lemmas.Result.{err_from_is_err_and}
use Rattle.gem_language.specs.Sends.{outside}
use Rattle.st_plain.proofs.Assigned.{assign_goes_on, assign_stops}
use Rattle.st_plain.proofs.variables.assign_all.Goals as goal

pub returns-in_err-value : goal.returns-in_err-value
returns-in_err-value g c =
    let p = err_from_is_err_and c.from_residual.result c.from_residual.ensures.1 in
    rw (p.1, p.2) (assign_stops (outside c.args.depth) c.args.place.now c.args.frame.now c.args.names.now c.args.value
    (g.O.Objects.seen c.args.objects.now) c.args.locals.now c.loop-last.rest.now c.in-Some.before.now c.in-Some.last.now
    c.loop-last.value c.in-Some.ensures.cases.0 c.loop-last.invariant c.in_err-value.field-0.0 c.in_err-value.ensures)

pub loop-last-preserved : goal.loop-last-preserved
loop-last-preserved g c =
    assign_goes_on (outside c.args.depth) c.args.place.now c.args.frame.now c.args.names.now c.args.value
    (g.O.Objects.seen c.args.objects.now) c.args.locals.now c.loop-last.rest.now c.in-Some.before.now c.in-Some.last.now
    c.loop-last.value c.in-Some.ensures.cases.0 c.loop-last.invariant c.in_ok-value.value c.in_ok-value.ensures

use Rattle.std.proofs.Common.{◌≡◌, sym, None, arith}
use Rattle.object_programs.specs.Guard.{Parts, line_at}
use Rattle.object_guard.specs.Parts.{fixed_part}
use Rattle.object_guard.specs.Missing.{missing_of, superclass_of}
use Rattle.object_programs.specs.Fixed.{class_part}
use Rattle.object_guard.proofs.Lines.{begins, ends_missing, ends_at_top, goes_up, ends_out}
use Rattle.object_guard.proofs.missing.missing_above.Goals as goal

pub loop-limit-init : goal.loop-limit-init
loop-limit-init g c = begins (g.S.Sees.parts c.args.state.now) c.args.class

pub returns-in_default : goal.returns-in_default
returns-in_default g c =
    let parts : Parts = g.S.Sees.parts c.args.state.now in
    let none : None ≡ parts c.loop-limit.class = grind (arith, c.object.ensures, c.in_default.is, c.in_default.not-Some) in
    ends_missing parts c.loop-limit.limit c.loop-limit.class c.loop-limit-test.true
    (missing_of parts (line_at parts c.args.class)) c.loop-limit.invariant none

pub returns-in_default-superclass_of : goal.returns-in_default-superclass_of
returns-in_default-superclass_of g c =
    let parts : Parts = g.S.Sees.parts c.args.state.now in
    let top : superclass_of (class_part c.in-Some.object.now.body) ≡ None =
    grind (arith, c.superclass_of.ensures, c.in_default-superclass_of.is, c.in_default-superclass_of.not-Some) in
    ends_at_top parts c.loop-limit.limit c.loop-limit.class c.loop-limit-test.true
    (missing_of parts (line_at parts c.args.class)) c.loop-limit.invariant
    (fixed_part c.in-Some.object.now) c.in-Some.ensures top

pub loop-limit-preserved : goal.loop-limit-preserved
loop-limit-preserved g c =
    let parts : Parts = g.S.Sees.parts c.args.state.now in
    goes_up parts c.loop-limit.limit c.loop-limit.class c.loop-limit-test.true
    (missing_of parts (line_at parts c.args.class)) c.loop-limit.invariant
    (fixed_part c.in-Some.object.now) c.in-Some.ensures c.in-Some-superclass_of.superclass
    (sym c.in-Some-superclass_of.ensures)

pub returns : goal.returns
returns g c = ends_out (g.S.Sees.parts c.args.state.now) c.loop-limit.limit c.loop-limit.class
    (missing_of (g.S.Sees.parts c.args.state.now) (line_at (g.S.Sees.parts c.args.state.now) c.args.class)) (omega (arith, c.loop-limit-test.false)) c.loop-limit.invariant

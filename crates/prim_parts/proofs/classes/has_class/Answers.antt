use Rattle.std.proofs.Common.{◌≡◌, ◌∙◌, ◌-◌, sym, None, [], arith}
use Rattle.object_programs.specs.Guard.{Parts}
use Rattle.object_programs.specs.Programs.{part_of}
use Rattle.prim_parts.specs.Walks.{part_of_class, parts_seen, classes_up, classes_over, has_class}
use Rattle.prim_parts.proofs.Walks.{up_none, up_zero, up_last, up_more, found_none, found_here, found_above, up_some}
use Rattle.prim_parts.proofs.classes.has_class.Goals as goal

pub returns-in_default : goal.returns-in_default
returns-in_default g c =
    let parts : Parts = parts_seen (g.O.Objects.seen c.args.objects.now) in
    let none : part_of (parts c.loop-limit.class) ≡ None =
    grind (arith, c.class_at.ensures, c.in_default.is, c.in_default.not-Some) in
    found_none parts c.loop-limit.limit c.loop-limit.class c.args.ancestor
    (has_class c.args.ancestor (classes_up parts c.args.limit c.args.class)) c.loop-limit.invariant
    (up_none parts c.loop-limit.limit c.loop-limit.class none)

pub returns-then-eq : goal.returns-then-eq
returns-then-eq g c =
    let parts : Parts = parts_seen (g.O.Objects.seen c.args.objects.now) in
    found_here parts c.loop-limit.limit c.loop-limit.class (part_of_class c.in-Some.found.now)
    (classes_over c.in-Some.found.now.superclass (classes_up parts (c.loop-limit.limit - 1)))
    (up_some parts c.loop-limit.limit c.loop-limit.class (part_of_class c.in-Some.found.now) (sym c.in-Some.ensures)
    c.loop-limit-test.true)
    c.args.ancestor (has_class c.args.ancestor (classes_up parts c.args.limit c.args.class)) c.loop-limit.invariant
    (sym c.eq.ensures ∙ c.if-eq.true)

pub returns-in_default-superclass : goal.returns-in_default-superclass
returns-in_default-superclass g c =
    let parts : Parts = parts_seen (g.O.Objects.seen c.args.objects.now) in
    let top : c.in-Some.found.now.superclass ≡ None =
    grind (arith, c.in_default-superclass.is, c.in_default-superclass.not-Some) in
    found_above parts c.loop-limit.limit c.loop-limit.class (part_of_class c.in-Some.found.now) []
    (up_last parts c.loop-limit.limit c.loop-limit.class (part_of_class c.in-Some.found.now) (sym c.in-Some.ensures)
    c.loop-limit-test.true top)
    c.args.ancestor (has_class c.args.ancestor (classes_up parts c.args.limit c.args.class)) c.loop-limit.invariant
    (sym c.eq.ensures ∙ c.if-eq.false)

pub loop-limit-preserved : goal.loop-limit-preserved
loop-limit-preserved g c =
    let parts : Parts = parts_seen (g.O.Objects.seen c.args.objects.now) in
    found_above parts c.loop-limit.limit c.loop-limit.class (part_of_class c.in-Some.found.now)
    (classes_up parts (c.loop-limit.limit - 1) c.in-Some-superclass.superclass)
    (up_more parts c.loop-limit.limit c.loop-limit.class (part_of_class c.in-Some.found.now) (sym c.in-Some.ensures)
    c.loop-limit-test.true
    c.in-Some-superclass.superclass c.in-Some-superclass.is)
    c.args.ancestor (has_class c.args.ancestor (classes_up parts c.args.limit c.args.class)) c.loop-limit.invariant
    (sym c.eq.ensures ∙ c.if-eq.false)

pub returns : goal.returns
returns g c =
    let parts : Parts = parts_seen (g.O.Objects.seen c.args.objects.now) in
    found_none parts c.loop-limit.limit c.loop-limit.class c.args.ancestor
    (has_class c.args.ancestor (classes_up parts c.args.limit c.args.class)) c.loop-limit.invariant
    (up_zero parts c.loop-limit.limit c.loop-limit.class (omega (arith, c.loop-limit-test.false)))

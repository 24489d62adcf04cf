use Rattle.std.proofs.Common.{◌≡◌, ◌≤◌, ◌+◌, ◌-◌, ◌∙◌, sym, ap, ℕ, length, None, [], arith}
use Rattle.object_programs.specs.Guard.{Parts}
use Rattle.object_programs.specs.Programs.{part_of}
use Rattle.prim_parts.specs.Walks.{part_of_class, parts_seen, classes_up, classes_over, count_names}
use Rattle.prim_parts.proofs.Walks.{up_none, up_zero, up_last, up_more, up_some, counted_none, counted_here}
use Rattle.prim_parts.proofs.classes.count_names.Goals as goal

pub returns-in_default : goal.returns-in_default
returns-in_default g c =
    let parts : Parts = parts_seen (g.O.Objects.seen c.args.objects.now) in
    let none : part_of (parts c.loop-limit.class) ≡ None =
    grind (arith, c.class_at.ensures, c.in_default.is, c.in_default.not-Some) in
    counted_none parts c.loop-limit.limit c.loop-limit.class c.loop-limit.count
    (count_names (classes_up parts c.args.limit c.args.class)) c.loop-limit.invariant
    (up_none parts c.loop-limit.limit c.loop-limit.class none)

pub overflow_add-count : goal.overflow_add-count
overflow_add-count g c =
    let parts : Parts = parts_seen (g.O.Objects.seen c.args.objects.now) in
    let whole : ℕ = count_names (classes_up parts c.args.limit c.args.class) in
    let rest : ℕ = count_names (classes_over c.in-Some.found.now.superclass (classes_up parts (c.loop-limit.limit - 1))) in
    let counted : (c.loop-limit.count + length c.in-Some.found.now.names) + rest ≡ whole =
    counted_here parts c.loop-limit.limit c.loop-limit.class (part_of_class c.in-Some.found.now)
    (classes_over c.in-Some.found.now.superclass (classes_up parts (c.loop-limit.limit - 1)))
    (up_some parts c.loop-limit.limit c.loop-limit.class (part_of_class c.in-Some.found.now) (sym c.in-Some.ensures)
    c.loop-limit-test.true)
    c.loop-limit.count whole c.loop-limit.invariant in
    let most : whole ≤ 200 = c.requires in
    omega (arith, counted, most, c.len-count.ensures)

pub returns-in_default-superclass : goal.returns-in_default-superclass
returns-in_default-superclass g c =
    let parts : Parts = parts_seen (g.O.Objects.seen c.args.objects.now) in
    let top : c.in-Some.found.now.superclass ≡ None =
    grind (arith, c.in_default-superclass.is, c.in_default-superclass.not-Some) in
    let whole : ℕ = count_names (classes_up parts c.args.limit c.args.class) in
    let counted : (c.loop-limit.count + length c.in-Some.found.now.names) + 0 ≡ whole =
    counted_here parts c.loop-limit.limit c.loop-limit.class (part_of_class c.in-Some.found.now) []
    (up_last parts c.loop-limit.limit c.loop-limit.class (part_of_class c.in-Some.found.now) (sym c.in-Some.ensures)
    c.loop-limit-test.true top)
    c.loop-limit.count whole c.loop-limit.invariant in
    omega (arith, counted, c.len-count.ensures)

pub loop-limit-preserved : goal.loop-limit-preserved
loop-limit-preserved g c =
    let parts : Parts = parts_seen (g.O.Objects.seen c.args.objects.now) in
    let whole : ℕ = count_names (classes_up parts c.args.limit c.args.class) in
    let counted = counted_here parts c.loop-limit.limit c.loop-limit.class (part_of_class c.in-Some.found.now)
    (classes_up parts (c.loop-limit.limit - 1) c.in-Some-superclass.superclass)
    (up_more parts c.loop-limit.limit c.loop-limit.class (part_of_class c.in-Some.found.now) (sym c.in-Some.ensures)
    c.loop-limit-test.true
    c.in-Some-superclass.superclass c.in-Some-superclass.is)
    c.loop-limit.count whole c.loop-limit.invariant in
    let above : ℕ = count_names (classes_up parts (c.loop-limit.limit - 1) c.in-Some-superclass.superclass) in
    ap (λ (more : ℕ). (c.loop-limit.count + more) + above) c.len-count.ensures ∙ counted

pub returns : goal.returns
returns g c =
    let parts : Parts = parts_seen (g.O.Objects.seen c.args.objects.now) in
    counted_none parts c.loop-limit.limit c.loop-limit.class c.loop-limit.count
    (count_names (classes_up parts c.args.limit c.args.class)) c.loop-limit.invariant
    (up_zero parts c.loop-limit.limit c.loop-limit.class (omega (arith, c.loop-limit-test.false)))

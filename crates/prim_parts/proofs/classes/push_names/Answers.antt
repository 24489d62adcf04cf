use Rattle.std.proofs.Common.{◌≡◌, ◌++◌, ◌-◌, ◌∙◌, sym, ap, List, None, [], arith}
use Rattle.std.proofs.lemmas.List.{append-nil}
use Rattle.gem_object.specs.texts.Bytes.{Bytes as Text}
use Rattle.object_programs.specs.Guard.{Parts}
use Rattle.object_programs.specs.Programs.{part_of}
use Rattle.prim_parts.specs.Walks.{part_of_class, parts_seen, classes_up, names_of}
use Rattle.prim_parts.proofs.Walks.{up_none, up_zero, up_last, up_more, gathered_none, gathered_here}
use Rattle.prim_parts.proofs.classes.push_names.Goals as goal

pub returns-in_default : goal.returns-in_default
returns-in_default g c =
    let parts : Parts = parts_seen (g.O.Objects.seen c.args.objects.now) in
    let none : part_of (parts c.loop-limit.class) ≡ None =
    grind (arith, c.class_at.ensures, c.in_default.is, c.in_default.not-Some) in
    c.of.ensures ∙ gathered_none parts c.loop-limit.limit c.loop-limit.class c.loop-limit.names.items
    (names_of (classes_up parts c.args.limit c.args.class)) c.loop-limit.invariant
    (up_none parts c.loop-limit.limit c.loop-limit.class none)

pub returns-in_default-superclass : goal.returns-in_default-superclass
returns-in_default-superclass g c =
    let parts : Parts = parts_seen (g.O.Objects.seen c.args.objects.now) in
    let top : c.in-Some.found.now.superclass ≡ None =
    grind (arith, c.in_default-superclass.is, c.in_default-superclass.not-Some) in
    let own : List Text = c.in-Some.found.now.names in
    let whole : List Text = names_of (classes_up parts c.args.limit c.args.class) in
    let gathered : (c.loop-limit.names.items ++ own) ++ [] ≡ whole =
    gathered_here parts c.loop-limit.limit c.loop-limit.class (part_of_class c.in-Some.found.now) []
    (up_last parts c.loop-limit.limit c.loop-limit.class (part_of_class c.in-Some.found.now) (sym c.in-Some.ensures)
    c.loop-limit-test.true top)
    c.loop-limit.names.items whole c.loop-limit.invariant in
    let more : c.push_copies.new.names.items ≡ c.loop-limit.names.items ++ own =
    c.in_ok-push_copies.ensures ∙ ap (λ (more : List Text). c.loop-limit.names.items ++ more) c.as_slice.ensures in
    let pushed : c.push_copies.new.names.items ≡ whole = more ∙ sym (append-nil (c.loop-limit.names.items ++ own)) ∙ gathered in
    c.of-in_default-superclass.ensures ∙ pushed

pub loop-limit-preserved : goal.loop-limit-preserved
loop-limit-preserved g c =
    let parts : Parts = parts_seen (g.O.Objects.seen c.args.objects.now) in
    let above : List Text = names_of (classes_up parts (c.loop-limit.limit - 1) c.in-Some-superclass.superclass) in
    let gathered = gathered_here parts c.loop-limit.limit c.loop-limit.class (part_of_class c.in-Some.found.now)
    (classes_up parts (c.loop-limit.limit - 1) c.in-Some-superclass.superclass)
    (up_more parts c.loop-limit.limit c.loop-limit.class (part_of_class c.in-Some.found.now) (sym c.in-Some.ensures)
    c.loop-limit-test.true
    c.in-Some-superclass.superclass c.in-Some-superclass.is)
    c.loop-limit.names.items (names_of (classes_up parts c.args.limit c.args.class)) c.loop-limit.invariant in
    ap (λ (names : List Text). names ++ above) c.in_ok-push_copies.ensures
    ∙ ap (λ (more : List Text). (c.loop-limit.names.items ++ more) ++ above) c.as_slice.ensures ∙ gathered

pub returns : goal.returns
returns g c =
    let parts : Parts = parts_seen (g.O.Objects.seen c.args.objects.now) in
    c.of-2.ensures ∙ gathered_none parts c.loop-limit.limit c.loop-limit.class c.loop-limit.names.items
    (names_of (classes_up parts c.args.limit c.args.class)) c.loop-limit.invariant
    (up_zero parts c.loop-limit.limit c.loop-limit.class (omega (arith, c.loop-limit-test.false)))

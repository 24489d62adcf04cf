use Rattle.std.proofs.Common.{◌≡◌, ◌<◌, ◌≤◌, ◌∙◌, sym, subst, ℕ, length, None, Bool, arith}
use Rattle.object_programs.specs.Guard.{Parts, holds_of, names_at}
use Rattle.object_programs.specs.Programs.{part_of}
use Rattle.object_guard.specs.Parts.{part_of_class, has_room}
use Rattle.object_guard.proofs.Names.{names_up, begins, ends_nowhere, ends_full, ends_at_top, goes_up, ends_out}
use Rattle.object_guard.proofs.classes.has_names.Goals as goal

pub loop-limit-init : goal.loop-limit-init
loop-limit-init g c = begins (g.S.Sees.parts c.args.state.now) c.args.slots c.args.class

pub loop-limit-preserved : goal.loop-limit-preserved
loop-limit-preserved g c =
    let parts : Parts = g.S.Sees.parts c.args.state.now in
    let few : length c.in-Some.found.now.names ≤ c.loop-limit.slots = omega (arith, c.if-len-slots.false, c.len.ensures) in
    rw c.len-slots.ensures (goes_up parts c.loop-limit.limit c.loop-limit.class c.loop-limit.slots c.loop-limit-test.true
    (holds_of (has_room c.args.slots) (names_at parts c.args.class)) c.loop-limit.invariant
    (part_of_class c.in-Some.found.now) (sym c.in-Some.ensures) c.in-Some-superclass.superclass c.in-Some-superclass.is few)

pub returns-in_default : goal.returns-in_default
returns-in_default g c =
    let parts : Parts = g.S.Sees.parts c.args.state.now in
    let none : part_of (parts c.loop-limit.class) ≡ None = grind (arith, c.class_at.ensures, c.in_default.is, c.in_default.not-Some) in
    ends_nowhere parts c.loop-limit.limit c.loop-limit.class c.loop-limit.slots c.loop-limit-test.true
    (holds_of (has_room c.args.slots) (names_at parts c.args.class)) c.loop-limit.invariant none

pub returns-then-len-slots : goal.returns-then-len-slots
returns-then-len-slots g c =
    let parts : Parts = g.S.Sees.parts c.args.state.now in
    let many : c.loop-limit.slots < length c.in-Some.found.now.names = omega (arith, c.if-len-slots.true, c.len.ensures) in
    ends_full parts c.loop-limit.limit c.loop-limit.class c.loop-limit.slots c.loop-limit-test.true
    (holds_of (has_room c.args.slots) (names_at parts c.args.class)) c.loop-limit.invariant
    (part_of_class c.in-Some.found.now) (sym c.in-Some.ensures) many

pub returns-in_default-superclass : goal.returns-in_default-superclass
returns-in_default-superclass g c =
    let parts : Parts = g.S.Sees.parts c.args.state.now in
    let few : length c.in-Some.found.now.names ≤ c.loop-limit.slots = omega (arith, c.if-len-slots.false, c.len.ensures) in
    let top : c.in-Some.found.now.superclass ≡ None = grind (arith, c.in_default-superclass.is, c.in_default-superclass.not-Some) in
    c.is_kernel_name.ensures
    ∙ ends_at_top parts c.loop-limit.limit c.loop-limit.class c.loop-limit.slots c.loop-limit-test.true
    (holds_of (has_room c.args.slots) (names_at parts c.args.class)) c.loop-limit.invariant
    (part_of_class c.in-Some.found.now) (sym c.in-Some.ensures) top few

pub returns : goal.returns
returns g c =
    let parts : Parts = g.S.Sees.parts c.args.state.now in
    let whole : Bool = holds_of (has_room c.args.slots) (names_at parts c.args.class) in
    let zero : c.loop-limit.limit ≡ 0 = omega (arith, c.loop-limit-test.false) in
    let At : ℕ → Type 0 = λ limit. holds_of (has_room c.loop-limit.slots) (names_up parts limit c.loop-limit.class) ≡ whole in
    ends_out parts c.loop-limit.class c.loop-limit.slots whole (subst At zero c.loop-limit.invariant)

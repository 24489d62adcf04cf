use Rattle.std.proofs.Common.{ℕ, Option, OnOk, sym, subst, ◌∙◌}
use Rattle.gem_disk.specs.declared.disk.Which.TheVariants.{Extent}
use Rattle.gem_disk.specs.Disk.{reads}
use Rattle.page_file.specs.Planned.{new_page, IsRooted}
use Rattle.page_file.proofs.Planning.{begins, first_stands, first_switched, renews, later_stands, later_switched}
use Rattle.page_file.proofs.writing.write_planned.Goals as goal

pub write_first-requires : goal.write_first-requires
write_first-requires g c tells =
    let given = c.requires.planned tells in
    let may = given.4 in
    (may.next, begins (g.D.Disk.past c.args.disk.now) given.1 given.2 c.args.pieces.now given.0 may (sym c.in-None.is ∙ given.3))

pub write_later-requires : goal.write_later-requires
write_later-requires g c tells =
    let given = c.requires.planned tells in
    let may = given.4 in
    let r = renews (g.D.Disk.past c.args.disk.now) given.1 given.2 c.args.pieces.now c.in-Some.page given.0 may (sym c.in-Some.is ∙ given.3) in
    (r.0, may.next, r.2)

pub returns-in-None-clause-any_moment : goal.returns-in-None-clause-any_moment
returns-in-None-clause-any_moment g c before image number tells is may =
    let past = g.D.Disk.past c.args.disk.now in
    let none = sym c.in-None.is ∙ is in
    first_stands past image number c.args.pieces.now (g.D.Disk.past c.write_first.new.disk) before may none
    (c.write_first.ensures.any_moment may.next tells (begins past image number c.args.pieces.now before may none))

pub returns-in-None-clause-done : goal.returns-in-None-clause-done
returns-in-None-clause-done g c before image number tells is may =
    let past = g.D.Disk.past c.args.disk.now in
    let none = sym c.in-None.is ∙ is in
    subst (λ (root : Option ℕ). OnOk c.write_first.result (IsRooted (reads (g.D.Disk.past c.write_first.new.disk) Extent) may.next (new_page root))) (sym c.in-None.is)
    (c.write_first.ensures.done may.next tells (begins past image number c.args.pieces.now before may none))

pub returns-in-Some-clause-any_moment : goal.returns-in-Some-clause-any_moment
returns-in-Some-clause-any_moment g c before image number tells is may =
    let past = g.D.Disk.past c.args.disk.now in
    later_stands past image number c.args.pieces.now c.in-Some.page (g.D.Disk.past c.write_later.new.disk) before may (sym c.in-Some.is ∙ is)
    (λ extent renew. c.write_later.ensures.any_moment extent may.next tells renew)

pub returns-in-Some-clause-done : goal.returns-in-Some-clause-done
returns-in-Some-clause-done g c before image number tells is may =
    let past = g.D.Disk.past c.args.disk.now in
    let r = renews past image number c.args.pieces.now c.in-Some.page before may (sym c.in-Some.is ∙ is) in
    subst (λ (root : Option ℕ). OnOk c.write_later.result (IsRooted (reads (g.D.Disk.past c.write_later.new.disk) Extent) may.next (new_page root))) (sym c.in-Some.is)
    (c.write_later.ensures.done r.0 may.next tells r.2)

pub returns-in-None-clause-switches : goal.returns-in-None-clause-switches
returns-in-None-clause-switches g c before image number tells is may =
    let past = g.D.Disk.past c.args.disk.now in
    let none = sym c.in-None.is ∙ is in
    first_switched past image number c.args.pieces.now (g.D.Disk.past c.write_first.new.disk) before may none
    (c.write_first.ensures.switches may.next tells (begins past image number c.args.pieces.now before may none))

pub returns-in-Some-clause-switches : goal.returns-in-Some-clause-switches
returns-in-Some-clause-switches g c before image number tells is may =
    let past = g.D.Disk.past c.args.disk.now in
    later_switched past image number c.args.pieces.now c.in-Some.page (g.D.Disk.past c.write_later.new.disk) before may (sym c.in-Some.is ∙ is)
    (λ extent renew. c.write_later.ensures.switches extent may.next tells renew)

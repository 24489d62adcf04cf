use Rattle.std.proofs.Common.{refl, ◌∙◌}
use Rattle.gem_disk.specs.declared.disk.Which.TheVariants.{Extent}
use Rattle.gem_disk.specs.Disk.{reads}
use Rattle.page_file.proofs.Changes.{root_is, may_write, rooted_next, is_changed, still_stands, nothing_switched}
use Rattle.page_file.proofs.file.PageFile.write_changed.Goals as goal

pub returns-in_err-page-clause-any_moment : goal.returns-in_err-page-clause-any_moment
returns-in_err-page-clause-any_moment g c before tells may =
    still_stands (g.D.Disk.past c.args.disk.now) c.args.self.now before c.args.image.now c.args.number c.args.changed.now may

pub write_planned-requires-clause-planned : goal.write_planned-requires-clause-planned
write_planned-requires-clause-planned g c tells =
    let past = g.D.Disk.past c.args.disk.now in
    let given = c.requires.may tells in
    let next = c.in_ok-page.ensures.planned past given.0 c.requires.small given.1 in (
      given.0,
      c.args.image.now,
      c.args.number,
      c.root_page.ensures.page ∙ root_is past c.args.self.now given.0 c.args.image.now c.args.number c.args.changed.now given.1,
      may_write past given.0 c.args.image.now c.args.number c.in_ok-page.page c.in_ok-page.plan c.deref.result.now next c.deref.ensures.value,
    )

pub returns-in_err-write_planned-clause-any_moment : goal.returns-in_err-write_planned-clause-any_moment
returns-in_err-write_planned-clause-any_moment g c before tells may =
    let past = g.D.Disk.past c.args.disk.now in
    let next = c.in_ok-page.ensures.planned past before c.requires.small may in
    c.write_planned.ensures.any_moment before c.args.image.now c.args.number tells
    (c.root_page.ensures.page ∙ root_is past c.args.self.now before c.args.image.now c.args.number c.args.changed.now may)
    (may_write past before c.args.image.now c.args.number c.in_ok-page.page c.in_ok-page.plan c.deref.result.now next c.deref.ensures.value)

pub returns-clause-any_moment : goal.returns-clause-any_moment
returns-clause-any_moment g c before tells may =
    let past = g.D.Disk.past c.args.disk.now in
    let next = c.in_ok-page.ensures.planned past before c.requires.small may in
    c.write_planned.ensures.any_moment before c.args.image.now c.args.number tells
    (c.root_page.ensures.page ∙ root_is past c.args.self.now before c.args.image.now c.args.number c.args.changed.now may)
    (may_write past before c.args.image.now c.args.number c.in_ok-page.page c.in_ok-page.plan c.deref.result.now next c.deref.ensures.value)

pub returns-clause-made : goal.returns-clause-made
returns-clause-made g c before tells may =
    let past = g.D.Disk.past c.args.disk.now in
    let new = g.D.Disk.past c.write_planned.new.disk in
    let next = c.in_ok-page.ensures.planned past before c.requires.small may in
    let same = c.root_page.ensures.page ∙ root_is past c.args.self.now before c.args.image.now c.args.number c.args.changed.now may in
    let rooted = rooted_next past before c.args.image.now c.args.number c.in_ok-page.page c.in_ok-page.plan next (reads new Extent) c.deref.result.now c.root_page.result c.deref.ensures.value same
    (c.in_ok-write_planned.ensures.done before c.args.image.now c.args.number tells same) in
    is_changed past new before c.args.image.now c.args.number c.in_ok-page.page c.in_ok-page.plan _ _ next (c.in_ok-write_planned.ensures.durable tells) rooted refl refl refl refl refl

pub returns-in_err-page-clause-switches : goal.returns-in_err-page-clause-switches
returns-in_err-page-clause-switches g c before tells may =
    nothing_switched (g.D.Disk.past c.args.disk.now) c.args.self.now before c.args.image.now c.args.number c.args.changed.now may

pub returns-in_err-write_planned-clause-switches : goal.returns-in_err-write_planned-clause-switches
returns-in_err-write_planned-clause-switches g c before tells may =
    let past = g.D.Disk.past c.args.disk.now in
    let next = c.in_ok-page.ensures.planned past before c.requires.small may in
    c.write_planned.ensures.switches before c.args.image.now c.args.number tells
    (c.root_page.ensures.page ∙ root_is past c.args.self.now before c.args.image.now c.args.number c.args.changed.now may)
    (may_write past before c.args.image.now c.args.number c.in_ok-page.page c.in_ok-page.plan c.deref.result.now next c.deref.ensures.value)

pub returns-clause-switches : goal.returns-clause-switches
returns-clause-switches g c before tells may =
    let past = g.D.Disk.past c.args.disk.now in
    let next = c.in_ok-page.ensures.planned past before c.requires.small may in
    c.write_planned.ensures.switches before c.args.image.now c.args.number tells
    (c.root_page.ensures.page ∙ root_is past c.args.self.now before c.args.image.now c.args.number c.args.changed.now may)
    (may_write past before c.args.image.now c.args.number c.in_ok-page.page c.in_ok-page.plan c.deref.result.now next c.deref.ensures.value)

use Rattle.std.proofs.Common.{◌≡◌, ◌∙◌, refl, sym, ap, true, false, Some, is_some}
use Rattle.std.proofs.lemmas.Result.{on_ok_weaker}
use Rattle.std.specs.FinMap.{get}
use Rattle.gem_image.specs.Image.{contents_of}
use Rattle.gem_world.specs.World.{before_changes}
use Rattle.plain_state.proofs.Notes.{applied_written, applied_not, taken_before, applied_new}
use Rattle.plain_state.proofs.parts.Parts.apply.Goals as goal

pub returns-then-has-clause-applied : goal.returns-then-has-clause-applied
returns-then-has-clause-applied c =
    let some : is_some (get c.self.inside.shown.changes c.args.oid) ≡ true =
    rw (← c.number.ensures.number) (sym c.has.ensures ∙ c.if-has.true) in
    on_ok_weaker c.update.result (λ is. rw is (rw (← c.self.view_is)
    (applied_written _ c.args.oid c.args.update c.number-then-has.result _ refl c.number-then-has.ensures.number some)))
    c.update.ensures.updated

pub returns-then-not-branch-clause-applied : goal.returns-then-not-branch-clause-applied
returns-then-not-branch-clause-applied c =
    let none : is_some (get c.self.inside.shown.changes c.args.oid) ≡ false =
    rw (← c.number.ensures.number) (sym c.has.ensures ∙ c.if-has.false) in
    rw (← c.self.view_is) (applied_not _ c.args.oid c.args.update (contents_of c.in-Some.object.now) (contents_of c.in_ok-copy.copy)
    (ap contents_of c.in_ok-copy.ensures.cases) none (sym c.in-Some.ensures)
    (sym c.in_ok-take_update.ensures.taken ∙ c.if-not-branch.true))

pub returns-clause-taken : goal.returns-clause-taken
returns-clause-taken c =
    let none : is_some (get c.args.self.now.seen.world.changes c.args.oid) ≡ false =
    rw (← c.self.view_is, ← c.number.ensures.number) (sym c.has.ensures ∙ c.if-has.false) in
    let before : before_changes c.args.oid c.args.self.now.seen.setting ≡ Some (contents_of c.in-Some.object.now) =
    rw (← c.self.view_is) (sym c.in-Some.ensures) in
    taken_before c.args.self.now.seen c.args.oid c.args.update (contents_of c.in-Some.object.now) (contents_of c.in_ok-copy.copy)
    (ap contents_of c.in_ok-copy.ensures.cases) none before
    (sym c.in_ok-take_update.ensures.taken ∙ c.if-not-branch.false)

pub returns-clause-applied : goal.returns-clause-applied
returns-clause-applied c =
    let none : is_some (get c.self.inside.shown.changes c.args.oid) ≡ false =
    rw (← c.number.ensures.number) (sym c.has.ensures ∙ c.if-has.false) in
    rw (c.in_ok-put.ensures.put, ← c.self.view_is) (applied_new _ c.args.oid c.args.update c.number-2.result
    (contents_of c.in-Some.object.now) (contents_of c.in_ok-copy.copy) (contents_of c.take_update.new.object) _
    refl c.number-2.ensures.number c.in_ok-take_update.ensures.updated
    (ap contents_of c.in_ok-copy.ensures.cases) none (sym c.in-Some.ensures)
    (sym c.in_ok-take_update.ensures.taken ∙ c.if-not-branch.false))

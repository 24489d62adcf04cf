use Rattle.std.proofs.Common.{◌≡◌, ◌∙◌, refl, sym, ap, true, false, is_some}
use Rattle.std.proofs.lemmas.Result.{on_ok_weaker}
use Rattle.std.specs.FinMap.{get}
use Rattle.gem_image.specs.Image.{contents_of}
use Rattle.plain_state.proofs.Touched.{held_there, held_by}
use Rattle.plain_state.proofs.parts.Parts.hold.Goals as goal

pub returns-then-has-clause-held : goal.returns-then-has-clause-held
returns-then-has-clause-held c =
    let some : is_some (get c.args.self.now.seen.world.changes c.args.oid) ≡ true =
    rw (← c.self.view_is, ← c.number.ensures.number) (sym c.has.ensures ∙ c.if-has.true) in
    held_there c.args.self.now.seen c.args.oid some

pub returns-clause-held : goal.returns-clause-held
returns-clause-held c =
    let none : is_some (get c.self.inside.shown.changes c.args.oid) ≡ false =
    rw (← c.number.ensures.number) (sym c.has.ensures ∙ c.if-has.false) in
    on_ok_weaker c.put.result (λ is. rw is (rw (← c.self.view_is)
    (held_by _ c.args.oid c.number-2.result (contents_of c.in-Some.object.now) (contents_of c.in_ok-copy.copy) _
    refl c.number-2.ensures.number (ap contents_of c.in_ok-copy.ensures.cases) none (sym c.in-Some.ensures)
    (sym c.is_shared.ensures ∙ c.if-is_shared.false)))) c.put.ensures.put

use Rattle.std.proofs.Common.{◌≡◌, ◌∙◌, refl, sym, ap, subst, Some, true, false, is_some}
use Rattle.std.proofs.lemmas.Result.{on_ok_weaker}
use Rattle.std.specs.FinMap.{get, insert}
use Rattle.gem_image.specs.Image.{contents_of}
use Rattle.gem_world.specs.World.{before_changes}
use Rattle.gem_world.specs.Changes.{in_segment}
use Rattle.plain_state.specs.Room.{SeenWithRoom}
use Rattle.plain_state.specs.Writes.{replaced}
use Rattle.plain_state.proofs.OneStep.{moved_there, replaced_there, seen_before}
use Rattle.plain_state.proofs.parts.Parts.replace_segment.Goals as goal

pub returns-then-has-clause-replaced : goal.returns-then-has-clause-replaced
returns-then-has-clause-replaced c =
    let some : is_some (get c.self.inside.shown.changes c.args.oid) ≡ true =
    rw (← c.number.ensures.number) (sym c.has.ensures ∙ c.if-has.true) in
    on_ok_weaker c.edit.result (λ is. rw is (rw (← c.self.view_is)
    (moved_there _ c.args.oid c.number-then-has.result c.args.segment _ refl c.number-then-has.ensures.number some)))
    c.edit.ensures.edited

pub returns-clause-replaced : goal.returns-clause-replaced
returns-clause-replaced c =
    let x = c.args.self.now.seen in
    let new = in_segment c.args.segment (contents_of c.in_ok-copy.copy) in
    let none : is_some (get c.args.self.now.seen.world.changes c.args.oid) ≡ false =
    rw (← c.self.view_is, ← c.number.ensures.number) (sym c.has.ensures ∙ c.if-has.false) in
    let before : before_changes c.args.oid c.args.self.now.seen.setting ≡ Some (contents_of c.in-Some.object.now) =
    rw (← c.self.view_is) (sym c.in-Some.ensures) in
    let P : SeenWithRoom → Type 0 = λ s. record s.seen {
      world = record s.seen.world { changes = insert s.seen.world.changes c.number-2.result new };
    } ≡ replaced c.args.oid (in_segment c.args.segment) c.args.self.now.seen in
    on_ok_weaker c.put.result (λ is. rw is (subst P (sym c.self.view_is)
    (replaced_there x c.args.oid c.number-2.result (in_segment c.args.segment) (contents_of c.in-Some.object.now) new _
    refl c.number-2.ensures.number
    (ap (λ object. in_segment c.args.segment (contents_of object)) c.in_ok-copy.ensures.cases)
    (seen_before x c.args.oid (contents_of c.in-Some.object.now) none before)))) c.put.ensures.put

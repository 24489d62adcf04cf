use Rattle.std.proofs.Common.{◌≡◌, refl, sym, subst}
use Rattle.std.proofs.lemmas.Result.{on_ok_weaker}
use Rattle.std.specs.FinMap.{insert}
use Rattle.gem_world.specs.Changes.{with_body}
use Rattle.gem_image.specs.Image.{contents_of}
use Rattle.plain_state.specs.Room.{SeenWithRoom}
use Rattle.plain_state.specs.Writes.{replaced}
use Rattle.plain_state.proofs.OneStep.{replaced_there}
use Rattle.plain_state.proofs.parts.Parts.replace_body.Goals as goal

pub returns-clause-replaced : goal.returns-clause-replaced
returns-clause-replaced c =
    let x = c.args.self.now.seen in
    let new = with_body c.args.body (contents_of c.in-Some.old.now) in
    let P : SeenWithRoom → Type 0 = λ s. record s.seen {
      world = record s.seen.world { changes = insert s.seen.world.changes c.number.result new };
    } ≡ replaced c.args.oid (with_body c.args.body) c.args.self.now.seen in
    on_ok_weaker c.put.result (λ is. rw is (subst P (sym c.self.view_is)
    (replaced_there x c.args.oid c.number.result (with_body c.args.body) (contents_of c.in-Some.old.now) new _
    refl c.number.ensures.number refl (sym c.in-Some.ensures)))) c.put.ensures.put

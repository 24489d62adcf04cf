use Rattle.std.proofs.Common.{refl, subst, le_refl}
use Rattle.gem_meaning.specs.gem_sound.Sound.{IsSoundImage}
use Rattle.gem_meaning.specs.Events.{standing}
use Rattle.history_laws.proofs.Views.{image_now, number_at_least}
use Rattle.stone_core.proofs.OneMore.{session_bounds}
use Rattle.stone_core.proofs.Calls.{begun_alone}
use Rattle.stone_core.proofs.stone.StoneStonePort.begin.Goals as goal

pub returns-clause-begun : goal.returns-clause-begun
returns-clause-begun g c =
    let t = c.args.self.now.told in
    let s = standing t in
    let opening = c.keeps_order.ensures.opening in
    let serial = c.keeps_order.ensures.consistent.serial in
    begun_alone t c.args._session opening
    (subst IsSoundImage (image_now s s.number refl)
    (c.images_are_sound.ensures.sound t s.number opening serial (number_at_least t.opened t.events) (le_refl s.number)))
    (c.names_are_free.ensures.free t c.args._session opening serial (session_bounds t.opened c.args._session c.requires.serves).0)
    c.requires.serves c.begin-begun.result c.begin-begun.ensures.image c.begin-begun.ensures.number

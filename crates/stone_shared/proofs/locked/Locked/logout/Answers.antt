use Rattle.std.proofs.Common.{◌≡◌, ◌∙◌, sym, ap, subst, List}
use Rattle.gem_clock.specs.Shown.{PenView, StampView}
use Rattle.gem_meaning.specs.declared.event.What.{What}
use Rattle.gem_meaning.specs.Events.{Event}
use Rattle.stone_core.specs.Port.{LogoutSays}
use Rattle.stone_core.proofs.Others.{adds, logout_shared}
use Rattle.stone_shared.specs.Shared.{told_at}
use Rattle.stone_shared.proofs.Turn.{came_at}
use Rattle.stone_shared.proofs.locked.Locked.logout.Goals as goal

pub note-requires-clause-own : goal.note-requires-clause-own
note-requires-clause-own g c =
    rw (c.events-seen.ensures, c.events.ensures)
    (adds c.args.session c.self.inside.stone.told c.logout.new.self.told c.logout.ensures.port).own

pub returns-clause-says : goal.returns-clause-says
returns-clause-says g c =
    let o = g.N.Named.opened in
    let came = came_at g.N.Named.opened c.args.stamp c.args.session c.self.inside.pen.list c.self.inside.stone.told.events c.requires.serves c.meet.ensures.met c.self.invariant.1 in
    let seen : c.logout.new.self.told.events ≡ c.stamp.result.list =
    sym (ap (λ (s : StampView What). s.list) c.stamp.ensures.stamp ∙ ap (λ (p : PenView What). p.list) c.note.ensures ∙ c.events.ensures) in
    subst (λ (es : List Event). LogoutSays o c.args.stamp.list es c.args.session) seen
    (logout_shared (told_at o c.args.stamp) c.self.inside.stone.told c.logout.new.self.told c.self.invariant.2 c.args.session came c.logout.ensures.says)

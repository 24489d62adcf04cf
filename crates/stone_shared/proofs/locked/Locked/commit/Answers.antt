use Rattle.std.proofs.Common.{◌≡◌, ◌∙◌, sym, ap}
use Rattle.gem_clock.specs.Shown.{PenView, StampView}
use Rattle.gem_meaning.specs.declared.event.What.{What}
use Rattle.stone_core.proofs.Others.{adds, recorded_shared}
use Rattle.stone_shared.specs.Shared.{told_at}
use Rattle.stone_shared.proofs.Turn.{came_at, is_author, goes_on_at}
use Rattle.stone_shared.proofs.locked.Locked.commit.Goals as goal

pub note-requires-clause-own : goal.note-requires-clause-own
note-requires-clause-own g c =
    rw (c.events-seen.ensures, c.events.ensures)
    (adds c.args.done.now.session c.self.inside.stone.told c.commit-answer.new.self.told c.commit-answer.ensures.port).own

pub commit-answer-requires-clause-recorded : goal.commit-answer-requires-clause-recorded
commit-answer-requires-clause-recorded g c =
    recorded_shared (told_at g.N.Named.opened c.args.stamp) c.self.inside.stone.told c.args.done.now c.self.invariant.2
    (came_at g.N.Named.opened c.args.stamp c.args.done.now.session c.self.inside.pen.list c.self.inside.stone.told.events c.requires.serves c.meet.ensures.met c.self.invariant.1) c.requires.recorded

pub returns-clause-port : goal.returns-clause-port
returns-clause-port g c =
    let came = came_at g.N.Named.opened c.args.stamp c.args.done.now.session c.self.inside.pen.list c.self.inside.stone.told.events c.requires.serves c.meet.ensures.met c.self.invariant.1 in
    let seen : c.commit-answer.new.self.told.events ≡ c.stamp.result.list =
    sym (ap (λ (s : StampView What). s.list) c.stamp.ensures.stamp ∙ ap (λ (p : PenView What). p.list) c.note.ensures ∙ c.events.ensures) in
    goes_on_at g.N.Named.opened c.args.done.now.session c.args.stamp c.stamp.result c.self.inside.stone.told c.commit-answer.new.self.told c.self.invariant.2 seen came
    (ap (λ (s : StampView What). s.author) c.stamp.ensures.stamp ∙ is_author g.N.Named.opened c.args.stamp.author c.args.done.now.session c.requires.serves)
    c.commit-answer.ensures.port

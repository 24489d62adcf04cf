use Rattle.stone_core.proofs.Others.{adds, there_shared}
use Rattle.stone_shared.specs.Shared.{told_at}
use Rattle.stone_shared.proofs.Turn.{came_at}
use Rattle.stone_shared.proofs.locked.Locked.lock.Goals as goal

pub note-requires-clause-own : goal.note-requires-clause-own
note-requires-clause-own g c =
    rw (c.events-seen.ensures, c.events.ensures)
    (adds c.args.session c.self.inside.stone.told c.lock-answer.new.self.told c.lock-answer.ensures.port).own

pub lock-answer-requires-clause-there : goal.lock-answer-requires-clause-there
lock-answer-requires-clause-there g c =
    there_shared (told_at g.N.Named.opened c.args.stamp) c.self.inside.stone.told c.args.session c.args.oid c.self.invariant.2
    (came_at g.N.Named.opened c.args.stamp c.args.session c.self.inside.pen.list c.self.inside.stone.told.events c.requires.serves c.meet.ensures.met c.self.invariant.1) c.requires.there

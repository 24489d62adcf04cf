use Rattle.stone_core.proofs.Others.{adds}
use Rattle.stone_shared.proofs.locked.Locked.checkpoint.Goals as goal

pub note-requires-clause-own : goal.note-requires-clause-own
note-requires-clause-own g c =
    rw (c.events-seen.ensures, c.events.ensures)
    (adds c.args.session c.self.inside.stone.told c.checkpoint-answer.new.self.told c.checkpoint-answer.ensures.port).own

use Rattle.stone_core.proofs.Others.{adds}
use Rattle.stone_shared.proofs.locked.Locked.unlock.Goals as goal

pub note-requires-clause-own : goal.note-requires-clause-own
note-requires-clause-own g c =
    rw (c.events-seen.ensures, c.events.ensures)
    (adds c.args.session c.self.inside.stone.told c.unlock-held.new.self.told c.unlock-held.ensures.port).own

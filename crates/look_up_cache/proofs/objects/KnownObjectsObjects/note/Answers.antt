use Rattle.look_up_cache.proofs.Keeps.{note_known}
use Rattle.look_up_cache.proofs.objects.KnownObjectsObjects.note.Goals as goal

pub invariant_of-self : goal.invariant_of-self
invariant_of-self g c = note_known g.T.MethodCodeKept.is_of c.self.inside.memory
    (g.O.Objects.seen c.self.inside.objects) (g.O.Objects.seen c.note-result.new.self)
    c.args.oid c.args.update c.self.inside.holds c.still-self-inside.result c.note-result.result c.still-self-inside.ensures c.note-result.ensures c.self.invariant

use Rattle.running_objects.specs.Seen.{Seen}
use Rattle.look_up_cache.proofs.AfterWrites.{reached_writable, written_met}
use Rattle.look_up_cache.proofs.writes.remember_object_written.Goals as goal

pub returns-then-is_ordinary : goal.returns-then-is_ordinary
returns-then-is_ordinary g c before reached all =
    let seen : Seen = g.O.Objects.seen c.args.objects.now in
    c.put_receiver.ensures seen (written_met c.args.name c.in-Some.known.now c.copy.result seen
    c.in-Some.ensures.name (c.in-Some.ensures.met seen all) c.copy.ensures
    (reached_writable c.args.name before seen reached
    (c.is_ordinary.ensures c.if-is_ordinary.true reached.object reached.there))) all

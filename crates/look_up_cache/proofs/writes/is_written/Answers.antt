use Rattle.look_up_cache.proofs.AfterWrites.{written_reached}
use Rattle.look_up_cache.proofs.writes.is_written.Goals as goal

pub returns-in-Some : goal.returns-in-Some
returns-in-Some c = λ seen all is. written_reached c.args.name c.in-Some.receiver.now seen c.in-Some.ensures.name
    (c.in-Some.ensures.met seen all) is

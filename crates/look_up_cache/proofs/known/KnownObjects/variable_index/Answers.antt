use Rattle.look_up_cache.proofs.Names.{stands_does}
use Rattle.look_up_cache.proofs.known.KnownObjects.variable_index.Goals as goal

pub returns-in-Some : goal.returns-in-Some
returns-in-Some g c = stands_does c.args.holder c.args.name.now c.in-Some.found (g.O.Objects.seen c.args.self.now.0)
    c.in-Some.ensures

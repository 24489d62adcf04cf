use Rattle.std.proofs.Common.{sym}
use Rattle.look_up_cache.specs.Memory.{start_at}
use Rattle.look_up_cache.proofs.Again.{place_known}
use Rattle.look_up_cache.proofs.finding.is_at.Goals as goal

pub returns-in-Some : goal.returns-in-Some
returns-in-Some g c = λ is seen all. place_known c.args.methods.now.items c.args.at c.in-Some.entry.now
    (start_at c.args.start.now) c.args.selector.now (sym c.in-Some.ensures) (c.is_for.ensures.start is)
    (c.is_for.ensures.selector is) seen all

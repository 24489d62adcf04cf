use Rattle.std.proofs.Common.{refl}
use Rattle.look_up_cache.proofs.AfterReads.{learned}
use Rattle.look_up_cache.proofs.finding.remember_read.Goals as goal

pub returns-then-held-clause-holds : goal.returns-then-held-clause-holds
returns-then-held-clause-holds g c before reached holds =
    learned c.args.held c.args.memory.now
    (record {
      receivers = c.remember_object_read.new.receivers;
      methods = c.args.memory.now.methods;
      variables = c.args.memory.now.variables;
      counts = c.args.memory.now.counts;
      operators = c.args.memory.now.operators;
    })
    (g.O.Objects.seen c.args.objects.now) (c.remember_object_read.ensures before reached) refl refl refl refl holds

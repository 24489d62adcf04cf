use Rattle.std.proofs.Common.{sym, subst}
use Rattle.look_up_cache.specs.Calm.{Begins}
use Rattle.look_up_cache.specs.Memory.{start_at}
use Rattle.look_up_cache.specs.declared.memory.Beginning.{Beginning}
use Rattle.look_up_cache.proofs.finding.remember_object.Goals as goal

pub returns : goal.returns
returns c = λ seen begins. c.put_receiver.ensures seen (record {
  begins = subst (λ (s : Beginning). Begins c.args.name (start_at s) seen.setting seen.world) (sym c.copy.ensures) begins;
  writable = tt;
  reads = tt;
  puts = tt;
})

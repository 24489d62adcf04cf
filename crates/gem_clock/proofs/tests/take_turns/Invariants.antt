use Rattle.std.proofs.Common.{◌≡◌}
use Rattle.gem_clock.proofs.tests.take_turns.Given as goal

-- the stamp is always one of this clock
abbrev pub invariant-loop : goal.invariant-loop
invariant-loop g l = l.stamp.clock ≡ g.N.Naming.clock

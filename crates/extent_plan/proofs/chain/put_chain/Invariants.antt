use Rattle.std.proofs.Common.{length}
use Rattle.extent_plan.proofs.Chains.{Adding}
use Rattle.extent_plan.proofs.chain.put_chain.Given as goal

abbrev pub invariant-loop-page : goal.invariant-loop-page
invariant-loop-page l = Adding l.initial.out.items l.out.items l.pages l.payload l.rest l.left

abbrev pub decreases-loop-page : goal.decreases-loop-page
decreases-loop-page l = length l.rest

use Rattle.std.proofs.Common.{refl, arith}
use Rattle.load_maker.proofs.Added.{session_added, sessions_added}
use Rattle.load_maker.proofs.sums.load_sum.Goals as goal

pub loop-preserved : goal.loop-preserved
loop-preserved c = (
  session_added c.args.sessions c.args.rounds c.loop.counter _ c.loop.total _ c.loop.generator.state
      c.session_sum-total.new.generator.state c.session_sum-total.result c.loop-test.true c.session_sum-total.ensures.state
      c.session_sum-total.ensures.sum refl c.loop.invariant.0,
  let bound = c.loop.invariant.1 in let few = c.session_sum-total.ensures.bound in let below = c.loop-test.true in
      let rounds = c.requires.rounds.1 in omega (arith, bound, few, below, rounds),
)

pub returns : goal.returns
returns c = sessions_added c.args.sessions c.args.rounds c.loop.counter _ c.loop.total c.loop.generator.state
    c.loop-test.false c.loop.invariant.0

use Rattle.std.proofs.Common.{refl, arith}
use Rattle.load_maker.proofs.Left.{state_more, state_end}
use Rattle.load_maker.proofs.Added.{number_added, numbers_end, number_is_small}
use Rattle.load_maker.proofs.sums.session_sum.Goals as goal

pub loop-preserved : goal.loop-preserved
loop-preserved c = (
  number_added c.args.rounds c.loop.counter _ c.loop.total _ c.loop.generator.state c.draw-total.new.self.state c.draw-total.result
      c.loop-test.true c.draw-total.ensures.state c.draw-total.ensures.number refl c.loop.invariant.0,
  state_more c.args.rounds c.loop.counter c.loop.generator.state c.draw-total.new.self.state _ c.loop-test.true
      c.draw-total.ensures.state c.loop.invariant.1,
  let bound = c.loop.invariant.2 in
      let small = number_is_small c.draw-total.new.self.state c.draw-total.result c.draw-total.ensures.number in
      let below = c.loop-test.true in omega (arith, bound, small, below),
)

pub returns-clause-sum : goal.returns-clause-sum
returns-clause-sum c = numbers_end c.args.rounds c.loop.counter _ c.loop.total c.loop.generator.state
    c.loop-test.false c.loop.invariant.0

pub returns-clause-bound : goal.returns-clause-bound
returns-clause-bound c = let bound = c.loop.invariant.2 in let over = c.loop-test.false in omega (arith, bound, over)

pub returns-clause-state : goal.returns-clause-state
returns-clause-state c = state_end c.args.rounds c.loop.counter c.loop.generator.state _ c.loop-test.false
    c.loop.invariant.1

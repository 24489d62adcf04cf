use Rattle.load_maker.proofs.Left.{round_more, state_more, rounds_end, state_end}
use Rattle.load_maker.proofs.scripts.push_rounds.Goals as goal

pub loop-preserved : goal.loop-preserved
loop-preserved c = (
  round_more c.args.rounds c.loop.counter _ c.loop.script.items c.push_round.new.script.items c.loop.generator.state
      c.draw.new.self.state c.draw.result c.loop-test.true c.draw.ensures.state c.draw.ensures.number
      c.in_ok-push_round.ensures c.loop.invariant.0,
  state_more c.args.rounds c.loop.counter c.loop.generator.state c.draw.new.self.state _ c.loop-test.true
      c.draw.ensures.state c.loop.invariant.1,
)

pub returns-clause-text : goal.returns-clause-text
returns-clause-text c = rounds_end c.args.rounds c.loop.counter _ c.loop.script.items c.loop.generator.state
    c.loop-test.false c.loop.invariant.0

pub returns-clause-state : goal.returns-clause-state
returns-clause-state c = state_end c.args.rounds c.loop.counter c.loop.generator.state _ c.loop-test.false
    c.loop.invariant.1

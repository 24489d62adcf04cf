use Rattle.load_maker.proofs.Left.{session_more, sessions_end}
use Rattle.load_maker.proofs.scripts.load_script.Goals as goal

pub loop-preserved : goal.loop-preserved
loop-preserved c = session_more c.args.sessions c.args.rounds c.loop.counter _ c.loop.script.items
    c.push_session.new.script.items c.loop.generator.state c.push_session.new.generator.state c.loop-test.true
    c.in_ok-push_session.ensures.state c.in_ok-push_session.ensures.text c.loop.invariant

pub returns : goal.returns
returns c = sessions_end c.args.sessions c.args.rounds c.loop.counter _ c.loop.script.items c.loop.generator.state
    c.loop-test.false c.loop.invariant

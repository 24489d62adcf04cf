use Rattle.std.proofs.Common.{◌≡◌, ◌-◌, ◌++◌}
use Rattle.load_maker.proofs.Left.{sessions_text}
use Rattle.load_maker.proofs.scripts.load_script.Given as goal

abbrev pub invariant-loop : goal.invariant-loop
invariant-loop l = l.script.items ++ sessions_text (l.sessions - l.counter) l.rounds l.generator.state
    ≡ sessions_text l.sessions l.rounds l.fn.seed

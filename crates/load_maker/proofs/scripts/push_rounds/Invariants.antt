use Rattle.std.proofs.Common.{◌≡◌, ◌-◌, ◌++◌}
use Rattle.load_maker.specs.Numbers.{state_after}
use Rattle.load_maker.proofs.Left.{rounds_text}
use Rattle.load_maker.proofs.scripts.push_rounds.Given as goal

abbrev pub invariant-loop : goal.invariant-loop
invariant-loop l =
    (l.script.items ++ rounds_text (l.rounds - l.counter) l.generator.state
    ≡ l.initial.script.items ++ rounds_text l.rounds l.initial.generator.state)
    × (state_after (l.rounds - l.counter) l.generator.state ≡ state_after l.rounds l.initial.generator.state)

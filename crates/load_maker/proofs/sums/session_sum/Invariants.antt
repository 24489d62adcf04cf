use Rattle.std.proofs.Common.{◌≡◌, ◌+◌, ◌-◌, ◌*◌, ◌≤◌, sum}
use Rattle.load_maker.specs.Numbers.{round_numbers, state_after}
use Rattle.load_maker.proofs.Added.{added}
use Rattle.load_maker.proofs.sums.session_sum.Given as goal

abbrev pub invariant-loop : goal.invariant-loop
invariant-loop l =
    (added l.total (round_numbers (l.rounds - l.counter) l.generator.state)
    ≡ sum (round_numbers l.rounds l.initial.generator.state))
    × (state_after (l.rounds - l.counter) l.generator.state ≡ state_after l.rounds l.initial.generator.state)
    × (l.total + 9 * (l.rounds - l.counter) ≤ 9 * l.rounds)

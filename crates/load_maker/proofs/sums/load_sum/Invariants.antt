use Rattle.std.proofs.Common.{◌≡◌, ◌+◌, ◌-◌, ◌*◌, ◌≤◌}
use Rattle.load_maker.specs.Numbers.{load_numbers, load_sum}
use Rattle.load_maker.proofs.Added.{sums_added}
use Rattle.load_maker.proofs.sums.load_sum.Given as goal

abbrev pub invariant-loop : goal.invariant-loop
invariant-loop l =
    (sums_added l.total (load_numbers (l.sessions - l.counter) l.rounds l.generator.state)
    ≡ load_sum l.fn.seed l.sessions l.rounds)
    × (l.total + 9000 * (l.sessions - l.counter) ≤ 9000 * l.sessions)

use Rattle.std.proofs.Common.{◌≡◌}
use Rattle.plain_state.proofs.parts.Parts.bring_classes.Given as goal

abbrev pub invariant-loop : goal.invariant-loop
invariant-loop l = l.self ≡ l.fn.self

use Rattle.std.specs.Prelude.{ℕ, ◌+◌, ◌*◌}
use Rattle.std.proofs.Common.{refl, ap}
use Rattle.prim_rules.proofs.Sizes.{same_length, same_bytes}
use Rattle.prim_rules.proofs.later_laws.sizes_without_names.Goals as goal

pub returns-clause-slots : goal.returns-clause-slots
returns-clause-slots c key name other pairs =
    ap (λ (n : ℕ). 2 * n) (same_length key name other pairs)

pub returns-clause-bytes : goal.returns-clause-bytes
returns-clause-bytes c key name other pairs =
    ap (λ (n : ℕ). 4 + n) (same_bytes key name other pairs)

pub returns-clause-users : goal.returns-clause-users
returns-clause-users c name first other = refl

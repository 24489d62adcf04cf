-- What contracts see of a node: how its keys are made up, and the map that it is.
use Rattle.std.specs.Prelude.{ℕ, refl}
use Rattle.std.specs.Coded.{Coded, code_by, coded×, coded_ℕ}
use Rattle.std.specs.Ordering.{nat_cmp}
use Rattle.std.specs.FinMap.{FinMap}
use Rattle.std.specs.FinMap as fin

pub record Level (X : Type 0) : Type 0 where
  -- how many bits of a key each level reads
  pub bits : ℕ
  -- how many levels stand below this one
  pub height : ℕ
  pub map : FinMap nat_cmp X

abbrev pub level_code : {X : Type 0} → Coded X → Coded (Level X)
level_code {X} x =
    code_by (ℕ × (ℕ × FinMap nat_cmp X)) (coded× coded_ℕ (coded× coded_ℕ (fin.code coded_ℕ x)))
    (λ l. (l.bits, (l.height, l.map)))
    (λ p. record { bits = p.0; height = p.1.0; map = p.1.1 }) (λ _. refl)

abbrev pub level : {X : Type 0} → ℕ → ℕ → FinMap nat_cmp X → Level X
level bits height map = record { bits = bits; height = height; map = map }

-- the same with another map
abbrev pub level_with : {X : Type 0} → Level X → FinMap nat_cmp X → Level X
level_with l map = record l { map = map }

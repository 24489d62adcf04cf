-- A finite map made from what a function has at each key.
use Rattle.std.specs.Prelude.{ℕ, zero, suc, Option, None, Some}
use Rattle.std.specs.Ordering.{nat_cmp}
use Rattle.std.specs.FinMap.{FinMap, empty, insert}

abbrev pub with_option : {X : Type 0} → FinMap nat_cmp X → ℕ → Option X → FinMap nat_cmp X
with_option m key None = m
with_option m key (Some value) = insert m key value

-- the map that has at each key below n what f has there
unfoldable pub table : {X : Type 0} → ℕ → (ℕ → Option X) → FinMap nat_cmp X
table zero f = empty
table (suc n) f = with_option (table n f) n (f n)

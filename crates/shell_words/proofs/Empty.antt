-- Lists without items.
use Rattle.std.proofs.Common.{◌≡◌, true, List, [], length, arith}
use Rattle.std.specs.Prelude.{◌==◌}
use Rattle.std.proofs.lemmas.Bool.Decides.{nat_tests}
use Rattle.std.proofs.lemmas.List.{nil_from_length}

-- a list whose length is tested to be 0 has no items
pub empty_if : {A : Type 0} (xs : List A) → (length xs == 0) ≡ true → xs ≡ []
empty_if xs none = nil_from_length xs (grind (arith, nat_tests))

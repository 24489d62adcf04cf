use Rattle.std.proofs.Common.{◌≡◌, rules}
use Rattle.std.specs.Int.{w128}
use Rattle.std.specs.Prelude.{FitsSigned, pos, ◌-ℤ◌}
use Rattle.std.proofs.lemmas.Int.{to_z-of_z}
use Rattle.prim_numbers.proofs.Remainders.{by_negative}
use Rattle.prim_numbers.proofs.arithmetic.floor_remainder.Goals as goal

pub returns-then-divisor-lt0 : goal.returns-then-divisor-lt0
returns-then-divisor-lt0 c =
    let r : FitsSigned w128 c.rem_euclid.result = search rules in
    let s : FitsSigned w128 (pos 0 -ℤ c.rem_euclid.result) = search rules in
    let n : FitsSigned w128 c.from-number.result = search rules in
    let d : FitsSigned w128 c.from-divisor.result = search rules in
    let m : FitsSigned w128 (pos 0 -ℤ c.from-number.result) = search rules in
    let e : FitsSigned w128 (pos 0 -ℤ c.from-divisor.result) = search rules in
    let number : c.from-number.result ≡ c.args.number = search rules in
    let divisor : c.from-divisor.result ≡ c.args.divisor = search rules in
    let value = rw (
      to_z-of_z w128 c.from-number.result n,
      to_z-of_z w128 c.from-divisor.result d,
      to_z-of_z w128 (pos 0 -ℤ c.from-number.result) m,
      to_z-of_z w128 (pos 0 -ℤ c.from-divisor.result) e,
      number,
      divisor,
    ) at c.rem_euclid.ensures.value in
    let below = rw (to_z-of_z w128 c.from-divisor.result d, divisor) at c.if-divisor-lt0.true in
    rw (to_z-of_z w128 c.rem_euclid.result r, to_z-of_z w128 (pos 0 -ℤ c.rem_euclid.result) s, value)
    (by_negative c.args.number c.args.divisor below)

use Rattle.std.proofs.Common.{◌+◌, ◌*◌, ◌^◌, ◌≤◌, arith}
use Rattle.texts.specs.declared.integers.TheConstants.{INTEGER_LIMIT}
use Rattle.st_lexer.proofs.Values.{value_large, test_above}
use Rattle.st_lexer.proofs.numbers.value_of.Goals as goal

pub returns-then-value-digit : goal.returns-then-value-digit
returns-then-value-digit c =
    value_large c.args.radix c.args.digits.now c.loop-b.b-index c.loop-b.value c.requires.low
    (omega arith) c.loop-b.invariant
    (let above : INTEGER_LIMIT ≤ c.loop-b.value * c.args.radix + c.from-digit.result = test_above c.loop-b.value
    c.args.radix c.from-digit.result c.requires.low (omega arith) c.if-value-digit.true in
    omega (arith, above, c.digit_value.ensures, c.from-digit.ensures))

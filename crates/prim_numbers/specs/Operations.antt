-- What each operation on two integers is for the language.
use Rattle.std.specs.Prelude.{ℤ, ◌+ℤ◌, ◌-ℤ◌, ◌*ℤ◌, int_lt, int_le, int_div, int_rem, Bool}
use Rattle.gem_object.specs.declared.value.Value.{Value}
use Rattle.gem_object.specs.declared.value.Value.TheVariants.{Int}
use Rattle.object_programs.specs.Run.{Run, give}
use Rattle.prim_parts.specs.tree_meaning.Place.{MadeBlock}
use Rattle.prim_rules.specs.Parts.{truth}
use Rattle.prim_rules.specs.Numbers.{floor_quotient, floor_remainder, bits_and, bits_or, bits_xor, shifted, in_range, divided}
use Rattle.prim_numbers.specs.declared.operation.Division.{Division}
use Rattle.prim_numbers.specs.declared.operation.Division.TheVariants as division
use Rattle.prim_numbers.specs.declared.operation.Bitwise.{Bitwise}
use Rattle.prim_numbers.specs.declared.operation.Bitwise.TheVariants as bitwise
use Rattle.prim_numbers.specs.declared.operation.Comparison.{Comparison}
use Rattle.prim_numbers.specs.declared.operation.Comparison.TheVariants as comparison
use Rattle.prim_numbers.specs.declared.operation.Operation.{Operation}
use Rattle.prim_numbers.specs.declared.operation.Operation.TheVariants.{Add, Subtract, Multiply, Divide, Compare, CombineBits, Shift}

-- the result of a division
abbrev pub division_result : Division → (number divisor : ℤ) → ℤ
division_result division.FloorQuotient number divisor = floor_quotient number divisor
division_result division.FloorRemainder number divisor = floor_remainder number divisor
division_result division.Quotient number divisor = int_div number divisor
division_result division.Remainder number divisor = int_rem number divisor

-- whether two numbers compare so
abbrev pub compares : Comparison → (number other : ℤ) → Bool
compares comparison.Less number other = int_lt number other
compares comparison.Greater number other = int_lt other number
compares comparison.LessOrEqual number other = int_le number other
compares comparison.GreaterOrEqual number other = int_le other number

-- the number with these bits of both
abbrev pub combined_bits : Bitwise → (number other : ℤ) → ℤ
combined_bits bitwise.And number other = bits_and number other
combined_bits bitwise.Or number other = bits_or number other
combined_bits bitwise.Xor number other = bits_xor number other

-- the rule of an operation
abbrev pub operation_rule : Operation → (number other : ℤ) → Run MadeBlock Value
operation_rule Add number other = in_range (number +ℤ other)
operation_rule Subtract number other = in_range (number -ℤ other)
operation_rule Multiply number other = in_range (number *ℤ other)
operation_rule (Divide division) number other = divided (division_result division) number other
operation_rule (Compare comparison) number other = give (truth (compares comparison number other))
operation_rule (CombineBits combination) number other =
    give (Int (combined_bits combination number other))
operation_rule Shift number other = in_range (shifted number other)

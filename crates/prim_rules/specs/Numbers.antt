-- The rules of the primitives 10 to 27, for integers and characters.
use Rattle.std.specs.Prelude.{ℕ, suc, ◌-◌, ◌^◌, min, ℤ, pos, negsuc, neg_ℤ, ◌+ℤ◌, ◌-ℤ◌, ◌*ℤ◌, int_lt, int_le, int_div, int_rem, unsigned_abs, bit_and, bit_or, bit_xor, Bool, not, ◌&&◌, List}
use Rattle.std.specs.Int.{bit_at, int_div_euclid, int_shr}
use Rattle.std.specs.Ordering.{int_eq}
use Rattle.gem_object.specs.texts.SmallInteger.{is_small_integer}
use Rattle.gem_object.specs.declared.value.Value.{Value}
use Rattle.gem_object.specs.declared.value.Value.TheVariants.{Int, Char}
use Rattle.object_programs.specs.Run.{Run, give, and_then}
use Rattle.object_programs.specs.Programs.{need, check}
use Rattle.object_programs.specs.declared.fault.Fault.TheVariants as fault
use Rattle.prim_rules.specs.declared.answer.PrimitiveAnswer.{PrimitiveAnswer}
use Rattle.prim_rules.specs.Parts.{int_in, character_in, truth, one_of, no_arguments, answers}
use Rattle.prim_rules.specs.Texts.{radix_text, new_string}

-- The quotient, rounded toward negative infinity: a negative divisor changes the signs of both. The
-- remainder, which has the divisor's sign.
abbrev pub floor_quotient : (number divisor : ℤ) → ℤ
floor_quotient number (pos divisor) = int_div_euclid number (pos divisor)
floor_quotient number (negsuc before) = int_div_euclid (neg_ℤ number) (pos (suc before))

abbrev pub floor_remainder : (number divisor : ℤ) → ℤ
floor_remainder number divisor = number -ℤ floor_quotient number divisor *ℤ divisor

-- The bit of a number at a place, in two's complement: a negative number, -(n + 1), has the bits of
-- n, each turned round.
abbrev pub bit_of : (number : ℤ) (place : ℕ) → ℕ
bit_of (pos number) place = bit_at number place
bit_of (negsuc number) place = 1 - bit_at number place

-- The numbers whose bits are both, at least one, and just one of those of two numbers. That these
-- have them is a law.
abbrev pub bits_and : ℤ → ℤ → ℤ
bits_and (pos number) (pos other) = pos (bit_and number other)
bits_and (pos number) (negsuc other) = pos (number - bit_and number other)
bits_and (negsuc number) (pos other) = pos (other - bit_and number other)
bits_and (negsuc number) (negsuc other) = negsuc (bit_or number other)

abbrev pub bits_or : ℤ → ℤ → ℤ
bits_or (pos number) (pos other) = pos (bit_or number other)
bits_or (pos number) (negsuc other) = negsuc (other - bit_and number other)
bits_or (negsuc number) (pos other) = negsuc (number - bit_and number other)
bits_or (negsuc number) (negsuc other) = negsuc (bit_and number other)

abbrev pub bits_xor : ℤ → ℤ → ℤ
bits_xor (pos number) (pos other) = pos (bit_xor number other)
bits_xor (pos number) (negsuc other) = negsuc (bit_xor number other)
bits_xor (negsuc number) (pos other) = negsuc (bit_xor number other)
bits_xor (negsuc number) (negsuc other) = pos (bit_xor number other)

-- A number times a power of two, or divided by one and rounded down where the count is negative.
-- The integers of the language have at most 60 bits beside the sign, so no count above 61 gives
-- another answer than 61: the product is 0 or out of range, the quotient 0 or -1.
abbrev pub most_shift : ℕ
most_shift = 61

abbrev pub shifted : (number count : ℤ) → ℤ
shifted number (pos count) = number *ℤ pos (2 ^ min count most_shift)
shifted number (negsuc before) = int_shr number (min (suc before) most_shift)

-- the code of a character, from 0 to 127
abbrev pub is_code : ℤ → Bool
is_code number = int_le (pos 0) number && int_le number (pos 127)

-- a base in which a number can be printed, from 2 to 36
abbrev pub is_base : ℤ → Bool
is_base number = int_le (pos 2) number && int_le number (pos 36)

module _ {B : Type 0} where
  -- a rule for an integer with another as its argument
  abbrev pub integers_row : (ℤ → ℤ → Run B Value) → Value → List Value → Run B PrimitiveAnswer
  integers_row rule receiver arguments =
      and_then (need fault.ArgumentKind (int_in receiver)) (λ number.
      and_then (need fault.ArgumentKind (one_of arguments)) (λ argument.
      and_then (need fault.ArgumentKind (int_in argument)) (λ other.
      answers (rule number other))))

  -- a result: E6 where it isn't an integer of the language
  abbrev pub in_range : ℤ → Run B Value
  in_range number =
      and_then (check fault.IntegerRange (is_small_integer number)) (λ small.
      give (Int number))

  -- `+`, `-`, `*`
  abbrev pub row_10 : Value → List Value → Run B PrimitiveAnswer
  row_10 = integers_row (λ number other. in_range (number +ℤ other))

  abbrev pub row_11 : Value → List Value → Run B PrimitiveAnswer
  row_11 = integers_row (λ number other. in_range (number -ℤ other))

  abbrev pub row_12 : Value → List Value → Run B PrimitiveAnswer
  row_12 = integers_row (λ number other. in_range (number *ℤ other))

  -- a result of a division: E7 where the divisor is 0
  abbrev pub divided : (ℤ → ℤ → ℤ) → (number divisor : ℤ) → Run B Value
  divided division number divisor =
      and_then (check fault.ZeroDivisor (not (int_eq divisor (pos 0)))) (λ divides.
      in_range (division number divisor))

  -- `//` and `\\` round toward negative infinity, `quo:` and `rem:` toward 0
  abbrev pub row_13 : Value → List Value → Run B PrimitiveAnswer
  row_13 = integers_row (divided floor_quotient)

  abbrev pub row_14 : Value → List Value → Run B PrimitiveAnswer
  row_14 = integers_row (divided floor_remainder)

  abbrev pub row_15 : Value → List Value → Run B PrimitiveAnswer
  row_15 = integers_row (divided int_div)

  abbrev pub row_16 : Value → List Value → Run B PrimitiveAnswer
  row_16 = integers_row (divided int_rem)

  -- `<`, `>`, `<=`, `>=`
  abbrev pub row_17 : Value → List Value → Run B PrimitiveAnswer
  row_17 = integers_row (λ number other. give (truth (int_lt number other)))

  abbrev pub row_18 : Value → List Value → Run B PrimitiveAnswer
  row_18 = integers_row (λ number other. give (truth (int_lt other number)))

  abbrev pub row_19 : Value → List Value → Run B PrimitiveAnswer
  row_19 = integers_row (λ number other. give (truth (int_le number other)))

  abbrev pub row_20 : Value → List Value → Run B PrimitiveAnswer
  row_20 = integers_row (λ number other. give (truth (int_le other number)))

  -- `bitAnd:`, `bitOr:`, `bitXor:`: the bits of integers in range give one in range
  abbrev pub row_21 : Value → List Value → Run B PrimitiveAnswer
  row_21 = integers_row (λ number other. give (Int (bits_and number other)))

  abbrev pub row_22 : Value → List Value → Run B PrimitiveAnswer
  row_22 = integers_row (λ number other. give (Int (bits_or number other)))

  abbrev pub row_23 : Value → List Value → Run B PrimitiveAnswer
  row_23 = integers_row (λ number other. give (Int (bits_xor number other)))

  -- `bitShift:`
  abbrev pub row_24 : Value → List Value → Run B PrimitiveAnswer
  row_24 = integers_row (λ number count. in_range (shifted number count))

  -- `asCharacter`: E6 where the integer isn't the code of a character
  abbrev pub character_rule : ℤ → Run B Value
  character_rule number =
      and_then (check fault.IntegerRange (is_code number)) (λ fits.
      give (Char (unsigned_abs number)))

  abbrev pub row_25 : Value → List Value → Run B PrimitiveAnswer
  row_25 receiver arguments =
      and_then (need fault.ArgumentKind (int_in receiver)) (λ number.
      and_then (no_arguments arguments) (λ none.
      answers (character_rule number)))

  -- `printString:`: a new String of the number to a base; E6 where that isn't a base
  abbrev pub radix_rule : (number base : ℤ) → Run B Value
  radix_rule number base =
      and_then (check fault.IntegerRange (is_base base)) (λ fits.
      new_string (radix_text (unsigned_abs base) number))

  abbrev pub row_26 : Value → List Value → Run B PrimitiveAnswer
  row_26 = integers_row radix_rule

  -- `asInteger` of a Character: its code
  abbrev pub row_27 : Value → List Value → Run B PrimitiveAnswer
  row_27 receiver arguments =
      and_then (need fault.ArgumentKind (character_in receiver)) (λ code.
      and_then (no_arguments arguments) (λ none.
      answers (give (Int (pos code)))))

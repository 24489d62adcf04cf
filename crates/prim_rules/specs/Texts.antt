-- Texts: how numbers, strings and symbols are printed, what a text says as a number, and the texts
-- of Strings and Symbols.
use Rattle.std.specs.Prelude.{ℕ, suc, ◌+◌, ◌==◌, ℤ, pos, negsuc, neg_ℤ, Bool, true, false, cond, nat_eq, length, drop, [], ◌∷◌, ◌++◌, flat_map, Option, None, Some, option_map, option_and_then, codes}
use Rattle.std.specs.List.{list_all, list_any}
use Rattle.std.specs.Char.{is_ascii_digit}
use Rattle.std.specs.Fmt.{signed_decimal, digits}
use Rattle.std.specs.Str.Parse.{digits_value}
use Rattle.gem_object.specs.texts.Bytes.{Bytes as Text}
use Rattle.gem_object.specs.texts.SmallInteger.{is_small_integer}
use Rattle.object_programs.specs.st_grammar.Tokens.{Piece, token, symbol, piece, begins, begins_with}
use Rattle.gem_object.specs.declared.value.Value.{Value}
use Rattle.gem_object.specs.declared.value.Value.TheVariants.{Sym, Ref}
use Rattle.gem_object.specs.declared.body.Body.TheVariants as body
use Rattle.object_programs.specs.Run.{Run, give, fail, and_then}
use Rattle.object_programs.specs.Programs.{need, read}
use Rattle.object_programs.specs.declared.fault.Fault.TheVariants as fault
use Rattle.prim_rules.specs.Parts.{bytes_in, check_kind, new_object}
use Rattle.object_programs.specs.gem_sound.declared.names.TheConstants.{STRING_CLASS}

-- a text in single quotes, where each quote in it is doubled
abbrev pub with_quote_doubled : ℕ → Text
with_quote_doubled byte = cond (byte == 39) (39 ∷ 39 ∷ []) (byte ∷ [])

abbrev pub quoted : Text → Text
quoted text = 39 ∷ (flat_map with_quote_doubled text ++ 39 ∷ [])

-- whether a text begins with a symbol token of so many bytes
abbrev pub is_symbol_of : (size : ℕ) → Piece → Bool
is_symbol_of size (token symbol length) = nat_eq length size
is_symbol_of size _ = false

-- whether `#` and the text are one symbol token
unfoldable pub is_symbol_token : Text → Bool
is_symbol_token text = is_symbol_of (1 + length text) (piece (35 ∷ text))

-- a symbol: `#` and its text, and the text is quoted unless the two are one token
abbrev pub symbol_text : Text → Text
symbol_text name = 35 ∷ cond (is_symbol_token name) name (quoted name)

-- `a` or `an`, and the name of a class: `an` where its first letter is a vowel
abbrev pub is_vowel : ℕ → Bool
is_vowel letter = list_any (nat_eq letter) (codes "AEIOUaeiou")

abbrev pub with_article : Text → Text
with_article name = cond (begins is_vowel name) (codes "an ") (codes "a ") ++ name

-- an integer in decimal
abbrev pub decimal_text : ℤ → Text
decimal_text number = signed_decimal number

-- an integer to a base from 2 to 36, with capital digits
abbrev pub unsigned_text : (base number : ℕ) → Text
unsigned_text base number = digits base true number

abbrev pub radix_text : (base : ℕ) → ℤ → Text
radix_text base (pos number) = unsigned_text base number
radix_text base (negsuc before) = 45 ∷ unsigned_text base (suc before)

-- the number that decimal digits write; None where there is none, or another byte
abbrev pub digits_in : Text → Option ℕ
digits_in [] = None
digits_in text = cond (list_all is_ascii_digit text) (Some (digits_value 10 text)) None

-- the number that a text says: digits, with a `-` before them where it is negative
abbrev pub number_in : Text → Option ℤ
number_in text = cond (begins_with 45 text)
    (option_map (λ number. neg_ℤ (pos number)) (digits_in (drop 1 text)))
    (option_map (λ number. pos number) (digits_in text))

-- the same, where it is one of the language's integers
abbrev pub if_small : ℤ → Option ℤ
if_small number = cond (is_small_integer number) (Some number) None

abbrev pub integer_in : Text → Option ℤ
integer_in text = option_and_then if_small (number_in text)

module _ {B : Type 0} where
  -- the bytes of a String, which is read
  abbrev pub string_bytes : (name : ℕ) → Run B Text
  string_bytes name =
      and_then (read name) (λ object. need fault.ArgumentKind (bytes_in object.body))

  -- the text of a receiver that is a String or a Symbol
  abbrev pub text_of_receiver : Value → Run B Text
  text_of_receiver (Sym name) = give name
  text_of_receiver (Ref name) = string_bytes name
  text_of_receiver _ = fail fault.ArgumentKind

  -- The text of an argument that is a String or a Symbol, else E5. That is told without a touch,
  -- before a String is read.
  abbrev pub text_of_argument : Value → Run B Text
  text_of_argument (Sym name) = give name
  text_of_argument (Ref name) =
      and_then (check_kind (Ref name) STRING_CLASS) (λ is_one. string_bytes name)
  text_of_argument _ = fail fault.ArgumentKind

  -- a new String of this text
  abbrev pub new_string : Text → Run B Value
  new_string text = new_object STRING_CLASS (body.Bytes text)

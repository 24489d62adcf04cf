-- The rules of the primitives 42 to 51, for Strings and Symbols.
use Rattle.std.specs.Prelude.{ℕ, ℤ, pos, Bool, false, bytes_eq, nat_le, length, slice_get, slice_set, List, ◌++◌, Option, None, Some}
use Rattle.std.specs.Ordering.{nat_cmp, is_lt}
use Rattle.std.specs.Cmp.Lexicographic.{slice_cmp}
use Rattle.gem_object.specs.texts.Bytes.{Bytes as Text}
use Rattle.gem_object.specs.texts.declared.limits.TheConstants.{SYMBOL_LIMIT}
use Rattle.gem_object.specs.declared.value.Value.{Value}
use Rattle.gem_object.specs.declared.value.Value.TheVariants.{Nil, False, Int, Char, Sym, Ref}
use Rattle.gem_object.specs.declared.body.Body.TheVariants.{Bytes}
use Rattle.object_programs.specs.Run.{Run, give, fail, and_then}
use Rattle.object_programs.specs.Programs.{choose, need, check, write, replace_body}
use Rattle.object_programs.specs.declared.fault.Fault.TheVariants as fault
use Rattle.prim_rules.specs.declared.answer.PrimitiveAnswer.{PrimitiveAnswer}
use Rattle.prim_rules.specs.Indexes.{place_in, part_of}
use Rattle.prim_rules.specs.Parts.{int_in, character_in, reference_in, bytes_in, truth, one_of, two_of, no_arguments, is_kind_of, answers}
use Rattle.prim_rules.specs.Texts.{string_bytes, text_of_receiver, text_of_argument, new_string, integer_in}
use Rattle.object_programs.specs.gem_sound.declared.names.TheConstants.{STRING_CLASS}

-- whether a value is the Symbol of this text
abbrev pub is_symbol : Text → Value → Bool
is_symbol name (Sym other) = bytes_eq name other
is_symbol name _ = false

-- whether a text is before another, by its bytes
abbrev pub is_before : Text → Text → Bool
is_before text other = is_lt (slice_cmp nat_cmp text other)

-- a number, or nil where there is none
abbrev pub number_or_nil : Option ℤ → Value
number_or_nil None = Nil
number_or_nil (Some number) = Int number

module _ {B : Type 0} where
  -- a rule for the text of a String or a Symbol, without an argument and with one
  abbrev pub text_row : (Text → Run B Value) → Value → List Value → Run B PrimitiveAnswer
  text_row rule receiver arguments =
      and_then (no_arguments arguments) (λ none.
      and_then (text_of_receiver receiver) (λ text.
      answers (rule text)))

  abbrev pub text_row_with : (Text → Value → Run B Value) → Value → List Value
      → Run B PrimitiveAnswer
  text_row_with rule receiver arguments =
      and_then (need fault.ArgumentKind (one_of arguments)) (λ argument.
      and_then (text_of_receiver receiver) (λ text.
      answers (rule text argument)))

  -- a rule for two texts
  abbrev pub texts_row : (Text → Text → Run B Value) → Value → List Value → Run B PrimitiveAnswer
  texts_row rule = text_row_with (λ text argument. and_then (text_of_argument argument) (rule text))

  -- `size`
  abbrev pub row_42 : Value → List Value → Run B PrimitiveAnswer
  row_42 = text_row (λ text. give (Int (pos (length text))))

  -- `at:`
  abbrev pub character_at_rule : Text → Value → Run B Value
  character_at_rule text index =
      and_then (need fault.ArgumentKind (int_in index)) (λ number.
      and_then (need fault.Index (place_in (length text) number)) (λ place.
      and_then (need fault.Index (slice_get text place)) (λ byte.
      give (Char byte))))

  abbrev pub row_43 : Value → List Value → Run B PrimitiveAnswer
  row_43 = text_row_with character_at_rule

  -- `at:put:` of a String answers the Character
  abbrev pub character_put_rule : (name : ℕ) → (index value : Value) → Run B Value
  character_put_rule name index value =
      and_then (write name) (λ object.
      and_then (need fault.ArgumentKind (bytes_in object.body)) (λ text.
      and_then (need fault.ArgumentKind (int_in index)) (λ number.
      and_then (need fault.ArgumentKind (character_in value)) (λ code.
      and_then (need fault.Index (place_in (length text) number)) (λ place.
      and_then (replace_body 0 name object (Bytes (slice_set text place code))) (λ put.
      give value))))))

  abbrev pub row_44 : Value → List Value → Run B PrimitiveAnswer
  row_44 receiver arguments =
      and_then (need fault.ArgumentKind (reference_in receiver)) (λ name.
      and_then (need fault.ArgumentKind (two_of arguments)) (λ both.
      answers (character_put_rule name both.0 both.1)))

  -- `,`: a new String
  abbrev pub row_45 : Value → List Value → Run B PrimitiveAnswer
  row_45 = texts_row (λ text other. new_string (text ++ other))

  -- `copyFrom:to:`: a new String
  abbrev pub copy_text_rule : Text → (from to : Value) → Run B Value
  copy_text_rule text from to =
      and_then (need fault.ArgumentKind (int_in from)) (λ first.
      and_then (need fault.ArgumentKind (int_in to)) (λ last.
      and_then (need fault.Index (part_of text first last)) new_string))

  abbrev pub row_46 : Value → List Value → Run B PrimitiveAnswer
  row_46 receiver arguments =
      and_then (need fault.ArgumentKind (two_of arguments)) (λ both.
      and_then (text_of_receiver receiver) (λ text.
      answers (copy_text_rule text both.0 both.1)))

  -- `asSymbol`: E5 where the text is too long for a Symbol
  abbrev pub symbol_rule : Text → Run B Value
  symbol_rule text =
      and_then (check fault.ArgumentKind (nat_le (length text) SYMBOL_LIMIT)) (λ short.
      give (Sym text))

  abbrev pub row_47 : Value → List Value → Run B PrimitiveAnswer
  row_47 = text_row symbol_rule

  -- `asString`: a new String
  abbrev pub row_48 : Value → List Value → Run B PrimitiveAnswer
  row_48 = text_row new_string

  -- Whether an argument is a String with these bytes. Only a String is read.
  abbrev pub has_bytes : Text → (name : ℕ) → Run B Value
  has_bytes text name =
      and_then (string_bytes name) (λ other. give (truth (bytes_eq text other)))

  abbrev pub equal_string : Text → Value → Run B Value
  equal_string text (Ref name) =
      and_then (is_kind_of (Ref name) STRING_CLASS) (λ is_string.
      choose is_string (has_bytes text name) (give False))
  equal_string text argument = give False

  -- `=`: for a String a String with the same bytes, for a Symbol the same Symbol
  abbrev pub equal_rule : Value → Value → Run B Value
  equal_rule (Sym name) argument = give (truth (is_symbol name argument))
  equal_rule (Ref name) argument =
      and_then (string_bytes name) (λ text. equal_string text argument)
  equal_rule _ argument = fail fault.ArgumentKind

  abbrev pub row_49 : Value → List Value → Run B PrimitiveAnswer
  row_49 receiver arguments =
      and_then (need fault.ArgumentKind (one_of arguments)) (λ argument.
      answers (equal_rule receiver argument))

  -- `<`: the order by bytes
  abbrev pub row_50 : Value → List Value → Run B PrimitiveAnswer
  row_50 = texts_row (λ text other. give (truth (is_before text other)))

  -- `asInteger` of a String: nil where it is no integer of the language
  abbrev pub row_51 : Value → List Value → Run B PrimitiveAnswer
  row_51 receiver arguments =
      and_then (need fault.ArgumentKind (reference_in receiver)) (λ name.
      and_then (no_arguments arguments) (λ none.
      and_then (string_bytes name) (λ text.
      answers (give (number_or_nil (integer_in text))))))

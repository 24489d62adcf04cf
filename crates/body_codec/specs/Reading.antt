-- Fields at the front of bytes: what each is, or the rule that the first field breaks that fails.
use Rattle.std.specs.Prelude.{◌≡◌, ℕ, ℤ, zero, suc, ◌^◌, Bool, true, List, [], ◌∷◌, ◌++◌, length, take, drop, slice_get, Result, Ok, Err, nat_lt, ◌==◌, ◌-◌, ◌||◌, if◌then◌else◌, Option, Some, None}
use Rattle.std.specs.List.{list_all}
use Rattle.std.specs.Ordering.{is_lt}
use Rattle.std.specs.declared.cmp.Ordering.{Ordering}
use Rattle.std.specs.Int.{Width, w16, w32, w64, byte_len, from_le_bytes, cast_signed}
use Rattle.gem_object.specs.texts.Bytes.{Bytes as Text}
use Rattle.gem_object.specs.texts.SmallInteger.{is_small_integer}
use Rattle.gem_object.specs.declared.value.Value.{Value}
use Rattle.gem_object.specs.declared.value.Value.TheVariants.{Nil, False, True, Int, Char, Sym, Ref}
use Rattle.body_codec.specs.declared.fault.BodyRule.{BodyRule}
use Rattle.body_codec.specs.declared.fault.BodyRule.TheVariants as rule
use Rattle.body_codec.specs.declared.fault.Flaw.{Flaw}
use Rattle.body_codec.specs.declared.fault.ReadError.{ReadError}
use Rattle.body_codec.specs.declared.fault.ReadError.TheVariants as errors

infixl 10 ◌>>=◌
abbrev pub ◌>>=◌ : {A B : Type 0} → Result A Flaw → (A → Result B Flaw) → Result B Flaw
(Ok x) >>= f = f x
(Err e) >>= f = Err e

-- what is read at the front of bytes, and the bytes after it
abbrev pub Reader : Type 0 → Type 0
Reader A = List ℕ → Result (A × List ℕ) Flaw

-- the field at the front of these bytes breaks the rule
abbrev pub breaks : {A : Type 0} → List ℕ → BodyRule → Result A Flaw
breaks bytes broken = Err (record { left = length bytes; rule = broken })

-- what a function returned, seen by view, is what reading gives, unless memory ran out
abbrev pub Fails : {Y : Type 0} → ReadError → Result Y Flaw → Type 0
Fails errors.Memory read = Unit {0}
Fails (errors.Flaw f) read = read ≡ Err f

abbrev pub Gives : {X Y : Type 0} → (X → Y) → Result X ReadError → Result Y Flaw → Type 0
Gives view (Ok x) read = read ≡ Ok (view x)
Gives view (Err e) read = Fails e read

-- ---- Numbers, texts and values. A number has its low byte first.

abbrev pub number_at : Width → Reader ℕ
number_at w bytes = if nat_lt (length bytes) (byte_len w)
    then breaks bytes rule.Length
    else Ok (from_le_bytes w (take (byte_len w) bytes), drop (byte_len w) bytes)

unfoldable pub byte_at : Reader ℕ
byte_at [] = breaks [] rule.Length
byte_at (byte ∷ rest) = Ok (byte, rest)

-- the number of an object's name
unfoldable pub name_at : Reader ℕ
name_at bytes = do
  number ← number_at w64 bytes
  if nat_lt number.0 (2 ^ 48) then Ok number else breaks bytes rule.Range

unfoldable pub integer_at : Reader ℤ
integer_at bytes = do
  number ← number_at w64 bytes
  if is_small_integer (cast_signed w64 number.0)
      then Ok (cast_signed w64 number.0, number.1)
      else breaks bytes rule.Range

-- how often an item occurs: once at least
unfoldable pub times_at : Reader ℕ
times_at bytes = do
  number ← number_at w64 bytes
  if number.0 == 0 then breaks bytes rule.Range else Ok number

-- so many bytes, each below 128; they are one field
unfoldable pub plain_at : ℕ → Reader (List ℕ)
plain_at count bytes = if nat_lt (length bytes) count
    then breaks bytes rule.Length
    else (if list_all (λ byte. nat_lt byte 128) (take count bytes)
    then Ok (take count bytes, drop count bytes)
    else breaks bytes rule.Byte)

-- a text: its length is a field, and so are its bytes
unfoldable pub text_at : Reader Text
text_at bytes = do
  count ← number_at w16 bytes
  if nat_lt 1000 count.0 then breaks bytes rule.Range else plain_at count.0 count.1

-- bytes behind their number in four bytes
unfoldable pub bytes_at : Reader (List ℕ)
bytes_at bytes = do
  count ← number_at w32 bytes
  plain_at count.0 count.1

unfoldable pub char_at : Reader ℕ
char_at bytes = do
  byte ← byte_at bytes
  if nat_lt byte.0 128 then Ok byte else breaks bytes rule.Byte

-- what is read, made something else
abbrev pub made : {A B : Type 0} → (A → B) → Result (A × List ℕ) Flaw → Result (B × List ℕ) Flaw
made make (Ok x) = Ok (make x.0, x.1)
made make (Err e) = Err e

-- the value of this tag, whose content is at the front of the rest of the bytes
unfoldable pub content_at : ℕ → List ℕ → Reader Value
content_at tag bytes rest =
    if tag == 0 then Ok (Nil, rest) else (
    if tag == 1 then Ok (False, rest) else (
    if tag == 2 then Ok (True, rest) else (
    if tag == 3 then made Int (integer_at rest) else (
    if tag == 4 then made Char (char_at rest) else (
    if tag == 5 then made Sym (text_at rest) else (
    if tag == 6 then made Ref (name_at rest) else
    breaks bytes rule.Kind))))))

unfoldable pub value_at : Reader Value
value_at bytes = do
  tag ← byte_at bytes
  content_at tag.0 bytes tag.1

-- a key: a value that isn't nil, of a tag that is at most this one
unfoldable pub key_at : ℕ → Reader Value
key_at greatest bytes = do
  tag ← byte_at bytes
  if tag.0 == 0 || nat_lt greatest tag.0
      then breaks bytes rule.Kind
      else content_at tag.0 bytes tag.1

-- ---- Fields one after the other.

-- a field, and another one behind it
unfoldable pub both_at : {A B : Type 0} → Reader A → Reader B → Reader (A × B)
both_at first second bytes = do
  one ← first bytes
  other ← second one.1
  Ok ((one.0, other.0), other.1)

infixr 10 ◌&◌
abbrev pub ◌&◌ : {A B : Type 0} → Reader A → Reader B → Reader (A × B)
first & second = both_at first second

-- what a field at the front of the bytes stands for, if it stands for something
abbrev pub meant : {A : Type 0} → Option A → BodyRule → List ℕ → Reader A
meant None broken bytes rest = breaks bytes broken
meant (Some x) broken bytes rest = Ok (x, rest)

-- a byte that stands for something, or breaks the rule
unfoldable pub coded_at : {A : Type 0} → (ℕ → Option A) → BodyRule → Reader A
coded_at meaning broken bytes = do
  byte ← byte_at bytes
  meant (meaning byte.0) broken bytes byte.1

-- the last of these, where there is one
abbrev pub last_of : {X : Type 0} → List X → Option X
last_of xs = slice_get xs (length xs - 1)

-- whether a key is above the one before it, where there is one
abbrev pub is_above : {K : Type 0} → (K → K → Ordering) → Option K → K → Bool
is_above cmp None key = true
is_above cmp (Some last) key = is_lt (cmp last key)

-- a key that has to be above the one before it
unfoldable pub above_at : {K : Type 0} → (K → K → Ordering) → Option K → Reader K → Reader K
above_at cmp last read bytes = do
  key ← read bytes
  if is_above cmp last key.0 then Ok key else breaks bytes rule.Order

-- An item may depend on those before it, as a key that has to be above the last.
module _ {X : Type 0} (item_at : List X → Reader X) where
  -- these items, and so many more
  unfoldable pub items_after : ℕ → List X → Reader (List X)
  items_after zero before bytes = Ok (before, bytes)
  items_after (suc more) before bytes = do
    item ← item_at before bytes
    items_after more (before ++ item.0 ∷ []) item.1

  -- a count of two bytes, and so many items
  unfoldable pub short_at : Reader (List X)
  short_at bytes = do
    count ← number_at w16 bytes
    items_after count.0 [] count.1

  -- the same with a count of four bytes
  unfoldable pub long_at : Reader (List X)
  long_at bytes = do
    count ← number_at w32 bytes
    items_after count.0 [] count.1

  -- the same with one item at least
  unfoldable pub some_at : Reader (List X)
  some_at bytes = do
    count ← number_at w32 bytes
    if count.0 == 0 then breaks bytes rule.Range else items_after count.0 [] count.1

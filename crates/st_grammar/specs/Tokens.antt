-- The tokens of a Smalltalk text: what stands between its blanks and comments.
-- `Lexes` says which tokens a text has, and `Stops` at which place it has a bad one and which rule
-- that breaks.
use Rattle.std.specs.Prelude.{◌≡◌, ℕ, ◌+◌, ◌-◌, ◌*◌, pos, Bool, true, false, cond, not, ◌&&◌, ◌||◌}
use Rattle.std.specs.Prelude.{◌==◌, nat_lt, nat_le, Option, Some, None, List, [], ◌∷◌, length, take}
use Rattle.std.specs.Prelude.{drop, codes, fold}
use Rattle.std.specs.List.{prefix_len, list_all, list_any}
use Rattle.std.specs.Char.{is_ascii_digit, is_ascii_uppercase}
use Rattle.texts.specs.Bytes.{Bytes}
use Rattle.texts.specs.NameBytes.{starts_name, is_name_byte}
use Rattle.texts.specs.declared.integers.TheConstants.{INTEGER_LIMIT}
use Rattle.texts.specs.declared.limits.TheConstants.{SYMBOL_LIMIT}

-- The kinds of token.
pub data Kind : Type 0 where
  -- `sum`, and `at:` with its colon
  identifier : Kind
  keyword : Kind
  -- `12`, `16rFF`
  number : Kind
  -- `$a`
  character : Kind
  -- `'it''s'`
  string : Kind
  -- `#sum`, `#at:put:`, `#<=`, `#'it''s'`
  symbol : Kind
  -- `+`, `<=`
  binary : Kind
  -- `|`
  bar : Kind
  -- `:=`, `:`, `^`, `;`, `.`
  assign : Kind
  colon : Kind
  caret : Kind
  semicolon : Kind
  period : Kind
  -- `(`, `)`, `[`, `]`, `#(`
  open_paren : Kind
  close_paren : Kind
  open_bracket : Kind
  close_bracket : Kind
  open_array : Kind

-- The rules that a bad token breaks.
pub data TokenRule : Type 0 where
  -- P1: a byte that begins no token
  p1 : TokenRule
  -- P2: a string, comment, character or symbol without its end, or a `#` with which neither a
  -- symbol nor `#(` begins
  p2 : TokenRule
  -- P3: a number that isn't of the form or above the largest one, or a symbol that is too long
  p3 : TokenRule

abbrev pub token_rule_number : TokenRule → ℕ
token_rule_number p1 = 1
token_rule_number p2 = 2
token_rule_number p3 = 3

-- A token of a text: its kind, the offset where it begins and the one where it has ended.
pub record Token : Type 0 where
  pub kind : Kind
  pub from : ℕ
  pub to : ℕ

-- What a text begins with.
pub data Piece : Type 0 where
  -- the text is at its end
  end : Piece
  -- so many bytes that separate tokens: a blank or a comment
  gap : ℕ → Piece
  -- a token of so many bytes
  token : Kind → ℕ → Piece
  -- no token
  bad : TokenRule → Piece

-- space, tab, LF, CR
abbrev pub is_blank : ℕ → Bool
is_blank b = (b == 32) || ((b == 9) || ((b == 10) || (b == 13)))

-- a byte of a binary selector other than `|`
abbrev pub is_operator : ℕ → Bool
is_operator b = list_any (λ o. o == b) (codes "+-*/\\~<>=@%&?,")

-- a byte that may be the second of a binary selector
abbrev pub is_second : ℕ → Bool
is_second b = is_operator b && not (b == 45)

abbrev pub is_radix_digit : ℕ → Bool
is_radix_digit b = is_ascii_digit b || is_ascii_uppercase b

-- what a digit stands for: 0 to 9, and 10 to 35 from `A` to `Z`
abbrev pub digit_value : ℕ → ℕ
digit_value b = cond (is_ascii_digit b) (b - 48) (b - 55)

-- the number that digits stand for
abbrev pub value_of : ℕ → Bytes → ℕ
value_of radix digits = fold (λ v b. v * radix + digit_value b) 0 digits

-- the first byte of the text passes; an empty text has none
abbrev pub begins : (ℕ → Bool) → Bytes → Bool
begins p [] = false
begins p (b ∷ bs) = p b

-- the first byte of the text is this one
abbrev pub begins_with : ℕ → Bytes → Bool
begins_with a bs = begins (λ b. b == a) bs

-- so many more bytes
abbrev pub later : ℕ → Option ℕ → Option ℕ
later k (Some n) = Some (n + k)
later k None = None

-- how many bytes a comment has from after its first double quote on, the last one included
abbrev pub comment_end : Bytes → Option ℕ
comment_end [] = None
comment_end (b ∷ bs) = cond (b == 34) (Some 1) (later 1 (comment_end bs))

-- How many bytes a string has from after its first quote on, the last one included. A doubled quote
-- is a quote in it. `quoted` says that the byte before was a quote: it ends the string unless
-- another follows.
abbrev pub string_end : (quoted : Bool) → Bytes → Option ℕ
string_end false [] = None
string_end false (b ∷ bs) = later 1 (string_end (b == 39) bs)
string_end true [] = Some 0
string_end true (b ∷ bs) = cond (b == 39) (later 1 (string_end false bs)) (Some 0)

-- the bytes of that string, a doubled quote counted once
abbrev pub string_bytes : (quoted : Bool) → Bytes → Bytes
string_bytes false [] = []
string_bytes false (b ∷ bs) = cond (b == 39) (string_bytes true bs) (b ∷ string_bytes false bs)
string_bytes true [] = []
string_bytes true (b ∷ bs) = cond (b == 39) (39 ∷ string_bytes false bs) []

-- a name of so many bytes goes on with this one
abbrev pub name_goes_on : ℕ → ℕ → Bool
name_goes_on here b = cond (here == 0) (starts_name b) (is_name_byte b)

-- a colon that makes the name before it a keyword: no `=` follows it
abbrev pub is_keyword_end : Bytes → Bool
is_keyword_end bs = begins_with 58 bs && not (begins_with 61 (drop 1 bs))

-- How many bytes of keywords without a gap a text begins with. So many bytes of the first keyword's
-- name stand before the text.
abbrev pub keywords : (here : ℕ) → Bytes → ℕ
keywords here [] = 0
keywords here (b ∷ bs) = cond (name_goes_on here b) (keywords (here + 1) bs)
    (cond (nat_lt 0 here && is_keyword_end (b ∷ bs)) (here + 1 + keywords 0 bs) 0)

-- an identifier or a keyword
abbrev pub word : Bytes → Piece
word text = cond (is_keyword_end (drop (prefix_len is_name_byte text) text))
    (token keyword (prefix_len is_name_byte text + 1))
    (token identifier (prefix_len is_name_byte text))

-- a number may end before this: neither a letter or `_` follows directly, nor `.` and a digit
abbrev pub ends_number : Bytes → Bool
ends_number bs = not (begins starts_name bs ||
    (begins_with 46 bs && begins is_ascii_digit (drop 1 bs)))

-- a number of n bytes with this value, before the bytes that follow it
abbrev pub number_before : (n value : ℕ) → Bytes → Piece
number_before n value after = cond (ends_number after && nat_lt value INTEGER_LIMIT)
    (token number n) (bad p3)

-- radix digits, of which there is at least one, and each is below the radix
abbrev pub are_digits : (radix : ℕ) → Bytes → Bool
are_digits radix digits = nat_le 2 radix && nat_le radix 36 && not (length digits == 0) && list_all
    (λ b. nat_lt (digit_value b) radix) digits

-- a number whose first n bytes gave its radix
abbrev pub number_in : (radix n : ℕ) → Bytes → Piece
number_in radix n rest = cond (are_digits radix (take (prefix_len is_radix_digit rest) rest))
    (number_before (n + prefix_len is_radix_digit rest)
    (value_of radix (take (prefix_len is_radix_digit rest) rest))
    (drop (prefix_len is_radix_digit rest) rest))
    (bad p3)

-- a number whose first n bytes are its digits or those of its radix
abbrev pub number_after : (n : ℕ) → Bytes → Piece
number_after n text = cond (begins_with 114 (drop n text))
    (number_in (value_of 10 (take n text)) (n + 1) (drop (n + 1) text))
    (number_before n (value_of 10 (take n text)) (drop n text))

abbrev pub number_at : Bytes → Piece
number_at text = number_after (prefix_len is_ascii_digit text) text

-- a symbol whose name has so many bytes, and which has n bytes itself
abbrev pub sized : (size n : ℕ) → Piece
sized size n = cond (nat_le size SYMBOL_LIMIT) (token symbol n) (bad p3)

-- how many bytes of a name or of keywords follow a `#`
abbrev pub symbol_name : Bytes → ℕ
symbol_name rest = cond (keywords 0 rest == 0) (prefix_len is_name_byte rest) (keywords 0 rest)

abbrev pub quoted_symbol : (size : ℕ) → Option ℕ → Piece
quoted_symbol size (Some n) = sized size (n + 2)
quoted_symbol size None = bad p2

abbrev pub binary_len : Bytes → ℕ
binary_len rest = cond (begins is_second rest) 2 1

-- what a `#` and what follows it begins with
abbrev pub symbol_at : Bytes → Piece
symbol_at rest =
    cond (begins starts_name rest) (sized (symbol_name rest) (symbol_name rest + 1))
    (cond (begins is_operator rest) (token symbol (binary_len (drop 1 rest) + 1))
    (cond (begins_with 124 rest) (token symbol 2)
    (cond (begins_with 39 rest)
    (quoted_symbol (length (string_bytes false (drop 1 rest))) (string_end false (drop 1 rest)))
    (cond (begins_with 40 rest) (token open_array 2)
    (bad p2)))))

-- a character is `$` and one byte of 32 to 126
abbrev pub character_at : Bytes → Piece
character_at rest = cond (begins (λ b. nat_le 32 b && nat_le b 126) rest) (token character 2)
    (bad p2)

abbrev pub comment_to : Option ℕ → Piece
comment_to (Some n) = gap (n + 1)
comment_to None = bad p2

abbrev pub string_to : Option ℕ → Piece
string_to (Some n) = token string (n + 1)
string_to None = bad p2

abbrev pub colon_before : Bytes → Piece
colon_before rest = cond (begins_with 61 rest) (token assign 2) (token colon 1)

-- The tokens that are one byte, whatever follows.
abbrev pub mark : ℕ → Piece
mark b =
    cond (b == 124) (token bar 1)
    (cond (b == 94) (token caret 1)
    (cond (b == 59) (token semicolon 1)
    (cond (b == 46) (token period 1)
    (cond (b == 40) (token open_paren 1)
    (cond (b == 41) (token close_paren 1)
    (cond (b == 91) (token open_bracket 1)
    (cond (b == 93) (token close_bracket 1)
    (bad p1))))))))

-- What the first byte of a piece says of it.
pub data Class : Type 0 where
  blank : Class
  comment : Class
  name : Class
  digit : Class
  quote : Class
  dollar : Class
  hash : Class
  operator : Class
  colon_mark : Class
  other : Class

abbrev pub class_of : ℕ → Class
class_of b =
    cond (is_blank b) blank
    (cond (b == 34) comment
    (cond (starts_name b) name
    (cond (is_ascii_digit b) digit
    (cond (b == 39) quote
    (cond (b == 36) dollar
    (cond (b == 35) hash
    (cond (is_operator b) operator
    (cond (b == 58) colon_mark
    other))))))))

-- the piece that a byte of this class begins, with the bytes that follow it
abbrev pub piece_in : Class → ℕ → Bytes → Piece
piece_in blank b rest = gap 1
piece_in comment b rest = comment_to (comment_end rest)
piece_in name b rest = word (b ∷ rest)
piece_in digit b rest = number_at (b ∷ rest)
piece_in quote b rest = string_to (string_end false rest)
piece_in dollar b rest = character_at rest
piece_in hash b rest = symbol_at rest
piece_in operator b rest = token binary (binary_len rest)
piece_in colon_mark b rest = colon_before rest
piece_in other b rest = mark b

-- what the text begins with
abbrev pub piece : Bytes → Piece
piece [] = end
piece (b ∷ rest) = piece_in (class_of b) b rest

-- The text, whose first byte has this offset, has exactly these tokens.
pub data Lexes : ℕ → Bytes → List Token → Type 0 where
  at_end : {at : ℕ} {text : Bytes} → piece text ≡ end → Lexes at text []
  after_gap : {at n : ℕ} {text : Bytes} {ts : List Token} → piece text ≡ gap n
      → Lexes (at + n) (drop n text) ts → Lexes at text ts
  after_token : {at n : ℕ} {k : Kind} {text : Bytes} {ts : List Token} → piece text ≡ token k n
      → Lexes (at + n) (drop n text) ts
      → Lexes at text (record { kind = k; from = at; to = at + n } ∷ ts)

-- The text, whose first byte has this offset, has its first bad token at `place`, and it breaks
-- this rule.
pub data Stops : ℕ → Bytes → (place : ℕ) → TokenRule → Type 0 where
  here : {at : ℕ} {text : Bytes} {r : TokenRule} → piece text ≡ bad r → Stops at text at r
  past_gap : {at n place : ℕ} {text : Bytes} {r : TokenRule} → piece text ≡ gap n
      → Stops (at + n) (drop n text) place r → Stops at text place r
  past_token : {at n place : ℕ} {k : Kind} {text : Bytes} {r : TokenRule} → piece text ≡ token k n
      → Stops (at + n) (drop n text) place r → Stops at text place r

-- the bytes of a token of this text
abbrev pub text_of : Bytes → Token → Bytes
text_of text t = take (t.to - t.from) (drop t.from text)

-- the number that a number token stands for, from its bytes
abbrev pub number_value : Bytes → ℕ
number_value bytes = cond (begins_with 114 (drop (prefix_len is_ascii_digit bytes) bytes))
    (value_of (value_of 10 (take (prefix_len is_ascii_digit bytes) bytes))
    (drop (prefix_len is_ascii_digit bytes + 1) bytes))
    (value_of 10 (take (prefix_len is_ascii_digit bytes) bytes))

-- the code of a character, from the bytes of its token: the byte after the `$`
abbrev pub character_value : Bytes → ℕ
character_value (first ∷ code ∷ rest) = code
character_value _ = 0

-- the bytes of a string, from those of its token: without the quotes around it, a doubled quote
-- counted once
abbrev pub string_value : Bytes → Bytes
string_value bytes = string_bytes false (drop 1 bytes)

-- the name of a symbol, from the bytes of its token: what follows the `#`, and of a string its
-- bytes
abbrev pub symbol_value : Bytes → Bytes
symbol_value bytes = cond (begins_with 39 (drop 1 bytes)) (string_value (drop 1 bytes))
    (drop 1 bytes)

-- where the last of these tokens ends, or `at` where there is none
abbrev pub end_after : (at : ℕ) → List Token → ℕ
end_after at [] = at
end_after at (t ∷ ts) = end_after t.to ts

-- the token in a text that has so many more bytes before it
abbrev pub moved : ℕ → Token → Token
moved k t = record { kind = t.kind; from = k + t.from; to = k + t.to }

-- How long a piece of a text may be: it has a byte at least, and no more than the text.
use Rattle.std.proofs.Common.{◌≡◌, ℕ, zero, suc, ◌+◌, ◌<◌, ◌≤◌, ◌^◌, Bool, true, false, cond, Option, Some, None, []}
use Rattle.std.proofs.Common.{◌∷◌, length, take, drop, refl, arith, length-drop}
use Rattle.std.specs.Prelude.{nat_lt, nat_le, ◌==◌, ◌&&◌}
use Rattle.std.specs.List.{prefix_len}
use Rattle.std.specs.Char.{is_ascii_digit}
use Rattle.std.proofs.lemmas.List.Sums.{prefix_len-le-length}
use Rattle.texts.specs.Bytes.{Bytes}
use Rattle.texts.specs.NameBytes.{starts_name, is_name_byte}
use Rattle.texts.specs.declared.integers.TheConstants.{INTEGER_LIMIT}
use Rattle.texts.specs.declared.limits.TheConstants.{SYMBOL_LIMIT}
use Rattle.st_grammar.specs.Tokens.{Piece, end, gap, token, bad, Class, blank, comment, name, digit, quote, dollar}
use Rattle.st_grammar.specs.Tokens.{hash, operator, colon_mark, other, later, begins, begins_with, comment_end}
use Rattle.st_grammar.specs.Tokens.{string_end, string_bytes, keywords, name_goes_on, is_keyword_end, is_blank}
use Rattle.st_grammar.specs.Tokens.{is_operator, is_second, word, number_before, number_in, number_after, value_of}
use Rattle.st_grammar.specs.Tokens.{are_digits, ends_number, is_radix_digit, sized, symbol_name, quoted_symbol}
use Rattle.st_grammar.specs.Tokens.{binary_len, symbol_at, character_at, comment_to, string_to, colon_before, mark}
use Rattle.st_grammar.specs.Tokens.{class_of, piece_in, piece, keyword, identifier}

-- a choice has what both its sides have
pub on_cond : {X : Type 0} (P : X → Type 0) (t : Bool) (x y : X) → (t ≡ true → P x) → (t ≡ false → P y) → P (cond t x y)
on_cond P true x y f g = f refl
on_cond P false x y f g = g refl

abbrev pub AtMost : ℕ → Option ℕ → Type 0
AtMost len (Some n) = n ≤ len
AtMost len None = Unit {0}

later_fits : (len : ℕ) (o : Option ℕ) → AtMost len o → AtMost (suc len) (later 1 o)
later_fits len (Some n) h = omega arith
later_fits len None h = tt

pub comment_fits : (bs : Bytes) → AtMost (length bs) (comment_end bs)
comment_fits [] = tt
comment_fits (b ∷ bs) = on_cond (AtMost (suc (length bs))) (b == 34) (Some 1) (later 1 (comment_end bs))
    (λ _. omega arith) (λ _. later_fits (length bs) (comment_end bs) (comment_fits bs))

pub string_fits : (quoted : Bool) (bs : Bytes) → AtMost (length bs) (string_end quoted bs)
string_fits false [] = tt
string_fits true [] = omega arith
string_fits false (b ∷ bs) = later_fits (length bs) (string_end (b == 39) bs) (string_fits (b == 39) bs)
string_fits true (b ∷ bs) = on_cond (AtMost (suc (length bs))) (b == 39) (later 1 (string_end false bs)) (Some 0)
    (λ _. later_fits (length bs) (string_end false bs) (string_fits false bs)) (λ _. omega arith)

pub keywords_fit : (here : ℕ) (bs : Bytes) → keywords here bs ≤ length bs + here
keywords_fit here [] = omega arith
keywords_fit here (b ∷ bs) =
    on_cond (λ n. n ≤ suc (length bs) + here) (name_goes_on here b) (keywords (here + 1) bs) _
    (λ _. let h = keywords_fit (here + 1) bs in omega arith)
    (λ _. on_cond (λ n. n ≤ suc (length bs) + here) (nat_lt 0 here && is_keyword_end (b ∷ bs))
    (here + 1 + keywords 0 bs) 0 (λ _. let h = keywords_fit 0 bs in omega arith) (λ _. omega arith))

pub begins_inside : (p : ℕ → Bool) (text : Bytes) (n : ℕ) → begins p (drop n text) ≡ true → n < length text
begins_inside p [] zero h = cc
begins_inside p [] (suc n) h = cc
begins_inside p (b ∷ bs) zero h = omega arith
begins_inside p (b ∷ bs) (suc n) h = let more = begins_inside p bs n h in omega arith

pub begins_some : (p : ℕ → Bool) (text : Bytes) → begins p text ≡ true → 0 < length text
begins_some p [] h = cc
begins_some p (b ∷ bs) h = omega arith

-- the piece has a byte, and no more than so many
abbrev pub Inside : ℕ → Piece → Type 0
Inside len end = Unit {0}
Inside len (gap n) = (0 < n) × (n ≤ len)
Inside len (token k n) = (0 < n) × (n ≤ len)
Inside len (bad r) = Unit {0}

-- what a class says of its byte
abbrev pub Suits : Class → ℕ → Type 0
Suits name b = starts_name b ≡ true
Suits digit b = is_ascii_digit b ≡ true
Suits _ b = Unit {0}

pub suits : (b : ℕ) → Suits (class_of b) b
suits b = let P : Class → Type 0 = λ k. Suits k b in
    on_cond P (is_blank b) _ _ (λ _. tt) (λ _.
    on_cond P (b == 34) _ _ (λ _. tt) (λ _.
    on_cond P (starts_name b) _ _ (λ h. h) (λ _.
    on_cond P (is_ascii_digit b) _ _ (λ h. h) (λ _.
    on_cond P (b == 39) _ _ (λ _. tt) (λ _.
    on_cond P (b == 36) _ _ (λ _. tt) (λ _.
    on_cond P (b == 35) _ _ (λ _. tt) (λ _.
    on_cond P (is_operator b) _ _ (λ _. tt) (λ _.
    on_cond P (b == 58) _ _ (λ _. tt) (λ _. tt)))))))))

pub first_counts : (p : ℕ → Bool) (b : ℕ) (rest : Bytes) → p b ≡ true → 0 < prefix_len p (b ∷ rest)
first_counts p b rest h = rw h (omega arith)

pub and_left : (a b : Bool) → (a && b) ≡ true → a ≡ true
and_left true b h = refl
and_left false b h = h

word_inside : (b : ℕ) (rest : Bytes) → starts_name b ≡ true → Inside (length (b ∷ rest)) (word (b ∷ rest))
word_inside b rest h =
    let some : 0 < prefix_len is_name_byte (b ∷ rest) = first_counts is_name_byte b rest (rw h refl) in
    let most : prefix_len is_name_byte (b ∷ rest) ≤ length (b ∷ rest) = prefix_len-le-length is_name_byte (b ∷ rest) in
    on_cond (Inside (length (b ∷ rest))) (is_keyword_end (drop (prefix_len is_name_byte (b ∷ rest)) (b ∷ rest)))
    (token keyword (prefix_len is_name_byte (b ∷ rest) + 1)) (token identifier (prefix_len is_name_byte (b ∷ rest)))
    (λ e. let more : prefix_len is_name_byte (b ∷ rest) < length (b ∷ rest) = begins_inside
    (λ a. a == 58) (b ∷ rest) (prefix_len is_name_byte (b ∷ rest)) (and_left _ _ e) in
    (omega (arith, some), omega (arith, more)))
    (λ _. (some, most))

number_before_inside : (len n value : ℕ) (after : Bytes) → 0 < n → n ≤ len → Inside len (number_before n value after)
number_before_inside len n value after some most = on_cond (Inside len)
    (ends_number after && nat_lt value INTEGER_LIMIT) _ _ (λ _. (some, most)) (λ _. tt)

number_in_inside : (len radix n : ℕ) (rest : Bytes) → 0 < n → n + length rest ≤ len
    → Inside len (number_in radix n rest)
number_in_inside len radix n rest some most =
    let digits : prefix_len is_radix_digit rest ≤ length rest = prefix_len-le-length is_radix_digit rest in
    on_cond (Inside len) (are_digits radix (take (prefix_len is_radix_digit rest) rest)) _ _
    (λ _. number_before_inside len (n + prefix_len is_radix_digit rest)
    (value_of radix (take (prefix_len is_radix_digit rest) rest)) (drop (prefix_len is_radix_digit rest) rest)
    (omega arith) (omega arith))
    (λ _. tt)

number_after_inside : (n : ℕ) (text : Bytes) → 0 < n → n ≤ length text → Inside (length text) (number_after n text)
number_after_inside n text some most = on_cond (Inside (length text)) (begins_with 114 (drop n text)) _ _
    (λ e. let more : n < length text = begins_inside (λ a. a == 114) text n e in
    number_in_inside (length text) (value_of 10 (take n text)) (n + 1) (drop (n + 1) text) (omega arith)
    (omega (arith, length-drop (n + 1) text)))
    (λ _. number_before_inside (length text) n (value_of 10 (take n text)) (drop n text) some most)

sized_inside : (len size n : ℕ) → 0 < n → n ≤ len → Inside len (sized size n)
sized_inside len size n some most = on_cond (Inside len) (nat_le size SYMBOL_LIMIT) _ _ (λ _. (some, most)) (λ _. tt)

symbol_name_fits : (rest : Bytes) → symbol_name rest ≤ length rest
symbol_name_fits rest = let P : ℕ → Type 0 = λ n. n ≤ length rest in
    on_cond P (keywords 0 rest == 0) (prefix_len is_name_byte rest) (keywords 0 rest)
    (λ _. prefix_len-le-length is_name_byte rest) (λ _. let h = keywords_fit 0 rest in omega arith)

shorter : (len size : ℕ) (o : Option ℕ) (most : ℕ) → suc (suc len) ≤ most → AtMost len o
    → Inside most (quoted_symbol size o)
shorter len size (Some n) most h inside = sized_inside most size (n + 2) (omega arith) (omega arith)
shorter len size None most h inside = tt

binary_inside : (rest : Bytes) → binary_len rest ≤ length rest + 1
binary_inside rest = let P : ℕ → Type 0 = λ n. n ≤ length rest + 1 in
    on_cond P (begins is_second rest) 2 1 (λ e. let some = begins_some is_second rest e in omega arith)
    (λ _. omega arith)

pub binary_some : (rest : Bytes) → 0 < binary_len rest
binary_some rest = let P : ℕ → Type 0 = λ n. 0 < n in on_cond P (begins is_second rest) 2 1 (λ _. omega arith)
    (λ _. omega arith)

symbol_inside : (rest : Bytes) → Inside (suc (length rest)) (symbol_at rest)
symbol_inside rest = let P : Piece → Type 0 = Inside (suc (length rest)) in
    on_cond P (begins starts_name rest) _ _
    (λ _. let fits = symbol_name_fits rest in sized_inside (suc (length rest)) (symbol_name rest) (symbol_name rest + 1)
    (omega arith) (omega arith)) (λ _.
    on_cond P (begins is_operator rest) _ _
    (λ e. let some = begins_some is_operator rest e in let fits = binary_inside (drop 1 rest) in
    (omega arith, omega (arith, length-drop 1 rest))) (λ _.
    on_cond P (begins_with 124 rest) _ _
    (λ e. let some = begins_some (λ b. b == 124) rest e in (omega arith, omega arith)) (λ _.
    on_cond P (begins_with 39 rest) _ _ (λ e. let some = begins_some (λ b. b == 39) rest e in
    shorter (length (drop 1 rest)) (length (string_bytes false (drop 1 rest))) (string_end false (drop 1 rest))
    (suc (length rest)) (omega (arith, length-drop 1 rest)) (string_fits false (drop 1 rest))) (λ _.
    on_cond P (begins_with 40 rest) _ _
    (λ e. let some = begins_some (λ b. b == 40) rest e in (omega arith, omega arith)) (λ _. tt)))))

character_inside : (rest : Bytes) → Inside (suc (length rest)) (character_at rest)
character_inside rest = on_cond (Inside (suc (length rest))) (begins (λ b. nat_le 32 b && nat_le b 126) rest) _ _
    (λ e. let some = begins_some (λ b. nat_le 32 b && nat_le b 126) rest e in (omega arith, omega arith)) (λ _. tt)

comment_inside : (len : ℕ) (o : Option ℕ) → AtMost len o → Inside (suc len) (comment_to o)
comment_inside len (Some n) h = (omega arith, omega arith)
comment_inside len None h = tt

string_inside : (len : ℕ) (o : Option ℕ) → AtMost len o → Inside (suc len) (string_to o)
string_inside len (Some n) h = (omega arith, omega arith)
string_inside len None h = tt

colon_inside : (rest : Bytes) → Inside (suc (length rest)) (colon_before rest)
colon_inside rest = on_cond (Inside (suc (length rest))) (begins_with 61 rest) _ _
    (λ e. let some = begins_some (λ b. b == 61) rest e in (omega arith, omega arith)) (λ _. (omega arith, omega arith))

mark_inside : (b len : ℕ) → Inside (suc len) (mark b)
mark_inside b len = let P : Piece
    → Type 0 = Inside (suc len) in let one : (0 < 1) × (1 ≤ suc len) = (omega arith, omega arith) in
    on_cond P (b == 124) _ _ (λ _. one) (λ _.
    on_cond P (b == 94) _ _ (λ _. one) (λ _.
    on_cond P (b == 59) _ _ (λ _. one) (λ _.
    on_cond P (b == 46) _ _ (λ _. one) (λ _.
    on_cond P (b == 40) _ _ (λ _. one) (λ _.
    on_cond P (b == 41) _ _ (λ _. one) (λ _.
    on_cond P (b == 91) _ _ (λ _. one) (λ _.
    on_cond P (b == 93) _ _ (λ _. one) (λ _. tt))))))))

inside_in : (k : Class) (b : ℕ) (rest : Bytes) → Suits k b → Inside (suc (length rest)) (piece_in k b rest)
inside_in blank b rest h = (omega arith, omega arith)
inside_in comment b rest h = comment_inside (length rest) (comment_end rest) (comment_fits rest)
inside_in name b rest h = word_inside b rest h
inside_in digit b rest h = number_after_inside (prefix_len is_ascii_digit (b ∷ rest)) (b ∷ rest)
    (first_counts is_ascii_digit b rest h) (prefix_len-le-length is_ascii_digit (b ∷ rest))
inside_in quote b rest h = string_inside (length rest) (string_end false rest) (string_fits false rest)
inside_in dollar b rest h = character_inside rest
inside_in hash b rest h = symbol_inside rest
inside_in operator b rest h = (binary_some rest, omega (arith, binary_inside rest))
inside_in colon_mark b rest h = colon_inside rest
inside_in other b rest h = mark_inside b (length rest)

-- each piece of a text is in the text
pub inside : (text : Bytes) → Inside (length text) (piece text)
inside [] = tt
inside (b ∷ rest) = inside_in (class_of b) b rest (suits b)

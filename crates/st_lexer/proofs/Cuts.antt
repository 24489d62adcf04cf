-- A token stays what it is where the text is cut after it, or after a token that follows, and a space is put there.
use Rattle.std.proofs.Common.{◌≡◌, ℕ, suc, ◌+◌, ◌<◌, ◌≤◌, ◌^◌, Bool, true, false, not, cond, [], ◌∷◌, ◌++◌, length}
use Rattle.std.proofs.Common.{take, drop, refl, sym, ap, ◌∙◌, subst, arith, length-drop}
use Rattle.std.proofs.lemmas.List.{take-append-le, drop-append-le}
use Rattle.std.proofs.lemmas.Bool.{eqb-true}
use Rattle.std.proofs.Math.Seq.{drop-drop}
use Rattle.std.specs.Prelude.{nat_lt, ◌==◌, ◌&&◌, ◌||◌}
use Rattle.std.specs.List.{prefix_len}
use Rattle.std.specs.Char.{is_ascii_digit}
use Rattle.texts.specs.Bytes.{Bytes}
use Rattle.texts.specs.NameBytes.{starts_name, is_name_byte}
use Rattle.texts.specs.declared.integers.TheConstants.{INTEGER_LIMIT}
use Rattle.st_grammar.specs.Tokens.{Kind, Piece, token, bad, p3, number, keyword, identifier, assign, colon, begins}
use Rattle.st_grammar.specs.Tokens.{begins_with, is_keyword_end, word, ends_number, number_before, number_in}
use Rattle.st_grammar.specs.Tokens.{number_after, number_at, value_of, are_digits, is_radix_digit, piece}
use Rattle.st_lexer.proofs.Sizes.{on_cond, and_left}
use Rattle.st_lexer.proofs.Once.{token_len}

-- what stands after a token up to the cut begins with the same piece as before
abbrev pub Follows : Bytes → Bytes → Bytes → Type 0
Follows [] back more = Unit {0}
Follows (c ∷ g) back more = piece (c ∷ g ++ 32 ∷ more) ≡ piece (c ∷ g ++ back)

pub prefix_cut : (p : ℕ → Bool) (front back more : Bytes) → p 32 ≡ false → prefix_len p (front ++ back) ≤ length front
    → prefix_len p (front ++ 32 ∷ more) ≡ prefix_len p (front ++ back)
prefix_cut p [] back more blank fits = rw blank (omega arith)
prefix_cut p (b ∷ f) back more blank fits =
    elim (p b) as (λ v. cond v (1 + prefix_len p (f ++ back)) 0 ≤ suc (length f)
    → cond v (1 + prefix_len p (f ++ 32 ∷ more)) 0 ≡ cond v (1 + prefix_len p (f ++ back)) 0) [
      | true ↦ λ h. ap (λ n. 1 + n) (prefix_cut p f back more blank (omega arith))
      | false ↦ λ h. refl
    ] fits

-- names
pub keyword_end_stays : (g back more : Bytes) → 0 < length g → is_keyword_end (g ++ back) ≡ true
    → is_keyword_end (g ++ 32 ∷ more) ≡ true
keyword_end_stays [] back more some e = absurd (omega arith)
keyword_end_stays (c ∷ []) back more some e = rw (and_left (c == 58) (not (begins_with 61 back)) e) refl
keyword_end_stays (c ∷ d ∷ g) back more some e = e

colon_cut : (c : ℕ) (back more : Bytes) (v w : Bool) → (c == 58) ≡ v → begins_with 61 back ≡ w
    → piece (c ∷ 32 ∷ more) ≡ piece (c ∷ back) → (v && not w) ≡ false → (v && true) ≡ false
colon_cut c back more false w e f same h = refl
colon_cut c back more true false e f same h = h
colon_cut c back more true true e f same h =
    let is : c ≡ 58 = eqb-true c 58 e in
    let both : piece (58 ∷ 32 ∷ more) ≡ piece (58 ∷ back) = subst
    (λ (a : ℕ). piece (a ∷ 32 ∷ more) ≡ piece (a ∷ back)) is same in
    let differ : token colon 1 ≡ token assign 2 = both ∙ ap (λ w. cond w (token assign 2) (token colon 1)) f in
    cc

pub keyword_end_stays_none : (g back more : Bytes) → Follows g back more → is_keyword_end (g ++ back) ≡ false
    → is_keyword_end (g ++ 32 ∷ more) ≡ false
keyword_end_stays_none [] back more same e = refl
keyword_end_stays_none (c ∷ []) back more same e = colon_cut c back more (c == 58)
    (begins_with 61 back) refl refl same e
keyword_end_stays_none (c ∷ d ∷ g) back more same e = e

-- a word that is read in a text with this front
abbrev word_with : (p : ℕ) → Bytes → Piece
word_with p text = cond (is_keyword_end (drop p text)) (token keyword (p + 1)) (token identifier p)

word_with_cut : (p : ℕ) (front back more : Bytes) (k : Kind) (n : ℕ) (v : Bool)
    → is_keyword_end (drop p (front ++ back)) ≡ v → cond v (token keyword (p + 1)) (token identifier p) ≡ token k n
    → n ≤ length front
    → Follows (drop n front) back more → (p ≤ length front) × (word_with p (front ++ 32 ∷ more) ≡ token k n)
word_with_cut p front back more k n true e h fits same =
    let len : p + 1 ≡ n = token_len keyword k (p + 1) n h in
    let inner : is_keyword_end (drop p front ++ back) ≡ true = subst
    (λ (l : Bytes). is_keyword_end l ≡ true) (drop-append-le p front back (omega arith)) e in
    let stays : is_keyword_end (drop p front ++ 32 ∷ more)
    ≡ true = keyword_end_stays (drop p front) back more (omega (arith, length-drop p front)) inner in
    let outer : is_keyword_end (drop p (front ++ 32 ∷ more)) ≡ true = subst
    (λ (l : Bytes). is_keyword_end l ≡ true) (sym (drop-append-le p front (32 ∷ more) (omega arith))) stays in
    (omega arith, ap (λ v. cond v (token keyword (p + 1)) (token identifier p)) outer ∙ h)
word_with_cut p front back more k n false e h fits same =
    let len : p ≡ n = token_len identifier k p n h in
    let inner : is_keyword_end (drop p front ++ back) ≡ false = subst
    (λ (l : Bytes). is_keyword_end l ≡ false) (drop-append-le p front back (omega arith)) e in
    let here : Follows (drop p front) back more = subst (λ (m : ℕ). Follows (drop m front) back more) (sym len) same in
    let stays : is_keyword_end (drop p front ++ 32 ∷ more)
    ≡ false = keyword_end_stays_none (drop p front) back more here inner in
    let outer : is_keyword_end (drop p (front ++ 32 ∷ more)) ≡ false = subst
    (λ (l : Bytes). is_keyword_end l ≡ false) (sym (drop-append-le p front (32 ∷ more) (omega arith))) stays in
    (omega arith, ap (λ v. cond v (token keyword (p + 1)) (token identifier p)) outer ∙ h)

pub word_cut : (front back more : Bytes) (k : Kind) (n : ℕ) → word (front ++ back) ≡ token k n → n ≤ length front
    → Follows (drop n front) back more → word (front ++ 32 ∷ more) ≡ token k n
word_cut front back more k n h fits same =
    let both : (prefix_len is_name_byte (front ++ back) ≤ length front)
    × (word_with (prefix_len is_name_byte (front ++ back)) (front ++ 32 ∷ more) ≡ token k n) =
    word_with_cut (prefix_len is_name_byte (front ++ back)) front back more k n
    (is_keyword_end (drop (prefix_len is_name_byte (front ++ back)) (front ++ back))) refl h fits same in
    let len = prefix_cut is_name_byte front back more refl both.0 in
    ap (λ p. word_with p (front ++ 32 ∷ more)) len ∙ both.1

-- numbers
ends_rest : (a b d : Bool) → not (a || (b && d)) ≡ true → not (a || (b && false)) ≡ true
ends_rest true b d h = h
ends_rest false true d h = refl
ends_rest false false d h = refl

ends_stays : (g back more : Bytes) → ends_number (g ++ back) ≡ true → ends_number (g ++ 32 ∷ more) ≡ true
ends_stays [] back more h = refl
ends_stays (c ∷ []) back more h = ends_rest (starts_name c) (c == 46) (begins is_ascii_digit back) h
ends_stays (c ∷ d ∷ g) back more h = h

cond_along : (t u v : Bool) (x y z : Piece) → (t ≡ true → u ≡ true) → (y ≡ z → ⊥) → cond (t && v) x y ≡ z
    → cond (u && v) x y ≡ z
cond_along true u v x y z f g h = rw (f refl) h
cond_along false u v x y z f g h = absurd (g h)

bad_is_none : (k : Kind) (n : ℕ) → bad p3 ≡ token k n → ⊥
bad_is_none k n e = cc

before_cut : (m value : ℕ) (g back more : Bytes) (k : Kind) (n : ℕ) → number_before m value (g ++ back) ≡ token k n
    → number_before m value (g ++ 32 ∷ more) ≡ token k n
before_cut m value g back more k n h =
    cond_along (ends_number (g ++ back)) (ends_number (g ++ 32 ∷ more)) (nat_lt value INTEGER_LIMIT) (token number m)
    (bad p3) (token k n) (ends_stays g back more) (bad_is_none k n) h

before_len : (m value : ℕ) (after : Bytes) (k : Kind) (n : ℕ) → number_before m value after ≡ token k n → m ≡ n
before_len m value after k n =
    let P : Piece → Type 0 = λ q. q ≡ token k n → m ≡ n in
    on_cond P (ends_number after && nat_lt value INTEGER_LIMIT) (token number m) (bad p3)
    (λ _ e. token_len number k m n e) (λ _ e. absurd (bad_is_none k n e))

-- a number in a radix, of which so many digits and what follows them are known
abbrev read_in : (radix m d : ℕ) (digits after : Bytes) → Piece
read_in radix m d digits after = cond (are_digits radix digits) (number_before (m + d) (value_of radix digits) after)
    (bad p3)

read_in_len : (radix m d : ℕ) (digits after : Bytes) (k : Kind) (n : ℕ) → read_in radix m d digits after ≡ token k n
    → m + d ≡ n
read_in_len radix m d digits after k n =
    let P : Piece → Type 0 = λ q. q ≡ token k n → m + d ≡ n in
    on_cond P (are_digits radix digits) (number_before (m + d) (value_of radix digits) after) (bad p3)
    (λ _ e. before_len (m + d) (value_of radix digits) after k n e) (λ _ e. absurd (bad_is_none k n e))

read_in_cut : (radix m d : ℕ) (digits g back more : Bytes) (k : Kind) (n : ℕ)
    → read_in radix m d digits (g ++ back) ≡ token k n → read_in radix m d digits (g ++ 32 ∷ more) ≡ token k n
read_in_cut radix m d digits g back more k n =
    elim (are_digits radix digits) as
    (λ v. cond v (number_before (m + d) (value_of radix digits) (g ++ back)) (bad p3) ≡ token k n
    → cond v (number_before (m + d) (value_of radix digits) (g ++ 32 ∷ more)) (bad p3) ≡ token k n) [
      | true ↦ λ h. before_cut (m + d) (value_of radix digits) g back more k n h
      | false ↦ λ h. h
    ]

in_cut_at : (radix m d : ℕ) (g back more : Bytes) (k : Kind) (n : ℕ) → d ≤ length g
    → read_in radix m d (take d (g ++ back)) (drop d (g ++ back)) ≡ token k n
    → prefix_len is_radix_digit (g ++ 32 ∷ more) ≡ d → number_in radix m (g ++ 32 ∷ more) ≡ token k n
in_cut_at radix m d g back more k n short h same =
    let old : read_in radix m d (take d g) (drop d g ++ back) ≡ token k n = subst
    (λ (l : Bytes). read_in radix m d (take d g) l ≡ token k n) (drop-append-le d g back short)
    (subst (λ (l : Bytes). read_in radix m d l (drop d (g ++ back)) ≡ token k n) (take-append-le d g back short) h) in
    let new : read_in radix m d (take d g) (drop d g ++ 32 ∷ more)
    ≡ token k n = read_in_cut radix m d (take d g) (drop d g) back more k n old in
    let wide : read_in radix m d (take d (g ++ 32 ∷ more)) (drop d (g ++ 32 ∷ more)) ≡ token k n =
    subst (λ (l : Bytes). read_in radix m d l (drop d (g ++ 32 ∷ more)) ≡ token k n)
    (sym (take-append-le d g (32 ∷ more) short))
    (subst (λ (l : Bytes). read_in radix m d (take d g) l ≡ token k n)
    (sym (drop-append-le d g (32 ∷ more) short)) new) in
    ap (λ e. read_in radix m e (take e (g ++ 32 ∷ more)) (drop e (g ++ 32 ∷ more))) same ∙ wide

in_cut : (radix m : ℕ) (g back more : Bytes) (k : Kind) (n : ℕ) → number_in radix m (g ++ back) ≡ token k n
    → n ≤ m + length g → number_in radix m (g ++ 32 ∷ more) ≡ token k n
in_cut radix m g back more k n h fits =
    let len : m + prefix_len is_radix_digit (g ++ back)
    ≡ n = read_in_len radix m (prefix_len is_radix_digit (g ++ back))
    (take (prefix_len is_radix_digit (g ++ back)) (g ++ back))
    (drop (prefix_len is_radix_digit (g ++ back)) (g ++ back)) k n h in
    let short : prefix_len is_radix_digit (g ++ back) ≤ length g = omega arith in
    let same : prefix_len is_radix_digit (g ++ 32 ∷ more)
    ≡ prefix_len is_radix_digit (g ++ back) = prefix_cut is_radix_digit g back more refl short in
    in_cut_at radix m (prefix_len is_radix_digit (g ++ back)) g back more k n short h same

-- a number whose first n0 bytes are read, before a rest
abbrev pub number_tail : (value m : ℕ) → Bytes → Piece
number_tail value m rest = cond (begins_with 114 rest) (number_in value (m + 1) (drop 1 rest))
    (number_before m value rest)

in_above : (radix m : ℕ) (rest : Bytes) (k : Kind) (n : ℕ) → number_in radix m rest ≡ token k n → m ≤ n
in_above radix m rest k n h =
    let len : m + prefix_len is_radix_digit rest
    ≡ n = read_in_len radix m (prefix_len is_radix_digit rest) (take (prefix_len is_radix_digit rest) rest)
    (drop (prefix_len is_radix_digit rest) rest) k n h in
    omega arith

no_tail : (value m : ℕ) (back more : Bytes) (k : Kind) (n : ℕ) → number_tail value m back ≡ token k n → n ≤ m + 0
    → number_before m value (32 ∷ more) ≡ token k n
no_tail value m back more k n h fits =
    let P : Piece → Type 0 = λ q. q ≡ token k n → number_before m value (32 ∷ more) ≡ token k n in
    on_cond P (begins_with 114 back) (number_in value (m + 1) (drop 1 back)) (number_before m value back)
    (λ _ e. let above = in_above value (m + 1) (drop 1 back) k n e in absurd (omega arith))
    (λ _ e. before_cut m value [] back more k n e) h

tail_cut : (value m : ℕ) (g back more : Bytes) (k : Kind) (n : ℕ) → number_tail value m (g ++ back) ≡ token k n
    → n ≤ m + length g → number_tail value m (g ++ 32 ∷ more) ≡ token k n
tail_cut value m [] back more k n h fits = no_tail value m back more k n h fits
tail_cut value m (c ∷ g) back more k n h fits =
    elim (c == 114) as (λ v. cond v (number_in value (m + 1) (g ++ back)) (number_before m value (c ∷ g ++ back))
    ≡ token k n → cond v (number_in value (m + 1) (g ++ 32 ∷ more)) (number_before m value (c ∷ g ++ 32 ∷ more))
    ≡ token k n) [
      | true ↦ λ e. in_cut value (m + 1) g back more k n e (omega arith)
      | false ↦ λ e. before_cut m value (c ∷ g) back more k n e
    ] h

pub after_is : (m : ℕ) (front x : Bytes) → m ≤ length front
    → number_after m (front ++ x) ≡ number_tail (value_of 10 (take m front)) m (drop m front ++ x)
after_is m front x fits =
    ap (λ l. cond (begins_with 114 (drop m (front ++ x))) (number_in (value_of 10 (take m (front ++ x))) (m + 1) l)
    (number_before m (value_of 10 (take m (front ++ x))) (drop m (front ++ x)))) (sym (drop-drop 1 m (front ++ x)))
    ∙ ap (λ l. number_tail (value_of 10 l) m (drop m (front ++ x))) (take-append-le m front x fits)
    ∙ ap (λ l. number_tail (value_of 10 (take m front)) m l) (drop-append-le m front x fits)

after_above : (m : ℕ) (text : Bytes) (k : Kind) (n : ℕ) → number_after m text ≡ token k n → m ≤ n
after_above m text k n =
    let P : Piece → Type 0 = λ q. q ≡ token k n → m ≤ n in
    on_cond P (begins_with 114 (drop m text)) (number_in (value_of 10 (take m text)) (m + 1) (drop (m + 1) text))
    (number_before m (value_of 10 (take m text)) (drop m text))
    (λ _ e. let above = in_above (value_of 10 (take m text)) (m + 1) (drop (m + 1) text) k n e in omega arith)
    (λ _ e. let len = before_len m (value_of 10 (take m text)) (drop m text) k n e in omega arith)

after_cut : (m : ℕ) (front back more : Bytes) (k : Kind) (n : ℕ) → m ≤ length front
    → number_after m (front ++ back) ≡ token k n → n ≤ length front → number_after m (front ++ 32 ∷ more) ≡ token k n
after_cut m front back more k n short h fits =
    after_is m front (32 ∷ more) short
    ∙ tail_cut (value_of 10 (take m front)) m (drop m front) back more k n (sym (after_is m front back short) ∙ h)
    (omega (arith, length-drop m front))

pub number_cut : (front back more : Bytes) (k : Kind) (n : ℕ) → number_at (front ++ back) ≡ token k n → n ≤ length front
    → number_at (front ++ 32 ∷ more) ≡ token k n
number_cut front back more k n h fits =
    let above = after_above (prefix_len is_ascii_digit (front ++ back)) (front ++ back) k n h in
    let short : prefix_len is_ascii_digit (front ++ back) ≤ length front = omega arith in
    ap (λ m. number_after m (front ++ 32 ∷ more)) (prefix_cut is_ascii_digit front back more refl short)
    ∙ after_cut (prefix_len is_ascii_digit (front ++ back)) front back more k n short h fits

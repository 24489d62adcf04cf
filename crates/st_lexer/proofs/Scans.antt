-- One step of each scan of a text.
use Rattle.std.proofs.Common.{◌≡◌, ℕ, ◌+◌, ◌<◌, ◌≤◌, Bool, true, false, cond, Option, Some, None, [], ◌∷◌, length}
use Rattle.std.proofs.Common.{get_or, drop, refl, sym, ap, ◌∙◌, arith, zero-add, add_assoc}
use Rattle.std.specs.Prelude.{nat_lt, ◌==◌, ◌&&◌}
use Rattle.std.proofs.Math.ListN.{drop_of_length-le}
use Rattle.texts.specs.Bytes.{Bytes}
use Rattle.st_grammar.specs.Tokens.{later, string_end, string_bytes, keywords, name_goes_on, is_keyword_end}
use Rattle.st_lexer.proofs.Places.{from_place}

pub later_zero : (o : Option ℕ) → o ≡ later 0 o
later_zero (Some n) = ap Some (omega arith)
later_zero None = refl

pub later-later : (a b : ℕ) (o : Option ℕ) → later a (later b o) ≡ later (a + b) o
later-later a b (Some n) = ap Some (omega arith)
later-later a b None = refl

pub later_none_more : (i : ℕ) → later i (Some 0) ≡ Some i
later_none_more i = ap Some (zero-add i)

-- strings
pub record InString (text : Bytes) (i size : ℕ) (quoted : Bool) : Type 0 where
  pub ends : string_end false text ≡ later i (string_end quoted (drop i text))
  pub bytes : length (string_bytes false text) ≡ size + length (string_bytes quoted (drop i text))
  pub small : size ≤ i

pub string_starts : (text : Bytes) → InString text 0 0 false
string_starts text = record {
  ends = later_zero (string_end false text);
  bytes = sym
      (zero-add (length (string_bytes false text)));
  small = omega arith;
}

-- what one byte does to each of the two
ends_plain : (text : Bytes) (i : ℕ) → i < length text
    → string_end false (drop i text) ≡ later 1 (string_end (get_or text i 0 == 39) (drop (i + 1) text))
ends_plain text i h = ap (string_end false) (from_place text i h)

ends_quoted : (text : Bytes) (i : ℕ) → i < length text
    → string_end true (drop i text)
    ≡ cond (get_or text i 0 == 39) (later 1 (string_end false (drop (i + 1) text))) (Some 0)
ends_quoted text i h = ap (string_end true) (from_place text i h)

bytes_plain : (text : Bytes) (i : ℕ) → i < length text
    → string_bytes false (drop i text)
    ≡ cond (get_or text i 0 == 39) (string_bytes true (drop (i + 1) text))
    (get_or text i 0 ∷ string_bytes false (drop (i + 1) text))
bytes_plain text i h = ap (string_bytes false) (from_place text i h)

bytes_quoted : (text : Bytes) (i : ℕ) → i < length text
    → string_bytes true (drop i text) ≡ cond (get_or text i 0 == 39) (39 ∷ string_bytes false (drop (i + 1) text)) []
bytes_quoted text i h = ap (string_bytes true) (from_place text i h)

-- a byte of the string
pub string_plain : (text : Bytes) (i size : ℕ) → i < length text → (get_or text i 0 == 39) ≡ false
    → InString text i size false → InString text (i + 1) (size + 1) false
string_plain text i size h e s =
    let ends : string_end false (drop i text) ≡ later 1 (string_end false (drop (i + 1) text)) = ends_plain text i h
    ∙ ap (λ q. later 1 (string_end q (drop (i + 1) text))) e in
    let bytes : string_bytes false (drop i text) ≡ get_or text i 0 ∷ string_bytes false (drop (i + 1) text) =
    bytes_plain text i h ∙ ap (λ q. cond q (string_bytes true (drop (i + 1) text))
    (get_or text i 0 ∷ string_bytes false (drop (i + 1) text))) e in
    record {
      ends = s.ends ∙ ap (later i) ends ∙ later-later i 1 (string_end false (drop (i + 1) text));
      bytes = omega (arith, s.bytes, ap length bytes);
      small = omega (arith, s.small);
    }

-- a quote that may end it
pub string_quote : (text : Bytes) (i size : ℕ) → i < length text → (get_or text i 0 == 39) ≡ true
    → InString text i size false → InString text (i + 1) size true
string_quote text i size h e s =
    let ends : string_end false (drop i text) ≡ later 1 (string_end true (drop (i + 1) text)) = ends_plain text i h
    ∙ ap (λ q. later 1 (string_end q (drop (i + 1) text))) e in
    let bytes : string_bytes false (drop i text) ≡ string_bytes true (drop (i + 1) text) =
    bytes_plain text i h ∙ ap (λ q. cond q (string_bytes true (drop (i + 1) text))
    (get_or text i 0 ∷ string_bytes false (drop (i + 1) text))) e in
    record {
      ends = s.ends ∙ ap (later i) ends ∙ later-later i 1 (string_end true (drop (i + 1) text));
      bytes = omega (arith, s.bytes, ap length bytes);
      small = omega (arith, s.small);
    }

-- a quote after it, so that both are one
pub string_doubled : (text : Bytes) (i size : ℕ) → i < length text → (get_or text i 0 == 39) ≡ true
    → InString text i size true → InString text (i + 1) (size + 1) false
string_doubled text i size h e s =
    let ends : string_end true (drop i text) ≡ later 1 (string_end false (drop (i + 1) text)) = ends_quoted text i h
    ∙ ap (λ q. cond q (later 1 (string_end false (drop (i + 1) text))) (Some 0)) e in
    let bytes : string_bytes true (drop i text) ≡ 39 ∷ string_bytes false (drop (i + 1) text) =
    bytes_quoted text i h ∙ ap (λ q. cond q (39 ∷ string_bytes false (drop (i + 1) text)) []) e in
    record {
      ends = s.ends ∙ ap (later i) ends ∙ later-later i 1 (string_end false (drop (i + 1) text));
      bytes = omega (arith, s.bytes, ap length bytes);
      small = omega (arith, s.small);
    }

-- another byte after it, so that it was the end
pub string_ended : (text : Bytes) (i size : ℕ) → i < length text → (get_or text i 0 == 39) ≡ false
    → InString text i size true → (string_end false text ≡ Some i) × (length (string_bytes false text) ≡ size)
string_ended text i size h e s =
    let ends : string_end true (drop i text) ≡ Some 0 = ends_quoted text i h
    ∙ ap (λ q. cond q (later 1 (string_end false (drop (i + 1) text))) (Some 0)) e in
    let bytes : string_bytes true (drop i text) ≡ [] = bytes_quoted text i h
    ∙ ap (λ q. cond q (39 ∷ string_bytes false (drop (i + 1) text)) []) e in
    (s.ends ∙ ap (later i) ends ∙ later_none_more i, omega (arith, s.bytes, ap length bytes))

pub string_ended_last : (text : Bytes) (i size : ℕ) → length text ≤ i → InString text i size true
    → (string_end false text ≡ Some i) × (length (string_bytes false text) ≡ size)
string_ended_last text i size h s =
    let ends : string_end true (drop i text) ≡ Some 0 = ap (string_end true) (drop_of_length-le text h) in
    let bytes : string_bytes true (drop i text) ≡ [] = ap (string_bytes true) (drop_of_length-le text h) in
    (s.ends ∙ ap (later i) ends ∙ later_none_more i, omega (arith, s.bytes, ap length bytes))

pub string_open : (text : Bytes) (i size : ℕ) → length text ≤ i → InString text i size false
    → string_end false text ≡ None
string_open text i size h s = s.ends ∙ ap (λ l. later i (string_end false l)) (drop_of_length-le text h)

-- keywords
pub record InKeywords (text : Bytes) (done here : ℕ) : Type 0 where
  pub len : keywords 0 text ≡ done + keywords here (drop (done + here) text)
  pub within : done + here ≤ length text

pub keywords_start : (text : Bytes) → InKeywords text 0 0
keywords_start text = record { len = sym (zero-add (keywords 0 text)); within = omega arith }

keywords_step : (text : Bytes) (at here : ℕ) → at < length text → keywords here (drop at text)
    ≡ cond (name_goes_on here (get_or text at 0)) (keywords (here + 1) (drop (at + 1) text))
    (cond (nat_lt 0 here && is_keyword_end (drop at text)) (here + 1 + keywords 0 (drop (at + 1) text)) 0)
keywords_step text at here h =
    ap (keywords here) (from_place text at h)
    ∙ ap (λ l. cond (name_goes_on here (get_or text at 0)) (keywords (here + 1) (drop (at + 1) text))
    (cond (nat_lt 0 here && is_keyword_end l) (here + 1 + keywords 0 (drop (at + 1) text)) 0))
    (sym (from_place text at h))

pub keywords_name : (text : Bytes) (done here : ℕ) → done + here < length text
    → name_goes_on here (get_or text (done + here) 0) ≡ true → InKeywords text done here
    → InKeywords text done (here + 1)
keywords_name text done here h e s =
    let step : keywords here (drop (done + here) text)
    ≡ keywords (here + 1) (drop (done + here + 1) text) = keywords_step text (done + here) here h ∙ rw e refl in
    record {
      len = s.len ∙ ap (λ n. done + n) step
          ∙ ap (λ k. done + keywords (here + 1) (drop k text)) (add_assoc done here 1);
      within = omega arith;
    }

pub keywords_colon : (text : Bytes) (done here : ℕ) → done + here < length text
    → name_goes_on here (get_or text (done + here) 0) ≡ false → nat_lt 0 here ≡ true
    → is_keyword_end (drop (done + here) text) ≡ true → InKeywords text done here
    → InKeywords text (done + (here + 1)) 0
keywords_colon text done here h e some colon s =
    let step : keywords here (drop (done + here) text)
    ≡ here + 1 + keywords 0 (drop (done + here + 1) text) = keywords_step text (done + here) here h
    ∙ rw (e, some, colon) refl in
    let places : done + here + 1 ≡ done + (here + 1) + 0 = omega arith in
    let same : keywords 0 (drop (done + here + 1) text) ≡ keywords 0 (drop (done + (here + 1) + 0) text) = ap
    (λ k. keywords 0 (drop k text)) places in
    record { len = omega (arith, s.len, step, same); within = omega arith }

pub keywords_end : (text : Bytes) (done here : ℕ) → done + here < length text
    → name_goes_on here (get_or text (done + here) 0) ≡ false
    → (nat_lt 0 here && is_keyword_end (drop (done + here) text)) ≡ false → InKeywords text done here
    → keywords 0 text ≡ done
keywords_end text done here h e stops s =
    let step : keywords here (drop (done + here) text) ≡ 0 = keywords_step text (done + here) here h
    ∙ rw (e, stops) refl in
    omega (arith, s.len, step)

pub keywords_past : (text : Bytes) (done here : ℕ) → length text ≤ done + here → InKeywords text done here
    → keywords 0 text ≡ done
keywords_past text done here h s =
    let step : keywords here (drop (done + here) text) ≡ 0 = ap (keywords here) (drop_of_length-le text h) in
    omega (arith, s.len, step)

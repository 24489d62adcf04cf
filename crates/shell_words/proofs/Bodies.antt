-- The lines that a loop over lines has passed.
use Rattle.std.proofs.Common.{◌≡◌, ℕ, ◌+◌, ◌≤◌, false, List, [], ◌∷◌, ◌++◌, length, refl, arith, sym, ◌∙◌, ap, append_assoc, append-nil, length-append, codes}
use Rattle.std.specs.List.{AllByRecursion, list_all}
use Rattle.std.proofs.lemmas.List.{flat_map_more}
use Rattle.texts.specs.Bytes.{Bytes}
use Rattle.texts.specs.Lines.{text_of_lines}
use Rattle.shell_words.specs.Lines.{IsInner, IsBody}
use Rattle.shell_words.specs.ScriptGrammar.{IsPlain, is_script_byte, HasOtherByte}

pub more_of_all : {A : Type 0} (P : A → Type 0) (xs : List A) (x : A) → AllByRecursion P xs → P x → AllByRecursion P (xs ++ x ∷ [])
more_of_all P [] x all is = (is, tt)
more_of_all P (y ∷ ys) x all is = (all.0, more_of_all P ys x all.1 is)

-- Where a reading of a chunk's lines stands: with these lines, this many, and the others left.
pub record Passed (lines : List Bytes) (text : Bytes) (count : ℕ) (left : List Bytes) : Type 0 where
  pub body : List Bytes
  pub whole : lines ≡ body ++ left
  pub inner : AllByRecursion IsInner body
  pub is_text : text ≡ text_of_lines body
  pub counted : count ≡ length body

pub passed_none : (lines : List Bytes) → Passed lines [] 0 lines
passed_none lines = record { body = []; whole = refl; inner = tt; is_text = refl; counted = refl }

pub pass_line : {lines left rest : List Bytes} {text line : Bytes} {count : ℕ} → Passed lines text count left → left ≡ line ∷ rest → IsInner line
    → Passed lines ((text ++ line) ++ 10 ∷ []) (count + 1) rest
pass_line {rest = rest} {line = line} here is inner =
    let size = length-append here.body (line ∷ []) in
    let counted = here.counted in
    let more : text_of_lines here.body ++ (line ++ 10 ∷ []) ≡ text_of_lines (here.body ++ line ∷ []) = flat_map_more (λ l. l ++ 10 ∷ []) [] here.body line in
    record {
      body = here.body ++ line ∷ [];
      whole = here.whole ∙ rw is (sym (append_assoc here.body (line ∷ []) rest));
      inner = more_of_all IsInner here.body line here.inner inner;
      is_text = rw here.is_text (append_assoc (text_of_lines here.body) line (10 ∷ []) ∙ more);
      counted = rw size (omega arith);
    }

pub found_percent : {lines left rest : List Bytes} {text line : Bytes} {count : ℕ} → Passed lines text count left → left ≡ line ∷ rest → line ≡ codes "%"
    → (body : List Bytes) × IsBody lines body rest × (text ≡ text_of_lines body) × (count + 1 ≡ length body + 1)
found_percent here is e = (here.body, record { whole = here.whole ∙ rw (is, e) refl; inner = here.inner }, here.is_text, ap (λ n. n + 1) here.counted)

pub no_percent : {lines left : List Bytes} {text : Bytes} {count : ℕ} → Passed lines text count left → left ≡ [] → AllByRecursion IsInner lines
no_percent here none = let all = here.whole ∙ rw (none, append-nil) refl in rw all here.inner

-- so many lines were passed, and one is left
pub counts : {lines left rest : List Bytes} {text line : Bytes} {count : ℕ} → Passed lines text count left → left ≡ line ∷ rest → count + 1 ≤ length lines
counts {lines = lines} {rest = rest} {line = line} here is =
    let whole : lines ≡ here.body ++ line ∷ rest = here.whole ∙ ap (λ ls. here.body ++ ls) is in
    let size = ap length whole ∙ length-append here.body (line ∷ rest) in
    let counted = here.counted in
    omega (arith, size, counted)

-- Where a look for another byte stands: with this many lines without one, and the others left.
pub record Plain (lines : List Bytes) (count : ℕ) (left : List Bytes) : Type 0 where
  pub before : List Bytes
  pub whole : lines ≡ before ++ left
  pub plain : AllByRecursion IsPlain before
  pub counted : count ≡ length before

pub plain_none : (lines : List Bytes) → Plain lines 0 lines
plain_none lines = record { before = []; whole = refl; plain = tt; counted = refl }

pub plain_line : {lines left rest : List Bytes} {line : Bytes} {count : ℕ} → Plain lines count left → left ≡ line ∷ rest → IsPlain line
    → Plain lines (count + 1) rest
plain_line {rest = rest} {line = line} here is plain =
    let size = length-append here.before (line ∷ []) in
    let counted = here.counted in
    record {
      before = here.before ++ line ∷ [];
      whole = here.whole ∙ rw is (sym (append_assoc here.before (line ∷ []) rest));
      plain = more_of_all IsPlain here.before line here.plain plain;
      counted = rw size (omega arith);
    }

pub other_line : {lines left rest : List Bytes} {line : Bytes} {count : ℕ} → Plain lines count left → left ≡ line ∷ rest → list_all is_script_byte line ≡ false
    → HasOtherByte lines (count + 1)
other_line {rest = rest} {line = line} here is other = record {
  before = here.before;
  line = line;
  rest = rest;
  whole = here.whole ∙ rw is refl;
  numbered = ap (λ n. n + 1) here.counted;
  plain = here.plain;
  other = other;
}

pub all_plain : {lines left : List Bytes} {count : ℕ} → Plain lines count left → left ≡ [] → AllByRecursion IsPlain lines
all_plain here none = let all = here.whole ∙ rw (none, append-nil) refl in rw all here.plain

pub plain_counts : {lines left rest : List Bytes} {line : Bytes} {count : ℕ} → Plain lines count left → left ≡ line ∷ rest → count + 1 ≤ length lines
plain_counts {lines = lines} {rest = rest} {line = line} here is =
    let whole : lines ≡ here.before ++ line ∷ rest = here.whole ∙ ap (λ ls. here.before ++ ls) is in
    let size = ap length whole ∙ length-append here.before (line ∷ rest) in
    let counted = here.counted in
    omega (arith, size, counted)

-- The lines of a text and the words of a line, from the front.
use Rattle.std.proofs.Common.{◌≡◌, ℕ, ◌+◌, ◌-◌, ◌<◌, ◌≤◌, Bool, true, false, not, cond, ◌==◌, List, [], ◌∷◌, ◌++◌, length, take, drop, refl, ap, arith, sym, ◌∙◌, length-drop, append-nil, eq-eqb}
use Rattle.std.specs.List.{position_or_len, slice_split, onto_first}
use Rattle.std.proofs.lemmas.List.{nil_from_length, length-map, drop-drop, take-append-drop}
use Rattle.std.proofs.lemmas.List.Sums.{prefix_len-le-length, fails_before_first}
use Rattle.std.proofs.lemmas.List.Splits.{slice_split_first, slice_split_none}
use Rattle.std.proofs.lemmas.Bool.Decides.{nat_tests}
use Rattle.texts.specs.Bytes.{Bytes}
use Rattle.shell_words.specs.Lines.{is_line_feed, full_parts, without_return, lines_of}

-- where an element passes, the first part stands before it, and the rest after it
pub parts_at_first : (p : ℕ → Bool) (text part rest : Bytes) (n x : ℕ) → n ≡ position_or_len p text → part ≡ take n text → drop n text ≡ x ∷ rest
    → slice_split p text ≡ part ∷ slice_split p rest
parts_at_first p text part rest n x first is left =
    let size : length text - n ≡ length rest + 1 = sym (length-drop n text) ∙ (ap length left ∙ omega arith) in
    let below : n < length text = omega arith in
    let at : position_or_len p text < length text = rw (← first) below in
    let tail : rest ≡ drop (n + 1) text = ap (drop 1) (sym left) ∙ drop-drop 1 n text in
    let parts = rw (← first) at (slice_split_first p text 0 at) in
    rw (parts, is, tail) refl

-- where none passes, the text is the one part
pub one_part_at_end : (p : ℕ → Bool) (text part rest : Bytes) (n : ℕ) → n ≡ position_or_len p text → part ≡ take n text → rest ≡ drop n text
    → length rest ≡ 0 → (slice_split p text ≡ part ∷ []) × (part ≡ text) × (rest ≡ [])
one_part_at_end p text part rest n first is left over =
    let none : rest ≡ [] = nil_from_length rest over in
    let gone : drop n text ≡ [] = sym left ∙ none in
    let size : length text - n ≡ 0 = sym (length-drop n text) ∙ ap length gone in
    let within : n ≤ length text = rw first (prefix_len-le-length (λ b. not (p b)) text) in
    let whole : part ≡ text = rw (gone, append-nil) at (ap (λ front. front ++ drop n text) is ∙ take-append-drop n text) in
    let parts : slice_split p text ≡ text ∷ [] = slice_split_none p text (λ k d below. fails_before_first p text k d (omega arith)) in
    (parts ∙ ap (λ t. t ∷ []) (sym whole), whole, none)

-- the parts of a text are one at least
one_part_onto : (b : ℕ) (parts : List Bytes) → (first : Bytes) × (more : List Bytes) × (onto_first b parts ≡ first ∷ more)
one_part_onto b [] = (b ∷ [], [], refl)
one_part_onto b (part ∷ parts) = (b ∷ part, parts, refl)

one_part_if : (feed : Bool) (b : ℕ) (parts : List Bytes) → (first : Bytes) × (more : List Bytes) × (cond feed ([] ∷ parts) (onto_first b parts) ≡ first ∷ more)
one_part_if true b parts = ([], parts, refl)
one_part_if false b parts = one_part_onto b parts

pub one_part : (p : ℕ → Bool) (text : Bytes) → (first : Bytes) × (more : List Bytes) × (slice_split p text ≡ first ∷ more)
one_part p [] = ([], [], refl)
one_part p (b ∷ bs) = one_part_if (p b) b (slice_split p bs)

-- a part with more behind it is a line
full_part : (part : Bytes) (text : Bytes) → full_parts (part ∷ slice_split is_line_feed text) ≡ part ∷ full_parts (slice_split is_line_feed text)
full_part part text = let q = one_part is_line_feed text in rw q.2 refl

pub parts_before_feed : (text part rest : Bytes) (n x : ℕ) → n ≡ position_or_len is_line_feed text → part ≡ take n text → drop n text ≡ x ∷ rest
    → full_parts (slice_split is_line_feed text) ≡ part ∷ full_parts (slice_split is_line_feed rest)
parts_before_feed text part rest n x first is left = ap full_parts (parts_at_first is_line_feed text part rest n x first is left) ∙ full_part part rest

no_feed : (text : Bytes) (empty : Bool) → (length text == 0) ≡ empty → 0 < length text → full_parts (text ∷ []) ≡ text ∷ []
no_feed text true e some = absurd (grind (arith, nat_tests))
no_feed text false e some = rw e refl

pub parts_at_end : (text part rest : Bytes) (n : ℕ) → 0 < length text → n ≡ position_or_len is_line_feed text → part ≡ take n text → rest ≡ drop n text
    → length rest ≡ 0 → full_parts (slice_split is_line_feed text) ≡ part ∷ full_parts (slice_split is_line_feed rest)
parts_at_end text part rest n some first is left over =
    let one = one_part_at_end is_line_feed text part rest n first is left over in
    let whole : full_parts (part ∷ []) ≡ part ∷ [] = rw one.1 (no_feed text (length text == 0) refl some) in
    ap full_parts one.0 ∙ (whole ∙ rw one.2 refl)

-- a text has no more lines than bytes
one_line : (empty : Bool) (part : Bytes) → length (cond empty [] (part ∷ [])) ≤ 1
one_line true part = omega arith
one_line false part = omega arith

one_more : (feed : Bool) (b : ℕ) (first : Bytes) (more : List Bytes) (n : ℕ) → length (full_parts (first ∷ more)) ≤ n
    → length (full_parts (cond feed ([] ∷ first ∷ more) (onto_first b (first ∷ more)))) ≤ n + 1
one_more true b first more n le = omega (arith, le)
one_more false b first [] n le = let one = one_line (length (b ∷ first) == 0) (b ∷ first) in omega (arith, one)
one_more false b first (m ∷ ms) n le = omega (arith, le)

few_parts : (text : Bytes) → length (full_parts (slice_split is_line_feed text)) ≤ length text
few_parts [] = omega arith
few_parts (b ∷ bs) =
    let q = one_part is_line_feed bs in
    let less : length (full_parts (q.0 ∷ q.1)) ≤ length bs = rw (← q.2) (few_parts bs) in
    let all = one_more (is_line_feed b) b q.0 q.1 (length bs) less in
    rw q.2 (omega (arith, all))

pub few_lines : (text : Bytes) → length (lines_of text) ≤ length text
few_lines text = let few = few_parts text in rw length-map few

-- a CR at the end is dropped, and nothing else
drops_return : (front : Bytes) (b : ℕ) → (b == 13) ≡ true → without_return (front ++ b ∷ []) ≡ front
drops_return [] b is = rw is refl
drops_return (c ∷ []) b is = rw is refl
drops_return (c ∷ d ∷ front) b is = ap (λ bs. c ∷ bs) (drops_return (d ∷ front) b is)

keeps_other : (front : Bytes) (b : ℕ) → (b == 13) ≡ false → without_return (front ++ b ∷ []) ≡ front ++ b ∷ []
keeps_other [] b is = rw is refl
keeps_other (c ∷ []) b is = rw is refl
keeps_other (c ∷ d ∷ front) b is = ap (λ bs. c ∷ bs) (keeps_other (d ∷ front) b is)

pub ends_with_return : (part front : Bytes) (b : ℕ) → part ≡ front ++ b ∷ [] → b ≡ 13 → front ≡ without_return part
ends_with_return part front b is e = sym (ap without_return is ∙ drops_return front b (eq-eqb b 13 e))

pub ends_otherwise : (part front : Bytes) (b : ℕ) → part ≡ front ++ b ∷ [] → (b ≡ 13 → ⊥) → part ≡ without_return part
ends_otherwise part front b is other =
    let test : (b == 13) ≡ false = grind (arith, nat_tests) in
    is ∙ sym (ap without_return is ∙ keeps_other front b test)

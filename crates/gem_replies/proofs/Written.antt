-- Lists of lines that are written one after the other.
use Rattle.std.proofs.Common.{◌≡◌, ℕ, suc, ◌+◌, ◌<◌, ◌≤◌, List, [], ◌∷◌, ◌++◌, length, take, get_or, map, refl, ap, sym, ◌∙◌, append_assoc, append-nil, length-take-le, arith, rules}
use Rattle.std.proofs.Math.Seq.{take-length}
use Rattle.std.proofs.lemmas.Grind.{flat_map-append}
use Rattle.std.proofs.lemmas.List.{take_more, flat_map_more}
use Rattle.std.specs.List.{flat_map}
use Rattle.gem_object.specs.texts.Bytes.{Bytes}
use Rattle.gem_record.specs.declared.record.Entry.{Entry}
use Rattle.gem_object.specs.texts.Lines.{text_of_lines}
use Rattle.gem_replies.specs.Report.{entry_text, history_lines}

-- one item more is written
pub one_more : {X : Type 0} (f : X → Bytes) (xs : List X) (i : ℕ) (x : X) (before now next : Bytes) → i < length xs → x ≡ get_or xs i x
    → now ≡ before ++ flat_map f (take i xs) → next ≡ now ++ f x → next ≡ before ++ flat_map f (take (i + 1) xs)
one_more f xs i x before now next below is here written =
    written ∙ ap (λ text. text ++ f x) here ∙ flat_map_more f before (take i xs) x
    ∙ ap (λ ys. before ++ flat_map f ys) (sym (take_more xs i x below ∙ ap (λ y. take i xs ++ y ∷ []) (sym is)))

-- all items are written
pub all_written : {X : Type 0} (f : X → Bytes) (xs : List X) (i : ℕ) (before now : Bytes) → i ≡ length xs
    → now ≡ before ++ flat_map f (take i xs) → now ≡ before ++ flat_map f xs
all_written f xs i before now over here = here ∙ ap (λ ys. before ++ flat_map f ys) (ap (λ k. take k xs) over ∙ take-length xs)

-- the text of all lines, by the items that they come from
pub lines_by_item : {X : Type 0} (f : X → List Bytes) (xs : List X) → flat_map (λ x. text_of_lines (f x)) xs ≡ text_of_lines (flat_map f xs)
lines_by_item f [] = refl
lines_by_item f (x ∷ xs) = ap (λ text. text_of_lines (f x) ++ text) (lines_by_item f xs) ∙ sym (flat_map-append (λ l. l ++ 10 ∷ []) (f x) (flat_map f xs))

-- the same where each item has one line
pub line_by_item : {X : Type 0} (f : X → Bytes) (xs : List X) → flat_map (λ x. text_of_lines (f x ∷ [])) xs ≡ text_of_lines (map f xs)
line_by_item f [] = refl
line_by_item f (x ∷ xs) = ap (λ text. text_of_lines (f x ∷ []) ++ text) (line_by_item f xs) ∙ sym (flat_map-append (λ l. l ++ 10 ∷ []) (f x ∷ []) (map f xs))

count_zero : (a : ℕ) → a ≡ a + 0
count_zero a = omega arith

count_one : (a b : ℕ) → a + 1 + b ≡ a + suc b
count_one a b = omega arith

history_more : (number : ℕ) (entries : List Entry) (entry : Entry) → history_lines number (entries ++ entry ∷ []) ≡ history_lines number entries ++ entry_text (number + length entries) entry ∷ []
history_more number [] entry = ap (λ n. entry_text n entry ∷ []) (count_zero number)
history_more number (e ∷ es) entry =
    ap (λ lines. entry_text number e ∷ lines) (history_more (number + 1) es entry
    ∙ ap (λ n. history_lines (number + 1) es ++ entry_text n entry ∷ []) (count_one number (length es)))

-- the line of one commit more is written
pub one_commit : (number : ℕ) (entries : List Entry) (i : ℕ) (entry d : Entry) (before now next : Bytes) → i < length entries → entry ≡ get_or entries i d
    → now ≡ before ++ text_of_lines (history_lines number (take i entries)) → next ≡ now ++ text_of_lines (entry_text (number + i) entry ∷ [])
    → next ≡ before ++ text_of_lines (history_lines number (take (i + 1) entries))
one_commit number entries i entry d before now next below is here written =
    let taken : take (i + 1) entries ≡ take i entries ++ entry ∷ [] = take_more entries i d below ∙ ap (λ y. take i entries ++ y ∷ []) (sym is) in
    let within : i ≤ length entries = omega arith in
    let count : length (take i entries) ≡ i = length-take-le i entries within in
    let more : history_lines number (take (i + 1) entries) ≡ history_lines number (take i entries) ++ entry_text (number + i) entry ∷ [] =
    ap (history_lines number) taken ∙ history_more number (take i entries) entry
    ∙ ap (λ n. history_lines number (take i entries) ++ entry_text (number + n) entry ∷ []) count in
    written ∙ ap (λ text. text ++ text_of_lines (entry_text (number + i) entry ∷ [])) here
    ∙ append_assoc before (text_of_lines (history_lines number (take i entries))) (text_of_lines (entry_text (number + i) entry ∷ []))
    ∙ ap (λ text. before ++ text) (sym (ap text_of_lines more ∙ flat_map-append (λ l. l ++ 10 ∷ []) (history_lines number (take i entries)) (entry_text (number + i) entry ∷ [])))

-- four pieces, as a format joins them and as a line's text does
pub four_pieces : (a b c d : Bytes) → a ++ (b ++ (c ++ d)) ≡ a ++ b ++ c ++ d
four_pieces a b c d = sym (append_assoc (a ++ b) c d ∙ append_assoc a b (c ++ d))

-- the same of six pieces
pub six_pieces : (a b c d e f : Bytes) → a ++ (b ++ (c ++ (d ++ (e ++ f)))) ≡ a ++ b ++ c ++ d ++ e ++ f
six_pieces a b c d e f = search (rules, append_assoc)

-- the same of eight pieces
pub eight_pieces : (a b c d e f g h : Bytes) → a ++ (b ++ (c ++ (d ++ (e ++ (f ++ (g ++ h)))))) ≡ a ++ b ++ c ++ d ++ e ++ f ++ g ++ h
eight_pieces a b c d e f g h = search (rules, append_assoc)

-- the same of nine pieces, the last of them the line's end
pub nine_with_end : (a b c d e f g h i : Bytes)
    → a ++ (b ++ (c ++ (d ++ (e ++ (f ++ (g ++ (h ++ i))))))) ≡ (a ++ b ++ c ++ d ++ e ++ f ++ g ++ h) ++ i ++ []
nine_with_end a b c d e f g h i =
    eight_pieces a b c d e f g (h ++ i) ∙ sym (append_assoc (a ++ b ++ c ++ d ++ e ++ f ++ g) h i)
    ∙ sym (append-nil (a ++ b ++ c ++ d ++ e ++ f ++ g ++ h ++ i))

-- The lines of a text, and the words of a line.
use Rattle.std.specs.Prelude.{◌≡◌, ◌≢◌, ℕ, Bool, ◌==◌, codes, List, [], ◌∷◌, ◌++◌, length, map, if◌then◌else◌}
use Rattle.std.specs.List.{AllByRecursion, slice_split}
use Rattle.texts.specs.Bytes.{Bytes}

-- whether a byte is LF
abbrev pub is_line_feed : ℕ → Bool
is_line_feed b = b == 10

-- the parts between LFs without an empty last part
abbrev pub full_parts : List Bytes → List Bytes
full_parts [] = []
full_parts (part ∷ []) = if length part == 0 then [] else part ∷ []
full_parts (part ∷ next ∷ parts) = part ∷ full_parts (next ∷ parts)

-- the part without a CR at its end
abbrev pub without_return : Bytes → Bytes
without_return [] = []
without_return (b ∷ []) = if b == 13 then [] else b ∷ []
without_return (b ∷ c ∷ bs) = b ∷ without_return (c ∷ bs)

-- The lines of a text. A line ends with LF or with the end of the text, and a CR just before either
-- is dropped.
abbrev pub lines_of : Bytes → List Bytes
lines_of text = map without_return (full_parts (slice_split is_line_feed text))

-- whether a byte is a space
abbrev pub is_space : ℕ → Bool
is_space b = b == 32

-- The words of a line, which single spaces separate. Between two spaces stands an empty word.
abbrev pub line_words : Bytes → List Bytes
line_words line = slice_split is_space line

-- the line is not the one that ends a chunk
abbrev pub IsInner : Bytes → Type 0
IsInner line = line ≢ codes "%"

-- The first of these lines up to a line %, and the lines that follow that line.
pub record IsBody (lines : List Bytes) (body : List Bytes) (rest : List Bytes) : Type 0 where
  pub whole : lines ≡ body ++ codes "%" ∷ rest
  pub inner : AllByRecursion IsInner body

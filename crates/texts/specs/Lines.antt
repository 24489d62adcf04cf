-- Texts of lines.
use Rattle.std.specs.Prelude.{List, [], ◌∷◌, ◌++◌}
use Rattle.std.specs.List.{flat_map}
use Rattle.texts.specs.Bytes.{Bytes}

-- the lines, each with LF at its end
abbrev pub text_of_lines : List Bytes → Bytes
text_of_lines lines = flat_map (λ line. line ++ 10 ∷ []) lines

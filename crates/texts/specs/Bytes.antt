-- Texts.
use Rattle.std.specs.Prelude.{ℕ, List}

-- a text, byte by byte
abbrev pub Bytes : Type 0
Bytes = List ℕ

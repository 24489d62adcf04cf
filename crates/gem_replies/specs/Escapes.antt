-- How a report shows texts from the image, so that each stays within its line.
use Rattle.std.specs.Prelude.{ℕ, ◌≤◌, ◌≢◌, ◌/◌, ◌%◌, ◌==◌, ◌||◌, nat_lt, false, codes, [], ◌∷◌, ◌++◌, if◌then◌else◌}
use Rattle.std.specs.List.{flat_map}
use Rattle.std.specs.Fmt.{digit_glyph}
use Rattle.gem_object.specs.texts.Bytes.{Bytes}

-- the byte as two hexadecimal digits, in lower case
abbrev pub two_digits : ℕ → Bytes
two_digits byte = digit_glyph false (byte / 16) ∷ digit_glyph false (byte % 16) ∷ []

-- the byte as it is shown: LF as `\n`, a backslash as two, another byte below 32 and 127 as `\x`
-- and two digits, and every other byte as itself
abbrev pub escape : ℕ → Bytes
escape byte =
    if byte == 10 then codes "\\n"
    else (if byte == 92 then codes "\\\\"
    else (if nat_lt byte 32 || byte == 127 then codes "\\x" ++ two_digits byte
    else byte ∷ []))

-- the text with each byte as it is shown
abbrev pub escaped : Bytes → Bytes
escaped text = flat_map escape text

-- the byte may stand in a line
abbrev pub IsShown : ℕ → Type 0
IsShown byte = (32 ≤ byte) × (byte ≢ 127)

-- The log: a chain of records, each behind an open gate. What a log holds, or its first fault.
use Rattle.std.specs.Prelude.{◌≡◌, ◌<◌, ℕ, zero, suc, ◌+◌, ◌%◌, ◌^◌, ◌==◌, ◌&&◌, nat_lt, nat_le, ⊤, IsTrue, Bool, true, false, if◌then◌else◌, List, [], ◌∷◌, ◌++◌, length, map, take, drop, Option, Some, None, option_map, Result, Ok, Err}
use Rattle.std.specs.Int.{w32, w64, from_le_bytes}
use Rattle.gem_record.specs.declared.mode.Mode.{Mode}
use Rattle.gem_record.specs.declared.mode.Mode.TheVariants.{Full, NoRw}
use Rattle.gem_record.specs.declared.effect.Effect.{Effect}
use Rattle.gem_record.specs.Effects.{effect_size}
use Rattle.body_codec.specs.Stored.{IsStoredEffect}
use Rattle.body_codec.specs.Spelled.{four_bytes, eight_bytes, spelled_effect}
use Rattle.body_codec.specs.Whole.{whole_effect}
use Rattle.tran_log.specs.declared.fault.LogRule.{LogRule}
use Rattle.tran_log.specs.declared.fault.LogRule.TheVariants as rule
use Rattle.tran_log.specs.declared.logged.Logged.{Logged}

-- ---- Records and chains.

-- A record, in one of two formats. One of format 1 has no mode of its own, and counts as Full.
pub data LogRecord : Type 0 where
  Format1 : Effect → LogRecord
  Format2 : Mode → Effect → LogRecord

abbrev pub effect_of : LogRecord → Effect
effect_of (Format1 effect) = effect
effect_of (Format2 mode effect) = effect

abbrev pub mode_of : LogRecord → Mode
mode_of (Format1 effect) = Full
mode_of (Format2 mode effect) = mode

abbrev pub mode_byte : Mode → ℕ
mode_byte Full = 0
mode_byte NoRw = 1

-- what stands behind a record's number: in format 1 its effect, in format 2 its mode and its effect
abbrev pub content : LogRecord → List ℕ
content (Format1 effect) = spelled_effect effect
content (Format2 mode effect) = mode_byte mode ∷ spelled_effect effect

-- how long that is; in format 2 the highest bit is set besides
abbrev pub length_word : LogRecord → ℕ
length_word (Format1 effect) = length (spelled_effect effect)
length_word (Format2 mode effect) = 2 ^ 31 + (1 + length (spelled_effect effect))

-- a record: its length word, its number, and what stands behind it
abbrev pub spelled : LogRecord → List ℕ
spelled one = four_bytes (length_word one) ++ (eight_bytes (effect_of one).number ++ content one)

-- a record as it is written: in format 2
abbrev pub spelled_record : Mode → Effect → List ℕ
spelled_record mode effect = spelled (Format2 mode effect)

-- the bytes of a record with its gate
abbrev pub record_size : LogRecord → ℕ
record_size (Format1 effect) = 13 + effect_size effect
record_size (Format2 mode effect) = 14 + effect_size effect

-- records, each behind a gate that is open
abbrev pub chain : List LogRecord → List ℕ
chain [] = []
chain (one ∷ records) = 1 ∷ (spelled one ++ chain records)

-- Whether a record may have this number: one more than the record before it, where there is one,
-- and below 2^63.
abbrev pub follows : Option ℕ → ℕ → Bool
follows None number = nat_lt number (2 ^ 63)
follows (Some last) number = (number == last + 1) && nat_lt number (2 ^ 63)

-- the record stands behind one of this number
pub record IsNext (last : Option ℕ) (one : LogRecord) : Type 0 where
  pub stored : IsStoredEffect (effect_of one).number (effect_of one)
  pub short : length (content one) < 2 ^ 31
  pub number : IsTrue (follows last (effect_of one).number)

-- the records stand one behind the other
abbrev pub AreRecords : Option ℕ → List LogRecord → Type 0
AreRecords last [] = ⊤
AreRecords last (one ∷ records) =
    IsNext last one × AreRecords (Some (effect_of one).number) records

-- ---- What is read of records.

abbrev pub logged_as : (at : ℕ) → Mode → Effect → Logged
logged_as at mode effect = record { at = at; mode = mode; effect = effect }

-- these records as they are read, where the gate of the first one stands at this offset
abbrev pub logged_from : ℕ → List LogRecord → List Logged
logged_from at [] = []
logged_from at (one ∷ records) =
    logged_as at (mode_of one) (effect_of one)
    ∷ logged_from (at + (1 + length (spelled one))) records

-- the number of the last of these records, or of the one before them
abbrev pub last_number : Option ℕ → List Logged → Option ℕ
last_number last [] = last
last_number last (one ∷ logged) = last_number (Some one.effect.number) logged

-- effects, each with a mode, as records of format 2
abbrev pub in_format_2 : Mode × Effect → LogRecord
in_format_2 one = Format2 one.0 one.1

abbrev pub written : List (Mode × Effect) → List LogRecord
written more = map in_format_2 more

-- The bytes are the bodies of these effects, one behind the other: the record of each, and the gate
-- behind it, which is open but for the last one. So behind an open gate they are the chain of the
-- records and a closed gate. There is one effect at least, since no bytes are none.
abbrev pub AreBodies : List (Mode × Effect) → List ℕ → Type 0
AreBodies more bytes = 1 ∷ bytes ≡ chain (written more) ++ (0 ∷ [])

-- ---- Reading.

-- the length word of the record that begins these bytes, and its number
abbrev pub word_in : List ℕ → ℕ
word_in bytes = from_le_bytes w32 (take 4 bytes)

abbrev pub number_in : List ℕ → ℕ
number_in bytes = from_le_bytes w64 (take 8 (drop 4 bytes))

-- whether it is of format 2, and how long is what stands behind its number
abbrev pub is_format_2 : List ℕ → Bool
is_format_2 bytes = nat_le (2 ^ 31) (word_in bytes)

abbrev pub length_in : List ℕ → ℕ
length_in bytes = word_in bytes % 2 ^ 31

-- what stands behind the record
abbrev pub behind : List ℕ → List ℕ
behind bytes = drop (length_in bytes) (drop 12 bytes)

abbrev pub byte_mode : ℕ → Option Mode
byte_mode byte = if byte == 0 then Some Full else (if byte == 1 then Some NoRw else None)

-- the mode and the bytes of the effect in what stands behind a number, if it has a mode
abbrev pub parts_of : (of_format_2 : Bool) → List ℕ → Option (Mode × List ℕ)
parts_of false bytes = Some (Full, bytes)
parts_of true [] = None
parts_of true (byte ∷ bytes) = option_map (λ mode. (mode, bytes)) (byte_mode byte)

-- the mode with the effect that some bytes are, if they are one
abbrev pub whole : Mode → Option Effect → Result (Mode × Effect) LogRule
whole mode None = Err rule.Effect
whole mode (Some effect) = Ok (mode, effect)

abbrev pub whole_parts : ℕ → Option (Mode × List ℕ) → Result (Mode × Effect) LogRule
whole_parts number None = Err rule.Mode
whole_parts number (Some parts) = whole parts.0 (whole_effect number parts.1)

-- The mode and the effect of the record that begins these bytes, behind a record of this number.
-- The rules are tried in their order.
unfoldable pub record_at : Option ℕ → List ℕ → Result (Mode × Effect) LogRule
record_at last bytes =
    if nat_lt (length bytes) 12 then Err rule.Length else (
    if nat_lt (length (drop 12 bytes)) (length_in bytes) then Err rule.Length else (
    if follows last (number_in bytes)
    then whole_parts (number_in bytes)
    (parts_of (is_format_2 bytes) (take (length_in bytes) (drop 12 bytes)))
    else Err rule.Number))

-- a fault: the offset of a gate, and the rule that the record behind it breaks, or the gate itself
abbrev pub Fault : Type 0
Fault = ℕ × LogRule

abbrev pub before : Logged → Result (List Logged) Fault → Result (List Logged) Fault
before one (Ok logged) = Ok (one ∷ logged)
before one (Err fault) = Err fault

-- what a record gives and what stands behind it gives
abbrev pub joined : ℕ → Result (Mode × Effect) LogRule → Result (List Logged) Fault
    → Result (List Logged) Fault
joined at (Ok read) more = before (logged_as at read.0 read.1) more
joined at (Err broken) more = Err (at, broken)

-- The records of these bytes, which begin at an offset, behind a record of this number. The first
-- number says how many bytes still belong to the record before.
abbrev pub walk : ℕ → ℕ → Option ℕ → List ℕ → Result (List Logged) Fault
walk zero at last [] = Err (at, rule.Gate)
walk (suc skip) at last [] = Err (at, rule.Gate)
walk (suc skip) at last (byte ∷ rest) = walk skip (at + 1) last rest
walk zero at last (gate ∷ rest) =
    if gate == 1
    then joined at (record_at last rest)
    (walk (12 + length_in rest) (at + 1) (Some (number_in rest)) rest)
    else Ok []

-- What a log holds. It ends at the first gate that isn't open, and what follows isn't read. A log
-- of one byte at most holds nothing.
abbrev pub log_of : List ℕ → Result (List Logged) Fault
log_of [] = Ok []
log_of (gate ∷ []) = Ok []
log_of (gate ∷ byte ∷ rest) = walk 0 0 None (gate ∷ byte ∷ rest)

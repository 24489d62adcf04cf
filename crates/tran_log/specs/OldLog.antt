-- What a log was before records of format 2 were: each length word is a length, and no record has a
-- mode. It is here to be compared with what a log is now.
use Rattle.std.specs.Prelude.{◌≡◌, ◌<◌, ℕ, zero, suc, ◌+◌, ◌^◌, ◌==◌, nat_lt, ⊤, if◌then◌else◌, List, [], ◌∷◌, length, map, take, drop, Option, Some, None, Result, Ok, Err}
use Rattle.gem_record.specs.declared.mode.Mode.{Mode}
use Rattle.gem_record.specs.declared.mode.Mode.TheVariants.{Full}
use Rattle.gem_record.specs.declared.effect.Effect.{Effect}
use Rattle.body_codec.specs.Whole.{whole_effect}
use Rattle.tran_log.specs.declared.fault.LogRule.{LogRule}
use Rattle.tran_log.specs.declared.fault.LogRule.TheVariants as rule
use Rattle.tran_log.specs.declared.logged.Logged.{Logged}
use Rattle.tran_log.specs.Log.{follows, word_in, number_in, Fault}

-- ---- the former text

abbrev pub old_whole : Option Effect → Result Effect LogRule
old_whole None = Err rule.Effect
old_whole (Some effect) = Ok effect

unfoldable pub old_record_at : Option ℕ → List ℕ → Result Effect LogRule
old_record_at last bytes =
    if nat_lt (length bytes) 12 then Err rule.Length else (
    if nat_lt (length (drop 12 bytes)) (word_in bytes) then Err rule.Length else (
    if follows last (number_in bytes)
    then old_whole (whole_effect (number_in bytes) (take (word_in bytes) (drop 12 bytes)))
    else Err rule.Number))

abbrev pub old_before : Effect → Result (List Effect) Fault → Result (List Effect) Fault
old_before effect (Ok effects) = Ok (effect ∷ effects)
old_before effect (Err fault) = Err fault

abbrev pub old_joined : ℕ → Result Effect LogRule → Result (List Effect) Fault
    → Result (List Effect) Fault
old_joined at (Ok effect) more = old_before effect more
old_joined at (Err broken) more = Err (at, broken)

abbrev pub old_walk : ℕ → ℕ → Option ℕ → List ℕ → Result (List Effect) Fault
old_walk zero at last [] = Err (at, rule.Gate)
old_walk (suc skip) at last [] = Err (at, rule.Gate)
old_walk (suc skip) at last (byte ∷ rest) = old_walk skip (at + 1) last rest
old_walk zero at last (gate ∷ rest) =
    if gate == 1
    then old_joined at (old_record_at last rest)
    (old_walk (12 + word_in rest) (at + 1) (Some (number_in rest)) rest)
    else Ok []

abbrev pub old_log_of : List ℕ → Result (List Effect) Fault
old_log_of [] = Ok []
old_log_of (gate ∷ []) = Ok []
old_log_of (gate ∷ byte ∷ rest) = old_walk 0 0 None (gate ∷ byte ∷ rest)

-- ---- comparing

-- Each record behind an open gate, up to the first gate that isn't open, has a length word below
-- 2^31. The first number says how many bytes still belong to the record before.
abbrev pub IsOfFormat1 : ℕ → List ℕ → Type 0
IsOfFormat1 zero [] = ⊤
IsOfFormat1 (suc skip) [] = ⊤
IsOfFormat1 (suc skip) (byte ∷ rest) = IsOfFormat1 skip rest
IsOfFormat1 zero (gate ∷ rest) =
    gate ≡ 1 → (word_in rest < 2 ^ 31) × IsOfFormat1 (12 + word_in rest) rest

-- what a log holds, without the places; a fault keeps its own
abbrev pub mode_and_effect : Logged → Mode × Effect
mode_and_effect one = (one.mode, one.effect)

abbrev pub placeless : Result (List Logged) Fault → Result (List (Mode × Effect)) Fault
placeless (Ok logged) = Ok (map mode_and_effect logged)
placeless (Err fault) = Err fault

-- what a log held by the former text, each record with the mode Full
abbrev pub in_full : Effect → Mode × Effect
in_full effect = (Full, effect)

abbrev pub all_in_full : Result (List Effect) Fault → Result (List (Mode × Effect)) Fault
all_in_full (Ok effects) = Ok (map in_full effects)
all_in_full (Err fault) = Err fault

-- The operands of an instruction, with the targets of jumps by a table of places.
use Rattle.std.specs.Prelude.{ℕ, suc, ◌+◌, ◌-◌, ◌^◌, nat_lt, Bool, true, ◌&&◌, List, [], ◌∷◌, ◌++◌, length, take, slice_get, Option, None, Some}
use Rattle.std.specs.Int.{w32, to_le_bytes}
use Rattle.st_compiler.specs.Instruction.{Instruction, PushLit, MakeLit, PushLocal, StoreLocal, PushName, StoreName, Send, SuperSend, PushBlock, Jump, JumpBack, JumpTrue, JumpFalse, Enter, LoopNext, LoopStep}
use Rattle.st_encoder.specs.Bytes.{size_of}
use Rattle.st_encoder.specs.declared.operands.Operands.{Operands}
use Rattle.st_encoder.specs.declared.operands.Operands.TheVariants.{Nothing, Number, Local, Numbers}

-- where each instruction begins, if the first begins there, and where the last one ends
abbrev pub places_from : (start : ℕ) → List Instruction → List ℕ
places_from start [] = start ∷ []
places_from start (one ∷ rest) = start ∷ places_from (start + size_of one) rest

-- the entry of this number, or the last one
abbrev pub number_or : (default : ℕ) → Option ℕ → ℕ
number_or default None = default
number_or default (Some number) = number

abbrev pub last_entry : List ℕ → ℕ
last_entry places = number_or 0 (slice_get places (length places - 1))

abbrev pub entry : List ℕ → ℕ → ℕ
entry places number = number_or (last_entry places) (slice_get places number)

abbrev pub operands_of : (literal : ℕ) → (places : List ℕ) → (number : ℕ) → Instruction → Operands
operands_of literal places number (PushLit answer) = Number literal
operands_of literal places number (MakeLit tree) = Number literal
operands_of literal places number (PushLocal depth index) = Local depth index
operands_of literal places number (StoreLocal depth index) = Local depth index
operands_of literal places number (PushName name) = Number literal
operands_of literal places number (StoreName name) = Number literal
operands_of literal places number (Send selector count) = Numbers literal count
operands_of literal places number (SuperSend selector count) = Numbers literal count
operands_of literal places number (PushBlock block) = Number (suc block)
operands_of literal places number (Jump ahead) = Number (entry places (suc number + ahead))
operands_of literal places number (JumpBack behind) = Number (entry places (number - behind))
operands_of literal places number (JumpTrue ahead) = Number (entry places (suc number + ahead))
operands_of literal places number (JumpFalse ahead) = Number (entry places (suc number + ahead))
operands_of literal places number (Enter count) = Number count
operands_of literal places number (LoopNext ahead) = Number (entry places (suc number + ahead))
operands_of literal places number (LoopStep behind) = Number (entry places (number - behind))
operands_of literal places number other = Nothing

abbrev pub operands_bytes : Operands → List ℕ
operands_bytes Nothing = []
operands_bytes (Number number) = to_le_bytes w32 number
operands_bytes (Local depth index) = take 1 (to_le_bytes w32 depth) ++ to_le_bytes w32 index
operands_bytes (Numbers first second) = to_le_bytes w32 first ++ to_le_bytes w32 second

abbrev pub operands_fit : Operands → Bool
operands_fit Nothing = true
operands_fit (Number number) = nat_lt number (2 ^ 32)
operands_fit (Local depth index) = nat_lt depth 256 && nat_lt index (2 ^ 32)
operands_fit (Numbers first second) = nat_lt first (2 ^ 32) && nat_lt second (2 ^ 32)

-- What the table of op codes gives.
use Rattle.std.proofs.Common.{◌≡◌, ◌≢◌, ◌==◌, ℕ, Bool, true, false, List, [], ◌∷◌, map, if◌then◌else◌, get_or, slice_get, Option, Some, None, IsNone, IfSome, refl, sym, ap, subst, ◌∙◌, arith}
use Rattle.std.specs.List.{find}
use Rattle.std.proofs.lemmas.Bool.Decides.{nat_tests}
use Rattle.std.proofs.lemmas.Option.{same_Some}
use Rattle.op_table.proofs.InOrder.{find-in_order}
use denote.Enum.Declared.{tag_of}
use Rattle.op_table.specs.contracts.ops.Op.{the_type}
use Rattle.op_table.specs.Ops.{row_for, all_ops, op_rows, row_at}
use Rattle.op_table.specs.declared.ops.Op.{Op}
use Rattle.op_table.specs.declared.ops.Op.TheVariants.{PushSelf, PushNil, PushTrue, PushFalse, PushLit, MakeLit, PushLocal, StoreLocal, PushName, StoreName, Pop, Dup, Send, SuperSend, PushBlock, ReturnMethod, ReturnHome, ReturnBlock, Jump, JumpTrue, JumpFalse, Unit as TakeUnit, Enter, Leave, LoopStart, LoopNext, LoopStep}
use Rattle.op_table.specs.declared.ops.Row.{Row}

-- an op's row stands at the op's place among the variants
pub get_or-tag : (op : Op) (default : Row) → get_or op_rows (tag_of the_type op) default ≡ row_for op
unfolding op_rows
get_or-tag PushSelf default = refl
get_or-tag PushNil default = refl
get_or-tag PushTrue default = refl
get_or-tag PushFalse default = refl
get_or-tag PushLit default = refl
get_or-tag MakeLit default = refl
get_or-tag PushLocal default = refl
get_or-tag StoreLocal default = refl
get_or-tag PushName default = refl
get_or-tag StoreName default = refl
get_or-tag Pop default = refl
get_or-tag Dup default = refl
get_or-tag Send default = refl
get_or-tag SuperSend default = refl
get_or-tag PushBlock default = refl
get_or-tag ReturnMethod default = refl
get_or-tag ReturnHome default = refl
get_or-tag ReturnBlock default = refl
get_or-tag Jump default = refl
get_or-tag JumpTrue default = refl
get_or-tag JumpFalse default = refl
get_or-tag TakeUnit default = refl
get_or-tag Enter default = refl
get_or-tag Leave default = refl
get_or-tag LoopStart default = refl
get_or-tag LoopNext default = refl
get_or-tag LoopStep default = refl

-- the row of an op is found by its byte
pub row_at-byte : (op : Op) → row_at (row_for op).byte ≡ Some (row_for op)
unfolding row_at op_rows
row_at-byte PushSelf = refl
row_at-byte PushNil = refl
row_at-byte PushTrue = refl
row_at-byte PushFalse = refl
row_at-byte PushLit = refl
row_at-byte MakeLit = refl
row_at-byte PushLocal = refl
row_at-byte StoreLocal = refl
row_at-byte PushName = refl
row_at-byte StoreName = refl
row_at-byte Pop = refl
row_at-byte Dup = refl
row_at-byte Send = refl
row_at-byte SuperSend = refl
row_at-byte PushBlock = refl
row_at-byte ReturnMethod = refl
row_at-byte ReturnHome = refl
row_at-byte ReturnBlock = refl
row_at-byte Jump = refl
row_at-byte JumpTrue = refl
row_at-byte JumpFalse = refl
row_at-byte TakeUnit = refl
row_at-byte Enter = refl
row_at-byte Leave = refl
row_at-byte LoopStart = refl
row_at-byte LoopNext = refl
row_at-byte LoopStep = refl

-- a row is of the op whose row it is
pub row_for-op : (op : Op) → (row_for op).op ≡ op
row_for-op PushSelf = refl
row_for-op PushNil = refl
row_for-op PushTrue = refl
row_for-op PushFalse = refl
row_for-op PushLit = refl
row_for-op MakeLit = refl
row_for-op PushLocal = refl
row_for-op StoreLocal = refl
row_for-op PushName = refl
row_for-op StoreName = refl
row_for-op Pop = refl
row_for-op Dup = refl
row_for-op Send = refl
row_for-op SuperSend = refl
row_for-op PushBlock = refl
row_for-op ReturnMethod = refl
row_for-op ReturnHome = refl
row_for-op ReturnBlock = refl
row_for-op Jump = refl
row_for-op JumpTrue = refl
row_for-op JumpFalse = refl
row_for-op TakeUnit = refl
row_for-op Enter = refl
row_for-op Leave = refl
row_for-op LoopStart = refl
row_for-op LoopNext = refl
row_for-op LoopStep = refl

-- the table's bytes are its places
pub row_at-place : (byte : ℕ) → row_at byte ≡ slice_get op_rows byte
unfolding row_at op_rows
row_at-place byte = find-in_order (λ (row : Row). row.byte) op_rows 0 byte byte refl (omega arith)

-- the row is that of its op, and has the byte
abbrev IsRowOf : ℕ → Row → Type 0
IsRowOf byte row = (row ≡ row_for row.op) × (row.byte ≡ byte)

IsRowOf-row_for : (op : Op) → IsRowOf (row_for op).byte (row_for op)
IsRowOf-row_for op = (ap row_for (sym (row_for-op op)), refl)

first_found : (byte : ℕ) (op : Op) (rest : Option Row) (here : Bool) → ((row_for op).byte == byte) ≡ here → IfSome rest (IsRowOf byte) → IfSome (if here then Some (row_for op) else rest) (IsRowOf byte)
first_found byte op rest true is later =
    let same : (row_for op).byte ≡ byte = grind (arith, nat_tests) in
    subst (λ byte. IsRowOf byte (row_for op)) same (IsRowOf-row_for op)
first_found byte op rest false is later = later

found_among : (byte : ℕ) (ops : List Op) → IfSome (find (λ row. row.byte == byte) (map row_for ops)) (IsRowOf byte)
found_among byte [] = tt
found_among byte (op ∷ ops) = first_found byte op (find (λ row. row.byte == byte) (map row_for ops)) ((row_for op).byte == byte) refl (found_among byte ops)

-- a row that is found is that of its op, and has the byte
pub row_at-Some : (byte : ℕ) → IfSome (row_at byte) (IsRowOf byte)
unfolding row_at op_rows
row_at-Some byte = found_among byte all_ops

none_from_found : (byte : ℕ) (found : Option Row) → IfSome found (IsRowOf byte) → ((op : Op) → (row_for op).byte ≢ byte) → IsNone found
none_from_found byte None says none = refl
none_from_found byte (Some row) says none = absurd (none row.op (ap (λ (row : Row). row.byte) (sym says.0) ∙ says.1))

-- a byte has no row just where it is no op's
pub row_at-None : (byte : ℕ) → (IsNone (row_at byte) → (op : Op) → (row_for op).byte ≢ byte) × (((op : Op) → (row_for op).byte ≢ byte) → IsNone (row_at byte))
row_at-None byte = (
  λ none op is. cc (sym (row_at-byte op) ∙ ap row_at is, none),
  none_from_found byte (row_at byte) (row_at-Some byte),
)

-- no two ops have the same byte
pub one_op : (op other : Op) → (row_for op).byte ≡ (row_for other).byte → op ≡ other
one_op op other same =
    let found : Some (row_for op) ≡ Some (row_for other) = sym (row_at-byte op) ∙ ap row_at same ∙ row_at-byte other in
    sym (row_for-op op) ∙ ap (λ (row : Row). row.op) (same_Some _ _ found) ∙ row_for-op other

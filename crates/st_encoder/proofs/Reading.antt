-- The bytes of code are read as its instructions.
use Rattle.std.proofs.Common.{◌≡◌, ◌∙◌, refl, sym, ap, subst, ℕ, zero, suc, ◌+◌, ◌-◌, ◌<◌, ◌^◌, nat_lt, true, false, ◌&&◌, List, [], ◌∷◌, ◌++◌, length, length-append, take, drop, replicate, append_assoc, mod-eq_of_lt, Option, Some, None, Result, Ok, arith}
use Rattle.std.specs.Prelude.{slice_range}
use Rattle.std.proofs.lemmas.Bool.{and_parts}
use Rattle.std.proofs.lemmas.Bool.Decides.{nat_tests}
use Rattle.std.proofs.lemmas.Nat.{from_le_bytes-to_le_bytes_4}
use Rattle.op_table.specs.Ops.{row_for}
use Rattle.op_table.proofs.OpRows.{row_at-byte, row_for-op}
use Rattle.op_table.specs.declared.ops.Row.{Row as OpRow}
use Rattle.st_code.specs.declared.line.Line.{Line}
use Rattle.st_code.specs.Held.{Held}
use Rattle.st_code.specs.Lines.{Lines, end_of, width, number_in, whole_line, line_by, line_at, with_first, after_line, lines_from, joined, lines_of}
use Rattle.st_compiler.specs.Instruction.{Instruction, PushSelf, PushNil, PushTrue, PushFalse, PushLit, MakeLit, PushLocal, StoreLocal, PushName, StoreName, Pop, Dup, Send, SuperSend, PushBlock, ReturnMethod, ReturnHome, ReturnBlock, Jump, JumpBack, JumpTrue, JumpFalse, TakeUnit, Enter, Leave, LoopStart, LoopNext, LoopStep, op_of}
use Rattle.st_compiler.specs.Emitted.{Body}
use Rattle.st_encoder.specs.Bytes.{literals_in, literals_of, size_of, code_size, first_operand, second_operand, operand_bytes, instruction_bytes, bytes_from, bytes_of, blocks_of, total_size, number_fits, instruction_fits, fit_from, body_fits, bodies_fit}
use Rattle.st_encoder.proofs.Rows.{Row, lines_in, lines_append}

-- ---- operands

pub data Operand : ℕ → ℕ → Type 0 where
  none : Operand 0 0
  byte : (n : ℕ) → Operand 1 n
  word : (n : ℕ) → Operand 4 n

pub first_is : (start literal : ℕ) (code : List Instruction) (number : ℕ) (one : Instruction)
    → Operand (width (op_of one) 0) (first_operand start literal code number one)
first_is start literal code number PushSelf = none
first_is start literal code number PushNil = none
first_is start literal code number PushTrue = none
first_is start literal code number PushFalse = none
first_is start literal code number (PushLit answer) = word _
first_is start literal code number (MakeLit tree) = word _
first_is start literal code number (PushLocal depth index) = byte depth
first_is start literal code number (StoreLocal depth index) = byte depth
first_is start literal code number (PushName name) = word _
first_is start literal code number (StoreName name) = word _
first_is start literal code number Pop = none
first_is start literal code number Dup = none
first_is start literal code number (Send selector count) = word _
first_is start literal code number (SuperSend selector count) = word _
first_is start literal code number (PushBlock block) = word _
first_is start literal code number ReturnMethod = none
first_is start literal code number ReturnHome = none
first_is start literal code number ReturnBlock = none
first_is start literal code number (Jump ahead) = word _
first_is start literal code number (JumpBack behind) = word _
first_is start literal code number (JumpTrue ahead) = word _
first_is start literal code number (JumpFalse ahead) = word _
first_is start literal code number TakeUnit = none
first_is start literal code number (Enter count) = word _
first_is start literal code number Leave = none
first_is start literal code number LoopStart = none
first_is start literal code number (LoopNext ahead) = word _
first_is start literal code number (LoopStep behind) = word _

pub second_is : (one : Instruction) → Operand (width (op_of one) 1) (second_operand one)
second_is PushSelf = none
second_is PushNil = none
second_is PushTrue = none
second_is PushFalse = none
second_is (PushLit answer) = none
second_is (MakeLit tree) = none
second_is (PushLocal depth index) = word _
second_is (StoreLocal depth index) = word _
second_is (PushName name) = none
second_is (StoreName name) = none
second_is Pop = none
second_is Dup = none
second_is (Send selector count) = word _
second_is (SuperSend selector count) = word _
second_is (PushBlock block) = none
second_is ReturnMethod = none
second_is ReturnHome = none
second_is ReturnBlock = none
second_is (Jump ahead) = none
second_is (JumpBack behind) = none
second_is (JumpTrue ahead) = none
second_is (JumpFalse ahead) = none
second_is TakeUnit = none
second_is (Enter count) = none
second_is Leave = none
second_is LoopStart = none
second_is (LoopNext ahead) = none
second_is (LoopStep behind) = none

-- an operand's bytes are read as the operand, whatever follows them
record ReadsBack (width operand : ℕ) (rest : List ℕ) : Type 0 where
  number : number_in (take width (operand_bytes width operand ++ rest)) ≡ operand
  behind : drop width (operand_bytes width operand ++ rest) ≡ rest

pub operand_length : (width operand : ℕ) → Operand width operand → length (operand_bytes width operand) ≡ width
operand_length width operand none = refl
operand_length width operand (byte n) = refl
operand_length width operand (word n) = refl

reads_back : (width operand : ℕ) (rest : List ℕ) → Operand width operand → number_fits width operand ≡ true
    → ReadsBack width operand rest
reads_back width operand rest none fits = record { number = refl; behind = refl }
reads_back width operand rest (byte n) fits =
    let below : n < 256 = grind (arith, nat_tests, fits) in
    record { number = mod-eq_of_lt below; behind = refl }
reads_back width operand rest (word n) fits =
    let below : n < 2 ^ 32 = grind (arith, nat_tests, fits) in
    record { number = from_le_bytes-to_le_bytes_4 n below; behind = refl }

-- ---- one instruction

abbrev pub line_for : (block at : ℕ) → Instruction → (first second : ℕ) → Line
line_for block at one first second = record {
  row = row_for (op_of one);
  first = first;
  second = second;
  next = at + 1 + width (op_of one) 0 + width (op_of one) 1;
  block = block;
}

whole_is : (block at : ℕ) (row : OpRow) (rest : List ℕ) (first second : ℕ) (behind : List ℕ)
    → Operand (width row.op 0) first → Operand (width row.op 1) second
    → number_fits (width row.op 0) first ≡ true → number_fits (width row.op 1) second ≡ true
    → rest ≡ operand_bytes (width row.op 0) first ++ (operand_bytes (width row.op 1) second ++ behind)
    → whole_line block at row rest ≡ Some (record {
      row = row;
      first = first;
      second = second;
      next = at + 1 + width row.op 0 + width row.op 1;
      block = block;
    })
whole_is block at row rest first second behind one two fits also is =
    let own = operand_bytes (width row.op 0) first in
    let other = operand_bytes (width row.op 1) second in
    let front = reads_back (width row.op 0) first (other ++ behind) one fits in
    let next = reads_back (width row.op 1) second behind two also in
    let first_read : number_in (take (width row.op 0) rest) ≡ first =
    ap (λ (bytes : List ℕ). number_in (take (width row.op 0) bytes)) is ∙ front.number in
    let second_read : number_in (take (width row.op 1) (drop (width row.op 0) rest)) ≡ second =
    ap (λ (bytes : List ℕ). number_in (take (width row.op 1) (drop (width row.op 0) bytes))) is
    ∙ ap (λ (bytes : List ℕ). number_in (take (width row.op 1) bytes)) front.behind ∙ next.number in
    let long : nat_lt (length rest) (width row.op 0 + width row.op 1) ≡ false =
    grind (
      arith,
      nat_tests,
      ap (λ (bytes : List ℕ). length bytes) is,
      length-append own (other ++ behind),
      length-append other behind,
      operand_length (width row.op 0) first one,
      operand_length (width row.op 1) second two,
    ) in
    rw long
    (λ i. Some (record {
      row = row;
      first = first_read i;
      second = second_read i;
      next = at + 1 + width row.op 0 + width row.op 1;
      block = block;
    }))

read_line : (block at : ℕ) (one : Instruction) (first second : ℕ) (behind : List ℕ)
    → Operand (width (op_of one) 0) first → Operand (width (op_of one) 1) second
    → instruction_fits one first second ≡ true
    → line_at block at (instruction_bytes one first second ++ behind) ≡ Some (line_for block at one first second)
unfolding line_at
read_line block at one first second behind first_one second_one fits =
    let row = row_for (op_of one) in
    let op_is = row_for-op (op_of one) in
    let parts = and_parts (number_fits (width (op_of one) 0) first) (number_fits (width (op_of one) 1) second) fits in
    let own = operand_bytes (width (op_of one) 0) first in
    let other = operand_bytes (width (op_of one) 1) second in
    ap (λ (found : Option OpRow). line_by block at found ((own ++ other) ++ behind)) (row_at-byte (op_of one))
    ∙ by row refl op_is parts.0 parts.1
  where
    by : (row : OpRow) → row ≡ row_for (op_of one) → row.op ≡ op_of one
        → number_fits (width (op_of one) 0) first ≡ true → number_fits (width (op_of one) 1) second ≡ true
        → whole_line block at row
        ((operand_bytes (width (op_of one) 0) first ++ operand_bytes (width (op_of one) 1) second) ++ behind)
        ≡ Some (record {
          row = row;
          first = first;
          second = second;
          next = at + 1 + width (op_of one) 0 + width (op_of one) 1;
          block = block;
        })
    by row is op_is fits also =
        subst (λ op. whole_line block at row
        ((operand_bytes (width op 0) first ++ operand_bytes (width op 1) second) ++ behind)
        ≡ Some (record {
          row = row;
          first = first;
          second = second;
          next = at + 1 + width op 0 + width op 1;
          block = block;
        })) op_is
        (whole_is block at row
        ((operand_bytes (width row.op 0) first ++ operand_bytes (width row.op 1) second) ++ behind)
        first second behind
        (subst (λ op. Operand (width op 0) first) (sym op_is) first_one)
        (subst (λ op. Operand (width op 1) second) (sym op_is) second_one)
        (subst (λ op. number_fits (width op 0) first ≡ true) (sym op_is) fits)
        (subst (λ op. number_fits (width op 1) second ≡ true) (sym op_is) also)
        (append_assoc (operand_bytes (width row.op 0) first) (operand_bytes (width row.op 1) second) behind))

-- ---- the instructions of a block

abbrev with_nones : ℕ → Result Lines ℕ → Result Lines ℕ
with_nones zero read = read
with_nones (suc count) read = with_first None (with_nones count read)

nones_ok : (count : ℕ) (lines : Lines) → with_nones count (Ok lines) ≡ Ok (replicate count None ++ lines)
nones_ok zero lines = refl
nones_ok (suc count) lines = ap (λ (read : Result Lines ℕ). with_first None read) (nones_ok count lines)

skips : (block at : ℕ) (operands behind : List ℕ)
    → lines_from block at (length operands) (operands ++ behind)
    ≡ with_nones (length operands) (lines_from block (at + length operands) 0 behind)
skips block at [] behind =
    let same : at ≡ at + 0 = omega arith in ap (λ (n : ℕ). lines_from block n 0 behind) same
skips block at (operand ∷ operands) behind =
    let same : at + 1 + length operands ≡ at + suc (length operands) = omega arith in
    ap (λ (read : Result Lines ℕ). with_first None read)
    (skips block (at + 1) operands behind
    ∙ ap (λ (n : ℕ). with_nones (length operands) (lines_from block n 0 behind)) same)

reads_one : (block at : ℕ) (first : ℕ) (operands behind : List ℕ) (line : Line) (later : Lines)
    → line_at block at (first ∷ (operands ++ behind)) ≡ Some line → line.next ≡ at + 1 + length operands
    → lines_from block (at + 1 + length operands) 0 behind ≡ Ok later
    → lines_from block at 0 (first ∷ (operands ++ behind)) ≡ Ok (Some line ∷ (replicate (length operands) None ++ later))
reads_one block at first operands behind line later is next read =
    let skip : line.next - (at + 1) ≡ length operands = omega (arith, next) in
    ap (λ (found : Option Line). after_line at found (λ skip. lines_from block (at + 1) skip (operands ++ behind))) is
    ∙ ap (λ (n : ℕ). with_first (Some line) (lines_from block (at + 1) n (operands ++ behind))) skip
    ∙ ap (λ (all : Result Lines ℕ). with_first (Some line) all)
    (skips block (at + 1) operands behind
    ∙ ap (λ (all : Result Lines ℕ). with_nones (length operands) all) read ∙ nones_ok (length operands) later)

module _ (block start : ℕ) (code : List Instruction) (held_at : ℕ → Held) where
  -- the instructions from this number on, which begins at this place
  abbrev pub rows_from : (literal number at : ℕ) → List Instruction → List Row
  rows_from literal number at [] = []
  rows_from literal number at (one ∷ rest) = record {
    line = line_for block at one (first_operand start literal code number one) (second_operand one);
    more = width (op_of one) 0 + width (op_of one) 1;
    held = held_at number;
  } ∷ rows_from (literal + length (literals_in one)) (suc number) (at + size_of one) rest

  pub reads_from : (literal number at : ℕ) (rest : List Instruction)
      → fit_from start literal code number rest ≡ true
      → lines_from block at 0 (bytes_from start literal code number rest)
      ≡ Ok (lines_in (rows_from literal number at rest))
  reads_from literal number at [] fits = refl
  reads_from literal number at (one ∷ rest) fits =
      let first = first_operand start literal code number one in
      let second = second_operand one in
      let parts = and_parts (instruction_fits one first second)
      (fit_from start (literal + length (literals_in one)) code (suc number) rest) fits in
      let own = operand_bytes (width (op_of one) 0) first ++ operand_bytes (width (op_of one) 1) second in
      let behind = bytes_from start (literal + length (literals_in one)) code (suc number) rest in
      let later = rows_from (literal + length (literals_in one)) (suc number) (at + size_of one) rest in
      let count : length own ≡ width (op_of one) 0 + width (op_of one) 1 =
      omega (
        arith,
        length-append (operand_bytes (width (op_of one) 0) first) (operand_bytes (width (op_of one) 1) second),
        operand_length (width (op_of one) 0) first (first_is start literal code number one),
        operand_length (width (op_of one) 1) second (second_is one),
      ) in
      let next : at + size_of one ≡ at + 1 + length own = omega (arith, count) in
      reads_one block at (row_for (op_of one)).byte own behind (line_for block at one first second) (lines_in later)
      (read_line block at one first second behind (first_is start literal code number one) (second_is one) parts.0)
      (omega (arith, count))
      (subst (λ (n : ℕ). lines_from block n 0 behind ≡ Ok (lines_in later)) next
      (reads_from (literal + length (literals_in one)) (suc number) (at + size_of one) rest parts.1))
      ∙ ap (λ (n : ℕ). Ok (Some (line_for block at one first second) ∷ (replicate n None ++ lines_in later))) count

pub bytes_length : (start literal : ℕ) (code : List Instruction) (number : ℕ) (rest : List Instruction)
    → length (bytes_from start literal code number rest) ≡ code_size rest
bytes_length start literal code number [] = refl
bytes_length start literal code number (one ∷ rest) =
    let first = first_operand start literal code number one in
    let own = instruction_bytes one first (second_operand one) in
    let behind = bytes_from start (literal + length (literals_in one)) code (suc number) rest in
    omega (
      arith,
      length-append own behind,
      length-append (operand_bytes (width (op_of one) 0) first) (operand_bytes (width (op_of one) 1) (second_operand one)),
      operand_length (width (op_of one) 0) first (first_is start literal code number one),
      operand_length (width (op_of one) 1) (second_operand one) (second_is one),
      bytes_length start (literal + length (literals_in one)) code (suc number) rest,
    )

pub all_length : (start literal : ℕ) (bodies : List Body) → length (bytes_of start literal bodies) ≡ total_size bodies
all_length start literal [] = refl
all_length start literal (body ∷ later) =
    omega (
      arith,
      length-append (bytes_from start literal body.code 0 body.code)
          (bytes_of (start + code_size body.code) (literal + length (literals_of body.code)) later),
      bytes_length start literal body.code 0 body.code,
      all_length (start + code_size body.code) (literal + length (literals_of body.code)) later,
    )

-- ---- all blocks

drop_front : {A : Type 0} (before after : List A) → drop (length before) (before ++ after) ≡ after
drop_front [] after = refl
drop_front (first ∷ before) after = drop_front before after

take_front : {A : Type 0} (before after : List A) → take (length before) (before ++ after) ≡ before
take_front [] after = refl
take_front {A = A} (first ∷ before) after = ap (λ (all : List A). first ∷ all) (take_front before after)

pub part_between : {A : Type 0} (front own back : List A) (start end : ℕ) → length front ≡ start
    → end ≡ start + length own → slice_range (front ++ (own ++ back)) start end ≡ own
part_between {A = A} front own back start end from to =
    let count : end - start ≡ length own = omega (arith, to) in
    let dropped : drop start (front ++ (own ++ back)) ≡ own ++ back =
    ap (λ (n : ℕ). drop n (front ++ (own ++ back))) (sym from) ∙ drop_front front (own ++ back) in
    ap (λ (n : ℕ). take n (drop start (front ++ (own ++ back)))) count
    ∙ ap (λ (all : List A). take (length own) all) dropped ∙ take_front own back

-- A block with what every way brings to each of its instructions, and the scopes around it.
pub record Block : Type 0 where
  pub body : Body
  pub outer : List ℕ
  pub marks : List Held

abbrev pub bodies_in : List Block → List Body
bodies_in [] = []
bodies_in (block ∷ rest) = block.body ∷ bodies_in rest

abbrev pub held_in : List Held → ℕ → Held
held_in [] number = record { height = 0; scopes = []; around = 0 }
held_in (first ∷ rest) zero = first
held_in (first ∷ rest) (suc number) = held_in rest number

abbrev pub block_rows : (number start literal : ℕ) → Block → List Row
block_rows number start literal block =
    rows_from number start block.body.code (held_in block.marks) literal 0 start block.body.code

abbrev pub all_rows : (number start literal : ℕ) → List Block → List Row
all_rows number start literal [] = []
all_rows number start literal (block ∷ later) = block_rows number start literal block
    ++ all_rows (suc number) (start + code_size block.body.code)
    (literal + length (literals_of block.body.code)) later

pub end_is : (size start : ℕ) (later : List Body) → size ≡ start + total_size later
    → end_of size (blocks_of start later) ≡ start
end_is size start [] is = omega (arith, is)
end_is size start (body ∷ later) is = refl

pub reads_all : (whole front : List ℕ) (number start literal : ℕ) (blocks : List Block)
    → whole ≡ front ++ bytes_of start literal (bodies_in blocks) → length front ≡ start
    → bodies_fit start literal (bodies_in blocks) ≡ true
    → lines_of whole number (blocks_of start (bodies_in blocks)) ≡ Ok (lines_in (all_rows number start literal blocks))
reads_all whole front number start literal [] is from fits = refl
reads_all whole front number start literal (block ∷ blocks) is from fits =
    let body = block.body in
    let later = bodies_in blocks in
    let own = bytes_from start literal body.code 0 body.code in
    let next = start + code_size body.code in
    let literals = literal + length (literals_of body.code) in
    let rest = bytes_of next literals later in
    let parts = and_parts (body_fits start literal body) (bodies_fit next literals later) fits in
    let code_parts = and_parts (nat_lt body.params (2 ^ 32) && nat_lt body.temps (2 ^ 32))
    (fit_from start literal body.code 0 body.code) parts.0 in
    let size : length whole ≡ next + total_size later =
    omega (
      arith,
      ap (λ (bytes : List ℕ). length bytes) is,
      length-append front (own ++ rest),
      length-append own rest,
      bytes_length start literal body.code 0 body.code,
      all_length next literals later,
      from,
    ) in
    let end = end_is (length whole) next later size in
    let part : slice_range whole start (end_of (length whole) (blocks_of next later)) ≡ own =
    ap (λ (bytes : List ℕ). slice_range bytes start (end_of (length whole) (blocks_of next later))) is
    ∙ part_between front own rest start (end_of (length whole) (blocks_of next later)) from
    (omega (arith, end, bytes_length start literal body.code 0 body.code)) in
    let first = reads_from number start body.code (held_in block.marks) literal 0 start body.code code_parts.1 in
    let moved : whole ≡ (front ++ own) ++ rest = is ∙ sym (append_assoc front own rest) in
    let others = reads_all whole (front ++ own) (suc number) next literals blocks moved
    (omega (arith, length-append front own, bytes_length start literal body.code 0 body.code, from)) parts.1 in
    let rows = block_rows number start literal block in
    let more = all_rows (suc number) next literals blocks in
    ap (λ (bytes : List ℕ). joined (lines_from number start 0 bytes) (lines_of whole (suc number) (blocks_of next later))) part
    ∙ ap (λ (read : Result Lines ℕ). joined read (lines_of whole (suc number) (blocks_of next later))) first
    ∙ ap (λ (read : Result Lines ℕ). joined (Ok (lines_in rows)) read) others
    ∙ ap (λ (lines : Lines). Ok lines) (sym (lines_append rows more))

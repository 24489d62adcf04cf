-- What instructions are read as from the lines of their bytes: themselves.
use Rattle.std.proofs.Common.{◌≡◌, ◌∙◌, refl, sym, ap, ℕ, zero, suc, ◌+◌, ◌-◌, ◌<◌, ◌≤◌, nat_eq, nat_lt, nat_le, true, false, List, [], ◌∷◌, ◌++◌, length, length-append, append_assoc, take, replicate, slice_get, Option, Some, None, Result, arith}
use Rattle.std.specs.Prelude.{option_map, option_and_then, slice_range}
use Rattle.std.proofs.lemmas.Bool.{eq-eqb}
use Rattle.std.proofs.lemmas.Bool.Decides.{nat_tests}
use Rattle.gem_object.specs.texts.Bytes.{Bytes as Text}
use Rattle.op_table.specs.Ops.{row_for}
use Rattle.st_tree.specs.Trees.{Constant, int, char, str, sym as symbol, nothing, yes, no, array}
use Rattle.st_tree.specs.Views.{constant_of}
use Rattle.st_tree.specs.declared.nodes.Literal.{Literal}
use Rattle.st_tree.specs.declared.nodes.Literal.TheVariants.{Sym}
use Rattle.gem_object.specs.declared.value.Value.{Value}
use Rattle.st_code.specs.Held.{Held}
use Rattle.st_code.specs.declared.blocks.BlockCode.{BlockCode}
use Rattle.st_code.specs.Lines.{Lines, end_of, width}
use Rattle.st_compiler.specs.Instruction.{Instruction, PushSelf, PushNil, PushTrue, PushFalse, PushLit, MakeLit, PushLocal, StoreLocal, PushName, StoreName, Pop, Dup, Send, SuperSend, PushBlock, ReturnMethod, ReturnHome, ReturnBlock, Jump, JumpBack, JumpTrue, JumpFalse, TakeUnit, Enter, Leave, LoopStart, LoopNext, LoopStep, op_of}
use Rattle.st_compiler.specs.Code.{Piece}
use Rattle.st_compiler.specs.Emitted.{Body}
use Rattle.st_compiler.proofs.Steps.{HasAt, first_has, then_has}
use Rattle.st_encoder.specs.Bytes.{constant_literal, literals_in, literals_of, size_of, code_size, place_at, first_operand, second_operand, all_literals, bytes_of, blocks_of, total_size, bodies_fit}
use Rattle.st_encoder.specs.Decoded.{value_in, text_in, ahead, behind, either_way, instruction_by, number_from, and_more, instructions_from, body_by, bodies_by, read_by, decoded}
use Rattle.st_encoder.proofs.Marks.{Does, Goes}
use Rattle.st_encoder.proofs.Rows.{Row, lines_in, rows_size, lines_append}
use Rattle.st_encoder.proofs.Reading.{rows_from, Block, bodies_in, held_in, block_rows, all_rows, end_is, part_between, reads_all}
use Rattle.st_encoder.proofs.Good.{get_lt, rows_total}
use Rattle.st_encoder.proofs.Solid.{AllSolid, has_self}

-- ---- places between instructions

number_skips : (number at operands : ℕ) (lines : Lines) (place : ℕ)
    → number_from number at (replicate operands None ++ lines) place ≡ number_from number (at + operands) lines place
number_skips number at zero lines place =
    let same : at ≡ at + 0 = omega arith in ap (λ (n : ℕ). number_from number n lines place) same
number_skips number at (suc operands) lines place =
    let same : suc at + operands ≡ at + suc operands = omega arith in
    number_skips number (suc at) operands lines place ∙ ap (λ (n : ℕ). number_from number n lines place) same

code_skips : (literals : List Literal) (number_at : ℕ → Option ℕ) (number operands : ℕ) (lines : Lines)
    → instructions_from literals number_at number (replicate operands None ++ lines)
    ≡ instructions_from literals number_at number lines
code_skips literals number_at number zero lines = refl
code_skips literals number_at number (suc operands) lines = code_skips literals number_at number operands lines

nones_length : (count : ℕ) (lines : Lines) → length (replicate count None ++ lines) ≡ count + length lines
nones_length zero lines = omega arith
nones_length (suc count) lines = omega (arith, nones_length count lines)

lines_length : (rows : List Row) → length (lines_in rows) ≡ rows_size rows
lines_length [] = refl
lines_length (row ∷ rest) = omega (arith, nones_length row.more (lines_in rest), lines_length rest)

-- ---- literals

constant_back : (tree : Constant) → constant_of (constant_literal tree) ≡ tree
constant_back (int value) = refl
constant_back (char code) = refl
constant_back (str bytes) = refl
constant_back (symbol bytes) = refl
constant_back nothing = refl
constant_back yes = refl
constant_back no = refl
constant_back (array items) = refl

-- ---- jumps

goes_ahead : (jump : ℕ → Instruction) (number far : ℕ) → ahead jump number (suc number + far) ≡ Some (jump far)
goes_ahead jump number far =
    let further : nat_lt number (suc number + far) ≡ true = grind (arith, nat_tests) in
    let passed : suc number + far - suc number ≡ far = omega arith in
    rw further (ap (λ (n : ℕ). Some (jump n)) passed)

goes_back : (jump : ℕ → Instruction) (number far : ℕ) → far ≤ number
    → behind jump number (number - far) ≡ Some (jump far)
goes_back jump number far within =
    let before : nat_le (number - far) number ≡ true = grind (arith, nat_tests) in
    let passed : number - (number - far) ≡ far = omega (arith, within) in
    rw before (ap (λ (n : ℕ). Some (jump n)) passed)

either_ahead : (number far : ℕ) → either_way number (suc number + far) ≡ Some (Jump far)
either_ahead number far =
    let further : nat_lt number (suc number + far) ≡ true = grind (arith, nat_tests) in
    let passed : suc number + far - suc number ≡ far = omega arith in
    rw further (ap (λ (n : ℕ). Some (Jump n)) passed)

either_back : (number far : ℕ) → far ≤ number → either_way number (number - far) ≡ Some (JumpBack far)
either_back number far within =
    let before : nat_lt number (number - far) ≡ false = grind (arith, nat_tests) in
    rw before (goes_back (λ far. JumpBack far) number far within)

-- ---- the instructions of a block

module _ (table : List Piece) (literals : List Literal) (block start literal : ℕ) (code : List Instruction)
    (marks : List Held) (count : length marks ≡ length code) where
  abbrev lines_from_here : (literal number at : ℕ) → List Instruction → Lines
  lines_from_here literal number at rest = lines_in (rows_from block start code (held_in marks) literal number at rest)

  abbrev own : Lines
  own = lines_from_here literal 0 start code

  abbrev number_at : ℕ → Option ℕ
  number_at = number_from 0 start own

  number_is : (first literal number at : ℕ) (rest : List Instruction) (target : ℕ) → target < length rest
      → number_from first at (lines_from_here literal number at rest) (at + code_size (take target rest))
      ≡ Some (first + target)
  number_is first literal number at [] target within = absurd (omega (arith, within))
  number_is first literal number at (one ∷ rest) zero within =
      let here : nat_eq at (at + 0) ≡ true = eq-eqb at (at + 0) (omega arith) in
      let same : first ≡ first + 0 = omega arith in
      rw here (ap (λ (n : ℕ). Some n) same)
  number_is first literal number at (one ∷ rest) (suc target) within =
      let operands = width (op_of one) 0 + width (op_of one) 1 in
      let lines = lines_from_here (literal + length (literals_in one)) (suc number) (at + size_of one) rest in
      let place = at + (size_of one + code_size (take target rest)) in
      let other : nat_eq at place ≡ false = grind (arith, nat_tests) in
      let next : suc at + operands ≡ at + size_of one = omega arith in
      let there : place ≡ at + size_of one + code_size (take target rest) = omega arith in
      let further : suc first + target ≡ first + suc target = omega arith in
      let found : number_from (suc first) (suc at) (replicate operands None ++ lines) place ≡ Some (first + suc target) =
      number_skips (suc first) (suc at) operands lines place
      ∙ ap (λ (n : ℕ). number_from (suc first) n lines place) next
      ∙ ap (λ (n : ℕ). number_from (suc first) (at + size_of one) lines n) there
      ∙ number_is (suc first) (literal + length (literals_in one)) (suc number) (at + size_of one) rest target
      (omega (arith, within))
      ∙ ap (λ (n : ℕ). Some n) further in
      rw other found

  lands : (target : ℕ) (held : Held) → slice_get marks target ≡ Some held
      → number_at (place_at start code target) ≡ Some target
  lands target held is =
      let same : 0 + target ≡ target = omega arith in
      number_is 0 literal 0 start code target (omega (arith, get_lt marks target held is, count))
      ∙ ap (λ (n : ℕ). Some n) same

  jumps_ahead : (jump : ℕ → Instruction) (number far : ℕ) (held : Held)
      → slice_get marks (suc number + far) ≡ Some held
      → option_and_then (ahead jump number) (number_at (place_at start code (suc number + far))) ≡ Some (jump far)
  jumps_ahead jump number far held is =
      ap (λ (there : Option ℕ). option_and_then (ahead jump number) there) (lands (suc number + far) held is)
      ∙ goes_ahead jump number far

  jumps_back : (jump : ℕ → Instruction) (number far : ℕ) (held : Held) → far ≤ number
      → slice_get marks (number - far) ≡ Some held
      → option_and_then (behind jump number) (number_at (place_at start code (number - far))) ≡ Some (jump far)
  jumps_back jump number far held within is =
      ap (λ (there : Option ℕ). option_and_then (behind jump number) there) (lands (number - far) held is)
      ∙ goes_back jump number far within

  named : (make : Text → Instruction) (name : Text) (at_literal : ℕ) → slice_get literals at_literal ≡ Some (Sym name)
      → option_map make (option_and_then text_in (slice_get literals at_literal)) ≡ Some (make name)
  named make name at_literal is =
      ap (λ (found : Option Literal). option_map make (option_and_then text_in found)) is

  -- an instruction that does what it has to is read as itself
  reads_one : (number at_literal : ℕ) (held : Held) (one : Instruction)
      → HasAt literals at_literal (literals_in one) → Does table marks number one held
      → instruction_by (slice_get literals (first_operand start at_literal code number one))
      (number_at (first_operand start at_literal code number one)) number
      (first_operand start at_literal code number one) (second_operand one) (row_for (op_of one)).op
      ≡ Some one
  reads_one number at_literal held PushSelf has does = refl
  reads_one number at_literal held PushNil has does = refl
  reads_one number at_literal held PushTrue has does = refl
  reads_one number at_literal held PushFalse has does = refl
  reads_one number at_literal held (PushLit answer) has does =
      ap (λ (found : Option Literal). option_map (λ answer. PushLit answer) (option_and_then value_in found)) has.0
      ∙ ap (λ (found : Option Value). option_map (λ answer. PushLit answer) found) does.0
  reads_one number at_literal held (MakeLit tree) has does =
      ap (λ (found : Option Literal). option_map (λ one. MakeLit (constant_of one)) found) has.0
      ∙ ap (λ (constant : Constant). Some (MakeLit constant)) (constant_back tree)
  reads_one number at_literal held (PushLocal depth index) has does = refl
  reads_one number at_literal held (StoreLocal depth index) has does = refl
  reads_one number at_literal held (PushName name) has does = named (λ name. PushName name) name at_literal has.0
  reads_one number at_literal held (StoreName name) has does = named (λ name. StoreName name) name at_literal has.0
  reads_one number at_literal held Pop has does = refl
  reads_one number at_literal held Dup has does = refl
  reads_one number at_literal held (Send selector count) has does =
      named (λ selector. Send selector count) selector at_literal has.0
  reads_one number at_literal held (SuperSend selector count) has does =
      named (λ selector. SuperSend selector count) selector at_literal has.0
  reads_one number at_literal held (PushBlock pushed) has does = refl
  reads_one number at_literal held ReturnMethod has does = refl
  reads_one number at_literal held ReturnHome has does = refl
  reads_one number at_literal held ReturnBlock has does = refl
  reads_one number at_literal held (Jump far) has does =
      ap (λ (there : Option ℕ). option_and_then (either_way number) there) (lands (suc number + far) _ does)
      ∙ either_ahead number far
  reads_one number at_literal held (JumpBack far) has does =
      ap (λ (there : Option ℕ). option_and_then (either_way number) there) (lands (number - far) _ does.1)
      ∙ either_back number far does.0
  reads_one number at_literal held (JumpTrue far) has does = jumps_ahead (λ far. JumpTrue far) number far _ does.3
  reads_one number at_literal held (JumpFalse far) has does = jumps_ahead (λ far. JumpFalse far) number far _ does.3
  reads_one number at_literal held TakeUnit has does = refl
  reads_one number at_literal held (Enter variables) has does = refl
  reads_one number at_literal held Leave has does = refl
  reads_one number at_literal held LoopStart has does = refl
  reads_one number at_literal held (LoopNext far) has does = jumps_ahead (λ far. LoopNext far) number far _ does.3
  reads_one number at_literal held (LoopStep far) has does =
      jumps_back (λ far. LoopStep far) number far _ does.0 does.4

  reads_rest : (at_literal number at : ℕ) (rest : List Instruction) → HasAt literals at_literal (literals_of rest)
      → Goes table marks number rest
      → instructions_from literals number_at number (lines_from_here at_literal number at rest) ≡ Some rest
  reads_rest at_literal number at [] has goes = refl
  reads_rest at_literal number at (one ∷ rest) has goes =
      let operands = width (op_of one) 0 + width (op_of one) 1 in
      let behind_literal = at_literal + length (literals_in one) in
      let lines = lines_from_here behind_literal (suc number) (at + size_of one) rest in
      let first = reads_one number at_literal goes.0.own one
      (first_has literals at_literal (literals_in one) (literals_of rest) has) goes.0.does in
      let later : instructions_from literals number_at (suc number) (replicate operands None ++ lines) ≡ Some rest =
      code_skips literals number_at (suc number) operands lines
      ∙ reads_rest behind_literal (suc number) (at + size_of one) rest
      (then_has literals at_literal (literals_in one) (literals_of rest) has) goes.1 in
      ap (λ (found : Option Instruction).
      and_more found (instructions_from literals number_at (suc number) (replicate operands None ++ lines))) first
      ∙ ap (λ (others : Option (List Instruction)). and_more (Some one) others) later

-- ---- blocks

rows_all : (number start literal : ℕ) (blocks : List Block)
    → length (lines_in (all_rows number start literal blocks)) ≡ total_size (bodies_in blocks)
rows_all number start literal [] = refl
rows_all number start literal (block ∷ later) =
    let own = block_rows number start literal block in
    let next = start + code_size block.body.code in
    let rest = all_rows (suc number) next (literal + length (literals_of block.body.code)) later in
    let both : length (lines_in (own ++ rest)) ≡ length (lines_in own ++ lines_in rest) =
    ap (λ (lines : Lines). length lines) (lines_append own rest) in
    omega (
      arith,
      both,
      length-append (lines_in own) (lines_in rest),
      block_length number start literal block,
      rows_all (suc number) next (literal + length (literals_of block.body.code)) later,
    )
  where
    block_length : (number start literal : ℕ) (block : Block)
        → length (lines_in (block_rows number start literal block)) ≡ code_size block.body.code
    block_length number start literal block =
        lines_length (block_rows number start literal block)
        ∙ rows_total number start block.body.code (held_in block.marks) literal 0 start block.body.code

module _ (table : List Piece) (literals : List Literal) (whole : Lines) where
  reads_blocks : (front : Lines) (number start literal : ℕ) (blocks : List Block) → AllSolid table number blocks
      → whole ≡ front ++ lines_in (all_rows number start literal blocks) → length front ≡ start
      → HasAt literals literal (all_literals (bodies_in blocks))
      → bodies_by literals whole (blocks_of start (bodies_in blocks)) ≡ Some (bodies_in blocks)
  reads_blocks front number start literal [] solid is from has = refl
  reads_blocks front number start literal (block ∷ blocks) solid is from has =
      let body = block.body in
      let later = bodies_in blocks in
      let next = start + code_size body.code in
      let behind_literal = literal + length (literals_of body.code) in
      let own = lines_in (block_rows number start literal block) in
      let rest = lines_in (all_rows (suc number) next behind_literal blocks) in
      let split : whole ≡ front ++ (own ++ rest) =
      is ∙ ap (λ (lines : Lines). front ++ lines)
      (lines_append (block_rows number start literal block) (all_rows (suc number) next behind_literal blocks)) in
      let own_size : length own ≡ code_size body.code =
      lines_length (block_rows number start literal block)
      ∙ rows_total number start body.code (held_in block.marks) literal 0 start body.code in
      let size : length whole ≡ next + total_size later =
      omega (
        arith,
        ap (λ (lines : Lines). length lines) split,
        length-append front (own ++ rest),
        length-append own rest,
        own_size,
        rows_all (suc number) next behind_literal blocks,
        from,
      ) in
      let end = end_is (length whole) next later size in
      let part : slice_range whole start (end_of (length whole) (blocks_of next later)) ≡ own =
      ap (λ (lines : Lines). slice_range lines start (end_of (length whole) (blocks_of next later))) split
      ∙ part_between front own rest start (end_of (length whole) (blocks_of next later)) from
      (omega (arith, end, own_size)) in
      let own_block : BlockCode = record { start = start; params = body.params; temps = body.temps } in
      let read : body_by literals own_block own ≡ Some body =
      ap (λ (found : Option (List Instruction)).
      option_map (λ code. record { params = body.params; temps = body.temps; code = code }) found)
      (reads_rest table literals number start literal body.code block.marks solid.0.count literal 0 start body.code
      (first_has literals literal (literals_of body.code) (all_literals later) has) solid.0.goes) in
      let first : body_by literals own_block
      (slice_range whole start (end_of (length whole) (blocks_of next later))) ≡ Some body =
      ap (λ (lines : Lines). body_by literals own_block lines) part ∙ read in
      let moved : whole ≡ (front ++ own) ++ rest = split ∙ sym (append_assoc front own rest) in
      let others = reads_blocks (front ++ own) (suc number) next behind_literal blocks solid.1 moved
      (omega (arith, length-append front own, own_size, from))
      (then_has literals literal (literals_of body.code) (all_literals later) has) in
      ap (λ (found : Option Body). and_more found (bodies_by literals whole (blocks_of next later))) first
      ∙ ap (λ (found : Option (List Body)). and_more (Some body) found) others

pub reads_back : (table : List Piece) (blocks : List Block) → AllSolid table 0 blocks
    → bodies_fit 0 0 (bodies_in blocks) ≡ true
    → decoded (bytes_of 0 0 (bodies_in blocks)) (all_literals (bodies_in blocks)) (blocks_of 0 (bodies_in blocks))
    ≡ Some (bodies_in blocks)
unfolding decoded
reads_back table blocks solid fits =
    let bodies = bodies_in blocks in
    let bytes = bytes_of 0 0 bodies in
    let lines = lines_in (all_rows 0 0 0 blocks) in
    ap (λ (read : Result Lines ℕ). read_by (all_literals bodies) (blocks_of 0 bodies) read)
    (reads_all bytes [] 0 0 0 blocks refl refl fits)
    ∙ reads_blocks table (all_literals bodies) lines [] 0 0 0 blocks solid refl refl (has_self (all_literals bodies))

-- What the encoder writes, part by part.
use Rattle.std.proofs.Common.{◌≡◌, ◌∙◌, refl, sym, ap, subst, inl, inr, ℕ, zero, suc, ◌+◌, ◌-◌, ◌<◌, ◌≤◌, ◌^◌, min, nat_lt, nat_le, Bool, true, false, ◌&&◌, List, [], ◌∷◌, ◌++◌, length, length-append, append_assoc, map, take, slice_get, Some, None, Result, Ok, Err, OnOk, arith}
use Rattle.std.proofs.lemmas.Bool.{false≢true}
use Rattle.std.proofs.lemmas.Bool.Decides.{nat_tests}
use Rattle.std.proofs.lemmas.List.{append-nil}
use Rattle.op_table.specs.Ops.{row_for}
use Rattle.st_tree.specs.Trees.{Program}
use Rattle.st_tree.specs.declared.nodes.Literal.{Literal}
use Rattle.st_code.specs.declared.blocks.BlockCode.{BlockCode}
use Rattle.st_compiler.specs.Instruction.{Instruction, PushSelf, PushNil, PushTrue, PushFalse, PushLit, MakeLit, PushLocal, StoreLocal, PushName, StoreName, Pop, Dup, Send, SuperSend, PushBlock, ReturnMethod, ReturnHome, ReturnBlock, Jump, JumpBack, JumpTrue, JumpFalse, TakeUnit, Enter, Leave, LoopStart, LoopNext, LoopStep, op_of}
use Rattle.st_compiler.specs.declared.instr.Instr.{Instr}
use Rattle.st_compiler.specs.declared.instr.BlockBody.{BlockBody}
use Rattle.st_compiler.specs.Emitted.{instruction_of, instructions, Body, body_of, bodies, piece_body, text_code}
use Rattle.st_encoder.specs.Bytes.{literals_in, literals_of, size_of, code_size, place_at, first_operand, second_operand, instruction_bytes, bytes_from, bytes_of, all_literals, blocks_of, total_size, instruction_fits, fit_from, body_fits, bodies_fit, text_bodies, text_bytes, text_literals, text_blocks, text_fits}
use Rattle.st_encoder.specs.Operands.{places_from, last_entry, entry, operands_of, operands_bytes, operands_fit}
use Rattle.st_encoder.specs.declared.operands.Operands.TheVariants.{Number}
use Rattle.st_encoder.specs.declared.error.EncodeError.{EncodeError}
use Rattle.st_encoder.specs.declared.error.EncodeError.TheVariants.{TooLarge, NoMemory}
use Rattle.st_encoder.specs.Written.{IsTooLarge, WroteOne, WroteCode, WroteBodies, DontFit}
use Rattle.st_code.specs.Faults.{fault_of}
use Rattle.st_encoder.proofs.Reading.{bytes_length, all_length}
use Rattle.st_encoder.proofs.Texts.{text_passes}

-- ---- the table of places

get_none : {A : Type 0} (xs : List A) (at : ℕ) → length xs ≤ at → slice_get xs at ≡ None
get_none [] at beyond = refl
get_none (first ∷ rest) zero beyond = absurd (omega (arith, beyond))
get_none (first ∷ rest) (suc at) beyond = get_none rest at (omega (arith, beyond))

take_all : (code : List Instruction) (number : ℕ) → length code ≤ number → take number code ≡ code
take_all [] number beyond = take_none number
  where
    take_none : (count : ℕ) → take {A = Instruction} count [] ≡ []
    take_none zero = refl
    take_none (suc count) = refl
take_all (one ∷ rest) zero beyond = absurd (omega (arith, beyond))
take_all (one ∷ rest) (suc number) beyond =
    ap (λ (code : List Instruction). one ∷ code) (take_all rest number (omega (arith, beyond)))

places_length : (start : ℕ) (code : List Instruction) → length (places_from start code) ≡ suc (length code)
places_length start [] = refl
places_length start (one ∷ rest) = ap (λ (n : ℕ). suc n) (places_length (start + size_of one) rest)

get_place : (start : ℕ) (code : List Instruction) (number : ℕ) → number ≤ length code
    → slice_get (places_from start code) number ≡ Some (place_at start code number)
get_place start [] zero within =
    let same : start ≡ start + 0 = omega arith in ap (λ (n : ℕ). Some n) same
get_place start [] (suc number) within = absurd (omega (arith, within))
get_place start (one ∷ rest) zero within =
    let same : start ≡ start + 0 = omega arith in ap (λ (n : ℕ). Some n) same
get_place start (one ∷ rest) (suc number) within =
    let same : place_at (start + size_of one) rest number ≡ place_at start (one ∷ rest) (suc number) = omega arith in
    get_place (start + size_of one) rest number (omega (arith, within)) ∙ ap (λ (n : ℕ). Some n) same

entry_there : (places : List ℕ) (number place : ℕ) → slice_get places number ≡ Some place → entry places number ≡ place
entry_there places number place is = rw is refl

entry_beyond : (places : List ℕ) (number : ℕ) → length places ≤ number → entry places number ≡ last_entry places
entry_beyond places number beyond = let none = get_none places number beyond in rw none refl

last_there : (places : List ℕ) (number place : ℕ) → length places ≡ suc number → slice_get places number ≡ Some place
    → last_entry places ≡ place
last_there places number place count is =
    let last : length places - 1 ≡ number = omega (arith, count) in
    let there : slice_get places (length places - 1) ≡ Some place = ap (λ (n : ℕ). slice_get places n) last ∙ is in
    rw there refl

pub entry_is : (start : ℕ) (code : List Instruction) (number : ℕ)
    → entry (places_from start code) number ≡ place_at start code number
entry_is start code number = by (nat_le number (length code)) refl
  where
    by : (test : Bool) → nat_le number (length code) ≡ test
        → entry (places_from start code) number ≡ place_at start code number
    by true is =
        let within : number ≤ length code = grind (arith, nat_tests, is) in
        entry_there (places_from start code) number (place_at start code number) (get_place start code number within)
    by false is =
        let beyond : length code < number = grind (arith, nat_tests, is) in
        let all : place_at start code (length code) ≡ place_at start code number =
        ap (λ (some : List Instruction). start + code_size some)
        (take_all code (length code) (omega arith) ∙ sym (take_all code number (omega (arith, beyond)))) in
        entry_beyond (places_from start code) number (omega (arith, places_length start code, beyond))
        ∙ last_there (places_from start code) (length code) (place_at start code (length code)) (places_length start code)
        (get_place start code (length code) (omega arith))
        ∙ all

-- a number behind the table is as good as any other there
pub entry_min : (places : List ℕ) (number most : ℕ) → length places ≤ most
    → entry places (min number most) ≡ entry places number
entry_min places number most few = by (nat_le number most) refl
  where
    by : (test : Bool) → nat_le number most ≡ test → entry places (min number most) ≡ entry places number
    by true is =
        let within : number ≤ most = grind (arith, nat_tests, is) in
        let same : min number most ≡ number = omega (arith, within) in
        ap (λ (n : ℕ). entry places n) same
    by false is =
        let beyond : most < number = grind (arith, nat_tests, is) in
        entry_beyond places (min number most) (omega (arith, few, beyond))
        ∙ sym (entry_beyond places number (omega (arith, few, beyond)))

-- ---- one instruction

and_true : (test : Bool) → (test && true) ≡ test
and_true true = refl
and_true false = refl

module _ (start literal : ℕ) (code : List Instruction) (number : ℕ) where
  abbrev places : List ℕ
  places = places_from start code

  abbrev byte_of : Instruction → ℕ
  byte_of one = (row_for (op_of one)).byte

  bytes_same : (one : Instruction)
      → instruction_bytes one (first_operand start literal code number one) (second_operand one)
      ≡ byte_of one ∷ operands_bytes (operands_of literal places number one)
  bytes_same PushSelf = refl
  bytes_same PushNil = refl
  bytes_same PushTrue = refl
  bytes_same PushFalse = refl
  bytes_same (PushLit answer) = refl
  bytes_same (MakeLit tree) = refl
  bytes_same (PushLocal depth index) = refl
  bytes_same (StoreLocal depth index) = refl
  bytes_same (PushName name) = refl
  bytes_same (StoreName name) = refl
  bytes_same Pop = refl
  bytes_same Dup = refl
  bytes_same (Send selector count) = refl
  bytes_same (SuperSend selector count) = refl
  bytes_same (PushBlock block) = refl
  bytes_same ReturnMethod = refl
  bytes_same ReturnHome = refl
  bytes_same ReturnBlock = refl
  bytes_same (Jump ahead) =
      ap (λ (n : ℕ). byte_of (Jump ahead) ∷ operands_bytes (Number n)) (sym (entry_is start code (suc number + ahead)))
  bytes_same (JumpBack behind) =
      ap (λ (n : ℕ). byte_of (JumpBack behind) ∷ operands_bytes (Number n)) (sym (entry_is start code (number - behind)))
  bytes_same (JumpTrue ahead) =
      ap (λ (n : ℕ). byte_of (JumpTrue ahead) ∷ operands_bytes (Number n)) (sym (entry_is start code (suc number + ahead)))
  bytes_same (JumpFalse ahead) =
      ap (λ (n : ℕ). byte_of (JumpFalse ahead) ∷ operands_bytes (Number n)) (sym (entry_is start code (suc number + ahead)))
  bytes_same TakeUnit = refl
  bytes_same (Enter count) = refl
  bytes_same Leave = refl
  bytes_same LoopStart = refl
  bytes_same (LoopNext ahead) =
      ap (λ (n : ℕ). byte_of (LoopNext ahead) ∷ operands_bytes (Number n)) (sym (entry_is start code (suc number + ahead)))
  bytes_same (LoopStep behind) =
      ap (λ (n : ℕ). byte_of (LoopStep behind) ∷ operands_bytes (Number n)) (sym (entry_is start code (number - behind)))

  lands : (target : ℕ) → (nat_lt (place_at start code target) (2 ^ 32) && true) ≡ nat_lt (entry places target) (2 ^ 32)
  lands target =
      and_true (nat_lt (place_at start code target) (2 ^ 32))
      ∙ ap (λ (n : ℕ). nat_lt n (2 ^ 32)) (sym (entry_is start code target))

  fits_same : (one : Instruction)
      → instruction_fits one (first_operand start literal code number one) (second_operand one)
      ≡ operands_fit (operands_of literal places number one)
  fits_same PushSelf = refl
  fits_same PushNil = refl
  fits_same PushTrue = refl
  fits_same PushFalse = refl
  fits_same (PushLit answer) = and_true (nat_lt literal (2 ^ 32))
  fits_same (MakeLit tree) = and_true (nat_lt literal (2 ^ 32))
  fits_same (PushLocal depth index) = refl
  fits_same (StoreLocal depth index) = refl
  fits_same (PushName name) = and_true (nat_lt literal (2 ^ 32))
  fits_same (StoreName name) = and_true (nat_lt literal (2 ^ 32))
  fits_same Pop = refl
  fits_same Dup = refl
  fits_same (Send selector count) = refl
  fits_same (SuperSend selector count) = refl
  fits_same (PushBlock block) = and_true (nat_lt (suc block) (2 ^ 32))
  fits_same ReturnMethod = refl
  fits_same ReturnHome = refl
  fits_same ReturnBlock = refl
  fits_same (Jump ahead) = lands (suc number + ahead)
  fits_same (JumpBack behind) = lands (number - behind)
  fits_same (JumpTrue ahead) = lands (suc number + ahead)
  fits_same (JumpFalse ahead) = lands (suc number + ahead)
  fits_same TakeUnit = refl
  fits_same (Enter count) = and_true (nat_lt count (2 ^ 32))
  fits_same Leave = refl
  fits_same LoopStart = refl
  fits_same (LoopNext ahead) = lands (suc number + ahead)
  fits_same (LoopStep behind) = lands (number - behind)

-- ---- the instructions of a block

-- Once the rest is written too, all is.
pub record CodeLeft (start : ℕ) (code : List Instruction) (number : ℕ) (rest : List Instruction) (bytes : List ℕ)
    (literals : List Literal) (first_bytes : List ℕ) (first_literals : List Literal) : Type 0 where
  pub bytes_are : bytes ++ bytes_from start (length literals) code number rest
      ≡ first_bytes ++ bytes_from start (length first_literals) code 0 code
  pub literals_are : literals ++ literals_of rest ≡ first_literals ++ literals_of code
  pub fits : fit_from start (length literals) code number rest ≡ fit_from start (length first_literals) code 0 code

pub code_begins : {start : ℕ} {code : List Instruction} {bytes : List ℕ} {literals : List Literal}
    → CodeLeft start code 0 code bytes literals bytes literals
code_begins = record { bytes_are = refl; literals_are = refl; fits = refl }

pub code_goes : (start : ℕ) (code : List Instruction) (number : ℕ) (one : Instruction) (rest : List Instruction)
    (bytes : List ℕ) (literals : List Literal) (first_bytes : List ℕ) (first_literals : List Literal)
    (bytes_now : List ℕ) (literals_now : List Literal)
    → CodeLeft start code number (one ∷ rest) bytes literals first_bytes first_literals
    → WroteOne (length literals) (places_from start code) number one bytes bytes_now
    → literals_now ≡ literals ++ literals_in one
    → CodeLeft start code (suc number) rest bytes_now literals_now first_bytes first_literals
code_goes start code number one rest bytes literals first_bytes first_literals bytes_now literals_now left wrote added =
    let literal = length literals in
    let own = instruction_bytes one (first_operand start literal code number one) (second_operand one) in
    let more = literal + length (literals_in one) in
    let count : length literals_now ≡ more =
    ap (λ (all : List Literal). length all) added ∙ length-append literals (literals_in one) in
    let own_is : bytes_now ≡ bytes ++ own =
    wrote.bytes_are ∙ ap (λ (some : List ℕ). bytes ++ some) (sym (bytes_same start literal code number one)) in
    let fit : instruction_fits one (first_operand start literal code number one) (second_operand one) ≡ true =
    fits_same start literal code number one ∙ wrote.fit in
    record {
      bytes_are = ap (λ (n : ℕ). bytes_now ++ bytes_from start n code (suc number) rest) count
          ∙ ap (λ (some : List ℕ). some ++ bytes_from start more code (suc number) rest) own_is
          ∙ append_assoc bytes own (bytes_from start more code (suc number) rest) ∙ left.bytes_are;
      literals_are = ap (λ (some : List Literal). some ++ literals_of rest) added
          ∙ append_assoc literals (literals_in one) (literals_of rest) ∙ left.literals_are;
      fits = ap (λ (n : ℕ). fit_from start n code (suc number) rest) count
          ∙ sym (ap (λ (test : Bool). test && fit_from start more code (suc number) rest) fit) ∙ left.fits;
    }

pub code_ends : (start : ℕ) (code : List Instruction) (number : ℕ) (bytes : List ℕ) (literals : List Literal)
    (first_bytes : List ℕ) (first_literals : List Literal)
    → CodeLeft start code number [] bytes literals first_bytes first_literals
    → WroteCode start code 0 code first_bytes first_literals bytes literals
code_ends start code number bytes literals first_bytes first_literals left = record {
  bytes_are = sym (append-nil bytes) ∙ left.bytes_are;
  literals_are = sym (append-nil literals) ∙ left.literals_are;
  fit = sym left.fits;
}

pub code_fails : (start : ℕ) (code : List Instruction) (number : ℕ) (one : Instruction) (rest : List Instruction)
    (bytes : List ℕ) (literals : List Literal) (first_bytes : List ℕ) (first_literals : List Literal)
    → CodeLeft start code number (one ∷ rest) bytes literals first_bytes first_literals
    → operands_fit (operands_of (length literals) (places_from start code) number one) ≡ false
    → fit_from start (length first_literals) code 0 code ≡ false
code_fails start code number one rest bytes literals first_bytes first_literals left large =
    let not_fit : instruction_fits one (first_operand start (length literals) code number one) (second_operand one) ≡ false =
    fits_same start (length literals) code number one ∙ large in
    sym left.fits
    ∙ ap (λ (test : Bool). test && fit_from start (length literals + length (literals_in one)) code (suc number) rest)
    not_fit

-- ---- blocks

pub body_wrote : (params temps : ℕ) (code : List Instruction) (bytes : List ℕ) (literals : List Literal)
    (blocks : List BlockCode) (bytes_now : List ℕ) (literals_now : List Literal)
    → params < 2 ^ 32 → temps < 2 ^ 32 → WroteCode (length bytes) code 0 code bytes literals bytes_now literals_now
    → WroteBodies (record { params = params; temps = temps; code = code } ∷ []) bytes literals blocks bytes_now
    literals_now (blocks ++ record { start = length bytes; params = params; temps = temps } ∷ [])
body_wrote params temps code bytes literals blocks bytes_now literals_now few also wrote =
    let own = bytes_from (length bytes) (length literals) code 0 code in
    let params_fit : nat_lt params (2 ^ 32) ≡ true = grind (arith, nat_tests, few) in
    let temps_fit : nat_lt temps (2 ^ 32) ≡ true = grind (arith, nat_tests, also) in
    record {
      bytes_are = wrote.bytes_are ∙ ap (λ (some : List ℕ). bytes ++ some) (sym (append-nil own));
      literals_are = wrote.literals_are ∙ ap (λ (some : List Literal). literals ++ some) (sym (append-nil (literals_of code)));
      blocks_are = refl;
      fit = all_true (nat_lt params (2 ^ 32)) (nat_lt temps (2 ^ 32)) (fit_from (length bytes) (length literals) code 0 code)
          params_fit temps_fit wrote.fit;
    }
  where
    all_true : (one two three : Bool) → one ≡ true → two ≡ true → three ≡ true → ((one && two && three) && true) ≡ true
    all_true true true three first second third = and_true three ∙ third
    all_true true false three first second third = absurd (false≢true second)
    all_true false two three first second third = absurd (false≢true first)

pub wrote_length : (bodies : List Body) (bytes : List ℕ) (literals : List Literal) (blocks : List BlockCode)
    (bytes_now : List ℕ) (literals_now : List Literal) (blocks_now : List BlockCode)
    → WroteBodies bodies bytes literals blocks bytes_now literals_now blocks_now
    → length bytes_now ≡ length bytes + length (bytes_of (length bytes) (length literals) bodies)
wrote_length bodies bytes literals blocks bytes_now literals_now blocks_now wrote =
    ap (λ (all : List ℕ). length all) wrote.bytes_are
    ∙ length-append bytes (bytes_of (length bytes) (length literals) bodies)

bytes_of_same : (start other literal more : ℕ) (bodies : List Body) → start ≡ other → literal ≡ more
    → bytes_of start literal bodies ≡ bytes_of other more bodies
bytes_of_same start other literal more bodies same also =
    ap (λ (n : ℕ). bytes_of n literal bodies) same ∙ ap (λ (n : ℕ). bytes_of other n bodies) also

fit_same : (start other literal more : ℕ) (bodies : List Body) → start ≡ other → literal ≡ more
    → bodies_fit start literal bodies ≡ bodies_fit other more bodies
fit_same start other literal more bodies same also =
    ap (λ (n : ℕ). bodies_fit n literal bodies) same ∙ ap (λ (n : ℕ). bodies_fit other n bodies) also

-- Once the rest is written too, all is.
pub record BodiesLeft (all rest : List Body) (bytes : List ℕ) (literals : List Literal) (blocks : List BlockCode)
    (first_bytes : List ℕ) (first_literals : List Literal) (first_blocks : List BlockCode) : Type 0 where
  pub bytes_are : bytes ++ bytes_of (length bytes) (length literals) rest
      ≡ first_bytes ++ bytes_of (length first_bytes) (length first_literals) all
  pub literals_are : literals ++ all_literals rest ≡ first_literals ++ all_literals all
  pub blocks_are : blocks ++ blocks_of (length bytes) rest ≡ first_blocks ++ blocks_of (length first_bytes) all
  pub fits : bodies_fit (length bytes) (length literals) rest
      ≡ bodies_fit (length first_bytes) (length first_literals) all
  pub size : length bytes + total_size rest ≡ length first_bytes + total_size all

pub bodies_begin : {all : List Body} {bytes : List ℕ} {literals : List Literal} {blocks : List BlockCode}
    → BodiesLeft all all bytes literals blocks bytes literals blocks
bodies_begin = record { bytes_are = refl; literals_are = refl; blocks_are = refl; fits = refl; size = refl }

pub bodies_go : (all : List Body) (body : Body) (rest : List Body) (bytes : List ℕ) (literals : List Literal)
    (blocks : List BlockCode) (first_bytes : List ℕ) (first_literals : List Literal) (first_blocks : List BlockCode)
    (bytes_now : List ℕ) (literals_now : List Literal) (blocks_now : List BlockCode)
    → BodiesLeft all (body ∷ rest) bytes literals blocks first_bytes first_literals first_blocks
    → WroteBodies (body ∷ []) bytes literals blocks bytes_now literals_now blocks_now
    → BodiesLeft all rest bytes_now literals_now blocks_now first_bytes first_literals first_blocks
bodies_go all body rest bytes literals blocks first_bytes first_literals first_blocks bytes_now literals_now blocks_now left
    wrote =
    let start = length bytes in
    let literal = length literals in
    let own = bytes_from start literal body.code 0 body.code in
    let next = start + code_size body.code in
    let more = literal + length (literals_of body.code) in
    let mark : BlockCode = record { start = start; params = body.params; temps = body.temps } in
    let own_is : bytes_now ≡ bytes ++ own =
    wrote.bytes_are ∙ ap (λ (some : List ℕ). bytes ++ some) (append-nil own) in
    let lits_is : literals_now ≡ literals ++ literals_of body.code =
    wrote.literals_are ∙ ap (λ (some : List Literal). literals ++ some) (append-nil (literals_of body.code)) in
    let next_is : length bytes_now ≡ next =
    omega (
      arith,
      ap (λ (some : List ℕ). length some) own_is,
      length-append bytes own,
      bytes_length start literal body.code 0 body.code,
    ) in
    let more_is : length literals_now ≡ more =
    ap (λ (some : List Literal). length some) lits_is ∙ length-append literals (literals_of body.code) in
    let fit : body_fits start literal body ≡ true =
    sym (and_true (body_fits start literal body)) ∙ wrote.fit in
    record {
      bytes_are = ap (λ (some : List ℕ). bytes_now ++ some)
          (bytes_of_same (length bytes_now) next (length literals_now) more rest next_is more_is)
          ∙ ap (λ (some : List ℕ). some ++ bytes_of next more rest) own_is
          ∙ append_assoc bytes own (bytes_of next more rest) ∙ left.bytes_are;
      literals_are = ap (λ (some : List Literal). some ++ all_literals rest) lits_is
          ∙ append_assoc literals (literals_of body.code) (all_literals rest) ∙ left.literals_are;
      blocks_are = ap (λ (n : ℕ). blocks_now ++ blocks_of n rest) next_is
          ∙ ap (λ (some : List BlockCode). some ++ blocks_of next rest) wrote.blocks_are
          ∙ append_assoc blocks (mark ∷ []) (blocks_of next rest) ∙ left.blocks_are;
      fits = fit_same (length bytes_now) next (length literals_now) more rest next_is more_is
          ∙ sym (ap (λ (test : Bool). test && bodies_fit next more rest) fit) ∙ left.fits;
      size = omega (arith, next_is, left.size);
    }

pub bodies_end : (all : List Body) (bytes : List ℕ) (literals : List Literal) (blocks : List BlockCode)
    (first_bytes : List ℕ) (first_literals : List Literal) (first_blocks : List BlockCode)
    → BodiesLeft all [] bytes literals blocks first_bytes first_literals first_blocks
    → WroteBodies all first_bytes first_literals first_blocks bytes literals blocks
bodies_end all bytes literals blocks first_bytes first_literals first_blocks left = record {
  bytes_are = sym (append-nil bytes) ∙ left.bytes_are;
  literals_are = sym (append-nil literals) ∙ left.literals_are;
  blocks_are = sym (append-nil blocks) ∙ left.blocks_are;
  fit = sym left.fits;
}

-- a block for which there are no bytes, and so none for all
pub bodies_fail : (all : List Body) (body : Body) (rest : List Body) (bytes : List ℕ) (literals : List Literal)
    (blocks : List BlockCode) (first_bytes : List ℕ) (first_literals : List Literal) (first_blocks : List BlockCode)
    → BodiesLeft all (body ∷ rest) bytes literals blocks first_bytes first_literals first_blocks
    → DontFit (body ∷ []) (length bytes) (length literals) → DontFit all (length first_bytes) (length first_literals)
bodies_fail all body rest bytes literals blocks first_bytes first_literals first_blocks left (inl large) =
    inl (omega (arith, large, left.size))
bodies_fail all body rest bytes literals blocks first_bytes first_literals first_blocks left (inr unfit) =
    let not_fit : body_fits (length bytes) (length literals) body ≡ false =
    sym (and_true (body_fits (length bytes) (length literals) body)) ∙ unfit in
    inr (sym left.fits
    ∙ ap (λ (test : Bool). test && bodies_fit (length bytes + code_size body.code)
    (length literals + length (literals_of body.code)) rest) not_fit)

-- ---- a text

pub both_wrote : (body : Body) (rest : List Body) (bytes : List ℕ) (literals : List Literal) (blocks : List BlockCode)
    (bytes_now : List ℕ) (literals_now : List Literal) (blocks_now : List BlockCode)
    → WroteBodies (body ∷ []) [] [] [] bytes literals blocks
    → WroteBodies rest bytes literals blocks bytes_now literals_now blocks_now
    → WroteBodies (body ∷ rest) [] [] [] bytes_now literals_now blocks_now
both_wrote body rest bytes literals blocks bytes_now literals_now blocks_now first second =
    let left = bodies_go (body ∷ rest) body rest [] [] [] [] [] [] bytes literals blocks bodies_begin first in
    record {
      bytes_are = second.bytes_are ∙ left.bytes_are;
      literals_are = second.literals_are ∙ left.literals_are;
      blocks_are = second.blocks_are ∙ left.blocks_are;
      fit = sym left.fits ∙ second.fit;
    }

-- each instruction takes a byte at least
pub count_size : (code : List Instr) → length code ≤ code_size (instructions code)
count_size [] = omega arith
count_size (one ∷ rest) = omega (arith, count_size rest)

-- ---- as the encoder's loops meet it

pub too_large_by : {Why Also : Type 0} (error : EncodeError) → (Why → Also) → IsTooLarge Why error
    → IsTooLarge Also error
too_large_by TooLarge so why = so why
too_large_by NoMemory so why = tt

pub code_step : (start : ℕ) (code rest : List Instr) (number next : ℕ) (one : Instr) (later : List Instr)
    (literal : ℕ) (table : List ℕ) (bytes : List ℕ) (literals : List Literal) (first_bytes : List ℕ)
    (first_literals : List Literal) (bytes_now : List ℕ) (literals_now : List Literal)
    → rest ≡ one ∷ later → next ≡ number + 1 → literal ≡ length literals → table ≡ places_from start (instructions code)
    → CodeLeft start (instructions code) number (instructions rest) bytes literals first_bytes first_literals
    → WroteOne literal table number (instruction_of one) bytes bytes_now
    → literals_now ≡ literals ++ literals_in (instruction_of one)
    → CodeLeft start (instructions code) next (instructions later) bytes_now literals_now first_bytes first_literals
code_step start code rest number next one later literal table bytes literals first_bytes first_literals bytes_now
    literals_now rest_is next_is literal_is table_is left wrote added =
    let whole = instructions code in
    let further : suc number ≡ next = omega (arith, next_is) in
    subst (λ (n : ℕ). CodeLeft start whole n (instructions later) bytes_now literals_now first_bytes first_literals) further
    (code_goes start whole number (instruction_of one) (instructions later) bytes literals first_bytes first_literals
    bytes_now literals_now
    (subst (λ (some : List Instr). CodeLeft start whole number (instructions some) bytes literals first_bytes
    first_literals) rest_is left)
    (subst (λ (places : List ℕ). WroteOne (length literals) places number (instruction_of one) bytes bytes_now) table_is
    (subst (λ (n : ℕ). WroteOne n table number (instruction_of one) bytes bytes_now) literal_is wrote))
    added)

pub code_stops : (start : ℕ) (code rest : List Instr) (number : ℕ) (one : Instr) (later : List Instr)
    (literal : ℕ) (table : List ℕ) (bytes : List ℕ) (literals : List Literal) (first_bytes : List ℕ)
    (first_literals : List Literal)
    → rest ≡ one ∷ later → literal ≡ length literals → table ≡ places_from start (instructions code)
    → start ≡ length first_bytes
    → CodeLeft start (instructions code) number (instructions rest) bytes literals first_bytes first_literals
    → operands_fit (operands_of literal table number (instruction_of one)) ≡ false
    → fit_from (length first_bytes) (length first_literals) (instructions code) 0 (instructions code) ≡ false
code_stops start code rest number one later literal table bytes literals first_bytes first_literals rest_is literal_is
    table_is start_is left large =
    let whole = instructions code in
    subst (λ (n : ℕ). fit_from n (length first_literals) whole 0 whole ≡ false) start_is
    (code_fails start whole number (instruction_of one) (instructions later) bytes literals first_bytes first_literals
    (subst (λ (some : List Instr). CodeLeft start whole number (instructions some) bytes literals first_bytes
    first_literals) rest_is left)
    (subst (λ (places : List ℕ). operands_fit (operands_of (length literals) places number (instruction_of one)) ≡ false)
    table_is
    (subst (λ (n : ℕ). operands_fit (operands_of n table number (instruction_of one)) ≡ false) literal_is large)))

pub small_body : (params temps : ℕ) (code : List Instruction) (bytes : List ℕ) (literals : List Literal)
    (bytes_now : List ℕ) (literals_now : List Literal)
    → WroteCode (length bytes) code 0 code bytes literals bytes_now literals_now
    → length bytes + code_size code < 2 ^ 32 → length bytes_now < 2 ^ 32
small_body params temps code bytes literals bytes_now literals_now wrote small =
    let own = bytes_from (length bytes) (length literals) code 0 code in
    let count : length bytes_now ≡ length bytes + length own =
    ap (λ (some : List ℕ). length some) wrote.bytes_are ∙ length-append bytes own in
    omega (arith, count, bytes_length (length bytes) (length literals) code 0 code, small)

pub on_ok_both : {T E One Two Three : Type 0} (result : Result T E) → (One → Two → Three) → OnOk result One
    → OnOk result Two → OnOk result Three
on_ok_both (Ok answer) joins one two = joins one two
on_ok_both (Err error) joins one two = tt

pub bodies_step : (pushed rest : List BlockBody) (body : BlockBody) (later : List BlockBody) (bytes : List ℕ)
    (literals : List Literal) (blocks : List BlockCode) (first_bytes : List ℕ) (first_literals : List Literal)
    (first_blocks : List BlockCode) (bytes_now : List ℕ) (literals_now : List Literal) (blocks_now : List BlockCode)
    → rest ≡ body ∷ later
    → BodiesLeft (bodies pushed) (bodies rest) bytes literals blocks first_bytes first_literals first_blocks
    → WroteBodies (body_of body ∷ []) bytes literals blocks bytes_now literals_now blocks_now
    → BodiesLeft (bodies pushed) (bodies later) bytes_now literals_now blocks_now first_bytes first_literals first_blocks
bodies_step pushed rest body later bytes literals blocks first_bytes first_literals first_blocks bytes_now literals_now
    blocks_now rest_is left wrote =
    bodies_go (bodies pushed) (body_of body) (bodies later) bytes literals blocks first_bytes first_literals first_blocks
    bytes_now literals_now blocks_now
    (subst (λ (some : List BlockBody). BodiesLeft (bodies pushed) (bodies some) bytes literals blocks first_bytes
    first_literals first_blocks) rest_is left)
    wrote

pub bodies_stop : (pushed rest : List BlockBody) (body : BlockBody) (later : List BlockBody) (bytes : List ℕ)
    (literals : List Literal) (blocks : List BlockCode) (first_bytes : List ℕ) (first_literals : List Literal)
    (first_blocks : List BlockCode) → rest ≡ body ∷ later
    → BodiesLeft (bodies pushed) (bodies rest) bytes literals blocks first_bytes first_literals first_blocks
    → DontFit (body_of body ∷ []) (length bytes) (length literals)
    → DontFit (bodies pushed) (length first_bytes) (length first_literals)
bodies_stop pushed rest body later bytes literals blocks first_bytes first_literals first_blocks rest_is left unfit =
    bodies_fail (bodies pushed) (body_of body) (bodies later) bytes literals blocks first_bytes first_literals first_blocks
    (subst (λ (some : List BlockBody). BodiesLeft (bodies pushed) (bodies some) bytes literals blocks first_bytes
    first_literals first_blocks) rest_is left)
    unfit

-- ---- a whole text

-- All that was written is that of the text, and there were bytes for it.
pub record TextWrote (tree : Program) (bytes : List ℕ) (literals : List Literal) (blocks : List BlockCode)
    : Type 0 where
  pub bytes_are : bytes ≡ text_bytes tree
  pub literals_are : literals ≡ text_literals tree
  pub blocks_are : blocks ≡ text_blocks tree
  pub fits : text_fits tree ≡ true

text_done : (tree : Program) (bytes : List ℕ) (literals : List Literal) (blocks : List BlockCode)
    → WroteBodies (text_bodies tree) [] [] [] bytes literals blocks → length bytes < 2 ^ 32
    → TextWrote tree bytes literals blocks
unfolding text_bytes text_literals text_blocks text_fits
text_done tree bytes literals blocks wrote small =
    let own = bytes_of 0 0 (text_bodies tree) in
    let count : length bytes ≡ length own = ap (λ (some : List ℕ). length some) wrote.bytes_are in
    let few : nat_lt (total_size (text_bodies tree)) (2 ^ 32) ≡ true =
    grind (arith, nat_tests, count, all_length 0 0 (text_bodies tree), small) in
    record {
      bytes_are = wrote.bytes_are;
      literals_are = wrote.literals_are;
      blocks_are = wrote.blocks_are;
      fits = ap (λ (test : Bool). test && bodies_fit 0 0 (text_bodies tree)) few ∙ wrote.fit;
    }

and_false : (test : Bool) → (test && false) ≡ false
and_false true = refl
and_false false = refl

text_unfit : (tree : Program) → DontFit (text_bodies tree) 0 0 → text_fits tree ≡ false
unfolding text_fits
text_unfit tree (inl large) =
    let many : nat_lt (total_size (text_bodies tree)) (2 ^ 32) ≡ false = grind (arith, nat_tests, large) in
    ap (λ (test : Bool). test && bodies_fit 0 0 (text_bodies tree)) many
text_unfit tree (inr unfit) =
    ap (λ (test : Bool). nat_lt (total_size (text_bodies tree)) (2 ^ 32) && test) unfit
    ∙ and_false (nat_lt (total_size (text_bodies tree)) (2 ^ 32))

module _ (tree : Program) (params temps : ℕ) (code : List Instr) (no_bytes : List ℕ) (no_literals : List Literal)
    (no_blocks : List BlockCode) (params_are : params ≡ length tree.params) (temps_are : temps ≡ length tree.temps)
    (code_is : instructions code ≡ (text_code tree 0).code) (bytes_none : no_bytes ≡ []) (literals_none : no_literals ≡ [])
    (blocks_none : no_blocks ≡ []) where
  abbrev here : Body
  here = record { params = params; temps = temps; code = instructions code }

  abbrev own : Body
  own = record { params = length tree.params; temps = length tree.temps; code = (text_code tree 0).code }

  here_is : here ≡ own
  here_is = λ i. record { params = params_are i; temps = temps_are i; code = code_is i }

  first_fails : DontFit (here ∷ []) (length no_bytes) (length no_literals) → DontFit (own ∷ []) 0 0
  first_fails unfit =
      subst (λ (some : List ℕ). DontFit (own ∷ []) (length some) 0) bytes_none
      (subst (λ (some : List Literal). DontFit (own ∷ []) (length no_bytes) (length some)) literals_none
      (subst (λ (body : Body). DontFit (body ∷ []) (length no_bytes) (length no_literals)) here_is unfit))

  pub text_stops : DontFit (here ∷ []) (length no_bytes) (length no_literals) → text_fits tree ≡ false
  text_stops unfit =
      let rest = map piece_body (text_code tree 0).pieces in
      text_unfit tree (bodies_fail (own ∷ rest) own rest [] [] [] [] [] [] bodies_begin (first_fails unfit))

  first_wrote : (bytes : List ℕ) (literals : List Literal) (blocks : List BlockCode)
      → WroteBodies (here ∷ []) no_bytes no_literals no_blocks bytes literals blocks
      → WroteBodies (own ∷ []) [] [] [] bytes literals blocks
  first_wrote bytes literals blocks wrote =
      subst (λ (some : List ℕ). WroteBodies (own ∷ []) some [] [] bytes literals blocks) bytes_none
      (subst (λ (some : List Literal). WroteBodies (own ∷ []) no_bytes some [] bytes literals blocks) literals_none
      (subst (λ (some : List BlockCode). WroteBodies (own ∷ []) no_bytes no_literals some bytes literals blocks)
      blocks_none
      (subst (λ (body : Body). WroteBodies (body ∷ []) no_bytes no_literals no_blocks bytes literals blocks) here_is
      wrote)))

  module _ (pushed : List BlockBody) (pushed_are : bodies pushed ≡ map piece_body (text_code tree 0).pieces)
      (bytes : List ℕ) (literals : List Literal) (blocks : List BlockCode)
      (wrote : WroteBodies (here ∷ []) no_bytes no_literals no_blocks bytes literals blocks) where
    abbrev rest : List Body
    rest = map piece_body (text_code tree 0).pieces

    left : BodiesLeft (own ∷ rest) rest bytes literals blocks [] [] []
    left =
        bodies_go (own ∷ rest) own rest [] [] [] [] [] [] bytes literals blocks bodies_begin
        (first_wrote bytes literals blocks wrote)

    pub rest_stops : DontFit (bodies pushed) (length bytes) (length literals) → text_fits tree ≡ false
    rest_stops unfit =
        text_unfit tree (by (subst (λ (some : List Body). DontFit some (length bytes) (length literals)) pushed_are unfit))
      where
        by : DontFit rest (length bytes) (length literals) → DontFit (own ∷ rest) 0 0
        by (inl large) = inl (omega (arith, large, left.size))
        by (inr none) = inr (sym left.fits ∙ none)

    pub rest_wrote : (bytes_now : List ℕ) (literals_now : List Literal) (blocks_now : List BlockCode)
        → WroteBodies (bodies pushed) bytes literals blocks bytes_now literals_now blocks_now
        → length bytes_now < 2 ^ 32 → TextWrote tree bytes_now literals_now blocks_now
    rest_wrote bytes_now literals_now blocks_now later small =
        text_done tree bytes_now literals_now blocks_now
        (both_wrote own rest bytes literals blocks bytes_now literals_now blocks_now
        (first_wrote bytes literals blocks wrote)
        (subst (λ (some : List Body). WroteBodies some bytes literals blocks bytes_now literals_now blocks_now) pushed_are
        later))
        small

pub wrote_passes : (tree : Program) (bytes : List ℕ) (literals : List Literal) (blocks : List BlockCode)
    → TextWrote tree bytes literals blocks → fault_of bytes literals blocks ≡ None
wrote_passes tree bytes literals blocks wrote =
    ap (λ (some : List ℕ). fault_of some literals blocks) wrote.bytes_are
    ∙ ap (λ (some : List Literal). fault_of (text_bytes tree) some blocks) wrote.literals_are
    ∙ ap (λ (some : List BlockCode). fault_of (text_bytes tree) (text_literals tree) some) wrote.blocks_are
    ∙ text_passes tree wrote.fits

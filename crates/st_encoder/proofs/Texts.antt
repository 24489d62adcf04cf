-- The bytes of a text's code pass the check, and are read as its code.
use Rattle.std.proofs.Common.{◌≡◌, ◌∙◌, refl, ap, subst, ℕ, zero, suc, ◌+◌, ◌<◌, ◌^◌, nat_lt, true, List, [], ◌∷◌, ◌++◌, length, length-append, append_assoc, map, slice_get, Option, Some, None, arith}
use Rattle.std.proofs.lemmas.Bool.{and_parts}
use Rattle.std.proofs.lemmas.Bool.Decides.{nat_tests}
use Rattle.std.proofs.lemmas.Option.{same_Some}
use Rattle.gem_object.specs.texts.Bytes.{Bytes as Text}
use Rattle.st_tree.specs.Trees.{Closure, closure, Program}
use Rattle.tree_meaning.specs.Bodies.{method_place, params_count, temps_count}
use Rattle.st_code.specs.Held.{Held}
use Rattle.st_code.specs.Lines.{ascend, end_of}
use Rattle.st_code.specs.Faults.{fault_of}
use Rattle.st_code.proofs.Passes.{passes}
use Rattle.st_compiler.specs.Instruction.{Instruction, Pop, PushSelf, ReturnMethod}
use Rattle.st_compiler.specs.Code.{Piece, Part, Gen, only, seq}
use Rattle.st_compiler.specs.TreeCode.{statements_in_turn_code, statement_codes, method_code, chunk_code}
use Rattle.st_compiler.specs.Emitted.{Body, tree_body, piece_body, text_code_by, text_code}
use Rattle.st_compiler.proofs.Steps.{first_has}
use Rattle.st_encoder.specs.Bytes.{code_size, bytes_of, all_literals, blocks_of, total_size, bodies_fit, are_small, text_bytes, text_literals, text_blocks, text_fits}
use Rattle.st_encoder.specs.Decoded.{decoded, block_body, text_and_blocks}
use Rattle.st_encoder.proofs.Marks.{sizes, mark, Lies, one_lies, after_one, then_lies, Whole, ends_whole}
use Rattle.st_encoder.proofs.Pushes.{pushes, piece_pushes, within}
use Rattle.st_encoder.proofs.Sits.{AllStand, only_sits, seq_sits}
use Rattle.st_encoder.proofs.TreeSits.{text_sits}
use Rattle.st_encoder.proofs.Rows.{lines_in, marks_in}
use Rattle.st_encoder.proofs.Reading.{Block, bodies_in, all_rows, end_is, all_length, reads_all}
use Rattle.st_encoder.proofs.Solid.{Solid, AllSolid, body_pushes, has_self, text_content}
use Rattle.st_encoder.proofs.ReadBack.{reads_back}

-- ---- the code of a text

-- The code goes from the text's start to a return; so do its blocks, and each of these is pushed once.
record TextStands (part : Part) (tree : Program) : Type 0 where
  whole : Whole part.pieces part.code (mark 0 ((length tree.params + length tree.temps) ∷ []) 1)
  stand : AllStand part.pieces 0 part.pieces
  once : (other : ℕ) → pushes other part.code + piece_pushes other part.pieces ≡ within 0 (length part.pieces) other

module _ (tree : Program) where
  abbrev body : Gen
  body = statements_in_turn_code (statement_codes tree.body) (method_place tree) zero

  abbrev scopes : List ℕ
  scopes = sizes (method_place tree).names

  abbrev at : ℕ → Held
  at height = mark height scopes 1

  start_same : at 0 ≡ mark 0 ((length tree.params + length tree.temps) ∷ []) 1
  start_same = ap (λ (n : ℕ). mark 0 (n ∷ []) 1) (length-append tree.params tree.temps)

  chunk_stands : TextStands (chunk_code tree 0) tree
  unfolding chunk_code
  chunk_stands =
      let table = (seq body (only (ReturnMethod ∷ [])) 0).pieces in
      let own = text_sits table tree in
      let all = seq_sits table body (only (ReturnMethod ∷ [])) (at 0) (at 1) (at 1) own
      (only_sits table (ReturnMethod ∷ []) (at 1) (at 1)
      (one_lies table ReturnMethod (at 1) (at 1) (λ marks number next. refl)) (λ other. refl)) in
      record {
        whole = subst (λ (m : Held). Whole table ((body 0).code ++ ReturnMethod ∷ []) m) start_same
            (ends_whole table (body 0).code ReturnMethod (at 0) (at 1)
            (own.lies 0 (first_has table 0 (body 0).pieces [] (has_self table))) (λ marks number. refl));
        stand = all.stand 0 (has_self table);
        once = λ other. all.once 0 other;
      }

  method_stands : TextStands (method_code tree 0) tree
  unfolding method_code
  method_stands =
      let last = Pop ∷ PushSelf ∷ ReturnMethod ∷ [] in
      let table = (seq body (only last) 0).pieces in
      let own = text_sits table tree in
      let pop : Lies table (Pop ∷ []) (at 1) (at 0) = one_lies table Pop (at 1) (at 0) (λ marks number next. (0, refl, next)) in
      let self : Lies table (PushSelf ∷ []) (at 0) (at 1) =
      one_lies table PushSelf (at 0) (at 1) (λ marks number next. next) in
      let drops = after_one table Pop (PushSelf ∷ []) (at 1) (at 0) (at 1) pop self in
      let back = one_lies table ReturnMethod (at 1) (at 1) (λ marks number next. refl) in
      let all = seq_sits table body (only last) (at 0) (at 1) (at 1) own
      (only_sits table last (at 1) (at 1)
      (after_one table Pop (PushSelf ∷ ReturnMethod ∷ []) (at 1) (at 0) (at 1) pop
      (after_one table PushSelf (ReturnMethod ∷ []) (at 0) (at 1) (at 1) self back)) (λ other. refl)) in
      let before = (body 0).code ++ (Pop ∷ PushSelf ∷ []) in
      let joined : before ++ ReturnMethod ∷ [] ≡ (body 0).code ++ last =
      append_assoc (body 0).code (Pop ∷ PushSelf ∷ []) (ReturnMethod ∷ []) in
      record {
        whole = subst (λ (m : Held). Whole table ((body 0).code ++ last) m) start_same
            (subst (λ (code : List Instruction). Whole table code (at 0)) joined
            (ends_whole table before ReturnMethod (at 0) (at 1)
            (then_lies table (body 0).code (Pop ∷ PushSelf ∷ []) (at 0) (at 1) (at 1)
            (own.lies 0 (first_has table 0 (body 0).pieces [] (has_self table))) drops)
            (λ marks number. refl)));
        stand = all.stand 0 (has_self table);
        once = λ other. all.once 0 other;
      }

  text_stands : (selector : Option Text) → TextStands (text_code_by selector tree 0) tree
  text_stands None = chunk_stands
  text_stands (Some selector) = method_stands

-- ---- its blocks

body_same : (tree : Closure) (code : List Instruction)
    → record { params = params_count tree; temps = temps_count tree; code = code } ≡ tree_body tree code
body_same (closure params temps body) code = refl

module _ (table : List Piece) where
  abbrev stand_blocks : (number : ℕ) (pieces : List Piece) → AllStand table number pieces → List Block
  stand_blocks number [] stand = []
  stand_blocks number (piece ∷ rest) stand = record {
    body = record { params = params_count piece.tree; temps = temps_count piece.tree; code = piece.code };
    outer = sizes piece.place.names;
    marks = stand.0.whole.marks;
  } ∷ stand_blocks (suc number) rest stand.1

  stand_bodies : (number : ℕ) (pieces : List Piece) (stand : AllStand table number pieces)
      → bodies_in (stand_blocks number pieces stand) ≡ map piece_body pieces
  stand_bodies number [] stand = refl
  stand_bodies number (piece ∷ rest) stand =
      ap (λ (one : Body). one ∷ bodies_in (stand_blocks (suc number) rest stand.1)) (body_same piece.tree piece.code)
      ∙ ap (λ (others : List Body). piece_body piece ∷ others) (stand_bodies (suc number) rest stand.1)

  stand_read : (number : ℕ) (pieces : List Piece) (stand : AllStand table number pieces)
      → bodies_in (stand_blocks number pieces stand) ≡ map block_body pieces
  stand_read number [] stand = refl
  stand_read number (piece ∷ rest) stand =
      ap (λ (others : List Body). block_body piece ∷ others) (stand_read (suc number) rest stand.1)

  stand_solid : (number : ℕ) (pieces : List Piece) (stand : AllStand table number pieces)
      → AllSolid table (suc number) (stand_blocks number pieces stand)
  stand_solid number [] stand = tt
  stand_solid number (piece ∷ rest) stand = (
    record {
      count = stand.0.whole.count;
      first = stand.0.whole.first;
      goes = stand.0.whole.goes;
      later = λ other below. stand.0.later other (omega (arith, below));
    },
    stand_solid (suc number) rest stand.1,
  )

  stand_pushes : (number : ℕ) (pieces : List Piece) (stand : AllStand table number pieces) (other : ℕ)
      → body_pushes other (stand_blocks number pieces stand) ≡ piece_pushes other pieces
  stand_pushes number [] stand other = refl
  stand_pushes number (piece ∷ rest) stand other = omega (arith, stand_pushes (suc number) rest stand.1 other)

  stand_count : (number : ℕ) (pieces : List Piece) (stand : AllStand table number pieces)
      → length (stand_blocks number pieces stand) ≡ length pieces
  stand_count number [] stand = refl
  stand_count number (piece ∷ rest) stand = omega (arith, stand_count (suc number) rest stand.1)

  stand_alike : (number : ℕ) (pieces : List Piece) (stand : AllStand table number pieces) (further : ℕ) (piece : Piece)
      → slice_get pieces further ≡ Some piece
      → (block : Block) × (slice_get (stand_blocks number pieces stand) further ≡ Some block)
      × (block.outer ≡ sizes piece.place.names)
  stand_alike number [] stand further piece is = absurd (cc)
  stand_alike number (first ∷ rest) stand zero piece is = (
    record {
      body = record { params = params_count first.tree; temps = temps_count first.tree; code = first.code };
      outer = sizes first.place.names;
      marks = stand.0.whole.marks;
    },
    refl,
    ap (λ (one : Piece). sizes one.place.names) (same_Some _ _ is),
  )
  stand_alike number (first ∷ rest) stand (suc further) piece is =
      stand_alike (suc number) rest stand.1 further piece is

-- ---- where blocks begin

some_code : (table : List Piece) (number : ℕ) (block : Block) → Solid table number block
    → 0 < code_size block.body.code
some_code table number block solid =
    code_some block.body.code (omega (arith, marks_some block.marks solid.first, solid.count))
  where
    marks_some : (marks : List Held) → {held : Held} → slice_get marks 0 ≡ Some held → 0 < length marks
    marks_some [] is = absurd (cc)
    marks_some (first ∷ rest) is = omega arith

    code_some : (code : List Instruction) → 0 < length code → 0 < code_size code
    code_some [] some = absurd (omega arith)
    code_some (one ∷ rest) some = omega arith

ascends : (table : List Piece) (size number start : ℕ) (blocks : List Block) → AllSolid table number blocks
    → size ≡ start + total_size (bodies_in blocks) → ascend size (blocks_of start (bodies_in blocks)) ≡ true
ascends table size number start [] solid is = refl
ascends table size number start (block ∷ later) solid is =
    let next = start + code_size block.body.code in
    let rest : size ≡ next + total_size (bodies_in later) = omega (arith, is) in
    let end : end_of size (blocks_of next (bodies_in later)) ≡ next = end_is size next (bodies_in later) rest in
    let some = some_code table number block solid.0 in
    let above : nat_lt start (end_of size (blocks_of next (bodies_in later))) ≡ true =
    grind (arith, nat_tests, end, some) in
    rw above (ascends table size (suc number) next later solid.1 rest)

-- ---- all together

module _ (tree : Program) (part : Part) (stands : TextStands part tree) where
  abbrev text_block : Block
  text_block = record {
    body = record { params = length tree.params; temps = length tree.temps; code = part.code };
    outer = [];
    marks = stands.whole.marks;
  }

  abbrev pieces : List Block
  pieces = stand_blocks part.pieces 0 part.pieces stands.stand

  abbrev bodies : List Body
  bodies = text_block.body ∷ map piece_body part.pieces

  bodies_same : bodies_in (text_block ∷ pieces) ≡ bodies
  bodies_same =
      ap (λ (others : List Body). text_block.body ∷ others) (stand_bodies part.pieces 0 part.pieces stands.stand)

  solid : AllSolid part.pieces 0 (text_block ∷ pieces)
  solid = (
    record {
      count = stands.whole.count;
      first = stands.whole.first;
      goes = stands.whole.goes;
      later = λ other below. absurd (omega (arith, below));
    },
    stand_solid part.pieces 0 part.pieces stands.stand,
  )

  block_passes : are_small (bodies_in (text_block ∷ pieces)) ≡ true
      → fault_of (bytes_of 0 0 (bodies_in (text_block ∷ pieces))) (all_literals (bodies_in (text_block ∷ pieces)))
      (blocks_of 0 (bodies_in (text_block ∷ pieces))) ≡ None
  block_passes small =
      let own = text_block ∷ pieces in
      let whole = bytes_of 0 0 (bodies_in own) in
      let rows = all_rows 0 0 0 own in
      let parts = and_parts (nat_lt (total_size (bodies_in own)) (2 ^ 32)) (bodies_fit 0 0 (bodies_in own)) small in
      let read = reads_all whole [] 0 0 0 own refl refl parts.1 in
      let size : length whole ≡ 0 + total_size (bodies_in own) = omega (arith, all_length 0 0 (bodies_in own)) in
      let content = text_content part.pieces text_block pieces solid refl
      (λ other. omega (arith, stands.once other, stand_pushes part.pieces 0 part.pieces stands.stand other))
      (stand_count part.pieces 0 part.pieces stands.stand)
      (stand_alike part.pieces 0 part.pieces stands.stand) in
      passes (all_literals (bodies_in own)) (blocks_of 0 (bodies_in own)) (lines_in rows) (marks_in rows) content whole
      (ascends part.pieces (length whole) 0 0 own solid size) read

  part_passes : are_small bodies ≡ true
      → fault_of (bytes_of 0 0 bodies) (all_literals bodies) (blocks_of 0 bodies) ≡ None
  part_passes small =
      subst (λ (all : List Body). are_small all ≡ true
      → fault_of (bytes_of 0 0 all) (all_literals all) (blocks_of 0 all) ≡ None) bodies_same block_passes small

  block_reads : are_small (bodies_in (text_block ∷ pieces)) ≡ true
      → decoded (bytes_of 0 0 (bodies_in (text_block ∷ pieces))) (all_literals (bodies_in (text_block ∷ pieces)))
      (blocks_of 0 (bodies_in (text_block ∷ pieces)))
      ≡ Some (bodies_in (text_block ∷ pieces))
  block_reads small =
      let own = bodies_in (text_block ∷ pieces) in
      reads_back part.pieces (text_block ∷ pieces) solid
      (and_parts (nat_lt (total_size own) (2 ^ 32)) (bodies_fit 0 0 own) small).1

  part_reads : are_small bodies ≡ true
      → decoded (bytes_of 0 0 bodies) (all_literals bodies) (blocks_of 0 bodies) ≡ Some (text_and_blocks tree part)
  part_reads small =
      subst (λ (all : List Body). are_small all ≡ true
      → decoded (bytes_of 0 0 all) (all_literals all) (blocks_of 0 all) ≡ Some (bodies_in (text_block ∷ pieces)))
      bodies_same block_reads small
      ∙ ap (λ (others : List Body). Some (text_block.body ∷ others))
      (stand_read part.pieces 0 part.pieces stands.stand)

pub text_passes : (tree : Program) → text_fits tree ≡ true
    → fault_of (text_bytes tree) (text_literals tree) (text_blocks tree) ≡ None
unfolding text_fits text_bytes text_literals text_blocks
text_passes tree small =
    part_passes tree (text_code_by tree.selector tree 0) (text_stands tree tree.selector) small

text_reads : (tree : Program) → text_fits tree ≡ true
    → decoded (text_bytes tree) (text_literals tree) (text_blocks tree) ≡ Some (text_and_blocks tree (text_code tree 0))
unfolding text_fits text_bytes text_literals text_blocks
text_reads tree small = part_reads tree (text_code_by tree.selector tree 0) (text_stands tree tree.selector) small

pub method_reads : (tree : Program) (selector : Text) → tree.selector ≡ Some selector → text_fits tree ≡ true
    → decoded (text_bytes tree) (text_literals tree) (text_blocks tree)
    ≡ Some (text_and_blocks tree (method_code tree 0))
method_reads tree selector is small =
    text_reads tree small ∙ ap (λ (found : Option Text). Some (text_and_blocks tree (text_code_by found tree 0))) is

pub chunk_reads : (tree : Program) → tree.selector ≡ None → text_fits tree ≡ true
    → decoded (text_bytes tree) (text_literals tree) (text_blocks tree) ≡ Some (text_and_blocks tree (chunk_code tree 0))
chunk_reads tree is small =
    text_reads tree small ∙ ap (λ (found : Option Text). Some (text_and_blocks tree (text_code_by found tree 0))) is

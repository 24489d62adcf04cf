-- Blocks whose instructions go from their start to a return, with all that they push: their bytes pass
-- the check.
use Rattle.std.proofs.Common.{◌≡◌, ◌∙◌, refl, sym, ap, subst, ℕ, zero, suc, ◌+◌, ◌<◌, ◌≤◌, ◌==◌, nat_eq, nat_lt, nat_le, Bool, true, false, not, ◌&&◌, ◌||◌, List, [], ◌∷◌, ◌++◌, length, length-append, append_assoc, replicate, slice_get, Option, Some, None, arith}
use Rattle.std.proofs.lemmas.Bool.{false≢true, eqb-true, eq-eqb}
use Rattle.std.proofs.lemmas.Bool.Decides.{nat_tests}
use Rattle.std.proofs.lemmas.Option.{same_Some}
use Rattle.st_tree.specs.declared.nodes.Literal.{Literal}
use Rattle.st_code.specs.declared.blocks.BlockCode.{BlockCode}
use Rattle.st_code.specs.declared.line.Line.{Line}
use Rattle.st_code.specs.Held.{Held}
use Rattle.st_code.specs.Lines.{Lines, width, is_of}
use Rattle.st_code.specs.Operands.{literal_fits, pushes_block, first_pushes, is_first_push, push_fits, is_pushed, is_start, start_fits, operands_fit}
use Rattle.st_code.specs.Ways.{is_return, jumps, goes_on, takes, puts_going_on, puts_jumping, held_after}
use Rattle.st_code.specs.Faults.{no_pushes, stack_fits}
use Rattle.st_code.specs.Content.{IsMark, start_held, Leads, Content}
use Rattle.st_compiler.specs.Instruction.{Instruction, PushSelf, PushNil, PushTrue, PushFalse, PushLit, MakeLit, PushLocal, StoreLocal, PushName, StoreName, Pop, Dup, Send, SuperSend, PushBlock, ReturnMethod, ReturnHome, ReturnBlock, Jump, JumpBack, JumpTrue, JumpFalse, TakeUnit, Enter, Leave, LoopStart, LoopNext, LoopStep, op_of}
use Rattle.st_compiler.specs.Code.{Piece}
use Rattle.st_compiler.specs.Emitted.{Body}
use Rattle.st_compiler.proofs.Steps.{HasAt, first_has, then_has}
use Rattle.st_encoder.specs.Bytes.{literals_in, literals_of, size_of, code_size, place_at, first_operand, second_operand, all_literals, blocks_of}
use Rattle.st_encoder.proofs.Marks.{sizes, mark, Goes}
use Rattle.st_encoder.proofs.Pushes.{one_if, pushes, pushes_by, within, within_once}
use Rattle.st_encoder.proofs.Pushed.{pushed_by, line_pushes, lines_push, nones_push, first_at, some_pushed}
use Rattle.st_encoder.proofs.Rows.{Row, lines_in, marks_in, place_in, lines_append, get_line, get_mark, stands_at, Each, each_append, each_at, place_has, place_all}
use Rattle.st_encoder.proofs.Reading.{line_for, rows_from, Block, bodies_in, held_in, block_rows, all_rows}
use Rattle.st_encoder.proofs.Good.{To, Pushes, Good, rows_total, to_there, block_good}

-- ---- how often blocks are pushed

same_next : (one two : ℕ) → nat_eq (suc one) (suc two) ≡ nat_eq one two
same_next one two = by (nat_eq one two) refl
  where
    by : (test : Bool) → nat_eq one two ≡ test → nat_eq (suc one) (suc two) ≡ test
    by true is = let same : one ≡ two = eqb-true one two is in eq-eqb (suc one) (suc two) (ap (λ (n : ℕ). suc n) same)
    by false is = grind (arith, nat_tests, is)

line_push : (block start literal : ℕ) (code : List Instruction) (number at : ℕ) (one : Instruction) (other : ℕ)
    → pushed_by (suc other)
    (Some (line_for block at one (first_operand start literal code number one) (second_operand one)))
    ≡ pushes_by other one
line_push block start literal code number at PushSelf other = refl
line_push block start literal code number at PushNil other = refl
line_push block start literal code number at PushTrue other = refl
line_push block start literal code number at PushFalse other = refl
line_push block start literal code number at (PushLit answer) other = refl
line_push block start literal code number at (MakeLit tree) other = refl
line_push block start literal code number at (PushLocal depth index) other = refl
line_push block start literal code number at (StoreLocal depth index) other = refl
line_push block start literal code number at (PushName name) other = refl
line_push block start literal code number at (StoreName name) other = refl
line_push block start literal code number at Pop other = refl
line_push block start literal code number at Dup other = refl
line_push block start literal code number at (Send selector count) other = refl
line_push block start literal code number at (SuperSend selector count) other = refl
line_push block start literal code number at (PushBlock pushed) other = ap one_if (same_next pushed other)
line_push block start literal code number at ReturnMethod other = refl
line_push block start literal code number at ReturnHome other = refl
line_push block start literal code number at ReturnBlock other = refl
line_push block start literal code number at (Jump ahead) other = refl
line_push block start literal code number at (JumpBack behind) other = refl
line_push block start literal code number at (JumpTrue ahead) other = refl
line_push block start literal code number at (JumpFalse ahead) other = refl
line_push block start literal code number at TakeUnit other = refl
line_push block start literal code number at (Enter count) other = refl
line_push block start literal code number at Leave other = refl
line_push block start literal code number at LoopStart other = refl
line_push block start literal code number at (LoopNext ahead) other = refl
line_push block start literal code number at (LoopStep behind) other = refl

module _ (block start : ℕ) (code : List Instruction) (held_at : ℕ → Held) where
  rows_push : (literal number at : ℕ) (rest : List Instruction) (other : ℕ)
      → line_pushes (suc other) (lines_in (rows_from block start code held_at literal number at rest)) ≡ pushes other rest
  rows_push literal number at [] other = refl
  rows_push literal number at (one ∷ rest) other =
      let more = width (op_of one) 0 + width (op_of one) 1 in
      let later = lines_in (rows_from block start code held_at (literal + length (literals_in one)) (suc number)
      (at + size_of one) rest) in
      omega (
        arith,
        line_push block start literal code number at one other,
        lines_push (suc other) (replicate more None) later,
        nones_push (suc other) more,
        rows_push (literal + length (literals_in one)) (suc number) (at + size_of one) rest other,
      )

  rows_number : (from literal number at : ℕ) (rest : List Instruction) (total : ℕ) → block < total
      → Each (λ number row. row.line.block < total) from (rows_from block start code held_at literal number at rest)
  rows_number from literal number at [] total below = tt
  rows_number from literal number at (one ∷ rest) total below =
      (below, rows_number (suc from) (literal + length (literals_in one)) (suc number) (at + size_of one) rest total below)

abbrev pub body_pushes : ℕ → List Block → ℕ
body_pushes other [] = 0
body_pushes other (block ∷ rest) = pushes other block.body.code + body_pushes other rest

all_push : (number start literal : ℕ) (blocks : List Block) (other : ℕ)
    → line_pushes (suc other) (lines_in (all_rows number start literal blocks)) ≡ body_pushes other blocks
all_push number start literal [] other = refl
all_push number start literal (block ∷ later) other =
    let own = block_rows number start literal block in
    let next = start + code_size block.body.code in
    let literals = literal + length (literals_of block.body.code) in
    let rest = all_rows (suc number) next literals later in
    let joined : line_pushes (suc other) (lines_in (own ++ rest)) ≡ line_pushes (suc other) (lines_in own ++ lines_in rest) =
    ap (λ (lines : Lines). line_pushes (suc other) lines) (lines_append own rest) in
    omega (
      arith,
      joined,
      lines_push (suc other) (lines_in own) (lines_in rest),
      rows_push number start block.body.code (held_in block.marks) literal 0 start block.body.code other,
      all_push (suc number) next literals later other,
    )

all_number : (from number start literal : ℕ) (blocks : List Block) (total : ℕ) → number + length blocks ≤ total
    → Each (λ number row. row.line.block < total) from (all_rows number start literal blocks)
all_number from number start literal [] total few = tt
all_number from number start literal (block ∷ later) total few =
    let own = block_rows number start literal block in
    let next = start + code_size block.body.code in
    let literals = literal + length (literals_of block.body.code) in
    each_append (λ number row. row.line.block < total) from own (all_rows (suc number) next literals later)
    (rows_number number start block.body.code (held_in block.marks) from literal 0 start block.body.code total
    (omega (arith, few)))
    (all_number (from + length own) (suc number) next literals later total (omega (arith, few)))

-- ---- blocks

pub record Solid (table : List Piece) (number : ℕ) (block : Block) : Type 0 where
  pub count : length block.marks ≡ length block.body.code
  pub first : slice_get block.marks 0
      ≡ Some (mark 0 ((block.body.params + block.body.temps) ∷ block.outer) (suc (length block.outer)))
  pub goes : Goes table block.marks 0 block.body.code
  pub later : (other : ℕ) → other < number → pushes other block.body.code ≡ 0

abbrev pub AllSolid : List Piece → (number : ℕ) → List Block → Type 0
AllSolid table number [] = Unit {0}
AllSolid table number (block ∷ rest) = Solid table number block × AllSolid table (suc number) rest

module _ (table : List Piece) (all : List Row) (literals : List Literal) where
  abbrev GoodRow : ℕ → Row → Type 0
  GoodRow number row = Good table all literals row.line row.held

  next_place : (number start literal base : ℕ) (block : Block) → HasAt all base (block_rows number start literal block)
      → place_in all base ≡ start
      → place_in all (base + length (block_rows number start literal block)) ≡ start + code_size block.body.code
  next_place number start literal base block has at_start =
      let rows = block_rows number start literal block in
      omega (
        arith,
        place_has all base rows (length rows) has (omega arith),
        at_start,
        place_all rows,
        rows_total number start block.body.code (held_in block.marks) literal 0 start block.body.code,
      )

  each_block : (number start literal base : ℕ) (blocks : List Block) → AllSolid table number blocks
      → HasAt all base (all_rows number start literal blocks) → place_in all base ≡ start
      → HasAt literals literal (all_literals (bodies_in blocks))
      → Each GoodRow base (all_rows number start literal blocks)
  each_block number start literal base [] solid has at_start lits = tt
  each_block number start literal base (block ∷ later) solid has at_start lits =
      let own = block_rows number start literal block in
      let next = start + code_size block.body.code in
      let behind = literal + length (literals_of block.body.code) in
      let rest = all_rows (suc number) next behind later in
      let own_has = first_has all base own rest has in
      each_append GoodRow base own rest
      (block_good table all literals number start base literal block.body.code block.marks solid.0.count own_has at_start
      solid.0.later base solid.0.goes
      (first_has literals literal (literals_of block.body.code) (all_literals (bodies_in later)) lits))
      (each_block (suc number) next behind (base + length own) later solid.1 (then_has all base own rest has)
      (next_place number start literal base block own_has at_start)
      (then_has literals literal (literals_of block.body.code) (all_literals (bodies_in later)) lits))

  -- where a block stands
  record Context (codes : List BlockCode) (number : ℕ) (block : Block) : Type 0 where
    base : ℕ
    start : ℕ
    literal : ℕ
    has : HasAt all base (block_rows number start literal block)
    at_start : place_in all base ≡ start
    code_at : slice_get codes number
        ≡ Some (record { start = start; params = block.body.params; temps = block.body.temps })
    solid : Solid table number block

  context_at : (codes : List BlockCode) (number start literal base : ℕ) (blocks : List Block)
      → AllSolid table number blocks → HasAt all base (all_rows number start literal blocks)
      → place_in all base ≡ start → HasAt codes number (blocks_of start (bodies_in blocks))
      → (further : ℕ) (block : Block) → slice_get blocks further ≡ Some block
      → Context codes (number + further) block
  context_at codes number start literal base [] solid has at_start code_has further block is = absurd (cc)
  context_at codes number start literal base (first ∷ later) solid has at_start code_has zero block is =
      let same : number ≡ number + 0 = omega arith in
      subst (λ (n : ℕ). Context codes n block) same
      (subst (λ (one : Block). Context codes number one) (same_Some _ _ is)
      (record {
        base = base;
        start = start;
        literal = literal;
        has = first_has all base (block_rows number start literal first)
            (all_rows (suc number) (start + code_size first.body.code)
            (literal + length (literals_of first.body.code)) later) has;
        at_start = at_start;
        code_at = code_has.0;
        solid = solid.0;
      }))
  context_at codes number start literal base (first ∷ later) solid has at_start code_has (suc further) block is =
      let own = block_rows number start literal first in
      let next = start + code_size first.body.code in
      let behind = literal + length (literals_of first.body.code) in
      let rest = all_rows (suc number) next behind later in
      let same : suc number + further ≡ number + suc further = omega arith in
      subst (λ (n : ℕ). Context codes n block) same
      (context_at codes (suc number) next behind (base + length own) later solid.1 (then_has all base own rest has)
      (next_place number start literal base first (first_has all base own rest has) at_start) code_has.1 further block is)

  -- ---- what stands at a place

  to_mark : (place block : ℕ) (held : Held) → To all place block held → IsMark (marks_in all) place held
  to_mark place block held to =
      let there : slice_get (marks_in all) place ≡ Some to.row.held =
      subst (λ (n : ℕ). slice_get (marks_in all) n ≡ Some to.row.held) to.at (get_mark all to.number to.row to.here) in
      there ∙ ap (λ (h : Held). Some h) to.brings

  to_line : (place block : ℕ) (held : Held) → To all place block held
      → is_of block (slice_get (lines_in all) place) ≡ true
  to_line place block held to =
      let there : slice_get (lines_in all) place ≡ Some (Some to.row.line) =
      subst (λ (n : ℕ). slice_get (lines_in all) n ≡ Some (Some to.row.line)) to.at
      (get_line all to.number to.row to.here) in
      ap (λ (found : Option (Option Line)). is_of block found) there
      ∙ eq-eqb to.row.line.block block to.in_block

  start_is : (codes : List BlockCode) (number : ℕ) (block : Block) (context : Context codes number block)
      → IsMark (marks_in all) context.start
      (mark 0 ((block.body.params + block.body.temps) ∷ block.outer) (suc (length block.outer)))
  start_is codes number block context =
      let begins = mark 0 ((block.body.params + block.body.temps) ∷ block.outer) (suc (length block.outer)) in
      let here : place_at context.start block.body.code 0 ≡ context.start = omega arith in
      subst (λ (n : ℕ). IsMark (marks_in all) n begins) here
      (to_mark (place_at context.start block.body.code 0) number begins
      (to_there table all literals number context.start context.base context.literal block.body.code block.marks
      context.solid.count context.has context.at_start context.solid.later 0 begins context.solid.first))

-- ---- tests

both_true : (one two : Bool) → one ≡ true → two ≡ true → (one && two) ≡ true
both_true true two first second = second
both_true false two first second = absurd (false≢true first)

unless_true : (test other : Bool) → (test ≡ true → other ≡ true) → (not test || other) ≡ true
unless_true true other so = so refl
unless_true false other so = refl

last_true : (one two three : Bool) → three ≡ true → (one || two || three) ≡ true
last_true true two three is = refl
last_true false true three is = refl
last_true false false three is = is

first_true : (one two three : Bool) → one ≡ true → (one || two || three) ≡ true
first_true true two three is = refl
first_true false two three is = absurd (false≢true is)

none_yet : (count at : ℕ) → at < count → slice_get (replicate {A = Option ℕ} count None) at ≡ Some None
none_yet zero at below = absurd (omega arith)
none_yet (suc count) zero below = refl
none_yet (suc count) (suc at) below = none_yet count at (omega arith)

codes_length : (start : ℕ) (bodies : List Body) → length (blocks_of start bodies) ≡ length bodies
codes_length start [] = refl
codes_length start (body ∷ later) = omega (arith, codes_length (start + code_size body.code) later)

bodies_length : (blocks : List Block) → length (bodies_in blocks) ≡ length blocks
bodies_length [] = refl
bodies_length (block ∷ rest) = omega (arith, bodies_length rest)

get_lt : {A : Type 0} (xs : List A) (at : ℕ) (x : A) → slice_get xs at ≡ Some x → at < length xs
get_lt [] at x is = absurd (cc)
get_lt (first ∷ rest) zero x is = omega arith
get_lt (first ∷ rest) (suc at) x is = omega (arith, get_lt rest at x is)

at_end : {A : Type 0} (before : List A) (one : A) (after : List A)
    → slice_get (before ++ (one ∷ after)) (length before) ≡ Some one
at_end [] one after = refl
at_end (first ∷ before) one after = at_end before one after

has_behind : {A : Type 0} (front back : List A) → HasAt (front ++ back) (length front) back
has_behind front [] = tt
has_behind {A = A} front (one ∷ back) =
    let moved : (front ++ one ∷ []) ++ back ≡ front ++ (one ∷ back) = append_assoc front (one ∷ []) back in
    let further : length (front ++ one ∷ []) ≡ suc (length front) = omega (arith, length-append front (one ∷ [])) in (
      at_end front one back,
      subst (λ (n : ℕ). HasAt (front ++ (one ∷ back)) n back) further
          (subst (λ (whole : List A). HasAt whole (length (front ++ one ∷ [])) back) moved
          (has_behind (front ++ one ∷ []) back)),
    )

pub has_self : {A : Type 0} (xs : List A) → HasAt xs 0 xs
has_self xs = has_behind [] xs

-- ---- a text: its own block, and one for each that is pushed

module _ (table : List Piece) (text : Block) (pieces : List Block) (solid : AllSolid table 0 (text ∷ pieces))
    (outermost : text.outer ≡ [])
    (once : (other : ℕ) → body_pushes other (text ∷ pieces) ≡ within 0 (length table) other)
    (counts : length pieces ≡ length table)
    (alike : (number : ℕ) (piece : Piece) → slice_get table number ≡ Some piece
    → (block : Block) × (slice_get pieces number ≡ Some block) × (block.outer ≡ sizes piece.place.names)) where
  abbrev blocks : List Block
  blocks = text ∷ pieces

  abbrev all : List Row
  all = all_rows 0 0 0 blocks

  abbrev codes : List BlockCode
  codes = blocks_of 0 (bodies_in blocks)

  abbrev literals : List Literal
  literals = all_literals (bodies_in blocks)

  abbrev lines : Lines
  lines = lines_in all

  abbrev marks : List Held
  marks = marks_in all

  abbrev pushed : List (Option ℕ)
  pushed = first_pushes 0 lines (no_pushes codes)

  rows_good : Each (GoodRow table all literals) 0 all
  rows_good = each_block table all literals 0 0 0 0 blocks solid (has_self all) refl (has_self literals)

  rows_below : Each (λ number row. row.line.block < length blocks) 0 all
  rows_below = all_number 0 0 0 0 blocks (length blocks) (omega arith)

  block_at : (number : ℕ) (block : Block) → slice_get blocks number ≡ Some block
      → Context table all literals codes number block
  block_at number block is =
      let same : 0 + number ≡ number = omega arith in
      subst (λ (n : ℕ). Context table all literals codes n block) same
      (context_at table all literals codes 0 0 0 0 blocks solid (has_self all) refl (has_self codes) number block is)

  -- an instruction with what is brought to it
  record Here (at : ℕ) (line : Line) : Type 0 where
    held : Held
    is_mark : IsMark marks at held
    good : Good table all literals line held
    below : line.block < length blocks

  here_at : (at : ℕ) (line : Line) → slice_get lines at ≡ Some (Some line) → Here at line
  here_at at line there =
      let stands = stands_at all at line there in
      let row = stands.row in
      record {
        held = row.held;
        is_mark = subst (λ (n : ℕ). IsMark marks n row.held) (sym stands.place) (get_mark all stands.number row stands.here);
        good = subst (λ (l : Line). Good table all literals l row.held) stands.is
            (each_at (GoodRow table all literals) all rows_good stands.number row stands.here);
        below = subst (λ (l : Line). l.block < length blocks) stands.is
            (each_at (λ number row. row.line.block < length blocks) all rows_below stands.number row stands.here);
      }

  good_at : (at : ℕ) (line : Line) (held : Held) → slice_get lines at ≡ Some (Some line) → IsMark marks at held
      → Good table all literals line held
  good_at at line held there is =
      let here = here_at at line there in
      let same : Some here.held ≡ Some held = sym here.is_mark ∙ is in
      subst (λ (h : Held). Good table all literals line h) (same_Some _ _ same) here.good

  -- ---- each block is pushed once

  codes_count : length codes ≡ suc (length table)
  codes_count = omega (arith, codes_length 0 (bodies_in blocks), bodies_length blocks, counts)

  pushed_once : (other : ℕ) → other < length table → line_pushes (suc other) lines ≡ 1
  pushed_once other below =
      omega (
        arith,
        all_push 0 0 0 blocks other,
        once other,
        within_once 0 (length table) other (omega arith) (omega (arith, below)),
      )

  not_yet : (other : ℕ) → other < length table → slice_get (no_pushes codes) (suc other) ≡ Some None
  not_yet other below = none_yet (length codes) (suc other) (omega (arith, codes_count, below))

  block_pushed : (block : ℕ) → block < length blocks → (block ≡ 0 → ⊥) → is_pushed (slice_get pushed block) ≡ true
  block_pushed zero below other = absurd (other refl)
  block_pushed (suc block) below other =
      some_pushed (suc block) 0 lines (no_pushes codes) (not_yet block (omega (arith, below, counts)))
      (pushed_once block (omega (arith, below, counts)))

  push_is_first : (at : ℕ) (line : Line) (scopes : List ℕ) → slice_get lines at ≡ Some (Some line)
      → pushes_block line.row.op ≡ true → Pushes table line.first line.block scopes
      → (nat_lt line.block line.first && is_first_push at (slice_get pushed line.first)) ≡ true
  push_is_first at line scopes there does push =
      let below : push.block < length table = get_lt table push.block push.piece push.there in
      let same : nat_eq line.first (suc push.block) ≡ true = eq-eqb line.first (suc push.block) push.is in
      let one : pushed_by (suc push.block) (Some line) ≡ 1 = ap one_if (both_true _ _ does same) in
      let found : slice_get pushed (suc push.block) ≡ Some (Some (0 + at)) =
      first_at (suc push.block) 0 lines (no_pushes codes) at line (not_yet push.block below) there one
      (pushed_once push.block below) in
      let here : slice_get pushed line.first ≡ Some (Some (0 + at)) =
      subst (λ (n : ℕ). slice_get pushed n ≡ Some (Some (0 + at))) (sym push.is) found in
      let earlier : nat_lt line.block line.first ≡ true = grind (arith, nat_tests, push.is, push.later) in
      let at_same : nat_eq (0 + at) at ≡ true = eq-eqb (0 + at) at (omega arith) in
      both_true (nat_lt line.block line.first) (is_first_push at (slice_get pushed line.first)) earlier
      (ap (λ (one : Option (Option ℕ)). is_first_push at one) here ∙ at_same)

  operands_are : (at : ℕ) (line : Line) → slice_get lines at ≡ Some (Some line)
      → operands_fit literals codes pushed at line ≡ true
  operands_are at line there =
      let here = here_at at line there in
      both_true
      (literal_fits line.row.op (slice_get literals line.first) && push_fits at line pushed)
      (start_fits at line codes pushed)
      (both_true (literal_fits line.row.op (slice_get literals line.first)) (push_fits at line pushed) here.good.literal
      (unless_true (pushes_block line.row.op)
      (nat_lt line.block line.first && is_first_push at (slice_get pushed line.first))
      (λ does. push_is_first at line here.held.scopes there does (here.good.push does))))
      (by (nat_eq line.block 0) refl here.below)
    where
      by : (test : Bool) → nat_eq line.block 0 ≡ test → line.block < length blocks
          → start_fits at line codes pushed ≡ true
      by true is below =
          first_true (line.block == 0) (not (is_start at (slice_get codes line.block)))
          (is_pushed (slice_get pushed line.block)) is
      by false is below =
          last_true (line.block == 0) (not (is_start at (slice_get codes line.block)))
          (is_pushed (slice_get pushed line.block))
          (block_pushed line.block below (λ none. false≢true (sym is ∙ eq-eqb line.block 0 none)))

  -- ---- the other rules

  jumps_land : (at : ℕ) (line : Line) → slice_get lines at ≡ Some (Some line) → jumps line.row.op ≡ true
      → is_of line.block (slice_get lines line.first) ≡ true
  jumps_land at line there does =
      let here = here_at at line there in
      to_line table all literals line.first line.block (held_after line (puts_jumping line.row.op line.row.pushes) here.held)
      (here.good.jump does)

  stack_is : (at : ℕ) (line : Line) (held : Held) → slice_get lines at ≡ Some (Some line) → IsMark marks at held
      → stack_fits lines line held.height ≡ true
  stack_is at line held there is =
      let good = good_at at line held there is in
      both_true
      (nat_le (takes line) held.height && (not (is_return line.row.op) || held.height == 1))
      (not (goes_on line.row.op) || is_of line.block (slice_get lines line.next))
      (both_true (nat_le (takes line) held.height) (not (is_return line.row.op) || held.height == 1) good.takes_few
      (unless_true (is_return line.row.op) (held.height == 1) good.single))
      (unless_true (goes_on line.row.op) (is_of line.block (slice_get lines line.next))
      (λ does. to_line table all literals line.next line.block
      (held_after line (puts_going_on line.row.op line.row.pushes) held) (good.next does)))

  -- the start of a block that is pushed
  start_there : (line : Line) (held : Held) (code : BlockCode) → Pushes table line.first line.block held.scopes
      → slice_get codes line.first ≡ Some code → IsMark marks code.start (start_held held.scopes code)
  start_there line held code push found =
      let other = alike push.block push.piece push.there in
      let block = other.0 in
      let context = block_at (suc push.block) block other.1 in
      let code_is : Some code ≡ Some (record {
        start = context.start;
        params = block.body.params;
        temps = block.body.temps;
      }) =
      sym (subst (λ (n : ℕ). slice_get codes n ≡ Some code) push.is found) ∙ context.code_at in
      let scopes : block.outer ≡ held.scopes = other.2 ∙ push.around in
      let there : IsMark marks context.start
      (mark 0 ((block.body.params + block.body.temps) ∷ held.scopes) (suc (length held.scopes))) =
      subst (λ (outer : List ℕ). IsMark marks context.start
      (mark 0 ((block.body.params + block.body.temps) ∷ outer) (suc (length outer)))) scopes
      (start_is table all literals codes (suc push.block) block context) in
      subst (λ (one : BlockCode). IsMark marks one.start (start_held held.scopes one)) (sym (same_Some _ _ code_is)) there

  leads : (at : ℕ) (line : Line) (held : Held) → slice_get lines at ≡ Some (Some line) → IsMark marks at held
      → Leads codes marks line held
  leads at line held there is =
      let good = good_at at line held there is in
      record {
        next = λ does.
            to_mark table all literals line.next line.block
            (held_after line (puts_going_on line.row.op line.row.pushes) held) (good.next does);
        target = λ does.
            to_mark table all literals line.first line.block
            (held_after line (puts_jumping line.row.op line.row.pushes) held) (good.jump does);
        pushed = λ does code found. start_there line held code (good.push does) found;
      }

  first_there : (code : BlockCode) → slice_get codes 0 ≡ Some code → IsMark marks code.start (start_held [] code)
  first_there code found =
      let context = block_at 0 text refl in
      let code_is : Some code ≡ Some (record {
        start = context.start;
        params = text.body.params;
        temps = text.body.temps;
      }) =
      sym found ∙ context.code_at in
      let begins : IsMark marks context.start (mark 0 ((text.body.params + text.body.temps) ∷ []) (suc 0)) =
      subst (λ (outer : List ℕ). IsMark marks context.start
      (mark 0 ((text.body.params + text.body.temps) ∷ outer) (suc (length outer)))) outermost
      (start_is table all literals codes 0 text context) in
      subst (λ (one : BlockCode). IsMark marks one.start (start_held [] one)) (sym (same_Some _ _ code_is)) begins

  pub text_content : Content literals codes lines marks
  text_content = record {
    start = first_there;
    jump = jumps_land;
    operands = operands_are;
    scopes = λ at line held there is. (good_at at line held there is).scopes;
    stack = stack_is;
    leads = leads;
  }

-- Each instruction of a block is content with what every way brings to it.
use Rattle.std.proofs.Common.{◌≡◌, ◌∙◌, refl, sym, ap, subst, ℕ, zero, suc, ◌+◌, ◌-◌, ◌<◌, ◌≤◌, nat_eq, nat_lt, nat_le, Bool, true, false, not, List, [], ◌∷◌, ◌++◌, length, length-append, append_assoc, drop, take, slice_get, Option, Some, arith}
use Rattle.std.proofs.lemmas.Bool.{false≢true, eq-eqb}
use Rattle.std.proofs.lemmas.Bool.Decides.{nat_tests}
use Rattle.std.proofs.lemmas.Option.{same_Some}
use Rattle.op_table.specs.Ops.{row_for}
use Rattle.st_tree.specs.declared.nodes.Literal.{Literal}
use Rattle.gem_object.specs.declared.value.Value.{Value}
use Rattle.gem_object.specs.declared.value.Value.TheVariants as value
use Rattle.st_code.specs.Held.{Held}
use Rattle.st_code.specs.declared.line.Line.{Line}
use Rattle.st_code.specs.Lines.{width}
use Rattle.st_code.specs.Operands.{is_new, pushes_block, literal_fits}
use Rattle.st_code.specs.Ways.{is_return, jumps, goes_on, takes, puts_going_on, puts_jumping, held_after}
use Rattle.st_code.specs.Faults.{scopes_fit}
use Rattle.st_compiler.specs.Instruction.{Instruction, PushSelf, PushNil, PushTrue, PushFalse, PushLit, MakeLit, PushLocal, StoreLocal, PushName, StoreName, Pop, Dup, Send, SuperSend, PushBlock, ReturnMethod, ReturnHome, ReturnBlock, Jump, JumpBack, JumpTrue, JumpFalse, TakeUnit, Enter, Leave, LoopStart, LoopNext, LoopStep, op_of}
use Rattle.st_compiler.specs.Code.{Piece}
use Rattle.st_compiler.proofs.Steps.{HasAt, first_has, then_has}
use Rattle.st_encoder.specs.Bytes.{value_literal, constant_literal, literals_in, literals_of, size_of, code_size, place_at, first_operand, second_operand}
use Rattle.st_encoder.proofs.Marks.{sizes, mark, Does, Goes}
use Rattle.st_encoder.proofs.Pushes.{pushes, pushes_by, one_if}
use Rattle.st_encoder.proofs.Rows.{Row, place_in, rows_size, Each, get_has, place_has}
use Rattle.st_encoder.proofs.Reading.{line_for, rows_from, held_in}

-- An instruction of a block stands at this place, and this is what every way brings to it.
pub record To (all : List Row) (place block : ℕ) (held : Held) : Type 0 where
  pub number : ℕ
  pub row : Row
  pub here : slice_get all number ≡ Some row
  pub at : place_in all number ≡ place
  pub in_block : row.line.block ≡ block
  pub brings : row.held ≡ held

-- A block that is pushed: its number, and what is open around it.
pub record Pushes (table : List Piece) (number own : ℕ) (scopes : List ℕ) : Type 0 where
  pub block : ℕ
  pub is : number ≡ suc block
  pub later : own ≤ block
  pub piece : Piece
  pub there : slice_get table block ≡ Some piece
  pub around : sizes piece.place.names ≡ scopes

pub record Good (table : List Piece) (all : List Row) (literals : List Literal) (line : Line) (held : Held) : Type 0 where
  pub literal : literal_fits line.row.op (slice_get literals line.first) ≡ true
  pub push : pushes_block line.row.op ≡ true → Pushes table line.first line.block held.scopes
  pub scopes : scopes_fit line.row.op line.first line.second held ≡ true
  pub takes_few : nat_le (takes line) held.height ≡ true
  pub single : is_return line.row.op ≡ true → nat_eq held.height 1 ≡ true
  pub next : goes_on line.row.op ≡ true
      → To all line.next line.block (held_after line (puts_going_on line.row.op line.row.pushes) held)
  pub jump : jumps line.row.op ≡ true
      → To all line.first line.block (held_after line (puts_jumping line.row.op line.row.pushes) held)

few : (count height : ℕ) → count ≤ height → nat_le count height ≡ true
few count height below = grind (arith, nat_tests, below)

value_old : (answer : Value) → not (is_new (value_literal answer)) ≡ true
value_old (value.Int number) = refl
value_old (value.Char code) = refl
value_old (value.Sym bytes) = refl
value_old value.Nil = refl
value_old value.True = refl
value_old value.False = refl
value_old (value.Ref oid) = refl
value_old (value.Block block) = refl

-- ---- lists

pub get_lt : {A : Type 0} (xs : List A) (at : ℕ) (x : A) → slice_get xs at ≡ Some x → at < length xs
get_lt [] at x is = absurd (cc)
get_lt (first ∷ rest) zero x is = omega arith
get_lt (first ∷ rest) (suc at) x is = omega (arith, get_lt rest at x is)

lt_get : {A : Type 0} (xs : List A) (at : ℕ) → at < length xs → (x : A) × (slice_get xs at ≡ Some x)
lt_get [] at within = absurd (omega arith)
lt_get (first ∷ rest) zero within = (first, refl)
lt_get (first ∷ rest) (suc at) within = lt_get rest at (omega arith)

held_is : (marks : List Held) (number : ℕ) (own : Held) → slice_get marks number ≡ Some own
    → held_in marks number ≡ own
held_is [] number own is = absurd (cc)
held_is (first ∷ rest) zero own is = same_Some _ _ is
held_is (first ∷ rest) (suc number) own is = held_is rest number own is

pub size_next : (code : List Instruction) (number : ℕ) (one : Instruction) → slice_get code number ≡ Some one
    → code_size (take (suc number) code) ≡ code_size (take number code) + size_of one
size_next [] number one is = absurd (cc)
size_next (first ∷ rest) zero one is =
    let same : size_of first ≡ size_of one = ap size_of (same_Some _ _ is) in omega (arith, same)
size_next (first ∷ rest) (suc number) one is = omega (arith, size_next rest number one is)

pub push_counted : (code : List Instruction) (number block : ℕ) → slice_get code number ≡ Some (PushBlock block)
    → nat_eq block block ≡ true → 1 ≤ pushes block code
push_counted [] number block is same = absurd (cc)
push_counted (first ∷ rest) zero block is same =
    let here : pushes_by block first ≡ one_if (nat_eq block block) = ap (λ one. pushes_by block one) (same_Some _ _ is) in
    let one : one_if (nat_eq block block) ≡ 1 = ap one_if same in
    omega (arith, here, one)
push_counted (first ∷ rest) (suc number) block is same = omega (arith, push_counted rest number block is same)

at_end : (before : List Instruction) (one : Instruction) (after : List Instruction)
    → slice_get (before ++ (one ∷ after)) (length before) ≡ Some one
at_end [] one after = refl
at_end (first ∷ before) one after = at_end before one after

has_behind : (front back : List Instruction) → HasAt (front ++ back) (length front) back
has_behind front [] = tt
has_behind front (one ∷ back) =
    let moved : (front ++ one ∷ []) ++ back ≡ front ++ (one ∷ back) = append_assoc front (one ∷ []) back in
    let further : length (front ++ one ∷ []) ≡ suc (length front) = omega (arith, length-append front (one ∷ [])) in (
      at_end front one back,
      subst (λ (n : ℕ). HasAt (front ++ (one ∷ back)) n back) further
          (subst (λ (whole : List Instruction). HasAt whole (length (front ++ one ∷ [])) back) moved
          (has_behind (front ++ one ∷ []) back)),
    )

-- ---- rows of a block

module _ (block start : ℕ) (code : List Instruction) (held_at : ℕ → Held) where
  rows_get : (literal number at : ℕ) (rest : List Instruction) (further : ℕ) (one : Instruction)
      → slice_get rest further ≡ Some one
      → (row : Row) × (slice_get (rows_from block start code held_at literal number at rest) further ≡ Some row)
      × (row.line.block ≡ block) × (row.held ≡ held_at (number + further))
  rows_get literal number at [] further one is = absurd (cc)
  rows_get literal number at (first ∷ rest) zero one is =
      let same : number ≡ number + 0 = omega arith in (
        record {
          line = line_for block at first (first_operand start literal code number first) (second_operand first);
          more = width (op_of first) 0 + width (op_of first) 1;
          held = held_at number;
        },
        refl,
        refl,
        ap held_at same,
      )
  rows_get literal number at (first ∷ rest) (suc further) one is =
      let found = rows_get (literal + length (literals_in first)) (suc number) (at + size_of first) rest further one is in
      let same : suc number + further ≡ number + suc further = omega arith in
      (found.0, found.1, found.2, found.3 ∙ ap held_at same)

  pub rows_place : (literal number at : ℕ) (rest : List Instruction) (further : ℕ) → further ≤ length rest
      → place_in (rows_from block start code held_at literal number at rest) further ≡ code_size (take further rest)
  rows_place literal number at rest zero within = refl
  rows_place literal number at [] (suc further) within = absurd (omega (arith, within))
  rows_place literal number at (first ∷ rest) (suc further) within =
      omega (
        arith,
        rows_place (literal + length (literals_in first)) (suc number) (at + size_of first) rest further
            (omega (arith, within)),
      )

  pub rows_total : (literal number at : ℕ) (rest : List Instruction)
      → rows_size (rows_from block start code held_at literal number at rest) ≡ code_size rest
  rows_total literal number at [] = refl
  rows_total literal number at (first ∷ rest) =
      omega (arith, rows_total (literal + length (literals_in first)) (suc number) (at + size_of first) rest)

  pub rows_count : (literal number at : ℕ) (rest : List Instruction)
      → length (rows_from block start code held_at literal number at rest) ≡ length rest
  rows_count literal number at [] = refl
  rows_count literal number at (first ∷ rest) =
      omega (arith, rows_count (literal + length (literals_in first)) (suc number) (at + size_of first) rest)

-- ---- each instruction

module _ (table : List Piece) (all : List Row) (literals : List Literal) (block start base literal : ℕ)
    (code : List Instruction) (marks : List Held) (count : length marks ≡ length code)
    (has : HasAt all base (rows_from block start code (held_in marks) literal 0 start code))
    (at_start : place_in all base ≡ start)
    (later : (other : ℕ) → other < block → pushes other code ≡ 0) where
  -- what stands at an instruction of the block
  pub to_there : (number : ℕ) (held : Held) → slice_get marks number ≡ Some held
      → To all (place_at start code number) block held
  to_there number held is =
      let rows = rows_from block start code (held_in marks) literal 0 start code in
      let within : number < length code = omega (arith, get_lt marks number held is, count) in
      let one = lt_get code number within in
      let found = rows_get block start code (held_in marks) literal 0 start code number one.0 one.1 in
      let none : 0 + number ≡ number = omega arith in
      record {
        number = base + number;
        row = found.0;
        here = get_has all base rows number found.0 has found.1;
        at = place_has all base rows number has
            (omega (arith, within, rows_count block start code (held_in marks) literal 0 start code))
            ∙ ap (λ (n : ℕ). n + place_in rows number) at_start
            ∙ ap (λ (n : ℕ). start + n)
            (rows_place block start code (held_in marks) literal 0 start code number (omega (arith, within)));
        in_block = found.2;
        brings = found.3 ∙ ap (λ (n : ℕ). held_in marks n) none ∙ held_is marks number held is;
      }

  to_same : (place other : ℕ) (held : Held) → place ≡ other → To all place block held → To all other block held
  to_same place other held same = subst (λ (n : ℕ). To all n block held) same

  same_held : (number height other : ℕ) (scopes : List ℕ) (around : ℕ) → height ≡ other
      → slice_get marks number ≡ Some (mark height scopes around)
      → slice_get marks number ≡ Some (mark other scopes around)
  same_held number height other scopes around same is =
      is ∙ ap (λ (n : ℕ). Some (mark n scopes around)) same

  module _ (number at at_literal : ℕ) (one : Instruction) (own : Held)
      (here : slice_get code number ≡ Some one) (place : at ≡ place_at start code number) where
    abbrev line : Line
    line = line_for block at one (first_operand start at_literal code number one) (second_operand one)

    abbrev IsGood : Type 0
    IsGood = Good table all literals line own

    next_to : (held : Held) → slice_get marks (suc number) ≡ Some held → To all line.next block held
    next_to held is =
        to_same (place_at start code (suc number)) line.next held
        (omega (arith, size_next code number one here, place)) (to_there (suc number) held is)

    -- one that goes on alone
    plain : literal_fits line.row.op (slice_get literals line.first) ≡ true
        → scopes_fit line.row.op line.first line.second own ≡ true → takes line ≤ own.height
        → pushes_block line.row.op ≡ false → is_return line.row.op ≡ false → jumps line.row.op ≡ false
        → slice_get marks (suc number)
        ≡ Some (held_after line (puts_going_on line.row.op line.row.pushes) own)
        → IsGood
    plain literal_is scopes_are enough no_push no_return no_jump next = record {
      literal = literal_is;
      push = λ is. absurd (false≢true (sym no_push ∙ is));
      scopes = scopes_are;
      takes_few = few (takes line) own.height enough;
      single = λ is. absurd (false≢true (sym no_return ∙ is));
      next = λ is. next_to (held_after line (puts_going_on line.row.op line.row.pushes) own) next;
      jump = λ is. absurd (false≢true (sym no_jump ∙ is));
    }

    leaves : literal_fits line.row.op (slice_get literals line.first) ≡ true
        → scopes_fit line.row.op line.first line.second own ≡ true → takes line ≤ 1
        → pushes_block line.row.op ≡ false → goes_on line.row.op ≡ false → jumps line.row.op ≡ false
        → own.height ≡ 1 → IsGood
    leaves literal_is scopes_are enough no_push no_next no_jump height = record {
      literal = literal_is;
      push = λ is. absurd (false≢true (sym no_push ∙ is));
      scopes = scopes_are;
      takes_few = few (takes line) own.height (omega (arith, enough, height));
      single = λ is. ap (λ (n : ℕ). nat_eq n 1) height;
      next = λ is. absurd (false≢true (sym no_next ∙ is));
      jump = λ is. absurd (false≢true (sym no_jump ∙ is));
    }

    only_jumps : (target : ℕ) → line.first ≡ place_at start code target
        → literal_fits line.row.op (slice_get literals line.first) ≡ true
        → scopes_fit line.row.op line.first line.second own ≡ true → takes line ≤ own.height
        → pushes_block line.row.op ≡ false → is_return line.row.op ≡ false → goes_on line.row.op ≡ false
        → slice_get marks target ≡ Some (held_after line (puts_jumping line.row.op line.row.pushes) own)
        → IsGood
    only_jumps target target_is literal_is scopes_are enough no_push no_return no_next jump = record {
      literal = literal_is;
      push = λ is. absurd (false≢true (sym no_push ∙ is));
      scopes = scopes_are;
      takes_few = few (takes line) own.height enough;
      single = λ is. absurd (false≢true (sym no_return ∙ is));
      next = λ is. absurd (false≢true (sym no_next ∙ is));
      jump = λ is.
          to_same (place_at start code target) line.first
          (held_after line (puts_jumping line.row.op line.row.pushes) own) (sym target_is)
          (to_there target (held_after line (puts_jumping line.row.op line.row.pushes) own) jump);
    }

    may_jump : (target : ℕ) → line.first ≡ place_at start code target
        → literal_fits line.row.op (slice_get literals line.first) ≡ true
        → scopes_fit line.row.op line.first line.second own ≡ true → takes line ≤ own.height
        → pushes_block line.row.op ≡ false → is_return line.row.op ≡ false
        → slice_get marks (suc number)
        ≡ Some (held_after line (puts_going_on line.row.op line.row.pushes) own)
        → slice_get marks target ≡ Some (held_after line (puts_jumping line.row.op line.row.pushes) own)
        → IsGood
    may_jump target target_is literal_is scopes_are enough no_push no_return next jump = record {
      literal = literal_is;
      push = λ is. absurd (false≢true (sym no_push ∙ is));
      scopes = scopes_are;
      takes_few = few (takes line) own.height enough;
      single = λ is. absurd (false≢true (sym no_return ∙ is));
      next = λ is. next_to (held_after line (puts_going_on line.row.op line.row.pushes) own) next;
      jump = λ is.
          to_same (place_at start code target) line.first
          (held_after line (puts_jumping line.row.op line.row.pushes) own) (sym target_is)
          (to_there target (held_after line (puts_jumping line.row.op line.row.pushes) own) jump);
    }

  -- by the instruction's kind
  module _ (number at at_literal : ℕ) (own : Held) (place : at ≡ place_at start code number) where
    go : (height other : ℕ) (scopes : List ℕ) → height ≡ other
        → slice_get marks (suc number) ≡ Some (mark height scopes own.around)
        → slice_get marks (suc number) ≡ Some (mark other scopes own.around)
    go height other scopes same is = same_held (suc number) height other scopes own.around same is

    land : (target height other : ℕ) (scopes : List ℕ) → height ≡ other
        → slice_get marks target ≡ Some (mark height scopes own.around)
        → slice_get marks target ≡ Some (mark other scopes own.around)
    land target height other scopes same is = same_held target height other scopes own.around same is

    symbol_is : (one : Literal) → slice_get literals at_literal ≡ Some one → (f : Option Literal → Bool)
        → f (Some one) ≡ true → f (slice_get literals at_literal) ≡ true
    symbol_is one is f good = ap f is ∙ good

    good : (one : Instruction) → slice_get code number ≡ Some one → HasAt literals at_literal (literals_in one)
        → Does table marks number one own
        → Good table all literals
        (line_for block at one (first_operand start at_literal code number one) (second_operand one)) own
    good PushSelf here lits does =
        plain number at at_literal PushSelf own here place refl refl (omega arith) refl refl refl
        (go (suc own.height) (own.height - 0 + 1) own.scopes (omega arith) does)
    good PushNil here lits does =
        plain number at at_literal PushNil own here place refl refl (omega arith) refl refl refl
        (go (suc own.height) (own.height - 0 + 1) own.scopes (omega arith) does)
    good PushTrue here lits does =
        plain number at at_literal PushTrue own here place refl refl (omega arith) refl refl refl
        (go (suc own.height) (own.height - 0 + 1) own.scopes (omega arith) does)
    good PushFalse here lits does =
        plain number at at_literal PushFalse own here place refl refl (omega arith) refl refl refl
        (go (suc own.height) (own.height - 0 + 1) own.scopes (omega arith) does)
    good (PushLit answer) here lits does =
        plain number at at_literal (PushLit answer) own here place
        (symbol_is (value_literal answer) lits.0 (λ found. literal_fits (row_for (op_of (PushLit answer))).op found)
        (value_old answer))
        refl (omega arith) refl refl refl
        (go (suc own.height) (own.height - 0 + 1) own.scopes (omega arith) does.1)
    good (MakeLit tree) here lits does =
        plain number at at_literal (MakeLit tree) own here place
        (symbol_is (constant_literal tree) lits.0 (λ found. literal_fits (row_for (op_of (MakeLit tree))).op found) does.0)
        refl (omega arith) refl refl refl
        (go (suc own.height) (own.height - 0 + 1) own.scopes (omega arith) does.1)
    good (PushLocal depth index) here lits does =
        plain number at at_literal (PushLocal depth index) own here place refl does.0 (omega arith) refl refl refl
        (go (suc own.height) (own.height - 0 + 1) own.scopes (omega arith) does.1)
    good (StoreLocal depth index) here lits does =
        plain number at at_literal (StoreLocal depth index) own here place refl does.0 (omega (arith, does.2)) refl refl refl
        (go (suc does.1) (own.height - 1 + 1) own.scopes (omega (arith, does.2)) does.3)
    good (PushName name) here lits does =
        plain number at at_literal (PushName name) own here place
        (symbol_is _ lits.0 (λ found. literal_fits (row_for (op_of (PushName name))).op found) refl)
        refl (omega arith) refl refl refl
        (go (suc own.height) (own.height - 0 + 1) own.scopes (omega arith) does)
    good (StoreName name) here lits does =
        plain number at at_literal (StoreName name) own here place
        (symbol_is _ lits.0 (λ found. literal_fits (row_for (op_of (StoreName name))).op found) refl)
        refl (omega (arith, does.1)) refl refl refl
        (go (suc does.0) (own.height - 1 + 1) own.scopes (omega (arith, does.1)) does.2)
    good Pop here lits does =
        plain number at at_literal Pop own here place refl refl (omega (arith, does.1)) refl refl refl
        (go does.0 (own.height - 1 + 0) own.scopes (omega (arith, does.1)) does.2)
    good Dup here lits does =
        plain number at at_literal Dup own here place refl refl (omega (arith, does.1)) refl refl refl
        (go (suc (suc does.0)) (own.height - 1 + 2) own.scopes (omega (arith, does.1)) does.2)
    good (Send selector count) here lits does =
        plain number at at_literal (Send selector count) own here place
        (symbol_is _ lits.0 (λ found. literal_fits (row_for (op_of (Send selector count))).op found) refl)
        refl (omega (arith, does.1)) refl refl refl
        (go (suc does.0) (own.height - (1 + count) + 1) own.scopes (omega (arith, does.1)) does.2)
    good (SuperSend selector count) here lits does =
        plain number at at_literal (SuperSend selector count) own here place
        (symbol_is _ lits.0 (λ found. literal_fits (row_for (op_of (SuperSend selector count))).op found) refl)
        refl (omega (arith, does.1)) refl refl refl
        (go (suc does.0) (own.height - (1 + count) + 1) own.scopes (omega (arith, does.1)) does.2)
    good (PushBlock pushed) here lits does = record {
      literal = refl;
      push = λ is. record {
        block = pushed;
        is = refl;
        later = not_later (nat_lt pushed block) refl;
        piece = does.0;
        there = does.1;
        around = does.2;
      };
      scopes = refl;
      takes_few = few 0 own.height (omega arith);
      single = λ is. absurd (false≢true is);
      next = λ is.
          next_to number at at_literal (PushBlock pushed) own here place _
          (go (suc own.height) (own.height - 0 + 1) own.scopes (omega arith) does.3);
      jump = λ is. absurd (false≢true is);
    }
      where
        not_later : (test : Bool) → nat_lt pushed block ≡ test → block ≤ pushed
        not_later true is =
            let below : pushed < block = grind (arith, nat_tests, is) in
            absurd (omega (arith, later pushed below, push_counted code number pushed here (eq-eqb pushed pushed refl)))
        not_later false is = grind (arith, nat_tests, is)
    good ReturnMethod here lits does =
        leaves number at at_literal ReturnMethod own here place refl refl (omega arith) refl refl refl does
    good ReturnHome here lits does =
        leaves number at at_literal ReturnHome own here place refl refl (omega arith) refl refl refl does
    good ReturnBlock here lits does =
        leaves number at at_literal ReturnBlock own here place refl refl (omega arith) refl refl refl does
    good (Jump ahead) here lits does =
        only_jumps number at at_literal (Jump ahead) own here place (suc number + ahead) refl refl refl (omega arith) refl
        refl refl
        (land (suc number + ahead) own.height (own.height - 0 + 0) own.scopes (omega arith) does)
    good (JumpBack behind) here lits does =
        only_jumps number at at_literal (JumpBack behind) own here place (number - behind) refl refl refl (omega arith) refl
        refl refl
        (land (number - behind) own.height (own.height - 0 + 0) own.scopes (omega arith) does.1)
    good (JumpTrue ahead) here lits does =
        may_jump number at at_literal (JumpTrue ahead) own here place (suc number + ahead) refl refl refl
        (omega (arith, does.1)) refl refl
        (go does.0 (own.height - 1 + 0) own.scopes (omega (arith, does.1)) does.2)
        (land (suc number + ahead) does.0 (own.height - 1 + 0) own.scopes (omega (arith, does.1)) does.3)
    good (JumpFalse ahead) here lits does =
        may_jump number at at_literal (JumpFalse ahead) own here place (suc number + ahead) refl refl refl
        (omega (arith, does.1)) refl refl
        (go does.0 (own.height - 1 + 0) own.scopes (omega (arith, does.1)) does.2)
        (land (suc number + ahead) does.0 (own.height - 1 + 0) own.scopes (omega (arith, does.1)) does.3)
    good TakeUnit here lits does =
        plain number at at_literal TakeUnit own here place refl refl (omega arith) refl refl refl
        (go own.height (own.height - 0 + 0) own.scopes (omega arith) does)
    good (Enter count) here lits does =
        plain number at at_literal (Enter count) own here place refl refl (omega arith) refl refl refl
        (go own.height (own.height - 0 + 0) (count ∷ own.scopes) (omega arith) does)
    good Leave here lits does =
        plain number at at_literal Leave own here place refl (grind (arith, nat_tests, does.0)) (omega arith) refl refl refl
        (go own.height (own.height - 0 + 0) (drop 1 own.scopes) (omega arith) does.1)
    good LoopStart here lits does =
        plain number at at_literal LoopStart own here place refl refl (omega (arith, does.1)) refl refl refl
        (go (suc (suc does.0)) (own.height - 2 + 2) own.scopes (omega (arith, does.1)) does.2)
    good (LoopNext ahead) here lits does =
        may_jump number at at_literal (LoopNext ahead) own here place (suc number + ahead) refl refl refl
        (omega (arith, does.1)) refl refl
        (go (suc (suc (suc does.0))) (own.height - 2 + 3) own.scopes (omega (arith, does.1)) does.2)
        (land (suc number + ahead) does.0 (own.height - 2 + 0) own.scopes (omega (arith, does.1)) does.3)
    good (LoopStep behind) here lits does =
        may_jump number at at_literal (LoopStep behind) own here place (number - behind) refl refl refl
        (omega (arith, does.2)) refl refl
        (go does.1 (own.height - 2 + 0) own.scopes (omega (arith, does.2)) does.3)
        (land (number - behind) (suc (suc does.1)) (own.height - 2 + 2) own.scopes (omega (arith, does.2)) does.4)

  -- all instructions of the block
  abbrev pub GoodRow : ℕ → Row → Type 0
  GoodRow number row = Good table all literals row.line row.held

  each_good : (number at at_literal from : ℕ) (rest : List Instruction) → HasAt code number rest
      → Goes table marks number rest → at ≡ place_at start code number → HasAt literals at_literal (literals_of rest)
      → Each GoodRow from (rows_from block start code (held_in marks) at_literal number at rest)
  each_good number at at_literal from [] code_has goes place lits = tt
  each_good number at at_literal from (one ∷ rest) code_has goes place lits =
      let fits = goes.0 in
      let is = held_is marks number fits.own fits.here in (
        subst (λ (h : Held). Good table all literals
            (line_for block at one (first_operand start at_literal code number one) (second_operand one)) h) (sym is)
            (good number at at_literal fits.own place one code_has.0
            (first_has literals at_literal (literals_in one) (literals_of rest) lits) fits.does),
        each_good (suc number) (at + size_of one) (at_literal + length (literals_in one)) (suc from) rest code_has.1 goes.1
            (omega (arith, place, size_next code number one code_has.0))
            (then_has literals at_literal (literals_in one) (literals_of rest) lits),
      )

  pub block_good : (from : ℕ) → Goes table marks 0 code → HasAt literals literal (literals_of code)
      → Each GoodRow from (rows_from block start code (held_in marks) literal 0 start code)
  block_good from goes lits =
      each_good 0 start literal from code (has_behind [] code) goes (omega arith) lits

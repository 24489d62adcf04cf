-- Where no rule breaks, the first way brings what every way brings.
use Rattle.std.proofs.Common.{◌≡◌, ◌≢◌, refl, sym, ap, subst, ◌∙◌, inl, inr, ℕ, zero, suc, ◌+◌, ◌<◌, nat_eq, nat_lt, Bool, true, false, not, ◌&&◌, if◌then◌else◌, List, [], ◌∷◌, ◌++◌, length, replicate, take, slice_get, slice_set, ◌-◌, ◌==◌, Option, None, Some, Result, Ok, Err, arith}
use Rattle.std.specs.Prelude.{slice_range}
use Rattle.std.specs.Cmp.Lexicographic.{pointwise, bytes_decides}
use Rattle.std.proofs.lemmas.Bool.{false≢true, and_parts, eqb-true, eq-eqb}
use Rattle.std.proofs.lemmas.List.{length-replicate}
use Rattle.std.proofs.lemmas.Option.{same_Some}
use Rattle.op_table.specs.Ops.{row_at}
use Rattle.op_table.specs.declared.ops.Row.{Row}
use Rattle.st_tree.specs.declared.nodes.Literal.{Literal}
use Rattle.st_code.specs.declared.blocks.BlockCode.{BlockCode}
use Rattle.st_code.specs.declared.fault.CodeFault.{CodeFault}
use Rattle.st_code.specs.declared.fault.CodeFault.TheVariants.{Operand, Jump, Stack}
use Rattle.st_code.specs.declared.line.Line.{Line}
use Rattle.st_code.specs.declared.rules.Agreement.{Agreement}
use Rattle.st_code.specs.declared.rules.Agreement.TheVariants.{Scopes, Height}
use Rattle.st_code.specs.declared.ways.Way.{Way}
use Rattle.st_code.specs.Held.{Held}
use Rattle.st_code.specs.Lines.{Lines, width, line_of, line_by, line_at, with_first, after_line, lines_from, joined, lines_of, end_of, are_blocks, is_of}
use Rattle.st_code.specs.Operands.{first_pushes, operands_fit}
use Rattle.st_code.specs.Ways.{Known, open_line, go_step, reach, start_way, first_ways, ways_on, known_of}
use Rattle.st_code.specs.Comes.{IsOneOf, Comes, begins, goes}
use Rattle.st_code.specs.Faults.{lower, lowest, lowest_fault, jump_fault, same, agrees, meetings, scopes_fit, scope_faults, operand_faults, no_pushes, operand_fault, stack_fits, stack_faults_by, stack_faults, stack_fault, unless_at, line_fault, fault_of}
use Rattle.st_code.proofs.Reading.{ends_above, ends_within, are_from_zero}

-- ---- no fault at any place

lowest_none : (found : Option ℕ) (places : List ℕ) → lowest found places ≡ None → (found ≡ None) × (places ≡ [])
lowest_none found [] is = (is, refl)
lowest_none found (place ∷ places) is =
    let there = (lowest_none (Some (lower found place)) places is).0 in absurd (cc)

here_or_later : (faults : ℕ → Option Line → List ℕ) (at : ℕ) (first : Option Line) (rest : Lines)
    → faults at first ≡ []
    → ((k : ℕ) (line : Option Line) → slice_get rest k ≡ Some line → faults (at + 1 + k) line ≡ [])
    → (k : ℕ) (line : Option Line) → slice_get (first ∷ rest) k ≡ Some line → faults (at + k) line ≡ []
here_or_later faults at first rest here later zero line is =
    let none : at + 0 ≡ at = omega arith in
    subst (λ (n : ℕ). faults n line ≡ []) (sym none)
    (subst (λ (l : Option Line). faults at l ≡ []) (same_Some _ _ is) here)
here_or_later faults at first rest here later (suc k) line is =
    let next : at + 1 + k ≡ at + suc k = omega arith in
    subst (λ (n : ℕ). faults n line ≡ []) next (later k line is)

no_faults : (faults : ℕ → Option Line → List ℕ) (at : ℕ) (lines : Lines) (found : Option ℕ)
    → lowest_fault faults at lines found ≡ None
    → (found ≡ None) × ((k : ℕ) (line : Option Line) → slice_get lines k ≡ Some line → faults (at + k) line ≡ [])
no_faults faults at [] found is = (is, λ k line there. absurd (cc))
no_faults faults at (first ∷ rest) found is =
    let later = no_faults faults (at + 1) rest (lowest found (faults at first)) is in
    let here = lowest_none found (faults at first) later.0 in
    (here.0, here_or_later faults at first rest here.1 later.1)

nowhere : (faults : ℕ → Option Line → List ℕ) (lines : Lines) → lowest_fault faults 0 lines None ≡ None
    → (at : ℕ) (line : Option Line) → slice_get lines at ≡ Some line → faults at line ≡ []
nowhere faults lines is at line there =
    let none : 0 + at ≡ at = omega arith in
    subst (λ (n : ℕ). faults n line ≡ []) none ((no_faults faults 0 lines None is).1 at line there)

fits : (test : Bool) (places : List ℕ) (at : ℕ) → (if test then places else at ∷ []) ≡ [] → (test ≡ true) × (places ≡ [])
fits true places at is = (refl, is)
fits false places at is = absurd (cc)

-- ---- agreement

agrees_is : (on : Agreement) (known : Option (Option Held)) (held : Held) → agrees on known held ≡ true
    → (first : Held) × (known ≡ Some (Some first)) × (same on first held ≡ true)
agrees_is on (Some (Some first)) held is = (first, refl, is)
agrees_is on (Some None) held is = absurd (false≢true is)
agrees_is on None held is = absurd (false≢true is)

kept_or_not : (test : Bool) (place : ℕ) (places : List ℕ) → (if test then place ∷ places else places) ≡ []
    → (test ≡ false) × (places ≡ [])
kept_or_not true place places is = absurd (cc)
kept_or_not false place places is = (refl, is)

seen : (first second : Bool) → (first && not second) ≡ false → first ≡ true → second ≡ true
seen true true is here = refl
seen true false is here = absurd (false≢true (sym is))
seen false second is here = absurd (false≢true here)

agree_at : (on : Agreement) (lines : Lines) (known : Known) (ways : List Way) → meetings on lines known ways ≡ []
    → (way : Way) → IsOneOf ways way → is_of way.block (slice_get lines way.to) ≡ true
    → agrees on (slice_get known way.to) way.held ≡ true
agree_at on lines known [] none way is there = absurd is
agree_at on lines known (first ∷ later) none way (inr is) there =
    agree_at on lines known later
    (kept_or_not (is_of first.block (slice_get lines first.to) && not (agrees on (slice_get known first.to) first.held))
    first.to (meetings on lines known later) none).1 way is there
agree_at on lines known (first ∷ later) none way (inl is) there =
    let Agrees : Way → Type 0 = λ one. is_of one.block (slice_get lines one.to) ≡ true
    → agrees on (slice_get known one.to) one.held ≡ true in
    subst Agrees is
    (seen (is_of first.block (slice_get lines first.to)) (agrees on (slice_get known first.to) first.held)
    (kept_or_not (is_of first.block (slice_get lines first.to) && not (agrees on (slice_get known first.to) first.held))
    first.to (meetings on lines known later) none).0)
    there

held_is : (first second : Held) → same Scopes first second ≡ true → same Height first second ≡ true → first ≡ second
held_is first second scopes height =
    let parts = and_parts (pointwise nat_eq first.scopes second.scopes) (nat_eq first.around second.around) scopes in
    let same_scopes : first.scopes ≡ second.scopes = (bytes_decides first.scopes second.scopes).0 parts.0 in
    let same_around : first.around ≡ second.around = eqb-true first.around second.around parts.1 in
    let same_height : first.height ≡ second.height = eqb-true first.height second.height height in
    λ i. record { height = same_height i; scopes = same_scopes i; around = same_around i }

-- ---- what is known stays known

get_set_other : {A : Type 0} (xs : List A) (i j : ℕ) (x : A) → i ≢ j → slice_get (slice_set xs i x) j ≡ slice_get xs j
get_set_other [] i j x apart = refl
get_set_other (y ∷ ys) zero zero x apart = absurd (apart refl)
get_set_other (y ∷ ys) zero (suc j) x apart = refl
get_set_other (y ∷ ys) (suc i) zero x apart = refl
get_set_other (y ∷ ys) (suc i) (suc j) x apart = get_set_other ys i j x (λ is. apart (ap (λ (n : ℕ). suc n) is))

get_set_same : {A : Type 0} (xs : List A) (i : ℕ) (x : A) → i < length xs → slice_get (slice_set xs i x) i ≡ Some x
get_set_same [] i x within = absurd (omega arith)
get_set_same (y ∷ ys) zero x within = refl
get_set_same (y ∷ ys) (suc i) x within = get_set_same ys i x (omega arith)

open_unknown : (block : ℕ) (line : Option (Option Line)) (known : Option (Option Held)) (found : Line)
    → open_line block line known ≡ Some found → known ≡ Some None
open_unknown block (Some (Some line)) (Some None) found is = refl
open_unknown block (Some (Some line)) (Some (Some held)) found is = absurd (cc)
open_unknown block (Some (Some line)) None found is = absurd (cc)
open_unknown block (Some None) known found is = absurd (cc)
open_unknown block None known found is = absurd (cc)

abbrev pub IsKnown : ℕ → Held → Known → Type 0
IsKnown at held known = slice_get known at ≡ Some (Some held)

step_keeps : (lines : Lines) (blocks : List BlockCode) (go : List Way → Known → Known) (at : ℕ) (held : Held)
    → ((ways : List Way) (known : Known) → IsKnown at held known → IsKnown at held (go ways known))
    → (way : Way) (ways : List Way) (known : Known) (found : Option Line)
    → open_line way.block (slice_get lines way.to) (slice_get known way.to) ≡ found → IsKnown at held known
    → IsKnown at held (go_step blocks found go way ways known)
step_keeps lines blocks go at held keeps way ways known None is there = keeps ways known there
step_keeps lines blocks go at held keeps way ways known (Some line) is there =
    let unknown = open_unknown way.block (slice_get lines way.to) (slice_get known way.to) line is in
    let apart : way.to ≢ at = λ same. let other = ap (λ (n : ℕ). slice_get known n) same in absurd (cc) in
    keeps (ways ++ ways_on blocks line way.held) (slice_set known way.to (Some way.held))
    (get_set_other known way.to at (Some way.held) apart ∙ there)

reach_keeps : (lines : Lines) (blocks : List BlockCode) (steps : ℕ) (at : ℕ) (held : Held) (ways : List Way)
    (known : Known) → IsKnown at held known → IsKnown at held (reach lines blocks steps ways known)
reach_keeps lines blocks zero at held ways known there = there
reach_keeps lines blocks (suc steps) at held [] known there = there
reach_keeps lines blocks (suc steps) at held (way ∷ ways) known there =
    step_keeps lines blocks (λ later now. reach lines blocks steps later now) at held
    (λ later now. reach_keeps lines blocks steps at held later now) way ways known
    (open_line way.block (slice_get lines way.to) (slice_get known way.to)) refl there

-- ---- the beginning

block_is : (block at : ℕ) (row : Option Row) (rest : List ℕ) (line : Line) → line_by block at row rest ≡ Some line
    → line.block ≡ block
block_is block at None rest line is = absurd (cc)
block_is block at (Some row) rest line is = by (nat_lt (length rest) (width row.op 0 + width row.op 1)) is
  where
    by : (test : Bool) → (if test then None else Some (line_of block at row rest)) ≡ Some line → line.block ≡ block
    by true is = absurd (cc)
    by false is = ap (λ (one : Line). one.block) (sym (same_Some _ _ is))

line_block : (block at : ℕ) (bytes : List ℕ) (line : Line) → line_at block at bytes ≡ Some line → line.block ≡ block
unfolding line_at
line_block block at [] line is = absurd (cc)
line_block block at (byte ∷ rest) line is = block_is block at (row_at byte) rest line is

-- the first instruction of what was read
pub record Begins (block : ℕ) (lines : Lines) : Type 0 where
  pub line : Line
  pub later : Lines
  pub are : lines ≡ Some line ∷ later
  pub in_block : line.block ≡ block

first_read : (block at : ℕ) (found : Option Line) (rest : ℕ → Result Lines ℕ) (lines : Lines)
    → ((line : Line) → found ≡ Some line → line.block ≡ block) → after_line at found rest ≡ Ok lines
    → Begins block lines
first_read block at None rest lines own is = absurd (cc)
first_read block at (Some line) rest lines own is = by (rest (line.next - (at + 1))) is
  where
    by : (read : Result Lines ℕ) → with_first (Some line) read ≡ Ok lines → Begins block lines
    by (Ok later) is =
        let all : lines ≡ Some line ∷ later = cc in
        record { line = line; later = later; are = all; in_block = own line refl }
    by (Err place) is = absurd (cc)

begins_so : (block at : ℕ) (bytes : List ℕ) (lines : Lines) → 0 < length bytes → lines_from block at 0 bytes ≡ Ok lines
    → Begins block lines
begins_so block at [] lines some is = absurd (omega arith)
begins_so block at (byte ∷ rest) lines some is =
    first_read block at (line_at block at (byte ∷ rest)) (λ skip. lines_from block (at + 1) skip rest) lines
    (λ line found. line_block block at (byte ∷ rest) line found) is

joined_begins : (block : ℕ) (first second : Result Lines ℕ) (lines : Lines)
    → ((own : Lines) → first ≡ Ok own → Begins block own) → joined first second ≡ Ok lines → Begins block lines
joined_begins block (Ok own) (Ok more) lines begin is =
    let start = begin own refl in
    let whole : own ++ more ≡ Some start.line ∷ (start.later ++ more) = ap (λ (l : Lines). l ++ more) start.are in
    let same_lines : own ++ more ≡ lines = cc in
    record {
      line = start.line;
      later = start.later ++ more;
      are = sym same_lines ∙ whole;
      in_block = start.in_block;
    }
joined_begins block (Ok own) (Err place) lines begin is = absurd (cc)
joined_begins block (Err place) second lines begin is = absurd (cc)

some_taken : (count : ℕ) (bytes : List ℕ) → 0 < count → 0 < length bytes → 0 < length (take count bytes)
some_taken zero bytes above some = absurd (omega arith)
some_taken (suc count) [] above some = absurd (omega arith)
some_taken (suc count) (byte ∷ rest) above some = omega arith

some_part : (start end : ℕ) (bytes : List ℕ) → start ≡ 0 → 0 < end → 0 < length bytes
    → 0 < length (slice_range bytes start end)
some_part zero end bytes is above some = some_taken (end - 0) bytes (omega arith) some
some_part (suc start) end bytes is above some = absurd (omega arith)

start_read : (bytes : List ℕ) (first : BlockCode) (later : List BlockCode) (lines : Lines)
    → are_blocks (length bytes) (first ∷ later) ≡ true → lines_of bytes 0 (first ∷ later) ≡ Ok lines
    → Begins 0 lines × (first.start ≡ 0)
start_read bytes first later lines are is =
    let from_zero = are_from_zero (length bytes) (first ∷ later) are in
    let above = ends_above (length bytes) first later from_zero.1 in
    let end = end_of (length bytes) later in
    let within = ends_within (length bytes) later above.1 in
    let some : 0 < length (slice_range bytes first.start end) =
    some_part first.start end bytes from_zero.0 (omega (arith, above.0)) (omega (arith, above.0, within)) in (
      joined_begins 0 (lines_from 0 first.start 0 (slice_range bytes first.start end)) (lines_of bytes 1 later) lines
          (λ own read. begins_so 0 first.start (slice_range bytes first.start end) own some read) is,
      from_zero.0,
    )

opens : (line : Line) (later : Lines) (start : ℕ) → start ≡ 0 → line.block ≡ 0
    → open_line 0 (slice_get (Some line ∷ later) start)
    (slice_get (replicate (length (Some line ∷ later)) None) start) ≡ Some line
opens line later zero is in_block =
    let own : (line.block == 0) ≡ true = eq-eqb line.block 0 in_block in rw own refl
opens line later (suc start) is in_block = absurd (omega arith)

first_step : (lines : Lines) (blocks : List BlockCode) (steps : ℕ) (way : Way) (known : Known) (line : Line)
    → open_line way.block (slice_get lines way.to) (slice_get known way.to) ≡ Some line → way.to < length known
    → IsKnown way.to way.held (reach lines blocks (suc steps) (way ∷ []) known)
first_step lines blocks steps way known line is within =
    subst (λ (one : Option Line). IsKnown way.to way.held
    (go_step blocks one (λ later now. reach lines blocks steps later now) way [] known)) (sym is)
    (reach_keeps lines blocks steps way.to way.held ([] ++ ways_on blocks line way.held)
    (slice_set known way.to (Some way.held)) (get_set_same known way.to (Some way.held) within))

known_begins : (line : Line) (more : Lines) (first : BlockCode) (later : List BlockCode) → first.start ≡ 0
    → line.block ≡ 0
    → IsKnown first.start (start_way 0 [] first).held (known_of (Some line ∷ more) (first ∷ later))
unfolding known_of
known_begins line more first later is in_block =
    let lines : Lines = Some line ∷ more in
    let way = start_way 0 [] first in
    let count = length lines + length lines in
    let one_more : suc count ≡ count + 1 = omega arith in
    let long : length (replicate {A = Option Held} (length lines) None) ≡ length lines = length-replicate (length lines) None in
    subst (λ (steps : ℕ). IsKnown first.start way.held
    (reach lines (first ∷ later) steps (way ∷ []) (replicate (length lines) None))) one_more
    (first_step lines (first ∷ later) count way (replicate (length lines) None) line
    (opens line more first.start is in_block) (omega (arith, long)))

known_first : (lines : Lines) (first : BlockCode) (later : List BlockCode) → Begins 0 lines → first.start ≡ 0
    → (way : Way) → IsOneOf (first_ways (first ∷ later)) way
    → IsKnown way.to way.held (known_of lines (first ∷ later))
known_first lines first later start is way (inl same_way) =
    let here : IsKnown first.start (start_way 0 [] first).held (known_of lines (first ∷ later)) =
    subst (λ (l : Lines). IsKnown first.start (start_way 0 [] first).held (known_of l (first ∷ later))) (sym start.are)
    (known_begins start.line start.later first later is start.in_block) in
    subst (λ (one : Way). IsKnown one.to one.held (known_of lines (first ∷ later))) same_way here
known_first lines first later start is way (inr other) = absurd other

-- ---- every way

pub record Clean (lines : Lines) (blocks : List BlockCode) (line : Line) (held : Held) : Type 0 where
  pub scopes : scopes_fit line.row.op line.first line.second held ≡ true
  pub scopes_agree : meetings Scopes lines (known_of lines blocks) (ways_on blocks line held) ≡ []
  pub stack : stack_fits lines line held.height ≡ true
  pub heights_agree : meetings Height lines (known_of lines blocks) (ways_on blocks line held) ≡ []

pub clean_at : (literals : List Literal) (blocks : List BlockCode) (lines : Lines)
    → operand_fault literals lines blocks ≡ None → stack_fault lines blocks ≡ None → (at : ℕ) (held : Held)
    (line : Line) → IsKnown at held (known_of lines blocks) → slice_get lines at ≡ Some (Some line)
    → Clean lines blocks line held
clean_at literals blocks lines operands stack at held line known_there there =
    let known = known_of lines blocks in
    let pushes = first_pushes 0 lines (no_pushes blocks) in
    let none = nowhere (operand_faults literals lines blocks pushes known) lines operands at (Some line) there in
    let own = fits (operands_fit literals blocks pushes at line)
    (scope_faults lines blocks known at line (slice_get known at)) at none in
    let with_held : scope_faults lines blocks known at line (Some (Some held)) ≡ [] =
    subst (λ (one : Option (Option Held)). scope_faults lines blocks known at line one ≡ []) known_there own.1 in
    let scopes_clean = fits (scopes_fit line.row.op line.first line.second held)
    (meetings Scopes lines known (ways_on blocks line held)) at with_held in
    let no_stack = nowhere (stack_faults lines blocks known) lines stack at (Some line) there in
    let stack_held : stack_faults_by lines blocks known at line (Some (Some held)) ≡ [] =
    subst (λ (one : Option (Option Held)). stack_faults_by lines blocks known at line one ≡ []) known_there no_stack in
    let stack_clean = fits (stack_fits lines line held.height)
    (meetings Height lines known (ways_on blocks line held)) at stack_held in
    record {
      scopes = scopes_clean.0;
      scopes_agree = scopes_clean.1;
      stack = stack_clean.0;
      heights_agree = stack_clean.1;
    }

pub known_is : (literals : List Literal) (blocks : List BlockCode) (lines : Lines)
    → operand_fault literals lines blocks ≡ None → stack_fault lines blocks ≡ None
    → ((way : Way) → IsOneOf (first_ways blocks) way → IsKnown way.to way.held (known_of lines blocks))
    → (at : ℕ) (held : Held) → Comes lines blocks at held → IsKnown at held (known_of lines blocks)
known_is literals blocks lines operands stack start at held (begins way is) = start way is
known_is literals blocks lines operands stack start at held (goes from had line way came there is within) =
    let known = known_of lines blocks in
    let before = known_is literals blocks lines operands stack start from had came in
    let clean = clean_at literals blocks lines operands stack from had line before there in
    let one = agrees_is Scopes (slice_get known way.to) way.held
    (agree_at Scopes lines known (ways_on blocks line had) clean.scopes_agree way is within) in
    let two = agrees_is Height (slice_get known way.to) way.held
    (agree_at Height lines known (ways_on blocks line had) clean.heights_agree way is within) in
    let both : Some (Some one.0) ≡ Some (Some two.0) = sym one.1 ∙ two.1 in
    let alike : two.0 ≡ one.0 = cc in
    one.1 ∙ ap (λ (h : Held). Some (Some h))
    (held_is one.0 way.held one.2 (subst (λ (h : Held). same Height h way.held ≡ true) alike two.2))

-- ---- checked code

unless_none : (found : Option ℕ) (fault : ℕ → CodeFault) (later : Option CodeFault)
    → unless_at found fault later ≡ None → (found ≡ None) × (later ≡ None)
unless_none None fault later is = (refl, is)
unless_none (Some place) fault later is = absurd (cc)

pub record IsChecked (literals : List Literal) (blocks : List BlockCode) (lines : Lines) : Type 0 where
  pub operands : operand_fault literals lines blocks ≡ None
  pub stack : stack_fault lines blocks ≡ None
  pub start : (way : Way) → IsOneOf (first_ways blocks) way → IsKnown way.to way.held (known_of lines blocks)

checked_by : (bytes : List ℕ) (literals : List Literal) (blocks : List BlockCode) (lines : Lines)
    → are_blocks (length bytes) blocks ≡ true → lines_of bytes 0 blocks ≡ Ok lines
    → line_fault literals blocks (lines_of bytes 0 blocks) ≡ None → IsChecked literals blocks lines
checked_by bytes literals [] lines are is none = absurd (false≢true are)
checked_by bytes literals (first ∷ later) lines are is none =
    let blocks : List BlockCode = first ∷ later in
    let of_lines : line_fault literals blocks (Ok lines) ≡ None =
    subst (λ (read : Result Lines ℕ). line_fault literals blocks read ≡ None) is none in
    let jumps_kept = unless_none (jump_fault lines) (λ at. Jump at)
    (unless_at (operand_fault literals lines blocks) (λ at. Operand at)
    (unless_at (stack_fault lines blocks) (λ at. Stack at) None)) of_lines in
    let operands_kept = unless_none (operand_fault literals lines blocks) (λ at. Operand at)
    (unless_at (stack_fault lines blocks) (λ at. Stack at) None) jumps_kept.1 in
    let stack_kept = unless_none (stack_fault lines blocks) (λ at. Stack at) None operands_kept.1 in
    let start = start_read bytes first later lines are is in
    record {
      operands = operands_kept.0;
      stack = stack_kept.0;
      start = known_first lines first later start.0 start.1;
    }

pub checked : (bytes : List ℕ) (literals : List Literal) (blocks : List BlockCode) (lines : Lines)
    → fault_of bytes literals blocks ≡ None → lines_of bytes 0 blocks ≡ Ok lines → IsChecked literals blocks lines
unfolding fault_of
checked bytes literals blocks lines none is = by (are_blocks (length bytes) blocks) refl none
  where
    by : (test : Bool) → are_blocks (length bytes) blocks ≡ test
        → (if test then line_fault literals blocks (lines_of bytes 0 blocks) else Some (Operand 0)) ≡ None
        → IsChecked literals blocks lines
    by true are none = checked_by bytes literals blocks lines are is none
    by false are none = absurd (cc)

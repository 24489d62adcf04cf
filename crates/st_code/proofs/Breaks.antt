-- A fault of a rule is found only where the rule breaks.
use Rattle.std.proofs.Common.{◌≡◌, refl, sym, ap, subst, ◌∙◌, ◌⊎◌, inl, inr, ℕ, zero, suc, ◌+◌, ◌≤◌, min, nat_eq, nat_le, Bool, true, false, not, ◌&&◌, if◌then◌else◌, List, [], ◌∷◌, ◌++◌, length, replicate, slice_get, slice_set, ◌==◌, Option, None, Some, Result, Ok, Err, arith}
use Rattle.std.specs.Cmp.Lexicographic.{pointwise, bytes_decides}
use Rattle.std.proofs.lemmas.Bool.{false≢true, eq-eqb}
use Rattle.std.proofs.lemmas.Bool.Decides.{nat_tests}
use Rattle.std.proofs.lemmas.Option.{same_Some}
use Rattle.std.proofs.Math.Nat.{min-eq_left, min-eq_right}
use Rattle.st_tree.specs.declared.nodes.Literal.{Literal}
use Rattle.st_code.specs.declared.blocks.BlockCode.{BlockCode}
use Rattle.st_code.specs.declared.fault.CodeFault.{CodeFault}
use Rattle.st_code.specs.declared.fault.CodeFault.TheVariants.{Jump, Operand, Stack}
use Rattle.st_code.specs.declared.line.Line.{Line}
use Rattle.st_code.specs.declared.rules.Agreement.{Agreement}
use Rattle.st_code.specs.declared.rules.Agreement.TheVariants.{Scopes, Height}
use Rattle.st_code.specs.declared.ways.Way.{Way}
use Rattle.st_code.specs.Held.{Held}
use Rattle.st_code.specs.Lines.{Lines, are_blocks, lines_of, is_of}
use Rattle.st_code.specs.Operands.{first_pushes, operands_fit}
use Rattle.st_code.specs.Ways.{Known, jumps, open_line, go_step, reach, first_ways, ways_on, known_of}
use Rattle.st_code.specs.Comes.{IsOneOf, Comes, begins, goes}
use Rattle.st_code.specs.Faults.{lower, lowest, lowest_fault, jump_faults, jump_fault, same_scopes, agrees, meetings, scopes_fit, scope_faults, operand_faults, no_pushes, operand_fault, stack_fits, stack_faults_by, stack_faults, stack_fault, unless_at, line_fault, fault_of}
use Rattle.st_code.specs.Breaks.{JumpBreaks, OperandBreaks, misnamed, unscoped, scopes_apart, StackBreaks, unfit, heights_apart, Breaks}
use Rattle.st_code.proofs.Agree.{IsKnown}
use Rattle.st_code.proofs.Passes.{get_of_set, one_of_either, open_there, nothing_known, known_closed, IsReached}

-- ---- where the lowest fault was found

abbrev IsAmong : List ℕ → ℕ → Type 0
IsAmong [] at = ⊥
IsAmong (place ∷ places) at = (place ≡ at) ⊎ IsAmong places at

lower_is : (found : Option ℕ) (place : ℕ) → (found ≡ Some (lower found place)) ⊎ (place ≡ lower found place)
lower_is None place = inr refl
lower_is (Some other) place = by (nat_le other place) refl
  where
    by : (test : Bool) → nat_le other place ≡ test
        → (Some other ≡ Some (min other place)) ⊎ (place ≡ min other place)
    by true is =
        let below : other ≤ place = grind (arith, nat_tests, is) in
        inl (ap (λ (n : ℕ). Some n) (sym (min-eq_left below)))
    by false is =
        let below : place ≤ other = grind (arith, nat_tests, is) in inr (sym (min-eq_right below))

lowest_among : (found : Option ℕ) (places : List ℕ) (at : ℕ) → lowest found places ≡ Some at
    → (found ≡ Some at) ⊎ IsAmong places at
lowest_among found [] at is = inl is
lowest_among found (place ∷ places) at is =
    by (lowest_among (Some (lower found place)) places at is) (lower_is found place)
  where
    by : (Some (lower found place) ≡ Some at) ⊎ IsAmong places at
        → (found ≡ Some (lower found place)) ⊎ (place ≡ lower found place)
        → (found ≡ Some at) ⊎ IsAmong (place ∷ places) at
    by (inl same) (inl earlier) = inl (earlier ∙ same)
    by (inl same) (inr here) = inr (inl (here ∙ same_Some _ _ same))
    by (inr later) either = inr (inr later)

-- at one of these places, the first of which is there, something breaks the rule at that place
record Found (faults : ℕ → Option Line → List ℕ) (from : ℕ) (lines : Lines) (place : ℕ) : Type 0 where
  number : ℕ
  line : Option Line
  here : slice_get lines number ≡ Some line
  among : IsAmong (faults (from + number) line) place

found_later : (faults : ℕ → Option Line → List ℕ) (from : ℕ) (first : Option Line) (rest : Lines) (place : ℕ)
    → Found faults (from + 1) rest place → Found faults from (first ∷ rest) place
found_later faults from first rest place found =
    let same : from + 1 + found.number ≡ from + suc found.number = omega arith in
    record {
      number = suc found.number;
      line = found.line;
      here = found.here;
      among = subst (λ (n : ℕ). IsAmong (faults n found.line) place) same found.among;
    }

found_here : (faults : ℕ → Option Line → List ℕ) (from : ℕ) (first : Option Line) (rest : Lines) (place : ℕ)
    → IsAmong (faults from first) place → Found faults from (first ∷ rest) place
found_here faults from first rest place among =
    let same : from ≡ from + 0 = omega arith in
    record {
      number = 0;
      line = first;
      here = refl;
      among = subst (λ (n : ℕ). IsAmong (faults n first) place) same among;
    }

found_from : (faults : ℕ → Option Line → List ℕ) (from : ℕ) (lines : Lines) (found : Option ℕ) (place : ℕ)
    → lowest_fault faults from lines found ≡ Some place → (found ≡ Some place) ⊎ Found faults from lines place
found_from faults from [] found place is = inl is
found_from faults from (first ∷ rest) found place is =
    by (found_from faults (from + 1) rest (lowest found (faults from first)) place is)
  where
    by_first : (found ≡ Some place) ⊎ IsAmong (faults from first) place
        → (found ≡ Some place) ⊎ Found faults from (first ∷ rest) place
    by_first (inl earlier) = inl earlier
    by_first (inr among) = inr (found_here faults from first rest place among)

    by : (lowest found (faults from first) ≡ Some place) ⊎ Found faults (from + 1) rest place
        → (found ≡ Some place) ⊎ Found faults from (first ∷ rest) place
    by (inl same) = by_first (lowest_among found (faults from first) place same)
    by (inr later) = inr (found_later faults from first rest place later)

somewhere : (faults : ℕ → Option Line → List ℕ) (lines : Lines) (place : ℕ)
    → lowest_fault faults 0 lines None ≡ Some place
    → (at : ℕ) × (line : Option Line) × (slice_get lines at ≡ Some line) × IsAmong (faults at line) place
somewhere faults lines place is = by (found_from faults 0 lines None place is)
  where
    by : (None ≡ Some place) ⊎ Found faults 0 lines place
        → (at : ℕ) × (line : Option Line) × (slice_get lines at ≡ Some line) × IsAmong (faults at line) place
    by (inl none) = absurd (cc)
    by (inr found) =
        let same : 0 + found.number ≡ found.number = omega arith in (
          found.number,
          found.line,
          found.here,
          subst (λ (n : ℕ). IsAmong (faults n found.line) place) same found.among,
        )

if_among : (test : Bool) (at place : ℕ) → IsAmong (if test then at ∷ [] else []) place → (test ≡ true) × (at ≡ place)
if_among true at place (inl is) = (refl, is)
if_among true at place (inr none) = absurd none
if_among false at place none = absurd none

unless_among : (test : Bool) (places : List ℕ) (at place : ℕ) → IsAmong (if test then places else at ∷ []) place
    → ((test ≡ true) × IsAmong places place) ⊎ ((test ≡ false) × (at ≡ place))
unless_among true places at place among = inl (refl, among)
unless_among false places at place (inl is) = inr (refl, is)
unless_among false places at place (inr none) = absurd none

-- ---- ways that don't agree

-- one of these steps brings something else than is known where it leads
record Meets (on : Agreement) (lines : Lines) (known : Known) (ways : List Way) (place : ℕ) : Type 0 where
  way : Way
  one_of : IsOneOf ways way
  there : is_of way.block (slice_get lines way.to) ≡ true
  differs : agrees on (slice_get known way.to) way.held ≡ false
  to : way.to ≡ place

meets : (on : Agreement) (lines : Lines) (known : Known) (ways : List Way) (place : ℕ)
    → IsAmong (meetings on lines known ways) place → Meets on lines known ways place
meets on lines known [] place none = absurd none
meets on lines known (way ∷ ways) place among =
    by (is_of way.block (slice_get lines way.to)) (agrees on (slice_get known way.to) way.held) refl refl
    (λ later. meets on lines known ways place later) among
  where
    later : Meets on lines known ways place → Meets on lines known (way ∷ ways) place
    later found =
        record {
          way = found.way;
          one_of = inr found.one_of;
          there = found.there;
          differs = found.differs;
          to = found.to;
        }

    by : (of agree : Bool) → is_of way.block (slice_get lines way.to) ≡ of
        → agrees on (slice_get known way.to) way.held ≡ agree
        → (IsAmong (meetings on lines known ways) place → Meets on lines known ways place)
        → IsAmong (if of && not agree then way.to ∷ meetings on lines known ways else meetings on lines known ways) place
        → Meets on lines known (way ∷ ways) place
    by true false of agree rest (inl is) =
        record { way = way; one_of = inl refl; there = of; differs = agree; to = is }
    by true false of agree rest (inr among) = later (rest among)
    by true true of agree rest among = later (rest among)
    by false agree of is rest among = later (rest among)

-- ---- what is known was brought by some way

open_of : (block : ℕ) (line : Option (Option Line)) (known : Option (Option Held)) (found : Line)
    → open_line block line known ≡ Some found → is_of block line ≡ true
open_of block (Some (Some line)) (Some None) found is = by (line.block == block) is
  where
    by : (test : Bool) → (if test then Some line else None) ≡ Some found → test ≡ true
    by true is = refl
    by false is = absurd (cc)
open_of block (Some (Some line)) (Some (Some held)) found is = absurd (cc)
open_of block (Some (Some line)) None found is = absurd (cc)
open_of block (Some None) known found is = absurd (cc)
open_of block None known found is = absurd (cc)

module _ (lines : Lines) (blocks : List BlockCode) where
  abbrev AreComing : List Way → Type 0
  AreComing ways = (way : Way) → IsOneOf ways way → is_of way.block (slice_get lines way.to) ≡ true
      → Comes lines blocks way.to way.held

  abbrev HaveCome : Known → Type 0
  HaveCome known = (at : ℕ) (held : Held) → IsKnown at held known → Comes lines blocks at held

  set_came : (known : Known) (way : Way) → Comes lines blocks way.to way.held → HaveCome known
      → HaveCome (slice_set known way.to (Some way.held))
  set_came known way own so_far at held there = by (get_of_set known way.to (Some way.held) at (Some held) there)
    where
      by : ((way.to ≡ at) × (Some way.held ≡ Some held)) ⊎ IsKnown at held known → Comes lines blocks at held
      by (inl same) =
          subst (λ (n : ℕ). Comes lines blocks n held) same.0
          (subst (λ (h : Held). Comes lines blocks way.to h) (same_Some _ _ same.1) own)
      by (inr kept) = so_far at held kept

  step_came : (go : List Way → Known → Known)
      → ((ways : List Way) (known : Known) → AreComing ways → HaveCome known → HaveCome (go ways known))
      → (way : Way) (ways : List Way) (known : Known) (found : Option Line)
      → open_line way.block (slice_get lines way.to) (slice_get known way.to) ≡ found
      → AreComing (way ∷ ways) → HaveCome known → HaveCome (go_step blocks found go way ways known)
  step_came go came way ways known None is queue so_far =
      came ways known (λ one within. queue one (inr within)) so_far
  step_came go came way ways known (Some line) is queue so_far =
      came (ways ++ ways_on blocks line way.held) (slice_set known way.to (Some way.held))
      (λ one within. by one (one_of_either ways (ways_on blocks line way.held) one within))
      (set_came known way own so_far)
    where
      own : Comes lines blocks way.to way.held
      own = queue way (inl refl) (open_of way.block (slice_get lines way.to) (slice_get known way.to) line is)

      by : (one : Way) → IsOneOf ways one ⊎ IsOneOf (ways_on blocks line way.held) one
          → is_of one.block (slice_get lines one.to) ≡ true → Comes lines blocks one.to one.held
      by one (inl within) of = queue one (inr within) of
      by one (inr within) of =
          goes way.to way.held line one own
          (open_there way.block (slice_get lines way.to) (slice_get known way.to) line is).0 within of

  reach_came : (steps : ℕ) (ways : List Way) (known : Known) → AreComing ways → HaveCome known
      → HaveCome (reach lines blocks steps ways known)
  reach_came zero ways known queue so_far = so_far
  reach_came (suc steps) [] known queue so_far = so_far
  reach_came (suc steps) (way ∷ ways) known queue so_far =
      step_came (λ later now. reach lines blocks steps later now) (λ later now. reach_came steps later now) way ways known
      (open_line way.block (slice_get lines way.to) (slice_get known way.to)) refl queue so_far

  known_came : HaveCome (known_of lines blocks)
  unfolding known_of
  known_came =
      reach_came (length lines + length lines + 1) (first_ways blocks) (replicate (length lines) None)
      (λ way within of. begins way within)
      (λ at held there. absurd (nothing_known (length lines) at held there))

  -- two ways lead to a place and don't agree there
  record Apart (on : Agreement) (place : ℕ) : Type 0 where
    one : Held
    other : Held
    came : Comes lines blocks place one
    also : Comes lines blocks place other
    differs : agrees on (Some (Some one)) other ≡ false

  apart : (on : Agreement) (at : ℕ) (line : Line) (held : Held) (place : ℕ)
      → slice_get lines at ≡ Some (Some line) → IsKnown at held (known_of lines blocks)
      → Meets on lines (known_of lines blocks) (ways_on blocks line held) place → Apart on place
  apart on at line held place here known found =
      by (known_closed lines blocks at held line found.way known here found.one_of found.there)
    where
      by : IsReached (known_of lines blocks) found.way.to ⊎ ⊥ → Apart on place
      by (inl reached) =
          subst (λ (n : ℕ). Apart on n) found.to
          (record {
            one = reached.0;
            other = found.way.held;
            came = known_came found.way.to reached.0 reached.1;
            also = goes at held line found.way (known_came at held known) here found.one_of found.there;
            differs = subst (λ (k : Option (Option Held)). agrees on k found.way.held ≡ false) reached.1 found.differs;
          })
      by (inr none) = absurd none

-- ---- each rule

not_true : (test : Bool) → not test ≡ true → test ≡ false
not_true true is = absurd (false≢true is)
not_true false is = refl

jump_breaks : (lines : Lines) (place : ℕ) → jump_fault lines ≡ Some place → JumpBreaks lines place
jump_breaks lines place is =
    let found = somewhere (jump_faults lines) lines place is in by found.0 found.1 found.2 found.3
  where
    by : (at : ℕ) (line : Option Line) → slice_get lines at ≡ Some line → IsAmong (jump_faults lines at line) place
        → JumpBreaks lines place
    by at None here none = absurd none
    by at (Some line) here among =
        let test = if_among (jumps line.row.op && not (is_of line.block (slice_get lines line.first))) at place among in
        let parts = both (jumps line.row.op) (is_of line.block (slice_get lines line.first)) test.0 in
        subst (λ (n : ℕ). JumpBreaks lines n) test.1
        (record { line = line; here = here; jump = parts.0; target = parts.1 })
      where
        both : (first second : Bool) → (first && not second) ≡ true → (first ≡ true) × (second ≡ false)
        both true second is = (refl, not_true second is)
        both false second is = absurd (false≢true is)

module _ (literals : List Literal) (lines : Lines) (blocks : List BlockCode) where
  abbrev known : Known
  known = known_of lines blocks

  scopes_differ : (one other : Held) → same_scopes one other ≡ false
      → (one.scopes ≡ other.scopes) × (one.around ≡ other.around) → ⊥
  scopes_differ one other is same =
      let scopes : pointwise nat_eq one.scopes other.scopes ≡ true = (bytes_decides one.scopes other.scopes).1 same.0 in
      let around : nat_eq one.around other.around ≡ true = eq-eqb one.around other.around same.1 in
      let both : same_scopes one other ≡ true = rw scopes around in
      false≢true (sym is ∙ both)

  scope_breaks : (at : ℕ) (line : Line) (brought : Option (Option Held)) (place : ℕ)
      → slice_get lines at ≡ Some (Some line) → slice_get known at ≡ brought
      → IsAmong (scope_faults lines blocks known at line brought) place → OperandBreaks literals blocks lines place
  scope_breaks at line None place here is none = absurd none
  scope_breaks at line (Some None) place here is none = absurd none
  scope_breaks at line (Some (Some held)) place here is among =
      by (unless_among (scopes_fit line.row.op line.first line.second held)
      (meetings Scopes lines known (ways_on blocks line held)) at place among)
    where
      by : ((scopes_fit line.row.op line.first line.second held ≡ true)
          × IsAmong (meetings Scopes lines known (ways_on blocks line held)) place)
          ⊎ ((scopes_fit line.row.op line.first line.second held ≡ false) × (at ≡ place))
          → OperandBreaks literals blocks lines place
      by (inl fits) =
          let found = apart lines blocks Scopes at line held place here is
          (meets Scopes lines known (ways_on blocks line held) place fits.1) in
          scopes_apart found.one found.other found.came found.also (scopes_differ found.one found.other found.differs)
      by (inr broken) =
          subst (λ (n : ℕ). OperandBreaks literals blocks lines n) broken.1
          (unscoped line held here (known_came lines blocks at held is) broken.0)

  operand_breaks : (place : ℕ) → operand_fault literals lines blocks ≡ Some place
      → OperandBreaks literals blocks lines place
  operand_breaks place is =
      let found = somewhere (operand_faults literals lines blocks pushes known) lines place is in
      by found.0 found.1 found.2 found.3
    where
      pushes : List (Option ℕ)
      pushes = first_pushes 0 lines (no_pushes blocks)

      by_line : (at : ℕ) (line : Line) → slice_get lines at ≡ Some (Some line)
          → ((operands_fit literals blocks pushes at line ≡ true)
          × IsAmong (scope_faults lines blocks known at line (slice_get known at)) place)
          ⊎ ((operands_fit literals blocks pushes at line ≡ false) × (at ≡ place))
          → OperandBreaks literals blocks lines place
      by_line at line here (inl fits) = scope_breaks at line (slice_get known at) place here refl fits.1
      by_line at line here (inr broken) =
          subst (λ (n : ℕ). OperandBreaks literals blocks lines n) broken.1 (misnamed line here broken.0)

      by : (at : ℕ) (line : Option Line) → slice_get lines at ≡ Some line
          → IsAmong (operand_faults literals lines blocks pushes known at line) place
          → OperandBreaks literals blocks lines place
      by at None here none = absurd none
      by at (Some line) here among =
          by_line at line here
          (unless_among (operands_fit literals blocks pushes at line)
          (scope_faults lines blocks known at line (slice_get known at)) at place among)

  stack_by : (at : ℕ) (line : Line) (brought : Option (Option Held)) (place : ℕ)
      → slice_get lines at ≡ Some (Some line) → slice_get known at ≡ brought
      → IsAmong (stack_faults_by lines blocks known at line brought) place → StackBreaks blocks lines place
  stack_by at line None place here is none = absurd none
  stack_by at line (Some None) place here is none = absurd none
  stack_by at line (Some (Some held)) place here is among =
      by (unless_among (stack_fits lines line held.height)
      (meetings Height lines known (ways_on blocks line held)) at place among)
    where
      by : ((stack_fits lines line held.height ≡ true)
          × IsAmong (meetings Height lines known (ways_on blocks line held)) place)
          ⊎ ((stack_fits lines line held.height ≡ false) × (at ≡ place))
          → StackBreaks blocks lines place
      by (inl fits) =
          let found = apart lines blocks Height at line held place here is
          (meets Height lines known (ways_on blocks line held) place fits.1) in
          heights_apart found.one found.other found.came found.also
          (λ same. false≢true (sym found.differs ∙ eq-eqb found.one.height found.other.height same))
      by (inr broken) =
          subst (λ (n : ℕ). StackBreaks blocks lines n) broken.1
          (unfit line held here (known_came lines blocks at held is) broken.0)

  stack_breaks : (place : ℕ) → stack_fault lines blocks ≡ Some place → StackBreaks blocks lines place
  stack_breaks place is =
      let found = somewhere (stack_faults lines blocks known) lines place is in by found.0 found.1 found.2 found.3
    where
      by : (at : ℕ) (line : Option Line) → slice_get lines at ≡ Some line
          → IsAmong (stack_faults lines blocks known at line) place → StackBreaks blocks lines place
      by at None here none = absurd none
      by at (Some line) here among = stack_by at line (slice_get known at) place here refl among

-- ---- the first fault

line_breaks : (literals : List Literal) (blocks : List BlockCode) (read : Result Lines ℕ) (fault : CodeFault)
    → line_fault literals blocks read ≡ Some fault → Breaks literals blocks read fault
line_breaks literals blocks (Err place) fault is =
    subst (λ (one : CodeFault). Breaks literals blocks (Err place) one) (same_Some _ _ is) refl
line_breaks literals blocks (Ok lines) fault is =
    by (jump_fault lines) (operand_fault literals lines blocks) (stack_fault lines blocks) refl refl refl is
  where
    Wanted : CodeFault → Type 0
    Wanted one = Breaks literals blocks (Ok lines) one

    by : (jump operand stack : Option ℕ) → jump_fault lines ≡ jump → operand_fault literals lines blocks ≡ operand
        → stack_fault lines blocks ≡ stack
        → unless_at jump (λ at. Jump at) (unless_at operand (λ at. Operand at) (unless_at stack (λ at. Stack at) None))
        ≡ Some fault → Wanted fault
    by (Some place) operand stack one two three is =
        subst Wanted (same_Some _ _ is) (jump_breaks lines place one)
    by None (Some place) stack one two three is =
        subst Wanted (same_Some _ _ is) (operand_breaks literals lines blocks place two)
    by None None (Some place) one two three is =
        subst Wanted (same_Some _ _ is) (stack_breaks literals lines blocks place three)
    by None None None one two three is = absurd (cc)

pub code_breaks : (bytes : List ℕ) (literals : List Literal) (blocks : List BlockCode) (fault : CodeFault)
    → are_blocks (length bytes) blocks ≡ true → fault_of bytes literals blocks ≡ Some fault
    → Breaks literals blocks (lines_of bytes 0 blocks) fault
unfolding fault_of
code_breaks bytes literals blocks fault are is =
    line_breaks literals blocks (lines_of bytes 0 blocks) fault
    (subst (λ (test : Bool).
    (if test then line_fault literals blocks (lines_of bytes 0 blocks) else Some (Operand 0)) ≡ Some fault) are is)

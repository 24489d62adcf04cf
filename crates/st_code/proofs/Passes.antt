-- Where it is known what every way brings to each place, and every instruction is content with it,
-- no rule breaks.
use Rattle.std.proofs.Common.{◌≡◌, refl, sym, ap, subst, ◌∙◌, ◌⊎◌, inl, inr, ℕ, zero, suc, ◌+◌, ◌<◌, ◌≤◌, nat_eq, Bool, true, false, not, ◌&&◌, if◌then◌else◌, List, [], ◌∷◌, ◌++◌, length, length-append, replicate, slice_get, slice_set, ◌==◌, Option, None, Some, Result, Ok, option_to_list, option_map, arith}
use Rattle.std.specs.Cmp.Lexicographic.{pointwise, bytes_decides}
use Rattle.std.proofs.lemmas.Bool.{false≢true, eq-eqb}
use Rattle.std.proofs.lemmas.List.{length-replicate}
use Rattle.std.proofs.lemmas.Option.{same_Some}
use Rattle.op_table.specs.declared.ops.Op.{Op}
use Rattle.op_table.specs.declared.ops.Op.TheVariants as op
use Rattle.st_tree.specs.declared.nodes.Literal.{Literal}
use Rattle.st_code.specs.declared.blocks.BlockCode.{BlockCode}
use Rattle.st_code.specs.declared.fault.CodeFault.TheVariants.{Operand}
use Rattle.st_code.specs.declared.line.Line.{Line}
use Rattle.st_code.specs.declared.rules.Agreement.{Agreement}
use Rattle.st_code.specs.declared.rules.Agreement.TheVariants.{Scopes, Height}
use Rattle.st_code.specs.declared.ways.Way.{Way}
use Rattle.st_code.specs.Held.{Held}
use Rattle.st_code.specs.Lines.{Lines, lines_of, are_blocks, is_of}
use Rattle.st_code.specs.Operands.{first_pushes, operands_fit, pushes_block}
use Rattle.st_code.specs.Ways.{Known, open_line, go_step, reach, first_ways, start_way, jumps, goes_on, next_way, jump_way, block_way, ways_on, known_of}
use Rattle.st_code.specs.Comes.{IsOneOf}
use Rattle.st_code.specs.Faults.{lowest, lowest_fault, jump_faults, jump_fault, same, agrees, meetings, scopes_fit, scope_faults, operand_faults, no_pushes, operand_fault, stack_fits, stack_faults_by, stack_faults, stack_fault, line_fault, fault_of}
use Rattle.st_code.specs.Content.{IsMark, start_held, Leads, Content}
use Rattle.st_code.proofs.Agree.{IsKnown}

-- ---- lists

get_within : {A : Type 0} (xs : List A) (at : ℕ) (x : A) → slice_get xs at ≡ Some x → at < length xs
get_within [] at x is = absurd (cc)
get_within (first ∷ rest) zero x is = omega arith
get_within (first ∷ rest) (suc at) x is = omega (arith, get_within rest at x is)

within_get : {A : Type 0} (xs : List A) (at : ℕ) → at < length xs → (x : A) × (slice_get xs at ≡ Some x)
within_get [] at within = absurd (omega arith)
within_get (first ∷ rest) zero within = (first, refl)
within_get (first ∷ rest) (suc at) within = within_get rest at (omega arith)

set_length : {A : Type 0} (xs : List A) (at : ℕ) (x : A) → length (slice_set xs at x) ≡ length xs
set_length [] at x = refl
set_length (first ∷ rest) zero x = refl
set_length (first ∷ rest) (suc at) x = ap (λ (n : ℕ). suc n) (set_length rest at x)

pub get_of_set : {A : Type 0} (xs : List A) (at : ℕ) (x : A) (other : ℕ) (y : A)
    → slice_get (slice_set xs at x) other ≡ Some y
    → ((at ≡ other) × (x ≡ y)) ⊎ (slice_get xs other ≡ Some y)
get_of_set [] at x other y is = inr is
get_of_set (first ∷ rest) zero x zero y is = inl (refl, same_Some _ _ is)
get_of_set (first ∷ rest) zero x (suc other) y is = inr is
get_of_set (first ∷ rest) (suc at) x zero y is = inr is
get_of_set (first ∷ rest) (suc at) x (suc other) y is = one_further (get_of_set rest at x other y is)
  where
    one_further : ((at ≡ other) × (x ≡ y)) ⊎ (slice_get rest other ≡ Some y)
        → ((suc at ≡ suc other) × (x ≡ y)) ⊎ (slice_get rest other ≡ Some y)
    one_further (inl same) = inl (ap (λ (n : ℕ). suc n) same.0, same.1)
    one_further (inr kept) = inr kept

if_false : {A : Type 0} (test : Bool) (one two : A) → test ≡ false → (if test then one else two) ≡ two
if_false true one two is = absurd (false≢true (sym is))
if_false false one two is = refl

if_true : {A : Type 0} (test : Bool) (one two : A) → test ≡ true → (if test then one else two) ≡ one
if_true true one two is = refl
if_true false one two is = absurd (false≢true is)

pub one_of_either : (xs ys : List Way) (way : Way) → IsOneOf (xs ++ ys) way → IsOneOf xs way ⊎ IsOneOf ys way
one_of_either [] ys way is = inr is
one_of_either (x ∷ xs) ys way (inl is) = inl (inl is)
one_of_either (x ∷ xs) ys way (inr is) = further (one_of_either xs ys way is)
  where
    further : IsOneOf xs way ⊎ IsOneOf ys way → IsOneOf (x ∷ xs) way ⊎ IsOneOf ys way
    further (inl one) = inl (inr one)
    further (inr two) = inr two

one_of_first : (xs ys : List Way) (way : Way) → IsOneOf xs way → IsOneOf (xs ++ ys) way
one_of_first [] ys way is = absurd is
one_of_first (x ∷ xs) ys way (inl is) = inl is
one_of_first (x ∷ xs) ys way (inr is) = inr (one_of_first xs ys way is)

one_of_second : (xs ys : List Way) (way : Way) → IsOneOf ys way → IsOneOf (xs ++ ys) way
one_of_second [] ys way is = is
one_of_second (x ∷ xs) ys way is = inr (one_of_second xs ys way is)

-- ---- no fault anywhere

no_fault : (faults : ℕ → Option Line → List ℕ) (at : ℕ) (lines : Lines) (found : Option ℕ)
    → ((k : ℕ) (line : Option Line) → slice_get lines k ≡ Some line → faults (at + k) line ≡ [])
    → lowest_fault faults at lines found ≡ found
no_fault faults at [] found none = refl
no_fault faults at (first ∷ rest) found none =
    let here_at : at + 0 ≡ at = omega arith in
    let here : faults at first ≡ [] = subst (λ (n : ℕ). faults n first ≡ []) here_at (none 0 first refl) in
    ap (λ (places : List ℕ). lowest_fault faults (at + 1) rest (lowest found places)) here
    ∙ no_fault faults (at + 1) rest found
    (λ k line there.
    let next : at + suc k ≡ at + 1 + k = omega arith in
    subst (λ (n : ℕ). faults n line ≡ []) next (none (suc k) line there))

no_fault_at_all : (faults : ℕ → Option Line → List ℕ) (lines : Lines)
    → ((k : ℕ) (line : Option Line) → slice_get lines k ≡ Some line → faults k line ≡ [])
    → lowest_fault faults 0 lines None ≡ None
no_fault_at_all faults lines none =
    no_fault faults 0 lines None
    (λ k line there.
    let here : k ≡ 0 + k = omega arith in
    subst (λ (n : ℕ). faults n line ≡ []) here (none k line there))

-- ---- at most two steps lead from an instruction

at_most_one : {A : Type 0} (found : Option A) → length (option_to_list found) ≤ 1
at_most_one None = omega arith
at_most_one (Some x) = omega arith

not_both : (one : Op) → pushes_block one ≡ true → jumps one ≡ false
not_both op.PushBlock is = refl
not_both op.PushSelf is = absurd (false≢true is)
not_both op.PushNil is = absurd (false≢true is)
not_both op.PushTrue is = absurd (false≢true is)
not_both op.PushFalse is = absurd (false≢true is)
not_both op.PushLit is = absurd (false≢true is)
not_both op.MakeLit is = absurd (false≢true is)
not_both op.PushLocal is = absurd (false≢true is)
not_both op.StoreLocal is = absurd (false≢true is)
not_both op.PushName is = absurd (false≢true is)
not_both op.StoreName is = absurd (false≢true is)
not_both op.Pop is = absurd (false≢true is)
not_both op.Dup is = absurd (false≢true is)
not_both op.Send is = absurd (false≢true is)
not_both op.SuperSend is = absurd (false≢true is)
not_both op.ReturnMethod is = absurd (false≢true is)
not_both op.ReturnHome is = absurd (false≢true is)
not_both op.ReturnBlock is = absurd (false≢true is)
not_both op.Jump is = absurd (false≢true is)
not_both op.JumpTrue is = absurd (false≢true is)
not_both op.JumpFalse is = absurd (false≢true is)
not_both op.Unit is = absurd (false≢true is)
not_both op.Enter is = absurd (false≢true is)
not_both op.Leave is = absurd (false≢true is)
not_both op.LoopStart is = absurd (false≢true is)
not_both op.LoopNext is = absurd (false≢true is)
not_both op.LoopStep is = absurd (false≢true is)

one_of_two : (block jump : Bool) (way other : Option Way) → (block ≡ true → jump ≡ false)
    → length (option_to_list (if jump then way else None) ++ option_to_list (if block then other else None)) ≤ 1
one_of_two true jump way other apart =
    let is = apart refl in rw is (at_most_one other)
one_of_two false true way other apart =
    omega (arith, at_most_one way, length-append (option_to_list way) [])
one_of_two false false way other apart = omega arith

two_ways : (blocks : List BlockCode) (line : Line) (held : Held) → length (ways_on blocks line held) ≤ 2
two_ways blocks line held =
    let next = option_to_list (next_way line held) in
    let rest = option_to_list (jump_way line held) ++ option_to_list (block_way blocks line held) in
    let few : length rest ≤ 1 = one_of_two (pushes_block line.row.op) (jumps line.row.op) _ _ (not_both line.row.op) in
    omega (arith, length-append next rest, few, at_most_one (next_way line held))

-- ---- what is known is marked

-- every step from a marked place leads to one that has the mark which it brings
abbrev Lead : Lines → List BlockCode → List Held → Type 0
Lead lines blocks marks = (at : ℕ) (line : Line) (held : Held) → slice_get lines at ≡ Some (Some line)
    → IsMark marks at held → (way : Way) → IsOneOf (ways_on blocks line held) way → IsMark marks way.to way.held

one_of_some : (test : Bool) (one way : Way) → IsOneOf (option_to_list (if test then Some one else None)) way
    → (test ≡ true) × (one ≡ way)
one_of_some true one way (inl is) = (refl, is)
one_of_some true one way (inr is) = absurd is
one_of_some false one way is = absurd is

one_of_mapped : (test : Bool) (f : BlockCode → Way) (found : Option BlockCode) (way : Way)
    → IsOneOf (option_to_list (if test then option_map f found else None)) way
    → (test ≡ true) × (code : BlockCode) × (found ≡ Some code) × (f code ≡ way)
one_of_mapped true f (Some code) way (inl is) = (refl, code, refl, is)
one_of_mapped true f (Some code) way (inr is) = absurd is
one_of_mapped true f None way is = absurd is
one_of_mapped false f found way is = absurd is

leads_on : (blocks : List BlockCode) (marks : List Held) (line : Line) (held : Held) → Leads blocks marks line held
    → (way : Way) → IsOneOf (ways_on blocks line held) way → IsMark marks way.to way.held
leads_on blocks marks line held leads way within =
    by (one_of_either (option_to_list (next_way line held))
    (option_to_list (jump_way line held) ++ option_to_list (block_way blocks line held)) way within)
  where
    last : IsOneOf (option_to_list (jump_way line held)) way ⊎ IsOneOf (option_to_list (block_way blocks line held)) way
        → IsMark marks way.to way.held
    last (inl jump) =
        let found = one_of_some (jumps line.row.op) _ way jump in
        subst (λ (w : Way). IsMark marks w.to w.held) found.1 (leads.target found.0)
    last (inr block) =
        let found = one_of_mapped (pushes_block line.row.op) (start_way line.first held.scopes)
        (slice_get blocks line.first) way block in
        subst (λ (w : Way). IsMark marks w.to w.held) found.3 (leads.pushed found.0 found.1 found.2)

    by : IsOneOf (option_to_list (next_way line held)) way
        ⊎ IsOneOf (option_to_list (jump_way line held) ++ option_to_list (block_way blocks line held)) way
        → IsMark marks way.to way.held
    by (inl next) =
        let found = one_of_some (goes_on line.row.op) _ way next in
        subst (λ (w : Way). IsMark marks w.to w.held) found.1 (leads.next found.0)
    by (inr later) =
        last (one_of_either (option_to_list (jump_way line held)) (option_to_list (block_way blocks line held)) way later)

starts : (blocks : List BlockCode) (marks : List Held)
    → ((block : BlockCode) → slice_get blocks 0 ≡ Some block → IsMark marks block.start (start_held [] block))
    → (way : Way) → IsOneOf (first_ways blocks) way → IsMark marks way.to way.held
starts [] marks start way within = absurd within
starts (first ∷ later) marks start way (inl is) =
    subst (λ (w : Way). IsMark marks w.to w.held) is (start first refl)
starts (first ∷ later) marks start way (inr none) = absurd none

abbrev AreMarked : List Held → List Way → Type 0
AreMarked marks ways = (way : Way) → IsOneOf ways way → IsMark marks way.to way.held

abbrev IsMarked : List Held → Known → Type 0
IsMarked marks known = (at : ℕ) (held : Held) → IsKnown at held known → IsMark marks at held

pub open_there : (block : ℕ) (line : Option (Option Line)) (known : Option (Option Held)) (found : Line)
    → open_line block line known ≡ Some found → (line ≡ Some (Some found)) × (known ≡ Some None)
open_there block (Some (Some line)) (Some None) found is = (by (line.block == block) is, refl)
  where
    by : (test : Bool) → (if test then Some line else None) ≡ Some found
        → Some (Some line) ≡ Some (Some found)
    by true is = ap (λ (one : Option Line). Some one) is
    by false is = absurd (cc)
open_there block (Some (Some line)) (Some (Some held)) found is = absurd (cc)
open_there block (Some (Some line)) None found is = absurd (cc)
open_there block (Some None) known found is = absurd (cc)
open_there block None known found is = absurd (cc)

open_none : (block : ℕ) (line : Option (Option Line)) (known : Option Held)
    → open_line block line (Some known) ≡ None → is_of block line ≡ true
    → (held : Held) × (known ≡ Some held)
open_none block (Some (Some line)) None is of = by (line.block == block) is of
  where
    by : (test : Bool) → (if test then Some line else None) ≡ None → test ≡ true
        → (held : Held) × (None ≡ Some held)
    by true is of = absurd (cc)
    by false is of = absurd (false≢true of)
open_none block (Some (Some line)) (Some held) is of = (held, refl)
open_none block (Some None) known is of = absurd (false≢true of)
open_none block None known is of = absurd (false≢true of)

of_within : (block : ℕ) (lines : Lines) (at : ℕ) → is_of block (slice_get lines at) ≡ true → at < length lines
of_within block [] at is = absurd (false≢true is)
of_within block (first ∷ rest) zero is = omega arith
of_within block (first ∷ rest) (suc at) is = omega (arith, of_within block rest at is)

module _ (lines : Lines) (blocks : List BlockCode) (marks : List Held) (lead : Lead lines blocks marks) where
  set_marked : (known : Known) (way : Way) → IsMark marks way.to way.held → IsMarked marks known
      → IsMarked marks (slice_set known way.to (Some way.held))
  set_marked known way own so_far at held there =
      by (get_of_set known way.to (Some way.held) at (Some held) there)
    where
      by : ((way.to ≡ at) × (Some way.held ≡ Some held)) ⊎ IsKnown at held known → IsMark marks at held
      by (inl same) =
          subst (λ (n : ℕ). IsMark marks n held) same.0
          (subst (λ (h : Held). IsMark marks way.to h) (same_Some _ _ same.1) own)
      by (inr kept) = so_far at held kept

  step_marked : (go : List Way → Known → Known)
      → ((ways : List Way) (known : Known) → AreMarked marks ways → IsMarked marks known
      → IsMarked marks (go ways known))
      → (way : Way) (ways : List Way) (known : Known) (found : Option Line)
      → open_line way.block (slice_get lines way.to) (slice_get known way.to) ≡ found
      → AreMarked marks (way ∷ ways) → IsMarked marks known
      → IsMarked marks (go_step blocks found go way ways known)
  step_marked go marked way ways known None is queue so_far =
      marked ways known (λ one within. queue one (inr within)) so_far
  step_marked go marked way ways known (Some line) is queue so_far =
      let there = open_there way.block (slice_get lines way.to) (slice_get known way.to) line is in
      let own = queue way (inl refl) in
      marked (ways ++ ways_on blocks line way.held) (slice_set known way.to (Some way.held))
      (λ one within. by (lead way.to line way.held there.0 own) one
      (one_of_either ways (ways_on blocks line way.held) one within))
      (set_marked known way own so_far)
    where
      by : AreMarked marks (ways_on blocks line way.held) → (one : Way)
          → IsOneOf ways one ⊎ IsOneOf (ways_on blocks line way.held) one → IsMark marks one.to one.held
      by new one (inl within) = queue one (inr within)
      by new one (inr within) = new one within

  reach_marked : (steps : ℕ) (ways : List Way) (known : Known) → AreMarked marks ways → IsMarked marks known
      → IsMarked marks (reach lines blocks steps ways known)
  reach_marked zero ways known queue so_far = so_far
  reach_marked (suc steps) [] known queue so_far = so_far
  reach_marked (suc steps) (way ∷ ways) known queue so_far =
      step_marked (λ later now. reach lines blocks steps later now)
      (λ later now. reach_marked steps later now) way ways known
      (open_line way.block (slice_get lines way.to) (slice_get known way.to)) refl queue so_far

-- ---- every step from a known place leads to a known one

abbrev pub IsReached : Known → ℕ → Type 0
IsReached known at = (held : Held) × IsKnown at held known

-- how many places aren't known yet
abbrev left : Known → ℕ
left [] = 0
left (None ∷ rest) = suc (left rest)
left (Some held ∷ rest) = left rest

left_replicate : (count : ℕ) → left (replicate count None) ≡ count
left_replicate zero = refl
left_replicate (suc count) = ap (λ (n : ℕ). suc n) (left_replicate count)

pub nothing_known : (count at : ℕ) (held : Held) → IsKnown at held (replicate count None) → ⊥
nothing_known zero at held is = absurd (cc)
nothing_known (suc count) zero held is = absurd (cc)
nothing_known (suc count) (suc at) held is = nothing_known count at held is

left_set : (known : Known) (at : ℕ) (held : Held) → slice_get known at ≡ Some None
    → suc (left (slice_set known at (Some held))) ≡ left known
left_set [] at held is = absurd (cc)
left_set (None ∷ rest) zero held is = refl
left_set (Some other ∷ rest) zero held is = absurd (cc)
left_set (None ∷ rest) (suc at) held is = ap (λ (n : ℕ). suc n) (left_set rest at held is)
left_set (Some other ∷ rest) (suc at) held is = left_set rest at held is

reached_set : (known : Known) (at : ℕ) (held : Held) (other : ℕ) → IsReached known other
    → IsReached (slice_set known at (Some held)) other
reached_set [] at held other there = there
reached_set (first ∷ rest) zero held zero there = (held, refl)
reached_set (first ∷ rest) zero held (suc other) there = there
reached_set (first ∷ rest) (suc at) held zero there = there
reached_set (first ∷ rest) (suc at) held (suc other) there = reached_set rest at held other there

set_there : (known : Known) (at : ℕ) (held : Held) → at < length known
    → IsReached (slice_set known at (Some held)) at
set_there [] at held within = absurd (omega arith)
set_there (first ∷ rest) zero held within = (held, refl)
set_there (first ∷ rest) (suc at) held within = set_there rest at held (omega arith)

module _ (lines : Lines) (blocks : List BlockCode) where
  -- a step from a known place leads to a known one, or is to be gone yet
  abbrev pub Owes : List Way → Known → Type 0
  Owes ways known = (at : ℕ) (held : Held) (line : Line) (way : Way) → IsKnown at held known
      → slice_get lines at ≡ Some (Some line) → IsOneOf (ways_on blocks line held) way
      → is_of way.block (slice_get lines way.to) ≡ true → IsReached known way.to ⊎ IsOneOf ways way

  known_there : (known : Known) (way : Way) → length known ≡ length lines
      → open_line way.block (slice_get lines way.to) (slice_get known way.to) ≡ None
      → is_of way.block (slice_get lines way.to) ≡ true → IsReached known way.to
  known_there known way same is of =
      let within = of_within way.block lines way.to of in
      let found = within_get known way.to (omega (arith, within, same)) in
      let opened : open_line way.block (slice_get lines way.to) (Some found.0) ≡ None =
      subst (λ (one : Option (Option Held)). open_line way.block (slice_get lines way.to) one ≡ None) found.1 is in
      let held = open_none way.block (slice_get lines way.to) found.0 opened of in
      (held.0, found.1 ∙ ap (λ (one : Option Held). Some one) held.1)

  passed_owes : (known : Known) (way : Way) (ways : List Way) → length known ≡ length lines
      → open_line way.block (slice_get lines way.to) (slice_get known way.to) ≡ None
      → Owes (way ∷ ways) known → Owes ways known
  passed_owes known way ways same is owes at held line one known_at line_at within of =
      by (owes at held line one known_at line_at within of)
    where
      by : IsReached known one.to ⊎ IsOneOf (way ∷ ways) one → IsReached known one.to ⊎ IsOneOf ways one
      by (inl there) = inl there
      by (inr (inl same_way)) =
          let is_there : is_of way.block (slice_get lines way.to) ≡ true =
          subst (λ (w : Way). is_of w.block (slice_get lines w.to) ≡ true) (sym same_way) of in
          inl (subst (λ (w : Way). IsReached known w.to) same_way (known_there known way same is is_there))
      by (inr (inr later)) = inr later

  gone_owes : (known : Known) (way : Way) (ways : List Way) (line : Line)
      → slice_get lines way.to ≡ Some (Some line) → slice_get known way.to ≡ Some None
      → Owes (way ∷ ways) known
      → Owes (ways ++ ways_on blocks line way.held) (slice_set known way.to (Some way.held))
  gone_owes known way ways line line_here unknown owes at held other one known_at line_at within of =
      by (get_of_set known way.to (Some way.held) at (Some held) known_at)
    where
      after : Known
      after = slice_set known way.to (Some way.held)

      new : List Way
      new = ways_on blocks line way.held

      old : IsReached known one.to ⊎ IsOneOf (way ∷ ways) one → IsReached after one.to ⊎ IsOneOf (ways ++ new) one
      old (inl there) = inl (reached_set known way.to way.held one.to there)
      old (inr (inl same_way)) =
          inl (subst (λ (w : Way). IsReached after w.to) same_way
          (set_there known way.to way.held (get_within known way.to None unknown)))
      old (inr (inr later)) = inr (one_of_first ways new one later)

      by : ((way.to ≡ at) × (Some way.held ≡ Some held)) ⊎ IsKnown at held known
          → IsReached after one.to ⊎ IsOneOf (ways ++ new) one
      by (inl same) =
          let line_same : Some (Some line) ≡ Some (Some other) =
          sym line_here ∙ ap (λ (n : ℕ). slice_get lines n) same.0 ∙ line_at in
          let is_line : line ≡ other = same_Some _ _ (same_Some _ _ line_same) in
          let is_held : way.held ≡ held = same_Some _ _ same.1 in
          inr (one_of_second ways new one
          (subst (λ (l : Line). IsOneOf (ways_on blocks l way.held) one) (sym is_line)
          (subst (λ (h : Held). IsOneOf (ways_on blocks other h) one) (sym is_held) within)))
      by (inr kept) = old (owes at held other one kept line_at within of)

  step_closed : (steps : ℕ) (go : List Way → Known → Known)
      → ((ways : List Way) (known : Known) → length known ≡ length lines
      → length ways + (left known + left known) ≤ steps → Owes ways known → Owes [] (go ways known))
      → (way : Way) (ways : List Way) (known : Known) (found : Option Line)
      → open_line way.block (slice_get lines way.to) (slice_get known way.to) ≡ found
      → length known ≡ length lines → suc (length ways) + (left known + left known) ≤ suc steps
      → Owes (way ∷ ways) known → Owes [] (go_step blocks found go way ways known)
  step_closed steps go closed way ways known None is same few owes =
      closed ways known same (omega (arith, few)) (passed_owes known way ways same is owes)
  step_closed steps go closed way ways known (Some line) is same few owes =
      let there = open_there way.block (slice_get lines way.to) (slice_get known way.to) line is in
      let new = ways_on blocks line way.held in
      closed (ways ++ new) (slice_set known way.to (Some way.held))
      (set_length known way.to (Some way.held) ∙ same)
      (omega (
        arith,
        few,
        length-append ways new,
        two_ways blocks line way.held,
        left_set known way.to way.held there.1,
      ))
      (gone_owes known way ways line there.0 there.1 owes)

  reach_closed : (steps : ℕ) (ways : List Way) (known : Known) → length known ≡ length lines
      → length ways + (left known + left known) ≤ steps → Owes ways known
      → Owes [] (reach lines blocks steps ways known)
  reach_closed zero [] known same few owes = owes
  reach_closed zero (way ∷ ways) known same few owes = absurd (omega (arith, few))
  reach_closed (suc steps) [] known same few owes = owes
  reach_closed (suc steps) (way ∷ ways) known same few owes =
      step_closed steps (λ later now. reach lines blocks steps later now)
      (λ later now. reach_closed steps later now) way ways known
      (open_line way.block (slice_get lines way.to) (slice_get known way.to)) refl same few owes

few_first : (blocks : List BlockCode) → length (first_ways blocks) ≤ 1
few_first [] = omega arith
few_first (first ∷ later) = omega arith

pub known_closed : (lines : Lines) (blocks : List BlockCode) → Owes lines blocks [] (known_of lines blocks)
unfolding known_of
known_closed lines blocks =
    let none : Known = replicate (length lines) None in
    reach_closed lines blocks (length lines + length lines + 1) (first_ways blocks) none
    (length-replicate (length lines) None)
    (omega (arith, few_first blocks, left_replicate (length lines)))
    (λ at held line way known_at line_at within of. absurd (nothing_known (length lines) at held known_at))

known_marked : (lines : Lines) (blocks : List BlockCode) (marks : List Held) → Lead lines blocks marks
    → AreMarked marks (first_ways blocks) → IsMarked marks (known_of lines blocks)
unfolding known_of
known_marked lines blocks marks lead start =
    let none : Known = replicate (length lines) None in
    reach_marked lines blocks marks lead (length lines + length lines + 1) (first_ways blocks) none start
    (λ at held known_at. absurd (nothing_known (length lines) at held known_at))

-- ---- no ways that don't agree

same_held : (on : Agreement) (held : Held) → same on held held ≡ true
same_held Scopes held =
    let scopes : pointwise nat_eq held.scopes held.scopes ≡ true = (bytes_decides held.scopes held.scopes).1 refl in
    let around : nat_eq held.around held.around ≡ true = eq-eqb held.around held.around refl in
    rw scopes around
same_held Height held = eq-eqb held.height held.height refl

no_meetings : (on : Agreement) (lines : Lines) (known : Known) (ways : List Way)
    → ((way : Way) → IsOneOf ways way → is_of way.block (slice_get lines way.to) ≡ true
    → agrees on (slice_get known way.to) way.held ≡ true)
    → meetings on lines known ways ≡ []
no_meetings on lines known [] agree = refl
no_meetings on lines known (way ∷ ways) agree =
    if_false (is_of way.block (slice_get lines way.to) && not (agrees on (slice_get known way.to) way.held))
    (way.to ∷ meetings on lines known ways) (meetings on lines known ways)
    (by (is_of way.block (slice_get lines way.to)) (agrees on (slice_get known way.to) way.held) (agree way (inl refl)))
    ∙ no_meetings on lines known ways (λ one within. agree one (inr within))
  where
    by : (of agreed : Bool) → (of ≡ true → agreed ≡ true) → (of && not agreed) ≡ false
    by true agreed so = let is = so refl in rw is refl
    by false agreed so = refl

-- ---- all rules

module _ (literals : List Literal) (blocks : List BlockCode) (lines : Lines) (marks : List Held)
    (content : Content literals blocks lines marks) where
  lead : Lead lines blocks marks
  lead at line held there is = leads_on blocks marks line held (content.leads at line held there is)

  known_is_mark : (at : ℕ) (held : Held) → IsKnown at held (known_of lines blocks) → IsMark marks at held
  known_is_mark = known_marked lines blocks marks lead (starts blocks marks content.start)

  agreed : (on : Agreement) (at : ℕ) (held : Held) (line : Line) → IsKnown at held (known_of lines blocks)
      → slice_get lines at ≡ Some (Some line)
      → meetings on lines (known_of lines blocks) (ways_on blocks line held) ≡ []
  agreed on at held line known_at line_at =
      no_meetings on lines (known_of lines blocks) (ways_on blocks line held)
      (λ way within of. by way
      (lead at line held line_at (known_is_mark at held known_at) way within)
      (known_closed lines blocks at held line way known_at line_at within of))
    where
      by : (way : Way) → IsMark marks way.to way.held → IsReached (known_of lines blocks) way.to ⊎ ⊥
          → agrees on (slice_get (known_of lines blocks) way.to) way.held ≡ true
      by way mark (inl there) =
          let same_mark : Some there.0 ≡ Some way.held = sym (known_is_mark way.to there.0 there.1) ∙ mark in
          let alike : same on there.0 way.held ≡ true =
          subst (λ (h : Held). same on there.0 h ≡ true) (same_Some _ _ same_mark) (same_held on there.0) in
          subst (λ (one : Option (Option Held)). agrees on one way.held ≡ true) (sym there.1) alike
      by way mark (inr never) = absurd never

  no_jump : (at : ℕ) (line : Option Line) → slice_get lines at ≡ Some line → jump_faults lines at line ≡ []
  no_jump at None there = refl
  no_jump at (Some line) there =
      if_false (jumps line.row.op && not (is_of line.block (slice_get lines line.first))) (at ∷ []) []
      (by (jumps line.row.op) (is_of line.block (slice_get lines line.first)) (content.jump at line there))
    where
      by : (does lands : Bool) → (does ≡ true → lands ≡ true) → (does && not lands) ≡ false
      by true lands so = let is = so refl in rw is refl
      by false lands so = refl

  no_scope : (at : ℕ) (line : Line) → slice_get lines at ≡ Some (Some line) → (known : Option (Option Held))
      → slice_get (known_of lines blocks) at ≡ known
      → scope_faults lines blocks (known_of lines blocks) at line known ≡ []
  no_scope at line there (Some (Some held)) is =
      if_true (scopes_fit line.row.op line.first line.second held)
      (meetings Scopes lines (known_of lines blocks) (ways_on blocks line held)) (at ∷ [])
      (content.scopes at line held there (known_is_mark at held is))
      ∙ agreed Scopes at held line is there
  no_scope at line there (Some None) is = refl
  no_scope at line there None is = refl

  no_operand : (at : ℕ) (line : Option Line) → slice_get lines at ≡ Some line
      → operand_faults literals lines blocks (first_pushes 0 lines (no_pushes blocks)) (known_of lines blocks) at line
      ≡ []
  no_operand at None there = refl
  no_operand at (Some line) there =
      if_true (operands_fit literals blocks (first_pushes 0 lines (no_pushes blocks)) at line)
      (scope_faults lines blocks (known_of lines blocks) at line (slice_get (known_of lines blocks) at)) (at ∷ [])
      (content.operands at line there)
      ∙ no_scope at line there (slice_get (known_of lines blocks) at) refl

  no_height : (at : ℕ) (line : Line) → slice_get lines at ≡ Some (Some line) → (known : Option (Option Held))
      → slice_get (known_of lines blocks) at ≡ known
      → stack_faults_by lines blocks (known_of lines blocks) at line known ≡ []
  no_height at line there (Some (Some held)) is =
      if_true (stack_fits lines line held.height)
      (meetings Height lines (known_of lines blocks) (ways_on blocks line held)) (at ∷ [])
      (content.stack at line held there (known_is_mark at held is))
      ∙ agreed Height at held line is there
  no_height at line there (Some None) is = refl
  no_height at line there None is = refl

  no_stack : (at : ℕ) (line : Option Line) → slice_get lines at ≡ Some line
      → stack_faults lines blocks (known_of lines blocks) at line ≡ []
  no_stack at None there = refl
  no_stack at (Some line) there = no_height at line there (slice_get (known_of lines blocks) at) refl

  no_line_fault : line_fault literals blocks (Ok lines) ≡ None
  no_line_fault =
      let jump : jump_fault lines ≡ None = no_fault_at_all (jump_faults lines) lines no_jump in
      let operand : operand_fault literals lines blocks ≡ None =
      no_fault_at_all (operand_faults literals lines blocks (first_pushes 0 lines (no_pushes blocks))
      (known_of lines blocks)) lines no_operand in
      let stack : stack_fault lines blocks ≡ None =
      no_fault_at_all (stack_faults lines blocks (known_of lines blocks)) lines no_stack in
      rw jump (rw operand (rw stack refl))

  pub passes : (bytes : List ℕ) → are_blocks (length bytes) blocks ≡ true → lines_of bytes 0 blocks ≡ Ok lines
      → fault_of bytes literals blocks ≡ None
  unfolding fault_of
  passes bytes are read =
      if_true (are_blocks (length bytes) blocks) (line_fault literals blocks (lines_of bytes 0 blocks)) (Some (Operand 0)) are
      ∙ ap (λ (one : Result Lines ℕ). line_fault literals blocks one) read ∙ no_line_fault

-- Ways through code: where an instruction leads, and what a way brings there.
use Rattle.std.specs.Prelude.{ℕ, zero, suc, ◌+◌, ◌-◌, ◌==◌, Bool, true, false, not, if◌then◌else◌, List, [], ◌∷◌, ◌++◌, length, drop, replicate, slice_get, slice_set, Option, None, Some, option_map, option_to_list}
use Rattle.op_table.specs.declared.ops.Op.{Op}
use Rattle.op_table.specs.declared.ops.Op.TheVariants.{Send, SuperSend, ReturnMethod, ReturnHome, ReturnBlock, Jump, JumpTrue, JumpFalse, Enter, Leave, LoopNext, LoopStep}
use Rattle.st_code.specs.declared.blocks.BlockCode.{BlockCode}
use Rattle.st_code.specs.declared.line.Line.{Line}
use Rattle.st_code.specs.declared.ways.Way.{Way}
use Rattle.st_code.specs.Held.{Held}
use Rattle.st_code.specs.Lines.{Lines}
use Rattle.st_code.specs.Operands.{pushes_block}

abbrev pub is_return : Op → Bool
is_return ReturnMethod = true
is_return ReturnHome = true
is_return ReturnBlock = true
is_return op = false

-- whether a way may lead to the target; to the next instruction
abbrev pub jumps : Op → Bool
jumps Jump = true
jumps JumpTrue = true
jumps JumpFalse = true
jumps LoopNext = true
jumps LoopStep = true
jumps op = false

abbrev pub goes_on : Op → Bool
goes_on Jump = false
goes_on op = not (is_return op)

-- how many values an instruction takes: a send takes its arguments too
abbrev pub arguments : Op → (count : ℕ) → ℕ
arguments Send count = count
arguments SuperSend count = count
arguments op count = 0

abbrev pub takes : Line → ℕ
takes line = line.row.pops + arguments line.row.op line.second

-- The height behind an instruction. At the end of a loop its two numbers are dropped, and nothing
-- is put.
abbrev pub height_after : Line → (puts : ℕ) → (height : ℕ) → ℕ
height_after line puts height = height - takes line + puts

abbrev pub puts_going_on : Op → (pushes : ℕ) → ℕ
puts_going_on LoopStep pushes = 0
puts_going_on op pushes = pushes

abbrev pub puts_jumping : Op → (pushes : ℕ) → ℕ
puts_jumping LoopNext pushes = 0
puts_jumping op pushes = pushes

-- the scopes behind an instruction
abbrev pub scopes_after : Op → (variables : ℕ) → List ℕ → List ℕ
scopes_after Enter variables scopes = variables ∷ scopes
scopes_after Leave variables scopes = drop 1 scopes
scopes_after op variables scopes = scopes

abbrev pub held_after : Line → (puts : ℕ) → Held → Held
held_after line puts held = record {
  height = height_after line puts held.height;
  scopes = scopes_after line.row.op line.first held.scopes;
  around = held.around;
}

-- the steps of a way from an instruction: to the next one, to the target, and to the start of a
-- block that is pushed
abbrev pub next_way : Line → Held → Option Way
next_way line held =
    if goes_on line.row.op
    then Some (record {
      to = line.next;
      block = line.block;
      held = held_after line (puts_going_on line.row.op line.row.pushes) held;
    })
    else None

abbrev pub jump_way : Line → Held → Option Way
jump_way line held =
    if jumps line.row.op
    then Some (record {
      to = line.first;
      block = line.block;
      held = held_after line (puts_jumping line.row.op line.row.pushes) held;
    })
    else None

-- the parameters and temporaries of a block are its outermost scope, in those where it is pushed
abbrev pub start_way : (number : ℕ) → (outer : List ℕ) → BlockCode → Way
start_way number outer block = record {
  to = block.start;
  block = number;
  held = record {
    height = 0;
    scopes = (block.params + block.temps) ∷ outer;
    around = suc (length outer);
  };
}

abbrev pub block_way : List BlockCode → Line → Held → Option Way
block_way blocks line held =
    if pushes_block line.row.op
    then option_map (start_way line.first held.scopes) (slice_get blocks line.first)
    else None

abbrev pub ways_on : List BlockCode → Line → Held → List Way
ways_on blocks line held = option_to_list (next_way line held)
    ++ (option_to_list (jump_way line held) ++ option_to_list (block_way blocks line held))

-- ---- what the first way brings to each place: of those of the fewest instructions

-- by the places, none where no way leads
abbrev pub Known : Type 0
Known = List (Option Held)

-- the instruction at a place in this block to which no way has come yet
abbrev pub open_line : (block : ℕ) → Option (Option Line) → Option (Option Held) → Option Line
open_line block (Some (Some line)) (Some None) = if line.block == block then Some line else None
open_line block line known = None

abbrev pub go_step : List BlockCode → Option Line → (List Way → Known → Known) → Way → List Way
    → Known → Known
go_step blocks None go way ways known = go ways known
go_step blocks (Some line) go way ways known =
    go (ways ++ ways_on blocks line way.held) (slice_set known way.to (Some way.held))

-- The steps are gone in turn. The first that comes to a place leaves there what it brings, and the
-- steps from there come behind all others.
abbrev pub reach : Lines → List BlockCode → (steps : ℕ) → List Way → Known → Known
reach lines blocks zero ways known = known
reach lines blocks (suc steps) [] known = known
reach lines blocks (suc steps) (way ∷ ways) known =
    go_step blocks
    (open_line way.block (slice_get lines way.to) (slice_get known way.to))
    (λ later now. reach lines blocks steps later now) way ways known

abbrev pub first_ways : List BlockCode → List Way
first_ways [] = []
first_ways (first ∷ later) = start_way 0 [] first ∷ []

-- at most two steps lead from a place
unfoldable pub known_of : Lines → List BlockCode → Known
known_of lines blocks =
    reach lines blocks (length lines + length lines + 1) (first_ways blocks)
    (replicate (length lines) None)

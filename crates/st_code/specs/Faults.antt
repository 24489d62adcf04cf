-- The rules of checked code, and the first place at which one breaks.
use Rattle.std.specs.Prelude.{◌≡◌, ◌⊎◌, ℕ, ◌+◌, ◌==◌, nat_lt, nat_le, Bool, true, false, not, ◌&&◌, ◌||◌, if◌then◌else◌, List, [], ◌∷◌, length, min, replicate, slice_get, Option, None, Some, Result, Ok, Err}
use Rattle.std.specs.Cmp.Lexicographic.{pointwise}
use Rattle.std.specs.Prelude.{nat_eq}
use Rattle.op_table.specs.declared.ops.Op.{Op}
use Rattle.op_table.specs.declared.ops.Op.TheVariants.{PushLocal, StoreLocal, Leave}
use Rattle.st_tree.specs.declared.nodes.Literal.{Literal}
use Rattle.st_code.specs.declared.blocks.BlockCode.{BlockCode}
use Rattle.st_code.specs.declared.fault.CodeFault.{CodeFault}
use Rattle.st_code.specs.declared.fault.CodeFault.TheVariants.{Byte, Jump, Operand, Stack, NoMemory}
use Rattle.st_code.specs.declared.line.Line.{Line}
use Rattle.st_code.specs.declared.rules.Agreement.{Agreement}
use Rattle.st_code.specs.declared.rules.Agreement.TheVariants.{Scopes, Height}
use Rattle.st_code.specs.declared.ways.Way.{Way}
use Rattle.st_code.specs.Held.{Held}
use Rattle.st_code.specs.Lines.{Lines, are_blocks, lines_of, is_of}
use Rattle.st_code.specs.Operands.{first_pushes, operands_fit}
use Rattle.st_code.specs.Ways.{Known, takes, is_return, jumps, goes_on, ways_on, known_of}

-- ---- the lowest of places

abbrev pub lower : Option ℕ → ℕ → ℕ
lower None place = place
lower (Some other) place = min other place

abbrev pub lowest : Option ℕ → List ℕ → Option ℕ
lowest found [] = found
lowest found (place ∷ places) = lowest (Some (lower found place)) places

-- the lowest place at which a rule breaks by what stands at these places
abbrev pub lowest_fault : (ℕ → Option Line → List ℕ) → (at : ℕ) → Lines → Option ℕ → Option ℕ
lowest_fault faults at [] found = found
lowest_fault faults at (line ∷ lines) found =
    lowest_fault faults (at + 1) lines (lowest found (faults at line))

-- ---- jumps: a target is an instruction of the same block

abbrev pub jump_faults : Lines → (at : ℕ) → Option Line → List ℕ
jump_faults lines at None = []
jump_faults lines at (Some line) =
    if jumps line.row.op && not (is_of line.block (slice_get lines line.first)) then at ∷ [] else []

abbrev pub jump_fault : Lines → Option ℕ
jump_fault lines = lowest_fault (jump_faults lines) 0 lines None

-- ---- places where ways meet that don't agree

abbrev pub same_scopes : Held → Held → Bool
same_scopes first second =
    pointwise nat_eq first.scopes second.scopes && first.around == second.around

abbrev pub same_height : Held → Held → Bool
same_height first second = first.height == second.height

abbrev pub same : Agreement → Held → Held → Bool
same Scopes = same_scopes
same Height = same_height

abbrev pub agrees : Agreement → Option (Option Held) → Held → Bool
agrees on (Some (Some first)) held = same on first held
agrees on other held = false

-- of these steps, the places to which the first way brought something else
abbrev pub meetings : Agreement → Lines → Known → List Way → List ℕ
meetings on lines known [] = []
meetings on lines known (way ∷ ways) =
    if is_of way.block (slice_get lines way.to)
    && not (agrees on (slice_get known way.to) way.held)
    then way.to ∷ meetings on lines known ways
    else meetings on lines known ways

-- ---- operands: literals, blocks and variables are there, and ways agree on the open scopes

abbrev pub is_variable : Option ℕ → (index : ℕ) → Bool
is_variable None index = false
is_variable (Some variables) index = nat_lt index variables

-- a variable is one of an open scope, and only a scope that the block itself opened is closed
abbrev pub scopes_fit : Op → (first second : ℕ) → Held → Bool
scopes_fit PushLocal depth index held = is_variable (slice_get held.scopes depth) index
scopes_fit StoreLocal depth index held = is_variable (slice_get held.scopes depth) index
scopes_fit Leave first second held = nat_lt held.around (length held.scopes)
scopes_fit op first second held = true

abbrev pub scope_faults : Lines → List BlockCode → Known → (at : ℕ) → Line → Option (Option Held)
    → List ℕ
scope_faults lines blocks known at line (Some (Some held)) =
    if scopes_fit line.row.op line.first line.second held
    then meetings Scopes lines known (ways_on blocks line held) else at ∷ []
scope_faults lines blocks known at line other = []

abbrev pub operand_faults : List Literal → Lines → List BlockCode → List (Option ℕ) → Known
    → (at : ℕ) → Option Line → List ℕ
operand_faults literals lines blocks pushes known at None = []
operand_faults literals lines blocks pushes known at (Some line) =
    if operands_fit literals blocks pushes at line
    then scope_faults lines blocks known at line (slice_get known at) else at ∷ []

abbrev pub no_pushes : List BlockCode → List (Option ℕ)
no_pushes blocks = replicate (length blocks) None

abbrev pub operand_fault : List Literal → Lines → List BlockCode → Option ℕ
operand_fault literals lines blocks =
    lowest_fault
    (operand_faults literals lines blocks (first_pushes 0 lines (no_pushes blocks))
    (known_of lines blocks))
    0 lines None

-- ---- the stack: an instruction finds what it takes, a return one value, no way runs past the
-- block's end, and ways agree on the height

abbrev pub stack_fits : Lines → Line → (height : ℕ) → Bool
stack_fits lines line height =
    nat_le (takes line) height && (not (is_return line.row.op) || height == 1)
    && (not (goes_on line.row.op) || is_of line.block (slice_get lines line.next))

abbrev pub stack_faults_by : Lines → List BlockCode → Known → (at : ℕ) → Line
    → Option (Option Held) → List ℕ
stack_faults_by lines blocks known at line (Some (Some held)) =
    if stack_fits lines line held.height
    then meetings Height lines known (ways_on blocks line held) else at ∷ []
stack_faults_by lines blocks known at line other = []

abbrev pub stack_faults : Lines → List BlockCode → Known → (at : ℕ) → Option Line → List ℕ
stack_faults lines blocks known at None = []
stack_faults lines blocks known at (Some line) =
    stack_faults_by lines blocks known at line (slice_get known at)

abbrev pub stack_fault : Lines → List BlockCode → Option ℕ
stack_fault lines blocks =
    lowest_fault (stack_faults lines blocks (known_of lines blocks)) 0 lines None

-- ---- the first fault, in the order of the rules

abbrev pub unless_at : Option ℕ → (ℕ → CodeFault) → Option CodeFault → Option CodeFault
unless_at None fault later = later
unless_at (Some place) fault later = Some (fault place)

abbrev pub line_fault : List Literal → List BlockCode → Result Lines ℕ → Option CodeFault
line_fault literals blocks (Err place) = Some (Byte place)
line_fault literals blocks (Ok lines) =
    unless_at (jump_fault lines) (λ at. Jump at)
    (unless_at (operand_fault literals lines blocks) (λ at. Operand at)
    (unless_at (stack_fault lines blocks) (λ at. Stack at) None))

unfoldable pub fault_of : List ℕ → List Literal → List BlockCode → Option CodeFault
fault_of bytes literals blocks =
    if are_blocks (length bytes) blocks
    then line_fault literals blocks (lines_of bytes 0 blocks)
    else Some (Operand 0)

-- the fault is the first one, or memory ran out
abbrev pub IsFault : Option CodeFault → CodeFault → Type 0
IsFault first fault = (first ≡ Some fault) ⊎ (fault ≡ NoMemory)

-- What operands may be: literals and blocks.
use Rattle.std.specs.Prelude.{ℕ, ◌+◌, ◌==◌, nat_lt, Bool, true, false, not, ◌&&◌, ◌||◌, if◌then◌else◌, List, [], ◌∷◌, slice_get, slice_set, Option, None, Some}
use Rattle.op_table.specs.declared.ops.Op.{Op}
use Rattle.op_table.specs.declared.ops.Op.TheVariants.{PushLit, MakeLit, PushName, StoreName, Send, SuperSend, PushBlock}
use Rattle.st_tree.specs.declared.nodes.Literal.{Literal}
use Rattle.st_tree.specs.declared.nodes.Literal.TheVariants.{Str, Sym, Array}
use Rattle.st_code.specs.declared.blocks.BlockCode.{BlockCode}
use Rattle.st_code.specs.declared.line.Line.{Line}
use Rattle.st_code.specs.Lines.{Lines}

-- a symbol; a string or an array, each of which is a new object
abbrev pub is_symbol : Literal → Bool
is_symbol (Sym text) = true
is_symbol other = false

abbrev pub is_new : Literal → Bool
is_new (Str text) = true
is_new (Array items) = true
is_new other = false

abbrev pub is_some_symbol : Option Literal → Bool
is_some_symbol None = false
is_some_symbol (Some literal) = is_symbol literal

-- The literal of an instruction is a symbol where it is a name or a selector; a string or an array
-- where it makes an object; and neither where it is a value.
abbrev pub literal_fits : Op → Option Literal → Bool
literal_fits PushLit (Some literal) = not (is_new literal)
literal_fits PushLit None = false
literal_fits MakeLit (Some literal) = is_new literal
literal_fits MakeLit None = false
literal_fits PushName found = is_some_symbol found
literal_fits StoreName found = is_some_symbol found
literal_fits Send found = is_some_symbol found
literal_fits SuperSend found = is_some_symbol found
literal_fits op found = true

abbrev pub pushes_block : Op → Bool
pushes_block PushBlock = true
pushes_block op = false

-- ---- where each block is first pushed

abbrev pub note_place : (number at : ℕ) → List (Option ℕ) → Option (Option ℕ) → List (Option ℕ)
note_place number at pushes (Some None) = slice_set pushes number (Some at)
note_place number at pushes other = pushes

abbrev pub note_push : (at : ℕ) → Option Line → List (Option ℕ) → List (Option ℕ)
note_push at None pushes = pushes
note_push at (Some line) pushes =
    if pushes_block line.row.op then note_place line.first at pushes (slice_get pushes line.first)
    else pushes

-- by the blocks' numbers, with what is known of the places before these
abbrev pub first_pushes : (at : ℕ) → Lines → List (Option ℕ) → List (Option ℕ)
first_pushes at [] pushes = pushes
first_pushes at (line ∷ lines) pushes = first_pushes (at + 1) lines (note_push at line pushes)

abbrev pub is_first_push : (at : ℕ) → Option (Option ℕ) → Bool
is_first_push at (Some (Some place)) = place == at
is_first_push at other = false

-- A block is pushed once, and in an earlier block.
abbrev pub push_fits : (at : ℕ) → Line → List (Option ℕ) → Bool
push_fits at line pushes =
    not (pushes_block line.row.op)
    || (nat_lt line.block line.first && is_first_push at (slice_get pushes line.first))

abbrev pub is_pushed : Option (Option ℕ) → Bool
is_pushed (Some (Some place)) = true
is_pushed other = false

abbrev pub is_start : (at : ℕ) → Option BlockCode → Bool
is_start at None = false
is_start at (Some block) = block.start == at

-- each block but the first is pushed, or else the rule breaks at its start
abbrev pub start_fits : (at : ℕ) → Line → List BlockCode → List (Option ℕ) → Bool
start_fits at line blocks pushes =
    line.block == 0 || not (is_start at (slice_get blocks line.block))
    || is_pushed (slice_get pushes line.block)

-- what an instruction's operands have to be, whatever way leads to it
abbrev pub operands_fit : List Literal → List BlockCode → List (Option ℕ) → (at : ℕ) → Line → Bool
operands_fit literals blocks pushes at line =
    literal_fits line.row.op (slice_get literals line.first)
    && push_fits at line pushes
    && start_fits at line blocks pushes

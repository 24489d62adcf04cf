-- What every way brings to each place, as a claim about code.
use Rattle.std.specs.Prelude.{◌≡◌, ℕ, suc, ◌+◌, true, List, [], ◌∷◌, length, slice_get, Some}
use Rattle.st_tree.specs.declared.nodes.Literal.{Literal}
use Rattle.st_code.specs.declared.blocks.BlockCode.{BlockCode}
use Rattle.st_code.specs.declared.line.Line.{Line}
use Rattle.st_code.specs.Held.{Held}
use Rattle.st_code.specs.Lines.{Lines, is_of}
use Rattle.st_code.specs.Operands.{first_pushes, operands_fit, pushes_block}
use Rattle.st_code.specs.Ways.{jumps, goes_on, puts_going_on, puts_jumping, held_after}
use Rattle.st_code.specs.Faults.{scopes_fit, no_pushes, stack_fits}

-- the mark of a place says what is brought there
abbrev pub IsMark : List Held → ℕ → Held → Type 0
IsMark marks at held = slice_get marks at ≡ Some held

-- what a block begins with that is pushed where these scopes are open
abbrev pub start_held : (outer : List ℕ) → BlockCode → Held
start_held outer block = record {
  height = 0;
  scopes = (block.params + block.temps) ∷ outer;
  around = suc (length outer);
}

-- The marks are those of the steps from this instruction, to which its own mark brings this.
pub record Leads (blocks : List BlockCode) (marks : List Held) (line : Line) (held : Held)
    : Type 0 where
  pub next : goes_on line.row.op ≡ true
      → IsMark marks line.next (held_after line (puts_going_on line.row.op line.row.pushes) held)
  pub target : jumps line.row.op ≡ true
      → IsMark marks line.first (held_after line (puts_jumping line.row.op line.row.pushes) held)
  pub pushed : pushes_block line.row.op ≡ true → (block : BlockCode)
      → slice_get blocks line.first ≡ Some block
      → IsMark marks block.start (start_held held.scopes block)

-- Every instruction is content with its own mark, and the marks are kept by all steps.
pub record Content (literals : List Literal) (blocks : List BlockCode) (lines : Lines)
    (marks : List Held) : Type 0 where
  pub start : (block : BlockCode) → slice_get blocks 0 ≡ Some block
      → IsMark marks block.start (start_held [] block)
  pub jump : (at : ℕ) (line : Line) → slice_get lines at ≡ Some (Some line)
      → jumps line.row.op ≡ true → is_of line.block (slice_get lines line.first) ≡ true
  pub operands : (at : ℕ) (line : Line) → slice_get lines at ≡ Some (Some line)
      → operands_fit literals blocks (first_pushes 0 lines (no_pushes blocks)) at line ≡ true
  pub scopes : (at : ℕ) (line : Line) (held : Held) → slice_get lines at ≡ Some (Some line)
      → IsMark marks at held → scopes_fit line.row.op line.first line.second held ≡ true
  pub stack : (at : ℕ) (line : Line) (held : Held) → slice_get lines at ≡ Some (Some line)
      → IsMark marks at held → stack_fits lines line held.height ≡ true
  pub leads : (at : ℕ) (line : Line) (held : Held) → slice_get lines at ≡ Some (Some line)
      → IsMark marks at held → Leads blocks marks line held

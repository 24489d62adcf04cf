-- What a method, a chunk and a made block mean, once their variables stand in the innermost scope.
use Rattle.std.specs.Prelude.{ℕ, true, false, [], ◌∷◌, ◌++◌, length}
use Rattle.object_programs.specs.st_tree.Trees.{Closure, closure, Statements, Program}
use Rattle.object_programs.specs.Run.{return_to, and_then}
use Rattle.tree_meaning.specs.Place.{Place, Frame}
use Rattle.tree_meaning.specs.Operands.{ValueRun}
use Rattle.tree_meaning.specs.Parts.{statements_in_turn}
use Rattle.tree_meaning.specs.Meaning.{Outside, statement_runs}

-- where a method's or a chunk's statements stand
abbrev pub method_place : Program → Place
method_place tree = record { names = (tree.params ++ tree.temps) ∷ []; in_block = false }

-- where a block's statements stand, if the block stands at this place
abbrev pub block_place : Closure → Place → Place
block_place (closure params temps body) place =
    record { names = (params ++ temps) ∷ place.names; in_block = true }

-- how many parameters and how many temporaries a block has, and its statements
abbrev pub params_count : Closure → ℕ
params_count (closure params temps body) = length params

abbrev pub temps_count : Closure → ℕ
temps_count (closure params temps body) = length temps

abbrev pub statements_of : Closure → Statements
statements_of (closure params temps body) = body

module _ (outside : Outside) where
  -- A method answers `self`, as if `^self` stood at its end.
  unfoldable pub method_body : Program → Frame → ValueRun
  method_body tree frame =
      and_then (statements_in_turn (statement_runs outside tree.body) (method_place tree) frame)
      (λ answer. return_to frame.receiver frame.home)

  -- A chunk answers its last statement's value, as if `^` stood before that, and nil where it is
  -- empty.
  unfoldable pub chunk_body : Program → Frame → ValueRun
  chunk_body tree frame =
      and_then (statements_in_turn (statement_runs outside tree.body) (method_place tree) frame)
      (λ answer. return_to answer frame.home)

  -- A block answers its last statement's value, and nil where it is empty.
  unfoldable pub block_body : Closure → Place → Frame → ValueRun
  block_body tree place frame =
      statements_in_turn (statement_runs outside (statements_of tree)) (block_place tree place)
      frame

-- Activations: how a method and a block run, once it is known what they do.
use Rattle.std.specs.Prelude.{ℕ, Bool, nat_eq, List, [], ◌∷◌, ◌++◌, length, replicate, slice_get, Option, None, Some}
use Rattle.object_programs.specs.st_tree.Trees.{Closure}
use Rattle.object_programs.specs.gem_object.declared.value.Value.{Value}
use Rattle.object_programs.specs.gem_object.declared.value.Value.TheVariants as value
use Rattle.object_programs.specs.Local.{Local}
use Rattle.object_programs.specs.Run.{give, fail, seeing, become, and_then, ending}
use Rattle.object_programs.specs.Programs.{check}
use Rattle.object_programs.specs.declared.fault.Fault.TheVariants as fault
use Rattle.tree_meaning.specs.Place.{Place, Frame, MadeBlock}
use Rattle.tree_meaning.specs.Operands.{ValueRun}
use Rattle.tree_meaning.specs.Scopes.{mark, with_scope, open_scope, begin_method, leave_method, leave_block}
use Rattle.tree_meaning.specs.Bodies.{params_count}

-- the frame of a method that begins when so much stands
abbrev pub method_frame : (holder : ℕ) → (class_side : Bool) → (receiver : Value)
    → Local MadeBlock → Frame
method_frame holder class_side receiver local = record {
  scopes = mark local ∷ [];
  receiver = receiver;
  home = length local.living;
  holder = holder;
  class_side = class_side;
}

-- The activation of a method or a chunk: a scope with its arguments and its temporaries, the body,
-- and the end, at which a value that returns to it is its answer.
unfoldable pub activation : (body : Frame → ValueRun) → (temps : ℕ) → (holder : ℕ)
    → (class_side : Bool) → (receiver : Value) → (arguments : List Value) → ValueRun
activation body temps holder class_side receiver arguments = seeing (λ budget local.
    and_then (become (begin_method (arguments ++ replicate temps value.Nil) local)) (λ begun.
    ending (body (method_frame holder class_side receiver local)) (λ end.
    leave_method (mark local) end)))

-- The evaluation of a made block: a scope with its arguments and its temporaries inside the scopes
-- in which it was made, the body, and the end.
unfoldable pub evaluation : (body : Frame → ValueRun) → (temps : ℕ) → Frame
    → (arguments : List Value) → ValueRun
evaluation body temps frame arguments = seeing (λ budget local.
    and_then (become (open_scope (arguments ++ replicate temps value.Nil) local)) (λ opened.
    ending (body (with_scope (mark local) frame)) (λ end.
    leave_block (mark local) end)))

-- A block that is handed arguments: E9 unless they are as many as its parameters. E5 where there is
-- no block of this number, which comes of no value that a chunk has.
abbrev pub call_block : (MadeBlock → List Value → ValueRun) → Option MadeBlock
    → (arguments : List Value) → ValueRun
call_block call None arguments = fail fault.ArgumentKind
call_block call (Some made) arguments =
    and_then (check fault.BlockArgumentCount
    (nat_eq (length arguments) (params_count made.tree))) (λ checked.
    call made arguments)

unfoldable pub call_block_at : (MadeBlock → List Value → ValueRun) → (number : ℕ)
    → (arguments : List Value) → ValueRun
call_block_at call number arguments =
    seeing (λ budget local. call_block call (slice_get local.blocks number) arguments)

-- A new block: it keeps its tree, its place and the frame, and has the next number.
unfoldable pub make_block : Closure → Place → Frame → ValueRun
make_block tree place frame = seeing (λ budget local.
    and_then (become (record local {
      blocks = local.blocks ++ record { tree = tree; place = place; frame = frame } ∷ [];
    })) (λ made.
    give (value.Block (record { number = length local.blocks; params = params_count tree }))))

-- Where a part of a tree stands: what is known of it before anything runs, and what an activation
-- knows when it comes there.
use Rattle.std.specs.Prelude.{ℕ, Bool, List}
use Rattle.object_programs.specs.texts.Bytes.{Bytes as Text}
use Rattle.object_programs.specs.st_tree.Trees.{Closure}
use Rattle.object_programs.specs.gem_object.declared.value.Value.{Value}
use Rattle.tree_meaning.specs.declared.place.Mark.{Mark}

-- What is known of a place in a tree before anything runs.
pub record Place : Type 0 where
  -- the variables that are in scope, by their scopes, the innermost one first
  pub names : List (List Text)
  -- whether the place is in a block that is made; a block that is evaluated in its place, as the
  -- arm of `ifTrue:`, belongs to what is around it
  pub in_block : Bool

-- What an activation knows while it runs.
pub record Frame : Type 0 where
  -- the scopes, each by what stood when it was opened, the innermost one first
  pub scopes : List Mark
  -- what `self` is
  pub receiver : Value
  -- the number of the activation from which `^` answers
  pub home : ℕ
  -- the class that holds the method, and whether the method is one of its class side
  pub holder : ℕ
  pub class_side : Bool

-- A block that was made: its tree, where it stands, and what the activation knew that made it.
pub record MadeBlock : Type 0 where
  pub tree : Closure
  pub place : Place
  pub frame : Frame

-- What a program has beside objects and budgets.
use Rattle.std.specs.Prelude.{Bool, List, []}
use Rattle.gem_object.specs.declared.value.Value.{Value}

-- Variables, blocks and activations. What a made block holds isn't known here: it is of type B.
pub record Local (B : Type 0) : Type 0 where
  -- the variables, by their scopes, in the order in which these were opened
  pub scopes : List (List Value)
  -- the blocks that were made, the first one first
  pub blocks : List B
  -- the activations that began, the first one first, and whether each still lives
  pub living : List Bool

-- before anything is evaluated
abbrev pub nothing : (B : Type 0) → Local B
nothing B = record { scopes = []; blocks = []; living = [] }

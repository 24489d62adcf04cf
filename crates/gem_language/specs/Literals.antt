-- Literals: a string or an array that is written out in the text is a new object in each
-- evaluation.
use Rattle.std.specs.Prelude.{Bool, true, ◌&&◌, nat_le, length, List, [], ◌∷◌}
use Rattle.gem_object.specs.texts.declared.limits.TheConstants.{SYMBOL_LIMIT}
use Rattle.object_programs.specs.st_tree.Trees.{Constant, int, char, str, sym, nothing, yes, no, array, Constants, no_constants, a_constant}
use Rattle.gem_object.specs.declared.value.Value.{Value}
use Rattle.gem_object.specs.declared.value.Value.TheVariants as value
use Rattle.gem_object.specs.declared.body.Body.TheVariants as body
use Rattle.object_programs.specs.Run.{Run, give, and_then}
use Rattle.object_programs.specs.Programs.{check}
use Rattle.object_programs.specs.declared.fault.Fault.TheVariants as fault
use Rattle.tree_meaning.specs.Place.{MadeBlock}
use Rattle.tree_meaning.specs.Operands.{ValueRun}
use Rattle.prim_rules.specs.Parts.{new_object}
use Rattle.object_programs.specs.gem_sound.declared.names.TheConstants.{ARRAY_CLASS, STRING_CLASS}

-- Whether each symbol in a literal has at most 1,000 bytes, at any depth. In an array identifiers
-- and keywords stand for symbols, and may be longer; a symbol that is written with `#` is not.
abbrev mutual
  pub has_symbols : Constant → Bool
  has_symbols (sym bytes) = nat_le (length bytes) SYMBOL_LIMIT
  has_symbols (array items) = have_symbols items
  has_symbols (int number) = true
  has_symbols (char code) = true
  has_symbols (str bytes) = true
  has_symbols nothing = true
  has_symbols yes = true
  has_symbols no = true

  pub have_symbols : Constants → Bool
  have_symbols no_constants = true
  have_symbols (a_constant first rest) = has_symbols first && have_symbols rest

-- The value of a literal, and those of the elements of an array, from left to right. The elements
-- are made before their array: so inner objects are drawn before outer ones.
abbrev mutual
  pub constant_value : Constant → ValueRun
  constant_value (int number) = give (value.Int number)
  constant_value (char code) = give (value.Char code)
  constant_value (str bytes) = new_object STRING_CLASS (body.Bytes bytes)
  constant_value (sym bytes) = give (value.Sym bytes)
  constant_value nothing = give value.Nil
  constant_value yes = give value.True
  constant_value no = give value.False
  constant_value (array items) =
      and_then (constant_values items) (λ values. new_object ARRAY_CLASS (body.Plain values))

  pub constant_values : Constants → Run MadeBlock (List Value)
  constant_values no_constants = give []
  constant_values (a_constant first rest) =
      and_then (constant_value first) (λ answer.
      and_then (constant_values rest) (λ others.
      give (answer ∷ others)))

-- the value of a literal; E17 before anything is made where a symbol in it is too long
unfoldable pub literal_value : Constant → ValueRun
literal_value tree =
    and_then (check fault.ObjectTooLarge (has_symbols tree)) (λ short. constant_value tree)

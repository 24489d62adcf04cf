-- What a literal makes, by cases.
use Rattle.std.specs.Prelude.{◌≡◌, ◌<◌, length, List, [], ◌∷◌, Some}
use Rattle.gem_object.specs.texts.Bytes.{Bytes as Text}
use Rattle.gem_object.specs.texts.declared.limits.TheConstants.{SYMBOL_LIMIT}
use Rattle.object_programs.specs.st_tree.Trees.{Constant, str, sym, array, Constants, no_constants, a_constant}
use Rattle.gem_object.specs.declared.value.Value.{Value}
use Rattle.gem_object.specs.declared.body.Body.TheVariants as body
use Rattle.object_programs.specs.gem_world.World.{Setting}
use Rattle.object_programs.specs.Run.{State, gives}
use Rattle.tree_meaning.specs.Place.{MadeBlock}
use Rattle.tree_meaning.specs.Meaning.{plain_constant}
use Rattle.prim_rules.specs.Parts.{new_object}
use Rattle.gem_language.specs.Comes.{Comes}
use Rattle.object_programs.specs.gem_sound.declared.names.TheConstants.{ARRAY_CLASS, STRING_CLASS}

mutual
  -- A literal has this value.
  pub data HasLiteral (setting : Setting) : Constant → (state : State MadeBlock) → Value
      → (after : State MadeBlock) → Type 0 where
    -- a number, a character, a symbol, nil, true or false: nothing is made
    plain : (tree : Constant) (state : State MadeBlock) (answer : Value)
        → plain_constant tree ≡ Some answer → HasLiteral setting tree state answer state
    -- a string: a new String
    a_string : (bytes : Text) (state after : State MadeBlock) (answer : Value)
        → Comes (new_object STRING_CLASS (body.Bytes bytes)) setting state (gives answer) after
        → HasLiteral setting (str bytes) state answer after
    -- an array: its elements first, and then a new Array of them
    an_array : (items : Constants) (values : List Value) (state between after : State MadeBlock)
        (answer : Value) → HaveLiterals setting items state values between
        → Comes (new_object ARRAY_CLASS (body.Plain values)) setting between (gives answer) after
        → HasLiteral setting (array items) state answer after

  -- The elements of an array have these values, made from left to right.
  pub data HaveLiterals (setting : Setting) : Constants → (state : State MadeBlock) → List Value
      → (after : State MadeBlock) → Type 0 where
    no_elements : (state : State MadeBlock) → HaveLiterals setting no_constants state [] state
    an_element : (first : Constant) (rest : Constants) (answer : Value) (others : List Value)
        (state between after : State MadeBlock) → HasLiteral setting first state answer between
        → HaveLiterals setting rest between others after
        → HaveLiterals setting (a_constant first rest) state (answer ∷ others) after

mutual
  -- A symbol in a literal is too long.
  pub data HasLongSymbol : Constant → Type 0 where
    long : (bytes : Text) → SYMBOL_LIMIT < length bytes → HasLongSymbol (sym bytes)
    within : (items : Constants) → HaveLongSymbol items → HasLongSymbol (array items)

  pub data HaveLongSymbol : Constants → Type 0 where
    in_first : (first : Constant) (rest : Constants) → HasLongSymbol first
        → HaveLongSymbol (a_constant first rest)
    in_rest : (first : Constant) (rest : Constants) → HaveLongSymbol rest
        → HaveLongSymbol (a_constant first rest)

-- What a name stands for at a place.
use Rattle.std.specs.Prelude.{ℕ, suc, Bool, cond, if◌then◌else◌, List, [], ◌∷◌, Option, None, Some, option_map, codes, bytes_eq}
use Rattle.object_programs.specs.texts.Bytes.{Bytes as Text}
use Rattle.object_programs.specs.gem_object.declared.value.Value.{Value}
use Rattle.object_programs.specs.gem_object.declared.value.Value.TheVariants as value
use Rattle.tree_meaning.specs.declared.name.Singleton.{Singleton}
use Rattle.tree_meaning.specs.declared.name.Singleton.TheVariants as singleton
use Rattle.tree_meaning.specs.declared.name.Where.{Where}
use Rattle.tree_meaning.specs.declared.name.Where.TheVariants.{Receiver, Fixed, Variable, OutOfScope}

-- where a name stands among these, counted from 0
abbrev pub index_of : Text → List Text → Option ℕ
index_of name [] = None
index_of name (first ∷ rest) =
    cond (bytes_eq name first) (Some 0) (option_map (λ index. suc index) (index_of name rest))

-- the same variable, seen from one scope further in
abbrev pub one_deeper : Where → Where
one_deeper (Variable depth index) = Variable (suc depth) index
one_deeper other = other

-- the variable of this scope, where there is one, and else what is found around it
abbrev pub innermost : Option ℕ → Where → Where
innermost (Some index) around = Variable 0 index
innermost None around = one_deeper around

-- the variable of a name, looked for from the innermost scope outwards
abbrev pub variable_in : Text → List (List Text) → Where
variable_in name [] = OutOfScope
variable_in name (scope ∷ scopes) = innermost (index_of name scope) (variable_in name scopes)

-- whether a name is `super`
abbrev pub is_super : Text → Bool
is_super name = bytes_eq name (codes "super")

-- What a name stands for, where these variables are in scope. `super` is the receiver too: where
-- the look-up of a message to it begins is said with the message.
unfoldable pub where_is : Text → List (List Text) → Where
where_is name names =
    if bytes_eq name (codes "self") then Receiver
    else if is_super name then Receiver
    else if bytes_eq name (codes "nil") then Fixed singleton.Nil
    else if bytes_eq name (codes "true") then Fixed singleton.True
    else if bytes_eq name (codes "false") then Fixed singleton.False
    else variable_in name names

-- the value of a name that always stands for the same object
abbrev pub singleton_value : Singleton → Value
singleton_value singleton.Nil = value.Nil
singleton_value singleton.True = value.True
singleton_value singleton.False = value.False

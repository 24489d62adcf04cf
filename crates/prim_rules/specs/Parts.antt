-- What the rules of primitives share: what an argument is, what a body holds, and new objects.
use Rattle.std.specs.Prelude.{ℕ, ℤ, Bool, true, false, nat_eq, length, sum_by, List, [], ◌∷◌, Option, None, Some}
use Rattle.std.specs.List.{list_any}
use Rattle.gem_object.specs.texts.Bytes.{Bytes as Text}
pub use Rattle.gem_object.specs.References.{reference_of as reference_in}
use Rattle.gem_object.specs.seg_rights.declared.rights.Rights.{Rights}
use Rattle.gem_object.specs.declared.value.Value.{Value}
use Rattle.gem_object.specs.declared.value.Value.TheVariants.{Nil, False, True, Int, Char, Sym, Ref, Block}
use Rattle.gem_object.specs.declared.value.BlockRef.{BlockRef}
use Rattle.gem_object.specs.declared.body.ClassBody.{ClassBody}
use Rattle.gem_object.specs.declared.body.UserBody.{UserBody}
use Rattle.gem_object.specs.declared.body.Body.{Body}
use Rattle.gem_object.specs.declared.body.Body.TheVariants as body
use Rattle.object_programs.specs.gem_sound.declared.names.TheConstants.{UNDEFINED_OBJECT_CLASS, TRUE_CLASS, FALSE_CLASS, CHARACTER_CLASS, SMALL_INTEGER_CLASS, BLOCK_CLASS, SYMBOL_CLASS}
use Rattle.object_programs.specs.Atom.{Who}
use Rattle.object_programs.specs.Run.{Run, give, atom, and_then}
use Rattle.object_programs.specs.Programs.{need, check, read, known, classes_above, make_object}
use Rattle.object_programs.specs.declared.fault.Fault.TheVariants as fault
use Rattle.prim_rules.specs.declared.answer.PrimitiveAnswer.{PrimitiveAnswer}
use Rattle.prim_rules.specs.declared.answer.PrimitiveAnswer.TheVariants.{Gives}

-- what a value is, where it is of this kind
abbrev pub int_in : Value → Option ℤ
int_in (Int number) = Some number
int_in _ = None

abbrev pub character_in : Value → Option ℕ
character_in (Char code) = Some code
character_in _ = None

abbrev pub symbol_in : Value → Option Text
symbol_in (Sym name) = Some name
symbol_in _ = None

abbrev pub block_in : Value → Option BlockRef
block_in (Block block) = Some block
block_in _ = None

abbrev pub is_block : Value → Bool
is_block (Block _) = true
is_block _ = false

abbrev pub truth : Bool → Value
truth true = True
truth false = False

-- what a body holds, where it is of this kind
abbrev pub slots_in : Body → Option (List Value)
slots_in (body.Plain values) = Some values
slots_in _ = None

abbrev pub bytes_in : Body → Option Text
bytes_in (body.Bytes bytes) = Some bytes
bytes_in _ = None

abbrev pub pairs_in : Body → Option (List (Value × Value))
pairs_in (body.Dict pairs) = Some pairs
pairs_in _ = None

abbrev pub class_in : Body → Option ClassBody
class_in (body.Class class) = Some class
class_in _ = None

abbrev pub segment_in : Body → Option (Rights Text)
segment_in (body.Segment rights) = Some rights
segment_in _ = None

abbrev pub user_in : Body → Option UserBody
user_in (body.User user) = Some user
user_in _ = None

-- the one argument, the two, and the three; whether there is none
abbrev pub one_of : List Value → Option Value
one_of (value ∷ []) = Some value
one_of _ = None

abbrev pub two_of : List Value → Option (Value × Value)
two_of (first ∷ second ∷ []) = Some (first, second)
two_of _ = None

abbrev pub three_of : List Value → Option (Value × (Value × Value))
three_of (first ∷ second ∷ third ∷ []) = Some (first, (second, third))
three_of _ = None

abbrev pub is_empty : List Value → Bool
is_empty [] = true
is_empty (first ∷ rest) = false

-- the class of a value that isn't a reference, by its name
abbrev pub class_of_plain : Value → Option ℕ
class_of_plain Nil = Some UNDEFINED_OBJECT_CLASS
class_of_plain True = Some TRUE_CLASS
class_of_plain False = Some FALSE_CLASS
class_of_plain (Int _) = Some SMALL_INTEGER_CLASS
class_of_plain (Char _) = Some CHARACTER_CLASS
class_of_plain (Sym _) = Some SYMBOL_CLASS
class_of_plain (Block _) = Some BLOCK_CLASS
class_of_plain (Ref _) = None

module _ {B : Type 0} where
  -- E5, unless there are no arguments
  abbrev pub no_arguments : List Value → Run B (Unit {0})
  no_arguments arguments = check fault.ArgumentKind (is_empty arguments)

  -- the class of a value, by its fixed part: without a touch
  abbrev pub class_of_reference : ℕ → Run B ℕ
  class_of_reference name =
      and_then (known fault.ArgumentKind name) (λ fixed. give fixed.class)

  abbrev pub class_of_value : Value → Run B ℕ
  class_of_value (Ref name) = class_of_reference name
  class_of_value value = need fault.ArgumentKind (class_of_plain value)

  -- whether a class is this one or under it, without a touch
  abbrev pub is_under : (class ancestor : ℕ) → Run B Bool
  is_under class ancestor = and_then (classes_above class) (λ classes.
      give (list_any (λ entry. nat_eq entry.0 ancestor) classes))

  -- whether a value is an instance of this class or of one under it, without a touch
  unfoldable pub is_kind_of : Value → (class : ℕ) → Run B Bool
  is_kind_of value class = and_then (class_of_value value) (λ own. is_under own class)

  -- E5, unless it is
  abbrev pub check_kind : Value → (class : ℕ) → Run B (Unit {0})
  check_kind value class =
      and_then (is_kind_of value class) (λ is_one. check fault.ArgumentKind is_one)

  -- how many named slots the instances of a class have, without a touch
  unfoldable pub named_slots : (class : ℕ) → Run B ℕ
  named_slots class = and_then (classes_above class) (λ classes.
      give (sum_by (λ entry. length entry.1.names) classes))

  -- the segment in which the user's new objects lie: the profile is read
  unfoldable pub default_segment : Run B ℕ
  default_segment =
      and_then (atom Who) (λ user.
      and_then (read user) (λ profile.
      and_then (need (fault.NoReadRight user) (user_in profile.body)) (λ found.
      give found.default_segment)))

  -- a new object of this class and body in a segment; a reference to it
  unfoldable pub new_object_in : (segment class : ℕ) → Body → Run B Value
  new_object_in segment class body =
      and_then (make_object (λ name. record { class = class; segment = segment; body = body }))
      (λ name. give (Ref name))

  -- the same in the user's default segment
  unfoldable pub new_object : (class : ℕ) → Body → Run B Value
  new_object class body = and_then default_segment (λ segment. new_object_in segment class body)

  -- a program that ends with a value as the answer of a primitive
  abbrev pub answers : Run B Value → Run B PrimitiveAnswer
  answers program = and_then program (λ value. give (Gives value))

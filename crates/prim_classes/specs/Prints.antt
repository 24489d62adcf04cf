-- How print texts are put together: what is printed of a value and of an object, and that a text
-- isn't kept which is too long.
use Rattle.std.specs.Prelude.{ℕ, Bool, true, false, nat_eq, cond, [], ◌∷◌, ◌++◌, Option, None, Some, codes}
use Rattle.gem_object.specs.texts.Bytes.{Bytes as Text}
use Rattle.gem_object.specs.declared.value.Value.{Value}
use Rattle.gem_object.specs.declared.value.Value.TheVariants.{Nil, False, True, Int, Char, Sym, Ref, Block}
use Rattle.gem_object.specs.declared.body.Body.{Body}
use Rattle.gem_object.specs.declared.body.Body.TheVariants.{Plain, Bytes, Class}
use Rattle.object_programs.specs.Run.{Run, give, and_then}
use Rattle.object_programs.specs.Programs.{check, read}
use Rattle.object_programs.specs.declared.fault.Fault.TheVariants as fault
use Rattle.gem_sound.specs.declared.names.TheConstants.{ARRAY_CLASS, STRING_CLASS}
use Rattle.prim_rules.specs.Parts.{default_segment, new_object_in}
use Rattle.prim_rules.specs.Texts.{quoted, symbol_text, decimal_text}
use Rattle.prim_rules.specs.Printing.{is_short, body_text, named_text, slots_text}
use Rattle.prim_classes.specs.declared.printing.ValuePrint.{ValuePrint}
use Rattle.prim_classes.specs.declared.printing.ValuePrint.TheVariants as value_print
use Rattle.prim_classes.specs.declared.printing.ObjectPrint.{ObjectPrint}
use Rattle.prim_classes.specs.declared.printing.ObjectPrint.TheVariants as object_print

-- what is printed of a value: a text of its own, or that of the object to which it refers
abbrev pub print_of_value : Value → ValuePrint
print_of_value Nil = value_print.Own (codes "nil")
print_of_value False = value_print.Own (codes "false")
print_of_value True = value_print.Own (codes "true")
print_of_value (Int number) = value_print.Own (decimal_text number)
print_of_value (Char code) = value_print.Own (36 ∷ code ∷ [])
print_of_value (Sym name) = value_print.Own (symbol_text name)
print_of_value (Ref name) = value_print.Object name
print_of_value (Block _) = value_print.Own (codes "a Block")

-- what is printed of an object of this class: a text of its own, its elements, or its class's name
abbrev pub print_of_object : (class : ℕ) → Body → ObjectPrint
print_of_object class (Bytes bytes) = object_print.Own (quoted bytes)
print_of_object class (Class found) = object_print.Own found.name
print_of_object class (Plain slots) =
    cond (nat_eq class ARRAY_CLASS) (object_print.Elements slots) object_print.ByClass
print_of_object class _ = object_print.ByClass

-- whether a text of its own is printed of an object with this body
abbrev pub has_own_text : Body → Bool
has_own_text (Bytes _) = true
has_own_text (Class _) = true
has_own_text _ = false

-- a text that isn't too long
abbrev pub short : Text → Option Text
short text = cond (is_short text) (Some text) None

-- the text so far with the text of one element more, where it isn't too long
abbrev pub joined : Option Text → Text → Option Text
joined None text = None
joined (Some so_far) text = short (so_far ++ (32 ∷ text))

-- the text of an Array, by that of its elements
abbrev pub enclosed : Text → Text
enclosed text = codes "#(" ++ (text ++ codes ")")

module _ {B : Type 0} where
  -- an object, where it is an element: it is read
  abbrev pub element_object : (name : ℕ) → Run B Text
  element_object name = and_then (read name)
      (λ object. body_text (λ class slots. named_text class) object.class object.body)

  -- an object: it is read
  abbrev pub whole_object : (name : ℕ) → Run B Text
  whole_object name = and_then (read name) (λ object. body_text slots_text object.class object.body)

  -- the accesses of a program alone
  abbrev pub skimmed : Run B Text → Run B (Unit {0})
  skimmed program = and_then program (λ text. give tt)

  -- a program whose text isn't kept where it is too long
  abbrev pub shortened : Run B Text → Run B (Option Text)
  shortened program = and_then program (λ text. give (short text))

  -- a new String of a text: the profile is read before E17 of the text
  abbrev pub print_string_of : Text → Run B Value
  print_string_of text =
      and_then default_segment (λ segment.
      and_then (check fault.ObjectTooLarge (is_short text)) (λ short.
      new_object_in segment STRING_CLASS (Bytes text)))

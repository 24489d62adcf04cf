-- The print text of a value.
use Rattle.std.specs.Prelude.{ℕ, Bool, nat_eq, nat_le, length, List, [], ◌∷◌, ◌++◌, codes}
use Rattle.gem_object.specs.texts.Bytes.{Bytes as Text}
use Rattle.gem_object.specs.declared.value.Value.{Value}
use Rattle.gem_object.specs.declared.value.Value.TheVariants.{Nil, False, True, Int, Char, Sym, Ref, Block}
use Rattle.gem_object.specs.declared.body.Body.{Body}
use Rattle.gem_object.specs.declared.body.Body.TheVariants.{Plain, Bytes, Class}
use Rattle.object_programs.specs.gem_image.Image.{Contents}
use Rattle.object_programs.specs.Run.{Run, give, and_then}
use Rattle.object_programs.specs.Programs.{choose, need, check, read}
use Rattle.object_programs.specs.declared.limits.TheConstants.{PRINT_LIMIT}
use Rattle.object_programs.specs.declared.fault.Fault.TheVariants as fault
use Rattle.prim_rules.specs.Parts.{class_in}
use Rattle.prim_rules.specs.Texts.{quoted, symbol_text, with_article, decimal_text}
use Rattle.object_programs.specs.gem_sound.declared.names.TheConstants.{ARRAY_CLASS}

abbrev pub is_short : Text → Bool
is_short text = nat_le (length text) PRINT_LIMIT

module _ {B : Type 0} where
  -- an instance by the name of its class, which is read
  abbrev pub named_text : (class : ℕ) → Run B Text
  named_text class =
      and_then (read class) (λ object.
      and_then (need fault.ArgumentKind (class_in object.body)) (λ found.
      give (with_article found.name)))

  -- A value. An object is read, and printed by this function.
  abbrev pub value_text : (Contents → Run B Text) → Value → Run B Text
  value_text object_text Nil = give (codes "nil")
  value_text object_text False = give (codes "false")
  value_text object_text True = give (codes "true")
  value_text object_text (Int number) = give (decimal_text number)
  value_text object_text (Char code) = give (36 ∷ code ∷ [])
  value_text object_text (Sym name) = give (symbol_text name)
  value_text object_text (Ref name) = and_then (read name) object_text
  value_text object_text (Block _) = give (codes "a Block")

  -- An object of this class with this body: a String in quotes, a class by its name, slots by this
  -- function, and all else by the name of the class.
  abbrev pub body_text : (ℕ → List Value → Run B Text) → (class : ℕ) → Body → Run B Text
  body_text slots_text class (Bytes bytes) = give (quoted bytes)
  body_text slots_text class (Class found) = give found.name
  body_text slots_text class (Plain slots) = slots_text class slots
  body_text slots_text class _ = named_text class

  -- an element of an Array: another Array by the name of its class alone
  abbrev pub element_text : Value → Run B Text
  element_text value = value_text
      (λ object. body_text (λ class slots. named_text class) object.class object.body) value

  -- elements, with one space between
  abbrev pub with_elements : (so_far : Text) → List Value → Run B Text
  with_elements so_far [] = give so_far
  with_elements so_far (element ∷ rest) =
      and_then (element_text element) (λ text. with_elements (so_far ++ (32 ∷ text)) rest)

  abbrev pub elements_text : List Value → Run B Text
  elements_text [] = give []
  elements_text (first ∷ rest) = and_then (element_text first) (λ text. with_elements text rest)

  -- an Array: `#(`, its elements and `)`
  abbrev pub array_text : List Value → Run B Text
  array_text elements =
      and_then (elements_text elements) (λ text. give (codes "#(" ++ (text ++ codes ")")))

  -- slots: those of an instance of Array itself are printed, of others the name of the class
  abbrev pub slots_text : (class : ℕ) → List Value → Run B Text
  slots_text class slots =
      choose (nat_eq class ARRAY_CLASS) (array_text slots) (named_text class)

  -- the print text, however long it is
  unfoldable pub whole_text : Value → Run B Text
  whole_text value =
      value_text (λ object. body_text slots_text object.class object.body) value

  -- the print text: E17 where it is too long, after all its accesses
  unfoldable pub print_text : Value → Run B Text
  print_text value =
      and_then (whole_text value) (λ text.
      and_then (check fault.ObjectTooLarge (is_short text)) (λ short.
      give text))

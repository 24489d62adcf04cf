-- The words of the rules of classes by which the code is grouped.
use Rattle.std.specs.Prelude.{◌≡◌, ℕ, List, [], map, Result, Ok, Err}
use Rattle.gem_object.specs.declared.value.Value.{Value}
use Rattle.gem_object.specs.declared.value.Value.TheVariants.{Sym}
use Rattle.gem_object.specs.declared.body.ClassBody.{ClassBody}
use Rattle.gem_object.specs.declared.body.Body.TheVariants as body
use Rattle.gem_object.specs.texts.Bytes.{Bytes as Text}
use Rattle.object_programs.specs.Run.{Run, give, and_then}
use Rattle.object_programs.specs.Programs.{replace_body}
use Rattle.gem_image.specs.Image.{Contents}
use Rattle.running_objects.specs.declared.stop.Stop.{Stop}
use Rattle.prim_rules.specs.Parts.{pairs_in, default_segment, answers}
use Rattle.prim_rules.specs.Receivers.{write_receiver, answer}
use Rattle.prim_rules.specs.declared.answer.PrimitiveAnswer.{PrimitiveAnswer}
use Rattle.prim_rules.specs.Making.{make_and_enter}
use Rattle.prim_rules.specs.Classes.{NewClass, superclass_value, class_entry, new_class, kind_to_inherit, names_to_add}
use Rattle.prim_classes.specs.declared.classes.ClassFact.{ClassFact}
use Rattle.prim_classes.specs.declared.classes.ClassFact.TheVariants.{Name, Superclass}
use Rattle.prim_classes.specs.declared.classes.ClassList.{ClassList}
use Rattle.prim_classes.specs.declared.classes.ClassList.TheVariants.{Names, Selectors}

-- what a class tells of itself
abbrev pub told_by : ClassFact → ClassBody → Value
told_by Name class = Sym class.name
told_by Superclass class = superclass_value class.superclass

-- what a class lists of itself
abbrev pub listed_by : ClassList → ClassBody → List Value
listed_by Names class = map Sym class.names
listed_by Selectors class = map (λ method. Sym method.selector) class.methods

-- the class that is to be made, with the dictionary that is to have it
abbrev pub with_dictionary : Value → Result ClassBody Stop → Result NewClass Stop
with_dictionary dictionary (Ok class) = Ok (record { class = class; dictionary = dictionary })
with_dictionary dictionary (Err ended) = Err ended

-- a class that is to be made has no methods yet
abbrev pub IsNew : ClassBody → Type 0
IsNew class = (class.methods ≡ []) × (class.class_methods ≡ [])

module _ {B : Type 0} where
  -- a class is made, and goes into a dictionary, which is written
  abbrev pub made_class : ClassBody → (dictionary : Value) → Run B PrimitiveAnswer
  made_class class dictionary =
      and_then (write_receiver pairs_in dictionary) (λ receiver.
      and_then default_segment (λ segment.
      answers (make_and_enter (class_entry class segment) receiver)))

  -- what is to be made under a superclass, by a name and an Array of names
  abbrev pub wanted_part : (name : Text) (superclass : ℕ) (array dictionary : Value)
      → Run B NewClass
  wanted_part name superclass array dictionary =
      and_then (kind_to_inherit superclass) (λ kind.
      and_then (names_to_add superclass kind array) (λ names.
      give (record {
        class = new_class name superclass kind names;
        dictionary = dictionary;
      })))

  -- a class that was written gets this body, and the receiver is the answer
  abbrev pub class_replaced : (name : ℕ) → Contents → ClassBody → (receiver : Value)
      → Run B PrimitiveAnswer
  class_replaced name object class receiver =
      and_then (replace_body 0 name object (body.Class class)) (λ replaced.
      answer receiver)

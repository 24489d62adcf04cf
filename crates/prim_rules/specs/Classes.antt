-- The rules of classes: new classes, and what a class says of itself.
use Rattle.std.specs.Prelude.{ℕ, ◌+◌, Bool, true, false, ◌&&◌, not, cond, nat_le, bytes_eq, length, drop, List, [], ◌∷◌, map, Option, None, Some, option_map, option_and_then}
use Rattle.std.specs.List.{list_all, list_any, filter, flat_map}
use Rattle.std.specs.Char.{is_ascii_uppercase}
use Rattle.gem_object.specs.texts.Bytes.{Bytes as Text}
use Rattle.gem_object.specs.texts.Names.{is_name}
use Rattle.gem_object.specs.declared.value.Value.{Value}
use Rattle.gem_object.specs.declared.value.Value.TheVariants.{Nil, Sym, Ref}
use Rattle.gem_object.specs.declared.kind.Kind.{Kind}
use Rattle.gem_object.specs.declared.kind.Kind.TheVariants as kind
use Rattle.gem_object.specs.declared.body.Method.{Method}
use Rattle.gem_object.specs.declared.body.ClassBody.{ClassBody}
use Rattle.gem_object.specs.declared.body.Body.TheVariants as body
use Rattle.object_programs.specs.gem_image.Image.{Contents}
use Rattle.object_programs.specs.gem_sound.Kernel.{class_class}
use Rattle.object_programs.specs.gem_sound.Sound.{has_named_slots}
use Rattle.object_programs.specs.gem_sound.declared.limits.TheConstants.{NAMES_LIMIT}
use Rattle.object_programs.specs.Run.{Run, give, and_then}
use Rattle.object_programs.specs.Programs.{need, check, read, known, classes_above}
use Rattle.object_programs.specs.declared.fault.Fault.TheVariants as fault
use Rattle.prim_rules.specs.Parts.{symbol_in, reference_in, slots_in, pairs_in, class_in, three_of, truth, check_kind, named_slots, default_segment, answers}
use Rattle.prim_rules.specs.Receivers.{read_receiver, write_receiver, argument_as, answer, replaced_by, tells, lists}
use Rattle.prim_rules.specs.Making.{Entered, make_and_enter}
use Rattle.prim_rules.specs.declared.answer.PrimitiveAnswer.{PrimitiveAnswer}
use Rattle.object_programs.specs.gem_sound.declared.names.TheConstants.{ARRAY_CLASS, IDENTITY_DICTIONARY_CLASS}

-- a name that a class may have: an identifier with a capital first
abbrev pub begins_with_capital : Text → Bool
begins_with_capital [] = false
begins_with_capital (first ∷ rest) = is_ascii_uppercase first

abbrev pub class_name_by : Text → Option Text
class_name_by name = cond (begins_with_capital name && is_name name) (Some name) None

abbrev pub class_name_in : Value → Option Text
class_name_in value = option_and_then class_name_by (symbol_in value)

-- whether classes may be put under a class of this kind: all but those without instances, segments
-- and users
abbrev pub may_have_subclasses : Kind → Bool
may_have_subclasses kind.None = false
may_have_subclasses kind.Segment = false
may_have_subclasses kind.User = false
may_have_subclasses _ = true

-- the symbols that values are, where each of them is one
abbrev pub symbols_in : List Value → Option (List Text)
symbols_in [] = Some []
symbols_in (value ∷ rest) = option_and_then
    (λ name. option_map (λ names. name ∷ names) (symbols_in rest)) (symbol_in value)

-- whether a name is one of these
abbrev pub is_one_of : List Text → Text → Bool
is_one_of names name = list_any (bytes_eq name) names

-- whether no name stands twice
abbrev pub are_distinct : List Text → Bool
are_distinct [] = true
are_distinct (name ∷ rest) = not (is_one_of rest name) && are_distinct rest

-- whether the instances of a class of this kind may have names of instance variables
abbrev pub may_be_named : Kind → List Text → Bool
may_be_named kind [] = true
may_be_named kind names = has_named_slots kind

-- Whether a class of this kind that inherits names may add these: they are identifiers, each stands
-- once and none is inherited, with those that are they are at most 200, and the kind has names.
abbrev pub may_add_names : Kind → (inherited names : List Text) → Bool
may_add_names kind inherited names = list_all is_name names
    && (are_distinct names
    && (not (list_any (is_one_of inherited) names)
    && (nat_le (length inherited + length names) NAMES_LIMIT
    && may_be_named kind names)))

-- A class that is to be made, and the dictionary that is to have it.
pub record NewClass : Type 0 where
  pub class : ClassBody
  pub dictionary : Value

abbrev pub new_class : (name : Text) (superclass : ℕ) → Kind → (names : List Text) → ClassBody
new_class name superclass kind names = record {
  name = name;
  superclass = Some superclass;
  kind = kind;
  names = names;
  methods = [];
  class_methods = [];
}

-- the object of the class in a segment
abbrev pub class_object : ClassBody → (segment : ℕ) → Contents
class_object class segment =
    record { class = class_class; segment = segment; body = body.Class class }

-- it is made, and goes into the dictionary under its name
abbrev pub class_entry : ClassBody → (segment : ℕ) → Entered
class_entry class segment = record {
  objects_at = λ first. class_object class segment ∷ [];
  chosen = λ first. first;
  key = Sym class.name;
}

-- the name of a superclass, or nil
abbrev pub superclass_value : Option ℕ → Value
superclass_value None = Nil
superclass_value (Some superclass) = Ref superclass

-- whether a method answers this message
abbrev pub has_selector : Text → Method → Bool
has_selector selector method = bytes_eq method.selector selector

-- whether one of the methods of a class's instances does
abbrev pub understands : ClassBody → Text → Bool
understands class selector = list_any (has_selector selector) class.methods

-- the class without that method of its instances
abbrev pub without_method : Text → ClassBody → ClassBody
without_method selector class = record class {
  methods = filter (λ method. not (has_selector selector method)) class.methods;
}

module _ {B : Type 0} where
  -- the kind of a class under which another is to be put, by its fixed part
  abbrev pub kind_to_inherit : (superclass : ℕ) → Run B Kind
  kind_to_inherit superclass =
      and_then (known fault.ArgumentKind superclass) (λ fixed.
      and_then (need fault.ArgumentKind fixed.as_class) (λ part.
      and_then (check fault.ArgumentKind (may_have_subclasses part.kind)) (λ may.
      give part.kind)))

  -- the names of instance variables of a class with those that it inherits, by fixed parts
  abbrev pub all_names : (class : ℕ) → Run B (List Text)
  all_names class = and_then (classes_above class) (λ classes.
      give (flat_map (λ entry. entry.1.names) classes))

  -- the elements of an Array, which is read: the slots after its named ones
  abbrev pub elements_of : Value → Run B (List Value)
  elements_of array =
      and_then (need fault.ArgumentKind (reference_in array)) (λ name.
      and_then (read name) (λ object.
      and_then (need fault.ArgumentKind (slots_in object.body)) (λ slots.
      and_then (named_slots object.class) (λ named.
      give (drop named slots)))))

  -- the names that an Array gives to a class of this kind under that superclass
  abbrev pub names_to_add : (superclass : ℕ) → Kind → Value → Run B (List Text)
  names_to_add superclass kind array =
      and_then (elements_of array) (λ elements.
      and_then (need fault.ArgumentKind (symbols_in elements)) (λ names.
      and_then (all_names superclass) (λ inherited.
      and_then (check fault.ArgumentKind (may_add_names kind inherited names)) (λ may.
      give names))))

  -- What is to be made, by a superclass and three arguments: a name, an Array of names, and an
  -- IdentityDictionary. The kinds of the three come first, then the kind of the superclass, and
  -- then the Array is read.
  abbrev pub wanted_class : (superclass : ℕ) → Value × (Value × Value) → Run B NewClass
  wanted_class superclass wanted =
      and_then (need fault.ArgumentKind (class_name_in wanted.0)) (λ name.
      and_then (check_kind wanted.1.0 ARRAY_CLASS) (λ is_array.
      and_then (check_kind wanted.1.1 IDENTITY_DICTIONARY_CLASS) (λ is_dictionary.
      and_then (kind_to_inherit superclass) (λ kind.
      and_then (names_to_add superclass kind wanted.1.0) (λ names.
      give (record {
        class = new_class name superclass kind names;
        dictionary = wanted.1.1;
      }))))))

  -- 54 `subclass:instVarNames:inDictionary:`, which answers the class
  abbrev pub row_54 : Value → List Value → Run B PrimitiveAnswer
  row_54 receiver arguments =
      and_then (need fault.ArgumentKind (reference_in receiver)) (λ superclass.
      and_then (need fault.ArgumentKind (three_of arguments)) (λ three.
      and_then (wanted_class superclass three) (λ wanted.
      and_then (write_receiver pairs_in wanted.dictionary) (λ dictionary.
      and_then default_segment (λ segment.
      answers (make_and_enter (class_entry wanted.class segment) dictionary))))))

  -- 55 `name` and 56 `superclass`
  abbrev pub row_55 : Value → List Value → Run B PrimitiveAnswer
  row_55 receiver arguments = tells class_in (λ class. Sym class.name) receiver arguments

  abbrev pub row_56 : Value → List Value → Run B PrimitiveAnswer
  row_56 receiver arguments =
      tells class_in (λ class. superclass_value class.superclass) receiver arguments

  -- 57 `instVarNames`, the class's own, and 58 `selectors`, those of its instances
  abbrev pub row_57 : Value → List Value → Run B PrimitiveAnswer
  row_57 receiver arguments = lists class_in (λ class. map Sym class.names) receiver arguments

  abbrev pub row_58 : Value → List Value → Run B PrimitiveAnswer
  row_58 receiver arguments =
      lists class_in (λ class. map (λ method. Sym method.selector) class.methods) receiver arguments

  -- 59 `includesSelector:`
  abbrev pub row_59 : Value → List Value → Run B PrimitiveAnswer
  row_59 receiver arguments =
      and_then (read_receiver class_in receiver) (λ class.
      and_then (argument_as symbol_in arguments) (λ selector.
      answer (truth (understands class.held selector))))

  -- 60 `removeSelector:`, which answers the class: E18 where there is no such method
  abbrev pub row_60 : Value → List Value → Run B PrimitiveAnswer
  row_60 receiver arguments =
      and_then (write_receiver class_in receiver) (λ class.
      and_then (argument_as symbol_in arguments) (λ selector.
      and_then (check fault.KeyAbsent (understands class.held selector)) (λ there.
      replaced_by class (body.Class (without_method selector class.held)) 0 receiver)))

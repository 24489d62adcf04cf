-- What is printed, by what is printed of values and of objects.
use Rattle.std.proofs.Common.{◌≡◌, sym, subst, ℕ, nat_eq, Bool, true, false, cond, List, Option, Result, Ok}
use Rattle.gem_object.specs.texts.Bytes.{Bytes as Text}
use Rattle.gem_object.specs.declared.value.Value.{Value}
use Rattle.gem_object.specs.declared.value.Value.TheVariants as value
use Rattle.gem_object.specs.declared.body.Body.{Body}
use Rattle.gem_object.specs.declared.body.Body.TheVariants as body
use Rattle.gem_image.specs.Image.{Contents}
use Rattle.gem_sound.specs.declared.names.TheConstants.{ARRAY_CLASS}
use Rattle.prim_parts.specs.tree_meaning.Place.{MadeBlock}
use Rattle.object_programs.specs.Run.{Run, give}
use Rattle.object_programs.specs.Programs.{choose}
use Rattle.running_objects.specs.Seen.{Seen}
use Rattle.running_objects.specs.declared.stop.Stop.{Stop}
use Rattle.prim_parts.specs.Does.{Does}
use Rattle.prim_parts.proofs.Does.{does_give, does_then}
use Rattle.prim_rules.specs.Printing.{value_text, element_text, body_text, named_text, array_text, slots_text, whole_text}
use Rattle.prim_classes.specs.Prints.{print_of_value, print_of_object, has_own_text, element_object, whole_object, skimmed, shortened}
use Rattle.prim_rules.specs.Texts.{quoted}
use Rattle.prim_classes.specs.declared.printing.ValuePrint.TheVariants as value_print
use Rattle.prim_classes.specs.declared.printing.ObjectPrint.TheVariants as object_print

given : {text own : Text} (seen : Seen) → value_print.Own text ≡ value_print.Own own
    → Does (give own) seen (Ok text) seen
given {text} {own} seen is =
    let same : own ≡ text = cc in
    let At : Text → Type 0 = λ one. Does (give one) seen (Ok text) seen in
    subst At (sym same) (does_give text seen)

-- a value with a text of its own
pub value_own : (f : Contents → Run MadeBlock Text) (one : Value) (text : Text) (seen : Seen)
    → value_print.Own text ≡ print_of_value one → Does (value_text f one) seen (Ok text) seen
value_own f value.Nil text seen is = given seen is
value_own f value.False text seen is = given seen is
value_own f value.True text seen is = given seen is
value_own f (value.Int number) text seen is = given seen is
value_own f (value.Char code) text seen is = given seen is
value_own f (value.Sym name) text seen is = given seen is
value_own f (value.Ref name) text seen is = absurd (cc)
value_own f (value.Block block) text seen is = given seen is

-- a value that refers to an object
pub value_refers : (one : Value) (name : ℕ) → value_print.Object name ≡ print_of_value one → value.Ref name ≡ one
value_refers value.Nil name is = absurd (cc)
value_refers value.False name is = absurd (cc)
value_refers value.True name is = absurd (cc)
value_refers (value.Int number) name is = absurd (cc)
value_refers (value.Char code) name is = absurd (cc)
value_refers (value.Sym text) name is = absurd (cc)
value_refers (value.Ref other) name is = cc
value_refers (value.Block block) name is = absurd (cc)

object_given : {text own : Text} (seen : Seen) → object_print.Own text ≡ object_print.Own own
    → Does (give own) seen (Ok text) seen
object_given {text} {own} seen is =
    let same : own ≡ text = cc in
    let At : Text → Type 0 = λ one. Does (give one) seen (Ok text) seen in
    subst At (sym same) (does_give text seen)

slots_not_own : (test : Bool) (slots : List Value) (text : Text)
    → object_print.Own text ≡ cond test (object_print.Elements slots) object_print.ByClass → ⊥
slots_not_own true slots text is = cc
slots_not_own false slots text is = cc

-- an object with a text of its own, whatever is printed of slots
pub object_own : (slots_text : ℕ → List Value → Run MadeBlock Text) (class : ℕ) (one : Body) (text : Text) (seen : Seen)
    → object_print.Own text ≡ print_of_object class one → Does (body_text slots_text class one) seen (Ok text) seen
object_own slots_text class (body.Plain slots) text seen is = absurd (slots_not_own (nat_eq class ARRAY_CLASS) slots text is)
object_own slots_text class (body.Bytes bytes) text seen is = object_given seen is
object_own slots_text class (body.Dict pairs) text seen is = absurd (cc)
object_own slots_text class (body.Class found) text seen is = object_given seen is
object_own slots_text class (body.Segment rights) text seen is = absurd (cc)
object_own slots_text class (body.User user) text seen is = absurd (cc)
object_own slots_text class (body.Counter counter) text seen is = absurd (cc)
object_own slots_text class (body.Bag items) text seen is = absurd (cc)
object_own slots_text class (body.RcDict pairs) text seen is = absurd (cc)
object_own slots_text class (body.Queue queue) text seen is = absurd (cc)

module _ {before after : Seen} {result : Result Text Stop} where
  -- an element that is printed by the name of its class
  pub element_slots : (class : ℕ) (one : Body) (elements : List Value)
      → object_print.Elements elements ≡ print_of_object class one → Does (named_text class) before result after
      → Does (body_text (λ class slots. named_text class) class one) before result after
  element_slots class (body.Plain slots) elements is does = does
  element_slots class (body.Bytes bytes) elements is does = absurd (cc)
  element_slots class (body.Dict pairs) elements is does = absurd (cc)
  element_slots class (body.Class found) elements is does = absurd (cc)
  element_slots class (body.Segment rights) elements is does = absurd (cc)
  element_slots class (body.User user) elements is does = absurd (cc)
  element_slots class (body.Counter counter) elements is does = absurd (cc)
  element_slots class (body.Bag items) elements is does = absurd (cc)
  element_slots class (body.RcDict pairs) elements is does = absurd (cc)
  element_slots class (body.Queue queue) elements is does = absurd (cc)

  pub element_by_class : (class : ℕ) (one : Body) → object_print.ByClass ≡ print_of_object class one
      → Does (named_text class) before result after
      → Does (body_text (λ class slots. named_text class) class one) before result after
  element_by_class class (body.Plain slots) is does = does
  element_by_class class (body.Bytes bytes) is does = absurd (cc)
  element_by_class class (body.Dict pairs) is does = does
  element_by_class class (body.Class found) is does = absurd (cc)
  element_by_class class (body.Segment rights) is does = does
  element_by_class class (body.User user) is does = does
  element_by_class class (body.Counter counter) is does = does
  element_by_class class (body.Bag items) is does = does
  element_by_class class (body.RcDict pairs) is does = does
  element_by_class class (body.Queue queue) is does = does

  by_class : (test : Bool) (class : ℕ) (slots : List Value)
      → object_print.ByClass ≡ cond test (object_print.Elements slots) object_print.ByClass
      → Does (named_text class) before result after → Does (choose test (array_text slots) (named_text class)) before result after
  by_class true class slots is does = absurd (cc)
  by_class false class slots is does = does

  -- an object that is printed so
  pub whole_by_class : (class : ℕ) (one : Body) → object_print.ByClass ≡ print_of_object class one
      → Does (named_text class) before result after → Does (body_text slots_text class one) before result after
  whole_by_class class (body.Plain slots) is does = by_class (nat_eq class ARRAY_CLASS) class slots is does
  whole_by_class class (body.Bytes bytes) is does = absurd (cc)
  whole_by_class class (body.Dict pairs) is does = does
  whole_by_class class (body.Class found) is does = absurd (cc)
  whole_by_class class (body.Segment rights) is does = does
  whole_by_class class (body.User user) is does = does
  whole_by_class class (body.Counter counter) is does = does
  whole_by_class class (body.Bag items) is does = does
  whole_by_class class (body.RcDict pairs) is does = does
  whole_by_class class (body.Queue queue) is does = does

module _ {before after : Seen} {result : Result (Option Text) Stop} where
  by_slots : (test : Bool) (class : ℕ) (slots elements : List Value)
      → object_print.Elements elements ≡ cond test (object_print.Elements slots) object_print.ByClass
      → Does (shortened (array_text elements)) before result after
      → Does (shortened (choose test (array_text slots) (named_text class))) before result after
  by_slots true class slots elements is does =
      let same : elements ≡ slots = cc in
      let At : List Value → Type 0 = λ these. Does (shortened (array_text these)) before result after in
      subst At same does
  by_slots false class slots elements is does = absurd (cc)

  -- an Array
  pub whole_slots : (class : ℕ) (one : Body) (elements : List Value)
      → object_print.Elements elements ≡ print_of_object class one → Does (shortened (array_text elements)) before result after
      → Does (shortened (body_text slots_text class one)) before result after
  whole_slots class (body.Plain slots) elements is does = by_slots (nat_eq class ARRAY_CLASS) class slots elements is does
  whole_slots class (body.Bytes bytes) elements is does = absurd (cc)
  whole_slots class (body.Dict pairs) elements is does = absurd (cc)
  whole_slots class (body.Class found) elements is does = absurd (cc)
  whole_slots class (body.Segment rights) elements is does = absurd (cc)
  whole_slots class (body.User user) elements is does = absurd (cc)
  whole_slots class (body.Counter counter) elements is does = absurd (cc)
  whole_slots class (body.Bag items) elements is does = absurd (cc)
  whole_slots class (body.RcDict pairs) elements is does = absurd (cc)
  whole_slots class (body.Queue queue) elements is does = absurd (cc)

module _ {before after : Seen} {result : Result (Unit {0}) Stop} where
  -- the accesses of an element that is printed by the name of its class
  pub skims_class : (class : ℕ) (one : Body) → has_own_text one ≡ false
      → Does (skimmed (named_text class)) before result after
      → Does (skimmed (body_text (λ class slots. named_text class) class one)) before result after
  skims_class class (body.Plain slots) is does = does
  skims_class class (body.Bytes bytes) is does = absurd (cc)
  skims_class class (body.Dict pairs) is does = does
  skims_class class (body.Class found) is does = absurd (cc)
  skims_class class (body.Segment rights) is does = does
  skims_class class (body.User user) is does = does
  skims_class class (body.Counter counter) is does = does
  skims_class class (body.Bag items) is does = does
  skims_class class (body.RcDict pairs) is does = does
  skims_class class (body.Queue queue) is does = does

pub skims_own : (class : ℕ) (one : Body) (seen : Seen) → has_own_text one ≡ true
    → Does (skimmed (body_text (λ class slots. named_text class) class one)) seen (Ok tt) seen
skims_own class (body.Plain slots) seen is = absurd (cc)
skims_own class (body.Bytes bytes) seen is = does_then (does_give (quoted bytes) seen) (does_give tt seen)
skims_own class (body.Dict pairs) seen is = absurd (cc)
skims_own class (body.Class found) seen is = does_then (does_give found.name seen) (does_give tt seen)
skims_own class (body.Segment rights) seen is = absurd (cc)
skims_own class (body.User user) seen is = absurd (cc)
skims_own class (body.Counter counter) seen is = absurd (cc)
skims_own class (body.Bag items) seen is = absurd (cc)
skims_own class (body.RcDict pairs) seen is = absurd (cc)
skims_own class (body.Queue queue) seen is = absurd (cc)

pub value_element : {before after : Seen} {result : Result Text Stop} (one : Value) (name : ℕ)
    → value_print.Object name ≡ print_of_value one → Does (element_object name) before result after
    → Does (element_text one) before result after
value_element {before} {after} {result} one name is does =
    let At : Value → Type 0 = λ other. Does (element_text other) before result after in
    subst At (value_refers one name is) does

pub value_whole : {before after : Seen} {result : Result (Option Text) Stop} (one : Value) (name : ℕ)
    → value_print.Object name ≡ print_of_value one → Does (shortened (whole_object name)) before result after
    → Does (shortened (whole_text one)) before result after
unfolding whole_text
value_whole {before} {after} {result} one name is does =
    let At : Value → Type 0 = λ other. Does (shortened (whole_text other)) before result after in
    subst At (value_refers one name is) does

-- What the rules of primitives share obeys: nothing follows on an access that isn't allowed.
use Rattle.std.proofs.Common.{ℕ, Option, List, [], ◌∷◌}
use Rattle.gem_meaning.specs.texts.Bytes.{Bytes as Text}
use Rattle.gem_meaning.specs.gem_object.declared.value.Value.{Value}
use Rattle.gem_meaning.specs.gem_object.declared.value.Value.TheVariants.{Sym, Ref}
use Rattle.gem_meaning.specs.gem_object.declared.body.Body.{Body}
use Rattle.gem_meaning.specs.gem_object.declared.body.Body.TheVariants as body
use Rattle.gem_meaning.specs.gem_image.Image.{Contents}
use Rattle.gem_meaning.specs.object_programs.Run.{Run}
use Rattle.gem_meaning.specs.object_programs.Programs.{known}
use Rattle.gem_meaning.specs.object_programs.declared.fault.Fault.{Fault}
use Rattle.gem_meaning.specs.object_programs.declared.fault.Fault.TheVariants as fault
use Rattle.gem_meaning.specs.prim_rules.Parts.{class_of_plain, class_of_value, is_kind_of, check_kind, named_slots, default_segment, new_object_in, new_object, answers}
use Rattle.gem_meaning.specs.prim_rules.Receivers.{read_receiver, answer_array}
use Rattle.gem_meaning.specs.prim_rules.Texts.{string_bytes, text_of_receiver, text_of_argument, new_string}
use Rattle.gem_meaning.specs.prim_rules.Printing.{named_text, value_text, body_text, element_text, with_elements, elements_text, slots_text, whole_text, print_text}
use Rattle.history_laws.proofs.Obeys.{Obeys, gives_so, fails_so, then, asks, kinds, whos, makes, chooses, needs, checks, goes_up}

module _ {B : Type 0} where
  pub knows : (error : Fault) (name : ℕ) → Obeys {B = B} (known error name)
  knows error name = then kinds (λ found. needs _ _)

  -- ---- kinds of values

  pub classes : (value : Value) → Obeys {B = B} (class_of_value value)
  classes (Ref name) = then (knows _ _) (λ fixed. gives_so)
  classes value = needs fault.ArgumentKind (class_of_plain value)

  pub kind_told : (value : Value) (class : ℕ) → Obeys {B = B} (is_kind_of value class)
  unfolding is_kind_of
  kind_told value class = then (classes value) (λ own. then (goes_up _) (λ all. gives_so))

  pub kind_checked : (value : Value) (class : ℕ) → Obeys {B = B} (check_kind value class)
  kind_checked value class = then (kind_told _ _) (λ is. checks _ _)

  pub slots_counted : (class : ℕ) → Obeys {B = B} (named_slots class)
  unfolding named_slots
  slots_counted class = then (goes_up _) (λ all. gives_so)

  -- ---- new objects

  pub segments : Obeys {B = B} default_segment
  unfolding default_segment
  segments = then whos (λ user. then asks (λ profile. then (needs _ _) (λ found. gives_so)))

  pub made_in : (segment class : ℕ) (new : Body) → Obeys {B = B} (new_object_in segment class new)
  unfolding new_object_in
  made_in segment class new = then makes (λ name. gives_so)

  pub made : (class : ℕ) (new : Body) → Obeys {B = B} (new_object class new)
  unfolding new_object
  made class new = then segments (λ segment. made_in _ _ _)

  -- ---- how rules begin and end

  pub answers_so : {program : Run B Value} → Obeys program → Obeys (answers program)
  answers_so program = then program (λ value. gives_so)

  pub arrays : (values : List Value) → Obeys {B = B} (answer_array values)
  arrays values = answers_so (made _ _)

  pub read_so : {A : Type 0} (part : Body → Option A) (receiver : Value)
      → Obeys {B = B} (read_receiver part receiver)
  read_so part receiver = then (needs _ _) (λ name. then asks (λ object. then (needs _ _) (λ found.
      gives_so)))

  -- ---- texts

  pub bytes_read : {name : ℕ} → Obeys {B = B} (string_bytes name)
  bytes_read = then asks (λ object. needs _ _)

  pub own_text : (value : Value) → Obeys {B = B} (text_of_receiver value)
  own_text (Sym name) = gives_so
  own_text (Ref name) = bytes_read
  own_text value = fails_so

  pub given_text : (value : Value) → Obeys {B = B} (text_of_argument value)
  given_text (Sym name) = gives_so
  given_text (Ref name) = then (kind_checked _ _) (λ is. bytes_read)
  given_text value = fails_so

  pub strings : (text : Text) → Obeys {B = B} (new_string text)
  strings text = made _ _

  -- ---- print texts

  named : {class : ℕ} → Obeys {B = B} (named_text class)
  named = then asks (λ object. then (needs _ _) (λ found. gives_so))

  value_so : (object_text : Contents → Run B Text) (value : Value)
      → ((object : Contents) → Obeys (object_text object)) → Obeys (value_text object_text value)
  value_so object_text (Ref name) each = then asks each
  value_so object_text value each = gives_so

  body_so : (slots_text : ℕ → List Value → Run B Text) (class : ℕ) (stored : Body)
      → ((slots : List Value) → Obeys (slots_text class slots)) → Obeys (body_text slots_text class stored)
  body_so slots_text class (body.Bytes bytes) each = gives_so
  body_so slots_text class (body.Class found) each = gives_so
  body_so slots_text class (body.Plain slots) each = each slots
  body_so slots_text class stored each = named

  element_so : (value : Value) → Obeys {B = B} (element_text value)
  element_so value = value_so
      (λ object. body_text (λ class slots. named_text class) object.class object.body) value
      (λ object. body_so (λ class slots. named_text class) object.class object.body (λ slots. named))

  more_elements : (so_far : Text) (values : List Value) → Obeys {B = B} (with_elements so_far values)
  more_elements so_far [] = gives_so
  more_elements so_far (first ∷ rest) = then (element_so first) (λ text. more_elements _ rest)

  elements_so : (values : List Value) → Obeys {B = B} (elements_text values)
  elements_so [] = gives_so
  elements_so (first ∷ rest) = then (element_so first) (λ text. more_elements text rest)

  slots_so : (class : ℕ) (slots : List Value) → Obeys {B = B} (slots_text class slots)
  slots_so class slots = chooses _ (then (elements_so slots) (λ text. gives_so)) named

  pub whole_so : (value : Value) → Obeys {B = B} (whole_text value)
  unfolding whole_text
  whole_so value = value_so (λ object. body_text slots_text object.class object.body) value
      (λ object. body_so slots_text object.class object.body (slots_so object.class))

  pub prints : (value : Value) → Obeys {B = B} (print_text value)
  unfolding print_text
  prints value = then (whole_so _) (λ text. then (checks _ _) (λ short. gives_so))

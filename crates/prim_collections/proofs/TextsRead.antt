-- Texts that were read are those that are seen afterwards.
use Rattle.std.proofs.Common.{◌≡◌, ◌∙◌, refl, sym, ap, subst, ℕ, Bool, Option, None, Some, option_and_then, Result, Ok, Err}
use Rattle.gem_object.specs.texts.Bytes.{Bytes as Text}
use Rattle.gem_object.specs.References.{reference_of}
use Rattle.gem_object.specs.declared.value.Value.{Value}
use Rattle.gem_object.specs.declared.value.Value.TheVariants as value
use Rattle.gem_sound.specs.gem_image.Image.{Contents}
use Rattle.object_programs.specs.gem_world.Access.{a_read}
use Rattle.object_programs.specs.gem_sound.declared.names.TheConstants.{STRING_CLASS}
use Rattle.object_programs.specs.Run.{Run, and_then}
use Rattle.object_programs.specs.Programs.{need}
use Rattle.object_programs.specs.declared.fault.Fault.TheVariants as fault
use Rattle.prim_parts.specs.tree_meaning.Place.{MadeBlock}
use Rattle.prim_rules.specs.Parts.{bytes_in, is_under, is_kind_of, check_kind}
use Rattle.prim_rules.specs.Strings.{equal_string}
use Rattle.prim_rules.specs.Texts.{string_bytes, text_of_receiver, text_of_argument}
use Rattle.running_objects.specs.Seen.{Seen, object_at}
use Rattle.running_objects.specs.Acted.{Reached, Accessed, Known}
use Rattle.running_objects.specs.declared.stop.Stop.{Stop}
use Rattle.prim_parts.specs.Does.{Does}
use Rattle.prim_parts.proofs.Does.{does_give, does_fail, does_atom, does_then, does_stop, known_then}
use Rattle.prim_collections.specs.Joins.{Shows}
use Rattle.prim_collections.specs.TextsSeen.{text_seen, text_or_fault, Reads}
use Rattle.prim_collections.proofs.Rows.{does_accessed}

told : (found : Option Text) (seen : Seen) → Does (need fault.ArgumentKind found) seen (text_or_fault found) seen
told None seen = does_fail fault.ArgumentKind seen
told (Some text) seen = does_give text seen

-- the bytes of an object that was read
object_text : (name : ℕ) {before after : Seen} → Reached a_read name before after
    → Does (string_bytes name) before (text_or_fault (text_seen (value.Ref name) after)) after
object_text name {before} {after} reached =
    let At : Option Contents → Type 0 = λ held. Does (string_bytes name) before
    (text_or_fault (option_and_then (λ (object : Contents). bytes_in object.body) held)) after in
    subst At (sym reached.there) (does_accessed reached (told (bytes_in reached.object.body) after))

pub object_read : (name : ℕ) (before after : Seen) (result : Result (Unit {0}) Stop) → Accessed a_read name before result after
    → Reads (string_bytes name) (value.Ref name) before result after
object_read name before after (Ok done) reached = (object_text name reached, reached.same)
object_read name before after (Err ended) acted = does_stop (does_atom acted)

-- a receiver that refers to an object, and one that doesn't
pub receiver_read : (one : Value) (name : ℕ) (before after : Seen) (result : Result (Unit {0}) Stop)
    → Some name ≡ reference_of one → Accessed a_read name before result after
    → Reads (text_of_receiver one) one before result after
receiver_read (value.Ref own) name before after result is accessed =
    let same : name ≡ own = cc in
    let At : ℕ → Type 0 = λ name. Reads (string_bytes name) (value.Ref name) before result after in
    subst At same (object_read name before after result accessed)
receiver_read value.Nil name before after result is accessed = cc
receiver_read value.False name before after result is accessed = cc
receiver_read value.True name before after result is accessed = cc
receiver_read (value.Int number) name before after result is accessed = cc
receiver_read (value.Char code) name before after result is accessed = cc
receiver_read (value.Sym text) name before after result is accessed = cc
receiver_read (value.Block block) name before after result is accessed = cc

pub receiver_plain : (one : Value) (seen : Seen) → None ≡ reference_of one
    → Reads (text_of_receiver one) one seen (Ok tt) seen
receiver_plain (value.Ref own) seen is = cc
receiver_plain (value.Sym text) seen is = (does_give text seen, λ other. refl)
receiver_plain other seen is = (does_fail fault.ArgumentKind seen, λ other. refl)

-- an argument that refers to a String, and one that refers to no object
kind_then_read : (name : ℕ) (before between after : Seen) (result : Result (Unit {0}) Stop)
    → Does (check_kind (value.Ref name) STRING_CLASS) before (Ok tt) between → Shows before between
    → Accessed a_read name between result after → Reads (text_of_argument (value.Ref name)) (value.Ref name) before result after
kind_then_read name before between after (Ok done) checked same reached =
    (does_then checked (object_text name reached), λ other. reached.same other ∙ same other)
kind_then_read name before between after (Err ended) checked same acted = does_then checked (does_stop (does_atom acted))

pub argument_read : (one : Value) (name : ℕ) (before between after : Seen) (result : Result (Unit {0}) Stop)
    → Some name ≡ reference_of one → Does (check_kind (value.Ref name) STRING_CLASS) before (Ok tt) between
    → Shows before between → Accessed a_read name between result after
    → Reads (text_of_argument one) one before result after
argument_read (value.Ref own) name before between after result is checked shows accessed =
    let same : name ≡ own = cc in
    let At : ℕ → Type 0 = λ name. Reads (text_of_argument (value.Ref name)) (value.Ref name) before result after in
    subst At same (kind_then_read name before between after result checked shows accessed)
argument_read value.Nil name before between after result is checked shows accessed = cc
argument_read value.False name before between after result is checked shows accessed = cc
argument_read value.True name before between after result is checked shows accessed = cc
argument_read (value.Int number) name before between after result is checked shows accessed = cc
argument_read (value.Char code) name before between after result is checked shows accessed = cc
argument_read (value.Sym text) name before between after result is checked shows accessed = cc
argument_read (value.Block block) name before between after result is checked shows accessed = cc

pub argument_other : (one : Value) (name : ℕ) (before after : Seen) (ended : Stop) → Some name ≡ reference_of one
    → Does (check_kind (value.Ref name) STRING_CLASS) before (Err ended) after
    → Reads (text_of_argument one) one before (Err ended) after
argument_other (value.Ref own) name before after ended is checked =
    let same : name ≡ own = cc in
    let At : ℕ → Type 0 = λ name. Reads (text_of_argument (value.Ref name)) (value.Ref name) before (Err ended) after in
    subst At same (does_stop checked)
argument_other value.Nil name before after ended is checked = cc
argument_other value.False name before after ended is checked = cc
argument_other value.True name before after ended is checked = cc
argument_other (value.Int number) name before after ended is checked = cc
argument_other (value.Char code) name before after ended is checked = cc
argument_other (value.Sym text) name before after ended is checked = cc
argument_other (value.Block block) name before after ended is checked = cc

pub argument_plain : (one : Value) (seen : Seen) → None ≡ reference_of one
    → Reads (text_of_argument one) one seen (Ok tt) seen
argument_plain (value.Ref own) seen is = cc
argument_plain (value.Sym text) seen is = (does_give text seen, λ other. refl)
argument_plain other seen is = (does_fail fault.ArgumentKind seen, λ other. refl)

-- the class of an object that is there, and whether it is this one or under it
pub kind_told : (name class : ℕ) (held : Contents) {before after : Seen} {is_one : Bool}
    → Known name before (Ok tt) after → Some held ≡ object_at name after
    → Does (is_under held.class class) after (Ok is_one) after
    → Does (is_kind_of (value.Ref name) class) before (Ok is_one) after
unfolding is_kind_of
kind_told name class held {before} {after} asked shown under =
    does_then (known_then asked shown (does_give held.class after)) under

-- the text that is seen after it was read, or the fault where there is none
pub text_told : (program : Run MadeBlock Text) (one : Value) (before after : Seen) (result : Result Text Stop)
    → Reads program one before (Ok tt) after → result ≡ text_or_fault (text_seen one after)
    → Does program before result after
text_told program one before after result read is =
    let At : Result Text Stop → Type 0 = λ found. Does program before found after in
    subst At (sym is) read.0

-- where the same objects are seen, the same texts are
seen_again : (one : Value) (before after : Seen) → Shows before after → text_seen one after ≡ text_seen one before
seen_again (value.Ref name) before after same =
    ap (option_and_then (λ (object : Contents). bytes_in object.body)) (same name)
seen_again (value.Sym text) before after same = refl
seen_again other before after same = refl

pub told_again : (one : Value) (before after : Seen) (text : Text) → Shows before after
    → Ok text ≡ text_or_fault (text_seen one before) → Ok text ≡ text_or_fault (text_seen one after)
told_again one before after text same told = told ∙ ap text_or_fault (sym (seen_again one before after same))

-- a text that is there isn't missed, and is one
pub never_missed : {A : Type 0} (one : Value) (seen : Seen) (text : Text) (ended : Stop) → Ok text ≡ text_or_fault (text_seen one seen)
    → Err ended ≡ text_or_fault (text_seen one seen) → A
never_missed one seen text ended told missed = let never : Ok text ≡ Err ended = told ∙ sym missed in cc

pub one_text : (one : Value) (seen : Seen) (text other : Text) → Ok text ≡ text_or_fault (text_seen one seen)
    → Ok other ≡ text_or_fault (text_seen one seen) → other ≡ text
one_text one seen text other told again = let same : Ok other ≡ Ok text = again ∙ sym told in cc

-- the text of a value, which was read before, and that of another, which is read now
module _ (first second : Value) (before between : Seen) (text : Text) (is : Ok text ≡ text_or_fault (text_seen first before))
    (program : Run MadeBlock Text) (read : Reads program second before (Ok tt) between) where
  pub first_missed : {A : Type 0} (ended : Stop) → Err ended ≡ text_or_fault (text_seen first between) → A
  first_missed ended missed =
      never_missed first between text ended (told_again first before between text read.1 is) missed

  pub second_missed : {A : Type 0} (rest : Text → Run MadeBlock A) (ended : Stop)
      → Err ended ≡ text_or_fault (text_seen second between) → Does (and_then program rest) before (Err ended) between
  second_missed rest ended missed = does_stop (text_told program second before between (Err ended) read missed)

  pub both_read : {A : Type 0} (rest : Text → Text → Run MadeBlock A) {after : Seen} {result : Result A Stop}
      (one other : Text) → Ok one ≡ text_or_fault (text_seen first between)
      → Ok other ≡ text_or_fault (text_seen second between) → Does (rest one other) between result after
      → Does (and_then program (rest text)) before result after
  both_read {A} rest {after} {result} one other told_one told_other does =
      let At : Text → Type 0 = λ given. Does (rest given other) between result after in
      does_then (text_told program second before between (Ok other) read told_other)
      (subst At (one_text first between text one (told_again first before between text read.1 is) told_one) does)

-- what isn't a reference equals no String, and what is is asked for
pub equals_other : (text : Text) (one : Value) (seen : Seen) → None ≡ reference_of one
    → Does (equal_string text one) seen (Ok value.False) seen
equals_other text (value.Ref own) seen is = cc
equals_other text other seen is = does_give value.False seen

pub equals_string : (text : Text) (one : Value) (name : ℕ) {before after : Seen} {result : Result Value Stop}
    → Some name ≡ reference_of one → Does (equal_string text (value.Ref name)) before result after
    → Does (equal_string text one) before result after
equals_string text (value.Ref own) name {before} {after} {result} is does =
    let same : name ≡ own = cc in
    let At : ℕ → Type 0 = λ name. Does (equal_string text (value.Ref name)) before result after in
    subst At same does
equals_string text value.Nil name is does = cc
equals_string text value.False name is does = cc
equals_string text value.True name is does = cc
equals_string text (value.Int number) name is does = cc
equals_string text (value.Char code) name is does = cc
equals_string text (value.Sym other) name is does = cc
equals_string text (value.Block block) name is does = cc

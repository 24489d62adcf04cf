-- What rules for elements of sequences come to, whatever the budget is.
use Rattle.std.specs.Prelude.{◌≡◌, ◌+◌, ◌-◌, ℕ, ℤ, pos, true, false, length, drop, List, Some, Result, Ok, Err}
use Rattle.gem_object.specs.Edits.{slot_at, with_slot}
use Rattle.gem_object.specs.declared.value.Value.{Value}
use Rattle.gem_object.specs.declared.value.Value.TheVariants.{Int}
use Rattle.gem_object.specs.declared.body.Body.TheVariants.{Plain}
use Rattle.running_objects.specs.gem_image.Image.{Contents}
use Rattle.running_objects.specs.gem_world.Access.{a_write}
use Rattle.running_objects.specs.object_programs.Atom.{Tick}
use Rattle.running_objects.specs.object_programs.Budget.{Budget}
use Rattle.running_objects.specs.object_programs.Run.{Run}
use Rattle.running_objects.specs.Acted.{Acted, Reached, with_answer}
use Rattle.running_objects.specs.Seen.{Seen, object_at}
use Rattle.running_objects.specs.declared.stop.Stop.{Stop}
use Rattle.gem_language.specs.tree_meaning.Place.{MadeBlock}
use Rattle.gem_language.specs.prim_rules.Parts.{int_in, reference_in, is_block, is_empty, one_of, named_slots}
use Rattle.gem_language.specs.prim_rules.Indexes.{place_in}
use Rattle.gem_language.specs.prim_rules.declared.answer.PrimitiveAnswer.{PrimitiveAnswer}
use Rattle.gem_language.specs.prim_rules.declared.answer.PrimitiveAnswer.TheVariants.{Gives}
use Rattle.prim_parts.specs.Does.{Does}
use Rattle.prim_parts.specs.Edits.{Replaces}
use Rattle.look_up_cache.specs.Memory.{with_budget}
use Rattle.look_up_cache.specs.declared.elements.Slot.{Slot}
use Rattle.look_up_cache.specs.declared.elements.Put.{Put}

-- The program gives this whatever the budget is, and changes nothing.
abbrev pub AlwaysGives : {A : Type 0} → Run MadeBlock A → A → Seen → Type 0
AlwaysGives program answer seen = (budget : Budget)
    → Does program (with_budget budget seen) (Ok answer) (with_budget budget seen)

-- the end of a primitive that answers a value
abbrev pub ended_by : Result Value Stop → Result PrimitiveAnswer Stop
ended_by (Ok value) = Ok (Gives value)
ended_by (Err ended) = Err ended

-- The object of this name is seen.
pub record IsSeen (object : Contents) (seen : Seen) : Type 0 where
  pub name : ℕ
  pub there : Some object ≡ object_at name seen

-- The object is a sequence, so many of whose slots are named.
pub record IsSequence (object : Contents) (slots : List Value) (named : ℕ) (seen : Seen)
    : Type 0 where
  pub are : object.body ≡ Plain slots
  pub counts : AlwaysGives (named_slots object.class) named seen

-- Its element with this index stands in this slot.
pub record HasElement (object : Contents) (index : Value) (at : ℕ) (seen : Seen) : Type 0 where
  pub slots : List Value
  pub named : ℕ
  pub number : ℤ
  pub place : ℕ
  pub sequence : IsSequence object slots named seen
  pub indexes : int_in index ≡ Some number
  pub placed : place_in (length (drop named slots)) number ≡ Some place
  pub stands : at ≡ named + place

-- `size` has this answer for a sequence.
pub record SizeIs (object : Contents) (arguments : List Value) (value : Value) (seen : Seen)
    : Type 0 where
  pub slots : List Value
  pub named : ℕ
  pub sequence : IsSequence object slots named seen
  pub alone : is_empty arguments ≡ true
  pub counted : value ≡ Int (pos (length slots - named))

-- `at:` has this answer for a sequence.
pub record ElementIs (object : Contents) (arguments : List Value) (value : Value) (seen : Seen)
    : Type 0 where
  pub index : Value
  pub at : ℕ
  pub one : one_of arguments ≡ Some index
  pub element : HasElement object index at seen
  pub held : slot_at at object.body ≡ Some value

-- A write of the object of this name changes nothing, whatever the budget is.
abbrev pub IsWritten : ℕ → Seen → Type 0
IsWritten name seen = (budget : Budget)
    → Reached a_write name (with_budget budget seen) (with_budget budget seen)

-- This value comes into that slot: it is no block.
pub record IsPutOf (slot : Slot) (value : Value) (put : Put) : Type 0 where
  pub slot_is : put.slot ≡ slot
  pub value_is : put.value ≡ value
  pub storable : is_block value ≡ false

-- What is left of a primitive is that a value comes into a slot and is answered, whatever the
-- budget is.
abbrev pub PutIsLeft : Run MadeBlock PrimitiveAnswer → Put → Seen → Type 0
PutIsLeft program put seen = (budget : Budget) (ended : Result (Unit {0}) Stop) (later : Seen)
    → Replaces (λ body. 0) put.slot.name (with_slot put.slot.at put.value)
    (with_budget budget seen) ended later
    → Does program (with_budget budget seen) (ended_by (with_answer put.value ended)) later

-- A unit was taken, and then the value came into the slot, or this ended it.
pub data UnitAndPut (put : Put) (before : Seen) (result : Result (Unit {0}) Stop) (after : Seen)
    : Type 0 where
  no_unit : (ended : Stop) → Acted Tick before (Err ended) after → Err ended ≡ result
      → UnitAndPut put before result after
  one_unit : (between : Seen) (ended : Result (Unit {0}) Stop) → Acted Tick before (Ok tt) between
      → Replaces (λ body. 0) put.slot.name (with_slot put.slot.at put.value) between ended after
      → ended ≡ result → UnitAndPut put before result after

-- The object of this name is seen, and its element with this index stands in this slot of it.
pub record HasSlot (name : ℕ) (index : Value) (slot : Slot) (seen : Seen) : Type 0 where
  pub object : Contents
  pub named : slot.name ≡ name
  pub there : Some object ≡ object_at slot.name seen
  pub element : HasElement object index slot.at seen

-- The receiver is written without a change, and its element with this index stands there.
pub record HasWritten (receiver index : Value) (slot : Slot) (seen : Seen) : Type 0 where
  pub object : Contents
  pub refers : reference_in receiver ≡ Some slot.name
  pub there : Some object ≡ object_at slot.name seen
  pub written : IsWritten slot.name seen
  pub element : HasElement object index slot.at seen

-- Where instance variables stand, where all classes on the way can be read without a change of
-- anything.
use Rattle.std.specs.Prelude.{◌≡◌, ◌++◌, ℕ, suc, Bool, false, List, [], Option, Some, None, Result}
use Rattle.gem_object.specs.texts.Bytes.{Bytes as Text}
use Rattle.gem_object.specs.Edits.{with_slot}
use Rattle.gem_object.specs.declared.value.Value.{Value}
use Rattle.gem_object.specs.declared.body.ClassBody.{ClassBody}
use Rattle.running_objects.specs.gem_world.World.{Setting, World}
use Rattle.running_objects.specs.object_programs.Guard.{chain_limit}
use Rattle.running_objects.specs.Acted.{with_answer}
use Rattle.running_objects.specs.Seen.{Seen}
use Rattle.running_objects.specs.declared.stop.Stop.{Stop}
use Rattle.gem_language.specs.tree_meaning.Names.{index_of}
use Rattle.gem_language.specs.tree_meaning.Place.{Frame}
use Rattle.gem_language.specs.OutOfScope.{write_out_of_scope}
use Rattle.prim_parts.specs.Does.{Does}
use Rattle.prim_parts.specs.Edits.{Replaces}
use Rattle.look_up_cache.specs.Lasting.{Lasting, class_in}
use Rattle.look_up_cache.specs.Calm.{Calm}
use Rattle.look_up_cache.specs.declared.elements.Slot.{Slot}

-- The names of the instance variables of the class of this name, the inherited ones first, where at
-- most so many classes are gone through.
pub data Named (setting : Setting) (world : World) : ℕ → ℕ → List Text → Type 0 where
  no_class : (more name : ℕ) (names : List Text) (part : Lasting) → Calm name part setting world
      → class_in part ≡ None → [] ≡ names → Named setting world (suc more) name names
  last : (more name : ℕ) (names : List Text) (part : Lasting) (class : ClassBody)
      → Calm name part setting world → class_in part ≡ Some class → class.superclass ≡ None
      → class.names ≡ names → Named setting world (suc more) name names
  above : (more name : ℕ) (names : List Text) (part : Lasting) (class : ClassBody)
      (superclass : ℕ) (inherited : List Text) → Calm name part setting world
      → class_in part ≡ Some class → class.superclass ≡ Some superclass
      → Named setting world more superclass inherited → inherited ++ class.names ≡ names
      → Named setting world (suc more) name names

-- In this class and those above it the instance variable of this name stands in this slot, or there
-- is none; and this is told without a change.
pub record Stands (holder : ℕ) (name : Text) (found : Option ℕ) (setting : Setting)
    (world : World) : Type 0 where
  pub names : List Text
  pub named : Named setting world (suc chain_limit) holder names
  pub at : index_of name names ≡ found

-- what an activation knows that has no scope of its own
abbrev pub bare_frame : (receiver : Value) → (holder : ℕ) → (class_side : Bool) → Frame
bare_frame receiver holder class_side = record {
  scopes = [];
  receiver = receiver;
  home = 0;
  holder = holder;
  class_side = class_side;
}

-- A method of this class and side sees an instance variable of this name in this slot.
pub record HasVariable (name : Text) (holder : ℕ) (class_side : Bool) (slot : ℕ) (seen : Seen)
    : Type 0 where
  pub side : class_side ≡ false
  pub stands : Stands holder name (Some slot) seen.setting seen.world

-- What is left of an assignment is that the value comes into a slot.
abbrev pub SlotIsLeft : Text → Frame → Value → Slot → Seen → Type 0
SlotIsLeft name frame value slot seen = (ended : Result (Unit {0}) Stop) (later : Seen)
    → Replaces (λ body. 0) slot.name (with_slot slot.at value) seen ended later
    → Does (write_out_of_scope name frame value) seen (with_answer value ended) later

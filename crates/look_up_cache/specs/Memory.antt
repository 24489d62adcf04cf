-- What holds of all that is remembered.
use Rattle.std.specs.Prelude.{◌≡◌, ℕ, Bool, true, false, List, map, Option, Some, Result, Ok, Err, IfSome, option_and_then, codes}
use Rattle.gem_object.specs.texts.Bytes.{Bytes as Text}
use Rattle.gem_object.specs.declared.value.Value.{Value}
use Rattle.gem_object.specs.declared.value.Value.TheVariants.{Ref}
use Rattle.gem_object.specs.declared.body.MethodCode.{MethodCode}
use Rattle.gem_language.specs.declared.found.Found.{Found}
use Rattle.gem_language.specs.LookUp.{Start}
use Rattle.running_objects.specs.gem_world.Access.{a_read}
use Rattle.running_objects.specs.gem_world.World.{Setting, World}
use Rattle.running_objects.specs.object_programs.Guard.{chain_limit}
use Rattle.running_objects.specs.Acted.{Accessed}
use Rattle.running_objects.specs.Seen.{Seen}
use Rattle.running_objects.specs.declared.stop.Stop.{Stop}
use Rattle.look_up_cache.specs.Calm.{Begins, Writable, plain_start}
use Rattle.look_up_cache.specs.Remembered.{Finds}
use Rattle.look_up_cache.specs.Variables.{Stands}
use Rattle.look_up_cache.specs.Counted.{Counted}
use Rattle.look_up_cache.specs.Answering.{FindsPrimitive}
use Rattle.look_up_cache.specs.Operators.{IsAnswered}
pub use Rattle.look_up_cache.specs.Budgets.{with_budget}
use Rattle.look_up_cache.specs.Table.{held_at, AllHeld}
use Rattle.look_up_cache.specs.declared.element_message.ElementMessage.{ElementMessage}
use Rattle.look_up_cache.specs.declared.element_message.ElementMessage.TheVariants.{At, AtPut}
use Rattle.look_up_cache.specs.declared.memory.Beginning.{Beginning}
use Rattle.look_up_cache.specs.declared.memory.Receiver.{Receiver}
use Rattle.look_up_cache.specs.declared.memory.Entry.{Entry}
use Rattle.look_up_cache.specs.declared.memory.Variable.{Variable}
use Rattle.look_up_cache.specs.declared.memory.Count.{Count}
use Rattle.look_up_cache.specs.declared.memory.Memory.{Memory}

-- where a look-up begins
abbrev pub start_at : Beginning → Start
start_at start = record { class = start.class; class_side = start.class_side }

-- It holds, where this is so.
abbrev pub Where : Bool → Type 0 → Type 0
Where true P = P
Where false P = Unit {0}

-- What is remembered of a receiver is so: look-ups for it begin there, where it was written a
-- further write changes nothing, and where it is told that they find the primitives of elements they
-- do.
pub record IsKnownAs (receiver : Receiver) (setting : Setting) (world : World) : Type 0 where
  pub begins : Begins receiver.name (start_at receiver.start) setting world
  pub writable : Where receiver.written (Writable receiver.name setting world)
  pub reads : Where receiver.reads_elements
      (FindsPrimitive (start_at receiver.start) (codes "at:") 34 setting world)
  pub puts : Where receiver.puts_elements
      (FindsPrimitive (start_at receiver.start) (codes "at:put:") 35 setting world)

-- the same receiver, of which is told that a look-up of this message finds the primitive of elements
abbrev pub flagged : ElementMessage → Receiver → Receiver
flagged At receiver = record receiver { reads_elements = true }
flagged AtPut receiver = record receiver { puts_elements = true }

-- what is remembered of a receiver, and of a look-up, is so
abbrev pub IsMet : Seen → Receiver → Type 0
IsMet seen receiver = IsKnownAs receiver seen.setting seen.world

abbrev pub IsFound : {T : Type 0} → Seen → Entry T → Type 0
IsFound seen entry =
    Finds (start_at entry.start) entry.selector entry.found seen.setting seen.world

-- what is remembered of an instance variable is so
abbrev pub IsPlaced : Seen → Variable → Type 0
IsPlaced seen variable =
    Stands variable.holder variable.name variable.slot seen.setting seen.world

-- what is remembered of the slots that a class names is so
abbrev pub IsCounted : Seen → Count → Type 0
IsCounted seen count = Counted seen.setting seen.world chain_limit count.class count.named

-- the code that is kept beside a method is that of the method
abbrev pub IsCoded : {T : Type 0} → (T → MethodCode → Type 0) → Entry T → Type 0
IsCoded is_of entry = IfSome entry.code (λ code. IfSome entry.found (λ found. is_of code found.code))

-- the same look-up with this code beside it
abbrev pub coded_by : {T : Type 0} → T → Entry T → Entry T
coded_by code entry = record entry { code = Some code }

-- All that is remembered is so.
pub record Holds {T : Type 0} (memory : Memory T) (seen : Seen) : Type 0 where
  pub receivers : AllHeld (IsMet seen) memory.receivers.items
  pub methods : AllHeld (IsFound seen) memory.methods.items
  pub variables : AllHeld (IsPlaced seen) memory.variables.items
  pub counts : AllHeld (IsCounted seen) memory.counts.items
  pub operators : AllHeld (IsAnswered seen) memory.operators.items

-- What is remembered holds, where it isn't forgotten; and the code that is kept is that of its
-- method.
pub record IsKnown {T : Type 0} (is_of : T → MethodCode → Type 0) (held : Bool) (memory : Memory T)
    (seen : Seen) : Type 0 where
  pub holds : Where held (Holds memory seen)
  pub coded : AllHeld (IsCoded is_of) memory.methods.items

-- A look-up for this receiver begins there, and this is told without a change.
abbrev pub BeginsFor : Value → Start → Seen → Type 0
BeginsFor (Ref name) start seen = Begins name start seen.setting seen.world
BeginsFor value start seen = plain_start value ≡ Some start

-- A look-up for this receiver with this selector finds this, and changes nothing.
pub record FindsFor (receiver : Value) (selector : Text) (found : Option Found) (seen : Seen)
    : Type 0 where
  pub start : Start
  pub begins : BeginsFor receiver start seen
  pub finds : Finds start selector found seen.setting seen.world

-- what was found, by the places at which it stands
abbrev pub founds : {T : Type 0} → List (Option (Entry T)) → List (Option Found)
founds places = map (λ held. option_and_then (λ entry. entry.found) held) places

-- the result of a look-up that tells the place of what it found
abbrev pub told_by : List (Option Found) → Result ℕ Stop → Result (Option Found) Stop
told_by found (Ok at) = Ok (held_at found at)
told_by found (Err ended) = Err ended

-- A receiver was read, if it is an object; any other tells its class without an access.
abbrev pub Met : Value → Seen → Result (Unit {0}) Stop → Seen → Type 0
Met (Ref name) before result after = Accessed a_read name before result after
Met value before (Ok met) after = after ≡ before
Met value before (Err ended) after = ⊥

-- What the rules of classes, dictionaries, segments, users and reduced-conflict objects share:
-- their receivers and arguments, and how they end.
use Rattle.std.specs.Prelude.{ℕ, ℤ, ◌-◌, not, length, List, Option, None, Some}
use Rattle.gem_object.specs.rc_queue.Contents.{Contents as QueueContents}
use Rattle.gem_object.specs.declared.value.Value.{Value}
use Rattle.gem_object.specs.declared.body.Body.{Body}
use Rattle.gem_object.specs.declared.body.Body.TheVariants as body
use Rattle.object_programs.specs.gem_update.declared.update.Update.{Update}
use Rattle.object_programs.specs.gem_image.Image.{Contents}
use Rattle.object_programs.specs.Run.{Run, give, and_then}
use Rattle.object_programs.specs.Programs.{need, check, read, write, replace_body, update}
use Rattle.object_programs.specs.declared.fault.Fault.{Fault}
use Rattle.object_programs.specs.declared.fault.Fault.TheVariants as fault
use Rattle.prim_rules.specs.Parts.{reference_in, is_block, one_of, no_arguments, new_object, answers}
use Rattle.prim_rules.specs.declared.answer.PrimitiveAnswer.{PrimitiveAnswer}
use Rattle.prim_rules.specs.declared.answer.PrimitiveAnswer.TheVariants.{Gives}
use Rattle.object_programs.specs.gem_sound.declared.names.TheConstants.{ARRAY_CLASS}

-- what the body of a reduced-conflict object holds, where it is of this kind: the value of a
-- counter, the items of a bag with their occurrences, the pairs of a dictionary, and a queue
abbrev pub counter_in : Body → Option ℤ
counter_in (body.Counter counter) = Some counter.value
counter_in _ = None

abbrev pub occurrences_in : Body → Option (List (Value × ℕ))
occurrences_in (body.Bag items) = Some items
occurrences_in _ = None

abbrev pub shared_pairs_in : Body → Option (List (Value × Value))
shared_pairs_in (body.RcDict pairs) = Some pairs
shared_pairs_in _ = None

abbrev pub queue_in : Body → Option (QueueContents Value)
queue_in (body.Queue queue) = Some queue
queue_in _ = None

-- how many items more there are after a change of a list than before
abbrev pub items_added : {X : Type 0} → (after before : List X) → ℕ
items_added after before = length after - length before

-- A receiver that was read or written: its name, its object, and what the object's body holds.
pub record Receiver (A : Type 0) : Type 0 where
  pub name : ℕ
  pub object : Contents
  pub held : A

module _ {B : Type 0} where
  -- the receiver after an access; E5 where its body isn't of the kind for which the rule is
  abbrev pub received : {A : Type 0} → (ℕ → Run B Contents) → (Body → Option A) → Value
      → Run B (Receiver A)
  received access part receiver =
      and_then (need fault.ArgumentKind (reference_in receiver)) (λ name.
      and_then (access name) (λ object.
      and_then (need fault.ArgumentKind (part object.body)) (λ held.
      give (record { name = name; object = object; held = held }))))

  -- the receiver after a read, and after a write
  abbrev pub read_receiver : {A : Type 0} → (Body → Option A) → Value → Run B (Receiver A)
  read_receiver part receiver = received read part receiver

  abbrev pub write_receiver : {A : Type 0} → (Body → Option A) → Value → Run B (Receiver A)
  write_receiver part receiver = received write part receiver

  -- what the one argument is; E5 where it is of another kind
  abbrev pub argument_as : {A : Type 0} → (Value → Option A) → List Value → Run B A
  argument_as part arguments =
      and_then (need fault.ArgumentKind (one_of arguments)) (λ value.
      need fault.ArgumentKind (part value))

  -- E12, where a value that is to be stored is a block
  abbrev pub check_stored : Value → Run B (Unit {0})
  check_stored value = check fault.BlockStored (not (is_block value))

  -- the rule ends: this value is its answer
  abbrev pub answer : Value → Run B PrimitiveAnswer
  answer value = give (Gives value)

  -- the rule ends: a new Array of these values is its answer
  abbrev pub answer_array : List Value → Run B PrimitiveAnswer
  answer_array values = answers (new_object ARRAY_CLASS (body.Plain values))

  -- the rule ends: a receiver that was written gets this body, which takes so much more space, and
  -- this value is the answer
  abbrev pub replaced_by : {A : Type 0} → Receiver A → Body → (growth : ℕ) → Value
      → Run B PrimitiveAnswer
  replaced_by receiver new growth value =
      and_then (replace_body growth receiver.name receiver.object new) (λ replaced.
      answer value)

  -- the rule ends: a receiver that was written is updated, which takes so much more space, and this
  -- value is the answer; or the error where the update is refused
  abbrev pub updated_by : {A : Type 0} → Receiver A → Update → Fault → (growth : ℕ) → Value
      → Run B PrimitiveAnswer
  updated_by receiver change refusal growth value =
      and_then (update refusal growth receiver.name receiver.object change) (λ updated.
      answer value)

  -- A rule without arguments that reads its receiver, and answers what this says of its body.
  abbrev pub tells : {A : Type 0} → (Body → Option A) → (A → Value)
      → Value → List Value → Run B PrimitiveAnswer
  tells part says receiver arguments =
      and_then (read_receiver part receiver) (λ known.
      and_then (no_arguments arguments) (λ none.
      answer (says known.held)))

  -- The same, where the answer is a new Array of several values.
  abbrev pub lists : {A : Type 0} → (Body → Option A) → (A → List Value)
      → Value → List Value → Run B PrimitiveAnswer
  lists part says receiver arguments =
      and_then (read_receiver part receiver) (λ known.
      and_then (no_arguments arguments) (λ none.
      answer_array (says known.held)))

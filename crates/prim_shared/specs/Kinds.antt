-- What the body of a receiver holds, by the kind of receivers for which a rule is.
use Rattle.std.specs.Prelude.{ℕ, ℤ, List, Option}
use Rattle.gem_object.specs.texts.Bytes.{Bytes as Text}
use Rattle.gem_object.specs.seg_rights.declared.rights.Rights.{Rights}
use Rattle.gem_object.specs.rc_queue.Contents.{Contents as QueueContents}
use Rattle.gem_object.specs.declared.value.Value.{Value}
use Rattle.gem_object.specs.declared.body.UserBody.{UserBody}
use Rattle.gem_object.specs.declared.body.Body.{Body}
use Rattle.prim_rules.specs.Parts.{slots_in, pairs_in, segment_in, user_in}
use Rattle.prim_rules.specs.Receivers.{counter_in, occurrences_in, shared_pairs_in, queue_in}
use Rattle.prim_shared.specs.declared.receivers.ReceiverKind.{ReceiverKind}
use Rattle.prim_shared.specs.declared.receivers.ReceiverKind.TheVariants as kind

-- what bodies of a kind hold
abbrev pub HeldBy : ReceiverKind → Type 0
HeldBy kind.Plain = List Value
HeldBy kind.Dictionary = List (Value × Value)
HeldBy kind.Segment = Rights Text
HeldBy kind.User = UserBody
HeldBy kind.Counter = ℤ
HeldBy kind.Bag = List (Value × ℕ)
HeldBy kind.SharedDictionary = List (Value × Value)
HeldBy kind.Queue = QueueContents Value

-- what a body holds, where it is of the kind
abbrev pub held_in : (one : ReceiverKind) → Body → Option (HeldBy one)
held_in kind.Plain = slots_in
held_in kind.Dictionary = pairs_in
held_in kind.Segment = segment_in
held_in kind.User = user_in
held_in kind.Counter = counter_in
held_in kind.Bag = occurrences_in
held_in kind.SharedDictionary = shared_pairs_in
held_in kind.Queue = queue_in

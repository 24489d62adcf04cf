-- The slots of a body.
use Rattle.std.specs.Prelude.{ℕ, ◌+◌, ◌*◌, length, sum_by}
use Rattle.gem_object.specs.declared.body.ClassBody.{ClassBody}
use Rattle.gem_object.specs.declared.body.Body.{Body}
use Rattle.gem_object.specs.declared.body.Body.TheVariants.{Plain, Bytes, Dict, Class, Segment, User, Counter, Bag, RcDict, Queue}

-- the slots of a class: its names and its methods
abbrev pub class_slots : ClassBody → ℕ
class_slots c = length c.names + length c.methods + length c.class_methods

-- the slots of a body: the values that it holds, the groups of a segment or a user, and for each
-- pair of a dictionary two
abbrev pub slots_of : Body → ℕ
slots_of (Plain values) = length values
slots_of (Bytes _) = 0
slots_of (Dict pairs) = 2 * length pairs
slots_of (Class c) = class_slots c
slots_of (Segment rights) = length rights.groups
slots_of (User user) = length user.groups
slots_of (Counter _) = 0
slots_of (Bag pairs) = sum_by (λ pair. pair.1) pairs
slots_of (RcDict pairs) = 2 * length pairs
slots_of (Queue queue) = length queue.items

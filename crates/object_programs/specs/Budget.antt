-- What a chunk may still use, and what it has written on the transcript.
use Rattle.gem_world.specs.gem_image.Image.{Contents}
use Rattle.std.specs.Prelude.{ℕ, ◌+◌, ◌/◌, Bool, ◌&&◌, nat_le, length, []}
use Rattle.gem_object.specs.texts.Bytes.{Bytes as Text}
use Rattle.gem_object.specs.Slots.{slots_of}
use Rattle.gem_object.specs.Sizes.{fields_size}
use Rattle.gem_object.specs.declared.body.Body.{Body}
use Rattle.gem_object.specs.declared.body.Body.TheVariants.{Bytes, Class, Segment, User}
use Rattle.object_programs.specs.declared.limits.TheConstants.{UNIT_LIMIT, SPACE_LIMIT, SLOTS_LIMIT, BYTES_LIMIT, TRANSCRIPT_LIMIT}

pub record Budget : Type 0 where
  -- the units that are left
  pub units : ℕ
  -- the space that is left, in slots
  pub slots : ℕ
  -- what was written on the transcript
  pub text : Text

-- what a chunk begins with
abbrev pub whole_budget : Budget
whole_budget = record { units = UNIT_LIMIT; slots = SPACE_LIMIT; text = [] }

-- so many bytes take a slot for each 8 that are begun
abbrev pub bytes_cost : ℕ → ℕ
bytes_cost bytes = (bytes + 7) / 8

-- what an object takes that is made: one, and one for each slot; one and its bytes; a class, a
-- segment and a user take one
abbrev pub object_cost : Body → ℕ
object_cost (Bytes bytes) = 1 + bytes_cost (length bytes)
object_cost (Class _) = 1
object_cost (Segment _) = 1
object_cost (User _) = 1
object_cost body = 1 + slots_of body

-- whether an object with this body is within the limits of objects: slots, and bytes where it is
-- stored (17 of them for its class, its segment and the tag of its body)
abbrev pub is_small : Body → Bool
is_small body = nat_le (slots_of body) SLOTS_LIMIT && nat_le (17 + fields_size body) BYTES_LIMIT

abbrev pub is_within_limits : Contents → Bool
is_within_limits object = is_small object.body

-- whether the transcript may have this text more
abbrev pub may_write : Text → Budget → Bool
may_write text budget = nat_le (length budget.text + length text) TRANSCRIPT_LIMIT

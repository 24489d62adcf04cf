-- Changes of one place of a body.
use Rattle.std.specs.Prelude.{ℕ, ◌+◌, length, slice_set, slice_get, take, drop, ◌++◌, ◌∷◌, Option, None}
use Rattle.insertion_map.specs.Pairs.{entry_of, with_pair, without_key}
use Rattle.gem_object.specs.Order.{same_value}
use Rattle.gem_object.specs.declared.value.Value.{Value}
use Rattle.gem_object.specs.declared.body.Body.{Body}
use Rattle.gem_object.specs.declared.body.Body.TheVariants.{Plain, Bytes, Dict}

-- how many slots a Plain body has; others have none of the kind
abbrev pub plain_slots : Body → ℕ
plain_slots (Plain values) = length values
plain_slots _ = 0

-- how many bytes a Bytes body has; others have none
abbrev pub body_bytes : Body → ℕ
body_bytes (Bytes bytes) = length bytes
body_bytes _ = 0

-- the body with this value in that slot
abbrev pub with_slot : ℕ → Value → Body → Body
with_slot at value (Plain values) = Plain (slice_set values at value)
with_slot at value body = body

-- the body with this byte at that place
abbrev pub with_byte : ℕ → ℕ → Body → Body
with_byte at byte (Bytes bytes) = Bytes (slice_set bytes at byte)
with_byte at byte body = body

-- the body with a slot more, which holds this value and stands at that place; the slots from there
-- on move up by one
abbrev pub with_slot_more : ℕ → Value → Body → Body
with_slot_more at value (Plain values) = Plain (take at values ++ value ∷ drop at values)
with_slot_more at value body = body

-- the body without the slot at that place; the slots after it move down by one
abbrev pub without_slot : ℕ → Body → Body
without_slot at (Plain values) = Plain (take at values ++ drop (at + 1) values)
without_slot at body = body

-- what the slot at that place holds
abbrev pub slot_at : ℕ → Body → Option Value
slot_at at (Plain values) = slice_get values at
slot_at at _ = None

-- the value that a dictionary has at the key
abbrev pub value_at : Value → Body → Option Value
value_at key (Dict pairs) = entry_of same_value key pairs
value_at key _ = None

-- the dictionary with this value at the key: a key that is there keeps its place, and a new one
-- comes last
abbrev pub with_value_at : Value → Value → Body → Body
with_value_at key value (Dict pairs) = Dict (with_pair same_value key value pairs)
with_value_at key value body = body

-- the dictionary without the key's pair, if there is one
abbrev pub without_value_at : Value → Body → Body
without_value_at key (Dict pairs) = Dict (without_key same_value key pairs)
without_value_at key body = body

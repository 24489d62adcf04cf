-- What of one pair and one item is tested where the body is stored.
use Rattle.std.specs.Prelude.{ℕ, Bool, not, ◌&&◌}
use Rattle.gem_object.specs.Spelling.{is_key}
use Rattle.gem_object.specs.declared.value.Value.{Value}
use Rattle.object_programs.specs.Spelled.{is_storable, is_storable_pair, is_nil, occurs}

-- a pair of a dictionary: both can be stored, and the key isn't nil
abbrev pub is_entry : Value × Value → Bool
is_entry pair = is_storable_pair pair && not (is_nil pair.0)

-- an item of a bag with how often it occurs
abbrev pub is_item : Value × ℕ → Bool
is_item pair = occurs pair && is_storable pair.0

-- a pair of a reduced-conflict dictionary
abbrev pub is_key_pair : Value × Value → Bool
is_key_pair pair = is_storable_pair pair && is_key pair.0

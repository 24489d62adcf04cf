-- What an update may hold, so that the body that it leaves can be stored.
use Rattle.std.specs.Prelude.{ℕ, IsTrue, All, length}
use Rattle.gem_object.specs.rc_dict.Dict.{key_of}
use Rattle.gem_object.specs.Spelling.{IsStorable, is_key}
use Rattle.gem_object.specs.declared.body.Body.{Body}
use Rattle.gem_object.specs.declared.body.Body.TheVariants as body
use Rattle.gem_update.specs.References.{values_in_update}
use Rattle.gem_update.specs.declared.update.Update.{Update}
use Rattle.gem_update.specs.declared.update.Update.TheVariants.{RcDict}

-- a key of a dictionary's update may be one
abbrev pub HasKey : Update → Type 0
HasKey (RcDict update) = IsTrue (is_key (key_of update))
HasKey _ = Unit {0}

-- an update: its values can be stored, and a dictionary's key may be one
pub record IsStorableUpdate (update : Update) : Type 0 where
  pub values : All IsStorable (values_in_update update)
  pub key : HasKey update

-- the pairs of a bag or a dictionary, or the items of a queue: what a stored body counts in 32 bits
abbrev pub entries_of : Body → ℕ
entries_of (body.Bag pairs) = length pairs
entries_of (body.RcDict pairs) = length pairs
entries_of (body.Queue queue) = length queue.items
entries_of _ = 0
